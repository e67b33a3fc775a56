use Rattle.std.proofs.Common.{rules, ◌≡◌, ◌∙◌, ap, take}
use Rattle.code_emitter.proofs.Joining.{listing}
use Rattle.code_emitter.proofs.Patching.{taken_back}
use Rattle.code_emitter.proofs.emitter.Emitter.cut.Goals as goal

pub returns : goal.returns
returns c before code made p e =
    let short : c.truncate.new.self.items ≡ take c.args.place c.self.inside.steps.items = search rules in
    ap (λ xs. listing c.self.inside.constants xs c.self.inside.made) short
    ∙ taken_back c.self.inside.constants c.self.inside.steps.items c.self.inside.made c.args.place before code made p (c.self.view_is ∙ e)
