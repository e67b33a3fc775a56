use Rattle.std.proofs.Common.{rules, ◌≡◌, [], ◌∷◌, ap, sym, ◌∙◌}
use Rattle.std.specs.Prelude.{map}
use Rattle.lua_heap.specs.Reading.{value as meant}
use Rattle.machine_core.specs.Text.{thrown}
use Rattle.machine_core.specs.FrameRows.{after_leaving}
use Rattle.move_laws.proofs.Rows.{first, ended}
use Rattle.machine_returns.proofs.leaving.leave_with_error.Goals as goal

pub returns-clause-leads : goal.returns-clause-leads
returns-clause-leads c = λ when env x e.
    let given : c.in_ok-given.given.items ≡ c.args.error ∷ [] = search rules in
    let all = ap (λ v. v ∷ []) e ∙ sym (ap (map (meant c.args.world.now.strings)) given) in
    first (λ _ top. after_leaving (thrown x) top) (c.leave_frame-top.ensures.makes env (thrown x) all) ended
