use Rattle.std.proofs.Common.{rules, ◌≡◌, ◌+◌, ◌-◌, length, refl, ◌∙◌}
use Rattle.std.specs.Prelude.{slice_index_or}
use Rattle.code_core.specs.declared.opcode.Opcode.TheVariants.{Jmp}
use Rattle.code_core.specs.Instruction.{op_ax}
use Rattle.code_emitter.specs.Listing.{low}
use Rattle.code_emitter.proofs.Joining.{landed}
use Rattle.code_emitter.proofs.emitter.Emitter.land.Goals as goal

pub returns-then-place-len : goal.returns-then-place-len
returns-then-place-len c before line code made p e =
    let w : c.word_ax.result ≡ low (op_ax Jmp (16777215 + (length c.self.inside.steps.items - c.args.place - 1))) = search rules in
    let is : c.index_mut.result.now ≡ slice_index_or c.self.inside.steps.items c.args.place c.index_mut.result.now = search rules in
    landed c.self.inside.constants c.self.inside.steps.items c.self.inside.made c.args.place c.word_ax.result c.index_mut.result.now.line c.index_mut.result.now before line code made p (c.self.view_is ∙ e) w is refl
