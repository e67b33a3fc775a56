use Rattle.std.proofs.Common.{◌≡◌, Some, ap, sym, ◌∙◌, arith, rules}
use Rattle.code_core.specs.Instruction.{b_of}
use Rattle.running_frame.specs.Filling.{is_set_list}
use Rattle.running_frame.proofs.filling.is_short_list.Goals as goal

pub returns-in-Some-SetList : goal.returns-in-Some-SetList
returns-in-Some-SetList c = λ yes.
    let one : b_of c.args.i ≡ 1 = search (rules, arith) in
    (ap is_set_list (sym c.opcode.ensures ∙ c.in-Some-SetList.is ∙ ap (λ o. Some o) c.in-Some-SetList.field-0-is), one)
