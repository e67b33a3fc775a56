use Rattle.std.proofs.Common.{◌≡◌, Some, ap, sym, ◌∙◌, arith, rules}
use Rattle.code_core.specs.Instruction.{b_of}
use Rattle.frame_calls.proofs.spreading.is_list_return.Goals as goal

pub returns-in-Some-Return : goal.returns-in-Some-Return
returns-in-Some-Return c = λ yes.
    let none : b_of c.args.i ≡ 0 = search (rules, arith) in
    (sym c.opcode.ensures ∙ c.in-Some-Return.is ∙ ap (λ o. Some o) c.in-Some-Return.field-0-is, none)
