use Rattle.std.proofs.Common.{◌≡◌, Some, ap, sym, ◌∙◌, arith, rules}
use Rattle.code_core.specs.Instruction.{c_of}
use Rattle.frame_calls.specs.Listing.{is_list}
use Rattle.frame_calls.proofs.listing.is_list.Goals as goal

pub returns-in-Some-VarArg : goal.returns-in-Some-VarArg
returns-in-Some-VarArg c = λ yes.
    let none : c_of c.args.i ≡ 0 = search (rules, arith) in
    (ap is_list (sym c.opcode.ensures ∙ c.in-Some-VarArg.is ∙ ap (λ o. Some o) c.in-Some-VarArg.field-0-is), none)
