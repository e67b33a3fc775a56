use Rattle.std.proofs.Common.{◌≡◌, Some, refl, sym, ◌∙◌, rules, true}
use Rattle.code_core.specs.Instruction.{c_of, opcode_of}
use Rattle.frame_calls.specs.Calling.{one_less}
use Rattle.frame_calls.specs.Returning.{by_call}
use Rattle.frame_calls.proofs.Calls.{call_is, less_is}
use Rattle.frame_calls.proofs.returning.wanted_by_call.Goals as goal

pub returns : goal.returns
returns c =
    let yes : c.is_call.result ≡ true = search rules in
    let count : one_less (c_of c.args.i) ≡ Some c.in_ok-count.count = search rules in
    ((λ words pc. by_call (call_is (opcode_of c.args.i) (sym c.is_call.ensures ∙ yes)) c.a.ensures (less_is (c_of c.args.i) c.in_ok-count.count count)), refl)
