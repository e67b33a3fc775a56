use Rattle.std.proofs.Common.{◌≡◌, sym, ◌∙◌, refl, false}
use Rattle.frame_calls.specs.Returning.{by_value, is_operator}
use Rattle.frame_calls.proofs.returning.wanted_by_handler.Goals as goal

pub wanted_by_operator-requires-clause-opcode : goal.wanted_by_operator-requires-clause-opcode
wanted_by_operator-requires-clause-opcode c = sym c.in_ok-opcode.ensures

pub wanted_by_operator-requires-clause-operator : goal.wanted_by_operator-requires-clause-operator
wanted_by_operator-requires-clause-operator c = sym c.is_operator.ensures ∙ c.if-is_operator.true

pub returns : goal.returns
returns c =
    let plain : is_operator c.in_ok-opcode.opcode ≡ false = sym c.is_operator.ensures ∙ c.if-is_operator.false in
    (by_value c.in_ok-opcode.opcode (sym c.in_ok-opcode.ensures) plain c.a.ensures refl, refl)
