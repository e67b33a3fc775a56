use Rattle.std.proofs.Common.{◌∷◌, [], refl, sym}
use Rattle.machine_core.specs.Moves.{raised}
use Rattle.machine_library_calls.proofs.Calling.{comes_raised, ends_so, given_so, listed, one_is_few, order_raised, two_are_few}
use Rattle.machine_library_calls.proofs.answering.take_answer.Goals as goal

pub take_value-requires : goal.take_value-requires
take_value-requires g c = let v = c.in-One.value in (given_so c.requires.0 (listed c.args.world.now (v ∷ []) (one_is_few v)) refl c.in-One.is refl refl, c.requires.1)

pub take_two-requires : goal.take_two-requires
take_two-requires g c =
    let v = c.in-Two.first in
    let w = c.in-Two.second in
    (given_so c.requires.0 (listed c.args.world.now (v ∷ w ∷ []) (two_are_few v w)) refl c.in-Two.is refl refl, c.requires.1)

pub take_values-requires : goal.take_values-requires
take_values-requires g c = (given_so c.requires.0 c.in-Gives.values (sym c.as_slice.ensures.value) c.in-Gives.is refl refl, c.requires.1)

pub returns-in-One-clause-comes : goal.returns-in-One-clause-comes
returns-in-One-clause-comes g c = c.take_value.ensures.comes

pub returns-in-Two-clause-comes : goal.returns-in-Two-clause-comes
returns-in-Two-clause-comes g c = c.take_two.ensures.comes

pub returns-in-Gives-clause-comes : goal.returns-in-Gives-clause-comes
returns-in-Gives-clause-comes g c = c.take_values.ensures.comes

pub returns-in-Raises-clause-comes : goal.returns-in-Raises-clause-comes
returns-in-Raises-clause-comes g c =
    let V = c.raise_value.new.world in
    let v = c.in-Raises.value in
    ends_so g.begun V (v ∷ []) raised c.raise_value.result c.raise_value.ensures.raises
    (comes_raised c.requires.0 c.loading_is_safe.ensures.safe V v c.in-Raises.is c.raise_value.ensures.rest)

pub returns-in-Raises-clause-order : goal.returns-in-Raises-clause-order
returns-in-Raises-clause-order g c = order_raised c.requires.0 c.loading_is_safe.ensures.safe c.raise_value.new.world c.raise_value.ensures.rest
