use Rattle.std.proofs.Common.{rules, refl, ◌≡◌, length}
use Rattle.std.proofs.lemmas.List.{nil_from_length}
use Rattle.machine_library_calls.proofs.Calling.{comes_since}
use Rattle.machine_library_calls.proofs.calls.call_library.Goals as goal

pub returns-then-not-is_empty-clause-order : goal.returns-then-not-is_empty-clause-order
returns-then-not-is_empty-clause-order c = c.requires.ready.order

pub call_with_arguments-requires : goal.call_with_arguments-requires
call_with_arguments-requires c =
    let none : length c.args.world.now.moving.items ≡ 0 = search rules in
    (refl, record { ready = c.requires.ready; is_here = c.requires.here; runs = c.requires.runs; still = nil_from_length c.args.world.now.moving.items none })

pub give_result-requires : goal.give_result-requires
give_result-requires c =
    let none : length c.args.world.now.moving.items ≡ 0 = search rules in
    (refl, (record { ready = c.requires.ready; is_here = c.requires.here; runs = c.requires.runs; still = nil_from_length c.args.world.now.moving.items none }, c.in-Some.ensures))

pub returns-in_ok-ending-in-Some-clause-comes : goal.returns-in_ok-ending-in-Some-clause-comes
returns-in_ok-ending-in-Some-clause-comes c = comes_since refl c.give_result.ensures.paid c.in_ok-ending-in-Some.ensures.comes
