use Rattle.std.proofs.Common.{rules, refl, ◌≡◌, length}
use Rattle.std.proofs.lemmas.List.{nil_from_length}
use Rattle.machine_library_calls.proofs.tails.tail_call_library.Goals as goal

pub begin_tail_call-requires : goal.begin_tail_call-requires
begin_tail_call-requires c =
    let none : length c.args.world.now.moving.items ≡ 0 = search rules in
    (refl, record { ready = c.requires.ready; tail = c.requires.runs; still = nil_from_length c.args.world.now.moving.items none })

pub returns-then-not-is_empty-clause-order : goal.returns-then-not-is_empty-clause-order
returns-then-not-is_empty-clause-order c = c.requires.ready.order
