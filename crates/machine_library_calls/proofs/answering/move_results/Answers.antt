use Rattle.std.proofs.Common.{rules, ◌≡◌, refl}
use Rattle.machine_library_calls.proofs.answering.move_results.Goals as goal

pub returns-clause-moves : goal.returns-clause-moves
returns-clause-moves c =
    let items : c.in_ok-moved.moved.items ≡ c.args.values.now = search rules in
    (refl, items)
