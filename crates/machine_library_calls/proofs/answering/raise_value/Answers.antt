use Rattle.std.proofs.Common.{rules, ◌≡◌, [], ◌∷◌, refl}
use Rattle.machine_library_calls.proofs.answering.raise_value.Goals as goal

pub returns-clause-raises : goal.returns-clause-raises
returns-clause-raises c =
    let items : c.in_ok-error.error.items ≡ c.args.value ∷ [] = search rules in
    (refl, items)
