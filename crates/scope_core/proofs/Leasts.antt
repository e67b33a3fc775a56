-- The least of some violations and one more.
use Rattle.std.proofs.Common.{rules, arith, ◌≡◌, true, false, List, [], ◌∷◌, ◌++◌, sym, subst}
use Rattle.std.specs.Prelude.{slice_index_or}
use Rattle.std.proofs.lemmas.Grind.{common_steps}
use Rattle.std.proofs.lemmas.List.Elements.{All-push, All-nil, Contains-append_left, Contains-push}
use Rattle.scope_core.specs.declared.violation.Violation.{Violation}
use Rattle.scope_core.specs.Least.{IsLeast, IsBefore, is_before}

itself : (v : Violation) → IsBefore v v
itself v = search rules

earlier : (v w : Violation) → is_before v w ≡ true → IsBefore v w
earlier v w e = grind (arith, common_steps)

later : (v w : Violation) → is_before v w ≡ false → IsBefore w v
later v w e = grind (arith, common_steps)

through : (v w u : Violation) → IsBefore v w → IsBefore w u → IsBefore v u
through v w u a b = grind (arith, common_steps)

pub first_met : (all : List Violation) (v : Violation) → all ≡ [] → IsLeast (all ++ v ∷ []) v
first_met all v e = subst (λ xs. IsLeast (xs ++ v ∷ []) v) (sym e) (record { there = Contains-push [] v; first = All-push (IsBefore v) [] v (All-nil (IsBefore v)) (itself v) })

pub earlier_met : (all : List Violation) (v w : Violation) → is_before v w ≡ true → IsLeast all w → IsLeast (all ++ v ∷ []) v
earlier_met all v w e l =
    record { there = Contains-push all v; first = All-push (IsBefore v) all v (λ k d h. through v w (slice_index_or all k d) (earlier v w e) (l.first k d h)) (itself v) }

pub later_met : (all : List Violation) (v w : Violation) → is_before v w ≡ false → IsLeast all w → IsLeast (all ++ v ∷ []) w
later_met all v w e l =
    record { there = Contains-append_left all (v ∷ []) w l.there; first = All-push (IsBefore w) all v l.first (later v w e) }
