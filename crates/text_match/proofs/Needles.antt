-- The first place at which a text stands.
use Rattle.std.proofs.Common.{◌≡◌, ℕ, zero, suc, ◌+◌, ◌<◌, ◌≤◌, Bool, true, false, List, [], ◌∷◌, length, take, drop, get_or, length-take, length-drop, get_or-take, Option, Some, None, refl, sym, ap, ◌∙◌, arith}
use Rattle.std.specs.Prelude.{nat_eq, slice_get, slice_index}
use Rattle.std.specs.List.{starts_with}
use Rattle.std.specs.Cmp.Lexicographic.{pointwise, same_text, other_text}
use Rattle.std.proofs.lemmas.Bool.{eq-eqb}
use Rattle.std.proofs.lemmas.List.{get_or-drop}
use Rattle.memchr.specs.Find.{OccursAt, FindsNeedle, IsFirstByte, Passes, is_byte}
use Rattle.memchr.proofs.lemmas.MatchLemmas.{OccursAt-part}
use Rattle.library_rows.specs.Searches.{text_from}

-- a text stands at a place of another one
abbrev Stands : List ℕ → List ℕ → ℕ → Type 0
Stands hay t k = take (length t) (drop k hay) ≡ t

occurs : (hay t : List ℕ) (k : ℕ) → k ≤ length hay → Stands hay t k → OccursAt hay t k
occurs hay t k within e = record {
  fits = omega (arith, length-take (length t) (drop k hay), length-drop k hay, ap length e);
  reads = λ j h. sym (get_or-drop k hay j 0) ∙ sym (get_or-take (length t) (drop k hay) j 0 h) ∙ ap (λ bytes. get_or bytes j 0) e;
}

abbrev by_test : List ℕ → ℕ → List ℕ → Bool → Option ℕ
by_test t at rest b = elim b as (λ _. Option ℕ) [ true ↦ Some at | false ↦ text_from t (at + 1) rest ]

stands_here : (t : List ℕ) (at c : ℕ) (rest : List ℕ) → Stands (c ∷ rest) t 0 → text_from t at (c ∷ rest) ≡ Some at
stands_here t at c rest e = by (starts_with nat_eq (c ∷ rest) t) refl
  where
    by : (b : Bool) → b ≡ pointwise nat_eq t (take (length t) (c ∷ rest)) → by_test t at rest b ≡ Some at
    by true is = refl
    by false is = absurd (other_text t (take (length t) (c ∷ rest)) is (sym e))

stands_later : (t : List ℕ) (at c : ℕ) (rest : List ℕ) → ¬ Stands (c ∷ rest) t 0 → text_from t at (c ∷ rest) ≡ text_from t (at + 1) rest
stands_later t at c rest other = by (starts_with nat_eq (c ∷ rest) t) refl
  where
    by : (b : Bool) → b ≡ pointwise nat_eq t (take (length t) (c ∷ rest)) → by_test t at rest b ≡ text_from t (at + 1) rest
    by true is = absurd (other (sym (same_text t (take (length t) (c ∷ rest)) is)))
    by false is = refl

stands_at : (t hay : List ℕ) (at k : ℕ) → k ≤ length hay → Stands hay t k → ((j : ℕ) → j < k → ¬ Stands hay t j) → text_from t at hay ≡ Some (at + k)
stands_at [] [] at zero within e other = ap (λ n. Some n) (omega arith)
stands_at (b ∷ t) [] at zero within e other = absurd (let l : length {A = ℕ} [] ≡ length (b ∷ t) = ap length e in omega (arith, l))
stands_at t [] at (suc k) within e other = absurd (omega arith)
stands_at t (c ∷ rest) at zero within e other = stands_here t at c rest e ∙ ap (λ n. Some n) (omega arith)
stands_at t (c ∷ rest) at (suc k) within e other =
    stands_later t at c rest (other 0 (omega arith)) ∙ stands_at t rest (at + 1) k (omega arith) e (λ j h. other (suc j) (omega arith)) ∙ ap (λ n. Some n) (omega arith)

stands_nowhere : (t hay : List ℕ) (at : ℕ) → ((j : ℕ) → j ≤ length hay → ¬ Stands hay t j) → text_from t at hay ≡ None
stands_nowhere [] [] at other = absurd (other 0 (omega arith) refl)
stands_nowhere (b ∷ t) [] at other = refl
stands_nowhere t (c ∷ rest) at other = stands_later t at c rest (other 0 (omega arith)) ∙ stands_nowhere t rest (at + 1) (λ j h. other (suc j) (omega arith))

pub found_there : (hay t : List ℕ) (at k : ℕ) → FindsNeedle hay t 0 (Some k) → Some (at + k) ≡ text_from t at hay
found_there hay t at k found =
    sym (stands_at t hay at k (let f = found.1.fits in omega (arith, f)) (OccursAt-part hay t k found.1)
    (λ j h e. found.0.before j (omega arith) h (occurs hay t j (let f = found.1.fits in omega (arith, f)) e)))

pub found_nowhere : (hay t : List ℕ) (at : ℕ) → FindsNeedle hay t 0 None → None ≡ text_from t at hay
found_nowhere hay t at none = sym (stands_nowhere t hay at (λ j h e. none j (omega arith) (omega arith) (occurs hay t j h e)))

-- Places of the first byte.

first_is : (t : List ℕ) (first : ℕ) → slice_get t 0 ≡ Some first → (0 < length t) × (slice_index t 0 ≡ first)
first_is [] first e = absurd (cc)
first_is (b ∷ t) first e = let given : Some b ≡ Some first = e in let same : b ≡ first = cc in (omega arith, same)

-- the first byte stands where the text stands
byte_there : (hay t : List ℕ) (first k : ℕ) → slice_get t 0 ≡ Some first → OccursAt hay t k → (k < length hay) × Passes (is_byte first) hay k
byte_there hay t first k e occurs =
    let f = first_is t first e in
    let here : k + 0 ≡ k = omega arith in
    (omega (arith, f.0, occurs.fits), eq-eqb (slice_index hay k) first (ap (slice_index hay) (sym here) ∙ occurs.reads 0 f.0 ∙ f.1))

pub no_byte : (hay t : List ℕ) (first : ℕ) → slice_get t 0 ≡ Some first → IsFirstByte (is_byte first) hay None → FindsNeedle hay t 0 None
no_byte hay t first e none = λ k low high stands. let b = byte_there hay t first k e stands in none k low b.0 b.1

pub byte_first : (hay t : List ℕ) (first k : ℕ) → slice_get t 0 ≡ Some first → IsFirstByte (is_byte first) hay (Some k) → starts_with nat_eq (drop k hay) t ≡ true → FindsNeedle hay t 0 (Some k)
byte_first hay t first k e found stands =
    let within : k ≤ length hay = let h = found.0.high in omega (arith, h) in (
      record {
        low = omega arith;
        high = omega (arith, within);
        before = λ j low high there. found.0.before j low high (byte_there hay t first j e there).1;
      },
      occurs hay t k within (sym (same_text t (take (length t) (drop k hay)) (sym stands))),
    )
