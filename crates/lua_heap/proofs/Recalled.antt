-- A string that was found before.
use Rattle.std.proofs.Common.{◌≡◌, ℕ, zero, suc, List, [], ◌∷◌, ◌++◌, Some, ap, refl, sym, ◌∙◌, Bool, true, false}
use Rattle.std.specs.Prelude.{◌||◌, if◌then◌else◌, bytes_eq, slice_get}
use Rattle.std.specs.List.{list_any}
use Rattle.std.proofs.lemmas.Slice.Eq.{bytes_eq-Decides}
use Rattle.lua_heap.specs.Strings.{interned}

or_so : (b : Bool) {c : Bool} → c ≡ true → (b || c) ≡ true
or_so true h = refl
or_so false h = h

among : (text : List ℕ) (texts : List (List ℕ)) (i : ℕ) → slice_get texts i ≡ Some text → list_any (bytes_eq text) texts ≡ true
among text [] i e = absurd (cc)
among text (t ∷ texts) zero e = let h = (bytes_eq-Decides text t).1 (cc) in ap (λ b. b || list_any (bytes_eq text) texts) h
among text (t ∷ texts) (suc i) e = or_so (bytes_eq text t) (among text texts i e)

-- what stands at a place is among the texts
pub found_so : (text : List ℕ) (texts : List (List ℕ)) (i : ℕ) → slice_get texts i ≡ Some text → true ≡ list_any (bytes_eq text) texts
found_so text texts i e = sym (among text texts i e)

-- what is there is not added
pub there_already : (text : List ℕ) (texts : List (List ℕ)) (i : ℕ) → slice_get texts i ≡ Some text → texts ≡ interned texts text
there_already text texts i e = sym (ap (λ b. if b then texts else texts ++ text ∷ []) (among text texts i e))

-- two texts that are the same
pub same_text : (a b : List ℕ) (found : Bool) → found ≡ bytes_eq a b → found ≡ true → a ≡ b
same_text a b found e f = (bytes_eq-Decides a b).0 (sym e ∙ f)
