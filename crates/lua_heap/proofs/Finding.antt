-- Contents among the keys of a set of strings.
use Rattle.std.proofs.Common.{ℕ, zero, suc, ◌≡◌, ◌≤◌, List, [], ◌∷◌, ◌++◌, Some, Ok, Err, inl, inr, refl, sym, ap, ◌∙◌, subst, length, map, take, Bool, true, false}
use Rattle.std.specs.Prelude.{◌||◌, if◌then◌else◌, Result, slice_get, option_map, bytes_eq, IfOk, OnOk, OnErr}
use Rattle.std.specs.List.{list_any, position, AllByRecursion, IsDistinct}
use Rattle.std.specs.declared.vec.Vec.{Vec}
use Rattle.std.proofs.lemmas.List.Quantifiers.{position-Some}
use Rattle.std.proofs.lemmas.Option.{slice_get-get_or, slice_get-map}
use Rattle.std.proofs.lemmas.Slice.Eq.{bytes_eq-Decides}
use Rattle.machine_sound.proofs.Lists.{get_take}
use Rattle.list_laws.proofs.Items.{get_either}
use Rattle.int_core.specs.Value.{greatest_string}
use Rattle.indexmap.specs.IndexSet.{insert_key}
use Rattle.lua_heap.specs.Strings.{interned, AreApart, AreShort}

module _ {A : Type 0} where
  abbrev pub contents : List (Vec ℕ A) → List (List ℕ)
  contents keys = map (λ k. k.items) keys

  pub any_content : (text : List ℕ) (keys : List (Vec ℕ A)) → list_any (λ k. bytes_eq text k.items) keys ≡ list_any (bytes_eq text) (contents keys)
  any_content text [] = refl
  any_content text (k ∷ keys) = ap (λ b. bytes_eq text k.items || b) (any_content text keys)

  pub found_there : (text : List ℕ) (keys : List (Vec ℕ A)) (i : ℕ) → position (λ k. bytes_eq text k.items) keys ≡ Some i → slice_get (contents keys) i ≡ Some text
  found_there text [] i e = absurd (cc)
  found_there text (k ∷ keys) i e =
      let p = position-Some (λ k. bytes_eq text k.items) (k ∷ keys) i k e in
      slice_get-map (λ k. k.items) (k ∷ keys) i ∙ ap (option_map (λ k. k.items)) (slice_get-get_or (k ∷ keys) i k p.0)
      ∙ ap Some (sym ((bytes_eq-Decides text _).0 p.1))

  -- the key at a place, which is equal to one with this text
  pub stored_there : (text : List ℕ) (keys : List (Vec ℕ A)) (k : Vec ℕ A) → k.items ≡ text → (i : ℕ) (x : Vec ℕ A) → slice_get keys i ≡ Some x → bytes_eq k.items x.items ≡ true → slice_get (contents keys) i ≡ Some text
  stored_there text keys k same i x e t =
      slice_get-map (λ k. k.items) keys i ∙ ap (option_map (λ k. k.items)) e
      ∙ ap Some (sym ((bytes_eq-Decides k.items x.items).0 t) ∙ same)

  pub contents_more : (keys : List (Vec ℕ A)) (k : Vec ℕ A) → contents (keys ++ k ∷ []) ≡ contents keys ++ k.items ∷ []
  contents_more [] k = refl
  contents_more (x ∷ keys) k = ap (λ l. x.items ∷ l) (contents_more keys k)

  not_among : (text : List ℕ) (keys : List (Vec ℕ A)) → AllByRecursion (λ y. bytes_eq text y.items ≡ false) keys → (j : ℕ) → slice_get (contents keys) j ≡ Some text → ⊥
  not_among text [] d j e = absurd (cc)
  not_among text (k ∷ keys) d zero e = let t = (bytes_eq-Decides text k.items).1 (cc) in let f = d.0 in absurd (cc)
  not_among text (k ∷ keys) d (suc j) e = not_among text keys d.1 j e

  pub apart : (keys : List (Vec ℕ A)) → IsDistinct (λ a b. bytes_eq a.items b.items) keys → AreApart (contents keys)
  unfolding IsDistinct
  apart [] d i j text e f = absurd (cc)
  apart (k ∷ keys) d zero zero text e f = refl
  apart (k ∷ keys) d zero (suc j) text e f = absurd (not_among k.items keys d.0 j (f ∙ sym e))
  apart (k ∷ keys) d (suc i) zero text e f = absurd (not_among k.items keys d.0 i (e ∙ sym f))
  apart (k ∷ keys) d (suc i) (suc j) text e f = ap suc (apart keys d.1 i j text e f)

-- strings stay short
pub short_more : (texts : List (List ℕ)) (text : List ℕ) → AreShort texts → length text ≤ greatest_string → AreShort (texts ++ text ∷ [])
short_more texts text h l i s e = elim (get_either texts text i s e) [ inl a ↦ h i s a | inr b ↦ subst (λ s. length s ≤ greatest_string) b.1 l ]

short_interned : (texts : List (List ℕ)) (text : List ℕ) → AreShort texts → length text ≤ greatest_string → AreShort (interned texts text)
short_interned texts text h l = by (list_any (bytes_eq text) texts)
  where
    by : (b : Bool) → AreShort (if b then texts else texts ++ text ∷ [])
    by true = h
    by false = short_more texts text h l

pub short_take : (n : ℕ) (texts : List (List ℕ)) → AreShort texts → AreShort (take n texts)
short_take n texts h i s e = h i s (get_take texts n i s e).0

-- what an insertion of a new content comes to, or its refusal
module _ {A : Type 0} (text : List ℕ) (keys new : List (Vec ℕ A)) (k : Vec ℕ A) (same : k.items ≡ text) (fresh : list_any (bytes_eq text) (contents keys) ≡ false) where
  put : new ≡ insert_key (λ a b. bytes_eq a.items b.items) keys k → contents new ≡ contents keys ++ text ∷ []
  put e =
      let f : list_any (λ y. bytes_eq k.items y.items) keys ≡ false = any_content k.items keys ∙ ap (λ t. list_any (bytes_eq t) (contents keys)) same ∙ fresh in
      ap contents (e ∙ ap (λ b. if b then keys else keys ++ k ∷ []) f) ∙ contents_more keys k ∙ ap (λ t. contents keys ++ t ∷ []) same

  pub inserted : {B E : Type 0} (r : Result B E) → IfOk r (λ _. new ≡ insert_key (λ a b. bytes_eq a.items b.items) keys k) → OnOk r (contents new ≡ contents keys ++ text ∷ [])
  inserted (Ok b) h = put h
  inserted (Err e) h = tt

  pub short_inserted : {B E : Type 0} (r : Result B E) → IfOk r (λ _. new ≡ insert_key (λ a b. bytes_eq a.items b.items) keys k) → OnErr r (new ≡ keys) → AreShort (contents keys) → length text ≤ greatest_string → AreShort (contents new)
  short_inserted (Ok b) h n s l = subst AreShort (sym (put h)) (short_more (contents keys) text s l)
  short_inserted (Err e) h n s l = subst (λ keys. AreShort (contents keys)) (sym n) s

-- what an insertion of any content comes to, or its refusal
module _ {A : Type 0} (text : List ℕ) (keys new : List (Vec ℕ A)) (k : Vec ℕ A) (same : k.items ≡ text) where
  pub put_or_there : new ≡ insert_key (λ a b. bytes_eq a.items b.items) keys k → contents new ≡ interned (contents keys) text
  put_or_there e =
      ap contents e
      ∙ by (list_any (λ y. bytes_eq k.items y.items) keys) (list_any (bytes_eq k.items) (contents keys)) (any_content k.items keys)
      ∙ ap (interned (contents keys)) same
    where
      by : (b d : Bool) → b ≡ d → contents (if b then keys else keys ++ k ∷ []) ≡ (if d then contents keys else contents keys ++ k.items ∷ [])
      by true true q = refl
      by true false q = absurd (cc)
      by false true q = absurd (cc)
      by false false q = contents_more keys k

  pub stored_so : {B E : Type 0} (r : Result (ℕ × B) E) → IfOk r (λ told. (x : Vec ℕ A) × (slice_get new told.0 ≡ Some x) × (bytes_eq k.items x.items ≡ true)) → IfOk r (λ told. slice_get (contents new) told.0 ≡ Some text)
  stored_so (Ok told) h = stored_there text new k same told.0 h.0 h.1 h.2
  stored_so (Err e) h = tt

  pub interned_so : {B E : Type 0} (r : Result B E) → IfOk r (λ _. new ≡ insert_key (λ a b. bytes_eq a.items b.items) keys k) → OnOk r (contents new ≡ interned (contents keys) text)
  interned_so (Ok b) h = put_or_there h
  interned_so (Err e) h = tt

  pub short_put : {B E : Type 0} (r : Result B E) → IfOk r (λ _. new ≡ insert_key (λ a b. bytes_eq a.items b.items) keys k) → OnErr r (new ≡ keys) → AreShort (contents keys) → length text ≤ greatest_string → AreShort (contents new)
  short_put (Ok b) h n s l = subst AreShort (sym (put_or_there h)) (short_interned (contents keys) text s l)
  short_put (Err e) h n s l = subst (λ keys. AreShort (contents keys)) (sym n) s
