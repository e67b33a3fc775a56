-- Values that stand for what was written out, also after more strings.
use Rattle.std.proofs.Common.{◌≡◌, ℕ, zero, suc, ◌+◌, ◌<◌, ◌≤◌, List, [], ◌∷◌, ◌++◌, map, length, take, get_or, Some, Bool, true, false, refl, ap, sym, subst, ◌∙◌, append_assoc, arith}
use Rattle.std.specs.Prelude.{slice_get, ◌&&◌}
use Rattle.std.specs.List.{list_all}
use Rattle.std.proofs.lemmas.List.{take_more}
use Rattle.int_core.specs.Value.{Plain, string, Value, known, Shape, shape, nth}
use Rattle.library_arguments.specs.Shapes.{shape_of, shapes_of}
use Rattle.library_arguments.specs.declared.shape.Shape.{Shape as Seen}
use Rattle.list_laws.proofs.Items.{append_nil, get_old}
use Rattle.table_core.specs.declared.value.StrId.{StrId}
use Rattle.table_core.specs.declared.value.Value.{Value as Kept}
use Rattle.table_core.specs.declared.value.Value.TheVariants.{Str}
use Rattle.lua_heap.specs.Reading.{text_or, value}
use Rattle.library_rows.specs.Plainly.{fits_length}
use Rattle.pure_functions.specs.Answers.{Means, MeanAll}

pub named : (texts : List (List ℕ)) (id : StrId) (bytes : List ℕ) → slice_get texts id.0 ≡ Some bytes → Means texts (Str id) (string bytes)
named texts id bytes e = record { means = λ more. ap (λ o. known (string (text_or id.0 o))) (get_old texts more id.0 bytes e) }

pub means_now : (texts : List (List ℕ)) (v : Kept) (p : Plain) → Means texts v p → value texts v ≡ known p
means_now texts v p m = ap (λ texts. value texts v) (sym (append_nil texts)) ∙ m.means []

pub means_later : (texts more : List (List ℕ)) (v : Kept) (p : Plain) → Means texts v p → Means (texts ++ more) v p
means_later texts more v p m = record { means = λ further. ap (λ texts. value texts v) (append_assoc texts more further) ∙ m.means (more ++ further) }

pub all_mean_now : (texts : List (List ℕ)) (vs : List Kept) (ps : List Plain) → MeanAll texts vs ps → map (value texts) vs ≡ map known ps
all_mean_now texts vs ps m = ap (λ texts. map (value texts) vs) (sym (append_nil texts)) ∙ m.means []

pub none_mean : (texts : List (List ℕ)) → MeanAll texts [] []
none_mean texts = record { means = λ more. refl }

pub map_more : {A B : Type 0} (f : A → B) (xs : List A) (x : A) → map f (xs ++ x ∷ []) ≡ map f xs ++ f x ∷ []
map_more f [] x = refl
map_more f (y ∷ xs) x = ap (λ ys. f y ∷ ys) (map_more f xs x)

-- one value more, behind those that were there before its string was added
pub one_more_means : (texts more : List (List ℕ)) (vs : List Kept) (ps : List Plain) (v : Kept) (p : Plain) → MeanAll texts vs ps → Means (texts ++ more) v p → MeanAll (texts ++ more) (vs ++ v ∷ []) (ps ++ p ∷ [])
one_more_means texts more vs ps v p a m = record {
  means = λ further.
      map_more (value (texts ++ more ++ further)) vs v
      ∙ ap (λ ws. ws ++ value (texts ++ more ++ further) v ∷ []) (ap (λ texts. map (value texts) vs) (append_assoc texts more further) ∙ a.means (more ++ further))
      ∙ ap (λ w. map known ps ++ w ∷ []) (m.means further)
      ∙ sym (map_more known ps p);
}

-- the shapes of the arguments, one after another
pub taken_more : (vs : List Value) (at : ℕ) → at < length vs → map shape (take (at + 1) vs) ≡ map shape (take at vs) ++ shape (nth vs at) ∷ []
taken_more vs at h = let e : at + 1 ≡ suc at = omega arith in ap (λ n. map shape (take n vs)) e ∙ go vs at h
  where
    go : (vs : List Value) (at : ℕ) → at < length vs → map shape (take (suc at) vs) ≡ map shape (take at vs) ++ shape (nth vs at) ∷ []
    go [] at h = absurd (omega (arith, h))
    go (v ∷ vs) zero h = refl
    go (v ∷ vs) (suc at) h = ap (λ ss. shape v ∷ ss) (go vs at (omega (arith, h)))

-- a short list is seen place by place

consed : {A : Type 0} {x y : A} {xs ys : List A} → x ≡ y → xs ≡ ys → x ∷ xs ≡ y ∷ ys
consed {y = y} {xs = xs} e f = ap (λ x. x ∷ xs) e ∙ ap (λ xs. y ∷ xs) f

module _ (texts : List (List ℕ)) where
  abbrev seen_at : List Kept → ℕ → Shape
  seen_at arguments at = shape (nth (map (value texts) arguments) at)

  pub one_seen : (arguments : List Kept) (a : Seen) → length arguments ≡ 1 → shape_of a ≡ seen_at arguments 0 → shapes_of (a ∷ []) ≡ map shape (map (value texts) arguments)
  one_seen [] a h e = absurd (omega (arith, h))
  one_seen (v ∷ []) a h e = consed e refl
  one_seen (v ∷ w ∷ vs) a h e = absurd (omega (arith, h))

  pub two_seen : (arguments : List Kept) (a b : Seen) → length arguments ≡ 2 → shape_of a ≡ seen_at arguments 0 → shape_of b ≡ seen_at arguments 1 → shapes_of (a ∷ b ∷ []) ≡ map shape (map (value texts) arguments)
  two_seen [] a b h e f = absurd (omega (arith, h))
  two_seen (v ∷ []) a b h e f = absurd (omega (arith, h))
  two_seen (v ∷ w ∷ []) a b h e f = consed e (consed f refl)
  two_seen (v ∷ w ∷ x ∷ vs) a b h e f = absurd (omega (arith, h))

  pub three_seen : (arguments : List Kept) (a b c : Seen) → length arguments ≡ 3 → shape_of a ≡ seen_at arguments 0 → shape_of b ≡ seen_at arguments 1 → shape_of c ≡ seen_at arguments 2 →
      shapes_of (a ∷ b ∷ c ∷ []) ≡ map shape (map (value texts) arguments)
  three_seen [] a b c h e f g = absurd (omega (arith, h))
  three_seen (v ∷ []) a b c h e f g = absurd (omega (arith, h))
  three_seen (v ∷ w ∷ []) a b c h e f g = absurd (omega (arith, h))
  three_seen (v ∷ w ∷ x ∷ []) a b c h e f g = consed e (consed f (consed g refl))
  three_seen (v ∷ w ∷ x ∷ y ∷ vs) a b c h e f g = absurd (omega (arith, h))

  pub four_seen : (arguments : List Kept) (a b c d : Seen) → length arguments ≡ 4 → shape_of a ≡ seen_at arguments 0 → shape_of b ≡ seen_at arguments 1 → shape_of c ≡ seen_at arguments 2 → shape_of d ≡ seen_at arguments 3 →
      shapes_of (a ∷ b ∷ c ∷ d ∷ []) ≡ map shape (map (value texts) arguments)
  four_seen [] a b c d h e f g k = absurd (omega (arith, h))
  four_seen (v ∷ []) a b c d h e f g k = absurd (omega (arith, h))
  four_seen (v ∷ w ∷ []) a b c d h e f g k = absurd (omega (arith, h))
  four_seen (v ∷ w ∷ x ∷ []) a b c d h e f g k = absurd (omega (arith, h))
  four_seen (v ∷ w ∷ x ∷ y ∷ []) a b c d h e f g k = consed e (consed f (consed g (consed k refl)))
  four_seen (v ∷ w ∷ x ∷ y ∷ z ∷ vs) a b c d h e f g k = absurd (omega (arith, h))

-- written values, one after another

pub first_of : (b c : Bool) → (b && c) ≡ true → b ≡ true
first_of true c h = refl
first_of false c h = absurd (cc)

pub second_of : (b c : Bool) → (b && c) ≡ true → c ≡ true
second_of true c h = h
second_of false c h = absurd (cc)

pub one_fits : {A : Type 0} (f : A → Plain) (xs : List A) (i : ℕ) (x : A) → list_all fits_length (map f xs) ≡ true → i < length xs → x ≡ get_or xs i x → fits_length (f x) ≡ true
one_fits f [] i x h l e = absurd (omega (arith, l))
one_fits f (y ∷ xs) zero x h l e = ap (λ y. fits_length (f y)) e ∙ first_of (fits_length (f y)) (list_all fits_length (map f xs)) h
one_fits f (y ∷ xs) (suc i) x h l e = one_fits f xs i x (second_of (fits_length (f y)) (list_all fits_length (map f xs)) h) (omega (arith, l)) e

pub written_more : {A : Type 0} (f : A → Plain) (xs : List A) (i : ℕ) (x : A) → i < length xs → x ≡ get_or xs i x → map f (take (i + 1) xs) ≡ map f (take i xs) ++ f x ∷ []
written_more f xs i x l e = ap (map f) (take_more xs i x l) ∙ map_more f (take i xs) (get_or xs i x) ∙ ap (λ y. map f (take i xs) ++ f y ∷ []) (sym e)

pub one_made : (old new more : List (List ℕ)) (vs : List Kept) (ps : List Plain) (v : Kept) (p : Plain) → new ≡ old ++ more → MeanAll old vs ps → Means new v p → MeanAll new (vs ++ v ∷ []) (ps ++ p ∷ [])
one_made old new more vs ps v p g a m = subst (λ texts. MeanAll texts (vs ++ v ∷ []) (ps ++ p ∷ [])) (sym g) (one_more_means old more vs ps v p a (subst (λ texts. Means texts v p) g m))
