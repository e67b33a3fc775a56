-- Variables kept in the order of their declarations, and seen with the last one first.
use Rattle.std.proofs.Common.{arith, rules, refl, ℕ, zero, suc, ◌-◌, ◌≡◌, ◌≤◌, ◌<◌, true, false, List, [], ◌∷◌, ◌++◌, Some, sym, ap, ap₂, ◌∙◌, length, take, drop, reverse, if◌then◌else◌}
use Rattle.std.specs.Prelude.{slice_index_or}
use Rattle.std.proofs.Math.Seq.{take-suc, drop-append_seam}
use Rattle.std.proofs.lemmas.List.{take-append-drop, reverse-append, length-reverse, length-drop, length-take-le}
use Rattle.scope_core.specs.declared.variable.Variable.{Variable}
use Rattle.std.specs.Prelude.{find, option_map, Option, None, Bool}
use Rattle.std.specs.Option.{option_map_or}
use Rattle.scope_core.specs.Scopes.{Frame, has_name, register_of, is_fixed_variable, names_fixed}

pub reversed_take : {X : Type 0} (n : ℕ) (xs : List X) → reverse (take n xs) ≡ drop (length (reverse xs) - n) (reverse xs)
reversed_take n xs =
    let parts : reverse xs ≡ reverse (drop n xs) ++ reverse (take n xs) = ap reverse (sym (take-append-drop n xs)) ∙ reverse-append (take n xs) (drop n xs) in
    let size : length (reverse xs) - n ≡ length (reverse (drop n xs)) = ap (λ m. m - n) (length-reverse xs) ∙ sym (length-reverse (drop n xs) ∙ length-drop n xs) in
    sym (ap₂ drop size parts ∙ drop-append_seam (reverse (drop n xs)) (reverse (take n xs)))

last-first : {X : Type 0} (n : ℕ) (xs : List X) (d : X) → n < length xs → reverse (take (suc n) xs) ≡ slice_index_or xs n d ∷ reverse (take n xs)
last-first n xs d h = ap reverse (take-suc xs n d h) ∙ reverse-append (take n xs) (slice_index_or xs n d ∷ [])

pub split_last : {X : Type 0} (r : ℕ) (xs : List X) (d : X) → 0 < r → r ≤ length xs → reverse (take r xs) ≡ slice_index_or xs (r - 1) d ∷ reverse (take (r - 1) xs)
split_last zero xs d p h = absurd (omega (arith, p))
split_last (suc n) xs d p h =
    let one : suc n - 1 ≡ n = omega arith in
    last-first n xs d h ∙ ap (λ m. slice_index_or xs m d ∷ reverse (take m xs)) (sym one)

-- one step back through the variables
pub found_last : (r : ℕ) (xs : List Variable) (d : Variable) (text : List ℕ) → 0 < r → r ≤ length xs → has_name text (slice_index_or xs (r - 1) d) ≡ true → register_of text (reverse (take r xs)) ≡ Some (r - 1)
found_last zero xs d text p h e = absurd (omega (arith, p))
found_last (suc n) xs d text p h e =
    let one : suc n - 1 ≡ n = omega arith in
    let named : has_name text (slice_index_or xs n d) ≡ true = rw (sym one) e in
    let size : length (reverse (take n xs)) ≡ n = length-reverse (take n xs) ∙ length-take-le n xs (omega (arith, h)) in
    ap (register_of text) (last-first n xs d h)
    ∙ ap (λ b. if b then Some (length (reverse (take n xs))) else register_of text (reverse (take n xs))) named
    ∙ ap Some (size ∙ sym one)

pub passed_last : (r : ℕ) (xs : List Variable) (d : Variable) (text : List ℕ) → 0 < r → r ≤ length xs → has_name text (slice_index_or xs (r - 1) d) ≡ false → register_of text (reverse (take r xs)) ≡ register_of text (reverse (take (r - 1) xs))
passed_last zero xs d text p h e = absurd (omega (arith, p))
passed_last (suc n) xs d text p h e =
    let one : suc n - 1 ≡ n = omega arith in
    let named : has_name text (slice_index_or xs n d) ≡ false = rw (sym one) e in
    ap (register_of text) (last-first n xs d h)
    ∙ ap (λ b. if b then Some (length (reverse (take n xs))) else register_of text (reverse (take n xs))) named
    ∙ ap (λ m. register_of text (reverse (take m xs))) (sym one)

pub first_named : (r : ℕ) (xs : List Variable) (d : Variable) (text : List ℕ) → 0 < r → r ≤ length xs → has_name text (slice_index_or xs (r - 1) d) ≡ true → find (has_name text) (reverse (take r xs)) ≡ Some (slice_index_or xs (r - 1) d)
first_named r xs d text p h e = rw (split_last r xs d p h, e) refl

pub first_passed : (r : ℕ) (xs : List Variable) (d : Variable) (text : List ℕ) → 0 < r → r ≤ length xs → has_name text (slice_index_or xs (r - 1) d) ≡ false → find (has_name text) (reverse (take r xs)) ≡ find (has_name text) (reverse (take (r - 1) xs))
first_passed r xs d text p h e = rw (split_last r xs d p h, e) refl

decided : (text : List ℕ) (frame : Frame) (frames : List Frame) (fixed : Bool) → option_map is_fixed_variable (find (has_name text) frame.variables) ≡ Some fixed → names_fixed text (frame ∷ frames) ≡ fixed
decided text frame frames fixed e = by (find (has_name text) frame.variables) refl e where
  by : (o : Option Variable) → find (has_name text) frame.variables ≡ o → option_map is_fixed_variable o ≡ Some fixed → option_map_or is_fixed_variable o (names_fixed text frames) ≡ fixed
  by None f g = absurd (search rules)
  by (Some v) f g = search rules

passed_frame : (text : List ℕ) (frame : Frame) (frames : List Frame) → option_map is_fixed_variable (find (has_name text) frame.variables) ≡ None → names_fixed text (frame ∷ frames) ≡ names_fixed text frames
passed_frame text frame frames e = by (find (has_name text) frame.variables) e where
  by : (o : Option Variable) → option_map is_fixed_variable o ≡ None → option_map_or is_fixed_variable o (names_fixed text frames) ≡ names_fixed text frames
  by None g = refl
  by (Some v) g = absurd (search rules)

pub frame_decides : (r : ℕ) (xs : List Frame) (d : Frame) (text : List ℕ) (fixed : Bool) → 0 < r → r ≤ length xs → option_map is_fixed_variable (find (has_name text) (slice_index_or xs (r - 1) d).variables) ≡ Some fixed → names_fixed text (reverse (take r xs)) ≡ fixed
frame_decides r xs d text fixed p h e = ap (names_fixed text) (split_last r xs d p h) ∙ decided text (slice_index_or xs (r - 1) d) (reverse (take (r - 1) xs)) fixed e

pub frame_passed : (r : ℕ) (xs : List Frame) (d : Frame) (text : List ℕ) → 0 < r → r ≤ length xs → option_map is_fixed_variable (find (has_name text) (slice_index_or xs (r - 1) d).variables) ≡ None → names_fixed text (reverse (take r xs)) ≡ names_fixed text (reverse (take (r - 1) xs))
frame_passed r xs d text p h e = ap (names_fixed text) (split_last r xs d p h) ∙ passed_frame text (slice_index_or xs (r - 1) d) (reverse (take (r - 1) xs)) e
