-- A function that names a variable: it has the variable already, or gets it as its last upvalue.
use Rattle.std.proofs.Common.{rules, arith, ℕ, suc, ◌+◌, ◌-◌, ◌≡◌, ◌≤◌, ◌<◌, Bool, true, false, List, [], ◌∷◌, ◌++◌, Option, Some, None, refl, sym, ap, ap₂, ◌∙◌, length, take, drop, reverse, if◌then◌else◌}
use Rattle.std.specs.Prelude.{slice_index_or, slice_set, position, is_some, option_map, unwrap_or, cond}
use Rattle.std.specs.List.{position_from}
use Rattle.std.specs.Option.{option_map_or}
use Rattle.std.specs.Str.{bytes_eq}
use Rattle.std.proofs.lemmas.Slice.Eq.{bytes_eq-Decides}
use Rattle.std.proofs.lemmas.Iterator.Adapters.{position_from-zero}
use Rattle.std.proofs.lemmas.List.{get_or-drop, get_or-set_same, length-set, take-set, take_all}
use Rattle.scope_core.proofs.Variables.{split_last}
use Rattle.tree_core.specs.declared.name.UpName.{UpName}
use Rattle.scope_core.specs.declared.frame.Source.{Source}
use Rattle.scope_core.specs.declared.variable.Variable.{Variable}
use Rattle.scope_core.specs.Scopes.{Frame, register_of, upvalue_of}
use Rattle.scope_core.specs.Places.{as_byte, up_name}
use Rattle.scope_core.specs.Reaching.{captured_at, declared_at, up_name_at, source_in, reached}

pub absent : {X : Type 0} {x : X} → None ≡ Some x → ⊥
absent e = search rules

found_by : (text : List ℕ) (register place : Option ℕ) (s : Source) → option_map_or (λ r. Some (declared_at r)) register (option_map captured_at place) ≡ Some s → option_map_or (λ r. up_name_at text (declared_at r)) register (record { text = text; in_stack = false; index = as_byte (unwrap_or place 0) }) ≡ up_name_at text s
found_by text (Some r) place s e = ap (λ o. up_name_at text (unwrap_or o s)) e
found_by text None (Some p) s e = ap (λ o. up_name_at text (unwrap_or o s)) e
found_by text None None s e = absurd (absent e)

-- a function that has the variable
pub found_source : (text : List ℕ) (frame : Frame) (frames : List Frame) (s : Source) → source_in text frame ≡ Some s → up_name (frame ∷ frames) text ≡ up_name_at text s
found_source text frame frames s e = found_by text (register_of text frame.variables) (upvalue_of text frame.upvalues) s e

pub found_reached : (text : List ℕ) (frame : Frame) (frames : List Frame) (s : Source) → source_in text frame ≡ Some s → reached (frame ∷ frames) text ≡ frame ∷ frames
found_reached text frame frames s e = ap (λ o. if is_some o then frame ∷ frames else (record frame { upvalues = frame.upvalues ++ up_name (reached frames text) text ∷ [] } ∷ reached frames text)) e

-- a function that gets it
pub missing_reached : (text : List ℕ) (frame : Frame) (frames : List Frame) → source_in text frame ≡ None → reached (frame ∷ frames) text ≡ record frame { upvalues = frame.upvalues ++ up_name (reached frames text) text ∷ [] } ∷ reached frames text
missing_reached text frame frames e = ap (λ o. if is_some o then frame ∷ frames else (record frame { upvalues = frame.upvalues ++ up_name (reached frames text) text ∷ [] } ∷ reached frames text)) e

pub no_register : (register place : Option ℕ) → option_map_or (λ r. Some (declared_at r)) register (option_map captured_at place) ≡ None → (register ≡ None) × (place ≡ None)
no_register (Some r) place e = absurd (absent (sym e))
no_register None (Some p) e = absurd (absent (sym e))
no_register None None e = (refl, refl)

hit : {X : Type 0} (p : X → Bool) (i : ℕ) (xs : List X) (x : X) → position_from p i xs ≡ None → p x ≡ true → position_from p i (xs ++ x ∷ []) ≡ Some (i + length xs)
hit p i [] x none holds = ap (λ b. cond b (Some i) None) holds ∙ ap Some (omega arith)
hit p i (y ∷ ys) x none holds = by_first (p y) none (λ rest. hit p (i + 1) ys x rest holds)
  where
    by_first : (b : Bool) → cond b (Some i) (position_from p (i + 1) ys) ≡ None → (position_from p (i + 1) ys ≡ None → position_from p (i + 1) (ys ++ x ∷ []) ≡ Some (i + 1 + length ys)) → cond b (Some i) (position_from p (i + 1) (ys ++ x ∷ [])) ≡ Some (i + suc (length ys))
    by_first true none go = absurd (absent (sym none))
    by_first false none go = go none ∙ ap Some (omega arith)

pub pushed : {X : Type 0} (p : X → Bool) (xs : List X) (x : X) → position p xs ≡ None → p x ≡ true → position p (xs ++ x ∷ []) ≡ Some (length xs)
pushed p xs x none holds =
    position_from-zero p (xs ++ x ∷ []) ∙ hit p 0 xs x (sym (position_from-zero p xs) ∙ none) holds ∙ ap Some (omega arith)

pub same : (text : List ℕ) → bytes_eq text text ≡ true
same text = (bytes_eq-Decides text text).1 refl

pub missing_source : (text : List ℕ) (frame : Frame) (frames : List Frame) (s : Source) → source_in text frame ≡ None → up_name (record frame { upvalues = frame.upvalues ++ up_name_at text s ∷ [] } ∷ frames) text ≡ up_name_at text (captured_at (length frame.upvalues))
missing_source text frame frames s e =
    let both : (register_of text frame.variables ≡ None) × (upvalue_of text frame.upvalues ≡ None) = no_register (register_of text frame.variables) (upvalue_of text frame.upvalues) e in
    let last : upvalue_of text (frame.upvalues ++ up_name_at text s ∷ []) ≡ Some (length frame.upvalues) = pushed (λ (upvalue : UpName). bytes_eq upvalue.text text) frame.upvalues (up_name_at text s) both.1 (same text) in
    ap₂ (λ register place. option_map_or (λ r. up_name_at text (declared_at r)) register (record { text = text; in_stack = false; index = as_byte (unwrap_or place 0) })) both.0 last

-- All functions, the last of which is first.

pub framed : (f g : Frame) (us : List UpName) → f.variables ≡ g.variables → f.upvalues ≡ us → f ≡ record g { upvalues = us }
framed f g us v u = ap₂ (λ (vs : List Variable) (ws : List UpName). frame_of vs ws) v u
  where
    frame_of : List Variable → List UpName → Frame
    frame_of vs ws = record { variables = vs; upvalues = ws }

same_last : {X : Type 0} (n : ℕ) (xs ys : List X) (d : X) → drop n ys ≡ drop n xs → slice_index_or ys n d ≡ slice_index_or xs n d
same_last n xs ys d e =
    let zero_behind : n + 0 ≡ n = omega arith in
    ap (λ m. slice_index_or ys m d) (sym zero_behind)
    ∙ sym (get_or-drop n ys 0 d)
    ∙ ap (λ rest. slice_index_or rest 0 d) e
    ∙ get_or-drop n xs 0 d
    ∙ ap (λ m. slice_index_or xs m d) zero_behind

set_last : {X : Type 0} (r : ℕ) (ys : List X) (d y : X) → 0 < r → r ≤ length ys → reverse (take r (slice_set ys (r - 1) y)) ≡ y ∷ reverse (take (r - 1) ys)
set_last r ys d y p h =
    let size : r ≤ length (slice_set ys (r - 1) y) = rw (length-set ys (r - 1) y) h in
    split_last r (slice_set ys (r - 1) y) d p size
    ∙ ap₂ (λ z zs. z ∷ zs) (get_or-set_same ys (r - 1) y d (omega (arith, p, h))) (ap reverse (take-set ys (r - 1) y))

-- the last of the first functions gets a variable that the functions outside have by then: xs before, ys with those outside done
pub capture_reached :
    (r : ℕ) (xs ys : List Frame) (d f : Frame) (text : List ℕ) (s : Source)
    → 0 < r → r ≤ length ys → r ≤ length xs → drop (r - 1) ys ≡ drop (r - 1) xs
    → source_in text (slice_index_or xs (r - 1) d) ≡ None
    → f.variables ≡ (slice_index_or ys (r - 1) d).variables
    → f.upvalues ≡ (slice_index_or ys (r - 1) d).upvalues ++ up_name_at text s ∷ []
    → reverse (take (r - 1) ys) ≡ reached (reverse (take (r - 1) xs)) text
    → up_name (reverse (take (r - 1) ys)) text ≡ up_name_at text s
    → reverse (take r (slice_set ys (r - 1) f)) ≡ reached (reverse (take r xs)) text
capture_reached r xs ys d f text s p hy hx e none v u outer named =
    let frame : Frame = slice_index_or xs (r - 1) d in
    let old : slice_index_or ys (r - 1) d ≡ slice_index_or xs (r - 1) d = same_last (r - 1) xs ys d e in
    let now : f ≡ record frame { upvalues = frame.upvalues ++ up_name_at text s ∷ [] } =
    framed f frame (frame.upvalues ++ up_name_at text s ∷ []) (v ∙ ap (λ (g : Frame). g.variables) old) (u ∙ ap (λ (g : Frame). g.upvalues ++ up_name_at text s ∷ []) old) in
    let up : up_name_at text s ≡ up_name (reached (reverse (take (r - 1) xs)) text) text = sym named ∙ ap (λ fs. up_name fs text) outer in
    set_last r ys d f p hy
    ∙ ap₂ (λ (g : Frame) (gs : List Frame). g ∷ gs) (now ∙ ap (λ u. record frame { upvalues = frame.upvalues ++ u ∷ [] }) up) outer
    ∙ sym (ap (λ fs. reached fs text) (split_last r xs d p hx) ∙ missing_reached text frame (reverse (take (r - 1) xs)) none)

pub capture_source :
    (r : ℕ) (xs ys : List Frame) (d f : Frame) (text : List ℕ) (s : Source)
    → 0 < r → r ≤ length ys → drop (r - 1) ys ≡ drop (r - 1) xs
    → source_in text (slice_index_or xs (r - 1) d) ≡ None
    → f.variables ≡ (slice_index_or ys (r - 1) d).variables
    → f.upvalues ≡ (slice_index_or ys (r - 1) d).upvalues ++ up_name_at text s ∷ []
    → up_name (reverse (take r (slice_set ys (r - 1) f))) text ≡ up_name_at text (captured_at (length (slice_index_or ys (r - 1) d).upvalues))
capture_source r xs ys d f text s p hy e none v u =
    let frame : Frame = slice_index_or ys (r - 1) d in
    let none' : source_in text frame ≡ None = ap (source_in text) (same_last (r - 1) xs ys d e) ∙ none in
    ap (λ fs. up_name fs text) (set_last r ys d f p hy ∙ ap (λ (g : Frame). g ∷ reverse (take (r - 1) ys)) (framed f frame (frame.upvalues ++ up_name_at text s ∷ []) v u))
    ∙ missing_source text frame (reverse (take (r - 1) ys)) s none'

-- the last of so many
pub last_here : (xs : List Frame) (n : ℕ) (x : Frame) → n ≡ length xs → x ≡ slice_index_or xs (n - 1) x → x ≡ slice_index_or xs (length xs - 1) x
last_here xs n x size read = read ∙ ap (λ m. slice_index_or xs (m - 1) x) size

-- a change of the last function, which is the first of those around
pub last_changed :
    (xs : List Frame) (d f : Frame) (φ : List Frame → List Frame)
    → 0 < length xs
    → ((rest : List Frame) → f ∷ rest ≡ φ (slice_index_or xs (length xs - 1) d ∷ rest))
    → reverse (slice_set xs (length xs - 1) f) ≡ φ (reverse xs)
last_changed xs d f φ p change =
    let all_old : take (length xs) xs ≡ xs = take_all (length xs) xs (omega arith) in
    let all_new : take (length xs) (slice_set xs (length xs - 1) f) ≡ slice_set xs (length xs - 1) f =
    take_all (length xs) (slice_set xs (length xs - 1) f) (omega (arith, length-set xs (length xs - 1) f)) in
    ap reverse (sym all_new)
    ∙ set_last (length xs) xs d f p (omega arith)
    ∙ change (reverse (take (length xs - 1) xs))
    ∙ ap φ (sym (split_last (length xs) xs d p (omega arith)) ∙ ap reverse all_old)

pub changed_frame : (f g x : Frame) (vs : List Variable) → g ≡ x → f.variables ≡ vs → f.upvalues ≡ g.upvalues → f ≡ record x { variables = vs }
changed_frame f g x vs e v u = framed f (record x { variables = vs }) x.upvalues v (u ∙ ap (λ (h : Frame). h.upvalues) e)
