-- Frames by their numbers from the bottom, and registers of theirs that are written.
use Rattle.std.proofs.Common.{ℕ, zero, suc, ◌<◌, ◌≡◌, ◌≢◌, List, [], ◌∷◌, ◌++◌, length, Option, Some, refl, sym, ap, ◌∙◌, arith}
use Rattle.std.specs.Prelude.{slice_get, slice_set, Bool, true, false, cond, nat_eq}
use Rattle.std.proofs.lemmas.Option.{slice_get_within}
use Rattle.int_core.specs.Value.{Value, bind}
use Rattle.machine_core.specs.World.{Frame, lua_frame, write_in_frame}
use Rattle.list_laws.proofs.Tests.{eq_true, eq_refl}
use Rattle.list_laws.proofs.Items.{get_new}
use Rattle.list_laws.proofs.Ends.{upward, length_upward}

pub get_less : {A : Type 0} (xs : List A) (y : A) (i : ℕ) → i < length xs → slice_get (xs ++ y ∷ []) i ≡ slice_get xs i
get_less [] y i l = absurd (omega arith)
get_less (x ∷ xs) y zero l = refl
get_less (x ∷ xs) y (suc i) l = get_less xs y i (omega arith)

set_new : {A : Type 0} (xs : List A) (y z : A) → slice_set (xs ++ y ∷ []) (length xs) z ≡ xs ++ z ∷ []
set_new [] y z = refl
set_new (x ∷ xs) y z = ap (λ l. x ∷ l) (set_new xs y z)

set_less : {A : Type 0} (xs : List A) (y : A) (i : ℕ) (z : A) → i < length xs → slice_set (xs ++ y ∷ []) i z ≡ slice_set xs i z ++ y ∷ []
set_less [] y i z l = absurd (omega arith)
set_less (x ∷ xs) y zero z l = refl
set_less (x ∷ xs) y (suc i) z l = ap (λ l. x ∷ l) (set_less xs y i z (omega arith))

pub frame_top : (ms : List Frame) (m : Frame) (f : ℕ) → f ≡ length ms → slice_get (upward (m ∷ ms)) f ≡ Some m
frame_top ms m f e = ap (slice_get (upward (m ∷ ms))) (e ∙ sym (length_upward ms)) ∙ get_new (upward ms) m

pub frame_below : (ms : List Frame) (m : Frame) (f : ℕ) → f < length ms → slice_get (upward (m ∷ ms)) f ≡ slice_get (upward ms) f
frame_below ms m f l = let e = length_upward ms in get_less (upward ms) m f (omega (arith, e, l))

abbrev pub value_in : Option Frame → ℕ → Option Value
value_in o r = bind (bind o lua_frame) (λ fr. slice_get fr.own.registers r)

-- a register of a frame by its number
abbrev pub put_frame : ℕ → ℕ → Value → List Frame → List Frame
put_frame f r v [] = []
put_frame f r v (m ∷ ms) = cond (nat_eq f (length ms)) (write_in_frame r v m ∷ ms) (m ∷ put_frame f r v ms)

pub length_put : (f r : ℕ) (v : Value) (ms : List Frame) → length (put_frame f r v ms) ≡ length ms
length_put f r v [] = refl
length_put f r v (m ∷ ms) = by (nat_eq f (length ms)) (length_put f r v ms)
  where
    by : (b : Bool) → length (put_frame f r v ms) ≡ length ms → length (cond b (write_in_frame r v m ∷ ms) (m ∷ put_frame f r v ms)) ≡ suc (length ms)
    by true e = refl
    by false e = ap suc e

pub set_frame : (f r : ℕ) (v : Value) (ms : List Frame) (m : Frame) → slice_get (upward ms) f ≡ Some m → slice_set (upward ms) f (write_in_frame r v m) ≡ upward (put_frame f r v ms)
set_frame f r v [] m e = absurd (cc)
set_frame f r v (m' ∷ ms) m e = by (nat_eq f (length ms)) refl (set_frame f r v ms m)
  where
    by : (b : Bool) → nat_eq f (length ms) ≡ b → (slice_get (upward ms) f ≡ Some m → slice_set (upward ms) f (write_in_frame r v m) ≡ upward (put_frame f r v ms)) → slice_set (upward (m' ∷ ms)) f (write_in_frame r v m) ≡ upward (cond b (write_in_frame r v m' ∷ ms) (m' ∷ put_frame f r v ms))
    by true d ih =
        let z : f ≡ length ms = eq_true f (length ms) d in
        let y : Some m' ≡ Some m = sym (frame_top ms m' f z) ∙ e in
        let x : m' ≡ m = cc in
        ap (λ i. slice_set (upward (m' ∷ ms)) i (write_in_frame r v m)) (z ∙ sym (length_upward ms)) ∙ set_new (upward ms) m' (write_in_frame r v m) ∙ ap (λ m. upward ms ++ write_in_frame r v m ∷ []) (sym x)
    by false d ih =
        let i = slice_get_within (upward (m' ∷ ms)) f m e in
        let j = length_upward (m' ∷ ms) in
        let n : f ≢ length ms = λ z. (let u : true ≡ false = sym (eq_refl (length ms)) ∙ ap (λ x. nat_eq x (length ms)) (sym z) ∙ d in cc) in
        let l : f < length ms = omega (arith, i, j, n) in
        set_less (upward ms) m' f (write_in_frame r v m) (let q = length_upward ms in omega (arith, q, l)) ∙ ap (λ xs. xs ++ m' ∷ []) (ih (sym (frame_below ms m' f l) ∙ e))
