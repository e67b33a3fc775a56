-- Values in registers that follow each other.
use Rattle.std.proofs.Common.{◌≡◌, ℕ, zero, suc, ◌+◌, ◌<◌, ◌≤◌, Bool, true, false, cond, List, [], ◌∷◌, length, refl, sym, ap, ap₂, ◌∙◌, arith}
use Rattle.std.specs.Prelude.{filter, nat_lt}
use Rattle.int_core.specs.Value.{Value, nth, range, write, write_all}
use Rattle.tree_activation.specs.Work.{Pending}
use Rattle.list_laws.proofs.Values.{nth_write_same, nth_write_other, write_more}
use Rattle.list_laws.proofs.Tests.{lt_true}
use Rattle.exp_laws.proofs.Registers.{marked_in, Ascends}

-- the registers from t on have the first values of a list
abbrev pub Holds : (t count : ℕ) → (vs regs : List Value) → Type 0
Holds t count vs regs = (i : ℕ) → i < count → nth regs (t + i) ≡ nth vs i

write_reaches : (t : ℕ) (w : Value) (regs : List Value) → t < length (write t w regs)
write_reaches zero w [] = omega arith
write_reaches zero w (x ∷ regs) = omega arith
write_reaches (suc t) w [] = let h = write_reaches t w [] in omega (arith, h)
write_reaches (suc t) w (x ∷ regs) = let h = write_reaches t w regs in omega (arith, h)

pub write_all_more : (t : ℕ) (ws regs : List Value) → length regs ≤ length (write_all t ws regs)
write_all_more t [] regs = omega arith
write_all_more t (w ∷ ws) regs = let a = write_more t w regs in let b = write_all_more (suc t) ws (write t w regs) in omega (arith, a, b)

pub write_all_wide : (t : ℕ) (ws regs : List Value) → t ≤ length regs → t + length ws ≤ length (write_all t ws regs)
write_all_wide t [] regs h = omega arith
write_all_wide t (w ∷ ws) regs h =
    let here = write_reaches t w regs in
    let rest = write_all_wide (suc t) ws (write t w regs) (omega (arith, here)) in
    omega (arith, rest)

pub write_all_below : (t : ℕ) (ws regs : List Value) (r : ℕ) → r < t → nth (write_all t ws regs) r ≡ nth regs r
write_all_below t [] regs r lt = refl
write_all_below t (w ∷ ws) regs r lt = write_all_below (suc t) ws (write t w regs) r (omega arith) ∙ nth_write_other t w regs r (λ e. absurd (omega arith))

pub write_all_holds : (t : ℕ) (ws regs : List Value) → Holds t (length ws) ws (write_all t ws regs)
write_all_holds t [] regs i lt = absurd (omega arith)
write_all_holds t (w ∷ ws) regs zero lt =
    let at : t + 0 ≡ t = omega arith in
    ap (nth (write_all (suc t) ws (write t w regs))) at ∙ write_all_below (suc t) ws (write t w regs) t (omega arith) ∙ nth_write_same t w regs
write_all_holds t (w ∷ ws) regs (suc i) lt =
    let at : t + suc i ≡ suc t + i = omega arith in
    ap (nth (write_all (suc t) ws (write t w regs))) at ∙ write_all_holds (suc t) ws (write t w regs) i (omega arith)

pub length_range : (slot count : ℕ) (ws : List Value) → length (range slot count ws) ≡ count
length_range slot zero ws = refl
length_range slot (suc count) ws = ap suc (length_range (suc slot) count ws)

pub nth_range : (slot count : ℕ) (ws : List Value) (i : ℕ) → i < count → nth (range slot count ws) i ≡ nth ws (slot + i)
nth_range slot zero ws i lt = absurd (omega arith)
nth_range slot (suc count) ws zero lt = let at : slot + 0 ≡ slot = omega arith in ap (nth ws) (sym at)
nth_range slot (suc count) ws (suc i) lt = let at : suc slot + i ≡ slot + suc i = omega arith in nth_range (suc slot) count ws i (omega arith) ∙ ap (nth ws) at

-- as many values as are wanted
pub write_range_holds : (t count : ℕ) (ws regs : List Value) → Holds t count ws (write_all t (range 0 count ws) regs)
write_range_holds t count ws regs i lt =
    let size = length_range 0 count ws in
    let at : 0 + i ≡ i = omega arith in
    write_all_holds t (range 0 count ws) regs i (omega (arith, lt, size)) ∙ nth_range 0 count ws i lt ∙ ap (nth ws) at

-- registers that hold a list are read as that list
pub range_held : (t : ℕ) (vs regs : List Value) → Holds t (length vs) vs regs → range t (length vs) regs ≡ vs
range_held t [] regs h = refl
range_held t (v ∷ vs) regs h =
    let here : t + 0 ≡ t = omega arith in
    ap₂ (λ x xs. x ∷ xs) (ap (nth regs) (sym here) ∙ h 0 (omega arith))
    (range_held (suc t) vs regs (λ i lt. let at : suc t + i ≡ t + suc i = omega arith in ap (nth regs) at ∙ h (suc i) (omega arith)))

pub held_first : (t count : ℕ) (vs regs : List Value) → Holds t (suc count) vs regs → nth regs t ≡ nth vs 0
held_first t count vs regs h = let here : t + 0 ≡ t = omega arith in ap (nth regs) (sym here) ∙ h 0 (omega arith)

pub held_one : (t : ℕ) (v : Value) (regs : List Value) → nth regs t ≡ v → Holds t 1 (v ∷ []) regs
held_one t v regs e zero lt = let here : t + 0 ≡ t = omega arith in ap (nth regs) here ∙ e
held_one t v regs e (suc i) lt = absurd (omega arith)

pub held_rest : (t count : ℕ) (v : Value) (vs regs : List Value) → Holds t (suc count) (v ∷ vs) regs → Holds (t + 1) count vs regs
held_rest t count v vs regs h i lt = let at : t + 1 + i ≡ t + suc i = omega arith in ap (nth regs) at ∙ h (suc i) (omega arith)

-- all variables to be closed stand below
pub drops_none : (from : ℕ) (ps : List Pending) (to r : ℕ) → Ascends from ps to → to ≤ r → filter (λ q. nat_lt q r) (marked_in ps) ≡ marked_in ps
drops_none from [] to r h le = refl
drops_none from (p ∷ ps) to r h le =
    let below = h.1.0 in
    let rest = drops_none (suc p.number) ps to r h.1.1 le in
    push p.needed (ap (λ b. cond b (p.number ∷ filter (λ q. nat_lt q r) (marked_in ps)) (filter (λ q. nat_lt q r) (marked_in ps))) (lt_true p.number r (omega (arith, below))) ∙ ap (λ l. p.number ∷ l) rest) rest
  where
    push : (b : Bool) → filter (λ q. nat_lt q r) (p.number ∷ marked_in ps) ≡ p.number ∷ marked_in ps → filter (λ q. nat_lt q r) (marked_in ps) ≡ marked_in ps
        → filter (λ q. nat_lt q r) (cond b (p.number ∷ marked_in ps) (marked_in ps)) ≡ cond b (p.number ∷ marked_in ps) (marked_in ps)
    push true one two = one
    push false one two = two
