-- Rows of jumps and loops.
use Rattle.std.proofs.Common.{◌≡◌, ℕ, suc, ◌+◌, ◌-◌, ◌<◌, ◌≤◌, List, [], ◌++◌, length, Option, Some, None, refl, ap, sym, ◌∙◌, subst, arith, Bool, true, false, inl, inr}
use Rattle.code_core.specs.declared.instruction.Instruction.{Instruction}
use Rattle.lua_heap.specs.Reading.{value}
use Rattle.machine_view.specs.View.{Around, held, IsAt, Goes}
use Rattle.machine_view.proofs.Places.{register_there, target_there}
use Rattle.machine_view.proofs.Rows.{Comes, reads, writes, goes_to, pays, same_text}
use Rattle.machine_view.proofs.Going.{going, at_next, goes_by, puts}
use Rattle.table_core.specs.declared.value.Value.{Value as Kept}
use Rattle.std.specs.Prelude.{◌⊎◌, ℤ, pos, negsuc, ◌+ℤ◌, ◌-ℤ◌, cond, codes, slice_get, slice_set}
use Rattle.code_core.specs.Instruction.{a_of, bx_of, sj_of}
use Rattle.code_core.specs.declared.opcode.Opcode.{Opcode}
use Rattle.code_core.specs.declared.opcode.Opcode.TheVariants.{Jmp, ForLoop, ForPrep, TForPrep, TForLoop, VarArgPrep}
use Rattle.int_core.specs.Arithmetic.{add, sub}
use Rattle.int_core.specs.Value.{Value, nil, same_integer, same_plain, shape, is_known, is_object}
use Rattle.machine_core.specs.Moves.{place_from}
use Rattle.int_core.specs.Heap.{Heap}
use Rattle.machine_core.specs.World.{Cell}
use Rattle.machine_focus.specs.Focus.{Held}
use Rattle.machine_core.specs.Text.{Arg, arg, Text, go_by, own, quick, pay, read, write_register, raise, closable, mark_pending}
use Rattle.machine_core.specs.InstructionRows.{next, jumps, back, writes_integer, starts, runs, rounds, variable_name}
use Rattle.machine_sound.proofs.Lists.{length_set}
use Rattle.table_core.specs.Value.{value_eq}
use Rattle.table_core.specs.declared.value.Value.TheVariants.{Nil, Int}
use Rattle.machine_arms_numbers.specs.Numbers.{integer_in, is_truthy, leads_back, distance_of}
use Rattle.machine_arms_numbers.proofs.NumberRows.{is_integer}
use Rattle.machine_arms_numbers.proofs.TruthRows.{shape_truth}

-- a place that is reached by a sum of integers
place_is : (pc to : ℕ) (d z : ℤ) → pos pc +ℤ d ≡ z → z ≡ pos to → place_from pc d ≡ Some to
place_is pc to d z e f = ap (λ (z : ℤ). elim z as (λ _. Option ℕ) [ pos n ↦ Some n | negsuc _ ↦ None ]) (e ∙ f)

place_below : (m n k l : ℕ) → pos m ≡ pos n → n < l → k ≡ m → k < l
place_below m n k l e f g = grind arith

-- a jump

pub jump_place : {w : Instruction} {ws : List Instruction} {ks r : List Kept} {pc : ℕ} → IsAt Jmp w ws ks r pc → (to : ℕ) × (pos (pc + 1) +ℤ sj_of w ≡ pos to) × (to < length ws)
jump_place h = target_there h _ refl

forward_sum : (m n d : ℕ) → pos m +ℤ pos n ≡ pos d → d ≡ m + n
forward_sum m n d e = grind arith

back_there : (m n d : ℕ) → pos m +ℤ negsuc n ≡ pos d → (suc n ≤ m) × (m - suc n ≡ d)
back_there m n d e = (grind arith, grind arith)

back_at : (pc n to : ℕ) → suc n ≤ pc + 1 → to ≡ pc + 1 - suc n → pos pc +ℤ (negsuc n +ℤ pos 1) ≡ pos to
back_at pc n to l e = grind arith

forward_there : {w : Instruction} {ws : List Instruction} {ks r : List Kept} {pc : ℕ} (n : ℕ) → IsAt Jmp w ws ks r pc → sj_of w ≡ pos n → pc + (n + 1) < length ws
forward_there {ws = ws} {pc = pc} n h e =
    let x = jump_place h in
    let q = forward_sum (pc + 1) n x.0 (ap (λ z. pos (pc + 1) +ℤ z) (sym e) ∙ x.1) in
    subst (λ d. d < length ws) (let y : x.0 ≡ pc + (n + 1) = omega (arith, q) in y) x.2

jump_on : {w : Instruction} {ws : List Instruction} {ks r : List Kept} {pc to fuel : ℕ} (n : ℕ) → IsAt Jmp w ws ks r pc → sj_of w ≡ pos n → to ≡ pc + (n + 1) → Goes Jmp w ws ks r pc fuel r to fuel
jump_on {w = w} {ws = ws} {r = r} {pc = pc} {to = to} {fuel = fuel} n h e p =
    let l : to < length ws = subst (λ to. to < length ws) (sym p) (forward_there n h e) in
    going l (λ g heap cells c. same_text (ap jumps e) (goes_by g heap cells r pc fuel to (n + 1) c l p))

jump_back : {w : Instruction} {ws : List Instruction} {ks r : List Kept} {pc to fuel left : ℕ} (n : ℕ) → IsAt Jmp w ws ks r pc → sj_of w ≡ negsuc n → to ≡ pc + 1 - suc n → fuel ≡ suc left → Goes Jmp w ws ks r pc fuel r to left
jump_back {w = w} {ws = ws} {r = r} {pc = pc} {to = to} {fuel = fuel} {left = left} n h e p f =
    let x = jump_place h in
    let b = back_there (pc + 1) n x.0 (ap (λ z. pos (pc + 1) +ℤ z) (sym e) ∙ x.1) in
    let l : to < length ws = subst (λ to. to < length ws) (sym b.1 ∙ sym p) x.2 in
    going l (λ g heap cells c. same_text (ap jumps e) (pays g heap cells r pc fuel left f (goes_to g heap cells r pc left to c l (place_is pc to _ _ (back_at pc n to b.0 p) refl))))

-- by the offset
pub jump_fits : {w : Instruction} {ws : List Instruction} {ks r : List Kept} {pc : ℕ} (z : ℤ) → IsAt Jmp w ws ks r pc → sj_of w ≡ z → leads_back z ≡ false → pc + (distance_of z + 1) < length ws
jump_fits (pos n) h e b = forward_there n h e
jump_fits (negsuc n) h e b = absurd (cc)

pub back_fits : {w : Instruction} {ws : List Instruction} {ks r : List Kept} {pc : ℕ} (z : ℤ) → IsAt Jmp w ws ks r pc → sj_of w ≡ z → leads_back z ≡ true → distance_of z ≤ pc + 1
back_fits (pos n) h e b = absurd (cc)
back_fits {pc = pc} (negsuc n) h e b = let x = jump_place h in (back_there (pc + 1) n x.0 (ap (λ z. pos (pc + 1) +ℤ z) (sym e) ∙ x.1)).0

pub forward_does : {w : Instruction} {ws : List Instruction} {ks r : List Kept} {pc to fuel : ℕ} (z : ℤ) → IsAt Jmp w ws ks r pc → sj_of w ≡ z → leads_back z ≡ false → to ≡ pc + (distance_of z + 1) → Goes Jmp w ws ks r pc fuel r to fuel
forward_does (pos n) h e b p = jump_on n h e p
forward_does (negsuc n) h e b p = absurd (cc)

pub back_does : {w : Instruction} {ws : List Instruction} {ks r : List Kept} {pc to fuel left : ℕ} (z : ℤ) → IsAt Jmp w ws ks r pc → sj_of w ≡ z → leads_back z ≡ true → to ≡ pc + 1 - distance_of z → fuel ≡ suc left → Goes Jmp w ws ks r pc fuel r to left
back_does (pos n) h e b p f = absurd (cc)
back_does (negsuc n) h e b p f = jump_back n h e p f

-- the beginning of a round

apart : (m n d : ℕ) → pos m -ℤ pos n ≡ pos d → (n ≤ m) × (m - n ≡ d)
apart m n d e = (grind arith, grind arith)

back_sum : (pc bx to : ℕ) → bx ≤ pc + 1 → to ≡ pc + 1 - bx → pos pc +ℤ (pos 1 -ℤ pos bx) ≡ pos to
back_sum pc bx to l e = grind arith

pub loop_back : {w : Instruction} {ws : List Instruction} {ks r : List Kept} {pc : ℕ} → IsAt ForLoop w ws ks r pc → (bx_of w ≤ pc + 1) × (pc + 1 - bx_of w < length ws)
loop_back {w = w} {ws = ws} {pc = pc} h =
    let x = target_there h (pos (pc + 1) -ℤ pos (bx_of w)) refl in
    let a = apart (pc + 1) (bx_of w) x.0 x.1 in
    (a.0, subst (λ n. n < length ws) (sym a.1) x.2)

pub each_back : {w : Instruction} {ws : List Instruction} {ks r : List Kept} {pc : ℕ} → IsAt TForLoop w ws ks r pc → (bx_of w ≤ pc + 1) × (pc + 1 - bx_of w < length ws)
each_back {w = w} {ws = ws} {pc = pc} h =
    let x = target_there h (pos (pc + 1) -ℤ pos (bx_of w)) refl in
    let a = apart (pc + 1) (bx_of w) x.0 x.1 in
    (a.0, subst (λ n. n < length ws) (sym a.1) x.2)

-- the registers of a numerical loop
pub loop_there : {op : Opcode} {w : Instruction} {ws : List Instruction} {ks r : List Kept} {pc : ℕ} → IsAt op w ws ks r pc → (op ≡ ForLoop) ⊎ (op ≡ ForPrep) → a_of w + 3 < length r
loop_there {w = w} {ws = ws} {ks = ks} {r = r} {pc = pc} h (inl e) = register_there (subst (λ op. IsAt op w ws ks r pc) e h) 0 (a_of w + 3) refl
loop_there {w = w} {ws = ws} {ks = ks} {r = r} {pc = pc} h (inr e) = register_there (subst (λ op. IsAt op w ws ks r pc) e h) 0 (a_of w + 3) refl

at_zero : (r : List Kept) (a : ℕ) {v : Kept} → slice_get r (a + 0) ≡ Some v → slice_get r a ≡ Some v
at_zero r a e = ap (slice_get r) (let z : a ≡ a + 0 = omega arith in z) ∙ e

read_integer : (r : List Kept) (a : ℕ) {v : Kept} {n : ℤ} → slice_get r a ≡ Some v → Some n ≡ integer_in v → slice_get r a ≡ Some (Int n)
read_integer r a {v = v} {n = n} e i = e ∙ ap Some (is_integer v n i)

-- a register is written, and more follows
sets : (g : Around) (heap : Heap) (cells : List Cell) (r : List Kept) (pc left a : ℕ) (v : Kept) {x : Arg} {s : List Kept} {env : List Value} {t : Text} {o : Option Held} → arg env x ≡ value g.texts v → s ≡ slice_set r a v → a < length r
    → Comes g.context t (env ++ []) (held g heap cells s pc left) o → Comes g.context (own (write_register a x) (λ _ _. t)) env (held g heap cells r pc left) o
sets g heap cells r pc left a v {env = env} {t = t} {o = o} y e l q = writes g heap cells r pc left a v l y (subst (λ s. Comes g.context t (env ++ []) (held g heap cells s pc left) o) e q)

module _ {w : Instruction} {ws : List Instruction} {ks r : List Kept} {pc : ℕ} {u v t : Kept} (i n d : ℤ) where
  pub round_ends : {to fuel : ℕ} → IsAt ForLoop w ws ks r pc → slice_get r (a_of w + 0) ≡ Some u → slice_get r (a_of w + 1) ≡ Some v → slice_get r (a_of w + 2) ≡ Some t → Some i ≡ integer_in u → Some n ≡ integer_in v → Some d ≡ integer_in t
      → same_integer n (pos 0) ≡ true → to ≡ pc + 1 → Goes ForLoop w ws ks r pc fuel r to fuel
  round_ends {to = to} {fuel = fuel} h e f k e' f' k' z p =
      let a = a_of w in
      let l = at_next h refl p in
      going l (λ g heap cells c.
      reads g heap cells r pc fuel a (Int i) (read_integer r (a_of w) (at_zero r (a_of w) e) e') (reads g heap cells r pc fuel (a + 1) (Int n) (read_integer r (a_of w + 1) f f') (reads g heap cells r pc fuel (a + 2) (Int d) (read_integer r (a_of w + 2) k k')
      (same_text (ap (λ b. cond b next (quick pay (λ _. writes_integer (a + 1) (sub n (pos 1)) (writes_integer a (add i d) (writes_integer (a + 3) (add i d) (back (bx_of w))))))) z)
      (goes_by g heap cells r pc fuel to 1 c l p)))))

  pub round_goes : {s1 s2 s3 : List Kept} {to fuel left : ℕ} → IsAt ForLoop w ws ks r pc → slice_get r (a_of w + 0) ≡ Some u → slice_get r (a_of w + 1) ≡ Some v → slice_get r (a_of w + 2) ≡ Some t → Some i ≡ integer_in u → Some n ≡ integer_in v → Some d ≡ integer_in t
      → same_integer n (pos 0) ≡ false → fuel ≡ suc left → s1 ≡ slice_set r (a_of w + 1) (Int (sub n (pos 1))) → s2 ≡ slice_set s1 (a_of w + 0) (Int (add i d)) → s3 ≡ slice_set s2 (a_of w + 3) (Int (add i d)) → to ≡ pc + 1 - bx_of w
      → Goes ForLoop w ws ks r pc fuel s3 to left
  round_goes {s1 = s1} {s2 = s2} {s3 = s3} {to = to} {fuel = fuel} {left = left} h e f k e' f' k' z q x1 x2 x3 p =
      let a = a_of w in
      let b = loop_back h in
      let l : to < length ws = subst (λ to. to < length ws) (sym p) b.1 in
      let m = loop_there h (inl refl) in
      let l1 : length s1 ≡ length r = ap length x1 ∙ length_set r (a + 1) (Int (sub n (pos 1))) in
      let l2 : length s2 ≡ length s1 = ap length x2 ∙ length_set s1 (a + 0) (Int (add i d)) in
      let zero : s2 ≡ slice_set s1 a (Int (add i d)) = x2 ∙ ap (λ a. slice_set s1 a (Int (add i d))) (let z : a + 0 ≡ a = omega arith in z) in
      going l (λ g heap cells c.
      reads g heap cells r pc fuel a (Int i) (read_integer r (a_of w) (at_zero r (a_of w) e) e') (reads g heap cells r pc fuel (a + 1) (Int n) (read_integer r (a_of w + 1) f f') (reads g heap cells r pc fuel (a + 2) (Int d) (read_integer r (a_of w + 2) k k')
      (same_text (ap (λ b. cond b next (quick pay (λ _. writes_integer (a + 1) (sub n (pos 1)) (writes_integer a (add i d) (writes_integer (a + 3) (add i d) (back (bx_of w))))))) z)
      (pays g heap cells r pc fuel left q
      (sets g heap cells r pc left (a + 1) (Int (sub n (pos 1))) refl x1 (omega arith)
      (sets g heap cells s1 pc left a (Int (add i d)) refl zero (omega arith)
      (sets g heap cells s2 pc left (a + 3) (Int (add i d)) refl x3 (omega arith) (goes_to g heap cells s3 pc left to c l (place_is pc to _ _ (back_sum pc (bx_of w) to b.0 p) refl))))))))))

-- the beginning of a numerical loop

starts_behind : (w : Instruction) (i n d : ℤ) (b : Bool) → runs i n d ≡ b → same_integer d (pos 0) ≡ false
    → starts (a_of w) (bx_of w) i n d ≡ cond b (writes_integer (a_of w + 1) (rounds i n d) (writes_integer (a_of w + 3) i next)) (go_by (pos (bx_of w + 2)))
starts_behind w i n d b e z =
    ap (λ z. cond z (raise (codes "'for' step is zero")) (cond (runs i n d) (writes_integer (a_of w + 1) (rounds i n d) (writes_integer (a_of w + 3) i next)) (go_by (pos (bx_of w + 2))))) z
    ∙ ap (λ b. cond b (writes_integer (a_of w + 1) (rounds i n d) (writes_integer (a_of w + 3) i next)) (go_by (pos (bx_of w + 2)))) e

pub prep_place : {w : Instruction} {ws : List Instruction} {ks r : List Kept} {pc : ℕ} → IsAt ForPrep w ws ks r pc → pc + (bx_of w + 2) < length ws
prep_place {w = w} {ws = ws} {pc = pc} h =
    let x = target_there h (pos (pc + 2 + bx_of w)) refl in
    place_below (pc + 2 + bx_of w) x.0 (pc + (bx_of w + 2)) (length ws) x.1 x.2 (omega arith)

module _ {w : Instruction} {ws : List Instruction} {ks r : List Kept} {pc : ℕ} {u v t : Kept} (i n d : ℤ) where
  pub prep_passes : {to : ℕ} → IsAt ForPrep w ws ks r pc → slice_get r (a_of w + 0) ≡ Some u → slice_get r (a_of w + 1) ≡ Some v → slice_get r (a_of w + 2) ≡ Some t → Some i ≡ integer_in u → Some n ≡ integer_in v → Some d ≡ integer_in t
      → same_integer d (pos 0) ≡ false → runs i n d ≡ false → to ≡ pc + (bx_of w + 2) → (fuel : ℕ) → Goes ForPrep w ws ks r pc fuel r to fuel
  prep_passes {to = to} h e f k e' f' k' z b p fuel =
      let a = a_of w in
      let l : to < length ws = subst (λ to. to < length ws) (sym p) (prep_place h) in
      going l (λ g heap cells c.
      reads g heap cells r pc fuel a (Int i) (read_integer r (a_of w) (at_zero r (a_of w) e) e') (reads g heap cells r pc fuel (a + 1) (Int n) (read_integer r (a_of w + 1) f f') (reads g heap cells r pc fuel (a + 2) (Int d) (read_integer r (a_of w + 2) k k')
      (same_text (starts_behind w i n d false b z) (goes_by g heap cells r pc fuel to (bx_of w + 2) c l p)))))

  pub prep_starts : {s1 s2 : List Kept} {to : ℕ} → IsAt ForPrep w ws ks r pc → slice_get r (a_of w + 0) ≡ Some u → slice_get r (a_of w + 1) ≡ Some v → slice_get r (a_of w + 2) ≡ Some t → Some i ≡ integer_in u → Some n ≡ integer_in v → Some d ≡ integer_in t
      → same_integer d (pos 0) ≡ false → runs i n d ≡ true → s1 ≡ slice_set r (a_of w + 1) (Int (rounds i n d)) → s2 ≡ slice_set s1 (a_of w + 3) (Int i) → to ≡ pc + 1 → (fuel : ℕ) → Goes ForPrep w ws ks r pc fuel s2 to fuel
  prep_starts {s1 = s1} {s2 = s2} {to = to} h e f k e' f' k' z b x1 x2 p fuel =
      let a = a_of w in
      let l = at_next h refl p in
      let m = loop_there h (inr refl) in
      let l1 : length s1 ≡ length r = ap length x1 ∙ length_set r (a + 1) (Int (rounds i n d)) in
      going l (λ g heap cells c.
      reads g heap cells r pc fuel a (Int i) (read_integer r (a_of w) (at_zero r (a_of w) e) e') (reads g heap cells r pc fuel (a + 1) (Int n) (read_integer r (a_of w + 1) f f') (reads g heap cells r pc fuel (a + 2) (Int d) (read_integer r (a_of w + 2) k k')
      (same_text (starts_behind w i n d true b z)
      (sets g heap cells r pc fuel (a + 1) (Int (rounds i n d)) refl x1 (omega arith)
      (puts g heap cells s1 pc fuel (a + 3) 1 (Int i) c l (omega arith) refl x2 p))))))

-- generic loops

pub each_value : {w : Instruction} {ws : List Instruction} {ks r : List Kept} {pc : ℕ} → IsAt TForLoop w ws ks r pc → (n : ℕ) → n ≤ 4 → a_of w + n < length r
each_value {w = w} h n l = let m = register_there h 0 (a_of w + 4) refl in omega arith

pub each_place : {w : Instruction} {ws : List Instruction} {ks r : List Kept} {pc : ℕ} → IsAt TForPrep w ws ks r pc → pc + (bx_of w + 1) < length ws
each_place {w = w} {ws = ws} {pc = pc} h =
    let x = target_there h (pos (pc + 1 + bx_of w)) refl in
    place_below (pc + 1 + bx_of w) x.0 (pc + (bx_of w + 1)) (length ws) x.1 x.2 (omega arith)

pub each_begins : {w : Instruction} {ws : List Instruction} {ks r : List Kept} {pc to : ℕ} (v : Kept) → IsAt TForPrep w ws ks r pc → slice_get r (a_of w + 3) ≡ Some v → is_truthy v ≡ false → to ≡ pc + (bx_of w + 1) → (fuel : ℕ) → Goes TForPrep w ws ks r pc fuel r to fuel
each_begins {w = w} {ws = ws} {r = r} {pc = pc} {to = to} v h e z p fuel =
    let l : to < length ws = subst (λ to. to < length ws) (sym p) (each_place h) in
    going l (λ g heap cells c. reads g heap cells r pc fuel (a_of w + 3) v e
    (same_text (ap (λ b. cond b (closable (read 0) (variable_name g.context.closure.code pc (a_of w + 3)) (own (mark_pending (a_of w + 3)) (λ _ _. go_by (pos (bx_of w + 1))))) (go_by (pos (bx_of w + 1)))) (shape_truth g.texts v ∙ z)) (goes_by g heap cells r pc fuel to (bx_of w + 1) c l p)))

pub each_ends : {w : Instruction} {ws : List Instruction} {ks r : List Kept} {pc to fuel : ℕ} → IsAt TForLoop w ws ks r pc → slice_get r (a_of w + 4) ≡ Some Nil → to ≡ pc + 1 → Goes TForLoop w ws ks r pc fuel r to fuel
each_ends {w = w} {r = r} {pc = pc} {to = to} {fuel = fuel} h e p =
    let l = at_next h refl p in
    going l (λ g heap cells c. reads g heap cells r pc fuel (a_of w + 4) Nil e (goes_by g heap cells r pc fuel to 1 c l p))

each_text : (texts : List (List ℕ)) (v : Kept) (a bx : ℕ) → value_eq v Nil ≡ false → elim (shape (value texts v)) [
  | is_known k ↦ cond (same_plain k nil) next (quick pay (λ _. own (write_register a (read 0)) (λ _ _. back bx)))
  | is_object kind ↦ quick pay (λ _. own (write_register a (read 0)) (λ _ _. back bx))
] ≡ quick pay (λ _. own (write_register a (read 0)) (λ _ _. back bx))
each_text texts Nil a bx e = absurd (cc)
each_text texts _ a bx e = refl

pub each_goes : {w : Instruction} {ws : List Instruction} {ks r s : List Kept} {pc to fuel left : ℕ} (v : Kept) → IsAt TForLoop w ws ks r pc → slice_get r (a_of w + 4) ≡ Some v → value_eq v Nil ≡ false → fuel ≡ suc left → s ≡ slice_set r (a_of w + 2) v → to ≡ pc + 1 - bx_of w
    → Goes TForLoop w ws ks r pc fuel s to left
each_goes {w = w} {ws = ws} {r = r} {s = s} {pc = pc} {to = to} {fuel = fuel} {left = left} v h e z q f p =
    let b = each_back h in
    let l : to < length ws = subst (λ to. to < length ws) (sym p) b.1 in
    going l (λ g heap cells c. reads g heap cells r pc fuel (a_of w + 4) v e (same_text (each_text g.texts v (a_of w + 2) (bx_of w) z)
    (pays g heap cells r pc fuel left q (sets g heap cells r pc left (a_of w + 2) v refl f (each_value h 2 (omega arith))
    (goes_to g heap cells s pc left to c l (place_is pc to _ _ (back_sum pc (bx_of w) to b.0 p) refl))))))

pub nil_is : (v : Kept) → value_eq v Nil ≡ true → v ≡ Nil
nil_is Nil e = refl
nil_is _ e = absurd (cc)

-- the beginning of a function with extra arguments

pub begins_varargs : {w : Instruction} {ws : List Instruction} {ks r : List Kept} {pc to : ℕ} → IsAt VarArgPrep w ws ks r pc → to ≡ pc + 1 → (fuel : ℕ) → Goes VarArgPrep w ws ks r pc fuel r to fuel
begins_varargs {r = r} {pc = pc} {to = to} h p fuel = going (at_next h refl p) (λ g heap cells c. goes_by g heap cells r pc fuel to 1 c (at_next h refl p) p)
