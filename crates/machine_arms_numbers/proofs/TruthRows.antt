-- Rows of truths and tests.
use Rattle.std.proofs.Common.{◌≡◌, ℕ, ◌+◌, List, Some, refl, ap, sym, ◌∙◌, Bool, true, false}
use Rattle.code_core.specs.declared.instruction.Instruction.{Instruction}
use Rattle.lua_heap.specs.Reading.{value}
use Rattle.machine_view.specs.View.{IsAt, Goes}
use Rattle.machine_view.proofs.Places.{register_there}
use Rattle.machine_view.proofs.Rows.{reads, same_text}
use Rattle.machine_view.proofs.Going.{going, at_next, at_second, at_either, goes_by, puts, tests}
use Rattle.table_core.specs.declared.value.Value.{Value as Kept}
use Rattle.std.specs.Prelude.{cond, not, slice_get, slice_set}
use Rattle.code_core.specs.Instruction.{a_of, b_of, k_of}
use Rattle.code_core.specs.declared.opcode.Opcode.TheVariants.{Not, Test, TestSet, Jmp}
use Rattle.int_core.specs.Value.{shape, holds, same_truth, boolean}
use Rattle.machine_core.specs.Text.{read, written}
use Rattle.machine_core.specs.InstructionRows.{tested, to_register, skip}
use mathlib.Core.Bool.{beq}
use Rattle.table_core.specs.declared.value.Value.TheVariants.{Nil, Bool as Boolean}
use Rattle.machine_arms_numbers.specs.Numbers.{is_truthy}

pub shape_truth : (texts : List (List ℕ)) (v : Kept) → holds (shape (value texts v)) ≡ is_truthy v
shape_truth texts Nil = refl
shape_truth texts (Boolean b) = refl
shape_truth texts _ = refl

pub not_does : {w : Instruction} {ws : List Instruction} {ks r s : List Kept} {pc to : ℕ} (v : Kept) → IsAt Not w ws ks r pc → slice_get r (b_of w) ≡ Some v → s ≡ slice_set r (a_of w) (Boolean (not (is_truthy v))) → to ≡ pc + 1 → (fuel : ℕ) → Goes Not w ws ks r pc fuel s to fuel
not_does {w = w} {r = r} {pc = pc} v h e f p fuel = going (at_next h refl p) (λ g heap cells c.
    reads g heap cells r pc fuel (b_of w) v e (same_text (ap (λ b. to_register (a_of w) (written (boolean (not b)))) (shape_truth g.texts v)) (puts g heap cells r pc fuel (a_of w) 1 (Boolean (not (is_truthy v))) c (at_next h refl p) (register_there h 0 (a_of w) refl) refl f p)))

pub test_does : {w : Instruction} {ws : List Instruction} {ks r : List Kept} {pc to : ℕ} (v : Kept) → IsAt Test w ws ks r pc → slice_get r (a_of w) ≡ Some v → to ≡ pc + cond (same_truth (is_truthy v) (k_of w)) 1 2 → (fuel : ℕ) → Goes Test w ws ks r pc fuel r to fuel
test_does {w = w} {r = r} {pc = pc} v h e p fuel =
    let l = at_either h Jmp refl refl (same_truth (is_truthy v) (k_of w)) p in
    going l (λ g heap cells c. reads g heap cells r pc fuel (a_of w) v e (same_text (ap (λ b. tested b (k_of w)) (shape_truth g.texts v)) (tests g heap cells r pc fuel w (is_truthy v) c l p)))

set_text : (w : Instruction) (texts : List (List ℕ)) (v : Kept) (b : Bool) → same_truth (is_truthy v) (k_of w) ≡ b
    → cond (same_truth (holds (shape (value texts v))) (k_of w)) (to_register (a_of w) (read 0)) skip ≡ cond b (to_register (a_of w) (read 0)) skip
set_text w texts v b e = ap (λ b. cond b (to_register (a_of w) (read 0)) skip) (ap (λ t. same_truth t (k_of w)) (shape_truth texts v) ∙ e)

pub set_does : {w : Instruction} {ws : List Instruction} {ks r s : List Kept} {pc to : ℕ} (v : Kept) → IsAt TestSet w ws ks r pc → slice_get r (b_of w) ≡ Some v → same_truth (is_truthy v) (k_of w) ≡ true → s ≡ slice_set r (a_of w) v → to ≡ pc + 1
    → (fuel : ℕ) → Goes TestSet w ws ks r pc fuel s to fuel
set_does {w = w} {r = r} {pc = pc} v h e q f p fuel = going (at_next h refl p) (λ g heap cells c.
    reads g heap cells r pc fuel (b_of w) v e (same_text (set_text w g.texts v true q) (puts g heap cells r pc fuel (a_of w) 1 v c (at_next h refl p) (register_there h 0 (a_of w) refl) refl f p)))

pub skip_does : {w : Instruction} {ws : List Instruction} {ks r : List Kept} {pc to : ℕ} (v : Kept) → IsAt TestSet w ws ks r pc → slice_get r (b_of w) ≡ Some v → same_truth (is_truthy v) (k_of w) ≡ false → to ≡ pc + 2 → (fuel : ℕ) → Goes TestSet w ws ks r pc fuel r to fuel
skip_does {w = w} {r = r} {pc = pc} {to = to} v h e q p fuel = going (at_second h Jmp refl refl p) (λ g heap cells c.
    reads g heap cells r pc fuel (b_of w) v e (same_text (set_text w g.texts v false q) (goes_by g heap cells r pc fuel to 2 c (at_second h Jmp refl refl p) p)))

-- as the branch tells it
pub same_so : (s t b k : Bool) → s ≡ b → t ≡ k → not (beq s t) ≡ false → same_truth b k ≡ true
same_so true true b k e f q = rw (sym e, sym f) refl
same_so false false b k e f q = rw (sym e, sym f) refl
same_so true false b k e f q = absurd (cc)
same_so false true b k e f q = absurd (cc)

pub same_not : (s t b k : Bool) → s ≡ b → t ≡ k → not (beq s t) ≡ true → same_truth b k ≡ false
same_not true true b k e f q = absurd (cc)
same_not false false b k e f q = absurd (cc)
same_not true false b k e f q = rw (sym e, sym f) refl
same_not false true b k e f q = rw (sym e, sym f) refl
