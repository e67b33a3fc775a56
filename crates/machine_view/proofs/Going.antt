-- From what a row comes to, whatever the heap and the cells are, to what its instruction does.
use Rattle.std.proofs.Common.{◌≡◌, ℕ, ◌+◌, ◌<◌, List, [], ◌∷◌, length, Some, ap, sym, subst, arith, Bool, true, false}
use Rattle.std.specs.Prelude.{pos, cond, slice_set}
use Rattle.code_core.specs.Fields.{second_half, is_return}
use Rattle.code_core.specs.Instruction.{k_of}
use Rattle.code_core.specs.declared.instruction.Instruction.{Instruction}
use Rattle.code_core.specs.declared.opcode.Opcode.{Opcode}
use Rattle.int_core.specs.Heap.{Heap}
use Rattle.int_core.specs.Value.{Value, same_truth}
use Rattle.int_core.specs.Operations.{Operation, does, truth}
use Rattle.lua_heap.specs.Reading.{value}
use Rattle.machine_core.specs.World.{Cell}
use Rattle.machine_core.specs.Text.{Arg, arg, args_of, write_register, go_by, own}
use Rattle.machine_core.specs.Moves.{place_from}
use Rattle.machine_core.specs.InstructionRows.{row_of, tested, compares}
use Rattle.machine_view.specs.View.{Around, held, IsCode, IsAt, Goes}
use Rattle.machine_view.proofs.Places.{next_there, behind_there}
use Rattle.machine_view.proofs.Rows.{Comes, writes, goes_to, settles, sees}
use Rattle.table_core.specs.declared.value.Value.{Value as Kept}

pub going : {op : Opcode} {w : Instruction} {ws : List Instruction} {ks r : List Kept} {pc fuel : ℕ} {s : List Kept} {to left : ℕ} → to < length ws
    → ((g : Around) (heap : Heap) (cells : List Cell) → IsCode g ws ks → Comes g.context (row_of g.context.closure.code pc op w) [] (held g heap cells r pc fuel) (Some (held g heap cells s to left)))
    → Goes op w ws ks r pc fuel s to left
going l f = record { does = λ heap cells. record { inside = l; leads = λ g c. let x = f g heap cells c in x.is } }

-- where an instruction goes on

pub at_next : {op : Opcode} {w : Instruction} {ws : List Instruction} {ks r : List Kept} {pc to : ℕ} → IsAt op w ws ks r pc → is_return op ≡ false → to ≡ pc + 1 → to < length ws
at_next {ws = ws} h n e = subst (λ to. to < length ws) (sym e) (next_there h n)

pub at_second : {op : Opcode} {w : Instruction} {ws : List Instruction} {ks r : List Kept} {pc to : ℕ} → IsAt op w ws ks r pc → (second : Opcode) → second_half op w ≡ Some second → is_return second ≡ false → to ≡ pc + 2 → to < length ws
at_second {ws = ws} h second p n e = subst (λ to. to < length ws) (sym e) (behind_there h second p n)

pub at_either : {op : Opcode} {w : Instruction} {ws : List Instruction} {ks r : List Kept} {pc to : ℕ} → IsAt op w ws ks r pc → (second : Opcode) → second_half op w ≡ Some second → is_return second ≡ false
    → (b : Bool) → to ≡ pc + cond b 1 2 → to < length ws
at_either h second p n true e = let l = behind_there h second p n in omega (arith, e)
at_either h second p n false e = at_second h second p n e

module _ (g : Around) (heap : Heap) (cells : List Cell) (r : List Kept) (pc fuel : ℕ) where
  pub goes_by : {env : List Value} {ws : List Instruction} {ks : List Kept} (to n : ℕ) → IsCode g ws ks → to < length ws → to ≡ pc + n
      → Comes g.context (go_by (pos n)) env (held g heap cells r pc fuel) (Some (held g heap cells r to fuel))
  goes_by to n c l e = goes_to g heap cells r pc fuel to c l (ap Some (sym e))

  -- a register is written, and on
  pub puts : {env : List Value} {x : Arg} {ws : List Instruction} {ks s : List Kept} {to : ℕ} (a n : ℕ) (v : Kept) → IsCode g ws ks → to < length ws → a < length r → arg env x ≡ value g.texts v
      → s ≡ slice_set r a v → to ≡ pc + n → Comes g.context (own (write_register a x) (λ _ _. go_by (pos n))) env (held g heap cells r pc fuel) (Some (held g heap cells s to fuel))
  puts {env = env} {x = x} {to = to} a n v c l j e f p = subst (λ s. Comes g.context (own (write_register a x) (λ _ _. go_by (pos n))) env (held g heap cells r pc fuel) (Some (held g heap cells s to fuel))) (sym f)
      (writes g heap cells r pc fuel a v j e (goes_to g heap cells (slice_set r a v) pc fuel to c l (ap Some (sym p))))

  place_of_test : (b : Bool) (to : ℕ) → to ≡ pc + cond b 1 2 → place_from pc (cond b (pos 1) (pos 2)) ≡ Some to
  place_of_test true to e = ap Some (sym e)
  place_of_test false to e = ap Some (sym e)

  -- a test, and a comparison that is settled at once
  pub tests : {env : List Value} {ws : List Instruction} {ks : List Kept} {to : ℕ} (w : Instruction) (b : Bool) → IsCode g ws ks → to < length ws → to ≡ pc + cond (same_truth b (k_of w)) 1 2
      → Comes g.context (tested b (k_of w)) env (held g heap cells r pc fuel) (Some (held g heap cells r to fuel))
  tests {to = to} w b c l e = goes_to g heap cells r pc fuel to c l (place_of_test (same_truth b (k_of w)) to e)

  pub decides : {env : List Value} {ws : List Instruction} {ks : List Kept} {to : ℕ} {op : Operation} {x y : Arg} (w : Instruction) (b : Bool) → IsCode g ws ks → to < length ws → to ≡ pc + cond (same_truth b (k_of w)) 1 2
      → does op (args_of env (x ∷ y ∷ [])) heap ≡ truth heap b → Comes g.context (compares op x y w) env (held g heap cells r pc fuel) (Some (held g heap cells r to fuel))
  decides w b c l e d = settles g heap cells r pc fuel d (sees g heap cells r pc fuel (tests w b c l e))
