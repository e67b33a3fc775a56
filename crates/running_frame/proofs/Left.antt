-- What a frame is left by is some steps of the machine.
use Rattle.std.proofs.Common.{◌≡◌, inl, inr, ℕ, List, Option, Some, None, sym, subst}
use Rattle.std.specs.Prelude.{◌⊎◌, IfNone, IfSome, slice_get}
use Rattle.code_core.specs.declared.instruction.Instruction.{Instruction}
use Rattle.machine_focus.specs.Focus.{Reaches}
use Rattle.table_core.specs.Table.{Contents}
use Rattle.lua_stack.specs.Frames.{KeptStack}
use Rattle.lua_heap.specs.declared.world.Cell.{Cell as KeptCell}
use Rattle.machine_arms_tables.specs.Frame.{Code}
use Rattle.machine_loop.specs.Running.{Running}
use Rattle.frame_calls.specs.Calling.{AreFunctions, Program}
use Rattle.frame_calls.specs.Crossing.{CrossesOver}
use Rattle.frame_calls.specs.Standing.{RunsAt, standing}
use Rattle.running_frame.specs.Storing.{StoresOpen}
use Rattle.frame_calls.proofs.Chained.{reaches_none}
use Rattle.frame_calls.proofs.CrossedOver.{crossed_over_so}
use Rattle.running_frame.proofs.Stored.{stored_so}

module _ (g : Running) (k : Code) (s : KeptStack) (ts : List Contents) (cs : List KeptCell) (fuel pc : ℕ) (r : RunsAt g k s ts cs fuel pc) (u : KeptStack) (size : ℕ) (program : Program) (w : Instruction) (left co : ℕ)
    (a : AreFunctions g.around.context.base.functions program) (size_is : size ≡ g.around.context.closure.code.own.stack) (own : co ≡ g.around.context.coroutine) (word : slice_get k.words pc ≡ Some w) where
  left_so : CrossesOver s u size program k.words pc w fuel left ⊎ (StoresOpen co k.upvalues k.words s u cs pc w × (left ≡ fuel)) → Reaches g.around.rows (standing g s ts cs fuel) (standing g u ts cs left)
  left_so (inl x) = crossed_over_so g k s ts cs fuel pc r u size program w left a size_is word x
  left_so (inr z) =
      subst (λ (n : ℕ). Reaches g.around.rows (standing g s ts cs fuel) (standing g u ts cs n)) (sym z.1)
      (stored_so g k s ts cs fuel pc r u w (subst (λ n. StoresOpen n k.upvalues k.words s u cs pc w) own z.0) word)

  pub left_or_not : (o : Option (Unit {0})) → IfSome o (λ _. CrossesOver s u size program k.words pc w fuel left ⊎ (StoresOpen co k.upvalues k.words s u cs pc w × (left ≡ fuel)))
      → IfNone o ((u ≡ s) × (left ≡ fuel)) → Reaches g.around.rows (standing g s ts cs fuel) (standing g u ts cs left)
  left_or_not None x y =
      subst (λ (n : ℕ). Reaches g.around.rows (standing g s ts cs fuel) (standing g u ts cs n)) (sym y.1)
      (subst (λ (u : KeptStack). Reaches g.around.rows (standing g s ts cs fuel) (standing g u ts cs fuel)) (sym y.0) (reaches_none g.around.rows (standing g s ts cs fuel)))
  left_or_not (Some o) x y = left_so x
