-- What a frame stops at on a stack is some steps of the machine.
use Rattle.std.proofs.Common.{◌≡◌, ℕ, List, Option, Some, None, sym, subst}
use Rattle.std.specs.Prelude.{IfNone, IfSome, slice_get}
use Rattle.code_core.specs.declared.instruction.Instruction.{Instruction}
use Rattle.machine_focus.specs.Focus.{Reaches}
use Rattle.table_core.specs.Table.{Contents}
use Rattle.lua_stack.specs.Frames.{KeptStack}
use Rattle.lua_heap.specs.declared.world.Cell.{Cell as KeptCell}
use Rattle.machine_arms_tables.specs.Frame.{Code}
use Rattle.machine_loop.specs.Running.{Running}
use Rattle.frame_calls.specs.Calling.{AreFunctions, Program}
use Rattle.frame_calls.specs.Crossing.{CrossesOver, by_call, by_counted_return, by_iterator_call, by_list_return, by_open_return, by_tail_call, by_varargs}
use Rattle.frame_calls.specs.Standing.{RunsAt, standing}
use Rattle.frame_calls.proofs.Called.{called_so, iterated_so, shape_known, tail_called_so}
use Rattle.frame_calls.proofs.Chained.{reaches_none}
use Rattle.frame_calls.proofs.ListReturned.{list_returned_so}
use Rattle.frame_calls.proofs.Returned.{returned_so}
use Rattle.frame_calls.proofs.OpenLists.{open_returned_so}
use Rattle.frame_calls.proofs.TakenVarargs.{written_varargs_so}

module _ (g : Running) (k : Code) (s : KeptStack) (ts : List Contents) (cs : List KeptCell) (fuel pc : ℕ) (r : RunsAt g k s ts cs fuel pc) (u : KeptStack) (size : ℕ) (program : Program) (w : Instruction) (left : ℕ)
    (a : AreFunctions g.around.context.base.functions program) (size_is : size ≡ g.around.context.closure.code.own.stack) (word : slice_get k.words pc ≡ Some w) where
  free : left ≡ fuel → Reaches g.around.rows (standing g s ts cs fuel) (standing g u ts cs fuel) → Reaches g.around.rows (standing g s ts cs fuel) (standing g u ts cs left)
  free e x = subst (λ (n : ℕ). Reaches g.around.rows (standing g s ts cs fuel) (standing g u ts cs n)) (sym e) x

  pub crossed_over_so : CrossesOver s u size program k.words pc w fuel left → Reaches g.around.rows (standing g s ts cs fuel) (standing g u ts cs left)
  crossed_over_so (by_call x) =
      let q = shape_known g.around.context.base.functions program a x.enters.callee.id x.enters.callee.shape x.enters.is.has in
      called_so g k s ts cs fuel pc r u size program w left size_is word q.0 x q.1 q.2
  crossed_over_so (by_tail_call x) =
      let q = shape_known g.around.context.base.functions program a x.enters.callee.id x.enters.callee.shape x.enters.is.has in
      tail_called_so g k s ts cs fuel pc r u size program w left size_is word q.0 x q.1 q.2
  crossed_over_so (by_iterator_call x) =
      let q = shape_known g.around.context.base.functions program a x.enters.callee.id x.enters.callee.shape x.enters.is.has in
      iterated_so g k s ts cs fuel pc r u size program w left size_is word q.0 x q.1 q.2
  crossed_over_so (by_counted_return x e) = free e (returned_so g k s ts cs fuel pc r u program w x a word)
  crossed_over_so (by_list_return x e) = free e (list_returned_so g k s ts cs fuel pc r u program w x a word)
  crossed_over_so (by_open_return x e) = free e (open_returned_so g k s ts cs fuel pc r u program w x a word)
  crossed_over_so (by_varargs x e) = free e (written_varargs_so g k s ts cs fuel pc r u w x word)

  -- it is done, or all is as before
  pub crossed_over_or_not : (o : Option (Unit {0})) → IfSome o (λ _. CrossesOver s u size program k.words pc w fuel left) → IfNone o ((u ≡ s) × (left ≡ fuel)) → Reaches g.around.rows (standing g s ts cs fuel) (standing g u ts cs left)
  crossed_over_or_not None x y = free y.1 (subst (λ (u : KeptStack). Reaches g.around.rows (standing g s ts cs fuel) (standing g u ts cs fuel)) (sym y.0) (reaches_none g.around.rows (standing g s ts cs fuel)))
  crossed_over_or_not (Some o) x y = crossed_over_so x
