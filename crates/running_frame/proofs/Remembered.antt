-- The value of a variable in a frame below, as the loop over instructions is told it.
use Rattle.std.proofs.Common.{◌≡◌, ℕ, ◌<◌, List, [], ◌∷◌, length, Option, ap, sym, subst, ◌∙◌, arith}
use Rattle.std.specs.Prelude.{IfSome, slice_get}
use Rattle.int_core.specs.Value.{Value, bind}
use Rattle.machine_core.specs.World.{Frame, LuaFrame, lua, lua_frame}
use Rattle.machine_sound.proofs.Lists.{get_front}
use Rattle.table_core.specs.Table.{Contents}
use Rattle.table_core.specs.declared.value.CellId.{CellId}
use Rattle.lua_stack.specs.Frames.{KeptStack, register_in}
use Rattle.lua_heap.specs.declared.world.Cell.{Cell}
use Rattle.lua_heap.specs.Reading.{value}
use Rattle.machine_arms_tables.specs.Frame.{Code}
use Rattle.machine_view.specs.View.{Around}
use Rattle.machine_loop.specs.declared.memo.Known.{Known}
use Rattle.machine_loop.specs.declared.memo.Memo.{Memo}
use Rattle.machine_loop.specs.Knowing.{AllHold, HasValue}
use Rattle.machine_loop.specs.Running.{Running}
use Rattle.running_frame.specs.Remembering.{KnowsBelow, KnowsNothing}
use Rattle.frame_calls.specs.Standing.{RunsAt}
use Rattle.frame_calls.proofs.Closed.{frame_count}

pub known_holds : (g : Running) (k : Code) (s : KeptStack) (ts : List Contents) (cs : List Cell) (fuel pc : ℕ) → RunsAt g k s ts cs fuel pc → (co : ℕ) → co ≡ g.around.context.coroutine → (known : Known) → KnowsBelow co k.upvalues s cs known
    → HasValue g.around k.upvalues cs known.upvalue known.value
known_holds g k s ts cs fuel pc x co e known y = record {
  id = y.variable.cell;
  named = y.stands.named;
  coroutine = y.stands.coroutine;
  frame = y.variable.frame;
  register = y.variable.register;
  own = y.stands.own ∙ e;
  holds = y.stands.holds;
  stands =
      let v = value g.around.texts in
      let below = g.around.context.below in
      let n = frame_count v s below x.may.top x.may.is in
      let d = y.stands.deep in
      let inside : y.variable.frame < length below = omega (arith, n, d) in
      ap (λ (o : Option Frame). bind {A = LuaFrame} {B = Value} (bind {A = Frame} {B = LuaFrame} o lua_frame) (λ t. slice_get t.own.registers y.variable.register)) (sym (get_front below (lua x.may.top ∷ []) y.variable.frame inside))
      ∙ ap (register_in y.variable.frame y.variable.register) (sym x.may.is)
      ∙ y.has.reads v;
}

-- where nothing is known all that is known holds
pub nothing_holds : (g : Around) (upvalues : List CellId) (cells : List Cell) (memo : Memo) → KnowsNothing memo → AllHold g upvalues cells memo
nothing_holds g upvalues cells memo n = record {
  first = subst (λ o. IfSome o (λ (k : Known). HasValue g upvalues cells k.upvalue k.value)) (sym n.first) tt;
  second = subst (λ o. IfSome o (λ (k : Known). HasValue g upvalues cells k.upvalue k.value)) (sym n.second) tt;
  third = subst (λ o. IfSome o (λ (k : Known). HasValue g upvalues cells k.upvalue k.value)) (sym n.third) tt;
}
