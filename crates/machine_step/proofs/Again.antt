-- A world in which values move to a Lua frame that waits, and the world without them, in which the frame is woken.
use Rattle.std.proofs.Common.{◌≡◌, ℕ, [], length, Some, refl, ap, sym, subst, ◌∙◌, false}
use Rattle.std.specs.Global.{Vec}
use Rattle.library_rows.specs.Library.{all_entries}
use Rattle.machine_core.specs.World.{Place, place_of}
use Rattle.machine_core.specs.Moves.{go}
use Rattle.machine_sound.specs.Sound.{Settled, Solid, on_top, sizes, Valid}
use Rattle.machine_sound.proofs.Calls.{fuel_top}
use Rattle.machine_sound.proofs.Lists.{each_none}
use Rattle.machine_sound.proofs.Waits.{moving_solid}
use Rattle.table_core.specs.declared.value.Value.{Value as Kept}
use Rattle.lua_stack.specs.declared.frame.Wait.{Wait as KeptWait}
use Rattle.lua_stack.specs.declared.frame.Wait.TheVariants.{Running}
use Rattle.lua_stack.specs.Frames.{wait_of}
use Rattle.lua_heap.specs.declared.world.World.{World as Memory}
use Rattle.lua_heap.specs.Cells.{CellsAreListed}
use Rattle.lua_heap.specs.Plain.{plain}
use Rattle.lua_heap.specs.Reading.{value}
use Rattle.move_laws.specs.Memory.{InOrder, IsSound}
use Rattle.move_laws.proofs.Order.{order_after}
use Rattle.machine_returns.specs.Waking.{IsSolid, WaitsSo, Wakes}
use Rattle.machine_returns.proofs.Woken.{moved, wakes_so, woken_solid}
use Rattle.step_laws.specs.Steps.{IsReady}
use Rattle.running_frame.specs.declared.place.Here.{Here}
use Rattle.running_frame.specs.Here.{IsAtWord, IsHere, RunsIf}
use Rattle.machine_step.specs.Places.{WaitsHere}
use Rattle.machine_step.proofs.Steps.{waits_here}

-- the frame waits where it did
pub waits_with : (X : Memory) (m : Vec Kept) (here : Here) → IsSound (record X { moving = m }) → IsHere X here → here.runs ≡ false → WaitsHere (record X { moving = m }) here.pc here.word
waits_with X m here s at waits =
    let N : Memory = record X { moving = m } in
    let a = at.word in
    let word : IsAtWord N here.pc here.word = record { place = a.place; is = a.is; at_pc = a.at_pc; there = a.there; near = a.near } in
    let runs : RunsIf N here.runs = record { is = at.wait.is } in
    waits_here s word runs waits

module _ (X : Memory) (m : Vec Kept) (nothing : (fuel : ℕ) → moved (plain X fuel) [] ≡ plain X fuel) where
  abbrev N : Memory
  N = record X { moving = m }

  -- it could go on without the values too
  pub ready_without : IsReady (length all_entries) go N → InOrder X → IsReady (length all_entries) go X
  ready_without ready order =
      let n = length all_entries in
      let V = plain N 0 in
      let solid = ready.after.sound.solid in
      let k = ready.after.ready in
      let none = each_none (Valid (sizes n V)) in
      let settled : Settled n (plain X 0) = subst (Settled n) (nothing 0) (record { top = k.top; is_top = fuel_top n k.top V [] 0 solid k.is_top none; fits = k.fits }) in
      record {
        after = record { sound = record { solid = subst (Solid n) (nothing 0) (moving_solid n V [] 0 solid none); rests = on_top settled }; ready = settled };
        order = order;
      }

  -- it is woken with them
  pub wakes_with : (again : Memory) (wait : KeptWait) (place : Place) → place_of (plain X 0) ≡ Some place → wait_of (value X.strings) wait ≡ place.top.wait → WaitsSo X again Running → again ≡ record X { coros = again.coros } → Wakes N again wait m.items
  wakes_with again wait place is waited set kept = record {
    place = place;
    is = is;
    waited = waited;
    came = refl;
    woken_is = wakes_so N X again wait m.items place is nothing set;
    rest = kept ∙ ap (λ moving. record X { coros = again.coros; moving = moving }) (sym (ap (λ (W : Memory). W.moving) kept));
  }

  pub solid_with : {again : Memory} {wait : KeptWait} → IsReady (length all_entries) go N → InOrder X → Wakes N again wait m.items → again ≡ record X { coros = again.coros } → CellsAreListed again → IsSolid again
  solid_with ready order w kept listed = record {
    primitives = length all_entries;
    solid = subst (Solid (length all_entries)) (sym (w.woken_is 0)) (woken_solid (length all_entries) (plain N 0) w.place ready.after.sound w.is);
    order = order_after order (ap (λ (W : Memory). W.strings) kept) (ap (λ (W : Memory). W.codes) kept) listed;
  }
