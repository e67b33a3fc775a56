-- The stack that is found at the running coroutine's number, and what is so with another stack in its place.
use Rattle.std.proofs.Common.{◌≡◌, ℕ, ◌≤◌, List, [], length, Some, refl, ◌∙◌, true}
use Rattle.std.specs.Prelude.{slice_get}
use Rattle.int_core.specs.Value.{Value, without_last}
use Rattle.machine_core.specs.World.{Cell, LuaFrame, Place, place_of}
use Rattle.machine_core.specs.Text.{Own, reads, tells, effect, fits}
use Rattle.machine_core.specs.Moves.{on_own, cells_after, pop_frame}
use Rattle.table_core.specs.declared.value.CoroId.{CoroId}
use Rattle.table_core.specs.declared.value.Value.{Value as Kept}
use Rattle.lua_stack.specs.Frames.{KeptStack, HasLuaTop, HasRegisters, TopBecomes}
use Rattle.lua_heap.specs.declared.world.Coro.{Coro}
use Rattle.lua_heap.specs.declared.world.Coro.TheVariants.{Running}
use Rattle.lua_heap.specs.declared.world.World.{World as Memory}
use Rattle.lua_heap.specs.Cells.{CellsAreListed}
use Rattle.lua_heap.specs.Reading.{value}
use Rattle.lua_heap.specs.Plain.{plain}
use Rattle.move_laws.specs.Memory.{Runs, HasStack, Makes, StandsAt, StaysOnTop}
use Rattle.move_laws.proofs.Running.{with_top, place_after, lua_top, registers_there, own_made}
use Rattle.move_laws.proofs.Order.{listed_after}
use Rattle.machine_moves.specs.Moves.{RunsAs}
use Rattle.machine_moves.proofs.Stacks.{found_runs, with_stack}
use Rattle.machine_moves.proofs.OnTop.{has_running, kept_whole, popped_is, runs_after}

module _ {W : Memory} {co : CoroId} {c : Coro} {s : KeptStack} (r : RunsAs W co) (g : slice_get W.coros.objects co.0 ≡ Some c) (e : c ≡ Running s) where
  pub found : Runs W co s
  found = found_runs c s r g e

  pub top_found : (place : Place) → place_of (plain W 0) ≡ Some place → HasLuaTop s
  top_found place is = lua_top W co s place found is

  pub registers_found : (place : Place) (n : ℕ) → place_of (plain W 0) ≡ Some place → n ≤ length place.top.own.registers → HasRegisters s n
  registers_found place n is room = registers_there W co s place n found is room

  -- a move of the machine that is a change of the frame on top
  pub own_in_place : (t : KeptStack) (place : Place) (change : (Kept → Value) → LuaFrame → LuaFrame) (m : Own) (env : List Value)
      → place_of (plain W 0) ≡ Some place → fits m place.function.code place.top.own ≡ true → TopBecomes s t change
      → ((number frame : ℕ) (cells : List Cell) → cells_after m number frame place.top.own cells ≡ cells)
      → record place.top { own = effect m place.function.code env place.top.own } ≡ change (value W.strings) place.top
      → Makes W (with_stack W co t) (on_own m) env (reads m place.function.code env place.top.own) (tells m place.function.code env place.top.own)
  own_in_place t place change m env is fit becomes cells same =
      own_made W (with_stack W co t) co s t place change m env found is fit (record { rest = refl; objects = refl }) becomes cells same

  -- the frame on top still stands where it stood
  pub stands_in_place : (t : KeptStack) (change : (Kept → Value) → LuaFrame → LuaFrame) → TopBecomes s t change
      → ((u : LuaFrame) → (change (value W.strings) u).function ≡ u.function) → ((u : LuaFrame) → (change (value W.strings) u).own.pc ≡ u.own.pc)
      → (pc : ℕ) → StandsAt W pc → StandsAt (with_stack W co t) pc
  stands_in_place t change becomes function same pc k = record {
    place = with_top k.place (change (value W.strings) k.place.top);
    is = place_after W (with_stack W co t) co s t k.place change found k.is (record { rest = refl; objects = refl }) becomes (function k.place.top);
    at = same k.place.top ∙ k.at;
  }

  pub listed_in_place : (t : KeptStack) → t.open_cells ≡ s.open_cells → CellsAreListed W → CellsAreListed (with_stack W co t)
  listed_in_place t cells = listed_after W (with_stack W co t) co s t found (record { rest = refl; objects = refl }) cells

  pub stays_in_place : (t : KeptStack) (change : (Kept → Value) → LuaFrame → LuaFrame) → TopBecomes s t change
      → ((u : LuaFrame) → (change (value W.strings) u).function ≡ u.function) → ((u : LuaFrame) → (change (value W.strings) u).own.pc ≡ u.own.pc) → StaysOnTop W (with_stack W co t)
  stays_in_place t change becomes function same = record { at = stands_in_place t change becomes function same; listed = listed_in_place t becomes.cells; rest = refl }

  pub kept_in_place : (t : KeptStack) → t ≡ s → with_stack W co t ≡ W
  kept_in_place t same = kept_whole W co s t found same

  pub runs_in_place : (t : KeptStack) → HasStack (with_stack W co t)
  runs_in_place t = has_running (with_stack W co t) co t (runs_after W (with_stack W co t) co s t found (record { rest = refl; objects = refl }))

  pub popped_in_place : (t : KeptStack) (env : List Value) → t.frames ≡ without_last s.frames → Makes W (with_stack W co t) pop_frame env [] tt
  popped_in_place t env frames = popped_is W (with_stack W co t) co s t env found (record { rest = refl; objects = refl }) frames
