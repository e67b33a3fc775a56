-- The running stack as it is lent for writing, and what is so with another stack in its place.
use Rattle.std.proofs.Common.{◌≡◌, ℕ, ◌≤◌, List, [], length, Some, refl, ap, sym, ◌∙◌, true}
use Rattle.int_core.specs.Value.{Value, without_last}
use Rattle.machine_core.specs.World.{Cell, LuaFrame, Place, place_of}
use Rattle.machine_core.specs.Text.{Own, reads, tells, effect, fits}
use Rattle.machine_core.specs.Moves.{on_own, cells_after, pop_frame}
use Rattle.table_core.specs.declared.value.CoroId.{CoroId}
use Rattle.table_core.specs.declared.value.Value.{Value as Kept}
use Rattle.lua_stack.specs.Frames.{KeptStack, HasLuaTop, HasRegisters, TopBecomes}
use Rattle.lua_heap.specs.declared.world.World.{World as Memory}
use Rattle.lua_heap.specs.Cells.{CellsAreListed}
use Rattle.lua_heap.specs.Reading.{value}
use Rattle.lua_heap.specs.Plain.{plain}
use Rattle.move_laws.specs.Memory.{Runs, ChangesStack, HasStack, Makes, StandsAt, StaysOnTop}
use Rattle.move_laws.proofs.Running.{with_top, place_after, lua_top, registers_there, own_made}
use Rattle.move_laws.proofs.Order.{listed_after}
use Rattle.machine_moves.specs.Lending.{running_with, with_running}
use Rattle.machine_moves.specs.Moves.{RunsOn}
use Rattle.machine_moves.proofs.Stacks.{with_stack}
use Rattle.machine_moves.proofs.OnTop.{has_running, kept_whole, popped_is, runs_after}

-- the running coroutine is the last of the chain
pub put_there : (W : Memory) (co : CoroId) {s : KeptStack} (t : KeptStack) → Runs W co s → with_stack W co t ≡ with_running W t
put_there W co t r = ap (λ o. record W { coros = running_with o W.coros t }) (sym r.chain)

module _ {W : Memory} {s : KeptStack} (r : RunsOn W s) where
  pub changes_on : (t : KeptStack) → ChangesStack W (with_running W t) r.co t
  changes_on t = record { rest = refl; objects = ap (λ o. (running_with o W.coros t).objects) r.runs.chain }

  pub top_on : (place : Place) → place_of (plain W 0) ≡ Some place → HasLuaTop s
  top_on place is = lua_top W r.co s place r.runs is

  pub registers_on : (place : Place) (n : ℕ) → place_of (plain W 0) ≡ Some place → n ≤ length place.top.own.registers → HasRegisters s n
  registers_on place n is room = registers_there W r.co s place n r.runs is room

  -- a move of the machine that is a change of the frame on top
  pub own_on : {t : KeptStack} {change : (Kept → Value) → LuaFrame → LuaFrame} (place : Place) (m : Own) (env : List Value)
      → place_of (plain W 0) ≡ Some place → fits m place.function.code place.top.own ≡ true → TopBecomes s t change
      → ((number frame : ℕ) (cells : List Cell) → cells_after m number frame place.top.own cells ≡ cells)
      → record place.top { own = effect m place.function.code env place.top.own } ≡ change (value W.strings) place.top
      → Makes W (with_running W t) (on_own m) env (reads m place.function.code env place.top.own) (tells m place.function.code env place.top.own)
  own_on {t} {change} place m env is fit becomes cells same = own_made W (with_running W t) r.co s t place change m env r.runs is fit (changes_on t) becomes cells same

  -- the frame on top still stands where it stood
  pub stands_on : {t : KeptStack} {change : (Kept → Value) → LuaFrame → LuaFrame} → TopBecomes s t change
      → ((u : LuaFrame) → (change (value W.strings) u).function ≡ u.function) → ((u : LuaFrame) → (change (value W.strings) u).own.pc ≡ u.own.pc)
      → (pc : ℕ) → StandsAt W pc → StandsAt (with_running W t) pc
  stands_on {t} {change} becomes function same pc k = record {
    place = with_top k.place (change (value W.strings) k.place.top);
    is = place_after W (with_running W t) r.co s t k.place change r.runs k.is (changes_on t) becomes (function k.place.top);
    at = same k.place.top ∙ k.at;
  }

  pub listed_on : (t : KeptStack) → t.open_cells ≡ s.open_cells → CellsAreListed W → CellsAreListed (with_running W t)
  listed_on t cells = listed_after W (with_running W t) r.co s t r.runs (changes_on t) cells

  pub stays_on : {t : KeptStack} {change : (Kept → Value) → LuaFrame → LuaFrame} → TopBecomes s t change
      → ((u : LuaFrame) → (change (value W.strings) u).function ≡ u.function) → ((u : LuaFrame) → (change (value W.strings) u).own.pc ≡ u.own.pc) → StaysOnTop W (with_running W t)
  stays_on {t} becomes function same = record { at = stands_on becomes function same; listed = listed_on t becomes.cells; rest = refl }

  pub kept_on : (t : KeptStack) → t ≡ s → with_running W t ≡ W
  kept_on t same = sym (put_there W r.co t r.runs) ∙ kept_whole W r.co s t r.runs same

  pub runs_on : (t : KeptStack) → HasStack (with_running W t)
  runs_on t = has_running (with_running W t) r.co t (runs_after W (with_running W t) r.co s t r.runs (changes_on t))

  pub popped_on : (t : KeptStack) (env : List Value) → t.frames ≡ without_last s.frames → Makes W (with_running W t) pop_frame env [] tt
  popped_on t env frames = popped_is W (with_running W t) r.co s t env r.runs (changes_on t) frames
