-- A register of the function on top gets a cell: what is known at the exits of that step.
use Rattle.std.proofs.Common.{◌≡◌, ℕ, [], ◌∷◌, ◌++◌, List, Some, None, length, ap, sym, subst, ◌∙◌}
use Rattle.std.specs.Prelude.{slice_get, slice_set}
use Rattle.int_core.specs.Value.{last}
use Rattle.list_laws.proofs.Items.{some_same}
use Rattle.machine_core.specs.World.{Stack, stack_of}
use Rattle.lua_stack.specs.Frames.{KeptStack, cell_at, top_number}
use Rattle.table_core.specs.declared.value.CellId.{CellId}
use Rattle.table_core.specs.declared.value.CoroId.{CoroId}
use Rattle.lua_heap.specs.declared.world.Cell.{Cell as KeptCell}
use Rattle.lua_heap.specs.declared.world.Cell.TheVariants.{Open}
use Rattle.lua_heap.specs.declared.world.Coro.{Coro}
use Rattle.lua_heap.specs.declared.world.Coro.TheVariants.{Running}
use Rattle.lua_heap.specs.declared.world.World.{World as Memory}
use Rattle.lua_heap.specs.Captures.{HasTopRegister, OpensOnTop, cell_on_top, with_open_cell}
use Rattle.lua_heap.specs.Cells.{CellsAreListed}
use Rattle.lua_heap.specs.Plain.{plain}
use Rattle.lua_heap.proofs.Captured.{new_found, new_listed_all, new_plain, refused_listed, refused_plain}

-- the register has a cell that it had not
pub record OpensCell (W new : Memory) (register : ℕ) (id : CellId) : Type 0 where
  pub opens : (fuel : ℕ) (s : Stack) → stack_of (plain W fuel) ≡ Some s → plain new fuel ≡ with_open_cell (plain W fuel) s register
  pub finds : (fuel : ℕ) (s : Stack) → stack_of (plain W fuel) ≡ Some s → cell_on_top (plain new fuel) s register ≡ Some id.0
  pub lists : CellsAreListed new

module _ (W : Memory) (co : CoroId) (register : ℕ) (h : HasTopRegister W register) (top : last W.chain.items ≡ Some co) where
  top_is : co ≡ h.number
  top_is = some_same _ _ (sym top ∙ h.last)

  pub top_runs : slice_get W.coros.objects co.0 ≡ Some (Running h.stack)
  top_runs = ap (λ (k : CoroId). slice_get W.coros.objects k.0) top_is ∙ h.there

  pub runs_as : (coro : Coro) → slice_get W.coros.objects co.0 ≡ Some coro → coro ≡ Running h.stack
  runs_as coro got = some_same _ _ (sym got ∙ top_runs)

  -- where the stack refuses the cell
  pub refused_lists : (new : Memory) (d now : Coro) → slice_get W.coros.objects co.0 ≡ Some now → d ≡ now → CellsAreListed W → new.cells.objects ≡ W.cells.objects → new.coros.objects ≡ slice_set W.coros.objects co.0 d
      → CellsAreListed new
  refused_lists new d now got kept listed cells coros = refused_listed W new co.0 (Running h.stack) d listed cells top_runs (kept ∙ runs_as now got) coros

  pub refused_means : (new : Memory) (d now : Coro) → slice_get W.coros.objects co.0 ≡ Some now → d ≡ now → new ≡ record W { cells = new.cells; coros = new.coros } → new.cells.objects ≡ W.cells.objects
      → new.coros.objects ≡ slice_set W.coros.objects co.0 d → (fuel : ℕ) → plain new fuel ≡ plain W fuel
  refused_means new d now got kept rest cells coros fuel = refused_plain W new fuel co.0 (Running h.stack) d rest cells top_runs (kept ∙ runs_as now got) coros

  -- where it takes it
  pub opens_cell : (new : Memory) (d now seen : Coro) (id : CellId) (frame : ℕ) (pool : List KeptCell) → CellsAreListed W → slice_get W.coros.objects co.0 ≡ Some seen
      → ((stack : KeptStack) → seen ≡ Running stack → None ≡ cell_at (top_number stack) register stack.open_cells) → slice_get W.coros.objects co.0 ≡ Some now → OpensOnTop now d frame register id
      → pool ≡ W.cells.objects → id.0 ≡ length pool → new.cells.objects ≡ pool ++ Open co frame register ∷ [] → new ≡ record W { cells = new.cells; coros = new.coros }
      → new.coros.objects ≡ slice_set W.coros.objects co.0 d → OpensCell W new register id
  opens_cell new d now seen id frame pool listed got none got_now own same size placed rest coros =
      let o : OpensOnTop (Running h.stack) d frame register id = subst (λ k. OpensOnTop k d frame register id) (runs_as now got_now) own in
      let number : id.0 ≡ length W.cells.objects = size ∙ ap length same in
      let free : cell_at (top_number h.stack) register h.stack.open_cells ≡ None = sym (none h.stack (runs_as seen got)) in
      let cells : new.cells.objects ≡ W.cells.objects ++ Open co frame register ∷ [] = placed ∙ ap (λ xs. xs ++ Open co frame register ∷ []) same in
      record {
        opens = λ fuel s e. new_plain W new co h.stack d id frame register listed top top_runs o number free rest cells coros fuel s e;
        finds = λ fuel s e. new_found W new co h.stack d id frame register listed top top_runs o number free rest cells coros fuel s e;
        lists = new_listed_all W new co h.stack d id frame register listed top top_runs o number free rest cells coros;
      }
