-- What is looked at first: room for the frame that closes a coroutine, and the cells of a new function.
use Rattle.std.proofs.Common.{◌≡◌, ℕ, false, cond, List, ◌∷◌, None, ap}
use Rattle.std.specs.Prelude.{option_map}
use Rattle.int_core.specs.Value.{bind}
use Rattle.int_core.specs.Limits.{stack_overflow}
use Rattle.int_core.specs.Ask.{CellName, of_upvalue}
use Rattle.tree_core.specs.Tree.{Body}
use Rattle.tree_activation.specs.Work.{Celling, State}
use Rattle.lua_meaning.specs.World.{Frame, suspended, dead, World, has_room, cell_of, raises_text}
use Rattle.lua_meaning.specs.Calls.{put_coroutine, all_pending, closes_on, closes_coroutine}
use Rattle.lua_meaning.specs.Asks.{cells_named}
use Rattle.lua_meaning.specs.TreeMeaning.{trees}

-- where there is no room, a coroutine is not closed and not made dead
no_room : (celling : Celling) (W : World Body State) (co : ℕ) (frames : List (Frame State)) → has_room W ≡ false → closes_coroutine (trees celling) W co (suspended frames) ≡ raises_text W stack_overflow
no_room celling W co frames full =
    let system = trees celling in
    ap (λ b. cond b (closes_on system (put_coroutine W co dead) None (all_pending system W frames) W.frames) (raises_text W stack_overflow)) full

-- a function with a cell that is not there is not made
no_cell : (W : World Body State) (maker u : ℕ) (names : List CellName) → cell_of W maker u ≡ None → cells_named W maker (of_upvalue u ∷ names) ≡ None
no_cell W maker u names none = ap (λ o. bind o (λ c. option_map (λ cells. c ∷ cells) (cells_named W maker names))) none
