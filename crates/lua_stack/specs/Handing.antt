-- How a frame that calls a function hands over to the frame of that function.
use Rattle.std.specs.Prelude.{◌≡◌, ℕ, ◌+◌, ◌≤◌, List, [], ◌∷◌, ◌++◌, length, filter, take, nat_lt}
use Rattle.table_core.specs.declared.value.Value.{Value as Kept}
use Rattle.lua_stack.specs.declared.frame.Callee.{Callee}
use Rattle.lua_stack.specs.declared.frame.Layout.{Layout}
use Rattle.lua_stack.specs.declared.frame.Pause.{Pause}
use Rattle.lua_stack.specs.declared.frame.Record.{Record}
use Rattle.lua_stack.specs.View.{IsLaidOut, begun_at, part, waiting_at}

-- the frame on top waits behind those below, with what it keeps of the pending registers, and the called function's frame begins over its arguments
pub record IsHandedOver (pause : Pause) (callee : Callee) (top : Record) (old_values : List Kept) (old_pending : List ℕ) (old_below : List Record) (new_values : List Kept) (new_pending : List ℕ) (new_below : List Record) (new_top : Record) : Type 0 where
  pub marked : ℕ
  pub layout : Layout
  pub laid : IsLaidOut callee.place callee.given callee.shape old_values new_values layout
  pub waits : new_below ≡ old_below ++ waiting_at top pause.wait pause.kept pause.size marked ∷ []
  pub begins : new_top ≡ begun_at callee.function layout callee.shape.stack (top.window.marks + marked)
  pub marks : part top.window.marks marked new_pending ≡ filter (λ q. nat_lt q pause.keeps) (part top.window.marks top.window.marked old_pending)
  pub fewer : marked ≤ top.window.marked
  pub front : take top.window.marks new_pending ≡ take top.window.marks old_pending
  pub as_many : length new_pending ≡ length old_pending
