-- The Lua frame on top of a world in memory, held apart from that world.
use Rattle.std.specs.Prelude.{◌≡◌, ◌++◌, ◌∷◌, ℕ, [], Option, Some, None, slice_get}
use Rattle.std.specs.Option.{option_map}
use Rattle.int_core.specs.Value.{without_last}
use Rattle.machine_core.specs.World.{running, LuaFrame, lua, Place, place_of}
use Rattle.machine_core.specs.Moves.{go, Row}
use Rattle.machine_sound.specs.Laws.{SoundAfter, PrimitivesSafe}
use Rattle.lua_stack.specs.Frames.{KeptStack, frames}
use Rattle.lua_heap.specs.declared.world.World.{World as Memory}
use Rattle.lua_heap.specs.Codes.{no_code}
use Rattle.lua_heap.specs.Plain.{plain}
use Rattle.lua_heap.specs.Reading.{value}
use Rattle.machine_arms_tables.specs.Frame.{Code}
use Rattle.machine_loop.specs.Running.{Running}
use Rattle.move_laws.specs.Memory.{InOrder}
use Rattle.running_frame.specs.declared.place.Here.{Here}
use Rattle.running_frame.specs.Here.{is_none}

-- the frame on top of a stack is the one that is held apart, and is there in its code
pub record IsHereIn (g : Running) (k : Code) (s : KeptStack) (here : Here) : Type 0 where
  pub top : LuaFrame
  pub is : frames (value g.around.texts) s ≡ g.around.context.below ++ lua top ∷ []
  pub function : top.function ≡ g.around.context.function
  pub at_pc : top.own.pc ≡ here.pc
  pub word : slice_get k.words here.pc ≡ Some here.word
  pub runs : here.runs ≡ is_none top.wait

-- what the loop over the frame at a place does not change
abbrev pub apart : (primitives : ℕ) → (ℕ → Row) → Memory → Place → Running
apart primitives rows W at = record {
  around = record {
    rows = rows;
    primitives = primitives;
    texts = W.strings;
    context = record { base = plain W 0; coroutine = at.stack.coroutine; below = without_last at.stack.frames; function = at.top.function; closure = at.function };
    varargs = at.top.own.varargs;
    pending = at.top.own.pending;
    opened = at.top.own.opened;
  };
  string_metatable = option_map (λ m. m.0) W.string_meta;
}

-- where no Lua frame is on top, any place
abbrev pub place_or_any : Option Place → Place
place_or_any (Some at) = at
place_or_any None = record {
  stack = record { coroutine = 0; frames = [] };
  number = 0;
  top = record { function = 0; wait = running; own = record { pc = 0; registers = []; varargs = []; pending = []; opened = 0 } };
  function = record { code = no_code; cells = [] };
}

abbrev pub held_apart : (primitives : ℕ) → (ℕ → Row) → Memory → Running
held_apart primitives rows W = apart primitives rows W (place_or_any (place_of (plain W 0)))

-- the frame on top of a world in which nothing moves is held apart, and the machine may go on from there
pub record IsApart (g : Running) (W : Memory) : Type 0 where
  pub place : Place
  pub is : place_of (plain W 0) ≡ Some place
  pub held : g ≡ apart g.around.primitives g.around.rows W place
  pub still : W.moving.items ≡ []
  pub safe : PrimitivesSafe g.around.primitives g.around.rows
  pub after : SoundAfter g.around.primitives go (plain W 0)
  pub order : InOrder W
