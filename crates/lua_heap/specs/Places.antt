-- Where the frames of the running coroutine are in the text of their sources, by what is kept.
use Rattle.std.specs.Prelude.{ℕ, List, Option, Some, None, slice_get, reverse, filter_map}
use Rattle.int_core.specs.Value.{bind, last}
use Rattle.code_core.specs.Prototype.{Prototype}
use Rattle.machine_core.specs.Moves.{line_of}
use Rattle.table_core.specs.declared.value.FuncId.{FuncId}
use Rattle.lua_stack.specs.Frames.{KeptFrame, KeptStack, kept_place}
use Rattle.lua_heap.specs.declared.world.Coro.{Coro}
use Rattle.lua_heap.specs.declared.world.Coro.TheVariants.{Fresh, Suspended, Running, Normal, Dead, Failed}
use Rattle.lua_heap.specs.declared.world.World.{World as Memory}
use Rattle.lua_heap.specs.Codes.{functions, prototype_at}

-- the source's name and the line of an instruction
abbrev pub line_in : Prototype → ℕ → Option (List ℕ × ℕ)
line_in p pc = bind p.own.source (λ name. bind (line_of p pc) (λ line. Some (name, line)))

-- those of an instruction of a function by its number
abbrev pub place_in : Memory → FuncId × ℕ → Option (List ℕ × ℕ)
place_in W place = bind (slice_get W.funcs.objects place.0.0) (λ g. line_in (prototype_at (functions W.codes) g.code.0) place.1)

-- the nth such place from the top of a stack, counted from 0
abbrev pub nth_place : Memory → List KeptFrame → ℕ → Option (List ℕ × ℕ)
nth_place W frames level = slice_get (filter_map (λ f. bind (kept_place (Some f)) (place_in W)) (reverse frames)) level

abbrev pub stack_if_runs : Coro → Option KeptStack
stack_if_runs (Running stack) = Some stack
stack_if_runs (Fresh body) = None
stack_if_runs (Suspended stack) = None
stack_if_runs (Normal stack) = None
stack_if_runs Dead = None
stack_if_runs (Failed error pending) = None

-- the stack of the coroutine that runs
abbrev pub running_stack : Memory → Option KeptStack
running_stack W = bind (last W.chain.items) (λ co. bind (slice_get W.coros.objects co.0) stack_if_runs)
