-- Values that are known of variables in frames below, and what is read of them.
use Rattle.std.specs.Prelude.{◌≡◌, ◌+◌, ℕ, List, Option, Some, IfSome, slice_get, slice_set}
use Rattle.code_core.specs.declared.instruction.Instruction.{Instruction}
use Rattle.code_core.specs.declared.opcode.Opcode.TheVariants.{GetUpval}
use Rattle.code_core.specs.Instruction.{a_of, b_of, opcode_of}
use Rattle.lua_stack.specs.Frames.{register_in}
use Rattle.lua_heap.specs.Reading.{value}
use Rattle.lua_heap.specs.declared.world.Cell.{Cell}
use Rattle.lua_heap.specs.declared.world.Cell.TheVariants.{Open}
use Rattle.machine_view.specs.View.{Around}
use Rattle.machine_loop.specs.declared.memo.Known.{Known}
use Rattle.machine_loop.specs.declared.memo.Memo.{Memo}
use Rattle.table_core.specs.declared.value.CellId.{CellId}
use Rattle.table_core.specs.declared.value.CoroId.{CoroId}
use Rattle.table_core.specs.declared.value.Value.{Value as Kept}

-- the variable of an upvalue stands in a register of a frame below, and has this value
pub record HasValue (g : Around) (upvalues : List CellId) (cells : List Cell) (u : ℕ) (v : Kept) : Type 0 where
  pub id : CellId
  pub named : slice_get upvalues u ≡ Some id
  pub coroutine : CoroId
  pub frame : ℕ
  pub register : ℕ
  pub own : coroutine.0 ≡ g.context.coroutine
  pub holds : slice_get cells id.0 ≡ Some (Open coroutine frame register)
  pub stands : register_in frame register g.context.below ≡ Some (value g.texts v)

-- so it is with all that are known
pub record AllHold (g : Around) (upvalues : List CellId) (cells : List Cell) (memo : Memo) : Type 0 where
  pub first : IfSome memo.first (λ k. HasValue g upvalues cells k.upvalue k.value)
  pub second : IfSome memo.second (λ k. HasValue g upvalues cells k.upvalue k.value)
  pub third : IfSome memo.third (λ k. HasValue g upvalues cells k.upvalue k.value)

-- this is known of an upvalue
pub record Tells (known : Option Known) (u : ℕ) (v : Kept) : Type 0 where
  pub entry : Known
  pub is : known ≡ Some entry
  pub upvalue : entry.upvalue ≡ u
  pub told : entry.value ≡ v

pub data Remembers (memo : Memo) (u : ℕ) (v : Kept) : Type 0 where
  by_first : Tells memo.first u v → Remembers memo u v
  by_second : Tells memo.second u v → Remembers memo u v
  by_third : Tells memo.third u v → Remembers memo u v

-- one more is known
pub data Adds (memo : Memo) (entry : Known) (more : Memo) : Type 0 where
  to_first : more ≡ record memo { first = Some entry } → Adds memo entry more
  to_second : more ≡ record memo { second = Some entry } → Adds memo entry more
  to_third : more ≡ record memo { third = Some entry } → Adds memo entry more

-- a GETUPVAL of what is known writes a register
pub record ReadsValue (memo : Memo) (w : Instruction) (r s : List Kept) (pc to : ℕ) : Type 0 where
  pub given : Kept
  pub known : Remembers memo (b_of w) given
  pub written : s ≡ slice_set r (a_of w) given
  pub next : to ≡ pc + 1

pub record ReadsKnown (words : List Instruction) (memo : Memo) (r s : List Kept) (pc to : ℕ) : Type 0 where
  pub word : Instruction
  pub at_pc : slice_get words pc ≡ Some word
  pub is_read : opcode_of word ≡ Some GetUpval
  pub reads : ReadsValue memo word r s pc to
