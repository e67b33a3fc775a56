-- Reads and operators whose handler is a Lua function, which is called over the frame that asks for it (Lua 5.4 manual, 2.4).
use Rattle.std.specs.Prelude.{◌≡◌, ◌⊎◌, ◌+◌, ◌≤◌, ℕ, suc, List, [], ◌∷◌, ◌++◌, Option, Some, None, length, map, option_map, slice_get}
use Rattle.code_core.specs.declared.instruction.Instruction.{Instruction}
use Rattle.code_core.specs.declared.opcode.Opcode.{Opcode}
use Rattle.code_core.specs.declared.opcode.Opcode.TheVariants.{GetTable, GetField, MmBin}
use Rattle.code_core.specs.Instruction.{a_of, b_of, c_of, opcode_of}
use Rattle.int_core.specs.Limits.{greatest_depth}
use Rattle.int_core.specs.Operations.{Operation, arithmetic, ask, does, index}
use Rattle.int_core.specs.Value.{Value, known, nil}
use Rattle.machine_core.specs.World.{Frame, LuaFrame, for_value, lua, running}
use Rattle.table_core.specs.Table.{Contents}
use Rattle.table_core.specs.declared.value.FuncId.{FuncId}
use Rattle.table_core.specs.declared.value.Value.{Value as Kept}
use Rattle.table_core.specs.declared.value.Value.TheVariants.{Nil, Func as a_func}
use Rattle.lua_stack.specs.Frames.{Enters, KeptStack, OnTop, TopBecomes, frames, with_wait}
use Rattle.lua_heap.specs.declared.world.Cell.{Cell}
use Rattle.lua_heap.specs.Plain.{heap}
use Rattle.lua_heap.specs.Reading.{value}
use Rattle.machine_arms_tables.specs.Frame.{Code}
use Rattle.machine_core.specs.InstructionRows.{event_numbered}
use Rattle.meta_ops.specs.Events.{event_of}
use Rattle.meta_ops.specs.declared.event.Event.{Event as Variant}
use Rattle.meta_ops.specs.declared.event.Event.TheVariants.{Add, Sub, Mul, Mod, IDiv, BAnd, BOr, BXor, Shl, Shr}
use Rattle.running_frame.specs.declared.asking.Asked.{Asked}
use Rattle.running_frame.specs.declared.asking.Kind.{Kind}
use Rattle.running_frame.specs.declared.asking.Kind.TheVariants.{Read, Operator}
use Rattle.frame_calls.specs.declared.stop.Stop.{Stop}
use Rattle.frame_calls.specs.Calling.{HasShapeIn, Program, program_of}
use Rattle.running_frame.specs.Storing.{StoresOpen}

-- the operators by the numbers that MMBIN tells, from 6 on
abbrev pub handled_events : List Variant
handled_events = Add ∷ Sub ∷ Mul ∷ Mod ∷ Add ∷ Add ∷ IDiv ∷ BAnd ∷ BOr ∷ BXor ∷ Shl ∷ Shr ∷ []

abbrev pub operation_of : Kind → Operation
operation_of Read = index
operation_of (Operator event) = arithmetic (event_of event)

-- what an instruction asks for
abbrev pub operation_at : Option Opcode → (c : ℕ) → Option Operation
operation_at (Some GetTable) c = Some index
operation_at (Some GetField) c = Some index
operation_at (Some MmBin) c = option_map arithmetic (event_numbered c)
operation_at _ c = None

-- the two values that it names: an object and a key, or two operands
pub data Names (registers constants : List Kept) (w : Instruction) (object key : Kept) : Option Opcode → Type 0 where
  by_register : slice_get registers (b_of w) ≡ Some object → slice_get registers (c_of w) ≡ Some key → Names registers constants w object key (Some GetTable)
  by_name : slice_get registers (b_of w) ≡ Some object → slice_get constants (c_of w) ≡ Some key → Names registers constants w object key (Some GetField)
  by_operands : slice_get registers (a_of w) ≡ Some object → slice_get registers (b_of w) ≡ Some key → Names registers constants w object key (Some MmBin)

-- a Lua function is asked for what the operation gives, with these two arguments
abbrev pub AsksFor : List (List ℕ) → List Contents → (string_metatable : Option ℕ) → Operation → (object key : Kept) → FuncId → (first : Kept) → Type 0
AsksFor texts tables meta operation object key id first = does operation (value texts object ∷ value texts key ∷ []) (heap texts tables meta) ≡ ask (value texts (a_func id)) (value texts first ∷ value texts key ∷ [])

-- for what an instruction of the frame on top asks this is called
pub record IsAsked (s : KeptStack) (texts : List (List ℕ)) (constants : List Kept) (tables : List Contents) (meta : Option ℕ) (program : Program) (w : Instruction) (call : Asked) : Type 0 where
  pub registers : List Kept
  pub are : OnTop s (λ f t. map f registers ≡ t.own.registers)
  pub object : Kept
  pub names : Names registers constants w object call.key (opcode_of w)
  pub operation : Operation
  pub is_operation : operation_at (opcode_of w) (c_of w) ≡ Some operation
  pub asks : AsksFor texts tables meta operation object call.key call.id call.first
  pub has : HasShapeIn program call.id call.shape
  pub room : length s.frames + 1 ≤ greatest_depth

-- the frame on top waits for a value, and the function's frame is over it
pub record EntersOver (s u : KeptStack) (call : Asked) : Type 0 where
  pub waiting : KeptStack
  pub waits : TopBecomes s waiting (λ f t. with_wait for_value t)
  pub enters : Enters waiting u call.id call.shape (call.first ∷ call.key ∷ [])

-- all this for a unit of the budget
pub record AsksOver (s u : KeptStack) (texts : List (List ℕ)) (constants : List Kept) (tables : List Contents) (meta : Option ℕ) (program : Program) (w : Instruction) (fuel left : ℕ) : Type 0 where
  pub call : Asked
  pub is : IsAsked s texts constants tables meta program w call
  pub paid : fuel ≡ suc left
  pub enters : EntersOver s u call

-- a stack on which a Lua frame runs is read as before
pub record ReadSame (s u : KeptStack) : Type 0 where
  pub frames_are : (f : Kept → Value) → f Nil ≡ known nil → (below : List Frame) (t : LuaFrame) → t.wait ≡ running → frames f s ≡ below ++ lua t ∷ [] → frames f u ≡ below ++ lua t ∷ []

-- a store to a variable of a frame below, or such a read
abbrev pub ReachesOut : (co : ℕ) → Code → (s u : KeptStack) → List Contents → (meta : Option ℕ) → List Cell → Stop → (fuel left : ℕ) → Type 0
ReachesOut co k s u tables meta cells stop fuel left =
    (StoresOpen co k.upvalues stop.words.now s u cells stop.pc stop.word × (left ≡ fuel)) ⊎ AsksOver s u k.texts k.constants tables meta (program_of stop.functions) stop.word fuel left
