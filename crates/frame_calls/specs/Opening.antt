-- Returns to a Lua frame that waits for a call and takes all that come as an open list, as changes of a stack.
use Rattle.std.specs.Prelude.{◌≡◌, ◌+◌, ◌<◌, ◌≤◌, ℕ, List, Some, length, slice_get}
use Rattle.code_core.specs.declared.instruction.Instruction.{Instruction}
use Rattle.code_core.specs.declared.opcode.Opcode.TheVariants.{Call}
use Rattle.code_core.specs.Instruction.{a_of, b_of, c_of, opcode_of}
use Rattle.lua_stack.specs.declared.frame.LuaState.{LuaState}
use Rattle.lua_stack.specs.declared.frame.Wait.TheVariants.{ForCall}
use Rattle.lua_stack.specs.Frames.{KeptStack, TopBecomes, with_opened}
use Rattle.frame_calls.specs.declared.returning.Taker.{Taker}
use Rattle.frame_calls.specs.Returning.{HandsBack, IsTakerBelow, TakesBy, count_of}
use Rattle.frame_calls.specs.Standing.{IsClosedFrom}
use Rattle.frame_calls.specs.Calling.{Program}

-- a frame waits at a CALL that takes all values that come: so many of them, which is at most two, in registers of the frame
pub record IsListTaker (words : List Instruction) (c : LuaState) (count : ℕ) (t : Taker) : Type 0 where
  pub word : Instruction
  pub at_pc : slice_get words c.pc ≡ Some word
  pub is_call : opcode_of word ≡ Some Call
  pub takes_all : c_of word ≡ 0
  pub waits : c.wait ≡ ForCall
  pub register : t.register ≡ a_of word
  pub many : t.count ≡ count
  pub few : t.count ≤ 2
  pub there : t.register < c.size
  pub room : t.register + t.count ≤ c.size
  pub next : t.to ≡ c.pc + 1
  pub within : t.to < length words

abbrev pub TakesListIn : Program → LuaState → (count : ℕ) → Taker → Type 0
TakesListIn program c count t = TakesBy program c (λ words. IsListTaker words c count t)

-- the frame on top, in which nothing is open or to be closed, is gone, and its values are an open list of the one below
pub record ReturnsList (s u : KeptStack) (program : Program) (w : Instruction) : Type 0 where
  pub count : ℕ
  pub is : count_of (opcode_of w) (b_of w) ≡ Some count
  pub closed : IsClosedFrom s 0
  pub taker : Taker
  pub below : IsTakerBelow s (λ c. TakesListIn program c count taker)
  pub handed : KeptStack
  pub back : HandsBack s handed (a_of w) count taker
  pub opens : TopBecomes handed u (λ f t. with_opened count t)
