-- What most frames stop at, as changes of a stack.
use Rattle.std.specs.Prelude.{◌≡◌, ℕ, suc, List}
use Rattle.code_core.specs.declared.instruction.Instruction.{Instruction}
use Rattle.lua_stack.specs.Frames.{KeptStack}
use Rattle.frame_calls.specs.declared.stop.Stop.{Stop}
use Rattle.frame_calls.specs.Calling.{CallsIn, IteratesIn, Program, TailCallsIn, program_of}
use Rattle.frame_calls.specs.Listing.{WritesVarargs}
use Rattle.frame_calls.specs.Opening.{ReturnsList}
use Rattle.frame_calls.specs.Returning.{ReturnsIn, ReturnsOpen}

-- a Lua function is called for a unit of the budget, values go back to a Lua frame below, or extra arguments to registers
pub data CrossesOver (s u : KeptStack) (size : ℕ) (program : Program) (words : List Instruction) (pc : ℕ) (w : Instruction) (fuel left : ℕ) : Type 0 where
  by_call : CallsIn s u size program words pc w fuel left → CrossesOver s u size program words pc w fuel left
  by_tail_call : TailCallsIn s u program words pc w fuel left → CrossesOver s u size program words pc w fuel left
  by_iterator_call : IteratesIn s u size program w fuel left → CrossesOver s u size program words pc w fuel left
  by_counted_return : ReturnsIn s u program w → left ≡ fuel → CrossesOver s u size program words pc w fuel left
  by_list_return : ReturnsList s u program w → left ≡ fuel → CrossesOver s u size program words pc w fuel left
  by_open_return : ReturnsOpen s u program words pc w → left ≡ fuel → CrossesOver s u size program words pc w fuel left
  by_varargs : WritesVarargs s u words pc w → left ≡ fuel → CrossesOver s u size program words pc w fuel left

-- at the instruction where a frame stops
abbrev pub CrossesAt : (s u : KeptStack) → Stop → (fuel left : ℕ) → Type 0
CrossesAt s u stop fuel left = CrossesOver s u stop.size (program_of stop.functions) stop.words.now stop.pc stop.word fuel left

-- for a unit of any budget, or for none
abbrev pub EntersAt : (s u : KeptStack) → Stop → Type 0
EntersAt s u stop = (fuel left : ℕ) → fuel ≡ suc left → CrossesAt s u stop fuel left

abbrev pub LeavesAt : (s u : KeptStack) → Stop → Type 0
LeavesAt s u stop = (fuel : ℕ) → CrossesAt s u stop fuel fuel
