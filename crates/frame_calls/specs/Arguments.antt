-- The values that an instruction takes behind a register: so many as it says, or those up to the end of an open list.
use Rattle.std.specs.Prelude.{◌≡◌, ◌+◌, ℕ, suc, List, Some, slice_get}
use Rattle.code_core.specs.declared.instruction.Instruction.{Instruction}
use Rattle.code_core.specs.Check.{leaves, open_from}
use Rattle.code_core.specs.Instruction.{a_of, b_of}
use Rattle.lua_stack.specs.Frames.{KeptStack, OnTop}

-- the instruction before a place
pub record IsInFront (words : List Instruction) (pc : ℕ) (before : Instruction) : Type 0 where
  pub front : ℕ
  pub next : pc ≡ suc front
  pub there : slice_get words front ≡ Some before

-- the open list that the instruction in front of a place leaves ends there, at the register behind its last value
pub record ListEnds (s : KeptStack) (words : List Instruction) (pc end : ℕ) : Type 0 where
  pub before : Instruction
  pub in_front : IsInFront words pc before
  pub from : ℕ
  pub is_open : leaves before ≡ open_from from
  pub many : ℕ
  pub counts : OnTop s (λ f t. many ≡ t.own.opened)
  pub ends : end ≡ from + many

-- a call gives so many values: as many as it says, or those behind its register up to the end of the list
pub data AreArguments (s : KeptStack) (words : List Instruction) (pc : ℕ) (w : Instruction) (given : ℕ) : Type 0 where
  by_count : b_of w ≡ suc given → AreArguments s words pc w given
  by_list : b_of w ≡ 0 → (end : ℕ) → ListEnds s words pc end → end ≡ a_of w + 1 + given → AreArguments s words pc w given
