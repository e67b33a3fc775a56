-- Operands that all have texts, which are joined at once.
use Rattle.std.specs.Prelude.{◌≡◌, ℕ, zero, suc, ◌+◌, ◌≤◌, List, [], ◌∷◌, ◌++◌, Some, length}
use Rattle.int_core.specs.Operations.{text_of}
use Rattle.int_core.specs.Value.{Value, greatest_string, shape}
use Rattle.machine_core.specs.Text.{read_register}
use Rattle.machine_core.specs.Moves.{on_own}
use Rattle.table_core.specs.declared.value.Value.{Value as Kept}
use Rattle.lua_heap.specs.declared.world.World.{World as Memory}
use Rattle.lua_heap.specs.Reading.{value}
use Rattle.move_laws.specs.Memory.{Makes}

-- a register has a value with this text
pub record HasText (W : Memory) (register : ℕ) (text : List ℕ) : Type 0 where
  pub operand : Kept
  pub reads : (env : List Value) → Makes W W (on_own (read_register register)) env (value W.strings operand ∷ []) (shape (value W.strings operand))
  pub has : text_of (value W.strings operand) ≡ Some text

-- so many registers from one on have values with texts, and these behind each other are this one
pub data AreTexts (W : Memory) (first : ℕ) : ℕ → List ℕ → Type 0 where
  no_texts : AreTexts W first zero []
  one_text : (n : ℕ) (text piece : List ℕ) → AreTexts W first n text → HasText W (first + n) piece → AreTexts W first (suc n) (text ++ piece)

-- with that of a last value they are a text that a string may have
pub record AreWhole (W : Memory) (first count : ℕ) (last : Kept) (text : List ℕ) : Type 0 where
  pub some : 1 ≤ count
  pub short : length text ≤ greatest_string
  pub front : List ℕ
  pub piece : List ℕ
  pub are : AreTexts W first count front
  pub has : text_of (value W.strings last) ≡ Some piece
  pub is : text ≡ front ++ piece
