-- Jumps out of a piece of tree (Lua 5.4 manual, 3.3.4): what can be reached, and the two instructions of a `goto` and of a `break`.
use Rattle.std.specs.Prelude.{ℕ, ◌+◌, ◌-◌, Bool, true, false, cond, List, [], ◌∷◌, nat_le, Option, Some, None, bytes_eq}
use Rattle.code_core.specs.declared.opcode.Opcode.TheVariants.{Close}
use Rattle.code_of.specs.Coded.{Coded, with_abc, jump_over, jump_back}

-- where a jump leads: a place of the code, and how many locals stay in scope
pub record Landing : Type 0 where
  pub place : ℕ
  pub level : ℕ

pub record Visible : Type 0 where
  pub name : List ℕ
  pub landing : Landing

-- the labels of the blocks around, the nearest first, and the end of the innermost loop
pub record Reach : Type 0 where
  pub labels : List Visible
  pub exit : Option Landing

abbrev pub label_in : List ℕ → List Visible → Option Landing
label_in name [] = None
label_in name (x ∷ labels) = cond (bytes_eq x.name name) (Some x.landing) (label_in name labels)

-- where something may be open among the locals of the function, those that a jump leaves are closed first, if there are any or not: how long a jump is
-- does not hang on where it leads
abbrev pub jump_code : (closes : Bool) → Landing → (pc line : ℕ) → List Coded
jump_code true x pc line =
    with_abc Close x.level 0 0 line
    ∷ cond (nat_le (pc + 2) x.place) (jump_over (x.place - (pc + 2)) line) (jump_back (pc + 2 - x.place) line) ∷ []
jump_code false x pc line = cond (nat_le (pc + 1) x.place) (jump_over (x.place - (pc + 1)) line) (jump_back (pc + 1 - x.place) line) ∷ []

abbrev pub jump_size : (closes : Bool) → ℕ
jump_size true = 2
jump_size false = 1

-- the rules refuse a `goto` without its label and a `break` outside of loops: no tree that they pass has either
abbrev pub leads : (closes : Bool) → Option Landing → (pc line : ℕ) → List Coded
leads closes None pc line = jump_code closes (record { place = 0; level = 0 }) pc line
leads closes (Some x) pc line = jump_code closes x pc line
