-- Items of a constructor, whose table stands in register t. One of which nothing is asked while it is evaluated waits in a register behind t, with others of the kind, until
-- one instruction stores all of them: before any other field, at the end, and where the items come to a multiple of fifty.
use Rattle.std.specs.Prelude.{ℕ, ◌+◌, ◌%◌, ◌==◌, Bool, true, false}
use Rattle.tree_core.specs.declared.name.Place.{Place}
use Rattle.tree_core.specs.declared.name.Place.TheVariants.{Local as LocalPlace}
use Rattle.tree_core.specs.declared.operator.UnOp.TheVariants.{Not as Negation}
use Rattle.tree_core.specs.Tree.{Exp, Var, Unary, Paren}
use Rattle.code_of.specs.Operands.{is_literal}

abbrev pub is_own : Place → Bool
is_own (LocalPlace r) = true
is_own _ = false

abbrev pub waits : Exp → Bool
waits (Var line name) = is_own name.place
waits (Unary line Negation e) = waits e
waits (Paren line e) = waits e
waits e = is_literal e

abbrev pub is_full : (items : ℕ) → Bool
is_full items = items % 50 == 0

-- the register of an item, where so many wait in front of it
abbrev pub item_register : (wait : Bool) → (t waiting : ℕ) → ℕ
item_register true t waiting = t + 1 + waiting
item_register false t waiting = t + 1

-- behind an item, so many are stored, and so many wait

abbrev pub stored_behind : (wait full : Bool) → (stored waiting : ℕ) → ℕ
stored_behind true false stored waiting = stored
stored_behind true true stored waiting = stored + waiting + 1
stored_behind false full stored waiting = stored + waiting + 1

abbrev pub waiting_behind : (wait full : Bool) → (waiting : ℕ) → ℕ
waiting_behind true false waiting = waiting + 1
waiting_behind true true waiting = 0
waiting_behind false full waiting = 0

-- how many registers behind t an item names
abbrev pub item_room : (wait : Bool) → (waiting room : ℕ) → ℕ
item_room true waiting room = waiting + room
item_room false waiting room = room
