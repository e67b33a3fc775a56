-- How many values are held at once while a tree is evaluated from left to right, each in a place of its own above the local variables. Counted on a tree with its places set.
use Rattle.std.specs.Prelude.{ℕ, ◌+◌, ◌*◌, ◌%◌, max, length}
use Rattle.tree_core.specs.declared.name.Place.{Place}
use Rattle.tree_core.specs.declared.name.Place.TheVariants.{GlobalIn, GlobalOf}
use Rattle.tree_core.specs.Tree.{Stat, Local, Assign, CallStat, While, If, IfElse, NumFor, NumForStep, GenFor, Arms, EndArms, MoreArms, Exps, EndExps, MoreExps, Exp, Index, Call, Method, Unary, Binary, And, Or, Paren, Table, Var, Fields, EndFields, MoreFields, Field, Item, Keyed, Nil, True, False, Int, Str, Vararg, Function}

abbrev pub count : Exps → ℕ
count EndExps = 0
count (MoreExps exp exps) = 1 + count exps

-- a positional item counts as one
abbrev pub positional : Field → ℕ
positional (Item value) = 1
positional (Keyed line key value) = 0

-- a global name holds the variable `_ENV` and its key
abbrev pub held_name : Place → ℕ
held_name (GlobalIn register) = 2
held_name (GlobalOf upvalue) = 2
held_name _ = 1

abbrev mutual
  pub held : Exp → ℕ
  held (Nil line) = 1
  held (True line) = 1
  held (False line) = 1
  held (Int line value) = 1
  held (Str line bytes) = 1
  held (Vararg line) = 1
  held (Function line body) = 1
  held (Var line name) = held_name name.place
  held (Index line indexed key) = max (held indexed) (1 + held key)
  held (Call line called arguments) =
      max (max 3 (count arguments + 1)) (max (held called) (held_behind 1 arguments))
  held (Method line object name arguments) =
      max (max 3 (count arguments + 2)) (max (held object) (held_behind 2 arguments))
  held (Unary line operator operand) = held operand
  held (Binary line operator left right) = max (held left) (1 + held right)
  held (And line left right) = max (held left) (1 + held right)
  held (Or line left right) = max (held left) (1 + held right)
  held (Paren line inner) = held inner
  held (Table line fields) = max 1 (held_fields 0 fields)

  -- a list whose values stand side by side behind some that are held already
  pub held_behind : ℕ → Exps → ℕ
  held_behind before EndExps = 0
  held_behind before (MoreExps exp exps) = max (before + held exp) (held_behind (before + 1) exps)

  -- fields behind some positional items; the table itself and up to 50 items are held
  pub held_fields : ℕ → Fields → ℕ
  held_fields items EndFields = 0
  held_fields items (MoreFields field fields) = max (1 + items % 50 + held_field field) (held_fields (items + positional field) fields)

  pub held_field : Field → ℕ
  held_field (Item value) = held value
  held_field (Keyed line key value) = max (held key) (1 + held value)

-- the targets of an assignment, each of which holds a table and a key, behind some values
abbrev pub held_targets : ℕ → Exps → ℕ
held_targets before EndExps = 0
held_targets before (MoreExps target more) = max (before + held target) (held_targets (before + 2) more)

abbrev pub held_tests : Arms → ℕ
held_tests EndArms = 0
held_tests (MoreArms test block arms) = max (held test) (held_tests arms)

-- the values that a statement holds at most above the variables in scope before it, without those of its blocks
abbrev pub held_stat : Stat → ℕ
held_stat (Local line names values) = held_behind 0 values
held_stat (Assign line targets values) =
    max (max (held_targets 0 targets) (held_behind (2 * count targets) values)) (3 * count targets)
held_stat (CallStat line call) = held call
held_stat (While line test block) = held test
held_stat (If line arms) = held_tests arms
held_stat (IfElse line arms otherwise) = held_tests arms
held_stat (NumFor line name first limit block) = held_behind 0 (MoreExps first (MoreExps limit EndExps))
held_stat (NumForStep line name first limit step block) =
    held_behind 0 (MoreExps first (MoreExps limit (MoreExps step EndExps)))
held_stat (GenFor line names values block) = max (held_behind 0 values) (4 + max 3 (length names))
held_stat _ = 0
