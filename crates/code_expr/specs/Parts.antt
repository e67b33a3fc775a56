-- What lists and constructors come to, expression by expression.
use Rattle.std.specs.Prelude.{ℕ, ◌+◌, Bool, cond, ◌&&◌, List, [], ◌++◌, None}
use Rattle.tree_core.specs.Tree.{Exp, Exps, Field, Item, Keyed}
use Rattle.code_core.specs.declared.proto.Const.{Const}
use Rattle.code_of.specs.Coded.{Coded}
use Rattle.code_of.specs.StoredValues.{stored_value}
use Rattle.code_of.specs.Stores.{is_quiet, field_key, keyed_store}
use Rattle.code_of.specs.Operands.{local_of, operand_code}
use Rattle.code_of.specs.Operators.{self_code}
use Rattle.code_of.specs.Items.{waits, is_full, item_register, stored_behind, waiting_behind}
use Rattle.code_of.specs.Expressions.{Wanted, results_field, one_less, made_by, exp_code, exps_code, set_list, waiting_code, item_code, is_open}
use Rattle.code_expr.specs.declared.items.Items.{Items}

-- the field C of an expression, and what is wanted behind it, where it fills the rest or does not

abbrev pub field_where : Bool → Wanted → ℕ
field_where fills wanted = cond fills (results_field wanted) 2

abbrev pub wanted_where : Bool → Wanted → Wanted
wanted_where fills wanted = cond fills None (one_less wanted)

-- how many items are stored, and how many wait

abbrev pub so_many : (stored waiting : ℕ) → Items
so_many stored waiting = record { stored = stored; waiting = waiting }

abbrev pub item_behind : (wait : Bool) → Items → Items
item_behind wait n = so_many (stored_behind wait (is_full (n.stored + n.waiting + 1)) n.stored n.waiting) (waiting_behind wait (is_full (n.stored + n.waiting + 1)) n.waiting)

abbrev pub items_behind : Field → Items → Items
items_behind (Item e) n = item_behind (waits e) n
items_behind (Keyed line e d) n = so_many (n.stored + n.waiting) 0

-- an item that waits, of which the code is given, and one that is stored by itself, where b says whether all its values are stored or the first one

abbrev pub held_code : (full : Bool) → List Coded → (stored waiting t line : ℕ) → List Coded
held_code full code stored waiting t line = code ++ cond full (set_list t (waiting + 1) stored line) []

abbrev pub alone_code : List Coded → (stored waiting b t line : ℕ) → List Coded
alone_code code stored waiting b t line = waiting_code stored waiting t line ++ (code ++ set_list t b (stored + waiting) line)

module _ (constants : List Const) where
  -- what is called and the arguments behind it
  abbrev pub passed_code : Exp → Exps → (t j line : ℕ) → List Coded
  passed_code f es t j line = exp_code constants f t j 2 ++ exps_code constants es None (t + 1) (j + made_by f) line

  -- a method with its object, and the arguments behind them
  abbrev pub method_code : Exp → (name : List ℕ) → Exps → (t j line : ℕ) → List Coded
  method_code object name es t j line =
      operand_code (local_of object) (exp_code constants object t j 2) t (λ x. self_code constants name x t line ++ exps_code constants es None (t + 2) (j + made_by object) line)

  -- one field of a constructor behind some items
  abbrev pub one_item : Exp → (whole : Bool) → Items → (t j line : ℕ) → List Coded
  one_item e whole n t j line =
      item_code (waits e) (is_full (n.stored + n.waiting + 1)) (exp_code constants e (item_register (waits e) t n.waiting) j (cond whole 0 2)) n.stored n.waiting (cond whole 0 1) t line

  abbrev pub keyed_code : Exp → Exp → (t j line : ℕ) → List Coded
  keyed_code e d t j line = keyed_store (field_key constants (is_quiet d) e) (stored_value constants d) (exp_code constants e (t + 1) j 2) (exp_code constants d (t + 2) (j + made_by e) 2) t line

  abbrev pub field_code : Field → (last : Bool) → Items → (t j line : ℕ) → List Coded
  field_code (Item e) last n t j line = one_item e (last && is_open e) n t j line
  field_code (Keyed field_line e d) last n t j line = waiting_code n.stored n.waiting t line ++ keyed_code e d t j field_line
