-- How many registers the code of an expression names, from its own on.
use Rattle.std.specs.Prelude.{ℕ, zero, suc, ◌+◌, max, Bool, true, false, cond, List, Some, None, nat_lt}
use Rattle.tree_core.specs.declared.name.Place.{Place}
use Rattle.tree_core.specs.declared.name.Place.TheVariants.{GlobalIn, GlobalOf}
use Rattle.tree_core.specs.Tree.{Exp, True, Vararg, Var, Index, Call, Method, Unary, Binary, And, Or, Paren, Table, Exps, EndExps, MoreExps, Fields, EndFields, MoreFields, Item, Keyed}
use Rattle.code_core.specs.declared.proto.Const.{Const}
use Rattle.code_core.specs.declared.proto.Const.TheVariants.{Str as StrConst}
use Rattle.code_of.specs.Constants.{number_in}
use Rattle.code_of.specs.Expressions.{Wanted, field_of, wanted_after, is_last_item}
use Rattle.code_of.specs.Truths.{is_not, is_compared}
use Rattle.code_of.specs.Operands.{local_at, local_of, lone_local, second_of, first_of, operands_room}
use Rattle.code_of.specs.Stores.{name_in, field_key, object_of, room_unless, fields_room, is_quiet, keyed_room}
use Rattle.code_of.specs.StoredValues.{stored_value}
use Rattle.code_of.specs.Items.{waits, is_full, item_room, stored_behind, waiting_behind}
use Rattle.code_of.specs.FieldReads.{object_room, read_room}
use Rattle.code_of.specs.Operations.{constant_in, operation_room}

abbrev pub room_of_values : (field : ℕ) → ℕ
room_of_values zero = 1
room_of_values (suc count) = count

abbrev pub room_of_nils : (above : ℕ) → Wanted → ℕ
room_of_nils above None = 0
room_of_nils above (Some zero) = 0
room_of_nils above (Some (suc n)) = above + suc n

module _ (cs : List Const) where
  -- `own` is how many registers the instruction takes that writes the value
  abbrev pub room_of_name_by : (own : ℕ) → Place → List ℕ → ℕ
  room_of_name_by own (GlobalIn n) text = cond (nat_lt (number_in cs (StrConst text)) 256) own 1
  room_of_name_by own (GlobalOf u) text = cond (nat_lt (number_in cs (StrConst text)) 256) own 2
  room_of_name_by own _ text = own

  abbrev pub room_of_name : Place → List ℕ → ℕ
  room_of_name place text = room_of_name_by 1 place text

  -- a method and its object, and its name where that is no constant of the instruction
  abbrev pub room_of_self : List ℕ → ℕ
  room_of_self text = cond (nat_lt (number_in cs (StrConst text)) 256) 2 3

  abbrev mutual
    pub room_of : Exp → (field : ℕ) → ℕ
    room_of (Vararg line) field = room_of_values field
    room_of (Var line name) field = room_of_name name.place name.text
    room_of (Index line object key) field = read_room 1 (name_in cs key) object key (room_of object 2) (room_of key 2)
    room_of (Call line f es) field = max (room_of f 2) (max (room_of_list 1 es None) (room_of_values field))
    room_of (Method line object name es) field = max (room_of object 2) (max (max (room_of_self name.text) (room_of_list 2 es None)) (room_of_values field))
    room_of (Unary line op e) field = room_of e 2
    room_of (Binary line op e d) field = operation_room 1 (constant_in cs op d) op e d (room_of e 2) (room_of d 2)
    room_of (And line e d) field = max (room_kept e (room_of e 2) false) (room_of d 2)
    room_of (Or line e d) field = max (room_kept e (room_of e 2) true) (room_of d 2)
    room_of (Paren line e) field = room_of e 2
    room_of (Table line fs) field = max 1 (1 + room_of_fields fs 0 0)
    room_of _ field = 1

    -- an expression of which only the truth is wanted, where its value would take so many
    pub room_tested : Exp → (value : ℕ) → ℕ
    room_tested (Paren line e) value = room_tested e value
    room_tested (Unary line op e) value = cond (is_not op) (room_tested e (room_of e 2)) value
    room_tested (Binary line op e d) value = operation_room (cond (is_compared op) 0 1) (constant_in cs op d) op e d (room_of e 2) (room_of d 2)
    room_tested (And line e d) value = max (room_tested e (room_of e 2)) (room_tested d (room_of d 2))
    room_tested (Or line e d) value = max (room_tested e (room_of e 2)) (room_tested d (room_of d 2))
    room_tested (Var line name) value = object_room 0 (local_at name.place) value
    room_tested (True line) value = 0
    room_tested e value = value

    -- one whose value is kept where its truth is k
    pub room_kept : Exp → (value : ℕ) → (k : Bool) → ℕ
    room_kept (Paren line e) value k = room_kept e value k
    room_kept (And line e d) value k = max (cond k (room_tested e (room_of e 2)) (room_kept e (room_of e 2) false)) (room_kept d (room_of d 2) k)
    room_kept (Or line e d) value k = max (cond k (room_kept e (room_of e 2) true) (room_tested e (room_of e 2))) (room_kept d (room_of d 2) k)
    room_kept (Unary line op e) value k = cond (is_not op) (max (room_tested e (room_of e 2)) 1) value
    room_kept (Binary line op e d) value k =
        cond (is_compared op) (max (operation_room (cond (is_compared op) 0 1) (constant_in cs op d) op e d (room_of e 2) (room_of d 2)) 1) value
    room_kept e value k = value

    -- a list that stands `above` registers higher
    pub room_of_list : (above : ℕ) → Exps → Wanted → ℕ
    room_of_list above EndExps wanted = room_of_nils above wanted
    room_of_list above (MoreExps e es) wanted = max (above + room_of e (field_of e es wanted)) (room_of_list (above + 1) es (wanted_after e es wanted))

    -- above the table's own register, where it has this many items already and so many values wait
    pub room_of_fields : Fields → (stored waiting : ℕ) → ℕ
    room_of_fields EndFields stored waiting = 0
    room_of_fields (MoreFields (Item e) fs) stored waiting =
        max (item_room (waits e) waiting (room_of e (cond (is_last_item e fs) 0 2)))
        (room_of_fields fs (stored_behind (waits e) (is_full (stored + waiting + 1)) stored waiting) (waiting_behind (waits e) (is_full (stored + waiting + 1)) waiting))
    room_of_fields (MoreFields (Keyed line e d) fs) stored waiting =
        max (keyed_room (field_key cs (is_quiet d) e) (stored_value cs d) (room_of e 2) (room_of d 2)) (room_of_fields fs (stored + waiting) 0)

  -- what a `return` gives, where no call takes the function's place
  abbrev pub room_of_last : Exps → ℕ
  room_of_last es = room_unless (lone_local es) (room_of_list 0 es None)

  -- a target, whose table and key go to two registers
  abbrev pub room_of_target : Exp → ℕ
  room_of_target (Var line name) = room_of (Var line name) 2
  room_of_target (Index line object key) = max (room_of object 2) (1 + room_of key 2)
  room_of_target _ = 0

  -- a value that goes straight to a local's register

  abbrev pub room_of_direct : Exp → ℕ
  room_of_direct (Var line name) = room_of_name_by 0 name.place name.text
  room_of_direct (Paren line e) = room_of_direct e
  room_of_direct (Unary line op e) = object_room 0 (local_of e) (room_of e 2)
  room_of_direct (Binary line op e d) = operation_room 0 (constant_in cs op d) op e d (room_of e 2) (room_of d 2)
  room_of_direct (Index line object key) = read_room 0 (name_in cs key) object key (room_of object 2) (room_of key 2)
  room_of_direct _ = 0

  -- two values for a target and a local
  abbrev pub room_of_two : (targets values : Exps) → ℕ
  room_of_two (MoreExps x targets) (MoreExps e (MoreExps d es)) = max (2 + room_of e 2) (3 + room_of_direct d)
  room_of_two _ _ = 0

  abbrev pub room_of_assigned : Exps → ℕ
  room_of_assigned EndExps = 0
  room_of_assigned (MoreExps e es) = room_of_direct e

  -- a value that goes to a field

  abbrev pub room_of_field : Exp → Exp → ℕ
  room_of_field (Index line object key) e =
      fields_room (field_key cs (is_quiet e) key) (object_of (field_key cs (is_quiet e) key) (is_quiet e) object) (stored_value cs e) (room_of object 2) (room_of key 2) (room_of e 2)
  room_of_field _ e = 0

  abbrev pub room_of_first : (targets es : Exps) → ℕ
  room_of_first (MoreExps x targets) (MoreExps e es) = room_of_field x e
  room_of_first _ _ = 0

  -- a condition, of which only the truth is wanted
  abbrev pub room_of_test : Exp → ℕ
  room_of_test e = room_tested e (room_of e 2)

  -- the first operand of `and` or `or`, whose value is kept where its truth is k
  abbrev pub room_of_keep : Exp → (k : Bool) → ℕ
  room_of_keep e k = room_kept e (room_of e 2) k
