-- The code of expressions (Lua 5.4 manual, 3.4). Values go to registers from t on; nothing above the locals is held below t.
-- Functions that a function makes are numbered in the order of the text, from j on.
use Rattle.std.specs.Prelude.{ℕ, zero, suc, ◌+◌, ◌-◌, ◌/◌, ◌%◌, Bool, true, false, cond, not, List, [], ◌∷◌, ◌++◌, length, nat_lt, Option, Some, None}
use Rattle.tree_core.specs.declared.operator.BinOp.{BinOp}
use Rattle.tree_core.specs.Tree.{Exp, Nil, True, False, Int, Str, Vararg, Function, Var, Index, Call, Method, Unary, Binary, And, Or, Paren, Table, Exps, EndExps, MoreExps, Fields, EndFields, MoreFields, Field, Item, Keyed}
use Rattle.tree_terms.specs.Bodies.{line_of_body}
use Rattle.code_core.specs.declared.opcode.Opcode.TheVariants.{LoadFalse, LoadTrue, LoadNil, NewTable, Test, EqK, SetList, Closure, VarArg, ExtraArg, Call as CallCode}
use Rattle.code_core.specs.declared.proto.Const.{Const}
use Rattle.code_core.specs.declared.proto.Const.TheVariants.{Str as StrConst}
use Rattle.code_core.specs.Instruction.{abc, op_ax}
use Rattle.code_of.specs.Coded.{Coded, with_abc, with_abx, jump_over}
use Rattle.code_of.specs.Constants.{loads, loads_integer}
use Rattle.code_of.specs.Operands.{local_of, joins, second_of, first_of, unless, operand_code, operands_code}
use Rattle.code_of.specs.Stores.{name_in, is_quiet, field_key, keyed_store}
use Rattle.code_of.specs.StoredValues.{stored_value}
use Rattle.code_of.specs.FieldReads.{read_code}
use Rattle.code_of.specs.Operators.{number_opcode, name_code, self_code, prefix_code}
use Rattle.code_of.specs.Operations.{constant_in, operation_by, operation_code}
use Rattle.code_of.specs.Truths.{jump_if, pick, compared, is_compared, is_not, line_of, set_if, load_truth}
use Rattle.code_of.specs.Chains.{chain_code}
use Rattle.code_of.specs.Items.{waits, is_full, item_register, stored_behind, waiting_behind}

-- how many functions an expression makes itself
abbrev mutual
  pub made_by : Exp → ℕ
  made_by (Function line body) = 1
  made_by (Index line object key) = made_by object + made_by key
  made_by (Call line f es) = made_by f + made_in es
  made_by (Method line object name es) = made_by object + made_in es
  made_by (Unary line op e) = made_by e
  made_by (Binary line op e d) = made_by e + made_by d
  made_by (And line e d) = made_by e + made_by d
  made_by (Or line e d) = made_by e + made_by d
  made_by (Paren line e) = made_by e
  made_by (Table line fs) = made_in_fields fs
  made_by _ = 0

  pub made_in : Exps → ℕ
  made_in EndExps = 0
  made_in (MoreExps e es) = made_by e + made_in es

  pub made_in_fields : Fields → ℕ
  made_in_fields EndFields = 0
  made_in_fields (MoreFields f fs) = made_by_field f + made_in_fields fs

  pub made_by_field : Field → ℕ
  made_by_field (Item e) = made_by e
  made_by_field (Keyed line e d) = made_by e + made_by d

-- lists of expressions

abbrev pub count : Exps → ℕ
count EndExps = 0
count (MoreExps e es) = suc (count es)

-- calls and `...` give any number of values
abbrev pub is_open : Exp → Bool
is_open (Vararg line) = true
is_open (Call line f es) = true
is_open (Method line object name es) = true
is_open _ = false

abbrev pub is_last_open : Exp → Exps → Bool
is_last_open e EndExps = is_open e
is_last_open e (MoreExps d es) = false

abbrev pub ends_open : Exps → Bool
ends_open EndExps = false
ends_open (MoreExps e EndExps) = is_open e
ends_open (MoreExps e (MoreExps d es)) = ends_open (MoreExps d es)

-- the field for all values of a list with `more` registers in front: one more than their number, or 0 for an open list
abbrev pub list_field : (more : ℕ) → Exps → ℕ
list_field more es = cond (ends_open es) 0 (more + count es + 1)

-- how many values are wanted of a list, or all of them
abbrev pub Wanted : Type 0
Wanted = Option ℕ

-- the field C of a call or `...`: one more than the number of values, or 0 for all
abbrev pub results_field : Wanted → ℕ
results_field None = 0
results_field (Some n) = n + 1

abbrev pub one_less : Wanted → Wanted
one_less None = None
one_less (Some n) = Some (n - 1)

-- what the last expression fills is wanted no more
abbrev pub field_of : Exp → Exps → Wanted → ℕ
field_of e es wanted = cond (is_last_open e es) (results_field wanted) 2

abbrev pub wanted_after : Exp → Exps → Wanted → Wanted
wanted_after e es wanted = cond (is_last_open e es) None (one_less wanted)

-- values that are wanted and not there are nil
abbrev pub nils_code : Wanted → (t line : ℕ) → List Coded
nils_code None t line = []
nils_code (Some zero) t line = []
nils_code (Some (suc n)) t line = with_abc LoadNil t n 0 line ∷ []

-- A value of which the code is given, and what its truth decides. A local stays in its register, and any other value goes to register t

-- the jump is taken where the truth is not k
abbrev pub tested_value : Exp → (value : List Coded) → (k : Bool) → (ahead t : ℕ) → List Coded
tested_value e value k ahead t = operand_code (local_of e) value t (λ x. jump_if Test x 0 (not k) ahead (line_of e))

-- the jump is taken where the truth is k, and register t has the value then
abbrev pub kept_value : Exp → (value : List Coded) → (k : Bool) → (ahead t : ℕ) → List Coded
kept_value e value k ahead t = unless (local_of e) value ++ set_if (local_of e) k ahead t (line_of e)

-- b values from behind register t are stored in the table there, behind the index `items`
abbrev pub set_list : (t b items line : ℕ) → List Coded
set_list t b items line =
    cond (nat_lt items 256) (with_abc SetList t b items line ∷ []) ((abc SetList t b (items % 256) true, line) ∷ (op_ax ExtraArg (items / 256), line) ∷ [])

-- the values that wait behind register t are stored
abbrev pub waiting_code : (stored waiting t line : ℕ) → List Coded
waiting_code stored zero t line = []
waiting_code stored (suc more) t line = set_list t (suc more) stored line

-- an item of which the code is given; b says whether all its values are stored or the first one
abbrev pub item_code : (wait full : Bool) → List Coded → (stored waiting b t line : ℕ) → List Coded
item_code true false code stored waiting b t line = code
item_code true true code stored waiting b t line = code ++ set_list t (waiting + 1) stored line
item_code false full code stored waiting b t line = waiting_code stored waiting t line ++ (code ++ set_list t b (stored + waiting) line)

-- both operands of a comparison, of which the code is given, and the jump, which is taken where its truth is not k. For another operator it is `other`
abbrev pub compared_test : (constant : Option ℕ) → BinOp → (e d : Exp) → (first second other : List Coded) → (k : Bool) → (ahead t line : ℕ) → List Coded
compared_test constant op e d first second other k ahead t line =
    compared op other
    (λ opcode swapped wanted. operation_by constant op e d first second t
    (λ x number. jump_if EqK x number (cond wanted (not k) k) ahead line)
    (λ x y. jump_if opcode (pick swapped x y) (pick swapped y x) (cond wanted (not k) k) ahead line)
    (λ x n. jump_if (number_opcode op) x (n + 127) (cond wanted (not k) k) ahead line))

abbrev pub is_last_item : Exp → Fields → Bool
is_last_item e EndFields = is_open e
is_last_item e (MoreFields f fs) = false

module _ (constants : List Const) where
  -- register t gets the value; c is the field C of a call or `...`, which is 2 where one value is wanted
  abbrev mutual
    pub exp_code : Exp → (t j c : ℕ) → List Coded
    exp_code (Nil line) t j c = with_abc LoadNil t 0 0 line ∷ []
    exp_code (True line) t j c = with_abc LoadTrue t 0 0 line ∷ []
    exp_code (False line) t j c = with_abc LoadFalse t 0 0 line ∷ []
    exp_code (Int line n) t j c = loads_integer constants n t line
    exp_code (Str line bytes) t j c = loads constants (StrConst bytes) t line
    exp_code (Vararg line) t j c = with_abc VarArg t 0 c line ∷ []
    exp_code (Function line body) t j c = with_abx Closure t j (line_of_body body) ∷ []
    exp_code (Var line name) t j c = name_code constants name.place name.text t line
    exp_code (Index line object key) t j c = read_code (name_in constants key) object key (exp_code object t j 2) (exp_code key (t + 1) (j + made_by object) 2) t t line
    exp_code (Call line f es) t j c = exp_code f t j 2 ++ (exps_code es None (t + 1) (j + made_by f) line ++ with_abc CallCode t (list_field 0 es) c line ∷ [])
    exp_code (Method line object name es) t j c =
        operand_code (local_of object) (exp_code object t j 2) t
        (λ x. self_code constants name.text x t line ++ (exps_code es None (t + 2) (j + made_by object) line ++ with_abc CallCode t (list_field 1 es) c line ∷ []))
    exp_code (Unary line op e) t j c = operand_code (local_of e) (exp_code e t j 2) t (λ x. prefix_code op x t line)
    exp_code (Binary line op e d) t j c =
        cond (joins op) (chain_code line d (exp_code e t j 2) (exp_code d (t + 1) (j + made_by e) 2) t)
        (operation_code (constant_in constants op d) op e d (exp_code e t j 2) (exp_code d (t + 1) (j + made_by e) 2) t t line)
    exp_code (And line e d) t j c =
        let second = exp_code d t (j + made_by e) 2 in
        kept_by e (exp_code e t j 2) false (length second) t j ++ second
    exp_code (Or line e d) t j c =
        let second = exp_code d t (j + made_by e) 2 in
        kept_by e (exp_code e t j 2) true (length second) t j ++ second
    exp_code (Paren line e) t j c = exp_code e t j 2
    exp_code (Table line fs) t j c = with_abc NewTable t 0 0 line ∷ (op_ax ExtraArg 0, line) ∷ fields_code fs 0 0 t j line

    -- Of an expression, of which the code of its value in t is given, only the truth is wanted: where it is k, execution goes on behind this code, and
    -- else it jumps to the place that lies `ahead` instructions past its end. `not` wants the other truth. A first operand decides where it is false
    -- before `and` and where it is true before `or`: it then jumps past the second operand, if that truth is k, or else as far as the second operand
    -- jumps. A comparison jumps where its truth is not k. `true` is not tested.
    pub tested_by : Exp → (value : List Coded) → (k : Bool) → (ahead t j : ℕ) → List Coded
    tested_by (Paren line e) value k ahead t j = tested_by e value k ahead t j
    tested_by (Unary line op e) value k ahead t j =
        cond (is_not op) (tested_by e (exp_code e t j 2) (not k) ahead t j) (tested_value (Unary line op e) value k ahead t)
    tested_by (And line e d) value k ahead t j =
        let second = tested_by d (exp_code d t (j + made_by e) 2) k ahead t (j + made_by e) in
        tested_by e (exp_code e t j 2) true (length second + cond k ahead 0) t j ++ second
    tested_by (Or line e d) value k ahead t j =
        let second = tested_by d (exp_code d t (j + made_by e) 2) k ahead t (j + made_by e) in
        tested_by e (exp_code e t j 2) false (length second + cond k 0 ahead) t j ++ second
    tested_by (Binary line op e d) value k ahead t j =
        compared_test (constant_in constants op d) op e d (exp_code e t j 2) (exp_code d (t + 1) (j + made_by e) 2) (tested_value (Binary line op e d) value k ahead t) k ahead t line
    tested_by (True line) value k ahead t j = cond k [] (jump_over ahead line ∷ [])
    tested_by e value k ahead t j = tested_value e value k ahead t

    -- Where its truth is k, register t gets the value and execution jumps `ahead` instructions past the end; else execution goes on behind. Of an `and` or
    -- `or` that is a first operand, the first operand is only tested where its value is not wanted: in `(a and b) or c`, no value of a that is false is.
    -- Comparisons and `not` are conditions, whose truth is loaded where it is k
    pub kept_by : Exp → (value : List Coded) → (k : Bool) → (ahead t j : ℕ) → List Coded
    kept_by (Paren line e) value k ahead t j = kept_by e value k ahead t j
    kept_by (And line e d) value k ahead t j =
        let second = kept_by d (exp_code d t (j + made_by e) 2) k ahead t (j + made_by e) in
        cond k (tested_by e (exp_code e t j 2) true (length second) t j) (kept_by e (exp_code e t j 2) false (length second + ahead) t j) ++ second
    kept_by (Or line e d) value k ahead t j =
        let second = kept_by d (exp_code d t (j + made_by e) 2) k ahead t (j + made_by e) in
        cond k (kept_by e (exp_code e t j 2) true (length second + ahead) t j) (tested_by e (exp_code e t j 2) false (length second) t j) ++ second
    kept_by (Unary line op e) value k ahead t j =
        cond (is_not op) (tested_by e (exp_code e t j 2) (not k) 2 t j ++ load_truth k ahead t line) (kept_value (Unary line op e) value k ahead t)
    kept_by (Binary line op e d) value k ahead t j =
        cond (is_compared op)
        (compared_test (constant_in constants op d) op e d (exp_code e t j 2) (exp_code d (t + 1) (j + made_by e) 2) (tested_value (Binary line op e d) value k 2 t) k 2 t line
        ++ load_truth k ahead t line)
        (kept_value (Binary line op e d) value k ahead t)
    kept_by e value k ahead t j = kept_value e value k ahead t

    -- the registers from t on get as many values as are wanted, or become an open list
    pub exps_code : Exps → Wanted → (t j line : ℕ) → List Coded
    exps_code EndExps wanted t j line = nils_code wanted t line
    exps_code (MoreExps e es) wanted t j line = exp_code e t j (field_of e es wanted) ++ exps_code es (wanted_after e es wanted) (t + 1) (j + made_by e) line

    -- the table is in register t and has this many items already, and so many values wait behind it
    pub fields_code : Fields → (stored waiting t j line : ℕ) → List Coded
    fields_code EndFields stored waiting t j line = waiting_code stored waiting t line
    fields_code (MoreFields (Item e) fs) stored waiting t j line =
        item_code (waits e) (is_full (stored + waiting + 1)) (exp_code e (item_register (waits e) t waiting) j (cond (is_last_item e fs) 0 2))
        stored waiting (cond (is_last_item e fs) 0 1) t line
        ++ fields_code fs (stored_behind (waits e) (is_full (stored + waiting + 1)) stored waiting) (waiting_behind (waits e) (is_full (stored + waiting + 1)) waiting) t (j + made_by e) line
    fields_code (MoreFields (Keyed field_line e d) fs) stored waiting t j line =
        waiting_code stored waiting t line
        ++ (keyed_store (field_key constants (is_quiet d) e) (stored_value constants d) (exp_code e (t + 1) j 2) (exp_code d (t + 2) (j + made_by e) 2) t field_line
        ++ fields_code fs (stored + waiting) 0 t (j + made_by e + made_by d) line)
