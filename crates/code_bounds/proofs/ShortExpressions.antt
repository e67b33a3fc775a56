-- The code of an expression is short.
use Rattle.std.proofs.Common.{ℕ, zero, suc, ◌+◌, ◌*◌, ◌≤◌, ◌/◌, ◌%◌, ℤ, Bool, true, false, cond, List, [], ◌∷◌, ◌++◌, length, Some, None, arith, length-append}
use Rattle.std.specs.Prelude.{nat_lt}
use Rattle.tree_core.specs.declared.name.Place.{Place}
use Rattle.tree_core.specs.declared.name.Place.TheVariants.{Unset, Upvalue, GlobalIn, GlobalOf, Local as LocalPlace}
use Rattle.tree_core.specs.declared.operator.BinOp.{BinOp}
use Rattle.tree_core.specs.declared.operator.BinOp.TheVariants.{Add as Plus}
use Rattle.tree_core.specs.Tree.{Exp, Nil, True, False, Int, Str, Var, Function, Index, Call, Method, Unary, Binary, And, Or, Paren, Table, BodyOf, Exps, EndExps, MoreExps, Fields, EndFields, MoreFields, Item, Keyed}
use Rattle.code_core.specs.declared.opcode.Opcode.TheVariants.{GetTabUp, GetUpval, GetTable, OpSelf, LoadI, LoadK, LoadKx, ExtraArg, SetList, Call as CallCode, GetField}
use Rattle.code_core.specs.declared.proto.Const.{Const}
use Rattle.code_core.specs.declared.proto.Const.TheVariants.{Int as IntConst, Str as StrConst}
use Rattle.code_core.specs.Instruction.{abc, op_ax}
use Rattle.code_of.specs.Coded.{Coded, with_abc, with_abx}
use Rattle.code_of.specs.Constants.{is_small, small_field, number_in, loads, loads_numbered, loads_integer}
use Rattle.code_of.specs.Operands.{local_of, joins, seat, unless}
use Rattle.code_of.proofs.Operands.{unless_short, operand_short}
use Rattle.code_of.specs.Stores.{name_in, is_quiet, field_key, keyed_store}
use Rattle.code_of.specs.StoredValues.{stored_value}
use Rattle.code_of.proofs.Stores.{keyed_store_short}
use Rattle.code_of.specs.Operations.{constant_in, constant_code, operation_code}
use Rattle.code_of.specs.Chains.{chain_code}
use Rattle.code_of.proofs.Chains.{chain_short}
use Rattle.code_of.proofs.Operations.{constant_short, operation_short}
use Rattle.code_of.specs.FieldReads.{read_code}
use Rattle.code_of.proofs.FieldReads.{read_short}
use Rattle.code_of.specs.Operators.{name_into, global_code, local_global_code, prefix_code, operator_code, number_code, self_code}
use Rattle.code_of.specs.Expressions.{made_by, list_field, is_last_open, is_last_item, Wanted, one_less, field_of, wanted_after, nils_code, set_list, waiting_code, item_code, exp_code, exps_code, fields_code}
use Rattle.code_of.specs.Items.{waits, is_full, item_register, stored_behind, waiting_behind}
use Rattle.code_of.specs.Conditions.{keep_code}
use Rattle.code_of.specs.Parts.{direct_code}
use Rattle.tree_terms.specs.Weight.{weight, weight_of_arguments, weight_of_exps, weight_of_fields}
use Rattle.code_bounds.proofs.ShortTests.{ValueShort, Short, value_short, not_short, binary_short, true_short, paren_short, and_short, or_short, KeepShort, leaf_short, unary_keeps, binary_keeps, paren_keeps, and_keeps, or_keeps}

-- pieces of code that have a few instructions at most

numbered_short : (number t line : ℕ) → length (loads_numbered number t line) ≤ 2
numbered_short number t line = by (nat_lt number 131072)
  where
    by : (b : Bool) → length (cond b (with_abx LoadK t number line ∷ []) (with_abx LoadKx t 0 line ∷ (op_ax ExtraArg number, line) ∷ [])) ≤ 2
    by true = omega arith
    by false = omega arith

pub loads_short : (cs : List Const) (x : Const) (t line : ℕ) → length (loads cs x t line) ≤ 2
loads_short cs x t line = numbered_short (number_in cs x) t line

integer_short : (cs : List Const) (n : ℤ) (t line : ℕ) → length (loads_integer cs n t line) ≤ 2
integer_short cs n t line = by (is_small n)
  where
    by : (b : Bool) → length (cond b (with_abx LoadI t (small_field n) line ∷ []) (loads cs (IntConst n) t line)) ≤ 2
    by true = omega arith
    by false = loads_short cs (IntConst n) t line

global_short : (number u : ℕ) (key : List Coded) (r t line : ℕ) → length key ≤ 2 → length (global_code number u key r t line) ≤ 4
global_short number u key r t line few = by (nat_lt number 256)
  where
    by : (b : Bool) → length (cond b (with_abc GetTabUp r u number line ∷ []) (with_abc GetUpval t u 0 line ∷ (key ++ with_abc GetTable r t (t + 1) line ∷ []))) ≤ 4
    by true = omega arith
    by false = omega (arith, few, length-append key (with_abc GetTable r t (t + 1) line ∷ []))

local_global_short : (number n : ℕ) (key : List Coded) (r t line : ℕ) → length key ≤ 2 → length (local_global_code number n key r t line) ≤ 4
local_global_short number n key r t line few = by (nat_lt number 256)
  where
    by : (b : Bool) → length (cond b (with_abc GetField r n number line ∷ []) (key ++ with_abc GetTable r n t line ∷ [])) ≤ 4
    by true = omega arith
    by false = omega (arith, few, length-append key (with_abc GetTable r n t line ∷ []))

name_short : (cs : List Const) (place : Place) (text : List ℕ) (r t line : ℕ) → length (name_into cs place text r t line) ≤ 4
name_short cs Unset text r t line = omega arith
name_short cs (LocalPlace n) text r t line = omega arith
name_short cs (Upvalue u) text r t line = omega arith
name_short cs (GlobalIn n) text r t line = local_global_short (number_in cs (StrConst text)) n (loads cs (StrConst text) t line) r t line (loads_short cs (StrConst text) t line)
name_short cs (GlobalOf u) text r t line = global_short (number_in cs (StrConst text)) u (loads cs (StrConst text) (t + 1) line) r t line (loads_short cs (StrConst text) (t + 1) line)

pub self_short : (cs : List Const) (text : List ℕ) (x t line : ℕ) → length (self_code cs text x t line) ≤ 3
self_short cs text x t line = by (nat_lt (number_in cs (StrConst text)) 256)
  where
    by : (b : Bool) → length (cond b ((abc OpSelf t x (number_in cs (StrConst text)) true, line) ∷ []) (loads cs (StrConst text) (t + 2) line ++ with_abc OpSelf t x (t + 2) line ∷ [])) ≤ 3
    by true = omega arith
    by false = omega (arith, loads_short cs (StrConst text) (t + 2) line, length-append (loads cs (StrConst text) (t + 2) line) (with_abc OpSelf t x (t + 2) line ∷ []))

operator_short : (op : BinOp) (x y t line : ℕ) → length (operator_code op x y t line) ≤ 4
operator_short Plus x y t line = omega arith
operator_short _ x y t line = omega arith

number_short : (op : BinOp) (x n t line : ℕ) → length (number_code op x n t line) ≤ 4
number_short Plus x n t line = omega arith
number_short _ x n t line = omega arith

-- a chain of `..` has one instruction besides its operands

chain_few : (line : ℕ) (d : Exp) (first second : List Coded) (t : ℕ) → length (chain_code line d first second t) ≤ length first + (length second + 4)
chain_few line d first second t = omega (arith, chain_short line d first second t)

one_short : (b : Bool) (xs ys : List Coded) (m : ℕ) → length xs ≤ m → length ys ≤ m → length (cond b xs ys) ≤ m
one_short true xs ys m h k = h
one_short false xs ys m h k = k

set_list_short : (t b items line : ℕ) → length (set_list t b items line) ≤ 2
set_list_short t b items line = by (nat_lt items 256)
  where
    by : (few : Bool) → length (cond few (with_abc SetList t b items line ∷ []) ((abc SetList t b (items % 256) true, line) ∷ (op_ax ExtraArg (items / 256), line) ∷ [])) ≤ 2
    by true = omega arith
    by false = omega arith

-- what waits is still to be stored

abbrev owed : (waiting : ℕ) → ℕ
owed zero = 0
owed (suc more) = 2

owed_most : (waiting : ℕ) → owed waiting ≤ 2
owed_most zero = omega arith
owed_most (suc more) = omega arith

waiting_short : (stored waiting t line : ℕ) → length (waiting_code stored waiting t line) ≤ owed waiting
waiting_short stored zero t line = omega arith
waiting_short stored (suc more) t line = set_list_short t (suc more) stored line

item_short : (wait full : Bool) (stored waiting b t line n m : ℕ) (code rest : List Coded) → length code + 2 ≤ n → length rest ≤ m + owed (waiting_behind wait full waiting)
    → length (item_code wait full code stored waiting b t line ++ rest) ≤ n + m + owed waiting
item_short true false stored waiting b t line n m code rest value behind = omega (arith, value, behind, owed_most (waiting + 1), length-append code rest)
item_short true true stored waiting b t line n m code rest value behind =
    let store = set_list t (waiting + 1) stored line in
    omega (arith, value, behind, set_list_short t (waiting + 1) stored line, length-append (code ++ store) rest, length-append code store)
item_short false full stored waiting b t line n m code rest value behind =
    let front = waiting_code stored waiting t line in
    let store = set_list t b (stored + waiting) line in
    omega (
      arith,
      value,
      behind,
      waiting_short stored waiting t line,
      set_list_short t b (stored + waiting) line,
      length-append (front ++ (code ++ store)) rest,
      length-append front (code ++ store),
      length-append code store,
    )

-- nil is loaded at most once, and never where all values are wanted

abbrev pub nils : Wanted → ℕ
nils None = 0
nils (Some n) = 1

nils_short : (wanted : Wanted) (t line : ℕ) → length (nils_code wanted t line) ≤ nils wanted
nils_short None t line = omega arith
nils_short (Some zero) t line = omega arith
nils_short (Some (suc n)) t line = omega arith

less_wanted : (wanted : Wanted) → nils (one_less wanted) ≤ nils wanted
less_wanted None = omega arith
less_wanted (Some n) = omega arith

nils_after : (e : Exp) (es : Exps) (wanted : Wanted) → nils (wanted_after e es wanted) ≤ nils wanted
nils_after e es wanted = by (is_last_open e es)
  where
    by : (b : Bool) → nils (cond b None (one_less wanted)) ≤ nils wanted
    by true = omega arith
    by false = less_wanted wanted

-- Two instructions are left over by each expression, which pay for SETLIST where it is an item, and for CALL where it is an argument.
module _ (cs : List Const) where
  -- a field, whose object and key have short code
  field_short : (line : ℕ) (object key : Exp) (first second : List Coded) (r t : ℕ) → length first + 2 ≤ 6 * weight object → length second + 2 ≤ 6 * weight key
      → length (read_code (name_in cs key) object key first second r t line) + 2 ≤ 6 * weight (Index line object key)
  field_short line object key first second r t a b = omega (arith, a, b, read_short (name_in cs key) object key first second r t line)

  mutual
    pub exp_short : (e : Exp) (t j c : ℕ) → length (exp_code cs e t j c) + 2 ≤ 6 * weight e
    exp_short (Int line n) t j c = omega (arith, integer_short cs n t line)
    exp_short (Str line bytes) t j c = omega (arith, loads_short cs (StrConst bytes) t line)
    exp_short (Function line (BodyOf params vararg inner ups own)) t j c = omega arith
    exp_short (Var line name) t j c = omega (arith, name_short cs name.place name.text t t line)
    exp_short (Index line object key) t j c =
        field_short line object key (exp_code cs object t j 2) (exp_code cs key (t + 1) (j + made_by object) 2) t t (exp_short object t j 2) (exp_short key (t + 1) (j + made_by object) 2)
    exp_short (Call line f es) t j c =
        let arguments = exps_code cs es None (t + 1) (j + made_by f) line in
        let call = with_abc CallCode t (list_field 0 es) c line ∷ [] in
        omega (arith, exp_short f t j 2, arguments_short es (t + 1) (j + made_by f) line, length-append (exp_code cs f t j 2) (arguments ++ call), length-append arguments call)
    exp_short (Method line object name es) t j c =
        let x = seat (local_of object) t in
        let first = unless (local_of object) (exp_code cs object t j 2) in
        let key = self_code cs name.text x t line in
        let arguments = exps_code cs es None (t + 2) (j + made_by object) line in
        let call = with_abc CallCode t (list_field 1 es) c line ∷ [] in
        let after = arguments ++ call in
        omega (
          arith,
          exp_short object t j 2,
          unless_short (local_of object) (exp_code cs object t j 2),
          self_short cs name.text x t line,
          arguments_short es (t + 2) (j + made_by object) line,
          length-append first (key ++ after),
          length-append key after,
          length-append arguments call,
        )
    exp_short (Unary line op e) t j c = omega (arith, exp_short e t j 2, operand_short (local_of e) (exp_code cs e t j 2) t (λ x. prefix_code op x t line) 1 (λ x. omega arith))
    exp_short (Binary line op e d) t j c =
        let first = exp_code cs e t j 2 in
        let second = exp_code cs d (t + 1) (j + made_by e) 2 in
        omega (
          arith,
          exp_short e t j 2,
          exp_short d (t + 1) (j + made_by e) 2,
          one_short (joins op) (chain_code line d first second t) (operation_code (constant_in cs op d) op e d first second t t line) (length first + (length second + 4)) (chain_few line d first second t)
              (operation_short (constant_in cs op d) op e d first second t (λ x n. constant_code op x n t line) (λ x y. operator_code op x y t line) (λ x n. number_code op x n t line) 4
              (λ x n. constant_short op x n t line) (λ x y. operator_short op x y t line) (λ x n. number_short op x n t line)),
        )
    exp_short (And line e d) t j c =
        let second = exp_code cs d t (j + made_by e) 2 in
        omega (arith, kept_short e (λ u i. exp_short e u i 2) false (length second) t j, exp_short d t (j + made_by e) 2, length-append (keep_code cs e false (length second) t j) second)
    exp_short (Or line e d) t j c =
        let second = exp_code cs d t (j + made_by e) 2 in
        omega (arith, kept_short e (λ u i. exp_short e u i 2) true (length second) t j, exp_short d t (j + made_by e) 2, length-append (keep_code cs e true (length second) t j) second)
    exp_short (Paren line e) t j c = omega (arith, exp_short e t j 2)
    exp_short (Table line fs) t j c = omega (arith, fields_short fs 0 0 t j line)
    exp_short _ t j c = omega arith

    -- a condition, and a first operand whose value is kept. The bound on the value's own code is given, since it is one of the same tree
    pub tested_short : (e : Exp) → ValueShort cs e → Short cs e
    tested_short (Paren line e) law = paren_short cs line e (tested_short e (λ u i. exp_short e u i 2))
    tested_short (Unary line op e) law = not_short cs line op e law (tested_short e (λ u i. exp_short e u i 2))
    tested_short (And line e d) law = and_short cs line e d (tested_short e (λ u i. exp_short e u i 2)) (tested_short d (λ u i. exp_short d u i 2))
    tested_short (Or line e d) law = or_short cs line e d (tested_short e (λ u i. exp_short e u i 2)) (tested_short d (λ u i. exp_short d u i 2))
    tested_short (Binary line op e d) law = binary_short cs line op e d law (λ u i. exp_short e u i 2) (λ u i. exp_short d u i 2)
    tested_short (True line) law = true_short cs line
    tested_short e law = value_short cs e law

    kept_short : (e : Exp) → ValueShort cs e → KeepShort cs e
    kept_short (Paren line e) law = paren_keeps cs line e (kept_short e (λ u i. exp_short e u i 2))
    kept_short (And line e d) law = and_keeps cs line e d (tested_short e (λ u i. exp_short e u i 2)) (kept_short e (λ u i. exp_short e u i 2)) (kept_short d (λ u i. exp_short d u i 2))
    kept_short (Or line e d) law = or_keeps cs line e d (tested_short e (λ u i. exp_short e u i 2)) (kept_short e (λ u i. exp_short e u i 2)) (kept_short d (λ u i. exp_short d u i 2))
    kept_short (Unary line op e) law = unary_keeps cs line op e law (tested_short e (λ u i. exp_short e u i 2))
    kept_short (Binary line op e d) law = binary_keeps cs line op e d law (λ u i. exp_short e u i 2) (λ u i. exp_short d u i 2)
    kept_short e law = leaf_short cs e law

    pub arguments_short : (es : Exps) (t j line : ℕ) → length (exps_code cs es None t j line) + 2 ≤ 6 * weight_of_arguments es
    arguments_short EndExps t j line = omega arith
    arguments_short (MoreExps e es) t j line =
        let field = field_of e es None in
        let wanted = wanted_after e es None in
        let rest = exps_code cs es wanted (t + 1) (j + made_by e) line in
        omega (arith, exp_short e t j field, exps_short es wanted (t + 1) (j + made_by e) line, nils_after e es None, length-append (exp_code cs e t j field) rest)

    pub exps_short : (es : Exps) (wanted : Wanted) (t j line : ℕ) → length (exps_code cs es wanted t j line) ≤ 6 * weight_of_exps es + nils wanted
    exps_short EndExps wanted t j line = omega (arith, nils_short wanted t line)
    exps_short (MoreExps e es) wanted t j line =
        let field = field_of e es wanted in
        let after = wanted_after e es wanted in
        let rest = exps_code cs es after (t + 1) (j + made_by e) line in
        omega (arith, exp_short e t j field, exps_short es after (t + 1) (j + made_by e) line, nils_after e es wanted, length-append (exp_code cs e t j field) rest)

    fields_short : (fs : Fields) (stored waiting t j line : ℕ) → length (fields_code cs fs stored waiting t j line) ≤ 6 * weight_of_fields fs + owed waiting
    fields_short EndFields stored waiting t j line = omega (arith, waiting_short stored waiting t line)
    fields_short (MoreFields (Item e) fs) stored waiting t j line =
        let wait = waits e in
        let full = is_full (stored + waiting + 1) in
        let field : ℕ = cond (is_last_item e fs) 0 2 in
        omega (
          arith,
          item_short wait full stored waiting (cond (is_last_item e fs) 0 1) t line (6 * weight e) (6 * weight_of_fields fs) (exp_code cs e (item_register wait t waiting) j field)
              (fields_code cs fs (stored_behind wait full stored waiting) (waiting_behind wait full waiting) t (j + made_by e) line) (exp_short e (item_register wait t waiting) j field)
              (fields_short fs (stored_behind wait full stored waiting) (waiting_behind wait full waiting) t (j + made_by e) line),
        )
    fields_short (MoreFields (Keyed own e d) fs) stored waiting t j line =
        let s = field_key cs (is_quiet d) e in
        let key = exp_code cs e (t + 1) j 2 in
        let value = exp_code cs d (t + 2) (j + made_by e) 2 in
        omega (
          arith,
          keyed_store_short s (stored_value cs d) key value t own,
          exp_short e (t + 1) j 2,
          exp_short d (t + 2) (j + made_by e) 2,
          fields_short fs (stored + waiting) 0 t (j + made_by e + made_by d) line,
          waiting_short stored waiting t line,
          length-append (waiting_code stored waiting t line) (keyed_store s (stored_value cs d) key value t own ++ fields_code cs fs (stored + waiting) 0 t (j + made_by e + made_by d) line),
          length-append (keyed_store s (stored_value cs d) key value t own) (fields_code cs fs (stored + waiting) 0 t (j + made_by e + made_by d) line),
        )

  -- a value that goes straight to a local's register
  pub direct_short : (e : Exp) (r t j : ℕ) → length (direct_code cs e r t j) ≤ 6 * weight e
  direct_short (Nil line) r t j = omega arith
  direct_short (True line) r t j = omega arith
  direct_short (False line) r t j = omega arith
  direct_short (Int line n) r t j = omega (arith, integer_short cs n r line)
  direct_short (Str line bytes) r t j = omega (arith, loads_short cs (StrConst bytes) r line)
  direct_short (Var line name) r t j = omega (arith, name_short cs name.place name.text r t line)
  direct_short (Paren line e) r t j = omega (arith, direct_short e r t j)
  direct_short (Unary line op e) r t j = omega (arith, exp_short e t j 2, operand_short (local_of e) (exp_code cs e t j 2) t (λ x. prefix_code op x r line) 1 (λ x. omega arith))
  direct_short (Binary line op e d) r t j =
      omega (
        arith,
        exp_short e t j 2,
        exp_short d (t + 1) (j + made_by e) 2,
        operation_short (constant_in cs op d) op e d (exp_code cs e t j 2) (exp_code cs d (t + 1) (j + made_by e) 2) t (λ x n. constant_code op x n r line) (λ x y. operator_code op x y r line) (λ x n. number_code op x n r line) 4
            (λ x n. constant_short op x n r line) (λ x y. operator_short op x y r line) (λ x n. number_short op x n r line),
      )
  direct_short (Index line object key) r t j =
      omega (arith, field_short line object key (exp_code cs object t j 2) (exp_code cs key (t + 1) (j + made_by object) 2) r t (exp_short object t j 2) (exp_short key (t + 1) (j + made_by object) 2))
  direct_short _ r t j = omega arith
