-- The lines of a tree's code fit, where those of the tree do.
use Rattle.std.proofs.Common.{◌≡◌, ℕ, zero, suc, ◌+◌, ◌*◌, Bool, true, false, cond, ◌&&◌, ◌||◌, List, [], ◌∷◌, ◌++◌, length, take, Option, Some, None, refl, ap₂, subst}
use Rattle.std.specs.Prelude.{ℤ, not, nat_lt, nat_le, nat_eq, ◌-◌}
use Rattle.std.specs.List.{list_all}
use Rattle.tree_core.specs.declared.name.Declared.{Declared}
use Rattle.tree_core.specs.declared.name.Place.{Place}
use Rattle.tree_core.specs.declared.name.Place.TheVariants.{Unset, Upvalue, GlobalIn, GlobalOf, Local as LocalPlace}
use Rattle.tree_core.specs.declared.operator.BinOp.{BinOp}
use Rattle.tree_core.specs.declared.operator.BinOp.TheVariants.{Add as Plus, Sub as Minus, Shl as ShiftLeft, Shr as ShiftRight, Concat as Join, Eq as Equal, Ne, Lt as Less, Le as AtMost, Gt, Ge}
use Rattle.tree_core.specs.Tree.{Block, Falls, Returns, Body, BodyOf, Stats, EndStats, MoreStats, Stat, Empty, Local, LocalFunction, Assign, CallStat, Do, While, Repeat, If, IfElse, NumFor, NumForStep, GenFor, Label, Goto, Break, Arms, EndArms, MoreArms, Exp, Nil, True, False, Int, Str, Vararg, Function, Var, Index, Call, Method, Unary, Binary, And, Or, Paren, Table, Exps, EndExps, MoreExps, Fields, EndFields, MoreFields, Item, Keyed}
use Rattle.tree_activation.specs.Activation.{line_of_end}
use Rattle.tree_terms.specs.Bodies.{line_of_body, upvalues_of}
use Rattle.tree_activation.specs.Statements.{is_closed}
use Rattle.code_core.specs.declared.proto.Const.{Const}
use Rattle.code_core.specs.declared.proto.Const.TheVariants.{Int as IntConst, Str as StrConst}
use Rattle.code_core.specs.Writable.{number_fits}
use Rattle.code_of.specs.declared.leaving.Leaving.{Leaving}
use Rattle.code_core.specs.Instruction.{abc}
use Rattle.code_of.specs.Coded.{Coded, lines, with_abc, jump_over, jump_back}
use Rattle.code_of.specs.Constants.{is_small, number_in, loads, loads_integer, of_block}
use Rattle.code_of.specs.FieldReads.{read_code}
use Rattle.code_of.specs.Stores.{FieldKey, a_name, an_index, a_register, evaluated, name_in, is_quiet, field_key, object_of, key_code, StoredValue, constant_value, local_value, made_value, value_code, is_constant, value_seat, field_store_by, keyed_store, stores_field}
use Rattle.code_of.specs.StoredValues.{stored_value}
use Rattle.code_of.specs.Targets.{waiting_key, text_key, global_store, single_store}
use Rattle.code_of.proofs.Targets.{single_store_is, some_store}
use Rattle.code_of.specs.Operands.{local_of, lone_local, joins, seat, unless, Second, a_number, a_local, made, second_of, key_operand, first_of, assigned, second_code, operands_code, second_assigned}
use Rattle.code_of.specs.Operators.{name_into, self_code, operator_code, number_opcode, number_code}
use Rattle.code_of.specs.Expressions.{made_by, made_in, count, Wanted, is_last_item, field_of, wanted_after, nils_code, set_list, exp_code, exps_code, fields_code, kept_value, waiting_code, item_code}
use Rattle.code_of.specs.Items.{waits, is_full, item_register, stored_behind, waiting_behind}
use Rattle.code_of.specs.Truths.{jump_if, pick, line_of, is_not, compared, is_compared, set_if}
use Rattle.code_of.specs.Conditions.{value_test, test_code, keep_code}
use Rattle.code_core.specs.declared.opcode.Opcode.{Opcode}
use Rattle.code_core.specs.declared.opcode.Opcode.TheVariants.{GetTable, GetI, SetTabUp, SetField, Eq, Lt, Le, EqK}
use Rattle.code_of.specs.Operations.{constant_in, constant_code, operation_by}
use Rattle.code_of.specs.Chains.{continues, unjoined, chain_code}
use Rattle.code_of.specs.Jumps.{Landing, Visible, Reach, label_in, leads}
use Rattle.code_of.specs.Levels.{made_by_stat, made_in_arms, made_in_stats, made_in_block, closing_after, closings_after, closed_below, closed_until}
use Rattle.tree_terms.specs.Levels.{level_after, levels_after, levels_in}
use Rattle.code_of.specs.Parts.{marks_code, close_code, captures_local, closure_code, past, past_size, name_target, target_code, targets_code, name_store, store_code, stores_code, direct_code, first_direct, field_code, first_field, stored_code, store_by, assign_by, assign_code, returned_by, values_last, return_code, bounds_code, steps_code, kept_code, first_two, two_by}
use Rattle.code_of.specs.Sizes.{stat_size, arms_size, block_size}
use Rattle.code_of.specs.Statements.{in_loop, passed_after, labels_ahead, stat_code, arms_code, stats_code, block_code, open_code, whole_code}
use Rattle.code_of.specs.CodeOf.{leaving_of, first_line, body_code}
use Rattle.code_checked.specs.Written.{LineFits, DeclaredFit, ExpIsWritten, ExpsAreWritten, FieldsAreWritten, StatIsWritten, ArmsAreWritten, StatsAreWritten, BlockIsWritten, BodyIsWritten}

abbrev pub LinesFit : List Coded → Type 0
LinesFit [] = Unit {0}
LinesFit (x ∷ xs) = LineFits x.1 × LinesFit xs

pub all_lines : (xs : List Coded) → LinesFit xs → list_all number_fits (lines xs) ≡ true
all_lines [] h = refl
all_lines (x ∷ xs) h = ap₂ (λ a b. a && b) h.0 (all_lines xs h.1)

pub lines_both : (xs ys : List Coded) → LinesFit xs → LinesFit ys → LinesFit (xs ++ ys)
lines_both [] ys h k = k
lines_both (x ∷ xs) ys h k = (h.0, lines_both xs ys h.1 k)

either : (b : Bool) (xs ys : List Coded) → LinesFit xs → LinesFit ys → LinesFit (cond b xs ys)
either true xs ys h k = h
either false xs ys h k = k

-- loads, names and operators

loads_lines : (cs : List Const) (x : Const) (t line : ℕ) → LineFits line → LinesFit (loads cs x t line)
loads_lines cs x t line h = either (nat_lt (number_in cs x) 131072) _ _ (h, tt) (h, (h, tt))

method_lines : (cs : List Const) (text : List ℕ) (x t line : ℕ) → LineFits line → LinesFit (self_code cs text x t line)
method_lines cs text x t line h =
    either (nat_lt (number_in cs (StrConst text)) 256) _ _ (h, tt) (lines_both (loads cs (StrConst text) (t + 2) line) _ (loads_lines cs (StrConst text) (t + 2) line h) (h, tt))

integer_lines : (cs : List Const) (z : ℤ) (t line : ℕ) → LineFits line → LinesFit (loads_integer cs z t line)
integer_lines cs z t line h = either (is_small z) _ _ (h, tt) (loads_lines cs (IntConst z) t line h)

name_lines : (cs : List Const) (place : Place) (text : List ℕ) (r t line : ℕ) → LineFits line → LinesFit (name_into cs place text r t line)
name_lines cs Unset text r t line h = (h, tt)
name_lines cs (LocalPlace n) text r t line h = (h, tt)
name_lines cs (Upvalue u) text r t line h = (h, tt)
name_lines cs (GlobalIn n) text r t line h =
    either (nat_lt (number_in cs (StrConst text)) 256) _ _ (h, tt) (lines_both (loads cs (StrConst text) t line) _ (loads_lines cs (StrConst text) t line h) (h, tt))
name_lines cs (GlobalOf u) text r t line h =
    either (nat_lt (number_in cs (StrConst text)) 256) _ _ (h, tt) (h, lines_both (loads cs (StrConst text) (t + 1) line) _ (loads_lines cs (StrConst text) (t + 1) line h) (h, tt))

operator_lines : (op : BinOp) (x y t line : ℕ) → LineFits line → LinesFit (operator_code op x y t line)
operator_lines Join x y t line h = (h, tt)
operator_lines Equal x y t line h = (h, (h, (h, (h, tt))))
operator_lines Ne x y t line h = (h, (h, (h, (h, tt))))
operator_lines Less x y t line h = (h, (h, (h, (h, tt))))
operator_lines AtMost x y t line h = (h, (h, (h, (h, tt))))
operator_lines Gt x y t line h = (h, (h, (h, (h, tt))))
operator_lines Ge x y t line h = (h, (h, (h, (h, tt))))
operator_lines _ x y t line h = (h, (h, tt))

number_lines : (op : BinOp) (x n t line : ℕ) → LineFits line → LinesFit (number_code op x n t line)
number_lines Plus x n t line h = (h, (h, tt))
number_lines Minus x n t line h = (h, (h, tt))
number_lines ShiftLeft x n t line h = (h, (h, tt))
number_lines ShiftRight x n t line h = (h, (h, tt))
number_lines Equal x n t line h = (h, (h, (h, (h, tt))))
number_lines Ne x n t line h = (h, (h, (h, (h, tt))))
number_lines Less x n t line h = (h, (h, (h, (h, tt))))
number_lines AtMost x n t line h = (h, (h, (h, (h, tt))))
number_lines Gt x n t line h = (h, (h, (h, (h, tt))))
number_lines Ge x n t line h = (h, (h, (h, (h, tt))))
number_lines _ x n t line h = tt

unless_lines : (at : Option ℕ) (xs ys : List Coded) → LinesFit xs → LinesFit ys → LinesFit (unless at xs ++ ys)
unless_lines None xs ys h k = lines_both xs ys h k
unless_lines (Some r) xs ys h k = k

key_lines : (s : FieldKey) (code rest : List Coded) → LinesFit code → LinesFit rest → LinesFit (key_code s code ++ rest)
key_lines evaluated code rest h k = lines_both code rest h k
key_lines (a_name number) code rest h k = k
key_lines (an_index n) code rest h k = k
key_lines (a_register r) code rest h k = k

value_lines : (value : StoredValue) (code rest : List Coded) → LinesFit code → LinesFit rest → LinesFit (value_code value code ++ rest)
value_lines made_value code rest h k = lines_both code rest h k
value_lines (constant_value number) code rest h k = k
value_lines (local_value r) code rest h k = k

last_lines : (s : FieldKey) (flag : Bool) (x t v line : ℕ) → LineFits line → LinesFit (field_store_by s flag x t v line ∷ [])
last_lines evaluated flag x t v line h = (h, tt)
last_lines (a_name number) flag x t v line h = (h, tt)
last_lines (an_index n) flag x t v line h = (h, tt)
last_lines (a_register r) flag x t v line h = (h, tt)

operands_lines : (s : Second) (at : Option ℕ) (first code : List Coded) (t : ℕ) (by num : (x y : ℕ) → List Coded) → LinesFit first → LinesFit code → ((x y : ℕ) → LinesFit (by x y)) → ((x n : ℕ) → LinesFit (num x n))
    → LinesFit (operands_code s at first code t by num)
operands_lines s at first code t by num h k g f = unless_lines at first _ h (second s)
  where
    second : (s : Second) → LinesFit (second_code s code t (by (seat at t)) (num (seat at t)))
    second made = lines_both code _ k (g (seat at t) (t + 1))
    second (a_local r) = g (seat at t) r
    second (a_number n) = f (seat at t) n

constant_lines : (op : BinOp) (x n t line : ℕ) → LineFits line → LinesFit (constant_code op x n t line)
constant_lines Equal x n t line h = (h, (h, (h, (h, tt))))
constant_lines Ne x n t line h = (h, (h, (h, (h, tt))))
constant_lines ShiftLeft x n t line h = tt
constant_lines ShiftRight x n t line h = tt
constant_lines Join x n t line h = tt
constant_lines Less x n t line h = tt
constant_lines AtMost x n t line h = tt
constant_lines Gt x n t line h = tt
constant_lines Ge x n t line h = tt
constant_lines _ x n t line h = (h, (h, tt))

lines_first : (n : ℕ) (xs : List Coded) → LinesFit xs → LinesFit (take n xs)
lines_first zero xs h = tt
lines_first (suc n) [] h = tt
lines_first (suc n) (x ∷ xs) h = (h.0, lines_first n xs h.1)

unjoined_lines : (more : Bool) (code : List Coded) → LinesFit code → LinesFit (unjoined more code)
unjoined_lines true code h = lines_first (length code - 1) code h
unjoined_lines false code h = h

chain_lines : (line : ℕ) (d : Exp) (first second : List Coded) (t : ℕ) → LinesFit first → LinesFit second → LineFits line → LinesFit (chain_code line d first second t)
chain_lines line d first second t h k fits = lines_both first _ h (lines_both (unjoined (continues line d) second) _ (unjoined_lines (continues line d) second k) (fits, tt))

operation_lines : (o : Option ℕ) (op : BinOp) (e d : Exp) (first second : List Coded) (t : ℕ) (con by num : (x y : ℕ) → List Coded) → LinesFit first → LinesFit second → ((x n : ℕ) → LinesFit (con x n)) → ((x y : ℕ) → LinesFit (by x y)) → ((x n : ℕ) → LinesFit (num x n))
    → LinesFit (operation_by o op e d first second t con by num)
operation_lines (Some n) op e d first second t con by num h k c g f = unless_lines (local_of e) first _ h (c (seat (local_of e) t) n)
operation_lines None op e d first second t con by num h k c g f = operands_lines (second_of op d) (first_of (second_of op d) e) first second t by num h k g f

read_lines : (named : Option ℕ) (object key : Exp) (first second : List Coded) (r t line : ℕ) → LinesFit first → LinesFit second → LineFits line → LinesFit (read_code named object key first second r t line)
read_lines (Some number) object key first second r t line h k fits = unless_lines (local_of object) first _ h (fits, tt)
read_lines None object key first second r t line h k fits =
    operands_lines (key_operand key) (first_of (key_operand key) object) first second t (λ x y. with_abc GetTable r x y line ∷ []) (λ x n. with_abc GetI r x n line ∷ []) h k (λ x y. (fits, tt)) (λ x n. (fits, tt))

nils_lines : (wanted : Wanted) (t line : ℕ) → LineFits line → LinesFit (nils_code wanted t line)
nils_lines None t line h = tt
nils_lines (Some zero) t line h = tt
nils_lines (Some (suc n)) t line h = (h, tt)

set_list_lines : (t b items line : ℕ) → LineFits line → LinesFit (set_list t b items line)
set_list_lines t b items line h = either (nat_lt items 256) _ _ (h, tt) (h, (h, tt))

waiting_lines : (stored waiting t line : ℕ) → LineFits line → LinesFit (waiting_code stored waiting t line)
waiting_lines stored zero t line h = tt
waiting_lines stored (suc more) t line h = set_list_lines t (suc more) stored line h

item_lines : (wait full : Bool) (code : List Coded) (stored waiting b t line : ℕ) → LineFits line → LinesFit code → LinesFit (item_code wait full code stored waiting b t line)
item_lines true false code stored waiting b t line h k = k
item_lines true true code stored waiting b t line h k = lines_both code _ k (set_list_lines t (waiting + 1) stored line h)
item_lines false full code stored waiting b t line h k =
    lines_both (waiting_code stored waiting t line) _ (waiting_lines stored waiting t line h) (lines_both code _ k (set_list_lines t b (stored + waiting) line h))

body_line : (body : Body) → BodyIsWritten body → LineFits (line_of_body body)
body_line (BodyOf params vararg inner ups line) w = w.0

pub block_line : (block : Block) → BlockIsWritten block → LineFits (line_of_end block)
block_line (Falls ss tokens line) w = w.0
block_line (Returns ss es tokens line) w = w.0

past_lines : (rest : List Coded) (line : ℕ) → LineFits line → LinesFit (past rest line)
past_lines [] line h = tt
past_lines (x ∷ rest) line h = (h, tt)

jump_line : (b : Bool) (m n line : ℕ) → LineFits line → LineFits (cond b (jump_over m line) (jump_back n line)).1
jump_line true m n line h = h
jump_line false m n line h = h

leads_lines : (closes : Bool) (o : Option Landing) (pc line : ℕ) → LineFits line → LinesFit (leads closes o pc line)
leads_lines false None pc line h = (jump_line (nat_le (pc + 1) 0) (0 - (pc + 1)) (pc + 1 - 0) line h, tt)
leads_lines false (Some x) pc line h = (jump_line (nat_le (pc + 1) x.place) (x.place - (pc + 1)) (pc + 1 - x.place) line h, tt)
leads_lines true None pc line h = (h, (jump_line (nat_le (pc + 2) 0) (0 - (pc + 2)) (pc + 2 - 0) line h, tt))
leads_lines true (Some x) pc line h = (h, (jump_line (nat_le (pc + 2) x.place) (x.place - (pc + 2)) (pc + 2 - x.place) line h, tt))

module _ (cs : List Const) where
  line_fits : (e : Exp) → ExpIsWritten e → LineFits (line_of e)
  line_fits (Nil line) w = w
  line_fits (True line) w = w
  line_fits (False line) w = w
  line_fits (Vararg line) w = w
  line_fits _ w = w.0

  -- where the lines of the value's code fit

  by_value_lines : (e : Exp) (k : Bool) (ahead t j : ℕ) → ExpIsWritten e → LinesFit (exp_code cs e t j 2) → LinesFit (value_test cs e k ahead t j)
  by_value_lines e k ahead t j w h = unless_lines (local_of e) (exp_code cs e t j 2) _ h (line_fits e w, (line_fits e w, tt))

  set_lines : (at : Option ℕ) (k : Bool) (ahead t line : ℕ) → LineFits line → LinesFit (set_if at k ahead t line)
  set_lines None k ahead t line h = (h, (h, tt))
  set_lines (Some x) k ahead t line h = (h, (h, tt))

  leaf_lines : (e : Exp) (k : Bool) (ahead t j : ℕ) → ExpIsWritten e → LinesFit (exp_code cs e t j 2) → LinesFit (kept_value e (exp_code cs e t j 2) k ahead t)
  leaf_lines e k ahead t j w h = unless_lines (local_of e) (exp_code cs e t j 2) _ h (set_lines (local_of e) k ahead t (line_of e) (line_fits e w))

  compared_lines : (op : BinOp) (other : List Coded) (by : Opcode → (swapped wanted : Bool) → List Coded) → LinesFit other → ((o : Opcode) (s w : Bool) → LinesFit (by o s w)) → LinesFit (compared op other by)
  compared_lines Equal other by h g = g Eq false true
  compared_lines Ne other by h g = g Eq false false
  compared_lines Less other by h g = g Lt false true
  compared_lines AtMost other by h g = g Le false true
  compared_lines Gt other by h g = g Lt true true
  compared_lines Ge other by h g = g Le true true
  compared_lines _ other by h g = h

  comparison_lines : (line : ℕ) (op : BinOp) (e d : Exp) (k : Bool) (ahead t j : ℕ) → LineFits line → LinesFit (exp_code cs e t j 2) → LinesFit (exp_code cs d (t + 1) (j + made_by e) 2) → LinesFit (value_test cs (Binary line op e d) k ahead t j)
      → LinesFit (test_code cs (Binary line op e d) k ahead t j)
  comparison_lines line op e d k ahead t j fits first second other =
      compared_lines op _ _ other
      (λ o s q. let field = cond q (not k) k in
      operation_lines (constant_in cs op d) op e d (exp_code cs e t j 2) (exp_code cs d (t + 1) (j + made_by e) 2) t
      (λ x n. jump_if EqK x n field ahead line) (λ x y. jump_if o (pick s x y) (pick s y x) field ahead line) (λ x n. jump_if (number_opcode op) x (n + 127) field ahead line)
      first second (λ x n. (fits, (fits, tt))) (λ x y. (fits, (fits, tt))) (λ x n. (fits, (fits, tt))))

  mutual
    pub exp_lines : (e : Exp) (t j c : ℕ) → ExpIsWritten e → LinesFit (exp_code cs e t j c)
    exp_lines (Int line z) t j c w = integer_lines cs z t line w.0
    exp_lines (Str line bytes) t j c w = loads_lines cs (StrConst bytes) t line w.0
    exp_lines (Function line body) t j c w = (body_line body w.1, tt)
    exp_lines (Var line name) t j c w = name_lines cs name.place name.text t t line w.0
    exp_lines (Index line o k) t j c w =
        read_lines (name_in cs k) o k (exp_code cs o t j 2) (exp_code cs k (t + 1) (j + made_by o) 2) t t line (exp_lines o t j 2 w.1.0) (exp_lines k (t + 1) (j + made_by o) 2 w.1.1) w.0
    exp_lines (Call line f es) t j c w = lines_both (exp_code cs f t j 2) _ (exp_lines f t j 2 w.1.0) (lines_both (exps_code cs es None (t + 1) (j + made_by f) line) _ (exps_lines es None (t + 1) (j + made_by f) line w.0 w.1.1) (w.0, tt))
    exp_lines (Method line o name es) t j c w =
        let x = seat (local_of o) t in
        unless_lines (local_of o) (exp_code cs o t j 2) _ (exp_lines o t j 2 w.1.0) (lines_both (self_code cs name.text x t line) _ (method_lines cs name.text x t line w.0)
        (lines_both (exps_code cs es None (t + 2) (j + made_by o) line) _ (exps_lines es None (t + 2) (j + made_by o) line w.0 w.1.1.1) (w.0, tt)))
    exp_lines (Unary line op e) t j c w = unless_lines (local_of e) (exp_code cs e t j 2) _ (exp_lines e t j 2 w.1) (w.0, tt)
    exp_lines (Binary line op e d) t j c w =
        let first = exp_code cs e t j 2 in
        let second = exp_code cs d (t + 1) (j + made_by e) 2 in
        let h = exp_lines e t j 2 w.1.0 in
        let k = exp_lines d (t + 1) (j + made_by e) 2 w.1.1 in
        either (joins op) _ _ (chain_lines line d first second t h k w.0)
        (operation_lines (constant_in cs op d) op e d first second t (λ x n. constant_code op x n t line) (λ x y. operator_code op x y t line) (λ x n. number_code op x n t line)
        h k (λ x n. constant_lines op x n t line w.0) (λ x y. operator_lines op x y t line w.0) (λ x n. number_lines op x n t line w.0))
    exp_lines (And line e d) t j c w =
        let far = length (exp_code cs d t (j + made_by e) 2) in
        lines_both (keep_code cs e false far t j) _ (kept_lines e false far t j w.1.0 (exp_lines e t j 2 w.1.0)) (exp_lines d t (j + made_by e) 2 w.1.1)
    exp_lines (Or line e d) t j c w =
        let far = length (exp_code cs d t (j + made_by e) 2) in
        lines_both (keep_code cs e true far t j) _ (kept_lines e true far t j w.1.0 (exp_lines e t j 2 w.1.0)) (exp_lines d t (j + made_by e) 2 w.1.1)
    exp_lines (Paren line e) t j c w = exp_lines e t j 2 w.1
    exp_lines (Table line fs) t j c w = (w.0, (w.0, fields_lines fs 0 0 t j line w.0 w.1))
    exp_lines _ t j c w = (w, tt)

    tested_lines : (e : Exp) (k : Bool) (ahead t j : ℕ) → ExpIsWritten e → LinesFit (exp_code cs e t j 2) → LinesFit (test_code cs e k ahead t j)
    tested_lines (Paren line e) k ahead t j w h = tested_lines e k ahead t j w.1 h
    tested_lines (Unary line op e) k ahead t j w h = either (is_not op) _ _ (tested_lines e (not k) ahead t j w.1 (exp_lines e t j 2 w.1)) (by_value_lines (Unary line op e) k ahead t j w h)
    tested_lines (And line e d) k ahead t j w h =
        let far = length (test_code cs d k ahead t (j + made_by e)) + cond k ahead 0 in
        lines_both (test_code cs e true far t j) _ (tested_lines e true far t j w.1.0 (exp_lines e t j 2 w.1.0)) (tested_lines d k ahead t (j + made_by e) w.1.1 (exp_lines d t (j + made_by e) 2 w.1.1))
    tested_lines (Or line e d) k ahead t j w h =
        let far = length (test_code cs d k ahead t (j + made_by e)) + cond k 0 ahead in
        lines_both (test_code cs e false far t j) _ (tested_lines e false far t j w.1.0 (exp_lines e t j 2 w.1.0)) (tested_lines d k ahead t (j + made_by e) w.1.1 (exp_lines d t (j + made_by e) 2 w.1.1))
    tested_lines (Binary line op e d) k ahead t j w h =
        comparison_lines line op e d k ahead t j w.0 (exp_lines e t j 2 w.1.0) (exp_lines d (t + 1) (j + made_by e) 2 w.1.1) (by_value_lines (Binary line op e d) k ahead t j w h)
    tested_lines (True line) k ahead t j w h = either k _ _ tt (w, tt)
    tested_lines e k ahead t j w h = by_value_lines e k ahead t j w h

    kept_lines : (e : Exp) (k : Bool) (ahead t j : ℕ) → ExpIsWritten e → LinesFit (exp_code cs e t j 2) → LinesFit (keep_code cs e k ahead t j)
    kept_lines (Paren line e) k ahead t j w h = kept_lines e k ahead t j w.1 h
    kept_lines (And line e d) false ahead t j w h =
        let far = length (keep_code cs d false ahead t (j + made_by e)) + ahead in
        lines_both (keep_code cs e false far t j) _ (kept_lines e false far t j w.1.0 (exp_lines e t j 2 w.1.0)) (kept_lines d false ahead t (j + made_by e) w.1.1 (exp_lines d t (j + made_by e) 2 w.1.1))
    kept_lines (And line e d) true ahead t j w h =
        let far = length (keep_code cs d true ahead t (j + made_by e)) in
        lines_both (test_code cs e true far t j) _ (tested_lines e true far t j w.1.0 (exp_lines e t j 2 w.1.0)) (kept_lines d true ahead t (j + made_by e) w.1.1 (exp_lines d t (j + made_by e) 2 w.1.1))
    kept_lines (Or line e d) false ahead t j w h =
        let far = length (keep_code cs d false ahead t (j + made_by e)) in
        lines_both (test_code cs e false far t j) _ (tested_lines e false far t j w.1.0 (exp_lines e t j 2 w.1.0)) (kept_lines d false ahead t (j + made_by e) w.1.1 (exp_lines d t (j + made_by e) 2 w.1.1))
    kept_lines (Or line e d) true ahead t j w h =
        let far = length (keep_code cs d true ahead t (j + made_by e)) + ahead in
        lines_both (keep_code cs e true far t j) _ (kept_lines e true far t j w.1.0 (exp_lines e t j 2 w.1.0)) (kept_lines d true ahead t (j + made_by e) w.1.1 (exp_lines d t (j + made_by e) 2 w.1.1))
    kept_lines (Unary line op e) k ahead t j w h =
        either (is_not op) _ _ (lines_both (test_code cs e (not k) 2 t j) _ (tested_lines e (not k) 2 t j w.1 (exp_lines e t j 2 w.1)) (w.0, (w.0, tt))) (leaf_lines (Unary line op e) k ahead t j w h)
    kept_lines (Binary line op e d) k ahead t j w h =
        either (is_compared op) _ _
        (lines_both (test_code cs (Binary line op e d) k 2 t j) _
        (comparison_lines line op e d k 2 t j w.0 (exp_lines e t j 2 w.1.0) (exp_lines d (t + 1) (j + made_by e) 2 w.1.1) (by_value_lines (Binary line op e d) k 2 t j w h)) (w.0, (w.0, tt)))
        (leaf_lines (Binary line op e d) k ahead t j w h)
    kept_lines e k ahead t j w h = leaf_lines e k ahead t j w h

    pub exps_lines : (es : Exps) (wanted : Wanted) (t j line : ℕ) → LineFits line → ExpsAreWritten es → LinesFit (exps_code cs es wanted t j line)
    exps_lines EndExps wanted t j line h w = nils_lines wanted t line h
    exps_lines (MoreExps e es) wanted t j line h w =
        lines_both (exp_code cs e t j (field_of e es wanted)) _ (exp_lines e t j (field_of e es wanted) w.0) (exps_lines es (wanted_after e es wanted) (t + 1) (j + made_by e) line h w.1)

    pub fields_lines : (fs : Fields) (stored waiting t j line : ℕ) → LineFits line → FieldsAreWritten fs → LinesFit (fields_code cs fs stored waiting t j line)
    fields_lines EndFields stored waiting t j line h w = waiting_lines stored waiting t line h
    fields_lines (MoreFields (Item e) fs) stored waiting t j line h w =
        let wait = waits e in
        let full = is_full (stored + waiting + 1) in
        let field : ℕ = cond (is_last_item e fs) 0 2 in
        lines_both (item_code wait full (exp_code cs e (item_register wait t waiting) j field) stored waiting (cond (is_last_item e fs) 0 1) t line) _
        (item_lines wait full (exp_code cs e (item_register wait t waiting) j field) stored waiting (cond (is_last_item e fs) 0 1) t line h (exp_lines e (item_register wait t waiting) j field w.0))
        (fields_lines fs (stored_behind wait full stored waiting) (waiting_behind wait full waiting) t (j + made_by e) line h w.1)
    fields_lines (MoreFields (Keyed at_line e d) fs) stored waiting t j line h w =
        let s = field_key cs (is_quiet d) e in
        let value = stored_value cs d in
        lines_both (waiting_code stored waiting t line) _ (waiting_lines stored waiting t line h)
        (lines_both (keyed_store s value (exp_code cs e (t + 1) j 2) (exp_code cs d (t + 2) (j + made_by e) 2) t at_line) _
        (key_lines s (exp_code cs e (t + 1) j 2) _ (exp_lines e (t + 1) j 2 w.1.0)
        (value_lines value (exp_code cs d (t + 2) (j + made_by e) 2) _ (exp_lines d (t + 2) (j + made_by e) 2 w.1.1.0) (last_lines s (is_constant value) t t (value_seat value (t + 2)) at_line w.0)))
        (fields_lines fs (stored + waiting) 0 t (j + made_by e + made_by d) line h w.1.1.1))

  test_lines : (e : Exp) (k : Bool) (ahead t j : ℕ) → ExpIsWritten e → LinesFit (test_code cs e k ahead t j)
  test_lines e k ahead t j w = tested_lines e k ahead t j w (exp_lines e t j 2 w)

  -- statements without blocks

  marks_lines : (names : List Declared) (t : ℕ) → DeclaredFit names → LinesFit (marks_code names t)
  marks_lines [] t w = tt
  marks_lines (d ∷ names) t w = either (is_closed d.attrib) _ _ (w.1.0, marks_lines names (t + 1) w.1.1) (marks_lines names (t + 1) w.1.1)

  close_lines : (before after line : ℕ) → LineFits line → LinesFit (close_code before after line)
  close_lines before after line h = either (nat_eq before after) _ _ tt (h, tt)

  closure_lines : (own : Bool) (t j line : ℕ) → LineFits line → LinesFit (closure_code own t j line)
  closure_lines true t j line h = (h, (h, tt))
  closure_lines false t j line h = (h, tt)

  key_code_lines : (s : FieldKey) (code : List Coded) → LinesFit code → LinesFit (key_code s code)
  key_code_lines evaluated code h = h
  key_code_lines (a_name number) code h = tt
  key_code_lines (an_index n) code h = tt
  key_code_lines (a_register r) code h = tt

  target_lines : (e : Exp) (r j : ℕ) → ExpIsWritten e → LinesFit (target_code cs e r j)
  target_lines (Var line name) r j w = by name.place
    where
      by : (place : Place) → LinesFit (name_target cs place name.text r line)
      by (GlobalIn n) = (w.0, key_code_lines (text_key cs name.text) _ (loads_lines cs (StrConst name.text) (r + 1) line w.0))
      by (GlobalOf u) = (w.0, key_code_lines (text_key cs name.text) _ (loads_lines cs (StrConst name.text) (r + 1) line w.0))
      by _ = tt
  target_lines (Index line o k) r j w = lines_both (exp_code cs o r j 2) _ (exp_lines o r j 2 w.1.0) (key_code_lines (waiting_key cs k) _ (exp_lines k (r + 1) (j + made_by o) 2 w.1.1))
  target_lines _ r j w = tt

  targets_lines : (es : Exps) (r j : ℕ) → ExpsAreWritten es → LinesFit (targets_code cs es r j)
  targets_lines EndExps r j w = tt
  targets_lines (MoreExps e es) r j w = lines_both (target_code cs e r j) _ (target_lines e r j w.0) (targets_lines es (r + 2) (j + made_by e) w.1)

  store_lines : (e : Exp) (r v : ℕ) → ExpIsWritten e → LinesFit (store_code cs e r v)
  store_lines (Var line name) r v w = by name.place
    where
      by : (place : Place) → LinesFit (name_store cs place name.text r v line)
      by Unset = tt
      by (LocalPlace n) = (w.0, tt)
      by (Upvalue u) = (w.0, tt)
      by (GlobalIn n) = last_lines (text_key cs name.text) false r r v line w.0
      by (GlobalOf u) = last_lines (text_key cs name.text) false r r v line w.0
  store_lines (Index line o k) r v w = last_lines (waiting_key cs k) false r r v line w.0
  store_lines _ r v w = tt

  stores_lines : (es : Exps) (r v : ℕ) → ExpsAreWritten es → LinesFit (stores_code cs es r v)
  stores_lines EndExps r v w = tt
  stores_lines (MoreExps e es) r v w = lines_both (stores_code cs es (r + 2) (v + 1)) _ (stores_lines es (r + 2) (v + 1) w.1) (store_lines e r v w.0)

  direct_lines : (e : Exp) (r t j : ℕ) → ExpIsWritten e → LinesFit (direct_code cs e r t j)
  direct_lines (Nil line) r t j w = (w, tt)
  direct_lines (True line) r t j w = (w, tt)
  direct_lines (False line) r t j w = (w, tt)
  direct_lines (Int line z) r t j w = integer_lines cs z r line w.0
  direct_lines (Str line bytes) r t j w = loads_lines cs (StrConst bytes) r line w.0
  direct_lines (Var line name) r t j w = name_lines cs name.place name.text r t line w.0
  direct_lines (Paren line e) r t j w = direct_lines e r t j w.1
  direct_lines (Unary line op e) r t j w = unless_lines (local_of e) (exp_code cs e t j 2) _ (exp_lines e t j 2 w.1) (w.0, tt)
  direct_lines (Index line o k) r t j w =
      read_lines (name_in cs k) o k (exp_code cs o t j 2) (exp_code cs k (t + 1) (j + made_by o) 2) r t line (exp_lines o t j 2 w.1.0) (exp_lines k (t + 1) (j + made_by o) 2 w.1.1) w.0
  direct_lines (Binary line op e d) r t j w =
      operation_lines (constant_in cs op d) op e d (exp_code cs e t j 2) (exp_code cs d (t + 1) (j + made_by e) 2) t (λ x n. constant_code op x n r line) (λ x y. operator_code op x y r line) (λ x n. number_code op x n r line)
      (exp_lines e t j 2 w.1.0) (exp_lines d (t + 1) (j + made_by e) 2 w.1.1) (λ x n. constant_lines op x n r line w.0) (λ x y. operator_lines op x y r line w.0) (λ x n. number_lines op x n r line w.0)
  direct_lines _ r t j w = tt

  first_lines : (es : Exps) (r t j : ℕ) → ExpsAreWritten es → LinesFit (first_direct cs es r t j)
  first_lines EndExps r t j w = tt
  first_lines (MoreExps e es) r t j w = direct_lines e r t j w.0

  stored_lines : (ts es : Exps) (t j line : ℕ) → LineFits line → ExpsAreWritten ts → ExpsAreWritten es → LinesFit (stored_code cs ts es t j line)
  stored_lines ts es t j line h wt we =
      let v = t + 2 * count ts in
      lines_both (targets_code cs ts t j) _ (targets_lines ts t j wt) (lines_both (exps_code cs es (Some (count ts)) v (j + made_in ts) line) _ (exps_lines es (Some (count ts)) v (j + made_in ts) line h we) (stores_lines ts t v wt))

  field_lines : (x e : Exp) (t j after : ℕ) → ExpIsWritten x → ExpIsWritten e → LinesFit (field_code cs x e t j after)
  field_lines (Index line o k) e t j after w we =
      unless_lines (object_of s (is_quiet e) o) (exp_code cs o t j 2) _ (exp_lines o t j 2 w.1.0)
      (key_lines s (exp_code cs k (t + 1) (j + made_by o) 2) _ (exp_lines k (t + 1) (j + made_by o) 2 w.1.1)
      (value_lines (stored_value cs e) (exp_code cs e (t + 2) after 2) _ (exp_lines e (t + 2) after 2 we) (last_lines s (is_constant (stored_value cs e)) (seat (object_of s (is_quiet e) o) t) t (value_seat (stored_value cs e) (t + 2)) line w.0)))
    where
      s : FieldKey
      s = field_key cs (is_quiet e) k
  field_lines _ e t j after w we = tt

  -- a local or a constant that goes to a global name
  local_line : (place : Place) (number : ℕ) (flag : Bool) (v line : ℕ) (x : Coded) → global_store place number flag v line ≡ Some x → LineFits line → LineFits x.1
  local_line (GlobalIn n) number flag v line x h fits = subst (λ z. LineFits z.1) (some_store (abc SetField n number v flag, line) x h) fits
  local_line (GlobalOf u) number flag v line x h fits = subst (λ z. LineFits z.1) (some_store (abc SetTabUp u number v flag, line) x h) fits
  local_line _ number flag v line x h fits = absurd (cc)

  first_field_lines : (ts es : Exps) (t j after : ℕ) → ExpsAreWritten ts → ExpsAreWritten es → LinesFit (first_field cs ts es t j after)
  first_field_lines EndExps es t j after wt we = tt
  first_field_lines (MoreExps x ts) EndExps t j after wt we = tt
  first_field_lines (MoreExps x ts) (MoreExps e es) t j after wt we = field_lines x e t j after wt.0 we.0

  first_two_lines : (ts es : Exps) (r t j : ℕ) → ExpsAreWritten ts → ExpsAreWritten es → LinesFit (first_two cs ts es r t j)
  first_two_lines EndExps es r t j wt we = tt
  first_two_lines (MoreExps x ts) EndExps r t j wt we = tt
  first_two_lines (MoreExps x ts) (MoreExps e EndExps) r t j wt we = tt
  first_two_lines (MoreExps x ts) (MoreExps e (MoreExps d es)) r t j wt we =
      lines_both (target_code cs x t j) _ (target_lines x t j wt.0)
      (lines_both (exp_code cs e (t + 2) (j + made_by x) 2) _ (exp_lines e (t + 2) (j + made_by x) 2 we.0)
      (lines_both (direct_code cs d r (t + 3) (j + made_by x + made_by e)) _ (direct_lines d r (t + 3) (j + made_by x + made_by e) we.1.0) (store_lines x t (t + 2) wt.0)))

  assign_lines : (ts es : Exps) (t j line : ℕ) → LineFits line → ExpsAreWritten ts → ExpsAreWritten es → LinesFit (assign_code cs ts es t j line)
  assign_lines ts es t j line h wt we = by (assigned ts es)
    where
      by : (o : Option ℕ) → LinesFit (assign_by cs o ts es t j line)
      by None = by_two (second_assigned ts es)
        where
          by_two : (o : Option ℕ) → LinesFit (two_by cs o ts es t j line)
          by_two (Some r) = first_two_lines ts es r t j wt we
          by_two None = by_field (stores_field ts es)
            where
              by_field : (b : Bool) → LinesFit (store_by cs b ts es t j line)
              by_field true = first_field_lines ts es t j (j + made_in ts) wt we
              by_field false = by_store (single_store cs ts es) refl
                where
                  by_store : (o : Option Coded) → single_store cs ts es ≡ o → LinesFit (kept_code cs o ts es t j line)
                  by_store None is = stored_lines ts es t j line h wt we
                  by_store (Some x) is =
                      let form = single_store_is cs ts es x is in
                      let written = subst ExpsAreWritten form.target wt in
                      (local_line form.name.place (number_in cs (StrConst form.name.text)) form.constant form.field form.line x form.store written.0.0, tt)
      by (Some r) = first_lines es r t (j + made_in ts) we

  values_lines : (es : Exps) (t j line back : ℕ) → LineFits line → ExpsAreWritten es → LinesFit (values_last cs es t j line back)
  values_lines es t j line back h w = by (lone_local es)
    where
      by : (o : Option ℕ) → LinesFit (returned_by cs o es t j line back)
      by None = lines_both (exps_code cs es None t j line) _ (exps_lines es None t j line h w) (h, tt)
      by (Some r) = (h, tt)

  pub return_lines : (closing : Bool) (es : Exps) (t j line back : ℕ) → LineFits line → ExpsAreWritten es → LinesFit (return_code cs closing es t j line back)
  return_lines false (MoreExps (Call at_line f es) EndExps) t j line back h w =
      let c = w.0 in
      lines_both (exp_code cs f t j 2) _ (exp_lines f t j 2 c.1.0) (lines_both (exps_code cs es None (t + 1) (j + made_by f) at_line) _ (exps_lines es None (t + 1) (j + made_by f) at_line c.0 c.1.1) (c.0, (c.0, tt)))
  return_lines false (MoreExps (Method at_line o name es) EndExps) t j line back h w =
      let c = w.0 in
      let x = seat (local_of o) t in
      unless_lines (local_of o) (exp_code cs o t j 2) _ (exp_lines o t j 2 c.1.0) (lines_both (self_code cs name.text x t at_line) _ (method_lines cs name.text x t at_line c.0)
      (lines_both (exps_code cs es None (t + 2) (j + made_by o) at_line) _ (exps_lines es None (t + 2) (j + made_by o) at_line c.0 c.1.1.1) (c.0, (c.0, tt))))
  return_lines closing es t j line back h w = values_lines es t j line back h w

  module _ (back : Leaving) where
    mutual
      pub stat_lines : (s : Stat) (closing : Bool) (t j pc : ℕ) (reach : Reach) → StatIsWritten s → LinesFit (stat_code cs back s closing t j pc reach)
      stat_lines (Empty line) closing t j pc reach w = tt
      stat_lines (Local line names es) closing t j pc reach w = lines_both (exps_code cs es (Some (length names)) t j line) _ (exps_lines es (Some (length names)) t j line w.0 w.1.1) (marks_lines names t w.1.0)
      stat_lines (LocalFunction line name body) closing t j pc reach w = closure_lines (captures_local t (upvalues_of body)) t j (line_of_body body) (body_line body w.1.1)
      stat_lines (Assign line ts es) closing t j pc reach w = assign_lines ts es t j line w.0 w.1.0 w.1.1
      stat_lines (CallStat line e) closing t j pc reach w = exp_lines e t j 1 w.1
      stat_lines (Do line block) closing t j pc reach w = block_lines block closing t t j pc reach w.1
      stat_lines (While line e block) closing t j pc reach w =
          let place = pc + length (test_code cs e true 0 t j) in
          let inner = in_loop reach (pc + stat_size cs back (While line e block) closing t j) t in
          let code = block_code cs back block closing t t (j + made_by e) place inner in
          lines_both (test_code cs e true (length code + 1) t j) _ (test_lines e true (length code + 1) t j w.1.0) (lines_both code _ (block_lines block closing t t (j + made_by e) place inner w.1.1) (w.0, tt))
      stat_lines (Repeat line block e) closing t j pc reach w =
          let within = levels_in block t in
          let inner = in_loop reach (pc + stat_size cs back (Repeat line block e) closing t j) t in
          let low = closed_until block e t in
          let close = close_code t low (line_of_end block) in
          let closes = close_lines t low (line_of_end block) (block_line block w.1.0) in
          lines_both (open_code cs back block closing t j pc inner) _ (open_lines block closing t j pc inner w.1.0)
          (lines_both (test_code cs e false (length close + 1) within (j + made_in_block block)) _ (test_lines e false (length close + 1) within (j + made_in_block block) w.1.1) (lines_both close _ closes (w.0, closes)))
      stat_lines (If line arms) closing t j pc reach w = arms_lines arms [] closing t j pc line reach w.0 w.1 tt
      stat_lines (IfElse line arms block) closing t j pc reach w =
          let k = j + made_in_arms arms in
          let place = pc + arms_size cs back arms (block_size cs back block closing t t k) closing t j in
          arms_lines arms (block_code cs back block closing t t k place reach) closing t j pc line reach w.0 w.1.0 (block_lines block closing t t k place reach w.1.1)
      stat_lines (NumFor line name from limit block) closing t j pc reach w =
          let start = bounds_code cs from limit t j line in
          let k = j + made_by from + made_by limit in
          let inner = in_loop reach (pc + stat_size cs back (NumFor line name from limit block) closing t j) t in
          let pair = exp_code cs from t j 2 ++ exp_code cs limit (t + 1) (j + made_by from) 2 in
          lines_both start _ (lines_both pair _ (lines_both (exp_code cs from t j 2) _ (exp_lines from t j 2 w.1.1.0) (exp_lines limit (t + 1) (j + made_by from) 2 w.1.1.1.0)) (w.0, tt))
          (w.0, lines_both (block_code cs back block closing (t + 3) (t + 4) k (pc + length start + 1) inner) _ (block_lines block closing (t + 3) (t + 4) k (pc + length start + 1) inner w.1.1.1.1) (w.0, tt))
      stat_lines (NumForStep line name from limit step block) closing t j pc reach w =
          let start = steps_code cs from limit step t j in
          let k = j + made_by from + made_by limit + made_by step in
          let inner = in_loop reach (pc + stat_size cs back (NumForStep line name from limit step block) closing t j) t in
          let pair = exp_code cs from t j 2 ++ exp_code cs limit (t + 1) (j + made_by from) 2 in
          lines_both start _ (lines_both pair _ (lines_both (exp_code cs from t j 2) _ (exp_lines from t j 2 w.1.1.0) (exp_lines limit (t + 1) (j + made_by from) 2 w.1.1.1.0)) (exp_lines step (t + 2) (j + made_by from + made_by limit) 2 w.1.1.1.1.0))
          (w.0, lines_both (block_code cs back block closing (t + 3) (t + 4) k (pc + length start + 1) inner) _ (block_lines block closing (t + 3) (t + 4) k (pc + length start + 1) inner w.1.1.1.1.1) (w.0, tt))
      stat_lines (GenFor line names es block) closing t j pc reach w =
          let start = exps_code cs es (Some 4) t j line in
          let k = j + made_in es in
          let inner = in_loop reach (pc + stat_size cs back (GenFor line names es block) closing t j) t in
          lines_both start _ (exps_lines es (Some 4) t j line w.0 w.1.1.0)
          (w.0, lines_both (block_code cs back block true (t + 4) (t + 4 + length names) k (pc + length start + 1) inner) _ (block_lines block true (t + 4) (t + 4 + length names) k (pc + length start + 1) inner w.1.1.1) (w.0, (w.0, (w.0, tt))))
      stat_lines (Label line name) closing t j pc reach w = tt
      stat_lines (Goto line name) closing t j pc reach w = leads_lines (back.closes || closing) (label_in name.text reach.labels) pc line w
      stat_lines (Break line) closing t j pc reach w = leads_lines (back.closes || closing) reach.exit pc line w

      pub arms_lines : (arms : Arms) (otherwise : List Coded) (closing : Bool) (t j pc line : ℕ) (reach : Reach) → LineFits line → ArmsAreWritten arms → LinesFit otherwise → LinesFit (arms_code cs back arms otherwise closing t j pc line reach)
      arms_lines EndArms otherwise closing t j pc line reach h w others = others
      arms_lines (MoreArms e block arms) otherwise closing t j pc line reach h w others =
          let k = j + made_by e + made_in_block block in
          let inner = pc + length (test_code cs e true 0 t j) in
          let next = inner + block_size cs back block closing t t (j + made_by e) + past_size (arms_size cs back arms (length otherwise) closing t k + length otherwise) in
          let code = block_code cs back block closing t t (j + made_by e) inner reach in
          let behind = arms_code cs back arms otherwise closing t k next line reach in
          lines_both (test_code cs e true (length code + length (past behind line)) t j) _ (test_lines e true (length code + length (past behind line)) t j w.0)
          (lines_both code _ (block_lines block closing t t (j + made_by e) inner reach w.1.0) (lines_both (past behind line) _ (past_lines behind line h) (arms_lines arms otherwise closing t k next line reach h w.1.1 others)))

      pub stats_lines : (ss : Stats) (falls closing : Bool) (outer t j pc : ℕ) (passed : List Visible) (reach : Reach) → StatsAreWritten ss → LinesFit (stats_code cs back ss falls closing outer t j pc passed reach)
      stats_lines EndStats falls closing outer t j pc passed reach w = tt
      stats_lines (MoreStats s ss) falls closing outer t j pc passed reach w =
          let k = j + made_by_stat s in
          let place = pc + stat_size cs back s closing t j in
          let ahead = labels_ahead cs back ss falls (closing_after s closing) outer (level_after s t) k place in
          let here : Reach = record { labels = ahead ++ (passed ++ reach.labels); exit = reach.exit } in
          lines_both (stat_code cs back s closing t j pc here) _ (stat_lines s closing t j pc here w.0) (stats_lines ss falls (closing_after s closing) outer (level_after s t) k place (passed_after s t pc passed) reach w.1)

      pub block_lines : (block : Block) (closing : Bool) (outer t j pc : ℕ) (reach : Reach) → BlockIsWritten block → LinesFit (block_code cs back block closing outer t j pc reach)
      block_lines (Falls ss tokens line) closing outer t j pc reach w = lines_both (stats_code cs back ss true closing outer t j pc [] reach) _ (stats_lines ss true closing outer t j pc [] reach w.1) (close_lines outer (closed_below ss outer t) line w.0)
      block_lines (Returns ss es tokens line) closing outer t j pc reach w =
          lines_both (stats_code cs back ss false closing outer t j pc [] reach) _ (stats_lines ss false closing outer t j pc [] reach w.1.0) (return_lines (closings_after ss closing) es (levels_after ss t) (j + made_in_stats ss) line back.back w.0 w.1.1)

      pub open_lines : (block : Block) (closing : Bool) (t j pc : ℕ) (reach : Reach) → BlockIsWritten block → LinesFit (open_code cs back block closing t j pc reach)
      open_lines (Falls ss tokens line) closing t j pc reach w = stats_lines ss false closing t t j pc [] reach w.1
      open_lines (Returns ss es tokens line) closing t j pc reach w =
          lines_both (stats_code cs back ss false closing t t j pc [] reach) _ (stats_lines ss false closing t t j pc [] reach w.1.0) (return_lines (closings_after ss closing) es (levels_after ss t) (j + made_in_stats ss) line back.back w.0 w.1.1)

    pub whole_lines : (block : Block) (params pc : ℕ) → BlockIsWritten block → LinesFit (whole_code cs back block params pc)
    whole_lines (Falls ss tokens line) params pc w =
        lines_both (stats_code cs back ss true false 0 params 0 pc [] (record { labels = []; exit = None })) _ (stats_lines ss true false 0 params 0 pc [] (record { labels = []; exit = None }) w.1) (w.0, tt)
    whole_lines (Returns ss es tokens line) params pc w = block_lines (Returns ss es tokens line) false 0 params 0 pc (record { labels = []; exit = None }) w

begins : (line : ℕ) → LineFits line → LineFits (first_line line)
begins line h = by (nat_eq line 0)
  where
    by : (b : Bool) → LineFits (cond b 1 line)
    by true = refl
    by false = h

pub body_lines : (body : Body) → BodyIsWritten body → LinesFit (body_code body)
body_lines (BodyOf params false inner ups line) w = whole_lines (of_block inner []) (leaving_of false (length params) inner) inner (length params) 0 w.1.1.1
body_lines (BodyOf params true inner ups line) w = (begins line w.0, whole_lines (of_block inner []) (leaving_of true (length params) inner) inner (length params) 1 w.1.1.1)
