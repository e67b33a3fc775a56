-- The code of statements that have no block, and the forms of those that have some (Lua 5.4 manual, 3.3), where t locals are in scope:
-- these stand in the registers below t.
use Rattle.std.specs.Prelude.{ℕ, zero, suc, ◌+◌, ◌*◌, pos, Bool, true, false, cond, ◌&&◌, ◌||◌, List, [], ◌∷◌, ◌++◌, length, nat_eq, Option, Some, None}
use Rattle.tree_core.specs.declared.name.Declared.{Declared}
use Rattle.tree_core.specs.declared.name.Place.{Place}
use Rattle.tree_core.specs.declared.name.Place.TheVariants.{Unset, Upvalue, GlobalIn, GlobalOf, Local as LocalPlace}
use Rattle.tree_core.specs.Tree.{Body, Exp, Var, Index, Binary, Call, Method, Exps, EndExps, MoreExps, Nil, True, False, Int, Str, Paren, Unary}
use Rattle.tree_core.specs.declared.name.UpName.{UpName}
use Rattle.tree_terms.specs.Bodies.{line_of_body, upvalues_of}
use Rattle.tree_activation.specs.Statements.{is_closed}
use Rattle.code_core.specs.declared.opcode.Opcode.TheVariants.{Move, LoadI, LoadNil, LoadTrue, LoadFalse, GetUpval, SetUpval, Close, Tbc, TailCall, Return, ForLoop, ForPrep, TForPrep, TForCall, TForLoop, Closure}
use Rattle.code_core.specs.declared.proto.Const.{Const}
use Rattle.code_core.specs.declared.proto.Const.TheVariants.{Str as StrConst}
use Rattle.code_of.specs.Coded.{Coded, with_abc, with_abx, jump_over, jump_back, leaving_by, leaving_local}
use Rattle.code_of.specs.Constants.{small_field, loads, loads_integer}
use Rattle.code_of.specs.Operands.{local_of, lone_local, second_of, first_of, operand_code, operands_code, assigned, second_assigned}
use Rattle.code_of.specs.Stores.{name_in, field_key, object_of, key_code, field_store, fields_store, stores_field, is_quiet}
use Rattle.code_of.specs.StoredValues.{stored_value}
use Rattle.code_of.specs.Targets.{waiting_key, text_key, single_store}
use Rattle.code_of.specs.FieldReads.{read_code}
use Rattle.code_of.specs.Operators.{name_into, self_code, prefix_code, operator_code, number_code}
use Rattle.code_of.specs.Operations.{constant_in, operation_code}
use Rattle.code_of.specs.Expressions.{made_by, made_in, count, list_field, exp_code, exps_code}

-- variables to be closed are marked once all names of their declaration are in scope
abbrev pub marks_code : List Declared → (t : ℕ) → List Coded
marks_code [] t = []
marks_code (d ∷ names) t = cond (is_closed d.attrib) (with_abc Tbc t 0 0 d.name.line ∷ marks_code names (t + 1)) (marks_code names (t + 1))

-- the cells of the locals between two numbers are closed, and so are those of them that are to be closed
abbrev pub close_code : (before after line : ℕ) → List Coded
close_code before after line = cond (nat_eq before after) [] (with_abc Close before 0 0 line ∷ [])

-- whether a function captures the local of a register
abbrev pub captures_local : ℕ → List UpName → Bool
captures_local r [] = false
captures_local r (u ∷ us) = (u.in_stack && nat_eq u.index r) || captures_local r us

-- a local function whose body names it has nil where its cell is made; else its register is written once
abbrev pub closure_code : (own : Bool) → (t j line : ℕ) → List Coded
closure_code true t j line = with_abc LoadNil t 0 0 line ∷ with_abx Closure t j line ∷ []
closure_code false t j line = with_abx Closure t j line ∷ []

abbrev pub function_code : Body → (t j : ℕ) → List Coded
function_code body t j = closure_code (captures_local t (upvalues_of body)) t j (line_of_body body)

-- a loop: the test, which leads past the end, the block and a jump back to the test
abbrev pub while_code : (test : (ahead : ℕ) → List Coded) → (block : List Coded) → (line : ℕ) → List Coded
while_code test block line =
    let first = test (length block + 1) in
    first ++ (block ++ jump_back (length first + length block + 1) line ∷ [])

-- the test sees the locals of the block; they are closed whatever it came to
abbrev pub repeat_code : (test : (ahead : ℕ) → List Coded) → (block close : List Coded) → (line : ℕ) → List Coded
repeat_code test block close line =
    let last = test (length close + 1) in
    block ++ (last ++ (close ++ (jump_back (length block + length last + length close + 1) line ∷ close)))

-- a test with its block, and what else is to be done; where there is nothing else no jump leads past it

abbrev pub past_size : (rest : ℕ) → ℕ
past_size zero = 0
past_size (suc n) = 1

abbrev pub past : (rest : List Coded) → (line : ℕ) → List Coded
past [] line = []
past (x ∷ rest) line = jump_over (length (x ∷ rest)) line ∷ []

abbrev pub arm_code : (test : (ahead : ℕ) → List Coded) → (block rest : List Coded) → (line : ℕ) → List Coded
arm_code test block rest line = test (length block + length (past rest line)) ++ (block ++ (past rest line ++ rest))

-- a numeric `for`: the index, the limit or the count of rounds to come, and the step stand in registers of their own, and the variable behind them

abbrev pub default_step : (t line : ℕ) → List Coded
default_step t line = with_abx LoadI t (small_field (pos 1)) line ∷ []

abbrev pub counting_code : (start block : List Coded) → (t line : ℕ) → List Coded
counting_code start block t line =
    start ++ (with_abx ForPrep t (length block) line ∷ (block ++ with_abx ForLoop t (length block + 1) line ∷ []))

-- a generic `for`: the iterator, the state, the control variable and the value to be closed stand in registers of their own, and n variables behind them
abbrev pub iterating_code : (start block : List Coded) → (t n line : ℕ) → List Coded
iterating_code start block t n line =
    start ++ (with_abx TForPrep t (length block) line
    ∷ (block ++ (with_abc TForCall t 0 n line ∷ with_abx TForLoop t (length block + 2) line ∷ with_abc Close t 0 0 line ∷ [])))

module _ (constants : List Const) where
  -- a target has two registers from r on: its table, and its key where that is made. No tree has another target than a name and an index, and a resolved
  -- tree has no name whose place is unset

  abbrev pub name_target : Place → List ℕ → (r line : ℕ) → List Coded
  name_target (GlobalIn n) text r line = with_abc Move r n 0 line ∷ key_code (text_key constants text) (loads constants (StrConst text) (r + 1) line)
  name_target (GlobalOf u) text r line = with_abc GetUpval r u 0 line ∷ key_code (text_key constants text) (loads constants (StrConst text) (r + 1) line)
  name_target _ text r line = []

  abbrev pub target_code : Exp → (r j : ℕ) → List Coded
  target_code (Var line name) r j = name_target name.place name.text r line
  target_code (Index line object key) r j =
      exp_code constants object r j 2 ++ key_code (waiting_key constants key) (exp_code constants key (r + 1) (j + made_by object) 2)
  target_code _ r j = []

  abbrev pub targets_code : Exps → (r j : ℕ) → List Coded
  targets_code EndExps r j = []
  targets_code (MoreExps e es) r j = target_code e r j ++ targets_code es (r + 2) (j + made_by e)

  -- the value in register v goes to a target

  abbrev pub name_store : Place → List ℕ → (r v line : ℕ) → List Coded
  name_store Unset text r v line = []
  name_store (LocalPlace n) text r v line = with_abc Move n v 0 line ∷ []
  name_store (Upvalue u) text r v line = with_abc SetUpval v u 0 line ∷ []
  name_store (GlobalIn n) text r v line = field_store (text_key constants text) r r v line ∷ []
  name_store (GlobalOf u) text r v line = field_store (text_key constants text) r r v line ∷ []

  abbrev pub store_code : Exp → (r v : ℕ) → List Coded
  store_code (Var line name) r v = name_store name.place name.text r v line
  store_code (Index line object key) r v = field_store (waiting_key constants key) r r v line ∷ []
  store_code _ r v = []

  -- from right to left
  abbrev pub stores_code : Exps → (r v : ℕ) → List Coded
  stores_code EndExps r v = []
  stores_code (MoreExps e es) r v = stores_code es (r + 2) (v + 1) ++ store_code e r v

  abbrev pub stored_code : (targets values : Exps) → (t j line : ℕ) → List Coded
  stored_code targets es t j line =
      let v = t + 2 * count targets in
      targets_code targets t j ++ (exps_code constants es (Some (count targets)) v (j + made_in targets) line ++ stores_code targets t v)

  -- or by the store alone
  abbrev pub kept_code : (store : Option Coded) → (targets values : Exps) → (t j line : ℕ) → List Coded
  kept_code None targets es t j line = stored_code targets es t j line
  kept_code (Some x) targets es t j line = x ∷ []

  -- register r gets the value of an expression that has one instruction for it; what that reads stands in the registers from t on

  abbrev pub direct_code : Exp → (r t j : ℕ) → List Coded
  direct_code (Nil line) r t j = with_abc LoadNil r 0 0 line ∷ []
  direct_code (True line) r t j = with_abc LoadTrue r 0 0 line ∷ []
  direct_code (False line) r t j = with_abc LoadFalse r 0 0 line ∷ []
  direct_code (Int line n) r t j = loads_integer constants n r line
  direct_code (Str line bytes) r t j = loads constants (StrConst bytes) r line
  direct_code (Var line name) r t j = name_into constants name.place name.text r t line
  direct_code (Paren line e) r t j = direct_code e r t j
  direct_code (Unary line op e) r t j = operand_code (local_of e) (exp_code constants e t j 2) t (λ x. prefix_code op x r line)
  direct_code (Binary line op e d) r t j =
      operation_code (constant_in constants op d) op e d (exp_code constants e t j 2) (exp_code constants d (t + 1) (j + made_by e) 2) r t line
  direct_code (Index line object key) r t j = read_code (name_in constants key) object key (exp_code constants object t j 2) (exp_code constants key (t + 1) (j + made_by object) 2) r t line
  direct_code _ r t j = []

  abbrev pub first_direct : Exps → (r t j : ℕ) → List Coded
  first_direct EndExps r t j = []
  first_direct (MoreExps e es) r t j = direct_code e r t j

  -- Two values for a target and a local: the first value and what the target needs wait in the registers from t on, while the second one goes straight to register r

  abbrev pub two_code : (x e d : Exp) → (r t j : ℕ) → List Coded
  two_code x e d r t j =
      target_code x t j ++ (exp_code constants e (t + 2) (j + made_by x) 2 ++ (direct_code d r (t + 3) (j + made_by x + made_by e) ++ store_code x t (t + 2)))

  abbrev pub first_two : (targets values : Exps) → (r t j : ℕ) → List Coded
  first_two (MoreExps x targets) (MoreExps e (MoreExps d es)) r t j = two_code x e d r t j
  first_two _ _ r t j = []

  -- the value of an expression goes to a field

  abbrev pub field_code : Exp → Exp → (t j after : ℕ) → List Coded
  field_code (Index line object key) e t j after =
      fields_store (field_key constants (is_quiet e) key) (object_of (field_key constants (is_quiet e) key) (is_quiet e) object) (stored_value constants e)
      (exp_code constants object t j 2) (exp_code constants key (t + 1) (j + made_by object) 2) (exp_code constants e (t + 2) after 2) t line
  field_code _ e t j after = []

  abbrev pub first_field : (targets values : Exps) → (t j after : ℕ) → List Coded
  first_field (MoreExps x targets) (MoreExps e es) t j after = field_code x e t j after
  first_field _ _ t j after = []

  abbrev pub store_by : (field : Bool) → (targets values : Exps) → (t j line : ℕ) → List Coded
  store_by true targets es t j line = first_field targets es t j (j + made_in targets)
  store_by false targets es t j line = kept_code (single_store constants targets es) targets es t j line

  abbrev pub two_by : Option ℕ → (targets values : Exps) → (t j line : ℕ) → List Coded
  two_by None targets es t j line = store_by (stores_field targets es) targets es t j line
  two_by (Some r) targets es t j line = first_two targets es r t j

  abbrev pub assign_by : Option ℕ → (targets values : Exps) → (t j line : ℕ) → List Coded
  assign_by None targets es t j line = two_by (second_assigned targets es) targets es t j line
  assign_by (Some r) targets es t j line = first_direct es r t (j + made_in targets)

  abbrev pub assign_code : (targets values : Exps) → (t j line : ℕ) → List Coded
  assign_code targets es t j line = assign_by (assigned targets es) targets es t j line

  -- a call in the place of its caller. The list that it leaves is taken by a RETURN that is never reached

  abbrev pub call_last : Exp → Exps → (t j line back : ℕ) → List Coded
  call_last f es t j line back =
      exp_code constants f t j 2 ++ (exps_code constants es None (t + 1) (j + made_by f) line
      ++ (leaving_by TailCall t (list_field 0 es) back line ∷ leaving_by Return t 0 back line ∷ []))

  abbrev pub method_last : Exp → List ℕ → Exps → (t j line back : ℕ) → List Coded
  method_last object name es t j line back =
      operand_code (local_of object) (exp_code constants object t j 2) t
      (λ x. self_code constants name x t line ++ (exps_code constants es None (t + 2) (j + made_by object) line
      ++ (leaving_by TailCall t (list_field 1 es) back line ∷ leaving_by Return t 0 back line ∷ [])))

  -- the values of a list; a local that is all of it stays in its register

  abbrev pub listed_last : Exps → (t j line back : ℕ) → List Coded
  listed_last es t j line back = exps_code constants es None t j line ++ leaving_by Return t (list_field 0 es) back line ∷ []

  abbrev pub returned_by : (local : Option ℕ) → Exps → (t j line back : ℕ) → List Coded
  returned_by None es t j line back = listed_last es t j line back
  returned_by (Some r) es t j line back = leaving_local r t back line ∷ []

  abbrev pub values_last : Exps → (t j line back : ℕ) → List Coded
  values_last es t j line back = returned_by (lone_local es) es t j line back

  -- `back` is the field C of each RETURN
  abbrev pub return_code : (closing : Bool) → Exps → (t j line back : ℕ) → List Coded
  return_code false (MoreExps (Call call_line f es) EndExps) t j line back = call_last f es t j call_line back
  return_code false (MoreExps (Method call_line object name es) EndExps) t j line back = method_last object name.text es t j call_line back
  return_code closing es t j line back = values_last es t j line back

  -- the values of a numeric `for`

  abbrev pub pair_code : (from limit : Exp) → (t j : ℕ) → List Coded
  pair_code from limit t j = exp_code constants from t j 2 ++ exp_code constants limit (t + 1) (j + made_by from) 2

  abbrev pub bounds_code : (from limit : Exp) → (t j line : ℕ) → List Coded
  bounds_code from limit t j line = pair_code from limit t j ++ default_step (t + 2) line

  abbrev pub steps_code : (from limit step : Exp) → (t j : ℕ) → List Coded
  steps_code from limit step t j = pair_code from limit t j ++ exp_code constants step (t + 2) (j + made_by from + made_by limit) 2
