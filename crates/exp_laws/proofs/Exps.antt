-- The code of an expression talks as the expression does. The work below is any work, and code goes on by a hypothesis.
use Rattle.std.proofs.Common.{◌≡◌, ℕ, ◌+◌, ◌-◌, ◌<◌, ◌≤◌, ◌^◌, lit<, max, Bool, true, false, zero, suc, Option, Some, None, List, [], ◌∷◌, ◌++◌, length, cond, refl, ap, sym, ◌∙◌, subst, arith, length-append}
use Rattle.int_core.specs.Value.{Value, known, nil, boolean, nth}
use Rattle.int_core.specs.Ask.{Captured, goes_on}
use Rattle.tree_core.specs.declared.operator.BinOp.{BinOp}
use Rattle.tree_core.specs.Tree.{Exp, Nil, True, False, Int, Str, Vararg, Function, Var, Index, Call, Method, Unary, Binary, And, Or, Paren, Table, Exps, EndExps, MoreExps, Fields, EndFields, MoreFields, Item, Keyed}
use Rattle.tree_activation.specs.Work.{Purpose, for_call, evaluate, give, collect, construct, callee_of, method_of, listed, Work, Pending, operand_of, right_of, and_right, or_right, first_only}
use Rattle.tree_activation.specs.Work as tree
use Rattle.tree_activation.specs.Activation.{takes_all, step}
use Rattle.tree_activation.specs.Asking.{first}
use Rattle.code_core.specs.declared.opcode.Opcode.TheVariants.{LoadNil, LoadTrue, LoadFalse, Call as CallCode}
use Rattle.code_core.specs.declared.proto.Const.{Const}
use Rattle.code_core.specs.declared.proto.Const.TheVariants.{Str as StrConst}
use Rattle.code_core.specs.Check.{fixed, open_from}
use Rattle.machine_core.specs.Talk.{before}
use Rattle.code_of.specs.Coded.{with_abc}
use Rattle.code_of.specs.Constants.{is_small}
use Rattle.code_of.specs.Operands.{joins}
use Rattle.code_of.proofs.Operands.{second_number, joins_made}
use Rattle.code_of.specs.Stores.{name_in}
use Rattle.code_of.specs.Operations.{constant_in, constant_code, operation_code}
use Rattle.code_of.specs.Chains.{chain_code}
use Rattle.code_of.proofs.Chains.{joins_is}
use Rattle.code_of.proofs.Operations.{some_operation}
use Rattle.code_of.proofs.FieldReads.{some_read}
use Rattle.code_of.specs.Operators.{self_code, prefix_code, operator_code, number_code}
use Rattle.code_of.specs.Expressions.{made_by, count, is_open, ends_open, Wanted, results_field, one_less, field_of, wanted_after, list_field, exp_code, exps_code, fields_code}
use Rattle.exp_laws.specs.Setting.{Setting}
use Rattle.exp_laws.proofs.Registers.{Rel, After, after_then, lower}
use Rattle.exp_laws.proofs.Talking.{Agree, go_left, of_tree, of_code}
use Rattle.exp_laws.proofs.Placing.{HasAt, has_front, has_back}
use Rattle.exp_laws.proofs.Steps.{true_step, false_step}
use Rattle.exp_laws.proofs.Lists.{Holds, held_first, held_one}
use Rattle.exp_laws.proofs.Calls.{Passed}
use Rattle.exp_laws.proofs.CallForms.{varargs_goes, call_goes, self_goes}
use Rattle.exp_laws.proofs.ListForms.{GoesListed, Listed, total, listed_at, listed_after, listed_less, passed, nils_goes, held_both}
use Rattle.exp_laws.proofs.FunctionForms.{function_goes}
use Rattle.exp_laws.proofs.TableForms.{new_goes}
use Rattle.exp_laws.proofs.ItemForms.{OpenSame, FieldsSame, end_goes, item_goes, keyed_goes}
use Rattle.exp_laws.proofs.Loads.{nil_step}
use Rattle.exp_laws.specs.Placed.{IsPlaced, ArePlaced, FieldsArePlaced}
use Rattle.code_of.specs.FieldReads.{object_room}
use Rattle.code_of.specs.Rooms.{room_of, room_of_name, room_of_list, room_of_values}
use Rattle.code_of.proofs.Rooms.{self_room}
use Rattle.exp_laws.proofs.Going.{Given, Filled, Goes, GoesFilled, goes_at, goes_after, into_goes, one_goes}
use Rattle.exp_laws.proofs.NameForms.{constant_goes, integer_goes, name_goes}
use Rattle.exp_laws.proofs.OperatorForms.{unary_into, binary_goes, number_goes}
use Rattle.exp_laws.proofs.Sums.{number_form}
use Rattle.exp_laws.proofs.Operands.{ExpSame}
use Rattle.exp_laws.proofs.Standing.{operand_goes}
use Rattle.exp_laws.proofs.ConstantForms.{operation_same, with_constant_goes}
use Rattle.exp_laws.proofs.FieldForms.{field_into}
use Rattle.exp_laws.proofs.Rooms.{room_some}
use Rattle.exp_laws.proofs.TestForms.{TestSame, leaf_tested, paren_tested, unary_tested, and_tested, or_tested, binary_tested, true_tested}
use Rattle.exp_laws.proofs.Keeping.{KeepSame, leaf_kept, unary_kept, binary_kept, paren_kept, and_kept, or_kept, and_keeps, or_keeps, either_same}
use Rattle.exp_laws.proofs.ChainForms.{ChainSame, ChainsSame, chain_end, chain_binary, join_same}

-- each value of a list that is not open has its register
pub room_count : (cs : List Const) (above : ℕ) (es : Exps) → ends_open es ≡ false → above + count es ≤ max above (room_of_list cs above es None)
room_count cs above EndExps e = omega arith
room_count cs above (MoreExps d EndExps) e =
    let some = room_some cs d in
    let same : room_of cs d (field_of d EndExps None) ≡ room_of cs d 2 = ap (λ b. room_of cs d (cond b 0 2)) e in
    omega (arith, some, same)
room_count cs above (MoreExps d (MoreExps f es)) e =
    let some = room_some cs d in
    let rest = room_count cs (above + 1) (MoreExps f es) e in
    omega (arith, some, rest)

-- a list that ends by a call or `...` has one
open_some : (es : Exps) → ends_open es ≡ true → 1 ≤ count es
open_some EndExps e = absurd (cc)
open_some (MoreExps d es) e = omega arith

-- all values of the last expression count, or each expression gives one and so many are wanted
abbrev pub Counted : (all : Bool) → Wanted → Exps → Type 0
Counted true wanted es = Unit {0}
Counted false wanted es = wanted ≡ Some (count es)

counted_less : (all : Bool) (wanted : Wanted) (e : Exp) (es : Exps) → Counted all wanted (MoreExps e es) → Counted all (one_less wanted) es
counted_less true wanted e es h = tt
counted_less false wanted e es h = let one : suc (count es) - 1 ≡ count es = omega arith in ap one_less h ∙ ap Some one

one_added : (all : Bool) (have vs : List Value) → vs ≡ first vs ∷ [] → cond all (have ++ vs) (have ++ first vs ∷ []) ≡ have ++ first vs ∷ []
one_added true have vs e = ap (λ l. have ++ l) e
one_added false have vs e = refl

-- what is wanted of a list has a field of 8 bits
abbrev pub WantedFits : Wanted → Type 0
WantedFits None = Unit {0}
WantedFits (Some n) = n + 1 < 2 ^ 8

module _ (S : Setting) (pending : List Pending) where
  placed : (e : Exp) (m n j : ℕ) → m ≡ n → IsPlaced S e n j → IsPlaced S e m j
  placed e m n j same h = subst (λ z. IsPlaced S e z j) (sym same) h

  pub placed_all : (es : Exps) (m n j : ℕ) → m ≡ n → ArePlaced S es n j → ArePlaced S es m j
  placed_all es m n j same h = subst (λ z. ArePlaced S es z j) (sym same) h

  -- an expression goes on with as many values as its field C says, if it is a call or `...`, and else with one
  abbrev GoesBy : (n : ℕ) → Exp → (field t : ℕ) → (env regs : List Value) → (pc : ℕ) → (k : List Work) → Type 0
  GoesBy n (Vararg line) field t env regs pc k = GoesFilled S pending n field t env regs pc k
  GoesBy n (Call line f es) field t env regs pc k = GoesFilled S pending n field t env regs pc k
  GoesBy n (Method line object name es) field t env regs pc k = GoesFilled S pending n field t env regs pc k
  GoesBy n e field t env regs pc k = Goes S pending n false t env regs pc k

  goes_by : (n : ℕ) (e : Exp) (field t : ℕ) (env regs : List Value) (pc : ℕ) (k : List Work) → (is_open e ≡ true → GoesFilled S pending n field t env regs pc k) → (is_open e ≡ false → Goes S pending n false t env regs pc k) → GoesBy n e field t env regs pc k
  goes_by n (Vararg line) field t env regs pc k many one = many refl
  goes_by n (Call line f es) field t env regs pc k many one = many refl
  goes_by n (Method line object name es) field t env regs pc k many one = many refl
  goes_by n _ field t env regs pc k many one = one refl

  -- one value is wanted
  first_by : (n : ℕ) (e : Exp) (t : ℕ) (env regs : List Value) (pc : ℕ) (k : List Work) → Goes S pending n (is_open e) t env regs pc k → GoesBy n e 2 t env regs pc k
  first_by n e t env regs pc k goes =
      goes_by n e 2 t env regs pc k
      (λ many vs env1 regs1 c1 o1 af filled. goes vs env1 regs1 c1 o1 af (held_first t 0 vs regs1 filled) (subst (λ b. Given b vs) (sym many) tt))
      (λ one. subst (λ b. Goes S pending n b t env regs pc k) one goes)

  abbrev AllSame : Exp → Type 0
  AllSame e =
      (field t j n pc opened : ℕ) (env regs : List Value) (c : Captured) (k : List Work)
      → n ≤ S.bound → HasAt S pc (exp_code S.code.own.constants e t j field) → field < 2 ^ 8 → IsPlaced S e (length env) j → pc + length (exp_code S.code.own.constants e t j field) < length S.code.own.code
      → length env ≤ t → t + room_of S.code.own.constants e field ≤ S.code.own.stack → Rel S.hidden S.code.own.stack pending env c regs
      → GoesBy n e field t env regs (pc + length (exp_code S.code.own.constants e t j field)) k
      → Agree S n (tree.at (evaluate e) (of_tree S pending env c) k) (before (of_code S pending pc regs opened) c)

  one_same : (e : Exp) → AllSame e → ExpSame S pending e
  one_same e all t j n pc opened env regs c k bound has ok inside le room rel goes =
      all 2 t j n pc opened env regs c k bound has (lit< tt) ok inside le room rel
      (first_by n e t env regs (pc + length (exp_code S.code.own.constants e t j 2)) k goes)

  abbrev pub ListSame : Exps → Type 0
  ListSame es =
      (purpose : Purpose) (wanted : Wanted) (base above j line n pc opened : ℕ) (have env regs : List Value) (c : Captured) (k : List Work)
      → n ≤ S.bound → Counted (takes_all purpose) wanted es → HasAt S pc (exps_code S.code.own.constants es wanted (base + above) j line) → WantedFits wanted → ArePlaced S es (length env) j
      → pc + length (exps_code S.code.own.constants es wanted (base + above) j line) < length S.code.own.code → length have ≡ above → Holds base above have regs
      → length env ≤ base → base + above ≤ S.code.own.stack → base + room_of_list S.code.own.constants above es wanted ≤ S.code.own.stack → Rel S.hidden S.code.own.stack pending env c regs
      → GoesListed S pending n (total wanted above) (ends_open es) (above + count es) purpose base env regs (pc + length (exps_code S.code.own.constants es wanted (base + above) j line)) k
      → Agree S n (tree.at (collect purpose have es) (of_tree S pending env c) k) (before (of_code S pending pc regs opened) c)

  less_fits : (wanted : Wanted) → WantedFits wanted → WantedFits (one_less wanted)
  less_fits None h = tt
  less_fits (Some m) h = omega (arith, h)

  results_fit : (wanted : Wanted) → WantedFits wanted → results_field wanted < 2 ^ 8
  results_fit None h = lit< tt
  results_fit (Some m) h = h

  -- an expression has given a value, which joins the list; the rest follows
  one_more : (es : Exps) → ListSame es → (purpose : Purpose) (wanted : Wanted) (base above j line n pc opened : ℕ) (have vs env regs env1 regs1 : List Value) (c1 : Captured) (k : List Work)
      → n ≤ S.bound → Counted (takes_all purpose) (one_less wanted) es → HasAt S pc (exps_code S.code.own.constants es (one_less wanted) (base + above + 1) j line) → WantedFits wanted → ArePlaced S es (length env) j
      → pc + length (exps_code S.code.own.constants es (one_less wanted) (base + above + 1) j line) < length S.code.own.code → length have ≡ above → Holds base above have regs
      → length env ≤ base → base + above + 1 ≤ S.code.own.stack → base + room_of_list S.code.own.constants (above + 1) es (one_less wanted) ≤ S.code.own.stack
      → After S.hidden S.code.own.stack pending env regs (base + above) env1 regs1 c1 → nth regs1 (base + above) ≡ first vs
      → GoesListed S pending n (total wanted above) (ends_open es) (above + suc (count es)) purpose base env regs (pc + length (exps_code S.code.own.constants es (one_less wanted) (base + above + 1) j line)) k
      → Agree S n (tree.at (collect purpose (have ++ first vs ∷ []) es) (of_tree S pending env1 c1) k) (before (of_code S pending pc regs1 opened) c1)
  one_more es rest purpose wanted base above j line n pc opened have vs env regs env1 regs1 c1 k bound all has wf ok inside size held le below room af eq goes =
      let at : base + above + 1 ≡ base + (above + 1) = omega arith in
      let sum = length-append have (first vs ∷ []) in
      rest purpose (one_less wanted) base (above + 1) j line n pc opened (have ++ first vs ∷ []) env1 regs1 c1 k bound all
      (subst (λ r. HasAt S pc (exps_code S.code.own.constants es (one_less wanted) r j line)) at has) (less_fits wanted wf) (placed_all es _ _ _ af.size ok)
      (subst (λ r. pc + length (exps_code S.code.own.constants es (one_less wanted) r j line) < length S.code.own.code) at inside) (omega (arith, sum, size))
      (held_both base above 1 have (first vs ∷ []) regs1 size (λ i lt. af.keeps (base + i) (omega (arith, le)) (omega (arith, lt)) ∙ held i lt) (λ i lt. only i lt))
      (omega (arith, le, af.size)) (omega (arith, below)) room af.rel
      (listed_less S pending n wanted (ends_open es) (above + suc (count es)) (above + 1 + count es) purpose base above _ env1 regs1 k (omega arith)
      (subst (λ r. GoesListed S pending n (total wanted above) (ends_open es) (above + suc (count es)) purpose base env1 regs1 (pc + length (exps_code S.code.own.constants es (one_less wanted) r j line)) k) at
      (listed_after S pending n (total wanted above) (ends_open es) (above + suc (count es)) purpose base _ env regs env1 regs1 c1 k
      (lower S.hidden S.code.own.stack pending env regs env1 regs1 c1 (base + above) base (omega arith) af) goes)))
    where
      only : (i : ℕ) → i < 1 → nth regs1 (base + above + i) ≡ nth (first vs ∷ []) i
      only zero lt = let here : base + above + 0 ≡ base + above = omega arith in ap (nth regs1) here ∙ eq
      only (suc i) lt = absurd (omega arith)

  -- all values of the last expression join the list
  all_more : (purpose : Purpose) (wanted : Wanted) (base above n pc opened : ℕ) (have vs env regs env1 regs1 : List Value) (c1 : Captured) (k : List Work)
      → length have ≡ above → Holds base above have regs → length env ≤ base → After S.hidden S.code.own.stack pending env regs (base + above) env1 regs1 c1 → Filled S (results_field wanted) pc (base + above) vs regs1 opened
      → GoesListed S pending n (total wanted above) true (above + 1) purpose base env regs pc k
      → Agree S n (tree.at (collect purpose (have ++ vs) EndExps) (of_tree S pending env1 c1) k) (before (of_code S pending pc regs1 opened) c1)
  all_more purpose None base above n pc opened have vs env regs env1 regs1 c1 k size held le af filled goes =
      let sum = length-append have vs in
      let wide : length (have ++ vs) ≡ above + length vs = omega (arith, sum, size) in
      let end : base + above + opened ≡ base + length (have ++ vs) = (let o = filled.1.0 in omega (arith, wide, o)) in
      goes (have ++ vs) env1 regs1 c1 opened (lower S.hidden S.code.own.stack pending env regs env1 regs1 c1 (base + above) base (omega arith) af) (
        omega (arith, wide),
        (
          ap (λ m. elim m as (λ _. Option ℕ) [ fixed ↦ None | open_from r ↦ Some (r + opened) ]) filled.0 ∙ ap Some end,
          (
            (let top = filled.1.1.0 in omega (arith, wide, top)),
            subst (λ m. Holds base m (have ++ vs) regs1) (sym wide) (held_both base above (length vs) have vs regs1 size (λ i lt. af.keeps (base + i) (omega (arith, le)) (omega (arith, lt)) ∙ held i lt) filled.1.1.1),
          ),
        ),
      )
  all_more purpose (Some m) base above n pc opened have vs env regs env1 regs1 c1 k size held le af filled goes =
      let one : m + 1 ≡ suc m = omega arith in
      goes (have ++ vs) env1 regs1 c1 opened (lower S.hidden S.code.own.stack pending env regs env1 regs1 c1 (base + above) base (omega arith) af)
      (held_both base above m have vs regs1 size (λ i lt. af.keeps (base + i) (omega (arith, le)) (omega (arith, lt)) ∙ held i lt) (subst (λ z. Filled S z pc (base + above) vs regs1 opened) one filled))

  -- the last expression of a list is a call or `...`
  open_last : (all : Bool) (e : Exp) (purpose : Purpose) (wanted : Wanted) (base above n pc opened : ℕ) (have vs env regs env1 regs1 : List Value) (c1 : Captured) (k : List Work) → takes_all purpose ≡ all → Counted all wanted (MoreExps e EndExps)
      → length have ≡ above → Holds base above have regs → length env ≤ base → After S.hidden S.code.own.stack pending env regs (base + above) env1 regs1 c1 → Filled S (results_field wanted) pc (base + above) vs regs1 opened
      → GoesListed S pending n (total wanted above) true (above + 1) purpose base env regs pc k
      → Agree S n (tree.at (give vs) (of_tree S pending env1 c1) (listed purpose have EndExps ∷ k)) (before (of_code S pending pc regs1 opened) c1)
  open_last true e purpose wanted base above n pc opened have vs env regs env1 regs1 c1 k is counted size held le af filled goes =
      go_left S n _ (tree.at (collect purpose (have ++ vs) EndExps) (of_tree S pending env1 c1) k) _ (ap (λ b. goes_on (tree.at (collect purpose (cond b (have ++ vs) (have ++ first vs ∷ [])) EndExps) (of_tree S pending env1 c1) k)) is)
      (all_more purpose wanted base above n pc opened have vs env regs env1 regs1 c1 k size held le af filled goes)
  open_last false e purpose wanted base above n pc opened have vs env regs env1 regs1 c1 k is counted size held le af filled goes =
      let one : Holds (base + above) 1 vs regs1 = subst (λ w. Filled S (results_field w) pc (base + above) vs regs1 opened) counted filled in
      let on = subst (λ w. GoesListed S pending n (total w above) true (above + 1) purpose base env regs pc k) counted goes in
      go_left S n _ (tree.at (collect purpose (have ++ first vs ∷ []) EndExps) (of_tree S pending env1 c1) k) _ (ap (λ b. goes_on (tree.at (collect purpose (cond b (have ++ vs) (have ++ first vs ∷ [])) EndExps) (of_tree S pending env1 c1) k)) is)
      (on (have ++ first vs ∷ []) env1 regs1 c1 opened (lower S.hidden S.code.own.stack pending env regs env1 regs1 c1 (base + above) base (omega arith) af)
      (held_both base above 1 have (first vs ∷ []) regs1 size (λ i lt. af.keeps (base + i) (omega (arith, le)) (omega (arith, lt)) ∙ held i lt) (held_one (base + above) (first vs) regs1 (held_first (base + above) 0 vs regs1 one))))

  field_fits : (many : Bool) (wanted : Wanted) → WantedFits wanted → cond many (results_field wanted) 2 < 2 ^ 8
  field_fits true wanted h = results_fit wanted h
  field_fits false wanted h = lit< tt

  pub held_two : (t : ℕ) (v w : Value) (regs : List Value) → nth regs t ≡ v → nth regs (t + 1) ≡ w → Holds t 2 (v ∷ w ∷ []) regs
  held_two t v w regs e d zero lt = let here : t + 0 ≡ t = omega arith in ap (nth regs) here ∙ e
  held_two t v w regs e d (suc zero) lt = d
  held_two t v w regs e d (suc (suc i)) lt = absurd (omega arith)

  filled_at : (n field t pc pc' : ℕ) (env regs : List Value) (k : List Work) → pc ≡ pc' → GoesFilled S pending n field t env regs pc' k → GoesFilled S pending n field t env regs pc k
  filled_at n field t pc pc' env regs k e goes = subst (λ q. GoesFilled S pending n field t env regs q k) (sym e) goes

  filled_after : (n field t pc : ℕ) (env regs env1 regs1 : List Value) (c1 : Captured) (k : List Work) → After S.hidden S.code.own.stack pending env regs t env1 regs1 c1 → GoesFilled S pending n field t env regs pc k → GoesFilled S pending n field t env1 regs1 pc k
  filled_after n field t pc env regs env1 regs1 c1 k af goes = λ vs env2 regs2 c2 o2 af2 filled. goes vs env2 regs2 c2 o2 (after_then S.hidden S.code.own.stack pending env regs env1 regs1 env2 regs2 c1 c2 t t (omega arith) af af2) filled

  -- the arguments are there, behind the function and `more` others: a call takes them
  pub args_ready : {X : Type 0} (es : Exps) (more : ℕ) (args : List Value) (t pc opened : ℕ) (env regs : List Value) (c : Captured) → t + (more + 1) ≤ S.code.own.stack → t + room_of_list S.code.own.constants (more + 1) es None ≤ S.code.own.stack
      → Rel S.hidden S.code.own.stack pending env c regs → Listed S pending None (ends_open es) (more + 1 + count es) pc t args regs opened
      → ((f : Value) (rest : List Value) → args ≡ f ∷ rest → nth regs t ≡ f → Passed S.code (list_field more es) (t + 1) rest (of_code S pending pc regs opened) → list_field more es < 2 ^ 8 → X) → X
  args_ready es more [] t pc opened env regs c below room rel l goes = absurd (none (ends_open es) refl l)
    where
      none : (b : Bool) → ends_open es ≡ b → Listed S pending None b (more + 1 + count es) pc t [] regs opened → ⊥
      none true is l = let some = open_some es is in let h = l.0 in omega (arith, some, h)
      none false is l = let h = l.0 in omega (arith, h)
  args_ready es more (f ∷ args) t pc opened env regs c below room rel l goes =
      goes f args refl (first_held (ends_open es) l)
      (passed S pending (ends_open es) (more + 1 + count es) (list_field more es) pc t opened f args regs (is_field (ends_open es) refl) (λ one. let w = width one in omega (arith, w, rel.room)) l)
      (small_field (ends_open es) refl)
    where
      width : ends_open es ≡ false → t + (more + 1 + count es) ≤ S.code.own.stack
      width one = let all = room_count S.code.own.constants (more + 1) es one in omega (arith, all, below, room)

      is_field : (b : Bool) → ends_open es ≡ b → list_field more es ≡ cond b 0 (more + 1 + count es)
      is_field true is = ap (λ b. cond b 0 (more + count es + 1)) is
      is_field false is = ap (λ b. cond b 0 (more + count es + 1)) is ∙ omega arith

      small_field : (b : Bool) → ends_open es ≡ b → list_field more es < 2 ^ 8
      small_field true is = let e = is_field true is in omega (arith, e)
      small_field false is = let e = is_field false is in let w = width is in omega (arith, e, w, S.small)

      first_held : (b : Bool) → Listed S pending None b (more + 1 + count es) pc t (f ∷ args) regs opened → nth regs t ≡ f
      first_held true l = held_first t (length args) (f ∷ args) regs l.1.1.1
      first_held false l = held_first t (length args) (f ∷ args) regs l.1

  called : (es : Exps) (more field : ℕ) (args : List Value) (n line t pc opened : ℕ) (env regs : List Value) (c : Captured) (k : List Work) → HasAt S pc (with_abc CallCode t (list_field more es) field line ∷ []) → pc + 1 < length S.code.own.code
      → length env ≤ t → t + (more + 1) ≤ S.code.own.stack → t + room_of_list S.code.own.constants (more + 1) es None ≤ S.code.own.stack → t + room_of_values field ≤ S.code.own.stack → field < 2 ^ 8 → Rel S.hidden S.code.own.stack pending env c regs
      → Listed S pending None (ends_open es) (more + 1 + count es) pc t args regs opened → GoesFilled S pending n field t env regs (pc + 1) k
      → Agree S n (tree.at (collect (for_call line false) args EndExps) (of_tree S pending env c) k) (before (of_code S pending pc regs opened) c)
  called es more field args n line t pc opened env regs c k has inside le below room wide fits rel l goes =
      args_ready es more args t pc opened env regs c below room rel l
      (λ f rest is f_is passes small. call_goes S pending field (list_field more es) n line t pc opened f rest _ env regs c k (ap (λ vs. step (tree.at (collect (for_call line false) vs EndExps) (of_tree S pending env c) k)) is) has inside le (omega (arith, below)) wide fits small rel f_is passes goes)

  -- an operator that is no `..`
  operator_same : (line : ℕ) (op : BinOp) (e d : Exp) → joins op ≡ false → ExpSame S pending e → ExpSame S pending d → ExpSame S pending (Binary line op e d)
  operator_same line op e d apart law_e law_d t j n pc opened env regs c k bound has ok inside le room rel goes =
      let constants = S.code.own.constants in
      let first_code = exp_code constants e t j 2 in
      let second_code = exp_code constants d (t + 1) (j + made_by e) 2 in
      let code = operation_code (constant_in constants op d) op e d first_code second_code t t line in
      let same : exp_code constants (Binary line op e d) t j 2 ≡ code = ap (λ b. cond b (chain_code line d first_code second_code t) code) apart in
      let size : length (exp_code constants (Binary line op e d) t j 2) ≡ length code = ap length same in
      let end = pc + length code in
      let near : end < length S.code.own.code = omega (arith, inside, size) in
      let on : Goes S pending n false t env regs end k = goes_at S pending n false t end (pc + length (exp_code constants (Binary line op e d) t j 2)) env regs k (omega (arith, size)) goes in
      let some = some_operation (constant_in constants op d) op e d (room_of constants e 2) (room_of constants d 2) (room_some constants e) in
      go_left S n _ (tree.at (evaluate e) (of_tree S pending env c) (right_of line op d ∷ k)) _ refl
      (operation_same S pending line op e d (λ x m. constant_code op x m t line) (λ x y. operator_code op x y t line) (λ x m. number_code op x m t line) n t end env regs k
      1 j pc opened c law_e law_d (room_some constants e) (room_some constants d) bound (subst (HasAt S pc) same has) ok.0 ok.1 refl near le room rel
      (λ x m place o1 v f env1 regs1 c1 af x_room x_is here ends. with_constant_goes S pending op d m f n false line x t place o1 v env1 regs1 c1 k here (omega (arith, near, ends)) (omega (arith, le, af.size)) (omega (arith, room, some)) x_room af.rel x_is
      (goes_at S pending n false t _ end env1 regs1 k ends (goes_after S pending n false t _ env regs env1 regs1 c1 k af on)))
      (λ x y place o1 v ws env1 regs1 c1 af x_room y_room x_is y_is seats here ends. binary_goes S pending op n false line x y t place o1 v ws env1 regs1 c1 k here (omega (arith, near, ends)) (omega (arith, le, af.size)) (omega (arith, room, some)) x_room y_room
      (λ joined. seats (joins_made op d joined)) af.rel x_is y_is (goes_at S pending n false t _ end env1 regs1 k ends (goes_after S pending n false t _ env regs env1 regs1 c1 k af on)))
      (λ x m place o1 v env1 regs1 c1 af x_room x_is is here ends. number_goes S pending op d m (number_form op d m (second_number op d m is)) n false line x t place o1 v env1 regs1 c1 k here (omega (arith, near, ends)) (omega (arith, le, af.size)) (omega (arith, room, some)) x_room af.rel x_is
      (goes_at S pending n false t _ end env1 regs1 k ends (goes_after S pending n false t _ env regs env1 regs1 c1 k af on))))

  binary_same : (line : ℕ) (op : BinOp) (e d : Exp) → ExpSame S pending e → ExpSame S pending d → ChainSame S pending line d → ExpSame S pending (Binary line op e d)
  binary_same line op e d law_e law_d chain = by (joins op) refl
    where
      by : (b : Bool) → joins op ≡ b → ExpSame S pending (Binary line op e d)
      by true joined = subst (λ o. ExpSame S pending (Binary line o e d)) (sym (joins_is op joined)) (join_same S pending line e d law_e chain)
      by false apart = operator_same line op e d apart law_e law_d

  -- all values of a call or `...`
  all_values : (e : Exp) → AllSame e → is_open e ≡ true → OpenSame S pending e
  all_values e all many t j n pc opened env regs c k bound has ok inside le room rel goes =
      all 0 t j n pc opened env regs c k bound has (lit< tt) ok inside le room rel
      (goes_by n e 0 t env regs (pc + length (exp_code S.code.own.constants e t j 0)) k (λ is. goes) (λ is. absurd (cc)))

  mutual
    all_same : (e : Exp) → AllSame e
    all_same (Nil line) field t j n pc opened env regs c k bound has fits ok inside le room rel goes =
        one_goes S pending (with_abc LoadNil t 0 0 line) (with_abc LoadNil t 0 0 line ∷ []) (known nil) n false t pc opened _ env regs c k refl refl has inside le rel
        (λ here w there. nil_step S.code (of_code S pending pc regs opened) c w there t here (omega (arith, S.small)) (omega (arith, rel.room))) goes
    all_same (True line) field t j n pc opened env regs c k bound has fits ok inside le room rel goes =
        one_goes S pending (with_abc LoadTrue t 0 0 line) (with_abc LoadTrue t 0 0 line ∷ []) (known (boolean true)) n false t pc opened _ env regs c k refl refl has inside le rel
        (λ here w there. true_step S.code (of_code S pending pc regs opened) c w there t here (omega (arith, S.small)) (omega (arith, rel.room))) goes
    all_same (False line) field t j n pc opened env regs c k bound has fits ok inside le room rel goes =
        one_goes S pending (with_abc LoadFalse t 0 0 line) (with_abc LoadFalse t 0 0 line ∷ []) (known (boolean false)) n false t pc opened _ env regs c k refl refl has inside le rel
        (λ here w there. false_step S.code (of_code S pending pc regs opened) c w there t here (omega (arith, S.small)) (omega (arith, rel.room))) goes
    all_same (Int line z) field t j n pc opened env regs c k bound has fits ok inside le room rel goes =
        integer_goes S pending z (is_small z) n false line t pc opened _ env regs c k refl refl ok _ refl has inside le (omega arith) rel goes
    all_same (Str line bytes) field t j n pc opened env regs c k bound has fits ok inside le room rel goes =
        constant_goes S pending (StrConst bytes) n false t line pc opened _ env regs c k ok refl has inside le (omega arith) rel goes
    all_same (Var line name) field t j n pc opened env regs c k bound has fits ok inside le room rel goes =
        name_goes S pending name.place name.text n false line t pc opened _ env regs c k refl has ok inside le room rel goes
    all_same (Index line object key) field t j n pc opened env regs c k bound has fits ok inside le room rel goes =
        let cs = S.code.own.constants in
        let some = some_read (name_in cs key) object key (room_of cs object 2) (room_of cs key 2) (room_some cs object) in
        field_into S pending line object key 1 t t j n pc opened env regs c k (one_same object (all_same object)) (one_same key (all_same key)) (room_some cs object) (room_some cs key) bound has ok.0 ok.1 inside le (omega (arith, room, some)) room rel
        (into_goes S pending n false t (pc + length (exp_code cs (Index line object key) t j 2)) env regs k le goes)
    all_same (Paren line e) field t j n pc opened env regs c k bound has fits ok inside le room rel goes =
        go_left S n _ (tree.at (evaluate e) (of_tree S pending env c) (first_only ∷ k)) _ refl
        (one_same e (all_same e) t j n pc opened env regs c (first_only ∷ k) bound has ok inside le room rel
        (λ vs env1 regs1 c1 o1 af eq one. go_left S n _ (tree.at (give (first vs ∷ [])) (of_tree S pending env1 c1) k) _ refl (goes (first vs ∷ []) env1 regs1 c1 o1 af eq refl)))
    all_same (Unary line op e) field t j n pc opened env regs c k bound has fits ok inside le room rel goes =
        let end = pc + length (exp_code S.code.own.constants (Unary line op e) t j 2) in
        let some = room_some S.code.own.constants e in
        go_left S n _ (tree.at (evaluate e) (of_tree S pending env c) (operand_of line op ∷ k)) _ refl
        (operand_goes S pending e (λ x. prefix_code op x t line) n t end env regs (operand_of line op ∷ k) j pc opened c (one_same e (all_same e)) some bound has ok refl inside le (λ _. room) rel
        (λ x place o1 vs env1 regs1 c1 af low x_room x_is here ends. unary_into S pending op n false line x t t place o1 vs env1 regs1 c1 k here (omega (arith, inside, ends)) (omega (arith, room, some)) x_room af.rel x_is
        (into_goes S pending n false t (place + 1) env1 regs1 k (omega (arith, le, af.size)) (goes_at S pending n false t (place + 1) end env1 regs1 k ends (goes_after S pending n false t _ env regs env1 regs1 c1 k af goes)))))
    all_same (Binary line op e d) field t j n pc opened env regs c k bound has fits ok inside le room rel goes =
        binary_same line op e d (one_same e (all_same e)) (one_same d (all_same d)) (chain_same d (one_same d (all_same d)) line) t j n pc opened env regs c k bound has ok inside le room rel goes
    all_same (And line e d) field t j n pc opened env regs c k bound has fits ok inside le room rel goes =
        go_left S n _ (tree.at (evaluate e) (of_tree S pending env c) (and_right d ∷ k)) _ refl
        (either_same S pending (and_right d) e d false (and_keeps S pending d) (keep_law e (one_same e (all_same e))) (one_same d (all_same d)) t j n pc opened env regs c k bound has ok.0 ok.1 inside le (omega (arith, room)) (omega (arith, room)) rel goes)
    all_same (Or line e d) field t j n pc opened env regs c k bound has fits ok inside le room rel goes =
        go_left S n _ (tree.at (evaluate e) (of_tree S pending env c) (or_right d ∷ k)) _ refl
        (either_same S pending (or_right d) e d true (or_keeps S pending d) (keep_law e (one_same e (all_same e))) (one_same d (all_same d)) t j n pc opened env regs c k bound has ok.0 ok.1 inside le (omega (arith, room)) (omega (arith, room)) rel goes)
    all_same (Table line fs) field t j n pc opened env regs c k bound has fits ok inside le room rel goes =
        new_goes S pending n line t pc opened _ env regs c k (λ vs. construct line (first vs) 0 fs) refl (has.0, (has.1.0, (has.1.1.0, (has.1.1.1.0, tt)))) (omega (arith, inside)) le (omega (arith, room)) rel
        (λ m env1 regs1 c1 af is. fields_same fs 0 [] line 0 0 m t j n (pc + 2) opened env1 regs1 c1 k tt refl bound
        (let two : pc + 1 + 1 ≡ pc + 2 = omega arith in subst (λ q. HasAt S q (fields_code S.code.own.constants fs 0 0 t j line)) two has.1.1.1.1)
        (subst (λ z. FieldsArePlaced S fs 0 z j) (sym af.size) ok) (omega arith) (omega arith) (omega (arith, inside)) (omega (arith, le, af.size)) (omega (arith, room)) (omega (arith, room)) af.rel is (λ i lt. absurd (omega arith))
        (goes_at S pending n false t _ (pc + length (exp_code S.code.own.constants (Table line fs) t j 2)) env1 regs1 k (omega arith) (goes_after S pending n false t _ env regs env1 regs1 c1 k af goes)))
    all_same (Function line body) field t j n pc opened env regs c k bound has fits ok inside le room rel goes =
        function_goes S pending n false t j pc opened body _ env regs c k refl has bound ok.0 ok.1 inside le (omega arith) rel goes
    all_same (Vararg line) field t j n pc opened env regs c k bound has fits ok inside le room rel goes =
        varargs_goes S pending field n line t pc opened _ env regs c k refl has inside le room fits rel goes
    all_same (Call line f es) field t j n pc opened env regs c k bound has fits ok inside le room rel goes =
        let first_code = exp_code S.code.own.constants f t j 2 in
        let args_code = exps_code S.code.own.constants es None (t + 1) (j + made_by f) line in
        let last_code = with_abc CallCode t (list_field 0 es) field line ∷ [] in
        let behind = has_back S pc first_code (args_code ++ last_code) has in
        let whole = length-append first_code (args_code ++ last_code) in let rest = length-append args_code last_code in let some = room_some S.code.own.constants f in
        go_left S n _ (tree.at (evaluate f) (of_tree S pending env c) (callee_of line false es ∷ k)) _ refl
        (one_same f (all_same f) t j n pc opened env regs c (callee_of line false es ∷ k) bound (has_front S pc first_code (args_code ++ last_code) has) ok.0 (omega (arith, inside, whole)) le (omega (arith, room)) rel
        (λ vs env1 regs1 c1 o1 af eq one. go_left S n _ (tree.at (collect (for_call line false) (first vs ∷ []) es) (of_tree S pending env1 c1) k) _ refl
        (lists_same es (for_call line false) None t 1 (j + made_by f) line n (pc + length first_code) o1 (first vs ∷ []) env1 regs1 c1 k bound tt (has_front S (pc + length first_code) args_code last_code behind) tt (placed_all es _ _ _ af.size ok.1)
        (omega (arith, inside, whole, rest)) refl (held_one t (first vs) regs1 eq) (omega (arith, le, af.size)) (omega (arith, room, some)) (omega (arith, room)) af.rel
        (λ args env2 regs2 c2 o2 af2 l. called es 0 field args n line t (pc + length first_code + length args_code) o2 env2 regs2 c2 k (has_back S (pc + length first_code) args_code last_code behind)
        (omega (arith, inside, whole, rest)) (omega (arith, le, af.size, af2.size)) (omega (arith, room, some)) (omega (arith, room)) (omega (arith, room)) fits af2.rel l
        (filled_at n field t _ (pc + length (first_code ++ (args_code ++ last_code))) env2 regs2 k (omega (arith, whole, rest))
        (filled_after n field t _ env regs env2 regs2 c2 k (after_then S.hidden S.code.own.stack pending env regs env1 regs1 env2 regs2 c1 c2 t t (omega arith) af af2) goes))))))
    all_same (Method line object name es) field t j n pc opened env regs c k bound has fits ok inside le room rel goes =
        let args_code = exps_code S.code.own.constants es None (t + 2) (j + made_by object) line in
        let last_code = with_abc CallCode t (list_field 1 es) field line ∷ [] in
        let end = pc + length (exp_code S.code.own.constants (Method line object name es) t j field) in
        let rest = length-append args_code last_code in
        let two = (self_room S.code.own.constants name.text).0 in
        go_left S n _ (tree.at (evaluate object) (of_tree S pending env c) (method_of line false name.text es ∷ k)) _ refl
        (operand_goes S pending object (λ x. self_code S.code.own.constants name.text x t line ++ (args_code ++ last_code)) n t end env regs (method_of line false name.text es ∷ k) j pc opened c
        (one_same object (all_same object)) (room_some S.code.own.constants object) bound has ok.0 refl inside le (λ _. omega (arith, room)) rel
        (λ x place o1 vs env1 regs1 c1 af low x_room x_is here ends. let name_code = self_code S.code.own.constants name.text x t line in
        let beyond = has_back S place name_code (args_code ++ last_code) here in
        let middle = length-append name_code (args_code ++ last_code) in
        let q = place + length name_code in
        self_goes S pending name.text n line x t place o1 (first vs) _ env1 regs1 c1 k (λ ws. collect (for_call line false) (first ws ∷ first vs ∷ []) es) refl
        (has_front S place name_code (args_code ++ last_code) here) ok.1.0 (omega (arith, inside, ends, middle, rest)) (omega (arith, le, af.size)) low (omega (arith, room)) af.rel x_is
        (λ ws env2 regs2 c2 af2 method_is self_is. lists_same es (for_call line false) None t 2 (j + made_by object) line n q o1 (first ws ∷ first vs ∷ []) env2 regs2 c2 k bound tt (has_front S q args_code last_code beyond) tt
        (placed_all es _ _ _ (af2.size ∙ af.size) ok.1.1) (omega (arith, inside, ends, middle, rest)) refl (held_two t (first ws) (first vs) regs2 method_is self_is) (omega (arith, le, af.size, af2.size)) (omega (arith, room, two)) (omega (arith, room)) af2.rel
        (λ args env3 regs3 c3 o3 af3 l. called es 1 field args n line t (q + length args_code) o3 env3 regs3 c3 k (has_back S q args_code last_code beyond)
        (omega (arith, inside, ends, middle, rest)) (omega (arith, le, af.size, af2.size, af3.size)) (omega (arith, room, two)) (omega (arith, room)) (omega (arith, room)) fits af3.rel l
        (filled_at n field t _ end env3 regs3 k (omega (arith, ends, middle, rest))
        (filled_after n field t _ env regs env3 regs3 c3 k
        (after_then S.hidden S.code.own.stack pending env regs env1 regs1 env3 regs3 c1 c3 t t (omega arith) af
        (after_then S.hidden S.code.own.stack pending env1 regs1 env2 regs2 env3 regs3 c2 c3 t t (omega arith) af2 af3)) goes))))))

    -- where only the truth is wanted, and where a first operand's value is kept. The value's own law is given, since it is one of the same tree
    pub test_law : (e : Exp) → ExpSame S pending e → TestSame S pending e
    test_law (Paren line e) law = paren_tested S pending line e (test_law e (one_same e (all_same e)))
    test_law (Unary line op e) law = unary_tested S pending line op e law (test_law e (one_same e (all_same e)))
    test_law (And line e d) law = and_tested S pending line e d (test_law e (one_same e (all_same e))) (test_law d (one_same d (all_same d)))
    test_law (Or line e d) law = or_tested S pending line e d (test_law e (one_same e (all_same e))) (test_law d (one_same d (all_same d)))
    test_law (Binary line op e d) law = binary_tested S pending line op e d law (one_same e (all_same e)) (one_same d (all_same d))
    test_law (True line) law = true_tested S pending line
    test_law (Var line name) law =
        leaf_tested S pending (Var line name) (λ q ahead t j. refl)
        (λ t room none. subst (λ at. t + object_room 0 at (room_of_name S.code.own.constants name.place name.text) ≤ S.code.own.stack) none room) law
    test_law e law = leaf_tested S pending e (λ q ahead t j. refl) (λ t room none. room) law

    pub keep_law : (e : Exp) → ExpSame S pending e → KeepSame S pending e
    keep_law (Paren line e) law = paren_kept S pending line e (keep_law e (one_same e (all_same e)))
    keep_law (And line e d) law = and_kept S pending line e d (test_law e (one_same e (all_same e))) (keep_law e (one_same e (all_same e))) (keep_law d (one_same d (all_same d)))
    keep_law (Or line e d) law = or_kept S pending line e d (test_law e (one_same e (all_same e))) (keep_law e (one_same e (all_same e))) (keep_law d (one_same d (all_same d)))
    keep_law (Unary line op e) law = unary_kept S pending line op e law (test_law e (one_same e (all_same e)))
    keep_law (Binary line op e d) law = binary_kept S pending line op e d law (one_same e (all_same e)) (one_same d (all_same d))
    keep_law e law = leaf_kept S pending e (λ q ahead t j. refl) (λ q. refl) law

    -- the right operand of a `..`, of which the law is known
    chain_same : (d : Exp) → ExpSame S pending d → ChainsSame S pending d
    chain_same (Binary own op e d) law = chain_binary S pending own op e d (one_same e (all_same e)) (chain_same d (one_same d (all_same d))) law (room_some S.code.own.constants (Binary own op e d))
    chain_same d law = λ line. chain_end S pending d law (room_some S.code.own.constants d) line refl

    lists_same : (es : Exps) → ListSame es
    lists_same EndExps purpose wanted base above j line n pc opened have env regs c k bound all has wf ok inside size held le below room rel goes =
        let none : above + 0 ≡ above = omega arith in
        nils_goes S pending wanted n purpose base above line pc opened have env regs c k has inside size held le below room rel
        (subst (λ z. GoesListed S pending n (total wanted above) false z purpose base env regs (pc + length (exps_code S.code.own.constants EndExps wanted (base + above) j line)) k) none goes)
    lists_same (MoreExps e EndExps) purpose wanted base above j line n pc opened have env regs c k bound all has wf ok inside size held le below room rel goes =
        let field = field_of e EndExps wanted in
        let after = wanted_after e EndExps wanted in
        let first_code = exp_code S.code.own.constants e (base + above) j field in
        let rest_code = exps_code S.code.own.constants EndExps after (base + above + 1) (j + made_by e) line in
        let sum = length-append first_code rest_code in
        let some = room_some S.code.own.constants e in
        go_left S n _ (tree.at (evaluate e) (of_tree S pending env c) (listed purpose have EndExps ∷ k)) _ refl
        (all_same e field (base + above) j n pc opened env regs c (listed purpose have EndExps ∷ k) bound (has_front S pc first_code rest_code has) (field_fits (is_open e) wanted wf) ok.0 (omega (arith, inside, sum)) (omega (arith, le)) (omega (arith, room)) rel
        (goes_by n e field (base + above) env regs (pc + length first_code) (listed purpose have EndExps ∷ k)
        (λ many vs env1 regs1 c1 o1 af filled. open_last (takes_all purpose) e purpose wanted base above n (pc + length first_code) o1 have vs env regs env1 regs1 c1 k refl all size held le af
        (subst (λ z. Filled S z (pc + length first_code) (base + above) vs regs1 o1) (ap (λ b. cond b (results_field wanted) 2) many) filled)
        (listed_at S pending n (total wanted above) true (above + 1) purpose base (pc + length first_code) (pc + length (first_code ++ rest_code)) env regs k
        (let none : length rest_code ≡ 0 = ap (λ b. length (exps_code S.code.own.constants EndExps (cond b None (one_less wanted)) (base + above + 1) (j + made_by e) line)) many in omega (arith, sum, none))
        (subst (λ b. GoesListed S pending n (total wanted above) b (above + 1) purpose base env regs (pc + length (first_code ++ rest_code)) k) many goes)))
        (λ one vs env1 regs1 c1 o1 af eq given. go_left S n _ (tree.at (collect purpose (have ++ first vs ∷ []) EndExps) (of_tree S pending env1 c1) k) _ (ap (λ l. goes_on (tree.at (collect purpose l EndExps) (of_tree S pending env1 c1) k)) (one_added (takes_all purpose) have vs given))
        (let fewer : after ≡ one_less wanted = ap (λ b. cond b None (one_less wanted)) one in
        let two : room_of S.code.own.constants e field ≡ room_of S.code.own.constants e 2 = ap (λ b. room_of S.code.own.constants e (cond b (results_field wanted) 2)) one in
        let same : exps_code S.code.own.constants EndExps after (base + above + 1) (j + made_by e) line ≡ exps_code S.code.own.constants EndExps (one_less wanted) (base + above + 1) (j + made_by e) line = ap (λ w. exps_code S.code.own.constants EndExps w (base + above + 1) (j + made_by e) line) fewer in
        let rooms : room_of_list S.code.own.constants (above + 1) EndExps after ≡ room_of_list S.code.own.constants (above + 1) EndExps (one_less wanted) = ap (room_of_list S.code.own.constants (above + 1) EndExps) fewer in
        let sizes = ap length same in
        one_more EndExps (lists_same EndExps) purpose wanted base above (j + made_by e) line n (pc + length first_code) o1 have vs env regs env1 regs1 c1 k bound (counted_less (takes_all purpose) wanted e EndExps all)
        (subst (HasAt S (pc + length first_code)) same (has_back S pc first_code rest_code has)) wf ok.1
        (omega (arith, inside, sum, sizes)) size held le (omega (arith, room, some, two)) (omega (arith, room, rooms)) af eq
        (listed_at S pending n (total wanted above) false _ purpose base _ (pc + length (first_code ++ rest_code)) env regs k (omega (arith, sum, sizes))
        (subst (λ b. GoesListed S pending n (total wanted above) b (above + 1) purpose base env regs (pc + length (first_code ++ rest_code)) k) one goes))))))
    lists_same (MoreExps e (MoreExps d es)) purpose wanted base above j line n pc opened have env regs c k bound all has wf ok inside size held le below room rel goes =
        let first_code = exp_code S.code.own.constants e (base + above) j 2 in
        let rest_code = exps_code S.code.own.constants (MoreExps d es) (one_less wanted) (base + above + 1) (j + made_by e) line in
        let sum = length-append first_code rest_code in
        let some = room_some S.code.own.constants e in
        go_left S n _ (tree.at (evaluate e) (of_tree S pending env c) (listed purpose have (MoreExps d es) ∷ k)) _ refl
        (one_same e (all_same e) (base + above) j n pc opened env regs c (listed purpose have (MoreExps d es) ∷ k) bound (has_front S pc first_code rest_code has) ok.0 (omega (arith, inside, sum)) (omega (arith, le)) (omega (arith, room)) rel
        (λ vs env1 regs1 c1 o1 af eq one. go_left S n _ (tree.at (collect purpose (have ++ first vs ∷ []) (MoreExps d es)) (of_tree S pending env1 c1) k) _ refl
        (one_more (MoreExps d es) (lists_same (MoreExps d es)) purpose wanted base above (j + made_by e) line n (pc + length first_code) o1 have vs env regs env1 regs1 c1 k bound (counted_less (takes_all purpose) wanted e (MoreExps d es) all) (has_back S pc first_code rest_code has) wf ok.1
        (omega (arith, inside, sum)) size held le (omega (arith, room, some)) (omega (arith, room)) af eq
        (listed_at S pending n (total wanted above) (ends_open (MoreExps d es)) _ purpose base _ (pc + length (first_code ++ rest_code)) env regs k (omega (arith, sum)) goes))))

    fields_same : (fs : Fields) → FieldsSame S pending fs
    fields_same EndFields = end_goes S pending
    fields_same (MoreFields (Item e) fs) = item_goes S pending e fs (one_same e (all_same e)) (all_values e (all_same e)) (fields_same fs)
    fields_same (MoreFields (Keyed field_line e d) fs) = keyed_goes S pending field_line e d fs (one_same e (all_same e)) (one_same d (all_same d)) (fields_same fs)

  -- the code of an expression of which one value is wanted
  pub exp_same : (e : Exp) → ExpSame S pending e
  exp_same e = one_same e (all_same e)

  -- the code of a call or of `...` with any field C
  pub open_same : (e : Exp) → is_open e ≡ true → (field t j n pc opened : ℕ) (env regs : List Value) (c : Captured) (k : List Work)
      → n ≤ S.bound → HasAt S pc (exp_code S.code.own.constants e t j field) → field < 2 ^ 8 → IsPlaced S e (length env) j → pc + length (exp_code S.code.own.constants e t j field) < length S.code.own.code
      → length env ≤ t → t + room_of S.code.own.constants e field ≤ S.code.own.stack → Rel S.hidden S.code.own.stack pending env c regs
      → GoesFilled S pending n field t env regs (pc + length (exp_code S.code.own.constants e t j field)) k
      → Agree S n (tree.at (evaluate e) (of_tree S pending env c) k) (before (of_code S pending pc regs opened) c)
  open_same e many field t j n pc opened env regs c k bound has fits ok inside le room rel goes =
      all_same e field t j n pc opened env regs c k bound has fits ok inside le room rel
      (goes_by n e field t env regs (pc + length (exp_code S.code.own.constants e t j field)) k (λ is. goes) (λ is. absurd (cc)))

  -- the code of a list of expressions
  pub exps_same : (es : Exps) → ListSame es
  exps_same es = lists_same es
