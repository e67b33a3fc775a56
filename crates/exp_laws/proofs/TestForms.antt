-- The forms of conditions: both come to the place behind the code where the truth is k, and else to the place that its jumps lead to. The laws of the parts are given.
use Rattle.std.proofs.Common.{◌⊎◌, inl, inr, ◌≡◌, ℕ, ◌+◌, ◌<◌, ◌≤◌, ◌^◌, Bool, true, false, cond, not, List, [], ◌∷◌, ◌++◌, length, None, refl, sym, ap, subst, ◌∙◌, arith, length-append, pos}
use Rattle.int_core.specs.Value.{Value, known, boolean, integer, nth, shape, holds, same_truth}
use Rattle.int_core.specs.Operations.{Operation}
use Rattle.int_core.specs.Ask.{operates, Captured}
use Rattle.tree_core.specs.declared.operator.UnOp.{UnOp}
use Rattle.tree_core.specs.declared.operator.UnOp.TheVariants.{Not as Negation}
use Rattle.tree_core.specs.declared.operator.BinOp.{BinOp}
use Rattle.tree_core.specs.declared.operator.BinOp.TheVariants.{Eq as Equal, Ne, Lt as Less, Le as AtMost, Gt, Ge}
use Rattle.tree_core.specs.Tree.{Exp, True, Unary, Binary, And, Or, Paren}
use Rattle.tree_activation.specs.Work.{give, evaluate, Work, Pending, operand_of, right_of, and_right, or_right, first_only}
use Rattle.tree_activation.specs.Work as tree
use Rattle.tree_activation.specs.Asking.{first}
use Rattle.tree_activation.specs.Expressions.{truth_of}
use Rattle.code_core.specs.declared.opcode.Opcode.{Opcode}
use Rattle.code_core.specs.declared.opcode.Opcode.TheVariants.{Jmp, Test, EqK}
use Rattle.code_core.specs.Instruction.{op_ax}
use Rattle.machine_core.specs.World.{for_truth}
use Rattle.machine_core.specs.Text.{constant, go_by}
use Rattle.machine_core.specs.Talk.{before, amid, talk, talk_step, says_so, heard}
use Rattle.code_of.specs.Coded.{Coded, jump_over}
use Rattle.code_of.specs.Expressions.{made_by, exp_code}
use Rattle.exp_laws.specs.Setting.{Setting}
use Rattle.exp_laws.specs.Placed.{IsPlaced}
use Rattle.code_of.specs.Rooms.{room_of, room_of_test}
use Rattle.exp_laws.proofs.Registers.{Rel, After, after_none, after_then}
use Rattle.exp_laws.proofs.Talking.{as_code, Agree, go_left, go_right, of_tree, of_code}
use Rattle.exp_laws.proofs.Placing.{HasAt, has_front, has_back, here_abc}
use Rattle.exp_laws.proofs.Asking.{asks_alike}
use Rattle.exp_laws.proofs.Steps.{go_step}
use Rattle.exp_laws.proofs.Tests.{test_on, test_past, jump_step}
use Rattle.exp_laws.proofs.Comparisons.{Comparison, comparison_by, told_truth, compare_rest}
use Rattle.exp_laws.proofs.OperatorForms.{one_of, compared_so, numbered_so}
use Rattle.exp_laws.proofs.Operands.{ExpSame}
use Rattle.exp_laws.proofs.Standing.{operand_goes}
use Rattle.exp_laws.proofs.Going.{next_there, at_place}
use Rattle.exp_laws.proofs.Rooms.{room_some}
use Rattle.code_of.specs.Truths.{jump_if, pick, compared, is_compared, line_of}
use Rattle.code_of.specs.Conditions.{value_test, test_code}
use Rattle.code_of.specs.Operands.{local_of}
use Rattle.exp_laws.proofs.ConstantForms.{operation_same, constant_so}
use Rattle.code_of.specs.Operations.{constant_in, operation_by, operation_room}
use Rattle.code_of.specs.Operators.{number_opcode}
use Rattle.code_of.proofs.Operands.{operator_stands}

-- operators that compare, and the others

pub record Other (op : BinOp) : Type 0 where
  pub tests : (other : List Coded) (by : Opcode → (swapped wanted : Bool) → List Coded) → compared op other by ≡ other
  pub compares_not : is_compared op ≡ false

pub sort : (op : BinOp) → Comparison op ⊎ Other op
sort Equal = inl (comparison_by Equal refl)
sort Ne = inl (comparison_by Ne refl)
sort Less = inl (comparison_by Less refl)
sort AtMost = inl (comparison_by AtMost refl)
sort Gt = inl (comparison_by Gt refl)
sort Ge = inl (comparison_by Ge refl)
sort _ = inr (record { tests = λ o b. refl; compares_not = refl })

-- the field k of the instruction is right

field_right : (h wanted k : Bool) → same_truth h (cond wanted (not k) k) ≡ not (same_truth (cond wanted h (not h)) k)
field_right true true true = refl
field_right true true false = refl
field_right true false true = refl
field_right true false false = refl
field_right false true true = refl
field_right false true false = refl
field_right false false true = refl
field_right false false false = refl

test_right : (h k : Bool) → same_truth h (not k) ≡ not (same_truth h k)
test_right true true = refl
test_right true false = refl
test_right false true = refl
test_right false false = refl

not_right : (h k : Bool) → same_truth h (not k) ≡ same_truth (not h) k
not_right true true = refl
not_right true false = refl
not_right false true = refl
not_right false false = refl

pub same_cond : {A : Type 0} (b c : Bool) (x y : A) → b ≡ c → cond b x y ≡ cond c x y
same_cond b c x y e = ap (λ q. cond q x y) e

module _ (S : Setting) (pending : List Pending) where
  -- the code at pc goes on as the work w does, with values whose truth is k, or is not
  abbrev pub GoesIf : (n t : ℕ) → (env regs : List Value) → (pc : ℕ) → (w : List Work) → (k b : Bool) → Type 0
  GoesIf n t env regs pc w k b =
      (vs env' regs' : List Value) (c' : Captured) (opened' : ℕ) → After S.hidden S.code.own.stack pending env regs t env' regs' c' → same_truth (holds (shape (first vs))) k ≡ b
      → Agree S n (tree.at (give vs) (of_tree S pending env' c') w) (before (of_code S pending pc regs' opened') c')

  pub if_after : (n t pc : ℕ) (env regs env1 regs1 : List Value) (c1 : Captured) (w : List Work) (k b : Bool) → After S.hidden S.code.own.stack pending env regs t env1 regs1 c1 → GoesIf n t env regs pc w k b → GoesIf n t env1 regs1 pc w k b
  if_after n t pc env regs env1 regs1 c1 w k b af goes = λ vs env2 regs2 c2 o2 af2 eq. goes vs env2 regs2 c2 o2 (after_then S.hidden S.code.own.stack pending env regs env1 regs1 env2 regs2 c1 c2 t t (omega arith) af af2) eq

  pub if_at : (n t pc pc' : ℕ) (env regs : List Value) (w : List Work) (k b : Bool) → pc ≡ pc' → GoesIf n t env regs pc' w k b → GoesIf n t env regs pc w k b
  if_at n t pc pc' env regs w k b e goes = λ vs env2 regs2 c2 o2 af2 eq. at_place S pending n pc pc' o2 _ regs2 c2 e (goes vs env2 regs2 c2 o2 af2 eq)

  -- a value of which the first one is taken goes on as this one does
  pub if_first : (n t pc : ℕ) (env regs : List Value) (w : List Work) (k b : Bool) → GoesIf n t env regs pc w k b → GoesIf n t env regs pc (first_only ∷ w) k b
  if_first n t pc env regs w k b goes = λ vs env2 regs2 c2 o2 af2 eq. go_left S n _ (tree.at (give (first vs ∷ [])) (of_tree S pending env2 c2) w) _ refl (goes (first vs ∷ []) env2 regs2 c2 o2 af2 eq)

  -- the like for a truth, as comparisons and `not` give it
  abbrev pub GoesTruth : (n t : ℕ) → (env regs : List Value) → (pc : ℕ) → (w : List Work) → (k b : Bool) → Type 0
  GoesTruth n t env regs pc w k b =
      (truth : Bool) (env' regs' : List Value) (c' : Captured) (opened' : ℕ) → After S.hidden S.code.own.stack pending env regs t env' regs' c' → same_truth truth k ≡ b
      → Agree S n (tree.at (give (known (boolean truth) ∷ [])) (of_tree S pending env' c') w) (before (of_code S pending pc regs' opened') c')

  truth_after : (n t pc : ℕ) (env regs env1 regs1 : List Value) (c1 : Captured) (w : List Work) (k b : Bool) → After S.hidden S.code.own.stack pending env regs t env1 regs1 c1 → GoesTruth n t env regs pc w k b → GoesTruth n t env1 regs1 pc w k b
  truth_after n t pc env regs env1 regs1 c1 w k b af goes = λ truth env2 regs2 c2 o2 af2 eq. goes truth env2 regs2 c2 o2 (after_then S.hidden S.code.own.stack pending env regs env1 regs1 env2 regs2 c1 c2 t t (omega arith) af af2) eq

  truth_at : (n t pc pc' : ℕ) (env regs : List Value) (w : List Work) (k b : Bool) → pc ≡ pc' → GoesTruth n t env regs pc' w k b → GoesTruth n t env regs pc w k b
  truth_at n t pc pc' env regs w k b e goes = λ truth env2 regs2 c2 o2 af2 eq. at_place S pending n pc pc' o2 _ regs2 c2 e (goes truth env2 regs2 c2 o2 af2 eq)

  as_truth : (n t pc : ℕ) (env regs : List Value) (w : List Work) (k b : Bool) → GoesIf n t env regs pc w k b → GoesTruth n t env regs pc w k b
  as_truth n t pc env regs w k b goes = λ truth env2 regs2 c2 o2 af2 eq. goes (known (boolean truth) ∷ []) env2 regs2 c2 o2 af2 eq

  -- the instruction has decided: on to the jump and away, or past it
  decided : (b : Bool) (x y : ℕ) (op : Opcode) (field : Bool) (ahead line n pc opened : ℕ) (s : tree.State) (regs env : List Value) (c : Captured)
      → HasAt S pc (jump_if op x y field ahead line) → pc + 2 + ahead < length S.code.own.code
      → (b ≡ true → Agree S n s (before (of_code S pending (pc + 2) regs opened) c)) → (b ≡ false → Agree S n s (before (of_code S pending (pc + 2 + ahead) regs opened) c))
      → Agree S n s (amid (go_by (cond (not b) (pos 1) (pos 2))) env (of_code S pending pc regs opened) c)
  decided true x y op field ahead line n pc opened s regs env c has inside on away =
      let there = next_there S (pc + 2) (omega (arith, inside)) in
      go_right S n s _ _ (go_step S.code 2 there.0 env (of_code S pending pc regs opened) c there.1) (on refl)
  decided false x y op field ahead line n pc opened s regs env c has inside on away =
      let far : pc + 1 + (ahead + 1) ≡ pc + 2 + ahead = omega arith in
      let there = next_there S (pc + 1 + (ahead + 1)) (omega (arith, inside)) in
      go_right S n s _ (before (of_code S pending (pc + 1) regs opened) c) (go_step S.code 1 (op_ax Jmp (16777215 + ahead)) env (of_code S pending pc regs opened) c has.1.1.0)
      (go_right S n s _ (before (of_code S pending (pc + 1 + (ahead + 1)) regs opened) c)
      (jump_step S.code (of_code S pending (pc + 1) regs opened) c ahead there.0 has.1.1.0 (omega (arith, inside, S.short)) there.1)
      (at_place S pending n (pc + 1 + (ahead + 1)) (pc + 2 + ahead) opened s regs c far (away refl)))

  -- a value in register t is tested
  tested_goes : (k b : Bool) (t ahead line n pc opened : ℕ) (s : tree.State) (env regs : List Value) (c : Captured) (v : Value)
      → HasAt S pc (jump_if Test t 0 (not k) ahead line) → pc + 2 + ahead < length S.code.own.code → t < S.code.own.stack → Rel S.hidden S.code.own.stack pending env c regs → nth regs t ≡ v → same_truth (holds (shape v)) k ≡ b
      → (b ≡ true → Agree S n s (before (of_code S pending (pc + 2) regs opened) c)) → (b ≡ false → Agree S n s (before (of_code S pending (pc + 2 + ahead) regs opened) c))
      → Agree S n s (before (of_code S pending pc regs opened) c)
  tested_goes k true t ahead line n pc opened s env regs c v has inside room rel eq is on away =
      let there = next_there S (pc + 2) (omega (arith, inside)) in
      go_right S n s _ (before (of_code S pending (pc + 2) regs opened) c)
      (test_past S.code (of_code S pending pc regs opened) c t (not k) there.0 has.0 (omega (arith, S.small)) (omega (arith, rel.room)) (ap (λ x. same_truth (holds (shape x)) (not k)) eq ∙ test_right (holds (shape v)) k ∙ ap not is) there.1) (on refl)
  tested_goes k false t ahead line n pc opened s env regs c v has inside room rel eq is on away =
      let far : pc + 1 + (ahead + 1) ≡ pc + 2 + ahead = omega arith in
      let there = next_there S (pc + 1 + (ahead + 1)) (omega (arith, inside)) in
      go_right S n s _ (before (of_code S pending (pc + 1) regs opened) c)
      (test_on S.code (of_code S pending pc regs opened) c t (not k) (op_ax Jmp (16777215 + ahead)) has.0 (omega (arith, S.small)) (omega (arith, rel.room)) (ap (λ x. same_truth (holds (shape x)) (not k)) eq ∙ test_right (holds (shape v)) k ∙ ap not is) has.1.1.0)
      (go_right S n s _ (before (of_code S pending (pc + 1 + (ahead + 1)) regs opened) c)
      (jump_step S.code (of_code S pending (pc + 1) regs opened) c ahead there.0 has.1.1.0 (omega (arith, inside, S.short)) there.1)
      (at_place S pending n (pc + 1 + (ahead + 1)) (pc + 2 + ahead) opened s regs c far (away refl)))

  -- two values are compared, wherever they stand
  compare_goes : (opcode : Opcode) (operation : Operation) (wanted k : Bool) (x y u ahead line n pc opened : ℕ) (s : tree.State) (v z : Value) (env regs : List Value) (c : Captured) (w : List Work)
      → HasAt S pc (jump_if opcode x y (cond wanted (not k) k) ahead line) → pc + 2 + ahead < length S.code.own.code → x < 2 ^ 8
      → Rel S.hidden S.code.own.stack pending env c regs
      → talk_step S.code (before (of_code S pending pc regs opened) c) ≡ says_so (operates operation (v ∷ z ∷ [])) S.code (of_code S pending pc regs opened) c (λ q b d. heard for_truth S.code q b d)
      → Rattle.tree_activation.specs.Activation.step s ≡ truth_of operation wanted v z line (of_tree S pending env c) w
      → GoesTruth n u env regs (pc + 2) w k true → GoesTruth n u env regs (pc + 2 + ahead) w k false
      → Agree S n s (before (of_code S pending pc regs opened) c)
  compare_goes opcode operation wanted k x y u ahead line n pc opened s v z env regs c w has inside x_fits rel asks_so e on away =
      let field = cond wanted (not k) k in
      asks_alike S pending n for_truth told_truth s _ (operates operation (v ∷ z ∷ [])) (operates operation (v ∷ z ∷ [])) line pc opened u env regs c w
      (λ vs. give (known (boolean (cond wanted (holds (shape (first vs))) (not (holds (shape (first vs)))))) ∷ [])) e asks_so
      (λ m. (refl, refl)) refl rel (here_abc S opcode x y 0 field line pc (jump_over ahead line ∷ []) has)
      (λ ws env1 regs1 c1 af. let truth = cond wanted (holds (shape (first ws))) (not (holds (shape (first ws)))) in
      as_code S n _ _ (amid (go_by (cond (not (same_truth truth k)) (pos 1) (pos 2))) (ws ++ []) (of_code S pending pc regs1 opened) c1)
      (compare_rest S.code opcode x y field ws (of_code S pending pc regs1 opened) c1 has.0 x_fits
      ∙ ap (λ b. talk S.code (go_by (cond b (pos 1) (pos 2))) (ws ++ []) (of_code S pending pc regs1 opened) c1) (field_right (holds (shape (first ws))) wanted k))
      (decided (same_truth truth k) x y opcode field ahead line n pc opened _ regs1 (ws ++ []) c1 has inside
      (λ is. on truth env1 regs1 c1 opened af is) (λ is. away truth env1 regs1 c1 opened af is)))

  -- what every condition does, which goes on in one way where its truth is the wanted one and where it is not
  abbrev pub ConditionSame : ((n t : ℕ) → (env regs : List Value) → (pc : ℕ) → (w : List Work) → (k b : Bool) → Type 0) → Exp → Type 0
  ConditionSame Way e =
      (k : Bool) (ahead t j n pc opened : ℕ) (env regs : List Value) (c : Captured) (w : List Work)
      → n ≤ S.bound → HasAt S pc (test_code S.code.own.constants e k ahead t j) → IsPlaced S e (length env) j → pc + length (test_code S.code.own.constants e k ahead t j) + ahead < length S.code.own.code
      → length env ≤ t → t + room_of_test S.code.own.constants e ≤ S.code.own.stack → Rel S.hidden S.code.own.stack pending env c regs
      → Way n t env regs (pc + length (test_code S.code.own.constants e k ahead t j)) w k true
      → Way n t env regs (pc + length (test_code S.code.own.constants e k ahead t j) + ahead) w k false
      → Agree S n (tree.at (evaluate e) (of_tree S pending env c) w) (before (of_code S pending pc regs opened) c)

  abbrev pub TestSame : Exp → Type 0
  TestSame e = ConditionSame GoesIf e

  -- of one that is a truth itself
  abbrev pub TruthSame : Exp → Type 0
  TruthSame e = ConditionSame GoesTruth e

  -- it goes on with any values of that truth
  truth_tested : (e : Exp) → TruthSame e → TestSame e
  truth_tested e law k ahead t j n pc opened env regs c w bound has ok inside le room rel on away =
      law k ahead t j n pc opened env regs c w bound has ok inside le room rel (as_truth n t _ env regs w k true on) (as_truth n t _ env regs w k false away)

  -- by the value, which may stay in the register of a local
  by_value : (e : Exp) → ExpSame S pending e → (k : Bool) (ahead t j n pc opened : ℕ) (env regs : List Value) (c : Captured) (w : List Work)
      → n ≤ S.bound → HasAt S pc (value_test S.code.own.constants e k ahead t j) → IsPlaced S e (length env) j → pc + length (value_test S.code.own.constants e k ahead t j) + ahead < length S.code.own.code
      → length env ≤ t → (local_of e ≡ None → t + room_of S.code.own.constants e 2 ≤ S.code.own.stack) → Rel S.hidden S.code.own.stack pending env c regs
      → GoesIf n t env regs (pc + length (value_test S.code.own.constants e k ahead t j)) w k true
      → GoesIf n t env regs (pc + length (value_test S.code.own.constants e k ahead t j) + ahead) w k false
      → Agree S n (tree.at (evaluate e) (of_tree S pending env c) w) (before (of_code S pending pc regs opened) c)
  by_value e law k ahead t j n pc opened env regs c w bound has ok inside le room rel on away =
      let end = pc + length (value_test S.code.own.constants e k ahead t j) in
      operand_goes S pending e (λ x. jump_if Test x 0 (not k) ahead (line_of e)) n t end env regs w j pc opened c law (room_some S.code.own.constants e) bound has ok refl (omega (arith, inside)) le room rel
      (λ x place o1 vs env1 regs1 c1 af low x_room x_is here ends. tested_goes k (same_truth (holds (shape (first vs))) k) x ahead (line_of e) n place o1 _ env1 regs1 c1 (first vs) here (omega (arith, inside, ends)) x_room af.rel x_is refl
      (λ is. at_place S pending n (place + 2) end o1 _ regs1 c1 ends (on vs env1 regs1 c1 o1 af is))
      (λ is. at_place S pending n (place + 2 + ahead) (end + ahead) o1 _ regs1 c1 (omega (arith, ends)) (away vs env1 regs1 c1 o1 af is)))

  pub truth_is : (h b : Bool) → same_truth h true ≡ b → h ≡ b
  truth_is true b e = e
  truth_is false b e = e

  pub truth_not : (h b : Bool) → same_truth h false ≡ b → h ≡ not b
  truth_not true b e = e' e
    where
      e' : false ≡ b → true ≡ not b
      e' h = ap not h
  truth_not false b e = e'' e
    where
      e'' : true ≡ b → false ≡ not b
      e'' h = ap not h

  -- the first operand has decided
  short : (b k : Bool) (v : Value) (n t place on_at off_at o1 : ℕ) (env regs env1 regs1 : List Value) (c1 : Captured) (w : List Work)
      → same_truth (holds (shape v)) k ≡ b → place ≡ cond b on_at off_at → After S.hidden S.code.own.stack pending env regs t env1 regs1 c1
      → GoesIf n t env regs on_at w k true → GoesIf n t env regs off_at w k false
      → Agree S n (tree.at (give (v ∷ [])) (of_tree S pending env1 c1) w) (before (of_code S pending place regs1 o1) c1)
  short true k v n t place on_at off_at o1 env regs env1 regs1 c1 w is e af on away = at_place S pending n place on_at o1 _ regs1 c1 e (on (v ∷ []) env1 regs1 c1 o1 af is)
  short false k v n t place on_at off_at o1 env regs env1 regs1 c1 w is e af on away = at_place S pending n place off_at o1 _ regs1 c1 e (away (v ∷ []) env1 regs1 c1 o1 af is)

  and_place : (k : Bool) (pc f s ahead whole : ℕ) → whole ≡ f + s → pc + f + (s + cond k ahead 0) ≡ cond (not k) (pc + whole) (pc + whole + ahead)
  and_place true pc f s ahead whole e = omega arith
  and_place false pc f s ahead whole e = omega arith

  or_place : (k : Bool) (pc f s ahead whole : ℕ) → whole ≡ f + s → pc + f + (s + cond k 0 ahead) ≡ cond k (pc + whole) (pc + whole + ahead)
  or_place true pc f s ahead whole e = omega arith
  or_place false pc f s ahead whole e = omega arith

  no_more : (k : Bool) (ahead : ℕ) → (cond k ahead 0 ≤ ahead) × (cond k 0 ahead ≤ ahead)
  no_more true ahead = (omega arith, omega arith)
  no_more false ahead = (omega arith, omega arith)

  pub placed_still : (e : Exp) (m n j : ℕ) → m ≡ n → IsPlaced S e n j → IsPlaced S e m j
  placed_still e m n j same h = subst (λ z. IsPlaced S e z j) (sym same) h

  -- an expression that is tested by its value, whatever that is
  pub leaf_tested : (e : Exp) → ((k : Bool) (ahead t j : ℕ) → test_code S.code.own.constants e k ahead t j ≡ value_test S.code.own.constants e k ahead t j)
      → ((t : ℕ) → t + room_of_test S.code.own.constants e ≤ S.code.own.stack → local_of e ≡ None → t + room_of S.code.own.constants e 2 ≤ S.code.own.stack) → ExpSame S pending e → TestSame e
  leaf_tested e same wide law k ahead t j n pc opened env regs c w bound has ok inside le room rel on away =
      let is = same k ahead t j in
      let size = ap length is in
      by_value e law k ahead t j n pc opened env regs c w bound (subst (HasAt S pc) is has) ok (omega (arith, inside, size)) le (wide t room) rel
      (if_at n t _ _ env regs w k true (omega (arith, size)) on) (if_at n t _ _ env regs w k false (omega (arith, size)) away)

  pub paren_tested : (line : ℕ) (e : Exp) → TestSame e → TestSame (Paren line e)
  paren_tested line e law k ahead t j n pc opened env regs c w bound has ok inside le room rel on away =
      go_left S n _ (tree.at (evaluate e) (of_tree S pending env c) (first_only ∷ w)) _ refl
      (law k ahead t j n pc opened env regs c (first_only ∷ w) bound has ok inside le room rel (if_first n t _ env regs w k true on) (if_first n t _ env regs w k false away))

  pub not_truth : (line : ℕ) (e : Exp) → TestSame e → TruthSame (Unary line Negation e)
  not_truth line e law k ahead t j n pc opened env regs c w bound has ok inside le room rel on away =
      go_left S n _ (tree.at (evaluate e) (of_tree S pending env c) (operand_of line Negation ∷ w)) _ refl
      (law (not k) ahead t j n pc opened env regs c (operand_of line Negation ∷ w) bound has ok inside le room rel
      (λ vs env1 regs1 c1 o1 af is. go_left S n _ (tree.at (give (known (boolean (not (holds (shape (first vs))))) ∷ [])) (of_tree S pending env1 c1) w) _ refl
      (on (not (holds (shape (first vs)))) env1 regs1 c1 o1 af (sym (not_right (holds (shape (first vs))) k) ∙ is)))
      (λ vs env1 regs1 c1 o1 af is. go_left S n _ (tree.at (give (known (boolean (not (holds (shape (first vs))))) ∷ [])) (of_tree S pending env1 c1) w) _ refl
      (away (not (holds (shape (first vs)))) env1 regs1 c1 o1 af (sym (not_right (holds (shape (first vs))) k) ∙ is))))

  pub unary_tested : (line : ℕ) (op : UnOp) (e : Exp) → ExpSame S pending (Unary line op e) → TestSame e → TestSame (Unary line op e)
  unary_tested line Negation e value law k ahead t j n pc opened env regs c w bound has ok inside le room rel on away =
      truth_tested (Unary line Negation e) (not_truth line e law) k ahead t j n pc opened env regs c w bound has ok inside le room rel on away
  unary_tested line op e value law k ahead t j n pc opened env regs c w bound has ok inside le room rel on away = by_value (Unary line op e) value k ahead t j n pc opened env regs c w bound has ok inside le (λ _. room) rel on away

  pub and_tested : (line : ℕ) (e d : Exp) → TestSame e → TestSame d → TestSame (And line e d)
  and_tested line e d law_e law_d k ahead t j n pc opened env regs c w bound has ok inside le room rel on away =
      let second = test_code S.code.own.constants d k ahead t (j + made_by e) in
      let front = test_code S.code.own.constants e true (length second + cond k ahead 0) t j in
      let whole = length-append front second in
      let fewer = (no_more k ahead).0 in
      go_left S n _ (tree.at (evaluate e) (of_tree S pending env c) (and_right d ∷ w)) _ refl
      (law_e true (length second + cond k ahead 0) t j n pc opened env regs c (and_right d ∷ w) bound (has_front S pc front second has) ok.0 (omega (arith, inside, whole, fewer)) le (omega arith) rel
      (λ vs env1 regs1 c1 o1 af is. go_left S n _ (tree.at (evaluate d) (of_tree S pending env1 c1) (first_only ∷ w)) _ (same_cond (holds (shape (first vs))) true _ _ (truth_is _ true is))
      (law_d k ahead t (j + made_by e) n (pc + length front) o1 env1 regs1 c1 (first_only ∷ w) bound (has_back S pc front second has) (placed_still d _ _ _ af.size ok.1) (omega (arith, inside, whole)) (omega (arith, le, af.size)) (omega arith) af.rel
      (if_first n t _ env1 regs1 w k true (if_at n t _ _ env1 regs1 w k true (omega (arith, whole)) (if_after n t _ env regs env1 regs1 c1 w k true af on)))
      (if_first n t _ env1 regs1 w k false (if_at n t _ _ env1 regs1 w k false (omega (arith, whole)) (if_after n t _ env regs env1 regs1 c1 w k false af away)))))
      (λ vs env1 regs1 c1 o1 af is. go_left S n _ (tree.at (give (first vs ∷ [])) (of_tree S pending env1 c1) w) _ (same_cond (holds (shape (first vs))) false _ _ (truth_is _ false is))
      (short (not k) k (first vs) n t _ _ _ o1 env regs env1 regs1 c1 w (ap (λ b. same_truth b k) (truth_is _ false is)) (and_place k pc (length front) (length second) ahead (length (front ++ second)) whole) af on away)))

  pub or_tested : (line : ℕ) (e d : Exp) → TestSame e → TestSame d → TestSame (Or line e d)
  or_tested line e d law_e law_d k ahead t j n pc opened env regs c w bound has ok inside le room rel on away =
      let second = test_code S.code.own.constants d k ahead t (j + made_by e) in
      let front = test_code S.code.own.constants e false (length second + cond k 0 ahead) t j in
      let whole = length-append front second in
      let fewer = (no_more k ahead).1 in
      go_left S n _ (tree.at (evaluate e) (of_tree S pending env c) (or_right d ∷ w)) _ refl
      (law_e false (length second + cond k 0 ahead) t j n pc opened env regs c (or_right d ∷ w) bound (has_front S pc front second has) ok.0 (omega (arith, inside, whole, fewer)) le (omega arith) rel
      (λ vs env1 regs1 c1 o1 af is. go_left S n _ (tree.at (evaluate d) (of_tree S pending env1 c1) (first_only ∷ w)) _ (same_cond (holds (shape (first vs))) false _ _ (truth_not _ true is))
      (law_d k ahead t (j + made_by e) n (pc + length front) o1 env1 regs1 c1 (first_only ∷ w) bound (has_back S pc front second has) (placed_still d _ _ _ af.size ok.1) (omega (arith, inside, whole)) (omega (arith, le, af.size)) (omega arith) af.rel
      (if_first n t _ env1 regs1 w k true (if_at n t _ _ env1 regs1 w k true (omega (arith, whole)) (if_after n t _ env regs env1 regs1 c1 w k true af on)))
      (if_first n t _ env1 regs1 w k false (if_at n t _ _ env1 regs1 w k false (omega (arith, whole)) (if_after n t _ env regs env1 regs1 c1 w k false af away)))))
      (λ vs env1 regs1 c1 o1 af is. go_left S n _ (tree.at (give (first vs ∷ [])) (of_tree S pending env1 c1) w) _ (same_cond (holds (shape (first vs))) true _ _ (truth_not _ false is))
      (short k k (first vs) n t _ _ _ o1 env regs env1 regs1 c1 w (ap (λ b. same_truth b k) (truth_not _ false is)) (or_place k pc (length front) (length second) ahead (length (front ++ second)) whole) af on away)))

  -- the code of a comparison: as a value, or by the instruction that compares
  abbrev compared_other : (line : ℕ) (op : BinOp) (e d : Exp) (k : Bool) (ahead t j : ℕ) → List Coded
  compared_other line op e d k ahead t j = value_test S.code.own.constants (Binary line op e d) k ahead t j

  abbrev by_registers : (line : ℕ) (k : Bool) (ahead : ℕ) → Opcode → (swapped wanted : Bool) → (x y : ℕ) → List Coded
  by_registers line k ahead opcode swapped wanted x y = jump_if opcode (pick swapped x y) (pick swapped y x) (cond wanted (not k) k) ahead line

  abbrev by_constant : (line : ℕ) (k : Bool) (ahead : ℕ) → (wanted : Bool) → (x m : ℕ) → List Coded
  by_constant line k ahead wanted x m = jump_if EqK x m (cond wanted (not k) k) ahead line

  abbrev by_number : (line : ℕ) (op : BinOp) (k : Bool) (ahead : ℕ) → (wanted : Bool) → (x m : ℕ) → List Coded
  by_number line op k ahead wanted x m = jump_if (number_opcode op) x (m + 127) (cond wanted (not k) k) ahead line

  abbrev compared_by : (line : ℕ) (op : BinOp) (e d : Exp) (k : Bool) (ahead t j : ℕ) → Opcode → (swapped wanted : Bool) → List Coded
  compared_by line op e d k ahead t j opcode swapped wanted =
      operation_by (constant_in S.code.own.constants op d) op e d (exp_code S.code.own.constants e t j 2) (exp_code S.code.own.constants d (t + 1) (j + made_by e) 2) t
      (by_constant line k ahead wanted) (by_registers line k ahead opcode swapped wanted) (by_number line op k ahead wanted)

  -- a comparison
  pub compared_truth : (line : ℕ) (op : BinOp) (e d : Exp) → Comparison op → ExpSame S pending e → ExpSame S pending d → TruthSame (Binary line op e d)
  compared_truth line op e d f law_e law_d k ahead t j n pc opened env regs c w bound has ok inside le room rel on away =
      let is = f.tests (compared_other line op e d k ahead t j) (compared_by line op e d k ahead t j) in
      let size = ap length is in
      let end = pc + length (compared_by line op e d k ahead t j f.opcode f.swapped f.wanted) in
      go_left S n _ (tree.at (evaluate e) (of_tree S pending env c) (right_of line op d ∷ w)) _ refl
      (operation_same S pending line op e d (by_constant line k ahead f.wanted) (by_registers line k ahead f.opcode f.swapped f.wanted) (by_number line op k ahead f.wanted) n t end env regs w (cond (is_compared op) 0 1) j pc opened c
      law_e law_d
      (room_some S.code.own.constants e) (room_some S.code.own.constants d) bound (subst (HasAt S pc) is has) ok.0 ok.1 refl (omega (arith, inside, size)) le room rel
      (λ x m place o1 v q env1 regs1 c1 af x_room x_is here ends. let z = known (constant q.value) in
      compare_goes EqK f.operation f.wanted k x m t ahead line n place o1 _ (pick f.swapped v z) (pick f.swapped z v) env1 regs1 c1 w here (omega (arith, inside, size, ends))
      (omega (arith, x_room, S.small)) af.rel
      (constant_so S pending op f d m q x place o1 (cond f.wanted (not k) k) v env1 regs1 c1 here.0 x_room af.rel x_is) (f.means line v z (of_tree S pending env1 c1) w)
      (truth_at n t _ _ env1 regs1 w k true (omega (arith, size, ends)) (truth_after n t _ env regs env1 regs1 c1 w k true af on))
      (truth_at n t _ _ env1 regs1 w k false (omega (arith, size, ends)) (truth_after n t _ env regs env1 regs1 c1 w k false af away)))
      (λ x y place o1 v ws env1 regs1 c1 af x_room y_room x_is y_is seats here ends.
      compare_goes f.opcode f.operation f.wanted k (pick f.swapped x y) (pick f.swapped y x) t ahead line n place o1 _ (pick f.swapped v (first ws)) (pick f.swapped (first ws) v) env1 regs1 c1 w here (omega (arith, inside, size, ends))
      (one_of S pending f.swapped x y (2 ^ 8) (omega (arith, x_room, S.small)) (omega (arith, y_room, S.small))) af.rel
      (compared_so S pending op f x y place o1 (cond f.wanted (not k) k) v (first ws) env1 regs1 c1 here.0 x_room y_room af.rel x_is y_is) (f.means line v (first ws) (of_tree S pending env1 c1) w)
      (truth_at n t _ _ env1 regs1 w k true (omega (arith, size, ends)) (truth_after n t _ env regs env1 regs1 c1 w k true af on))
      (truth_at n t _ _ env1 regs1 w k false (omega (arith, size, ends)) (truth_after n t _ env regs env1 regs1 c1 w k false af away)))
      (λ x m place o1 v env1 regs1 c1 af x_room x_is is here ends. let z = known (integer (pos m)) in
      compare_goes (number_opcode op) f.operation f.wanted k x (m + 127) t ahead line n place o1 _ (pick f.swapped v z) (pick f.swapped z v) env1 regs1 c1 w here (omega (arith, inside, size, ends))
      (omega (arith, x_room, S.small)) af.rel
      (numbered_so S pending op f x m place o1 (cond f.wanted (not k) k) v env1 regs1 c1 here.0 x_room ((operator_stands op d).number m is).small af.rel x_is) (f.means line v z (of_tree S pending env1 c1) w)
      (truth_at n t _ _ env1 regs1 w k true (omega (arith, size, ends)) (truth_after n t _ env regs env1 regs1 c1 w k true af on))
      (truth_at n t _ _ env1 regs1 w k false (omega (arith, size, ends)) (truth_after n t _ env regs env1 regs1 c1 w k false af away))))

  pub binary_tested : (line : ℕ) (op : BinOp) (e d : Exp) → ExpSame S pending (Binary line op e d) → ExpSame S pending e → ExpSame S pending d → TestSame (Binary line op e d)
  binary_tested line op e d value law_e law_d k ahead t j n pc opened env regs c w bound has ok inside le room rel on away = by (sort op)
    where
      by : Comparison op ⊎ Other op → Agree S n (tree.at (evaluate (Binary line op e d)) (of_tree S pending env c) w) (before (of_code S pending pc regs opened) c)
      by (inr f) =
          let is = f.tests (compared_other line op e d k ahead t j) (compared_by line op e d k ahead t j) in
          let size = ap length is in
          let own : ◌≡◌ {A = ℕ} (cond (is_compared op) 0 1) 1 = ap (λ b. cond b 0 1) f.compares_not in
          by_value (Binary line op e d) value k ahead t j n pc opened env regs c w bound (subst (HasAt S pc) is has) ok (omega (arith, inside, size)) le
          (λ _. subst (λ b. t + operation_room b (constant_in S.code.own.constants op d) op e d (room_of S.code.own.constants e 2) (room_of S.code.own.constants d 2) ≤ S.code.own.stack) own room) rel
          (if_at n t _ _ env regs w k true (omega (arith, size)) on) (if_at n t _ _ env regs w k false (omega (arith, size)) away)
      by (inl f) = truth_tested (Binary line op e d) (compared_truth line op e d f law_e law_d) k ahead t j n pc opened env regs c w bound has ok inside le room rel on away

  pub true_tested : (line : ℕ) → TestSame (True line)
  true_tested line true ahead t j n pc opened env regs c w bound has ok inside le room rel on away =
      go_left S n _ (tree.at (give (known (boolean true) ∷ [])) (of_tree S pending env c) w) _ refl
      (at_place S pending n pc (pc + 0) opened _ regs c (omega arith) (on (known (boolean true) ∷ []) env regs c opened (after_none S.hidden S.code.own.stack pending env regs c t rel) refl))
  true_tested line false ahead t j n pc opened env regs c w bound has ok inside le room rel on away =
      let far : pc + (ahead + 1) ≡ pc + 1 + ahead = omega arith in
      let there = next_there S (pc + (ahead + 1)) (omega (arith, inside)) in
      go_left S n _ (tree.at (give (known (boolean true) ∷ [])) (of_tree S pending env c) w) _ refl
      (go_right S n _ _ (before (of_code S pending (pc + (ahead + 1)) regs opened) c)
      (jump_step S.code (of_code S pending pc regs opened) c ahead there.0 has.0 (omega (arith, inside, S.short)) there.1)
      (at_place S pending n (pc + (ahead + 1)) (pc + 1 + ahead) opened _ regs c far (away (known (boolean true) ∷ []) env regs c opened (after_none S.hidden S.code.own.stack pending env regs c t rel) refl)))
