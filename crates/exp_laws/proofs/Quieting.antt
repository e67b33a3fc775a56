-- A quiet expression leaves each local's value as it was.
use Rattle.std.proofs.Common.{◌≡◌, ℕ, ◌+◌, ◌<◌, ◌≤◌, Bool, true, false, not, cond, ℤ, Option, Some, None, List, [], ◌∷◌, ◌++◌, length, refl, sym, ap, subst, ◌∙◌, arith, length-append}
use Rattle.int_core.specs.Value.{Value, known, nil, boolean, integer, shape, holds, nth, write}
use Rattle.int_core.specs.Ask.{reads_upvalue, Captured, goes_on}
use Rattle.tree_core.specs.declared.name.Place.{Place}
use Rattle.tree_core.specs.declared.name.Place.TheVariants.{Unset, Upvalue, GlobalIn, GlobalOf, Local as LocalPlace}
use Rattle.tree_core.specs.declared.operator.UnOp.TheVariants.{Not as Negation}
use Rattle.tree_core.specs.Tree.{Exp, Nil, True, False, Int, Str, Function, Var, Unary, Paren}
use Rattle.tree_terms.specs.Bodies.{line_of_body, upvalues_of}
use Rattle.tree_activation.specs.Work.{capture, evaluate, first_only, operand_of, give, make, Work, Pending}
use Rattle.tree_activation.specs.Work as tree
use Rattle.tree_activation.specs.Activation.{step}
use Rattle.tree_activation.specs.Asking.{captured_locals}
use Rattle.tree_activation.specs.Expressions.{gives, give_first, reads_variable}
use Rattle.code_core.specs.declared.opcode.Opcode.TheVariants.{LoadI, GetUpval, Not}
use Rattle.code_core.specs.declared.proto.Const.{Const}
use Rattle.code_core.specs.declared.proto.Const.TheVariants.{Int as IntConst, Str as StrConst}
use Rattle.machine_core.specs.Text.{read, constant}
use Rattle.machine_core.specs.InstructionRows.{to_register}
use Rattle.machine_core.specs.Talk.{before, amid}
use Rattle.list_laws.proofs.Values.{nth_write_same}
use Rattle.code_of.specs.Coded.{Coded, with_abc, with_abx}
use Rattle.code_of.specs.Constants.{is_small, small_field, loads, Found, IsLoaded}
use Rattle.code_of.specs.Expressions.{exp_code}
use Rattle.code_of.specs.Operands.{local_of, operand_code}
use Rattle.code_of.specs.Operators.{name_code}
use Rattle.code_of.specs.Stores.{is_near, is_quiet}
use Rattle.exp_laws.specs.Setting.{Setting}
use Rattle.exp_laws.specs.Placed.{IsPlaced, NameIsPlaced}
use Rattle.exp_laws.proofs.Registers.{Rel, After, after_none, after_then, after_put}
use Rattle.exp_laws.proofs.Talking.{Agree, go_left, go_right, of_tree, of_code}
use Rattle.exp_laws.proofs.Placing.{HasAt, has_front, has_back, here_abc}
use Rattle.exp_laws.proofs.Steps.{true_step, false_step, not_step, move_step, upvalue_step, to_register_step}
use Rattle.exp_laws.proofs.Loads.{nil_step, integer_step}
use Rattle.exp_laws.proofs.Going.{next_there, at_place}
use Rattle.exp_laws.proofs.NameForms.{load_right}
use Rattle.exp_laws.proofs.Operands.{local_placed, local_read}
use Rattle.exp_laws.proofs.Still.{Still, still_then, one_still}
use Rattle.exp_laws.proofs.FunctionForms.{closure_still}

module _ (S : Setting) (pending : List Pending) where
  -- code goes on with one value, and each local is as it was
  abbrev pub GoesStill : (n t : ℕ) → (env regs : List Value) → (pc : ℕ) → (k : List Work) → Type 0
  GoesStill n t env regs pc k =
      (v : Value) (env' regs' : List Value) (c' : Captured) (opened' : ℕ) → After S.hidden S.code.own.stack pending env regs t env' regs' c' → Still env env' → nth regs' t ≡ v
      → Agree S n (tree.at (give (v ∷ [])) (of_tree S pending env' c') k) (before (of_code S pending pc regs' opened') c')

  -- the first value goes to register t
  put_still : (n t pc opened : ℕ) (v : Value) (env regs : List Value) (c : Captured) (k : List Work) → length env ≤ t → Rel S.hidden S.code.own.stack pending env c regs → GoesStill n t env regs pc k
      → Agree S n (tree.at (give (v ∷ [])) (of_tree S pending env c) k) (before (of_code S pending pc (write t v regs) opened) c)
  put_still n t pc opened v env regs c k le rel goes = goes v env (write t v regs) c opened (after_put S.hidden S.code.own.stack pending env regs c t v le rel) (λ r. refl) (nth_write_same t v regs)

  still_after : (n t pc : ℕ) (env regs env1 regs1 : List Value) (c1 : Captured) (k : List Work) → After S.hidden S.code.own.stack pending env regs t env1 regs1 c1 → Still env env1 → GoesStill n t env regs pc k → GoesStill n t env1 regs1 pc k
  still_after n t pc env regs env1 regs1 c1 k af st goes = λ v env2 regs2 c2 o2 af2 st2 eq. goes v env2 regs2 c2 o2 (after_then S.hidden S.code.own.stack pending env regs env1 regs1 env2 regs2 c1 c2 t t (omega arith) af af2) (still_then env env1 env2 st st2) eq

  still_at : (n t pc pc' : ℕ) (env regs : List Value) (k : List Work) → pc ≡ pc' → GoesStill n t env regs pc' k → GoesStill n t env regs pc k
  still_at n t pc pc' env regs k e goes = λ v env2 regs2 c2 o2 af2 st2 eq. at_place S pending n pc pc' o2 _ regs2 c2 e (goes v env2 regs2 c2 o2 af2 st2 eq)

  answer_still : (n t pc opened : ℕ) (v : Value) (env regs env1 regs1 : List Value) (c1 : Captured) (k : List Work) → pc + 1 < length S.code.own.code → length env ≤ t → t < S.code.own.stack
      → After S.hidden S.code.own.stack pending env regs t env1 regs1 c1 → Still env env1 → GoesStill n t env regs (pc + 1) k
      → Agree S n (tree.at (give (v ∷ [])) (of_tree S pending env1 c1) k) (amid (to_register t (read 0)) (v ∷ []) (of_code S pending pc regs1 opened) c1)
  answer_still n t pc opened v env regs env1 regs1 c1 k inside le room af st goes =
      let there = next_there S (pc + 1) inside in
      go_right S n _ _ (before (of_code S pending (pc + 1) (write t v regs1) opened) c1)
      (to_register_step S.code t (read 0) there.0 (v ∷ []) (of_code S pending pc regs1 opened) c1 (omega (arith, room, af.rel.room)) there.1)
      (put_still n t (pc + 1) opened v env1 regs1 c1 k (omega (arith, le, af.size)) af.rel (still_after n t (pc + 1) env regs env1 regs1 c1 k af st goes))

  load_still : (x : Const) (n t line pc opened : ℕ) (s : tree.State) (env regs : List Value) (c : Captured) (k : List Work)
      → Found S.code.own.constants x → step s ≡ gives (known (constant x)) (of_tree S pending env c) k → HasAt S pc (loads S.code.own.constants x t line) → pc + length (loads S.code.own.constants x t line) < length S.code.own.code
      → length env ≤ t → t < S.code.own.stack → Rel S.hidden S.code.own.stack pending env c regs → GoesStill n t env regs (pc + length (loads S.code.own.constants x t line)) k
      → Agree S n s (before (of_code S pending pc regs opened) c)
  load_still x n t line pc opened s env regs c k found e has inside le room rel goes =
      go_left S n s (tree.at (give (known (constant x) ∷ [])) (of_tree S pending env c) k) _ e
      (load_right S pending x t line n pc opened _ regs c found has inside (omega (arith, S.small)) (omega (arith, rel.room))
      (put_still n t (pc + length (loads S.code.own.constants x t line)) opened (known (constant x)) env regs c k le rel goes))

  integer_still : (z : ℤ) (b : Bool) (n line t pc opened : ℕ) (s : tree.State) (env regs : List Value) (c : Captured) (k : List Work)
      → is_small z ≡ b → step s ≡ gives (known (integer z)) (of_tree S pending env c) k → IsLoaded S.code.own.constants z → (code : List Coded) → code ≡ cond b (with_abx LoadI t (small_field z) line ∷ []) (loads S.code.own.constants (IntConst z) t line)
      → HasAt S pc code → pc + length code < length S.code.own.code → length env ≤ t → t < S.code.own.stack → Rel S.hidden S.code.own.stack pending env c regs
      → GoesStill n t env regs (pc + length code) k → Agree S n s (before (of_code S pending pc regs opened) c)
  integer_still z true n line t pc opened s env regs c k small_is e ok code is has inside le room rel goes =
      let size = ap length is in
      let here = subst (HasAt S pc) is has in
      let there = next_there S (pc + 1) (omega (arith, size, inside)) in
      go_left S n s (tree.at (give (known (integer z) ∷ [])) (of_tree S pending env c) k) _ e
      (go_right S n _ _ (before (of_code S pending (pc + 1) (write t (known (integer z)) regs) opened) c)
      (integer_step S.code (of_code S pending pc regs opened) c there.0 there.1 t z here.0 small_is (omega (arith, S.small)) (omega (arith, rel.room)))
      (put_still n t (pc + 1) opened (known (integer z)) env regs c k le rel (still_at n t _ _ env regs k (omega (arith, size)) goes)))
  integer_still z false n line t pc opened s env regs c k small_is e ok code is has inside le room rel goes =
      let size = ap length is in
      load_still (IntConst z) n t line pc opened s env regs c k (ok small_is) e (subst (HasAt S pc) is has) (omega (arith, size, inside)) le room rel
      (still_at n t _ (pc + length code) env regs k (omega (arith, size)) goes)

  -- what the code of a quiet expression does
  abbrev pub QuietSame : Exp → Type 0
  QuietSame e =
      (t j n pc opened : ℕ) (env regs : List Value) (c : Captured) (k : List Work)
      → n ≤ S.bound → HasAt S pc (exp_code S.code.own.constants e t j 2) → IsPlaced S e (length env) j → pc + length (exp_code S.code.own.constants e t j 2) < length S.code.own.code
      → length env ≤ t → t < S.code.own.stack → Rel S.hidden S.code.own.stack pending env c regs
      → GoesStill n t env regs (pc + length (exp_code S.code.own.constants e t j 2)) k
      → Agree S n (tree.at (evaluate e) (of_tree S pending env c) k) (before (of_code S pending pc regs opened) c)

  name_still : (place : Place) (text : List ℕ) (n line t pc opened : ℕ) (s : tree.State) (env regs : List Value) (c : Captured) (k : List Work)
      → is_near place ≡ true → step s ≡ reads_variable line text place (of_tree S pending env c) k → HasAt S pc (name_code S.code.own.constants place text t line) → NameIsPlaced S place text (length env)
      → pc + length (name_code S.code.own.constants place text t line) < length S.code.own.code → length env ≤ t → t < S.code.own.stack → Rel S.hidden S.code.own.stack pending env c regs
      → GoesStill n t env regs (pc + length (name_code S.code.own.constants place text t line)) k → Agree S n s (before (of_code S pending pc regs opened) c)
  name_still (LocalPlace m) text n line t pc opened s env regs c k near e has ok inside le room rel goes =
      let there = next_there S (pc + 1) inside in
      go_left S n s (tree.at (give (nth env m ∷ [])) (of_tree S pending env c) k) _ e
      (go_right S n _ _ (before (of_code S pending (pc + 1) (write t (nth env m) regs) opened) c)
      (move_step S.code (of_code S pending pc regs opened) c there.0 there.1 t m has.0 (omega (arith, room, S.small)) (omega (arith, ok, le, room, S.small)) (omega (arith, ok, rel.fits, rel.room)) (omega (arith, room, rel.room))
      ∙ ap (λ v. goes_on (before (of_code S pending (pc + 1) (write t v regs) opened) c)) (sym (rel.agree m ok)))
      (put_still n t (pc + 1) opened (nth env m) env regs c k le rel goes))
  name_still (Upvalue u) text n line t pc opened s env regs c k near e has ok inside le room rel goes =
      one_still S pending n s _ (reads_upvalue u) (reads_upvalue u) line pc opened t env regs c k give_first (to_register t (read 0)) [] e
      (upvalue_step S.code t u (of_code S pending pc regs opened) c has.0 (omega (arith, room, S.small)) ok)
      (λ m lt. refl) refl tt (λ reply fits. fits) rel (here_abc S GetUpval t u 0 false line pc [] has)
      (λ v env1 regs1 c1 af st. answer_still n t pc opened v env regs env1 regs1 c1 k inside le room af st goes)
  name_still Unset text n line t pc opened s env regs c k near e has ok inside le room rel goes = absurd (cc)
  name_still (GlobalIn m) text n line t pc opened s env regs c k near e has ok inside le room rel goes = absurd (cc)
  name_still (GlobalOf u) text n line t pc opened s env regs c k near e has ok inside le room rel goes = absurd (cc)

  -- `not` of a quiet expression
  not_still : (line : ℕ) (e : Exp) → QuietSame e → QuietSame (Unary line Negation e)
  not_still line e law t j n pc opened env regs c k bound has ok inside le room rel goes =
      go_left S n _ (tree.at (evaluate e) (of_tree S pending env c) (operand_of line Negation ∷ k)) _ refl (by (local_of e) refl has inside goes)
    where
      code : List Coded
      code = exp_code S.code.own.constants e t j 2

      last : ℕ → List Coded
      last x = with_abc Not t x 0 line ∷ []

      -- the operand stands in register x
      negates : (x place o1 : ℕ) (v : Value) (env1 regs1 : List Value) (c1 : Captured) → After S.hidden S.code.own.stack pending env regs t env1 regs1 c1 → Still env env1 → x < S.code.own.stack → nth regs1 x ≡ v
          → HasAt S place (last x) → place + 1 < length S.code.own.code → GoesStill n t env regs (place + 1) k
          → Agree S n (tree.at (give (v ∷ [])) (of_tree S pending env1 c1) (operand_of line Negation ∷ k)) (before (of_code S pending place regs1 o1) c1)
      negates x place o1 v env1 regs1 c1 af still x_room x_is here inside goes =
          let there = next_there S (place + 1) inside in
          let w = known (boolean (not (holds (shape v)))) in
          go_left S n _ (tree.at (give (w ∷ [])) (of_tree S pending env1 c1) k) _ refl
          (go_right S n _ _ (before (of_code S pending (place + 1) (write t w regs1) o1) c1)
          (not_step S.code (of_code S pending place regs1 o1) c1 there.0 there.1 t x here.0 (omega (arith, room, S.small)) (omega (arith, x_room, S.small)) (omega (arith, x_room, af.rel.room)) (omega (arith, room, af.rel.room))
          ∙ ap (λ y. goes_on (before (of_code S pending (place + 1) (write t (known (boolean (not (holds (shape y))))) regs1) o1) c1)) x_is)
          (put_still n t (place + 1) o1 w env1 regs1 c1 k (omega (arith, le, af.size)) af.rel (still_after n t (place + 1) env regs env1 regs1 c1 k af still goes)))

      by : (at : Option ℕ) → local_of e ≡ at → HasAt S pc (operand_code at code t last) → pc + length (operand_code at code t last) < length S.code.own.code → GoesStill n t env regs (pc + length (operand_code at code t last)) k
          → Agree S n (tree.at (evaluate e) (of_tree S pending env c) (operand_of line Negation ∷ k)) (before (of_code S pending pc regs opened) c)
      by (Some x) is has inside goes =
          let below = local_placed S e x (length env) j is ok in
          local_read S pending e x n env c (operand_of line Negation ∷ k) _ is
          (negates x pc opened (nth env x) env regs c (after_none S.hidden S.code.own.stack pending env regs c t rel) (λ r. refl) (omega (arith, below, rel.fits)) (sym (rel.agree x below)) has inside goes)
      by None is has inside goes =
          let sum = length-append code (last t) in
          law t j n pc opened env regs c (operand_of line Negation ∷ k) bound (has_front S pc code (last t) has) ok (omega (arith, inside, sum)) le room rel
          (λ v env1 regs1 c1 o1 af still eq. negates t (pc + length code) o1 v env1 regs1 c1 af still room eq (has_back S pc code (last t) has) (omega (arith, inside, sum))
          (still_at n t _ (pc + length (code ++ last t)) env regs k (omega (arith, sum)) goes))

  -- a quiet expression leaves all locals as they were
  pub quiet_same : (e : Exp) → is_quiet e ≡ true → QuietSame e
  quiet_same (Nil line) q t j n pc opened env regs c k bound has ok inside le room rel goes =
      let there = next_there S (pc + 1) inside in
      go_left S n _ (tree.at (give (known nil ∷ [])) (of_tree S pending env c) k) _ refl
      (go_right S n _ _ _ (nil_step S.code (of_code S pending pc regs opened) c there.0 there.1 t has.0 (omega (arith, S.small)) (omega (arith, rel.room))) (put_still n t (pc + 1) opened (known nil) env regs c k le rel goes))
  quiet_same (True line) q t j n pc opened env regs c k bound has ok inside le room rel goes =
      let there = next_there S (pc + 1) inside in
      go_left S n _ (tree.at (give (known (boolean true) ∷ [])) (of_tree S pending env c) k) _ refl
      (go_right S n _ _ _ (true_step S.code (of_code S pending pc regs opened) c there.0 there.1 t has.0 (omega (arith, S.small)) (omega (arith, rel.room))) (put_still n t (pc + 1) opened (known (boolean true)) env regs c k le rel goes))
  quiet_same (False line) q t j n pc opened env regs c k bound has ok inside le room rel goes =
      let there = next_there S (pc + 1) inside in
      go_left S n _ (tree.at (give (known (boolean false) ∷ [])) (of_tree S pending env c) k) _ refl
      (go_right S n _ _ _ (false_step S.code (of_code S pending pc regs opened) c there.0 there.1 t has.0 (omega (arith, S.small)) (omega (arith, rel.room))) (put_still n t (pc + 1) opened (known (boolean false)) env regs c k le rel goes))
  quiet_same (Int line z) q t j n pc opened env regs c k bound has ok inside le room rel goes = integer_still z (is_small z) n line t pc opened _ env regs c k refl refl ok _ refl has inside le room rel goes
  quiet_same (Str line bytes) q t j n pc opened env regs c k bound has ok inside le room rel goes = load_still (StrConst bytes) n t line pc opened _ env regs c k ok refl has inside le room rel goes
  quiet_same (Var line name) q t j n pc opened env regs c k bound has ok inside le room rel goes = name_still name.place name.text n line t pc opened _ env regs c k q refl has ok inside le room rel goes
  quiet_same (Function line body) q t j n pc opened env regs c k bound has ok inside le room rel goes =
      go_left S n _ (tree.at (capture (line_of_body body) (captured_locals (upvalues_of body)) (make body)) (of_tree S pending env c) k) _ refl
      (closure_still S pending n t j pc opened t body _ env regs c k refl has bound ok.0 ok.1 le room rel
      (λ v env1 regs1 c1 af st. answer_still n t pc opened v env regs env1 regs1 c1 k inside le room af st goes))
  quiet_same (Paren line e) q t j n pc opened env regs c k bound has ok inside le room rel goes =
      go_left S n _ (tree.at (evaluate e) (of_tree S pending env c) (first_only ∷ k)) _ refl
      (quiet_same e q t j n pc opened env regs c (first_only ∷ k) bound has ok inside le room rel
      (λ v env1 regs1 c1 o1 af st eq. go_left S n _ (tree.at (give (v ∷ [])) (of_tree S pending env1 c1) k) _ refl (goes v env1 regs1 c1 o1 af st eq)))
  quiet_same (Unary line Negation e) q t j n pc opened env regs c k bound has ok inside le room rel goes = not_still line e (quiet_same e q) t j n pc opened env regs c k bound has ok inside le room rel goes
  quiet_same _ q t j n pc opened env regs c k bound has ok inside le room rel goes = absurd (cc)
