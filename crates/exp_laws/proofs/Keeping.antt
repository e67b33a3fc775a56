-- The first operand of `and` or `or`, whose value is kept in register t where its truth is k: both come then to the place that the jumps lead to, and else to the
-- place behind the code. The laws of the parts are given.
use Rattle.std.proofs.Common.{◌⊎◌, inl, inr, ◌≡◌, ℕ, ◌+◌, ◌<◌, ◌≤◌, max, Bool, true, false, cond, not, List, [], ◌∷◌, ◌++◌, length, Option, Some, None, refl, sym, ap, subst, ◌∙◌, arith, length-append}
use Rattle.int_core.specs.Value.{Value, known, boolean, nth, write, shape, holds, same_truth}
use Rattle.int_core.specs.Ask.{Captured, goes_on}
use Rattle.tree_core.specs.declared.operator.UnOp.{UnOp}
use Rattle.tree_core.specs.declared.operator.UnOp.TheVariants.{Not as Negation}
use Rattle.tree_core.specs.declared.operator.BinOp.{BinOp}
use Rattle.tree_core.specs.Tree.{Exp, Unary, Binary, And, Or, Paren}
use Rattle.tree_activation.specs.Work.{give, evaluate, Work, Pending, and_right, or_right, first_only}
use Rattle.tree_activation.specs.Work as tree
use Rattle.tree_activation.specs.Activation.{step}
use Rattle.tree_activation.specs.Asking.{first}
use Rattle.code_core.specs.declared.opcode.Opcode.TheVariants.{Jmp}
use Rattle.code_core.specs.Instruction.{op_ax}
use Rattle.code_core.specs.Check.{at}
use Rattle.machine_core.specs.Talk.{before, talk_step}
use Rattle.list_laws.proofs.Values.{nth_write_same}
use Rattle.code_of.specs.Coded.{Coded}
use Rattle.code_of.specs.Conditions.{test_code, keep_code}
use Rattle.code_of.specs.Expressions.{made_by, exp_code, kept_value}
use Rattle.code_of.specs.Operands.{local_of, seat, unless}
use Rattle.code_of.specs.Rooms.{room_of, room_of_test, room_of_keep}
use Rattle.code_of.specs.Truths.{line_of, set_if, load_truth}
use Rattle.exp_laws.specs.Setting.{Setting}
use Rattle.exp_laws.specs.Placed.{IsPlaced}
use Rattle.exp_laws.proofs.Registers.{Rel, After, after_none, after_then, after_put}
use Rattle.exp_laws.proofs.Talking.{Agree, go_left, go_right, of_tree, of_code}
use Rattle.exp_laws.proofs.Placing.{HasAt, has_front, has_back}
use Rattle.exp_laws.proofs.Steps.{true_step, false_step}
use Rattle.exp_laws.proofs.Comparisons.{Comparison}
use Rattle.exp_laws.proofs.Tests.{test_on, test_past, set_on, set_past, jump_step}
use Rattle.exp_laws.proofs.Going.{Goes, next_there, at_place}
use Rattle.exp_laws.proofs.Operands.{ExpSame, local_placed, local_read}
use Rattle.exp_laws.proofs.Rooms.{room_some}
use Rattle.exp_laws.proofs.TestForms.{Other, sort, GoesIf, if_at, if_after, if_first, TestSame, TruthSame, not_truth, compared_truth, truth_is, truth_not, same_cond, placed_still}

-- The work that waits for a first operand goes on with its value where whether its truth is q is b, and else with the second operand.
pub record Chooses (right : Work) (d : Exp) (q b : Bool) : Type 0 where
  pub gives : (vs : List Value) (a : tree.Activation) (w : List Work) → same_truth (holds (shape (first vs))) q ≡ b → step (tree.at (give vs) a (right ∷ w)) ≡ goes_on (tree.at (give (first vs ∷ [])) a w)
  pub goes : (vs : List Value) (a : tree.Activation) (w : List Work) → same_truth (holds (shape (first vs))) q ≡ not b → step (tree.at (give vs) a (right ∷ w)) ≡ goes_on (tree.at (evaluate d) a (first_only ∷ w))

module _ (S : Setting) (pending : List Pending) where
  -- the code at pc goes on as the work w does with values whose truth is k, where register t has the first one
  abbrev pub GoesKept : (n t : ℕ) → (env regs : List Value) → (pc : ℕ) → (w : List Work) → (k : Bool) → Type 0
  GoesKept n t env regs pc w k =
      (vs env' regs' : List Value) (c' : Captured) (opened' : ℕ) → After S.hidden S.code.own.stack pending env regs t env' regs' c' → nth regs' t ≡ first vs → same_truth (holds (shape (first vs))) k ≡ true
      → Agree S n (tree.at (give vs) (of_tree S pending env' c') w) (before (of_code S pending pc regs' opened') c')

  kept_after : (n t pc : ℕ) (env regs env1 regs1 : List Value) (c1 : Captured) (w : List Work) (k : Bool) → After S.hidden S.code.own.stack pending env regs t env1 regs1 c1 → GoesKept n t env regs pc w k → GoesKept n t env1 regs1 pc w k
  kept_after n t pc env regs env1 regs1 c1 w k af goes = λ vs env2 regs2 c2 o2 af2 eq is. goes vs env2 regs2 c2 o2 (after_then S.hidden S.code.own.stack pending env regs env1 regs1 env2 regs2 c1 c2 t t (omega arith) af af2) eq is

  kept_at : (n t pc pc' : ℕ) (env regs : List Value) (w : List Work) (k : Bool) → pc ≡ pc' → GoesKept n t env regs pc' w k → GoesKept n t env regs pc w k
  kept_at n t pc pc' env regs w k e goes = λ vs env2 regs2 c2 o2 af2 eq is. at_place S pending n pc pc' o2 _ regs2 c2 e (goes vs env2 regs2 c2 o2 af2 eq is)

  kept_first : (n t pc : ℕ) (env regs : List Value) (w : List Work) (k : Bool) → GoesKept n t env regs pc w k → GoesKept n t env regs pc (first_only ∷ w) k
  kept_first n t pc env regs w k goes = λ vs env2 regs2 c2 o2 af2 eq is. go_left S n _ (tree.at (give (first vs ∷ [])) (of_tree S pending env2 c2) w) _ refl (goes (first vs ∷ []) env2 regs2 c2 o2 af2 eq is)

  -- the value v stands in register t, or in that of a local
  set_goes : (at : Option ℕ) (k b : Bool) (t ahead line n pc opened : ℕ) (s : tree.State) (env regs : List Value) (c : Captured) (v : Value)
      → HasAt S pc (set_if at k ahead t line) → pc + 2 + ahead < length S.code.own.code → seat at t < S.code.own.stack → t < S.code.own.stack → length env ≤ t
      → Rel S.hidden S.code.own.stack pending env c regs → nth regs (seat at t) ≡ v → same_truth (holds (shape v)) k ≡ b
      → (b ≡ true → (regs' : List Value) → After S.hidden S.code.own.stack pending env regs t env regs' c → nth regs' t ≡ v → Agree S n s (before (of_code S pending (pc + 2 + ahead) regs' opened) c))
      → (b ≡ false → Agree S n s (before (of_code S pending (pc + 2) regs opened) c))
      → Agree S n s (before (of_code S pending pc regs opened) c)
  set_goes None k true t ahead line n pc opened s env regs c v has inside room t_room le rel eq is kept on =
      let far : pc + 1 + (ahead + 1) ≡ pc + 2 + ahead = omega arith in
      let there = next_there S (pc + 1 + (ahead + 1)) (omega (arith, inside)) in
      go_right S n s _ (before (of_code S pending (pc + 1) regs opened) c)
      (test_on S.code (of_code S pending pc regs opened) c t k (op_ax Jmp (16777215 + ahead)) has.0 (omega (arith, t_room, S.small)) (omega (arith, t_room, rel.room)) (ap (λ u. same_truth (holds (shape u)) k) eq ∙ is) has.1.1.0)
      (go_right S n s _ (before (of_code S pending (pc + 1 + (ahead + 1)) regs opened) c)
      (jump_step S.code (of_code S pending (pc + 1) regs opened) c ahead there.0 has.1.1.0 (omega (arith, inside, S.short)) there.1)
      (at_place S pending n (pc + 1 + (ahead + 1)) (pc + 2 + ahead) opened s regs c far (kept refl regs (after_none S.hidden S.code.own.stack pending env regs c t rel) eq)))
  set_goes None k false t ahead line n pc opened s env regs c v has inside room t_room le rel eq is kept on =
      let behind = next_there S (pc + 2) (omega (arith, inside)) in
      go_right S n s _ (before (of_code S pending (pc + 2) regs opened) c)
      (test_past S.code (of_code S pending pc regs opened) c t k behind.0 has.0 (omega (arith, t_room, S.small)) (omega (arith, t_room, rel.room)) (ap (λ u. same_truth (holds (shape u)) k) eq ∙ is) behind.1) (on refl)
  set_goes (Some x) k true t ahead line n pc opened s env regs c v has inside room t_room le rel eq is kept on =
      let far : pc + 1 + (ahead + 1) ≡ pc + 2 + ahead = omega arith in
      let there = next_there S (pc + 1 + (ahead + 1)) (omega (arith, inside)) in
      go_right S n s _ (before (of_code S pending (pc + 1) (write t v regs) opened) c)
      (set_on S.code (of_code S pending pc regs opened) c t x k (op_ax Jmp (16777215 + ahead)) has.0 (omega (arith, t_room, S.small)) (omega (arith, room, S.small)) (omega (arith, room, rel.room)) (omega (arith, t_room, rel.room))
      (ap (λ u. same_truth (holds (shape u)) k) eq ∙ is) has.1.1.0
      ∙ ap (λ u. goes_on (before (of_code S pending (pc + 1) (write t u regs) opened) c)) eq)
      (go_right S n s _ (before (of_code S pending (pc + 1 + (ahead + 1)) (write t v regs) opened) c)
      (jump_step S.code (of_code S pending (pc + 1) (write t v regs) opened) c ahead there.0 has.1.1.0 (omega (arith, inside, S.short)) there.1)
      (at_place S pending n (pc + 1 + (ahead + 1)) (pc + 2 + ahead) opened s (write t v regs) c far
      (kept refl (write t v regs) (after_put S.hidden S.code.own.stack pending env regs c t v le rel) (nth_write_same t v regs))))
  set_goes (Some x) k false t ahead line n pc opened s env regs c v has inside room t_room le rel eq is kept on =
      let behind = next_there S (pc + 2) (omega (arith, inside)) in
      go_right S n s _ (before (of_code S pending (pc + 2) regs opened) c)
      (set_past S.code (of_code S pending pc regs opened) c t x k behind.0 has.0 (omega (arith, t_room, S.small)) (omega (arith, room, S.small)) (omega (arith, room, rel.room)) (ap (λ u. same_truth (holds (shape u)) k) eq ∙ is) behind.1) (on refl)

  abbrev pub KeepSame : Exp → Type 0
  KeepSame e =
      (k : Bool) (ahead t j n pc opened : ℕ) (env regs : List Value) (c : Captured) (w : List Work)
      → n ≤ S.bound → HasAt S pc (keep_code S.code.own.constants e k ahead t j) → IsPlaced S e (length env) j → pc + length (keep_code S.code.own.constants e k ahead t j) + ahead < length S.code.own.code
      → length env ≤ t → t + room_of_keep S.code.own.constants e k ≤ S.code.own.stack → Rel S.hidden S.code.own.stack pending env c regs
      → GoesKept n t env regs (pc + length (keep_code S.code.own.constants e k ahead t j) + ahead) w k
      → GoesIf S pending n t env regs (pc + length (keep_code S.code.own.constants e k ahead t j)) w k false
      → Agree S n (tree.at (evaluate e) (of_tree S pending env c) w) (before (of_code S pending pc regs opened) c)

  -- an expression of which the value is made, or stays in the register of a local
  pub leaf_kept : (e : Exp) → ((k : Bool) (ahead t j : ℕ) → keep_code S.code.own.constants e k ahead t j ≡ kept_value e (exp_code S.code.own.constants e t j 2) k ahead t)
      → ((k : Bool) → room_of_keep S.code.own.constants e k ≡ room_of S.code.own.constants e 2) → ExpSame S pending e → KeepSame e
  leaf_kept e same few law k ahead t j n pc opened env regs c w bound has ok inside le room rel kept on =
      by (local_of e) refl (subst (HasAt S pc) (same k ahead t j) has) (ap length (same k ahead t j))
    where
      value : List Coded
      value = exp_code S.code.own.constants e t j 2

      end : ℕ
      end = pc + length (keep_code S.code.own.constants e k ahead t j)

      wide : t + room_of S.code.own.constants e 2 ≤ S.code.own.stack
      wide = let is = few k in omega (arith, room, is)

      some : 1 ≤ room_of S.code.own.constants e 2
      some = room_some S.code.own.constants e

      by : (at : Option ℕ) → local_of e ≡ at → HasAt S pc (unless at value ++ set_if at k ahead t (line_of e)) → length (keep_code S.code.own.constants e k ahead t j) ≡ length (unless at value ++ set_if at k ahead t (line_of e))
          → Agree S n (tree.at (evaluate e) (of_tree S pending env c) w) (before (of_code S pending pc regs opened) c)
      by None is here size =
          let last = set_if None k ahead t (line_of e) in
          let whole = length-append value last in
          law t j n pc opened env regs c w bound (has_front S pc value last here) ok (omega (arith, inside, size, whole)) le wide rel
          (λ vs env1 regs1 c1 o1 af eq given. set_goes None k (same_truth (holds (shape (first vs))) k) t ahead (line_of e) n (pc + length value) o1 _ env1 regs1 c1 (first vs) (has_back S pc value last here)
          (omega (arith, inside, size, whole)) (omega (arith, wide, some)) (omega (arith, wide, some)) (omega (arith, le, af.size)) af.rel eq refl
          (λ yes regs2 af2 eq2. at_place S pending n (pc + length value + 2 + ahead) (end + ahead) o1 _ regs2 c1 (omega (arith, size, whole))
          (kept vs env1 regs2 c1 o1 (after_then S.hidden S.code.own.stack pending env regs env1 regs1 env1 regs2 c1 c1 t t (omega arith) af af2) eq2 yes))
          (λ no. at_place S pending n (pc + length value + 2) end o1 _ regs1 c1 (omega (arith, size, whole)) (on vs env1 regs1 c1 o1 af no)))
      by (Some x) is here size =
          let below = local_placed S e x (length env) j is ok in
          local_read S pending e x n env c w _ is
          (set_goes (Some x) k (same_truth (holds (shape (nth env x))) k) t ahead (line_of e) n pc opened _ env regs c (nth env x) here
          (omega (arith, inside, size)) (omega (arith, below, rel.fits)) (omega (arith, wide, some)) le rel (sym (rel.agree x below)) refl
          (λ yes regs2 af2 eq2. at_place S pending n (pc + 2 + ahead) (end + ahead) opened _ regs2 c (omega (arith, size)) (kept (nth env x ∷ []) env regs2 c opened af2 eq2 yes))
          (λ no. at_place S pending n (pc + 2) end opened _ regs c (omega (arith, size)) (on (nth env x ∷ []) env regs c opened (after_none S.hidden S.code.own.stack pending env regs c t rel) no)))

  -- the truth k was loaded, and goes on where the jump leads
  loaded_goes : (k : Bool) (t ahead n pc opened : ℕ) (env regs : List Value) (c : Captured) (w : List Work)
      → talk_step S.code (before (of_code S pending pc regs opened) c) ≡ goes_on (before (of_code S pending (pc + 1) (write t (known (boolean k)) regs) opened) c) → at S.code (pc + 1) ≡ Some (op_ax Jmp (16777215 + ahead))
      → pc + 2 + ahead < length S.code.own.code → length env ≤ t → Rel S.hidden S.code.own.stack pending env c regs → same_truth k k ≡ true
      → GoesKept n t env regs (pc + 2 + ahead) w k → Agree S n (tree.at (give (known (boolean k) ∷ [])) (of_tree S pending env c) w) (before (of_code S pending pc regs opened) c)
  loaded_goes k t ahead n pc opened env regs c w loads jumps inside le rel is kept =
      let v = known (boolean k) in
      let far : pc + 1 + (ahead + 1) ≡ pc + 2 + ahead = omega arith in
      let there = next_there S (pc + 1 + (ahead + 1)) (omega (arith, inside)) in
      go_right S n _ _ (before (of_code S pending (pc + 1) (write t v regs) opened) c) loads
      (go_right S n _ _ (before (of_code S pending (pc + 1 + (ahead + 1)) (write t v regs) opened) c)
      (jump_step S.code (of_code S pending (pc + 1) (write t v regs) opened) c ahead there.0 jumps (omega (arith, inside, S.short)) there.1)
      (at_place S pending n (pc + 1 + (ahead + 1)) (pc + 2 + ahead) opened _ (write t v regs) c far
      (kept (v ∷ []) env (write t v regs) c opened (after_put S.hidden S.code.own.stack pending env regs c t v le rel) (nth_write_same t v regs) is)))

  -- a truth is loaded, and goes on where the jump leads
  load_goes : (k truth : Bool) (t ahead line n pc opened : ℕ) (env regs : List Value) (c : Captured) (w : List Work)
      → HasAt S pc (load_truth k ahead t line) → pc + 2 + ahead < length S.code.own.code → t < S.code.own.stack → length env ≤ t → Rel S.hidden S.code.own.stack pending env c regs → same_truth truth k ≡ true
      → GoesKept n t env regs (pc + 2 + ahead) w k → Agree S n (tree.at (give (known (boolean truth) ∷ [])) (of_tree S pending env c) w) (before (of_code S pending pc regs opened) c)
  load_goes true true t ahead line n pc opened env regs c w has inside t_room le rel is kept =
      loaded_goes true t ahead n pc opened env regs c w (true_step S.code (of_code S pending pc regs opened) c (op_ax Jmp (16777215 + ahead)) has.1.1.0 t has.0 (omega (arith, t_room, S.small)) (omega (arith, t_room, rel.room))) has.1.1.0 inside le rel is kept
  load_goes false false t ahead line n pc opened env regs c w has inside t_room le rel is kept =
      loaded_goes false t ahead n pc opened env regs c w (false_step S.code (of_code S pending pc regs opened) c (op_ax Jmp (16777215 + ahead)) has.1.1.0 t has.0 (omega (arith, t_room, S.small)) (omega (arith, t_room, rel.room))) has.1.1.0 inside le rel is kept
  load_goes true false t ahead line n pc opened env regs c w has inside t_room le rel is kept = absurd (cc)
  load_goes false true t ahead line n pc opened env regs c w has inside t_room le rel is kept = absurd (cc)

  -- a comparison or `not`: the condition, which leads past what loads its truth
  truth_kept : (e : Exp) → ((k : Bool) (ahead t j : ℕ) → keep_code S.code.own.constants e k ahead t j ≡ test_code S.code.own.constants e k 2 t j ++ load_truth k ahead t (line_of e))
      → ((k : Bool) → room_of_keep S.code.own.constants e k ≡ max (room_of_test S.code.own.constants e) 1) → TruthSame S pending e → KeepSame e
  truth_kept e same few law k ahead t j n pc opened env regs c w bound has ok inside le room rel kept on =
      let front = test_code S.code.own.constants e k 2 t j in
      let last = load_truth k ahead t (line_of e) in
      let is = same k ahead t j in
      let size = ap length is in
      let wide = few k in
      let whole = length-append front last in
      let here = subst (HasAt S pc) is has in
      law k 2 t j n pc opened env regs c w bound (has_front S pc front last here) ok (omega (arith, inside, size, whole)) le (omega (arith, room, wide)) rel
      (λ truth env1 regs1 c1 o1 af yes. load_goes k truth t ahead (line_of e) n (pc + length front) o1 env1 regs1 c1 w (has_back S pc front last here)
      (omega (arith, inside, size, whole)) (omega (arith, room, wide)) (omega (arith, le, af.size)) af.rel yes
      (kept_at n t _ _ env1 regs1 w k (omega (arith, size, whole)) (kept_after n t _ env regs env1 regs1 c1 w k af kept)))
      (λ truth env1 regs1 c1 o1 af no. at_place S pending n (pc + length front + 2) (pc + length (keep_code S.code.own.constants e k ahead t j)) o1 _ regs1 c1 (omega (arith, size, whole))
      (on (known (boolean truth) ∷ []) env1 regs1 c1 o1 af no))

  pub unary_kept : (line : ℕ) (op : UnOp) (e : Exp) → ExpSame S pending (Unary line op e) → TestSame S pending e → KeepSame (Unary line op e)
  unary_kept line Negation e value law = truth_kept (Unary line Negation e) (λ q ahead t j. refl) (λ q. refl) (not_truth S pending line e law)
  unary_kept line op e value law = leaf_kept (Unary line op e) (λ q ahead t j. refl) (λ q. refl) value

  pub binary_kept : (line : ℕ) (op : BinOp) (e d : Exp) → ExpSame S pending (Binary line op e d) → ExpSame S pending e → ExpSame S pending d → KeepSame (Binary line op e d)
  binary_kept line op e d value law_e law_d = by (sort op)
    where
      loaded : (k : Bool) → (ahead t j : ℕ) → List Coded
      loaded k ahead t j = test_code S.code.own.constants (Binary line op e d) k 2 t j ++ load_truth k ahead t line

      made : (k : Bool) → (ahead t j : ℕ) → List Coded
      made k ahead t j = kept_value (Binary line op e d) (exp_code S.code.own.constants (Binary line op e d) t j 2) k ahead t

      by : Comparison op ⊎ Other op → KeepSame (Binary line op e d)
      by (inl f) =
          truth_kept (Binary line op e d) (λ q ahead t j. ap (λ b. cond b (loaded q ahead t j) (made q ahead t j)) f.compares_so)
          (λ q. ap (λ b. cond b (max (room_of_test S.code.own.constants (Binary line op e d)) 1) (room_of S.code.own.constants (Binary line op e d) 2)) f.compares_so)
          (compared_truth S pending line op e d f law_e law_d)
      by (inr f) =
          leaf_kept (Binary line op e d) (λ q ahead t j. ap (λ b. cond b (loaded q ahead t j) (made q ahead t j)) f.compares_not)
          (λ q. ap (λ b. cond b (max (room_of_test S.code.own.constants (Binary line op e d)) 1) (room_of S.code.own.constants (Binary line op e d) 2)) f.compares_not) value

  pub paren_kept : (line : ℕ) (e : Exp) → KeepSame e → KeepSame (Paren line e)
  paren_kept line e law k ahead t j n pc opened env regs c w bound has ok inside le room rel kept on =
      go_left S n _ (tree.at (evaluate e) (of_tree S pending env c) (first_only ∷ w)) _ refl
      (law k ahead t j n pc opened env regs c (first_only ∷ w) bound has ok inside le room rel (kept_first n t _ env regs w k kept) (if_first S pending n t _ env regs w k false on))

  -- how the work that waits for the first operand of `and`, or of `or`, chooses

  pub and_keeps : (d : Exp) → Chooses (and_right d) d false true
  and_keeps d = record { gives = λ vs a w is. same_cond (holds (shape (first vs))) false _ _ (truth_not S pending _ true is); goes = λ vs a w is. same_cond (holds (shape (first vs))) true _ _ (truth_not S pending _ false is) }

  and_tests : (d : Exp) → Chooses (and_right d) d true false
  and_tests d = record { gives = λ vs a w is. same_cond (holds (shape (first vs))) false _ _ (truth_is S pending _ false is); goes = λ vs a w is. same_cond (holds (shape (first vs))) true _ _ (truth_is S pending _ true is) }

  pub or_keeps : (d : Exp) → Chooses (or_right d) d true true
  or_keeps d = record { gives = λ vs a w is. same_cond (holds (shape (first vs))) true _ _ (truth_is S pending _ true is); goes = λ vs a w is. same_cond (holds (shape (first vs))) false _ _ (truth_is S pending _ false is) }

  or_tests : (d : Exp) → Chooses (or_right d) d false false
  or_tests d = record { gives = λ vs a w is. same_cond (holds (shape (first vs))) true _ _ (truth_not S pending _ false is); goes = λ vs a w is. same_cond (holds (shape (first vs))) false _ _ (truth_not S pending _ true is) }

  -- a value of the first operand is kept where it decides and its truth is k; where its truth is not k, it is only tested

  abbrev both_code : (e d : Exp) (k : Bool) (ahead t j : ℕ) → List Coded
  both_code e d k ahead t j =
      keep_code S.code.own.constants e k (length (keep_code S.code.own.constants d k ahead t (j + made_by e)) + ahead) t j ++ keep_code S.code.own.constants d k ahead t (j + made_by e)

  both_kept : (right : Work) (e d : Exp) (k : Bool) → Chooses right d k true → KeepSame e → KeepSame d → (ahead t j n pc opened : ℕ) (env regs : List Value) (c : Captured) (w : List Work)
      → n ≤ S.bound → HasAt S pc (both_code e d k ahead t j) → IsPlaced S e (length env) j → IsPlaced S d (length env) (j + made_by e) → pc + length (both_code e d k ahead t j) + ahead < length S.code.own.code
      → length env ≤ t → t + room_of_keep S.code.own.constants e k ≤ S.code.own.stack → t + room_of_keep S.code.own.constants d k ≤ S.code.own.stack → Rel S.hidden S.code.own.stack pending env c regs
      → GoesKept n t env regs (pc + length (both_code e d k ahead t j) + ahead) w k
      → GoesIf S pending n t env regs (pc + length (both_code e d k ahead t j)) w k false
      → Agree S n (tree.at (evaluate e) (of_tree S pending env c) (right ∷ w)) (before (of_code S pending pc regs opened) c)
  both_kept right e d k chooses keep_e keep_d ahead t j n pc opened env regs c w bound has e_ok d_ok inside le e_room d_room rel kept on =
      let second = keep_code S.code.own.constants d k ahead t (j + made_by e) in
      let front = keep_code S.code.own.constants e k (length second + ahead) t j in
      let whole = length-append front second in
      keep_e k (length second + ahead) t j n pc opened env regs c (right ∷ w) bound (has_front S pc front second has) e_ok (omega (arith, inside, whole)) le e_room rel
      (λ vs env1 regs1 c1 o1 af eq is. go_left S n _ (tree.at (give (first vs ∷ [])) (of_tree S pending env1 c1) w) _ (chooses.gives vs (of_tree S pending env1 c1) w is)
      (at_place S pending n _ (pc + length (front ++ second) + ahead) o1 _ regs1 c1 (omega (arith, whole)) (kept (first vs ∷ []) env1 regs1 c1 o1 af eq is)))
      (λ vs env1 regs1 c1 o1 af is. go_left S n _ (tree.at (evaluate d) (of_tree S pending env1 c1) (first_only ∷ w)) _ (chooses.goes vs (of_tree S pending env1 c1) w is)
      (keep_d k ahead t (j + made_by e) n (pc + length front) o1 env1 regs1 c1 (first_only ∷ w) bound (has_back S pc front second has) (placed_still S pending d _ _ _ af.size d_ok) (omega (arith, inside, whole)) (omega (arith, le, af.size)) d_room af.rel
      (kept_first n t _ env1 regs1 w k (kept_at n t _ _ env1 regs1 w k (omega (arith, whole)) (kept_after n t _ env regs env1 regs1 c1 w k af kept)))
      (if_first S pending n t _ env1 regs1 w k false (if_at S pending n t _ _ env1 regs1 w k false (omega (arith, whole)) (if_after S pending n t _ env regs env1 regs1 c1 w k false af on)))))

  abbrev second_code : (e d : Exp) (k : Bool) (ahead t j : ℕ) → List Coded
  second_code e d k ahead t j =
      test_code S.code.own.constants e k (length (keep_code S.code.own.constants d k ahead t (j + made_by e))) t j ++ keep_code S.code.own.constants d k ahead t (j + made_by e)

  second_kept : (right : Work) (e d : Exp) (k : Bool) → Chooses right d k false → TestSame S pending e → KeepSame d → (ahead t j n pc opened : ℕ) (env regs : List Value) (c : Captured) (w : List Work)
      → n ≤ S.bound → HasAt S pc (second_code e d k ahead t j) → IsPlaced S e (length env) j → IsPlaced S d (length env) (j + made_by e) → pc + length (second_code e d k ahead t j) + ahead < length S.code.own.code
      → length env ≤ t → t + room_of_test S.code.own.constants e ≤ S.code.own.stack → t + room_of_keep S.code.own.constants d k ≤ S.code.own.stack → Rel S.hidden S.code.own.stack pending env c regs
      → GoesKept n t env regs (pc + length (second_code e d k ahead t j) + ahead) w k
      → GoesIf S pending n t env regs (pc + length (second_code e d k ahead t j)) w k false
      → Agree S n (tree.at (evaluate e) (of_tree S pending env c) (right ∷ w)) (before (of_code S pending pc regs opened) c)
  second_kept right e d k chooses test_e keep_d ahead t j n pc opened env regs c w bound has e_ok d_ok inside le e_room d_room rel kept on =
      let second = keep_code S.code.own.constants d k ahead t (j + made_by e) in
      let front = test_code S.code.own.constants e k (length second) t j in
      let whole = length-append front second in
      test_e k (length second) t j n pc opened env regs c (right ∷ w) bound (has_front S pc front second has) e_ok (omega (arith, inside, whole)) le e_room rel
      (λ vs env1 regs1 c1 o1 af is. go_left S n _ (tree.at (evaluate d) (of_tree S pending env1 c1) (first_only ∷ w)) _ (chooses.goes vs (of_tree S pending env1 c1) w is)
      (keep_d k ahead t (j + made_by e) n (pc + length front) o1 env1 regs1 c1 (first_only ∷ w) bound (has_back S pc front second has) (placed_still S pending d _ _ _ af.size d_ok) (omega (arith, inside, whole)) (omega (arith, le, af.size)) d_room af.rel
      (kept_first n t _ env1 regs1 w k (kept_at n t _ _ env1 regs1 w k (omega (arith, whole)) (kept_after n t _ env regs env1 regs1 c1 w k af kept)))
      (if_first S pending n t _ env1 regs1 w k false (if_at S pending n t _ _ env1 regs1 w k false (omega (arith, whole)) (if_after S pending n t _ env regs env1 regs1 c1 w k false af on)))))
      (λ vs env1 regs1 c1 o1 af is. go_left S n _ (tree.at (give (first vs ∷ [])) (of_tree S pending env1 c1) w) _ (chooses.gives vs (of_tree S pending env1 c1) w is)
      (at_place S pending n _ (pc + length (front ++ second)) o1 _ regs1 c1 (omega (arith, whole)) (on (first vs ∷ []) env1 regs1 c1 o1 af is)))

  pub and_kept : (line : ℕ) (e d : Exp) → TestSame S pending e → KeepSame e → KeepSame d → KeepSame (And line e d)
  and_kept line e d test_e keep_e keep_d false ahead t j n pc opened env regs c w bound has ok inside le room rel kept on =
      go_left S n _ (tree.at (evaluate e) (of_tree S pending env c) (and_right d ∷ w)) _ refl (both_kept (and_right d) e d false (and_keeps d) keep_e keep_d ahead t j n pc opened env regs c w bound has ok.0 ok.1 inside le (omega (arith, room)) (omega (arith, room)) rel kept on)
  and_kept line e d test_e keep_e keep_d true ahead t j n pc opened env regs c w bound has ok inside le room rel kept on =
      go_left S n _ (tree.at (evaluate e) (of_tree S pending env c) (and_right d ∷ w)) _ refl (second_kept (and_right d) e d true (and_tests d) test_e keep_d ahead t j n pc opened env regs c w bound has ok.0 ok.1 inside le (omega (arith, room)) (omega (arith, room)) rel kept on)

  pub or_kept : (line : ℕ) (e d : Exp) → TestSame S pending e → KeepSame e → KeepSame d → KeepSame (Or line e d)
  or_kept line e d test_e keep_e keep_d false ahead t j n pc opened env regs c w bound has ok inside le room rel kept on =
      go_left S n _ (tree.at (evaluate e) (of_tree S pending env c) (or_right d ∷ w)) _ refl (second_kept (or_right d) e d false (or_tests d) test_e keep_d ahead t j n pc opened env regs c w bound has ok.0 ok.1 inside le (omega (arith, room)) (omega (arith, room)) rel kept on)
  or_kept line e d test_e keep_e keep_d true ahead t j n pc opened env regs c w bound has ok inside le room rel kept on =
      go_left S n _ (tree.at (evaluate e) (of_tree S pending env c) (or_right d ∷ w)) _ refl (both_kept (or_right d) e d true (or_keeps d) keep_e keep_d ahead t j n pc opened env regs c w bound has ok.0 ok.1 inside le (omega (arith, room)) (omega (arith, room)) rel kept on)

  -- `and` and `or` themselves, of which one value is wanted

  abbrev pub either_code : (e d : Exp) (k : Bool) (t j : ℕ) → List Coded
  either_code e d k t j = keep_code S.code.own.constants e k (length (exp_code S.code.own.constants d t (j + made_by e) 2)) t j ++ exp_code S.code.own.constants d t (j + made_by e) 2

  pub either_same : (right : Work) (e d : Exp) (k : Bool) → Chooses right d k true → KeepSame e → ExpSame S pending d → (t j n pc opened : ℕ) (env regs : List Value) (c : Captured) (w : List Work)
      → n ≤ S.bound → HasAt S pc (either_code e d k t j) → IsPlaced S e (length env) j → IsPlaced S d (length env) (j + made_by e) → pc + length (either_code e d k t j) < length S.code.own.code
      → length env ≤ t → t + room_of_keep S.code.own.constants e k ≤ S.code.own.stack → t + room_of S.code.own.constants d 2 ≤ S.code.own.stack → Rel S.hidden S.code.own.stack pending env c regs
      → Goes S pending n false t env regs (pc + length (either_code e d k t j)) w
      → Agree S n (tree.at (evaluate e) (of_tree S pending env c) (right ∷ w)) (before (of_code S pending pc regs opened) c)
  either_same right e d k chooses keep_e law_d t j n pc opened env regs c w bound has e_ok d_ok inside le e_room d_room rel goes =
      let second = exp_code S.code.own.constants d t (j + made_by e) 2 in
      let front = keep_code S.code.own.constants e k (length second) t j in
      let whole = length-append front second in
      keep_e k (length second) t j n pc opened env regs c (right ∷ w) bound (has_front S pc front second has) e_ok (omega (arith, inside, whole)) le e_room rel
      (λ vs env1 regs1 c1 o1 af eq is. go_left S n _ (tree.at (give (first vs ∷ [])) (of_tree S pending env1 c1) w) _ (chooses.gives vs (of_tree S pending env1 c1) w is)
      (at_place S pending n (pc + length front + length second) (pc + length (front ++ second)) o1 _ regs1 c1 (omega (arith, whole)) (goes (first vs ∷ []) env1 regs1 c1 o1 af eq refl)))
      (λ vs env1 regs1 c1 o1 af is. go_left S n _ (tree.at (evaluate d) (of_tree S pending env1 c1) (first_only ∷ w)) _ (chooses.goes vs (of_tree S pending env1 c1) w is)
      (law_d t (j + made_by e) n (pc + length front) o1 env1 regs1 c1 (first_only ∷ w) bound (has_back S pc front second has) (placed_still S pending d _ _ _ af.size d_ok) (omega (arith, inside, whole)) (omega (arith, le, af.size)) d_room af.rel
      (λ ws env2 regs2 c2 o2 af2 eq2 one2. go_left S n _ (tree.at (give (first ws ∷ [])) (of_tree S pending env2 c2) w) _ refl
      (at_place S pending n (pc + length front + length second) (pc + length (front ++ second)) o2 _ regs2 c2 (omega (arith, whole))
      (goes (first ws ∷ []) env2 regs2 c2 o2 (after_then S.hidden S.code.own.stack pending env regs env1 regs1 env2 regs2 c1 c2 t t (omega arith) af af2) eq2 refl)))))
