-- What code goes on with once an expression has its value, and how single instructions lead there.
use Rattle.std.proofs.Common.{◌≡◌, ℕ, zero, suc, ◌+◌, ◌<◌, ◌≤◌, Bool, true, false, List, [], ◌∷◌, length, get_or, Some, refl, sym, ap, subst, arith}
use Rattle.std.proofs.lemmas.Option.{slice_get-get_or}
use Rattle.int_core.specs.Value.{Value, nth, write}
use Rattle.int_core.specs.Operations.{Operation}
use Rattle.int_core.specs.Ask.{operates, Reply, Captured, goes_on}
use Rattle.tree_activation.specs.Work.{give, Work, Pending}
use Rattle.tree_activation.specs.Work as tree
use Rattle.tree_activation.specs.Activation.{step}
use Rattle.tree_activation.specs.Asking.{first, asks}
use Rattle.tree_activation.specs.Expressions.{gives, give_first}
use Rattle.code_core.specs.declared.instruction.Instruction.{Instruction}
use Rattle.code_core.specs.Check.{at, mark, open_from}
use Rattle.machine_core.specs.World.{Wait, for_value}
use Rattle.machine_core.specs.Text.{read}
use Rattle.machine_core.specs.InstructionRows.{rest_at, to_register, told_values}
use Rattle.machine_core.specs.Talk as code
use Rattle.machine_core.specs.Talk.{before, amid, talk_step, says_so, heard}
use Rattle.list_laws.proofs.Values.{nth_write_same}
use Rattle.code_of.specs.Coded.{Coded}
use Rattle.exp_laws.proofs.Registers.{Rel, After, after_none, after_then, after_put}
use Rattle.exp_laws.specs.Setting.{Setting}
use Rattle.exp_laws.proofs.Talking.{Here, Agree, go_left, go_right, of_tree, of_code}
use Rattle.exp_laws.proofs.Placing.{HasAt}
use Rattle.exp_laws.proofs.Lists.{Holds}
use Rattle.exp_laws.proofs.Asking.{asks_alike}
use Rattle.exp_laws.proofs.Steps.{to_register_step}

-- an expression that is no call and no `...` gives one value
abbrev pub Given : (many : Bool) → List Value → Type 0
Given true vs = Unit {0}
Given false vs = vs ≡ first vs ∷ []

module _ (S : Setting) where
  -- what a call or `...` with this field C leaves in front of a place: all its values as an open list from register t on, or so many of them
  abbrev pub Filled : (field pc t : ℕ) → (vs regs : List Value) → (opened : ℕ) → Type 0
  Filled zero pc t vs regs opened = (mark S.code pc ≡ open_from t) × ((opened ≡ length vs) × ((t + length vs ≤ length regs) × Holds t (length vs) vs regs))
  Filled (suc count) pc t vs regs opened = Holds t count vs regs

  pub next_there : (pc : ℕ) → pc < length S.code.own.code → (w : Instruction) × (at S.code pc ≡ Some w)
  next_there pc h = (get_or S.code.own.code pc (record { 0 = 0 }), slice_get-get_or S.code.own.code pc (record { 0 = 0 }) h)

module _ (S : Setting) (pending : List Pending) where
  -- the code at pc goes on as the work k does with the values of an expression, where register t has the first one
  abbrev pub Goes : (n : ℕ) → (many : Bool) → (t : ℕ) → (env regs : List Value) → (pc : ℕ) → (k : List Work) → Type 0
  Goes n many t env regs pc k =
      (vs env' regs' : List Value) (c' : Captured) (opened' : ℕ) → After S.hidden S.code.own.stack pending env regs t env' regs' c' → nth regs' t ≡ first vs → Given many vs
      → Agree S n (tree.at (give vs) (of_tree S pending env' c') k) (before (of_code S pending pc regs' opened') c')

  -- Code goes on, once register t has got the first value, where the registers from f on are free. Until then the registers were like the locals: so t
  -- may be the register of a local, which has its old value in the tree
  abbrev pub GoesInto : (n : ℕ) → (many : Bool) → (t f : ℕ) → (env regs : List Value) → (pc : ℕ) → (k : List Work) → Type 0
  GoesInto n many t f env regs pc k =
      (vs env' regs' : List Value) (c' : Captured) (opened' : ℕ) → After S.hidden S.code.own.stack pending env regs f env' regs' c' → Given many vs
      → Agree S n (tree.at (give vs) (of_tree S pending env' c') k) (before (of_code S pending pc (write t (first vs) regs') opened') c')

  -- the like for a call or `...` with this field C
  abbrev pub GoesFilled : (n field t : ℕ) → (env regs : List Value) → (pc : ℕ) → (k : List Work) → Type 0
  GoesFilled n field t env regs pc k =
      (vs env' regs' : List Value) (c' : Captured) (opened' : ℕ) → After S.hidden S.code.own.stack pending env regs t env' regs' c' → Filled S field pc t vs regs' opened'
      → Agree S n (tree.at (give vs) (of_tree S pending env' c') k) (before (of_code S pending pc regs' opened') c')

  pub given_one : (many : Bool) (v : Value) → Given many (v ∷ [])
  given_one true v = tt
  given_one false v = refl

  pub put_goes : (n : ℕ) (many : Bool) (t pc opened : ℕ) (v : Value) (env regs : List Value) (c : Captured) (k : List Work) → length env ≤ t → Rel S.hidden S.code.own.stack pending env c regs → Goes n many t env regs pc k
      → Agree S n (tree.at (give (v ∷ [])) (of_tree S pending env c) k) (before (of_code S pending pc (write t v regs) opened) c)
  put_goes n many t pc opened v env regs c k le rel goes = goes (v ∷ []) env (write t v regs) c opened (after_put S.hidden S.code.own.stack pending env regs c t v le rel) (nth_write_same t v regs) (given_one many v)

  pub at_place : (n pc pc' opened : ℕ) (s : tree.State) (regs : List Value) (c : Captured) → pc ≡ pc' → Agree S n s (before (of_code S pending pc' regs opened) c) → Agree S n s (before (of_code S pending pc regs opened) c)
  at_place n pc pc' opened s regs c e h = subst (λ q. Agree S n s (before (of_code S pending q regs opened) c)) (sym e) h

  pub goes_at : (n : ℕ) (many : Bool) (t pc pc' : ℕ) (env regs : List Value) (k : List Work) → pc ≡ pc' → Goes n many t env regs pc' k → Goes n many t env regs pc k
  goes_at n many t pc pc' env regs k e h = λ vs env' regs' c' opened' af eq one. at_place n pc pc' opened' _ regs' c' e (h vs env' regs' c' opened' af eq one)

  -- code goes on from a later state as it does from an earlier one
  pub goes_after : (n : ℕ) (many : Bool) (t pc : ℕ) (env regs env1 regs1 : List Value) (c1 : Captured) (k : List Work) → After S.hidden S.code.own.stack pending env regs t env1 regs1 c1 → Goes n many t env regs pc k → Goes n many t env1 regs1 pc k
  goes_after n many t pc env regs env1 regs1 c1 k af goes = λ vs env2 regs2 c2 o2 af2 eq one. goes vs env2 regs2 c2 o2 (after_then S.hidden S.code.own.stack pending env regs env1 regs1 env2 regs2 c1 c2 t t (omega arith) af af2) eq one

  -- a register above the locals
  pub into_goes : (n : ℕ) (many : Bool) (t pc : ℕ) (env regs : List Value) (k : List Work) → length env ≤ t → Goes n many t env regs pc k → GoesInto n many t t env regs pc k
  into_goes n many t pc env regs k le goes = λ vs env1 regs1 c1 o1 af one.
      let put = after_put S.hidden S.code.own.stack pending env1 regs1 c1 t (first vs) (omega (arith, le, af.size)) af.rel in
      goes vs env1 (write t (first vs) regs1) c1 o1 (after_then S.hidden S.code.own.stack pending env regs env1 regs1 env1 (write t (first vs) regs1) c1 c1 t t (omega arith) af put) (nth_write_same t (first vs) regs1) one

  pub into_at : (n : ℕ) (many : Bool) (t f pc pc' : ℕ) (env regs : List Value) (k : List Work) → pc ≡ pc' → GoesInto n many t f env regs pc' k → GoesInto n many t f env regs pc k
  into_at n many t f pc pc' env regs k e h = λ vs env' regs' c' opened' af one. at_place n pc pc' opened' _ (write t (first vs) regs') c' e (h vs env' regs' c' opened' af one)

  pub into_after : (n : ℕ) (many : Bool) (t f pc : ℕ) (env regs env1 regs1 : List Value) (c1 : Captured) (k : List Work) → After S.hidden S.code.own.stack pending env regs f env1 regs1 c1 → GoesInto n many t f env regs pc k → GoesInto n many t f env1 regs1 pc k
  into_after n many t f pc env regs env1 regs1 c1 k af goes = λ vs env2 regs2 c2 o2 af2 one. goes vs env2 regs2 c2 o2 (after_then S.hidden S.code.own.stack pending env regs env1 regs1 env2 regs2 c1 c2 f f (omega arith) af af2) one

  pub put_into : (n : ℕ) (many : Bool) (t f pc opened : ℕ) (v : Value) (env regs : List Value) (c : Captured) (k : List Work) → Rel S.hidden S.code.own.stack pending env c regs → GoesInto n many t f env regs pc k
      → Agree S n (tree.at (give (v ∷ [])) (of_tree S pending env c) k) (before (of_code S pending pc (write t v regs) opened) c)
  put_into n many t f pc opened v env regs c k rel goes = goes (v ∷ []) env regs c opened (after_none S.hidden S.code.own.stack pending env regs c f rel) (given_one many v)

  -- the first value of an answer goes to register t
  pub answer_into : (n : ℕ) (many : Bool) (t f pc opened : ℕ) (ws env regs env1 regs1 : List Value) (c1 : Captured) (k : List Work) → pc + 1 < length S.code.own.code → t < S.code.own.stack
      → After S.hidden S.code.own.stack pending env regs f env1 regs1 c1 → GoesInto n many t f env regs (pc + 1) k
      → Agree S n (tree.at (give_first ws) (of_tree S pending env1 c1) k) (amid (to_register t (read 0)) ws (of_code S pending pc regs1 opened) c1)
  answer_into n many t f pc opened ws env regs env1 regs1 c1 k inside room af goes =
      let there = next_there S (pc + 1) inside in
      go_right S n _ _ (before (of_code S pending (pc + 1) (write t (first ws) regs1) opened) c1)
      (to_register_step S.code t (read 0) there.0 ws (of_code S pending pc regs1 opened) c1 (omega (arith, room, af.rel.room)) there.1)
      (goes (first ws ∷ []) env1 regs1 c1 opened af (given_one many (first ws)))

  pub answer_goes : (n : ℕ) (many : Bool) (t pc opened : ℕ) (ws env regs env1 regs1 : List Value) (c1 : Captured) (k : List Work) → pc + 1 < length S.code.own.code → length env ≤ t → t < S.code.own.stack
      → After S.hidden S.code.own.stack pending env regs t env1 regs1 c1 → Goes n many t env regs (pc + 1) k
      → Agree S n (tree.at (give_first ws) (of_tree S pending env1 c1) k) (amid (to_register t (read 0)) ws (of_code S pending pc regs1 opened) c1)
  answer_goes n many t pc opened ws env regs env1 regs1 c1 k inside le room af goes =
      answer_into n many t t pc opened ws env regs env1 regs1 c1 k inside room af (into_goes n many t (pc + 1) env regs k le goes)

  -- an operation whose value goes to register t
  pub operation_into : (wait : Wait Value) (told_so : (reply : Reply) → told_values wait reply ≡ told_values for_value reply) (operation : Operation) (xs : List Value) (n : ℕ) (many : Bool) (line t f pc opened : ℕ) (s : tree.State) (q : code.State) (env regs : List Value) (c : Captured) (k : List Work)
      → step s ≡ asks (operates operation xs) line (of_tree S pending env c) k give_first
      → talk_step S.code q ≡ says_so (operates operation xs) S.code (of_code S pending pc regs opened) c (λ x b d. heard wait S.code x b d)
      → rest_at {V = Value} wait S.code pc ≡ to_register t (read 0) → Here S pc line → pc + 1 < length S.code.own.code → t < S.code.own.stack → Rel S.hidden S.code.own.stack pending env c regs
      → GoesInto n many t f env regs (pc + 1) k → Agree S n s q
  operation_into wait told_so operation xs n many line t f pc opened s q env regs c k e d comes here inside room rel goes =
      asks_alike S pending n wait told_so s q (operates operation xs) (operates operation xs) line pc opened f env regs c k give_first e d (λ m. (refl, refl)) refl rel here
      (λ ws env1 regs1 c1 af. subst (λ x. Agree S n (tree.at (give_first ws) (of_tree S pending env1 c1) k) (amid x ws (of_code S pending pc regs1 opened) c1)) (sym comes)
      (answer_into n many t f pc opened ws env regs env1 regs1 c1 k inside room af goes))

  pub operation_goes : (wait : Wait Value) (told_so : (reply : Reply) → told_values wait reply ≡ told_values for_value reply) (operation : Operation) (xs : List Value) (n : ℕ) (many : Bool) (line t pc opened : ℕ) (s : tree.State) (q : code.State) (env regs : List Value) (c : Captured) (k : List Work)
      → step s ≡ asks (operates operation xs) line (of_tree S pending env c) k give_first
      → talk_step S.code q ≡ says_so (operates operation xs) S.code (of_code S pending pc regs opened) c (λ x b d. heard wait S.code x b d)
      → rest_at {V = Value} wait S.code pc ≡ to_register t (read 0) → Here S pc line → pc + 1 < length S.code.own.code → length env ≤ t → t < S.code.own.stack → Rel S.hidden S.code.own.stack pending env c regs
      → Goes n many t env regs (pc + 1) k → Agree S n s q
  operation_goes wait told_so operation xs n many line t pc opened s q env regs c k e d comes here inside le room rel goes =
      operation_into wait told_so operation xs n many line t t pc opened s q env regs c k e d comes here inside room rel (into_goes n many t (pc + 1) env regs k le goes)

  -- an instruction that writes a value to register t
  pub one_into : (i : Coded) (code : List Coded) (v : Value) (n : ℕ) (many : Bool) (t f pc opened : ℕ) (s : tree.State) (env regs : List Value) (c : Captured) (k : List Work)
      → code ≡ i ∷ [] → step s ≡ gives v (of_tree S pending env c) k → HasAt S pc code → pc + length code < length S.code.own.code → Rel S.hidden S.code.own.stack pending env c regs
      → (at S.code pc ≡ Some i.0 → (w : Instruction) → at S.code (pc + 1) ≡ Some w
      → talk_step S.code (before (of_code S pending pc regs opened) c) ≡ goes_on (before (of_code S pending (pc + 1) (write t v regs) opened) c))
      → GoesInto n many t f env regs (pc + length code) k → Agree S n s (before (of_code S pending pc regs opened) c)
  one_into i code v n many t f pc opened s env regs c k is e has inside rel moves goes =
      let size = ap length is in
      let here = subst (HasAt S pc) is has in
      let there = next_there S (pc + 1) (omega (arith, size)) in
      go_left S n s (tree.at (give (v ∷ [])) (of_tree S pending env c) k) _ e
      (go_right S n _ _ (before (of_code S pending (pc + 1) (write t v regs) opened) c) (moves here.0 there.0 there.1)
      (put_into n many t f (pc + 1) opened v env regs c k rel (into_at n many t f (pc + 1) (pc + length code) env regs k (omega (arith, size)) goes)))

  pub one_goes : (i : Coded) (code : List Coded) (v : Value) (n : ℕ) (many : Bool) (t pc opened : ℕ) (s : tree.State) (env regs : List Value) (c : Captured) (k : List Work)
      → code ≡ i ∷ [] → step s ≡ gives v (of_tree S pending env c) k → HasAt S pc code → pc + length code < length S.code.own.code → length env ≤ t → Rel S.hidden S.code.own.stack pending env c regs
      → (at S.code pc ≡ Some i.0 → (w : Instruction) → at S.code (pc + 1) ≡ Some w
      → talk_step S.code (before (of_code S pending pc regs opened) c) ≡ goes_on (before (of_code S pending (pc + 1) (write t v regs) opened) c))
      → Goes n many t env regs (pc + length code) k → Agree S n s (before (of_code S pending pc regs opened) c)
  one_goes i code v n many t pc opened s env regs c k is e has inside le rel moves goes =
      one_into i code v n many t t pc opened s env regs c k is e has inside rel moves (into_goes n many t (pc + length code) env regs k le goes)
