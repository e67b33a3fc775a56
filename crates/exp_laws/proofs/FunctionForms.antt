-- Functions: the locals that one captures get cells, and then it is made.
use Rattle.std.proofs.Common.{◌≡◌, ℕ, ◌+◌, ◌<◌, ◌≤◌, ◌^◌, Bool, true, false, cond, List, [], ◌∷◌, ◌++◌, length, map, Option, Some, None, slice_get, refl, sym, ap, ap₂, ◌∙◌, subst, arith}
use borrow.Author.Tests.{lt-ltb}
use Rattle.int_core.specs.Value.{Value, bind}
use Rattle.int_core.specs.Ask.{CellName, of_local, of_upvalue, makes_function, values_in, Captured, Next, goes_on, stuck, cell_held}
use Rattle.tree_core.specs.declared.name.UpName.{UpName}
use Rattle.tree_core.specs.Tree.{Body}
use Rattle.tree_activation.specs.Work.{Control, capture, make, give, Work, Pending}
use Rattle.tree_activation.specs.Work as tree
use Rattle.tree_activation.specs.Activation.{step}
use Rattle.tree_activation.specs.Asking.{captures_one, captures, captured_locals, cell_names}
use Rattle.tree_terms.specs.Bodies.{line_of_body, upvalues_of}
use Rattle.tree_activation.specs.Expressions.{give_first, makes_with}
use Rattle.code_core.specs.declared.opcode.Opcode.TheVariants.{Closure}
use Rattle.code_core.specs.declared.proto.UpDesc.{UpDesc}
use Rattle.code_core.specs.Instruction.{abx}
use Rattle.code_core.specs.Prototype.{Prototype, list_of}
use Rattle.code_core.specs.Check.{at}
use Rattle.code_core.proofs.FieldLemmas.{opcode_of-abx, a_of-abx, bx_of-abx}
use Rattle.machine_core.specs.World.{Activation}
use Rattle.machine_core.specs.Text.{read, Text, open_cell, quick, make_function}
use Rattle.machine_core.specs.InstructionRows.{to_register, opens, upvalues_of_inner}
use Rattle.machine_core.specs.Talk as code
use Rattle.machine_core.specs.Talk.{before, amid, talk, talk_step, says_so, names_of}
use Rattle.code_of.specs.Coded.{with_abx}
use Rattle.code_of.specs.CodeOf.{upvalue}
use Rattle.exp_laws.proofs.Registers.{none_among, Rel, After, after_none, after_then}
use Rattle.exp_laws.specs.Setting.{UnderAll, Setting, InnerAlike}
use Rattle.exp_laws.proofs.Talking.{Here, Agree, go_left, both_stuck, of_tree, of_code}
use Rattle.exp_laws.proofs.Placing.{HasAt, here_abx}
use Rattle.exp_laws.proofs.Still.{Still, still_then, one_still, opens_still}
use Rattle.tree_terms.specs.Hidden.{IsNoneOf}
use Rattle.exp_laws.specs.Placed.{Captures, Inner}
use Rattle.exp_laws.proofs.Going.{Goes, answer_goes}
use Rattle.exp_laws.proofs.Steps.{row_step}

-- both sides name the same cells
pub names_same : (us : List UpName) (held : List (ℕ × ℕ)) → names_of (map upvalue us) held ≡ cell_names us held
names_same [] held = refl
names_same (u ∷ us) held =
    ap (λ o. bind (cond u.in_stack (bind (cell_held u.index held) (λ cell. Some (of_local cell))) (Some (of_upvalue u.index))) (λ name. bind o (λ names. Some (name ∷ names)))) (names_same us held)

-- what CLOSURE does once the cells are there
abbrev pub make_text : (t j : ℕ) → Text
make_text t j = quick (make_function j) (λ f. to_register t (read f))

pub closure_step : (p q : Prototype) (t j : ℕ) (us : List UpName) (a : Activation) (c : Captured) → at p a.pc ≡ Some (abx Closure t j) → slice_get (list_of p.inner) j ≡ Some q → q.own.upvalues ≡ map upvalue us → t < 2 ^ 8 → j < 2 ^ 17
    → talk_step p (before a c) ≡ talk p (opens (map upvalue us) (make_text t j)) [] a c
closure_step p q t j us a c here inner ups fits near =
    row_step p (abx Closure t j) Closure (opens (upvalues_of_inner p j) (make_text t j)) a c here (opcode_of-abx Closure t j)
    (ap₂ (λ b d. opens (upvalues_of_inner p b) (make_text d b)) (bx_of-abx Closure t j fits near) (a_of-abx Closure t j fits))
    ∙ ap (λ l. talk p (opens l (make_text t j)) [] a c) (ap (λ o. elim o as (λ _. List UpDesc) [ None ↦ [] | Some r ↦ r.own.upvalues ]) inner ∙ ups)

module _ (S : Setting) (pending : List Pending) where
  -- a captured local is in scope
  pub captures_in_scope : (line place : ℕ) (places : List ℕ) (next_of : Control) (env : List Value) (c : Captured) (k : List Work) → place < length env
      → captures line (place ∷ places) next_of (of_tree S pending env c) k ≡ captures_one (cell_held place c.held) line place places next_of (of_tree S pending env c) k
  captures_in_scope line place places next_of env c k below =
      ap (λ b. cond b (captures_one (cell_held place c.held) line place places next_of (of_tree S pending env c) k) stuck) (lt-ltb place (length env) below)

  -- the locals that a function captures get cells
  captures_goes : (us : List UpName) (n line pc opened u : ℕ) (s : tree.State) (t : code.State) (next_of : Control) (env regs had : List Value) (c : Captured) (k : List Work) (rest : Text)
      → s ≡ tree.at (capture line (captured_locals us) next_of) (of_tree S pending env c) k → talk_step S.code t ≡ talk S.code (opens (map upvalue us) rest) had (of_code S pending pc regs opened) c
      → Captures S.hidden us (length env) → length env ≤ u → Rel S.hidden S.code.own.stack pending env c regs → Here S pc line
      → ((env' regs' : List Value) (c' : Captured) (t' : code.State) → After S.hidden S.code.own.stack pending env regs u env' regs' c' → Still env env' → talk_step S.code t' ≡ talk S.code rest had (of_code S pending pc regs' opened) c'
      → Agree S n (tree.at next_of (of_tree S pending env' c') k) t')
      → Agree S n s t
  captures_goes [] n line pc opened u s t next_of env regs had c k rest is d ok le rel here next =
      go_left S n s (tree.at next_of (of_tree S pending env c) k) t (ap step is) (next env regs c t (after_none S.hidden S.code.own.stack pending env regs c u rel) (λ r. refl) d)
  captures_goes (x ∷ us) n line pc opened u s t next_of env regs had c k rest is d ok le rel here next =
      by x.in_stack is d ok.0
      (λ env1 regs1 c1 t1 af st d1. captures_goes us n line pc opened u _ t1 next_of env1 regs1 had c1 k rest refl d1 (subst (Captures S.hidden us) (sym af.size) ok.1) (omega (arith, le, af.size)) af.rel here
      (λ env2 regs2 c2 t2 af2 st2 d2. next env2 regs2 c2 t2 (after_then S.hidden S.code.own.stack pending env regs env1 regs1 env2 regs2 c1 c2 u u (omega arith) af af2) (still_then env env1 env2 st st2) d2))
    where
      by : (b : Bool) → s ≡ tree.at (capture line (cond b (x.index ∷ captured_locals us) (captured_locals us)) next_of) (of_tree S pending env c) k
          → talk_step S.code t ≡ talk S.code (cond b (open_cell x.index (opens (map upvalue us) rest)) (opens (map upvalue us) rest)) had (of_code S pending pc regs opened) c
          → (b ≡ true → (x.index < length env) × (IsNoneOf x.index S.hidden.integers × (UnderAll x.index S.hidden.free_from × (S.hidden.celled ≡ true))))
          → ((env1 regs1 : List Value) (c1 : Captured) (t1 : code.State) → After S.hidden S.code.own.stack pending env regs u env1 regs1 c1 → Still env env1 → talk_step S.code t1 ≡ talk S.code (opens (map upvalue us) rest) had (of_code S pending pc regs1 opened) c1
          → Agree S n (tree.at (capture line (captured_locals us) next_of) (of_tree S pending env1 c1) k) t1)
          → Agree S n s t
      by true is d below goes = opens_still S pending n s t line x.index pc opened u (captured_locals us) next_of env regs had c k (opens (map upvalue us) rest)
          (ap step is ∙ captures_in_scope line x.index (captured_locals us) next_of env c k (below refl).0) d (below refl).0 (none_among x.index S.hidden.integers (below refl).1.0, (below refl).1.1) le rel here goes
      by false is d below goes = subst (λ z. Agree S n z t) (sym is) (goes env regs c t (after_none S.hidden S.code.own.stack pending env regs c u rel) (λ r. refl) d)

  -- the function is made
  make_goes : (o : Option (List CellName)) (n t j pc opened u : ℕ) (body : Body) (q : Prototype) (s : tree.State) (r : code.State) (env regs : List Value) (c : Captured) (k : List Work)
      → ((m : ℕ) → m < n → InnerAlike S m body q) → step s ≡ makes_with o body (of_tree S pending env c) k
      → talk_step S.code r ≡ elim (bind o (λ names. Some (makes_function q names))) as (λ _. Next Prototype code.State) [
        | None ↦ stuck
        | Some ask ↦ says_so ask S.code (of_code S pending pc regs opened) c (λ x b d. amid (to_register t (read 0)) ([] ++ values_in x.reply) b d)
      ] → Here S pc (line_of_body body) → Rel S.hidden S.code.own.stack pending env c regs
      → ((v : Value) (env1 regs1 : List Value) (c1 : Captured) → After S.hidden S.code.own.stack pending env regs u env1 regs1 c1 → Still env env1 → Agree S n (tree.at (give (v ∷ [])) (of_tree S pending env1 c1) k) (amid (to_register t (read 0)) (v ∷ []) (of_code S pending pc regs1 opened) c1))
      → Agree S n s r
  make_goes None n t j pc opened u body q s r env regs c k alike e d here rel next = both_stuck S n s r e d
  make_goes (Some names) n t j pc opened u body q s r env regs c k alike e d here rel next =
      one_still S pending n s r (makes_function body names) (makes_function q names) (line_of_body body) pc opened u env regs c k give_first (to_register t (read 0)) [] e d
      (λ m lt. (alike m lt, refl)) refl tt (λ reply fits. fits) rel here next

  -- what is asked for the function, whose cells are there
  pub asks_for : (t j pc opened : ℕ) (body : Body) (r : code.State) (regs : List Value) (c : Captured) (inner : Inner S j body)
      → talk_step S.code r ≡ talk S.code (make_text t j) [] (of_code S pending pc regs opened) c
      → talk_step S.code r ≡ elim (bind (cell_names (upvalues_of body) c.held) (λ names. Some (makes_function inner.prototype names))) as (λ _. Next Prototype code.State) [
        | None ↦ stuck
        | Some ask ↦ says_so ask S.code (of_code S pending pc regs opened) c (λ x b d. amid (to_register t (read 0)) ([] ++ values_in x.reply) b d)
      ]
  asks_for t j pc opened body r regs c inner d =
      let q = inner.prototype in
      d
      ∙ ap (λ o. elim (bind {A = Prototype} o (λ r. bind (names_of r.own.upvalues c.held) (λ names. Some (makes_function r names)))) as (λ _. Next Prototype code.State) [
        | None ↦ stuck
        | Some ask ↦ says_so ask S.code (of_code S pending pc regs opened) c (λ x b d. amid (to_register t (read 0)) ([] ++ values_in x.reply) b d)
      ]) inner.there
      ∙ ap (λ o. elim (bind {A = List CellName} o (λ names. Some (makes_function q names))) as (λ _. Next Prototype code.State) [
        | None ↦ stuck
        | Some ask ↦ says_so ask S.code (of_code S pending pc regs opened) c (λ x b d. amid (to_register t (read 0)) ([] ++ values_in x.reply) b d)
      ]) (ap (λ l. names_of l c.held) inner.upvalues ∙ names_same (upvalues_of body) c.held)

  -- cells and then the function, which is for register t
  pub closure_still : (n t j pc opened u : ℕ) (body : Body) (s : tree.State) (env regs : List Value) (c : Captured) (k : List Work) → s ≡ tree.at (capture (line_of_body body) (captured_locals (upvalues_of body)) (make body)) (of_tree S pending env c) k
      → HasAt S pc (with_abx Closure t j (line_of_body body) ∷ []) → n ≤ S.bound → Inner S j body → Captures S.hidden (upvalues_of body) (length env) → length env ≤ u → t < S.code.own.stack → Rel S.hidden S.code.own.stack pending env c regs
      → ((v : Value) (env1 regs1 : List Value) (c1 : Captured) → After S.hidden S.code.own.stack pending env regs u env1 regs1 c1 → Still env env1 → Agree S n (tree.at (give (v ∷ [])) (of_tree S pending env1 c1) k) (amid (to_register t (read 0)) (v ∷ []) (of_code S pending pc regs1 opened) c1))
      → Agree S n s (before (of_code S pending pc regs opened) c)
  closure_still n t j pc opened u body s env regs c k is has bound inner ok le room rel next =
      let q = inner.prototype in
      let ups = upvalues_of body in
      let here = here_abx S Closure t j (line_of_body body) pc [] has in
      captures_goes ups n (line_of_body body) pc opened u s _ (make body) env regs [] c k (make_text t j) is
      (closure_step S.code q t j ups (of_code S pending pc regs opened) c has.0 inner.there inner.upvalues (omega (arith, room, S.small)) inner.near) ok le rel here
      (λ env1 regs1 c1 t1 af st d1. make_goes (cell_names ups c1.held) n t j pc opened u body q _ t1 env1 regs1 c1 k (λ m lt. inner.alike m (omega (arith, lt, bound))) refl
      (asks_for t j pc opened body t1 regs1 c1 inner d1)
      here af.rel
      (λ v env2 regs2 c2 af2 st2. next v env2 regs2 c2 (after_then S.hidden S.code.own.stack pending env regs env1 regs1 env2 regs2 c1 c2 u u (omega arith) af af2) (still_then env env1 env2 st st2)))

  pub closure_goes : (n t j pc opened u : ℕ) (body : Body) (s : tree.State) (env regs : List Value) (c : Captured) (k : List Work) → s ≡ tree.at (capture (line_of_body body) (captured_locals (upvalues_of body)) (make body)) (of_tree S pending env c) k
      → HasAt S pc (with_abx Closure t j (line_of_body body) ∷ []) → n ≤ S.bound → Inner S j body → Captures S.hidden (upvalues_of body) (length env) → length env ≤ u → t < S.code.own.stack → Rel S.hidden S.code.own.stack pending env c regs
      → ((v : Value) (env1 regs1 : List Value) (c1 : Captured) → After S.hidden S.code.own.stack pending env regs u env1 regs1 c1 → Agree S n (tree.at (give (v ∷ [])) (of_tree S pending env1 c1) k) (amid (to_register t (read 0)) (v ∷ []) (of_code S pending pc regs1 opened) c1))
      → Agree S n s (before (of_code S pending pc regs opened) c)
  closure_goes n t j pc opened u body s env regs c k is has bound inner ok le room rel next =
      closure_still n t j pc opened u body s env regs c k is has bound inner ok le room rel (λ v env1 regs1 c1 af still. next v env1 regs1 c1 af)

  -- a function is an expression
  pub function_goes : (n : ℕ) (many : Bool) (t j pc opened : ℕ) (body : Body) (s : tree.State) (env regs : List Value) (c : Captured) (k : List Work)
      → step s ≡ goes_on (tree.at (capture (line_of_body body) (captured_locals (upvalues_of body)) (make body)) (of_tree S pending env c) k) → HasAt S pc (with_abx Closure t j (line_of_body body) ∷ []) → n ≤ S.bound
      → Inner S j body → Captures S.hidden (upvalues_of body) (length env) → pc + 1 < length S.code.own.code → length env ≤ t → t < S.code.own.stack → Rel S.hidden S.code.own.stack pending env c regs
      → Goes S pending n many t env regs (pc + 1) k → Agree S n s (before (of_code S pending pc regs opened) c)
  function_goes n many t j pc opened body s env regs c k e has bound inner ok inside le room rel goes =
      go_left S n s (tree.at (capture (line_of_body body) (captured_locals (upvalues_of body)) (make body)) (of_tree S pending env c) k) _ e
      (closure_goes n t j pc opened t body _ env regs c k refl has bound inner ok le room rel
      (λ v env1 regs1 c1 af. answer_goes S pending n many t pc opened (v ∷ []) env regs env1 regs1 c1 k inside le room af goes))
