-- A local function, which is in scope in its own body. Where it captures itself, its variable is nil until the function is made; else no cell needs the
-- variable meanwhile, and its register is written once.
use Rattle.std.proofs.Common.{⊎_elim, ◌≡◌, ℕ, zero, suc, ◌+◌, ◌<◌, ◌≤◌, Bool, true, false, cond, ◌&&◌, ◌||◌, List, [], ◌∷◌, ◌++◌, length, map, Option, Some, None, refl, sym, ap, ◌∙◌, subst, arith, length-append}
use Rattle.std.specs.Prelude.{nat_eq}
use Rattle.int_core.specs.Value.{Value, known, nil, nth, write, bind}
use Rattle.int_core.specs.Ask.{Ask, opens, Reply, values, faulted, left, values_in, CellName, makes_function, Captured, Next, stuck, shared_by, brought, cell_held, AskLike, IsReplyTo, IsOne}
use Rattle.tree_core.specs.declared.name.UpName.{UpName}
use Rattle.tree_core.specs.Tree.{Body}
use Rattle.tree_activation.specs.Work.{Control, complete, capture, make, give, function_to, Work, Pending}
use Rattle.tree_activation.specs.Work as tree
use Rattle.tree_activation.specs.Activation.{step}
use Rattle.tree_activation.specs.Asking.{asks_quickly, captures_one, captured_locals, cell_names}
use Rattle.tree_terms.specs.Bodies.{line_of_body, upvalues_of}
use Rattle.tree_activation.specs.Expressions.{give_first, makes_with}
use Rattle.tree_activation.specs.Statements.{declares_function}
use Rattle.code_core.specs.declared.opcode.Opcode.TheVariants.{Closure}
use Rattle.code_core.specs.Prototype.{Prototype}
use Rattle.code_core.specs.Check.{at}
use Rattle.lua_meaning.specs.World.{without_name}
use Rattle.machine_core.specs.Text.{read, Text, open_cell}
use Rattle.machine_core.specs.InstructionRows.{to_register, opens as opens_all}
use Rattle.machine_core.specs.Talk as code
use Rattle.machine_core.specs.Talk.{before, amid, talk, talk_step, says_so}
use Rattle.code_of.specs.Coded.{with_abx}
use Rattle.code_of.specs.CodeOf.{upvalue}
use Rattle.code_of.specs.Parts.{captures_local, closure_code, function_code}
use Rattle.exp_laws.proofs.Registers.{MayHold, AllUnder, HeldBelow, none_among, Rel, After, share_same, after_share, after_hold, told, after_none, after_then, rel_more, rel_write}
use Rattle.exp_laws.specs.Setting.{Hidden, UnderAll, Setting, InnerAlike}
use Rattle.exp_laws.proofs.Talking.{Here, Agree, down, go_left, go_right, both_ask, both_stuck, of_tree, of_code}
use Rattle.exp_laws.proofs.Placing.{HasAt, here_abx}
use Rattle.tree_terms.specs.Hidden.{IsNoneOf}
use Rattle.exp_laws.specs.Placed.{Captures, Inner}
use Rattle.exp_laws.proofs.Going.{next_there, at_place}
use Rattle.exp_laws.proofs.Steps.{to_register_step}
use Rattle.exp_laws.proofs.Loads.{nil_step}
use Rattle.exp_laws.proofs.FunctionForms.{make_text, closure_step, captures_in_scope, closure_goes, asks_for}
use Rattle.list_laws.proofs.Values.{length_write, nth_old}
use Rattle.list_laws.proofs.Tests.{eq_refl, split}

-- locals behind others, which have no cells

shared_beside : (held : List (ℕ × ℕ)) (env vs : List Value) → HeldBelow held (length env) → shared_by held (env ++ vs) ≡ shared_by held env
shared_beside [] env vs h = refl
shared_beside (s ∷ held) env vs h =
    ap (λ v. (s.1, v) ∷ shared_by held (env ++ vs)) (nth_old env vs s.0 h.0) ∙ ap (λ l. (s.1, nth env s.0) ∷ l) (shared_beside held env vs h.1)

write_beside : (s : ℕ) (v : Value) (env vs : List Value) → s < length env → write s v (env ++ vs) ≡ write s v env ++ vs
write_beside zero v [] vs h = absurd (omega arith)
write_beside zero v (x ∷ env) vs h = refl
write_beside (suc s) v [] vs h = absurd (omega arith)
write_beside (suc s) v (x ∷ env) vs h = ap (λ l. x ∷ l) (write_beside s v env vs (omega arith))

brought_beside : (held : List (ℕ × ℕ)) (ws env vs : List Value) → HeldBelow held (length env) → brought held ws (env ++ vs) ≡ brought held ws env ++ vs
brought_beside [] ws env vs h = refl
brought_beside (s ∷ held) [] env vs h = refl
brought_beside (s ∷ held) (w ∷ ws) env vs h =
    ap (brought held ws) (write_beside s.0 w env vs h.0)
    ∙ brought_beside held ws (write s.0 w env) vs (subst (HeldBelow held) (sym (length_write s.0 w env h.0)) h.1)

write_last : (env : List Value) (v w : Value) → write (length env) v (env ++ w ∷ []) ≡ env ++ v ∷ []
write_last [] v w = refl
write_last (x ∷ env) v w = ap (λ l. x ∷ l) (write_last env v w)

-- what is captured besides the local itself stands in front of it

another_place : (in_stack : Bool) (place t : ℕ) (rest : Bool) → ((in_stack && nat_eq place t) || rest) ≡ false → in_stack ≡ true → place < t + 1 → place < t
another_place false place t rest e is lt = absurd (cc)
another_place true place t rest e is lt = ⊎_elim (λ h. h) (λ h. absurd (own (omega arith))) (split place t)
  where
    either : (b : Bool) → (b || rest) ≡ false → b ≡ true → ⊥
    either true e d = absurd (cc)
    either false e d = absurd (cc)

    own : place ≡ t → ⊥
    own same = either (nat_eq place t) e (ap (λ n. nat_eq n t) same ∙ eq_refl t)

others_capture : (in_stack b rest : Bool) → ((in_stack && b) || rest) ≡ false → rest ≡ false
others_capture true true rest e = absurd (cc)
others_capture true false rest e = e
others_capture false b rest e = e

captures_others : (hidden : Hidden) (us : List UpName) (t : ℕ) → captures_local t us ≡ false → Captures hidden us (t + 1) → Captures hidden us t
captures_others hidden [] t e h = tt
captures_others hidden (u ∷ us) t e h = (
  (λ is. (another_place u.in_stack u.index t (captures_local t us) e is (h.0 is).0, (h.0 is).1)),
  captures_others hidden us t (others_capture u.in_stack (nat_eq u.index t) (captures_local t us) e) h.1,
)

module _ (S : Setting) (pending : List Pending) where
  same_locals : (n : ℕ) (goes : Control) (env env' : List Value) (c : Captured) (k : List Work) (t : code.State) → env ≡ env'
      → Agree S n (tree.at goes (of_tree S pending env' c) k) t → Agree S n (tree.at goes (of_tree S pending env c) k) t
  same_locals n goes env env' c k t e h = subst (λ l. Agree S n (tree.at goes (of_tree S pending l c) k) t) (sym e) h

  -- the asks of a function that is made, where the tree has more locals than the code has registers for

  module _ (vs : List Value) where
    quick_beside : (n : ℕ) (s : tree.State) (t : code.State) (q : Ask Body) (r : Ask Prototype) (line pc opened u : ℕ) (env regs : List Value) (c : Captured) (k : List Work) (goes : List Value → Control) (rest : Text) (had : List Value)
        → step s ≡ asks_quickly q line (of_tree S pending (env ++ vs) c) k goes
        → talk_step S.code t ≡ says_so r S.code (of_code S pending pc regs opened) c (λ x b d. amid rest (had ++ values_in x.reply) b d)
        → ((m : ℕ) → m < n → AskLike (InnerAlike S m) q r) → without_name q ≡ q → Rel S.hidden S.code.own.stack pending env c regs → Here S pc line
        → ((reply : Reply) → IsReplyTo q reply → (env' regs' : List Value) (c' : Captured) → After S.hidden S.code.own.stack pending env regs u env' regs' c'
        → Agree S n (tree.at (goes (values_in reply)) (of_tree S pending (env' ++ vs) c') k) (amid rest (had ++ values_in reply) (of_code S pending pc regs' opened) c'))
        → Agree S n s t
    quick_beside zero s t q r line pc opened u env regs c k goes rest had e d like plain rel here next = tt
    quick_beside (suc n) s t q r line pc opened u env regs c k goes rest had e d like plain rel here next =
        both_ask S n s t q r line _ _ _ _ _ e d (like n (omega arith)) plain here.lined
        (ap (λ l. l ++ c.gone) (shared_beside c.held env vs rel.held) ∙ share_same S.hidden S.code.own.stack pending env c regs rel)
        (λ x fits. same_locals n (goes (values_in x.reply)) (brought c.held x.shared (env ++ vs)) (brought c.held x.shared env ++ vs) (told c) k _ (brought_beside c.held x.shared env vs rel.held)
        (down S n _ _ (next x.reply fits.reply (brought c.held x.shared env) (brought c.held x.shared regs) (told c) (after_share S.hidden S.code.own.stack pending env regs x.shared c u rel))))

    one_beside : (n : ℕ) (s : tree.State) (t : code.State) (q : Ask Body) (r : Ask Prototype) (line pc opened u : ℕ) (env regs : List Value) (c : Captured) (k : List Work) (goes : List Value → Control) (rest : Text) (had : List Value)
        → step s ≡ asks_quickly q line (of_tree S pending (env ++ vs) c) k goes
        → talk_step S.code t ≡ says_so r S.code (of_code S pending pc regs opened) c (λ x b d. amid rest (had ++ values_in x.reply) b d)
        → ((m : ℕ) → m < n → AskLike (InnerAlike S m) q r) → without_name q ≡ q → ((reply : Reply) → IsReplyTo q reply → IsOne reply) → Rel S.hidden S.code.own.stack pending env c regs → Here S pc line
        → ((v : Value) (env' regs' : List Value) (c' : Captured) → After S.hidden S.code.own.stack pending env regs u env' regs' c'
        → Agree S n (tree.at (goes (v ∷ [])) (of_tree S pending (env' ++ vs) c') k) (amid rest (had ++ v ∷ []) (of_code S pending pc regs' opened) c'))
        → Agree S n s t
    one_beside n s t q r line pc opened u env regs c k goes rest had e d like plain one rel here next =
        quick_beside n s t q r line pc opened u env regs c k goes rest had e d like plain rel here (λ reply fits env' regs' c' af. by reply (one reply fits) env' regs' c' af)
      where
        by : (reply : Reply) → IsOne reply → (env' regs' : List Value) (c' : Captured) → After S.hidden S.code.own.stack pending env regs u env' regs' c'
            → Agree S n (tree.at (goes (values_in reply)) (of_tree S pending (env' ++ vs) c') k) (amid rest (had ++ values_in reply) (of_code S pending pc regs' opened) c')
        by (values (v ∷ [])) is env' regs' c' af = next v env' regs' c' af
        by (values []) is env' regs' c' af = absurd is
        by (values (v ∷ w ∷ ws)) is env' regs' c' af = absurd is
        by (faulted words) is env' regs' c' af = absurd is
        by (left e) is env' regs' c' af = absurd is

    opens_beside : (n : ℕ) (s : tree.State) (t : code.State) (line place pc opened u : ℕ) (places : List ℕ) (next_of : Control) (env regs had : List Value) (c : Captured) (k : List Work) (rest : Text)
        → step s ≡ captures_one (cell_held place c.held) line place places next_of (of_tree S pending (env ++ vs) c) k
        → talk_step S.code t ≡ talk S.code (open_cell place rest) had (of_code S pending pc regs opened) c
        → place < length env → MayHold place S.hidden → Rel S.hidden S.code.own.stack pending env c regs → Here S pc line
        → ((env' regs' : List Value) (c' : Captured) (t' : code.State) → After S.hidden S.code.own.stack pending env regs u env' regs' c' → talk_step S.code t' ≡ talk S.code rest had (of_code S pending pc regs' opened) c'
        → Agree S n (tree.at (capture line places next_of) (of_tree S pending (env' ++ vs) c') k) t')
        → Agree S n s t
    opens_beside n s t line place pc opened u places next_of env regs had c k rest e d below other rel here next = by (cell_held place c.held) e d
      where
        by : (o : Option ℕ) → step s ≡ captures_one o line place places next_of (of_tree S pending (env ++ vs) c) k
            → talk_step S.code t ≡ elim o as (λ _. Next Prototype code.State) [
              | Some _ ↦ talk S.code rest had (of_code S pending pc regs opened) c
              | None ↦ says_so (opens (nth regs place)) S.code (of_code S pending pc regs opened) c (λ x b d'. amid rest had b (record d' { held = (place, x.cell) ∷ d'.held }))
            ] → Agree S n s t
        by (Some cell) e d = go_left S n s _ t e (next env regs c t (after_none S.hidden S.code.own.stack pending env regs c u rel) d)
        by None e d = asked n e d next
          where
            asked : (n : ℕ) → step s ≡ captures_one None line place places next_of (of_tree S pending (env ++ vs) c) k
                → talk_step S.code t ≡ says_so (opens (nth regs place)) S.code (of_code S pending pc regs opened) c (λ x b d'. amid rest had b (record d' { held = (place, x.cell) ∷ d'.held }))
                → ((env' regs' : List Value) (c' : Captured) (t' : code.State) → After S.hidden S.code.own.stack pending env regs u env' regs' c' → talk_step S.code t' ≡ talk S.code rest had (of_code S pending pc regs' opened) c'
                → Agree S n (tree.at (capture line places next_of) (of_tree S pending (env' ++ vs) c') k) t')
                → Agree S n s t
            asked zero e d next = tt
            asked (suc n) e d next =
                both_ask S n s t (opens (nth (env ++ vs) place)) (opens (nth regs place)) line _ _ _ _ _ e d (nth_old env vs place below ∙ rel.agree place below) refl here.lined
                (ap (λ l. l ++ c.gone) (shared_beside c.held env vs rel.held) ∙ share_same S.hidden S.code.own.stack pending env c regs rel)
                (λ x fits. same_locals n (capture line places next_of) (brought c.held x.shared (env ++ vs)) (brought c.held x.shared env ++ vs) (record { held = (place, x.cell) ∷ c.held; gone = [] }) k _ (brought_beside c.held x.shared env vs rel.held)
                (down S n _ _ (next (brought c.held x.shared env) (brought c.held x.shared regs) (record { held = (place, x.cell) ∷ c.held; gone = [] }) _
                (after_hold S.hidden S.code.own.stack pending env regs x.shared c u place x.cell below other rel) refl)))

    captures_beside : (us : List UpName) (n line pc opened u : ℕ) (s : tree.State) (t : code.State) (next_of : Control) (env regs had : List Value) (c : Captured) (k : List Work) (rest : Text)
        → s ≡ tree.at (capture line (captured_locals us) next_of) (of_tree S pending (env ++ vs) c) k → talk_step S.code t ≡ talk S.code (opens_all (map upvalue us) rest) had (of_code S pending pc regs opened) c
        → Captures S.hidden us (length env) → Rel S.hidden S.code.own.stack pending env c regs → Here S pc line
        → ((env' regs' : List Value) (c' : Captured) (t' : code.State) → After S.hidden S.code.own.stack pending env regs u env' regs' c' → talk_step S.code t' ≡ talk S.code rest had (of_code S pending pc regs' opened) c'
        → Agree S n (tree.at next_of (of_tree S pending (env' ++ vs) c') k) t')
        → Agree S n s t
    captures_beside [] n line pc opened u s t next_of env regs had c k rest is d ok rel here next =
        go_left S n s (tree.at next_of (of_tree S pending (env ++ vs) c) k) t (ap step is) (next env regs c t (after_none S.hidden S.code.own.stack pending env regs c u rel) d)
    captures_beside (x ∷ us) n line pc opened u s t next_of env regs had c k rest is d ok rel here next =
        by x.in_stack is d ok.0
        (λ env1 regs1 c1 t1 af d1. captures_beside us n line pc opened u _ t1 next_of env1 regs1 had c1 k rest refl d1 (subst (Captures S.hidden us) (sym af.size) ok.1) af.rel here
        (λ env2 regs2 c2 t2 af2 d2. next env2 regs2 c2 t2 (after_then S.hidden S.code.own.stack pending env regs env1 regs1 env2 regs2 c1 c2 u u (omega arith) af af2) d2))
      where
        by : (b : Bool) → s ≡ tree.at (capture line (cond b (x.index ∷ captured_locals us) (captured_locals us)) next_of) (of_tree S pending (env ++ vs) c) k
            → talk_step S.code t ≡ talk S.code (cond b (open_cell x.index (opens_all (map upvalue us) rest)) (opens_all (map upvalue us) rest)) had (of_code S pending pc regs opened) c
            → (b ≡ true → (x.index < length env) × (IsNoneOf x.index S.hidden.integers × (UnderAll x.index S.hidden.free_from × (S.hidden.celled ≡ true))))
            → ((env1 regs1 : List Value) (c1 : Captured) (t1 : code.State) → After S.hidden S.code.own.stack pending env regs u env1 regs1 c1 → talk_step S.code t1 ≡ talk S.code (opens_all (map upvalue us) rest) had (of_code S pending pc regs1 opened) c1
            → Agree S n (tree.at (capture line (captured_locals us) next_of) (of_tree S pending (env1 ++ vs) c1) k) t1)
            → Agree S n s t
        by true is d below goes =
            let sum = length-append env vs in
            let low = (below refl).0 in
            opens_beside n s t line x.index pc opened u (captured_locals us) next_of env regs had c k (opens_all (map upvalue us) rest)
            (ap step is ∙ captures_in_scope S pending line x.index (captured_locals us) next_of (env ++ vs) c k (omega (arith, sum, low))) d low (none_among x.index S.hidden.integers (below refl).1.0, (below refl).1.1) rel here goes
        by false is d below goes = subst (λ z. Agree S n z t) (sym is) (goes env regs c t (after_none S.hidden S.code.own.stack pending env regs c u rel) d)

    make_beside : (o : Option (List CellName)) (n t j pc opened u : ℕ) (body : Body) (q : Prototype) (s : tree.State) (r : code.State) (env regs : List Value) (c : Captured) (k : List Work)
        → ((m : ℕ) → m < n → InnerAlike S m body q) → step s ≡ makes_with o body (of_tree S pending (env ++ vs) c) k
        → talk_step S.code r ≡ elim (bind o (λ names. Some (makes_function q names))) as (λ _. Next Prototype code.State) [
          | None ↦ stuck
          | Some ask ↦ says_so ask S.code (of_code S pending pc regs opened) c (λ x b d. amid (to_register t (read 0)) ([] ++ values_in x.reply) b d)
        ] → Here S pc (line_of_body body) → Rel S.hidden S.code.own.stack pending env c regs
        → ((v : Value) (env1 regs1 : List Value) (c1 : Captured) → After S.hidden S.code.own.stack pending env regs u env1 regs1 c1 → Agree S n (tree.at (give (v ∷ [])) (of_tree S pending (env1 ++ vs) c1) k) (amid (to_register t (read 0)) (v ∷ []) (of_code S pending pc regs1 opened) c1))
        → Agree S n s r
    make_beside None n t j pc opened u body q s r env regs c k alike e d here rel next = both_stuck S n s r e d
    make_beside (Some names) n t j pc opened u body q s r env regs c k alike e d here rel next =
        one_beside n s r (makes_function body names) (makes_function q names) (line_of_body body) pc opened u env regs c k give_first (to_register t (read 0)) [] e d
        (λ m lt. (alike m lt, refl)) refl (λ reply fits. fits) rel here next

    closure_beside : (n t j pc opened u : ℕ) (body : Body) (s : tree.State) (env regs : List Value) (c : Captured) (k : List Work) → s ≡ tree.at (capture (line_of_body body) (captured_locals (upvalues_of body)) (make body)) (of_tree S pending (env ++ vs) c) k
        → HasAt S pc (with_abx Closure t j (line_of_body body) ∷ []) → n ≤ S.bound → Inner S j body → Captures S.hidden (upvalues_of body) (length env) → t < S.code.own.stack → Rel S.hidden S.code.own.stack pending env c regs
        → ((v : Value) (env1 regs1 : List Value) (c1 : Captured) → After S.hidden S.code.own.stack pending env regs u env1 regs1 c1 → Agree S n (tree.at (give (v ∷ [])) (of_tree S pending (env1 ++ vs) c1) k) (amid (to_register t (read 0)) (v ∷ []) (of_code S pending pc regs1 opened) c1))
        → Agree S n s (before (of_code S pending pc regs opened) c)
    closure_beside n t j pc opened u body s env regs c k is has bound inner ok room rel next =
        let q = inner.prototype in
        let ups = upvalues_of body in
        let here = here_abx S Closure t j (line_of_body body) pc [] has in
        captures_beside ups n (line_of_body body) pc opened u s _ (make body) env regs [] c k (make_text t j) is
        (closure_step S.code q t j ups (of_code S pending pc regs opened) c has.0 inner.there inner.upvalues (omega (arith, room, S.small)) inner.near) ok rel here
        (λ env1 regs1 c1 t1 af d1. make_beside (cell_names ups c1.held) n t j pc opened u body q _ t1 env1 regs1 c1 k (λ m lt. inner.alike m (omega (arith, lt, bound))) refl
        (asks_for S pending t j pc opened body t1 regs1 c1 inner d1)
        here af.rel
        (λ v env2 regs2 c2 af2. next v env2 regs2 c2 (after_then S.hidden S.code.own.stack pending env regs env1 regs1 env2 regs2 c1 c2 u u (omega arith) af af2)))

  -- the code goes on at a place, where the function is its last local
  abbrev FunctionLaw : (own : Bool) → (n t j pc opened : ℕ) (body : Body) → Type 0
  FunctionLaw own n t j pc opened body =
      (s : tree.State) (env regs : List Value) (c : Captured) (k : List Work) → step s ≡ declares_function body (of_tree S pending env c) k
      → captures_local t (upvalues_of body) ≡ own → HasAt S pc (closure_code own t j (line_of_body body)) → n ≤ S.bound → Inner S j body → Captures S.hidden (upvalues_of body) (t + 1)
      → pc + length (closure_code own t j (line_of_body body)) < length S.code.own.code → length env ≡ t → t < S.code.own.stack → AllUnder S.hidden.integers t → Rel S.hidden S.code.own.stack pending env c regs
      → ((env1 regs1 : List Value) (c1 : Captured) → length env1 ≡ t + 1 → Rel S.hidden S.code.own.stack pending env1 c1 regs1
      → Agree S n (tree.at complete (of_tree S pending env1 c1) k) (before (of_code S pending (pc + length (closure_code own t j (line_of_body body))) regs1 opened) c1))
      → Agree S n s (before (of_code S pending pc regs opened) c)

  other_function_goes : (n t j pc opened : ℕ) (body : Body) → FunctionLaw false n t j pc opened body
  other_function_goes n t j pc opened body s env regs c k e own has bound inner ok inside size room under rel next =
      let there = next_there S (pc + 1) inside in
      let ups = upvalues_of body in
      let last = known nil ∷ [] in
      go_left S n s (tree.at (capture (line_of_body body) (captured_locals ups) (make body)) (of_tree S pending (env ++ last) c) (function_to (length env) ∷ k)) _ e
      (closure_beside last n t j pc opened (t + 1) body _ env regs c (function_to (length env) ∷ k) refl has bound inner (subst (Captures S.hidden ups) (sym size) (captures_others S.hidden ups t own ok)) room rel
      (λ v env1 regs1 c1 af. go_left S n _ (tree.at complete (of_tree S pending (write (length env) v (env1 ++ last)) c1) k) _ refl
      (go_right S n _ _ (before (of_code S pending (pc + 1) (write t v regs1) opened) c1)
      (to_register_step S.code t (read 0) there.0 (v ∷ []) (of_code S pending pc regs1 opened) c1 (omega (arith, room, af.rel.room)) there.1)
      (same_locals n complete (write (length env) v (env1 ++ last)) (env1 ++ v ∷ []) c1 k _ (ap (λ m. write m v (env1 ++ last)) (sym af.size) ∙ write_last env1 v (known nil))
      (let sum = length-append env1 (v ∷ []) in
      next (env1 ++ v ∷ []) (write t v regs1) c1 (omega (arith, sum, size, af.size)) (rel_more S.hidden S.code.own.stack pending env1 regs1 c1 v t (af.size ∙ size) room under af.rel))))))

  own_function_goes : (n t j pc opened : ℕ) (body : Body) → FunctionLaw true n t j pc opened body
  own_function_goes n t j pc opened body s env regs c k e own has bound inner ok inside size room under rel next =
      let near = next_there S (pc + 1) (omega (arith, inside)) in
      let there = next_there S (pc + 2) inside in
      let two : pc + 1 + 1 ≡ pc + 2 = omega arith in
      let wide = length-append env (known nil ∷ []) in
      let env0 = env ++ known nil ∷ [] in
      let regs0 = write t (known nil) regs in
      let fresh = rel_more S.hidden S.code.own.stack pending env regs c (known nil) t size room under rel in
      let ups = upvalues_of body in
      go_left S n s (tree.at (capture (line_of_body body) (captured_locals ups) (make body)) (of_tree S pending env0 c) (function_to (length env) ∷ k)) _ e
      (go_right S n _ _ (before (of_code S pending (pc + 1) regs0 opened) c)
      (nil_step S.code (of_code S pending pc regs opened) c near.0 near.1 t has.0 (omega (arith, room, S.small)) (omega (arith, room, rel.room)))
      (closure_goes S pending n t j (pc + 1) opened (t + 1) body _ env0 regs0 c (function_to (length env) ∷ k) refl (has.1.1.0, (has.1.1.1.0, tt)) bound inner
      (let places : t + 1 ≡ length env0 = omega (arith, wide, size) in subst (Captures S.hidden ups) places ok) (omega (arith, wide, size)) room fresh
      (λ v env1 regs1 c1 af. go_left S n _ (tree.at complete (of_tree S pending (write (length env) v env1) c1) k) _ refl
      (go_right S n _ _ (before (of_code S pending (pc + 1 + 1) (write t v regs1) opened) c1)
      (to_register_step S.code t (read 0) there.0 (v ∷ []) (of_code S pending (pc + 1) regs1 opened) c1 (omega (arith, room, af.rel.room)) (subst (λ q. at S.code q ≡ Some there.0) (sym two) there.1))
      (at_place S pending n (pc + 1 + 1) (pc + 2) opened _ (write t v regs1) c1 two
      (let inside_env : length env < length env1 = omega (arith, wide, af.size) in
      let kept = length_write (length env) v env1 inside_env in
      let made = rel_write S.hidden S.code.own.stack pending env1 regs1 c1 v (length env) inside_env (λ m. let low = under (length env) m in absurd (omega (arith, low, size))) af.rel in
      next (write (length env) v env1) (write t v regs1) c1 (omega (arith, kept, wide, size, af.size)) (subst (λ r. Rel S.hidden S.code.own.stack pending (write (length env) v env1) c1 (write r v regs1)) size made)))))))

  -- a local function is in scope in its own body
  pub local_function_goes : (n t j pc opened : ℕ) (body : Body) (s : tree.State) (env regs : List Value) (c : Captured) (k : List Work) → step s ≡ declares_function body (of_tree S pending env c) k
      → HasAt S pc (function_code body t j) → n ≤ S.bound → Inner S j body → Captures S.hidden (upvalues_of body) (t + 1) → pc + length (function_code body t j) < length S.code.own.code
      → length env ≡ t → t < S.code.own.stack → AllUnder S.hidden.integers t → Rel S.hidden S.code.own.stack pending env c regs
      → ((env1 regs1 : List Value) (c1 : Captured) → length env1 ≡ t + 1 → Rel S.hidden S.code.own.stack pending env1 c1 regs1
      → Agree S n (tree.at complete (of_tree S pending env1 c1) k) (before (of_code S pending (pc + length (function_code body t j)) regs1 opened) c1))
      → Agree S n s (before (of_code S pending pc regs opened) c)
  local_function_goes n t j pc opened body s env regs c k e has bound inner ok inside size room under rel next =
      by (captures_local t (upvalues_of body)) s env regs c k e refl has bound inner ok inside size room under rel next
    where
      by : (own : Bool) → FunctionLaw own n t j pc opened body
      by true = own_function_goes n t j pc opened body
      by false = other_function_goes n t j pc opened body
