-- A tree's activation and code's that talk alike have the same to close where they are left: each closes what its state says, and both close alike.
use borrow.Author.Tests.{le-leb}
use Rattle.std.proofs.Common.{◌≡◌, ℕ, zero, suc, ◌≤◌, Bool, true, false, cond, List, [], ◌∷◌, ◌++◌, length, Option, Some, None, refl, sym, ◌∙◌, ap, ap₂, subst, arith}
use Rattle.std.specs.Prelude.{nat_le, nat_lt}
use Rattle.std.proofs.lemmas.List.{length-map}
use Rattle.int_core.specs.Value.{Value, nth, bind}
use Rattle.int_core.specs.Ask.{Ask, closes, leaves, throws, values, Answer, FitsAsk, Next, goes_on, says, stuck, on_from, runs, NextLike, Captured, held_below, brought, shared_by}
use Rattle.tree_core.specs.Tree.{Body}
use Rattle.tree_activation.specs.Work.{when_captured, leave_scope, finish, Pending, State as TreeState, at}
use Rattle.tree_activation.specs.Work as tree
use Rattle.tree_activation.specs.Asking.{asks, cut, leave_by, closed_of, to_close}
use Rattle.tree_activation.specs.Activation.{step}
use Rattle.code_core.specs.Prototype.{Prototype}
use Rattle.machine_core.specs.World as machine
use Rattle.machine_core.specs.World.{leaving}
use Rattle.machine_core.specs.Text.{trap, last_pending, done}
use Rattle.machine_core.specs.InstructionRows.{left_so, fails}
use Rattle.machine_core.specs.Talk.{State as CodeState, amid, captured_done, says_so, heard, talk_step}
use Rattle.lua_meaning.specs.World.{as_known}
use Rattle.code_means.specs.Runs as codes
use Rattle.list_laws.proofs.Ends.{last_is, without_last_is, Snoc, empty, with_last, snoc}
use Rattle.list_laws.proofs.Items.{length_more}
use Rattle.code_means.proofs.Same.{NoOwn, like_no_own, known_no_own}
use Rattle.runs_alike.proofs.AllAsks.{asks_once, Talk, Made, all_same}
use Rattle.runs_alike.proofs.TreeLeft.{IsLeaving}
use Rattle.machine_core.proofs.Pending.{one_fewer}
use Rattle.runs_alike.proofs.CodeLeft.{leaves_last, closes_next, Rests, goes_so, breaks_rule, rests}
use Rattle.runs_alike.proofs.CodeLeft as code
use Rattle.list_laws.proofs.Held.{brought_none}

-- lists

-- the tree

abbrev left_at : (line : ℕ) → Value → tree.Activation → TreeState
left_at line e a = at (leave_scope 0 line e (finish line (throws e))) a []

abbrev with_pending : tree.Activation → List Pending → tree.Activation
with_pending a pending = record a { pending = pending }

closed_more : (locals : List Value) (ps : List Pending) (p : Pending) → closed_of locals (ps ++ p ∷ []) ≡ cond p.needed (nth locals p.number ∷ []) [] ++ closed_of locals ps
closed_more locals [] p = by p.needed where
  by : (b : Bool) → cond b (nth locals p.number ∷ []) [] ≡ cond b (nth locals p.number ∷ []) [] ++ []
  by true = refl
  by false = refl
closed_more locals (q ∷ ps) p = ap (λ vs. vs ++ cond q.needed (nth locals q.number ∷ []) []) (closed_more locals ps p) ∙ by p.needed where
  by : (b : Bool) → (cond b (nth locals p.number ∷ []) [] ++ closed_of locals ps) ++ cond q.needed (nth locals q.number ∷ []) []
      ≡ cond b (nth locals p.number ∷ []) [] ++ (closed_of locals ps ++ cond q.needed (nth locals q.number ∷ []) [])
  by true = refl
  by false = refl

-- answered by no values
abbrev no_values : List (ℕ × Value) → Answer
no_values shared = record { reply = values []; shared = Rattle.std.specs.Prelude.map (λ s. s.1) shared; cell = 0 }

-- what an activation of a tree that is left says first
data Closes (line : ℕ) (e : Value) (a : tree.Activation) : Type 0 where
  nothing_left : (i : ℕ) (shared : List (ℕ × Value)) (k : Answer → TreeState) → runs step i (left_at line e a) ≡ says (leaves (throws e)) (Some line) shared k
      → closed_of a.locals a.pending ≡ [] → Closes line e a
  one_left : (i : ℕ) (v : Value) (shared : List (ℕ × Value)) (k : Answer → TreeState) (b : tree.Activation) → runs step i (left_at line e a) ≡ says (closes v e) (Some line) shared k
      → k (no_values shared) ≡ left_at line e b → closed_of a.locals a.pending ≡ v ∷ closed_of b.locals b.pending → Closes line e a

leave_one : (a : tree.Activation) (ys : List Pending) (y : Pending) (line : ℕ) (e : Value)
    → step (left_at line e (with_pending a (ys ++ y ∷ [])))
    ≡ cond y.needed (asks (closes (nth a.locals y.number) e) line (record a { pending = ys; captured = cut 0 a }) [] (λ _. leave_scope 0 line e (finish line (throws e)))) (goes_on (left_at line e (with_pending a ys)))
leave_one a ys y line e =
    let next = finish line (throws e) in
    ap (λ o. leave_by o 0 line e next (with_pending a (ys ++ y ∷ [])) []) (ap (λ o. bind o (λ p. cond (nat_le 0 p.number) (Some p) None)) (last_is ys y) ∙ ap (λ b. cond b (Some y) None) (le-leb 0 y.number (omega arith)))
    ∙ ap (λ l. cond y.needed (asks (closes (nth a.locals y.number) e) line (record a { pending = l; captured = cut 0 a }) [] (λ _. leave_scope 0 line e next)) (goes_on (left_at line e (with_pending a l)))) (without_last_is ys y)

says_next : (m : ℕ) (a : tree.Activation) (line : ℕ) (e : Value) (ps : List Pending) → Snoc ps → length ps ≤ m → Closes line e (with_pending a ps)
says_next m a line e _ empty short = nothing_left 1 _ _ refl refl
says_next zero a line e _ (with_last ys y) short = absurd (let l = length_more ys y in omega (arith, l, short))
says_next (suc m) a line e _ (with_last ys y) short = by y.needed refl (says_next m a line e ys (snoc ys) (let l = length_more ys y in omega (arith, l, short))) where
  by : (b : Bool) → y.needed ≡ b → Closes line e (with_pending a ys) → Closes line e (with_pending a (ys ++ y ∷ []))
  by true is more =
      let asked : tree.Activation = record a { pending = ys; captured = cut 0 a } in
      let shared = shared_by (held_below 0 a.captured.held) a.locals ++ (cut 0 a).gone in
      one_left 0 (nth a.locals y.number) shared _
      (record asked { locals = brought (held_below 0 a.captured.held) (no_values shared).shared a.locals; captured = record { held = held_below 0 a.captured.held; gone = [] } })
      (leave_one a ys y line e ∙ ap (λ b. cond b (asks (closes (nth a.locals y.number) e) line asked [] (λ _. leave_scope 0 line e (finish line (throws e)))) (goes_on (left_at line e (with_pending a ys)))) is)
      refl
      (closed_more a.locals ys y ∙ ap (λ b. cond b (nth a.locals y.number ∷ []) [] ++ closed_of a.locals ys) is
      ∙ ap (λ locals. nth a.locals y.number ∷ closed_of locals ys) (sym (brought_none a.captured.held (no_values shared).shared a.locals)))
  by false is more =
      let moves : step (left_at line e (with_pending a (ys ++ y ∷ []))) ≡ goes_on (left_at line e (with_pending a ys)) =
      leave_one a ys y line e
      ∙ ap (λ b. cond b (asks (closes (nth a.locals y.number) e) line (record a { pending = ys; captured = cut 0 a }) [] (λ _. leave_scope 0 line e (finish line (throws e)))) (goes_on (left_at line e (with_pending a ys)))) is in
      let same : closed_of a.locals (ys ++ y ∷ []) ≡ closed_of a.locals ys = closed_more a.locals ys y ∙ ap (λ b. cond b (nth a.locals y.number ∷ []) [] ++ closed_of a.locals ys) is in
      elim more [
        | nothing_left i shared k says_so none ↦ nothing_left (suc i) shared k (ap (λ x. on_from x (runs step i)) moves ∙ says_so) (same ∙ none)
        | one_left i v shared k b says_so then some ↦ one_left (suc i) v shared k b (ap (λ x. on_from x (runs step i)) moves ∙ says_so) then (same ∙ some)
      ]

closes_first : (line : ℕ) (e : Value) (a : tree.Activation) → Closes line e a
closes_first line e a = says_next (length a.pending) a line e a.pending (snoc a.pending) (omega arith)

-- both

-- what the tree says as it is known, and what the code says at once, are alike
met : (l : Bool) (body : Body) (p : Prototype) (s : TreeState) (t : CodeState) (i : ℕ) → Talk l body p s t → NoOwn (runs step i s) → NoOwn (talk_step p t)
    → NextLike (Made l) (Talk l body p) (as_known l (runs step i s)) (talk_step p t)
met l body p s t i same asks asks_too =
    let m = all_same l body p s t same in
    let a = like_no_own (Made l) (Talk l body p) (as_known l (runs step m.0 s)) (runs (talk_step p) m.1 t) m.2 in
    subst (λ x. NextLike (Made l) (Talk l body p) (as_known l x) (talk_step p t)) (asks_once step m.0 i s (known_no_own l (runs step m.0 s) a.0) asks)
    (subst (λ y. NextLike (Made l) (Talk l body p) (as_known l (runs step m.0 s)) y) (asks_once (talk_step p) m.1 0 t a.1 asks_too) m.2)

both_say : (l : Bool) (body : Body) (p : Prototype) (s : TreeState) (t : CodeState) (i : ℕ) (x : Next Body TreeState) (y : Next Prototype CodeState) → Talk l body p s t → runs step i s ≡ x → talk_step p t ≡ y → NoOwn x → NoOwn y
    → NextLike (Made l) (Talk l body p) (as_known l x) y
both_say l body p s t i x y same e d asks asks_too =
    subst (λ z. NextLike (Made l) (Talk l body p) (as_known l z) y) e
    (subst (λ z. NextLike (Made l) (Talk l body p) (as_known l (runs step i s)) z) d (met l body p s t i same (subst (λ z. NoOwn z) (sym e) asks) (subst (λ z. NoOwn z) (sym d) asks_too)))

-- a tree's activation that is left never goes on beside code that does not
never_stuck : (l : Bool) (body : Body) (p : Prototype) (line : ℕ) (e : Value) (a : tree.Activation) (t : CodeState) → Talk l body p (left_at line e a) t → talk_step p t ≡ stuck → ⊥
never_stuck l body p line e a t same is = by (closes_first line e a) where
  says_it : (m : Bool) (q : Ask Body) (shared : List (ℕ × Value)) (k : Answer → TreeState) → NextLike (Made l) (Talk l body p) (as_known m (says q (Some line) shared k)) stuck → ⊥
  says_it true q shared k like = like
  says_it false q shared k like = like

  by : Closes line e a → ⊥
  by (nothing_left i shared k says_so closed) = says_it l (leaves (throws e)) shared k (both_say l body p (left_at line e a) t i _ stuck same says_so is tt tt)
  by (one_left i v shared k b says_so then closed) = says_it l (closes v e) shared k (both_say l body p (left_at line e a) t i _ stuck same says_so is tt tt)

-- an answer without values fits
fits_closing : (v e : Value) (shared : List (ℕ × Value)) → FitsAsk {F = Body} (closes v e) shared (no_values shared)
fits_closing v e shared = record { reply = tt; count = length-map shared (λ s. s.1); kept = λ z. absurd z }

module _ (l : Bool) (body : Body) (p : Prototype) where
  abbrev after_closing : machine.Activation → machine.Activation
  after_closing a = done left_so p [] a

  -- the code says that it leaves
  leaves_too : (line : ℕ) (e d : Value) (a : tree.Activation) (b : machine.Activation) (c : Captured) → Talk l body p (left_at line e a) (amid fails (d ∷ []) b c) → last_pending 0 b.pending ≡ None
      → closed_of a.locals a.pending ≡ []
  leaves_too line e d a b c same none = by (closes_first line e a) where
    by : Closes line e a → closed_of a.locals a.pending ≡ []
    by (nothing_left i shared k is closed) = closed
    by (one_left i v shared k a' is then closed) =
        absurd ((known l v shared k (both_say l body p (left_at line e a) (amid fails (d ∷ []) b c) i (says (closes v e) (Some line) shared k) _ same is (leaves_last p d b c none) tt tt)).0)
      where
        known : (m : Bool) (w : Value) (sh : List (ℕ × Value)) (h : Answer → TreeState)
            → NextLike (Made l) (Talk l body p) (as_known m (says (closes w e) (Some line) sh h)) (says_so (leaves (throws d)) p b c (λ x g f. amid trap [] g f)) → ⊥ × Unit {0}
        known true w sh h like = (like.0, tt)
        known false w sh h like = (like.0, tt)

  -- the code closes one more, and goes on by leaving
  closes_too : (n : ℕ) (line : ℕ) (e d : Value) (q : ℕ) (a : tree.Activation) (b : machine.Activation) (c : Captured) → Talk l body p (left_at line e a) (amid fails (d ∷ []) b c) → last_pending 0 b.pending ≡ Some q
      → ((a' : tree.Activation) (b' : machine.Activation) (c' : Captured) → b'.pending ≡ (after_closing b).pending → Talk l body p (left_at line e a') (amid fails (d ∷ []) b' c') → codes.closed_of p n b' ≡ closed_of a'.locals a'.pending)
      → nth b.registers q ∷ codes.closed_of p n (after_closing b) ≡ closed_of a.locals a.pending
  closes_too n line e d q a b c same there more = by (closes_first line e a) where
    also : List (ℕ × Value)
    also = shared_by (captured_done left_so p [] b c).held (after_closing b).registers ++ (captured_done left_so p [] b c).gone

    on : Answer → CodeState
    on x = heard (leaving d) p x (record (after_closing b) { registers = brought (held_below 0 c.held) x.shared (after_closing b).registers }) (record (captured_done left_so p [] b c) { gone = [] })

    said : Next Prototype CodeState
    said = says_so (closes (nth b.registers q) d) p (after_closing b) (captured_done left_so p [] b c) (λ x g f. heard (leaving d) p x g f)

    like_leaves : (m : Bool) (shared : List (ℕ × Value)) (k : Answer → TreeState) → NextLike (Made l) (Talk l body p) (as_known m (says (leaves (throws e)) (Some line) shared k)) said → ⊥
    like_leaves true shared k like = like.0
    like_leaves false shared k like = like.0

    like_closes : (m : Bool) (v : Value) (shared : List (ℕ × Value)) (k : Answer → TreeState) → NextLike (Made l) (Talk l body p) (as_known m (says (closes v e) (Some line) shared k)) said
        → (v ≡ nth b.registers q) × Talk l body p (k (no_values shared)) (on (no_values shared))
    like_closes true v shared k like = (like.0.0, like.1.1.1 (no_values shared) (fits_closing v e shared))
    like_closes false v shared k like = (like.0.0, like.1.1.1 (no_values shared) (fits_closing v e shared))

    kept : List (ℕ × Value) → machine.Activation
    kept shared = record (after_closing b) { registers = brought (held_below 0 c.held) (no_values shared).shared (after_closing b).registers }

    cut_loose : Captured
    cut_loose = record (captured_done left_so p [] b c) { gone = [] }

    rest : (a' : tree.Activation) (shared : List (ℕ × Value)) → Talk l body p (left_at line e a') (on (no_values shared)) → codes.closed_of p n (after_closing b) ≡ closed_of a'.locals a'.pending
    rest a' shared talks = after_rest (rests d p (kept shared).pc) where
      after_rest : Rests d p (kept shared).pc → codes.closed_of p n (after_closing b) ≡ closed_of a'.locals a'.pending
      after_rest (goes_so is) =
          ap (λ rs. codes.closed_of p n (record (after_closing b) { registers = rs })) (sym (brought_none c.held (no_values shared).shared (after_closing b).registers))
          ∙ more a' (kept shared) cut_loose refl (subst (λ t. Talk l body p (left_at line e a') (amid t (d ∷ []) (kept shared) cut_loose)) is talks)
      after_rest (breaks_rule is) =
          absurd (never_stuck l body p line e a' (amid trap (d ∷ []) (kept shared) cut_loose) (subst (λ t. Talk l body p (left_at line e a') (amid t (d ∷ []) (kept shared) cut_loose)) is talks) refl)

    by : Closes line e a → nth b.registers q ∷ codes.closed_of p n (after_closing b) ≡ closed_of a.locals a.pending
    by (nothing_left i shared k is closed) =
        absurd (like_leaves l shared k (both_say l body p (left_at line e a) (amid fails (d ∷ []) b c) i (says (leaves (throws e)) (Some line) shared k) said same is (closes_next p d q b c there) tt tt))
    by (one_left i v shared k a' is then closed) =
        let both = like_closes l v shared k (both_say l body p (left_at line e a) (amid fails (d ∷ []) b c) i (says (closes v e) (Some line) shared k) said same is (closes_next p d q b c there) tt tt) in
        ap₂ (λ w ws. w ∷ ws) (sym both.0) (rest a' shared (subst (λ s. Talk l body p s (on (no_values shared))) then both.1)) ∙ sym closed

  -- both have the same to close
  same_left : (n : ℕ) (line : ℕ) (e d : Value) (a : tree.Activation) (b : machine.Activation) (c : Captured) → length b.pending ≡ n → Talk l body p (left_at line e a) (amid fails (d ∷ []) b c)
      → codes.closed_of p n b ≡ closed_of a.locals a.pending
  same_left zero line e d a b c count same = sym (leaves_too line e d a b c same (ap (λ ms. last_pending 0 ms) (is_empty b.pending count))) where
    is_empty : (ms : List ℕ) → length ms ≡ 0 → ms ≡ []
    is_empty [] h = refl
    is_empty (m ∷ ms) h = absurd (omega (arith, h))
  same_left (suc n) line e d a b c count same =
      by (last_pending 0 b.pending) refl (λ a' b' c' less talks. same_left n line e d a' b' c' less talks) where
        by : (o : Option ℕ) → last_pending 0 b.pending ≡ o
            → ((a' : tree.Activation) (b' : machine.Activation) (c' : Captured) → length b'.pending ≡ n → Talk l body p (left_at line e a') (amid fails (d ∷ []) b' c') → codes.closed_of p n b' ≡ closed_of a'.locals a'.pending)
            → elim o as (λ _. List Value) [ None ↦ [] | Some r ↦ nth b.registers r ∷ codes.closed_of p n (done left_so p [] b) ] ≡ closed_of a.locals a.pending
        by None is more = sym (leaves_too line e d a b c same is)
        by (Some q) is more = closes_too n line e d q a b c same is (λ a' b' c' less talks. more a' b' c' (ap (λ ms. length ms) less ∙ (let l = one_fewer 0 b.pending q is in omega (arith, l, count))) talks)

  pub left_alike : (s : TreeState) (t : CodeState) → IsLeaving s → code.IsLeaving t → Talk l body p s t → codes.to_close p t ≡ to_close s
  left_alike s t h k same =
      subst (λ u. codes.to_close p u ≡ to_close s) (sym k.is)
      (subst (λ r. codes.to_close p (amid fails (k.error ∷ []) k.activation k.captured) ≡ to_close r) (sym h.is)
      (same_left (length k.activation.pending) h.line h.error k.error h.activation k.activation k.captured refl
      (subst (λ u. Talk l body p (left_at h.line h.error h.activation) u) k.is (subst (λ r. Talk l body p r t) h.is same))))
