-- How an activation is left by an error: its captured locals are cut loose and its variables are closed, on both sides alike.
use borrow.Author.Tests.{le-leb}
use Rattle.std.proofs.Common.{◌≡◌, ℕ, zero, suc, ◌+◌, ◌<◌, ◌≤◌, Bool, true, false, cond, ◌||◌, List, [], ◌∷◌, ◌++◌, length, Option, Some, None, refl, sym, ap, subst, ◌∙◌, arith}
use Rattle.std.specs.Prelude.{nat_eq, nat_le}
use Rattle.int_core.specs.Value.{Value, known, nil, nth, bind}
use Rattle.int_core.specs.Ask.{closes, raises, leaves, Reply, values, faulted, left, throws, Captured, Answer, IsLeft, held_below, gone_from, shared_by, brought}
use Rattle.tree_activation.specs.Work.{Control, leave_scope, finish, over, Work, when_captured, Pending}
use Rattle.tree_activation.specs.Work as tree
use Rattle.tree_activation.specs.Asking.{go, asks, leave_by, raises_fault}
use Rattle.tree_activation.specs.Asking as trees
use Rattle.tree_activation.specs.Activation.{step}
use Rattle.code_core.specs.Instruction.{opcode_of}
use Rattle.machine_core.specs.World as world
use Rattle.machine_core.specs.World.{leaving}
use Rattle.machine_core.specs.Text as text
use Rattle.machine_core.specs.Text.{Text, blanked, is_pending, last_pending, without_pending, value_if, is_there, close_cells, keep_pending, done}
use Rattle.machine_core.specs.InstructionRows.{fails, rest_at, rest_by, left_so, after, told_values}
use Rattle.machine_core.specs.Talk as code
use Rattle.machine_core.specs.Talk.{talk, talk_step, says_so, heard, before, amid, captured_done}
use Rattle.machine_core.proofs.Pending.{last_from, without_from}
use Rattle.list_laws.proofs.Ends.{last_is, without_last_is}
use Rattle.list_laws.proofs.Items.{length_more}
use Rattle.list_laws.proofs.Tests.{eq_refl, eq_true, lt_not, or_right}
use Rattle.exp_laws.proofs.Registers.{Rel, marked_in, Ascends, held_same}
use Rattle.exp_laws.specs.Setting.{Setting}
use Rattle.exp_laws.proofs.Talking.{Here, Agree, go_left, both_ask, of_tree, of_code}
use Rattle.list_laws.proofs.Ends.{Snoc, empty, with_last, snoc}
use Rattle.list_laws.proofs.Held.{none_below, brought_none}

-- cells cut loose

pub gone_all : (held : List (ℕ × ℕ)) (xs : List Value) → gone_from 0 held xs ≡ shared_by held xs
gone_all [] xs = refl
gone_all (h ∷ held) xs =
    ap (λ b. cond b (gone_from 0 held xs) ((h.1, nth xs h.0) ∷ gone_from 0 held xs)) (lt_not h.0 0 (λ l. omega arith)) ∙ ap (λ l. (h.1, nth xs h.0) ∷ l) (gone_all held xs)

-- registers that are kept

nth_blanked : (keeps : ℕ → Bool) (i count : ℕ) (regs : List Value) (r : ℕ) → r < count → keeps (i + r) ≡ true → nth (blanked keeps i count regs) r ≡ nth regs (i + r)
nth_blanked keeps i zero regs r h e = absurd (omega arith)
nth_blanked keeps i (suc count) regs zero h e =
    let at : i + 0 ≡ i = omega arith in
    ap (λ b. cond b (nth regs i) (known nil)) (ap keeps (sym at) ∙ e) ∙ ap (nth regs) (sym at)
nth_blanked keeps i (suc count) regs (suc r) h e =
    let at : suc i + r ≡ i + suc r = omega arith in
    nth_blanked keeps (suc i) count regs r (omega arith) (ap keeps at ∙ e) ∙ ap (nth regs) at

pub length_blanked : (keeps : ℕ → Bool) (i count : ℕ) (regs : List Value) → length (blanked keeps i count regs) ≡ count
length_blanked keeps i zero regs = refl
length_blanked keeps i (suc count) regs = ap suc (length_blanked keeps (suc i) count regs)

pub blanked_keeps : (keeps : ℕ → Bool) (count : ℕ) (regs : List Value) (r : ℕ) → r < count → keeps r ≡ true → nth (blanked keeps 0 count regs) r ≡ nth regs r
blanked_keeps keeps count regs r h e =
    let at : 0 + r ≡ r = omega arith in
    nth_blanked keeps 0 count regs r h (ap keeps at ∙ e) ∙ ap (nth regs) at

-- the last variable to be closed

push_either : (b : Bool) (q r : ℕ) (ms : List ℕ) → cond b (q ∷ (ms ++ r ∷ [])) (ms ++ r ∷ []) ≡ cond b (q ∷ ms) ms ++ r ∷ []
push_either true q r ms = refl
push_either false q r ms = refl

pub marked_more : (ps : List Pending) (p : Pending) → p.needed ≡ true → marked_in (ps ++ p ∷ []) ≡ marked_in ps ++ p.number ∷ []
marked_more [] p e = ap (λ b. cond b (p.number ∷ []) []) e
marked_more (q ∷ ps) p e = ap (λ l. cond q.needed (q.number ∷ l) l) (marked_more ps p e) ∙ push_either q.needed q.number p.number (marked_in ps)

pub marked_fewer : (ps : List Pending) (p : Pending) → p.needed ≡ false → marked_in (ps ++ p ∷ []) ≡ marked_in ps
marked_fewer [] p e = ap (λ b. cond b (p.number ∷ []) []) e
marked_fewer (q ∷ ps) p e = ap (λ l. cond q.needed (q.number ∷ l) l) (marked_fewer ps p e)

or_more : (b c d : Bool) → (c ≡ true → d ≡ true) → (b || c) ≡ true → (b || d) ≡ true
or_more true c d f e = refl
or_more false c d f e = f e

pub is_pending_last : (ms : List ℕ) (q : ℕ) → is_pending (ms ++ q ∷ []) q ≡ true
is_pending_last [] q = ap (λ b. b || false) (eq_refl q)
is_pending_last (m ∷ ms) q = or_right (nat_eq q m) (is_pending (ms ++ q ∷ []) q) (is_pending_last ms q)

pub is_pending_more : (ms : List ℕ) (q r : ℕ) → is_pending ms r ≡ true → is_pending (ms ++ q ∷ []) r ≡ true
is_pending_more [] q r e = absurd (cc)
is_pending_more (m ∷ ms) q r e = or_more (nat_eq r m) (is_pending ms r) (is_pending (ms ++ q ∷ []) r) (is_pending_more ms q r) e

either_below : (b : Bool) (r q to : ℕ) (more : Bool) → nat_eq r q ≡ b → q < to → (more ≡ true → r < to) → (b || more) ≡ true → r < to
either_below true r q to more same below f e = subst (λ n. n < to) (sym (eq_true r q same)) below
either_below false r q to more same below f e = f e

needed_below : (b : Bool) (r q to : ℕ) (ms : List ℕ) → q < to → (is_pending ms r ≡ true → r < to) → is_pending (cond b (q ∷ ms) ms) r ≡ true → r < to
needed_below true r q to ms below f e = either_below (nat_eq r q) r q to (is_pending ms r) refl below f e
needed_below false r q to ms below f e = f e

pending_below : (from : ℕ) (ps : List Pending) (to : ℕ) → Ascends from ps to → (r : ℕ) → is_pending (marked_in ps) r ≡ true → r < to
pending_below from [] to h r e = absurd (cc)
pending_below from (p ∷ ps) to h r e = needed_below p.needed r p.number to (marked_in ps) h.1.0 (pending_below (suc p.number) ps to h.1.1 r) e

module _ (S : Setting) where
  -- what both still have in common once an activation is being left
  pub record Left (pending : List Pending) (env : List Value) (c : Captured) (regs : List Value) : Type 0 where
    pub shared : shared_by c.held env ≡ shared_by c.held regs
    pub values : (r : ℕ) → is_pending (marked_in pending) r ≡ true → (nth env r ≡ nth regs r) × (r < S.code.own.stack)

  pub left_from : (pending : List Pending) (env : List Value) (c : Captured) (regs : List Value) → Rel S.hidden S.code.own.stack pending env c regs → Left pending env c regs
  left_from pending env c regs rel = record {
    shared = held_same S.hidden S.code.own.stack pending env c regs rel;
    values = λ r e. let below = pending_below 0 pending (length env) rel.ascends r e in (rel.agree r below, omega (arith, below, rel.fits));
  }

  abbrev pub cut : List Value → Captured → Captured
  cut xs c = record { held = held_below 0 c.held; gone = gone_from 0 c.held xs ++ c.gone }

  pub cut_same : (pending : List Pending) (env : List Value) (c : Captured) (regs : List Value) → Left pending env c regs → gone_from 0 c.held env ++ c.gone ≡ gone_from 0 c.held regs ++ c.gone
  cut_same pending env c regs l = ap (λ g. g ++ c.gone) (gone_all c.held env ∙ l.shared ∙ sym (gone_all c.held regs))

  abbrev kept : List ℕ → List Value → List Value
  kept ms regs = blanked (is_pending ms) 0 S.code.own.stack regs

  -- once its cells are cut loose and all registers but those to be closed are nil
  left_so_far : (pending rest : List Pending) (env : List Value) (c : Captured) (regs shared : List Value) → Left pending env c regs
      → ((r : ℕ) → is_pending (marked_in rest) r ≡ true → is_pending (marked_in pending) r ≡ true)
      → Left rest (brought (held_below 0 c.held) shared env) (record { held = held_below 0 c.held; gone = [] }) (brought (held_below 0 c.held) shared (kept (marked_in rest) regs))
  left_so_far pending rest env c regs shared l fewer = record {
    shared = ap (λ h. shared_by h (brought h shared env)) (none_below c.held) ∙ sym (ap (λ h. shared_by h (brought h shared (kept (marked_in rest) regs))) (none_below c.held));
    values = λ r e. let v = l.values r (fewer r e) in (
      ap (λ xs. nth xs r) (brought_none c.held shared env) ∙ v.0 ∙ sym (blanked_keeps (is_pending (marked_in rest)) S.code.own.stack regs r v.1 e) ∙ sym (ap (λ xs. nth xs r) (brought_none c.held shared (kept (marked_in rest) regs))),
      v.1,
    );
  }

  -- the code's side, step by step

  abbrev closing_text : (there : Option ℕ) → Text
  closing_text there = cond (is_there there) (text.close (text.read 1) (text.read 0) (leaving (text.read 0)) left_so) (text.leave (text.thrown (text.read 0)))

  fails_none : (e : Value) (a : world.Activation) (c : Captured) → last_pending 0 a.pending ≡ None
      → talk S.code fails (e ∷ []) a c ≡ says_so (leaves (throws e)) S.code a c (λ x b d. amid text.trap [] b d)
  fails_none e a c is = ap (λ o. talk S.code (closing_text o) (e ∷ value_if a.registers o) a c) is

  abbrev after_closing : (ms : List ℕ) → world.Activation → world.Activation
  after_closing ms a = record a { registers = kept ms a.registers; pending = ms; opened = 0 }

  fails_some : (e : Value) (ms : List ℕ) (q : ℕ) (a : world.Activation) (c : Captured) → a.pending ≡ ms ++ q ∷ []
      → talk S.code fails (e ∷ []) a c ≡ says_so (closes (nth a.registers q) e) S.code (after_closing ms a) (cut a.registers c) (λ x b d. heard (leaving e) S.code x b d)
  fails_some e ms q a c is =
      let there : last_pending 0 a.pending ≡ Some q = ap (last_pending 0) is ∙ last_from 0 ms q (omega arith) in
      let fewer : without_pending 0 a.pending ≡ ms = ap (without_pending 0) is ∙ without_from 0 ms q (omega arith) in
      ap (λ o. talk S.code (closing_text o) (e ∷ value_if a.registers o) a c) there
      ∙ ap (λ l. says_so (closes (nth a.registers q) e) S.code (after_closing l a) (cut a.registers c) (λ x b d. heard (leaving e) S.code x b d)) fewer

  -- an instruction that waits to be left goes on by leaving
  leaving_rest : (e : Value) (pc line : ℕ) → Here S pc line → rest_at {V = Value} (leaving e) S.code pc ≡ fails
  leaving_rest e pc line here =
      ap (λ o. elim o as (λ _. Text) [ None ↦ text.trap | Some w ↦ rest_by {V = Value} (leaving e) S.code pc w (opcode_of w) ]) here.there
      ∙ ap (rest_by {V = Value} (leaving e) S.code pc here.word) here.is

  -- the tree's side

  pub leave_one : (ys : List Pending) (y : Pending) (line : ℕ) (e : Value) (next : Control) (env : List Value) (c : Captured) (k : List Work)
      → step (tree.at (leave_scope 0 line e next) (of_tree S (ys ++ y ∷ []) env c) k)
      ≡ cond y.needed (asks (closes (nth env y.number) e) line (of_tree S ys env (cut env c)) k (λ _. leave_scope 0 line e next)) (go (leave_scope 0 line e next) (of_tree S ys env c) k)
  leave_one ys y line e next env c k =
      ap (λ o. leave_by o 0 line e next (of_tree S (ys ++ y ∷ []) env c) k) (ap (λ o. bind o (λ p. cond (nat_le 0 p.number) (Some p) None)) (last_is ys y) ∙ ap (λ b. cond b (Some y) None) (le-leb 0 y.number (omega arith)))
      ∙ ap (λ l. cond y.needed (asks (closes (nth env y.number) e) line (of_tree S l env (cut env c)) k (λ _. leave_scope 0 line e next)) (go (leave_scope 0 line e next) (of_tree S l env c) k)) (without_last_is ys y)

  abbrev pub Leaves : ℕ → Type 0
  Leaves n =
      (pending : List Pending) (line pc opened : ℕ) (env regs : List Value) (c : Captured) (e : Value) → Left pending env c regs → Here S pc line
      → Agree S n (tree.at (leave_scope 0 line e (finish line (throws e))) (of_tree S pending env c) []) (amid fails (e ∷ []) (of_code S pending pc regs opened) c)

  abbrev pub Faults : ℕ → Type 0
  Faults n =
      (pending : List Pending) (line pc opened : ℕ) (env regs : List Value) (c : Captured) (words : List ℕ) (s : tree.State) (t : code.State) → Left pending env c regs → Here S pc line
      → step s ≡ raises_fault line words (of_tree S pending env c) → talk_step S.code t ≡ talk S.code (text.raise words) [] (of_code S pending pc regs opened) c → Agree S n s t

  -- what follows the answer to a closing method's call, where fewer variables are left to be closed
  after_close : (n : ℕ) → Leaves n → Faults n → (pending : List Pending) (line pc opened : ℕ) (env regs : List Value) (c : Captured) (e : Value) → Left pending env c regs → Here S pc line
      → (reply : Reply) → Agree S n (trees.heard reply line (of_tree S pending env c) [] (λ _. leave_scope 0 line e (finish line (throws e)))) (amid (after {V = Value} (leaving e) S.code pc reply) (told_values (leaving e) reply) (of_code S pending pc regs opened) c)
  after_close n leaves_so faults_so pending line pc opened env regs c e l here (values vs) =
      subst (λ x. Agree S n (tree.at (leave_scope 0 line e (finish line (throws e))) (of_tree S pending env c) []) (amid x (e ∷ []) (of_code S pending pc regs opened) c)) (sym (leaving_rest e pc line here))
      (leaves_so pending line pc opened env regs c e l here)
  after_close n leaves_so faults_so pending line pc opened env regs c e l here (faulted words) = faults_so pending line pc opened env regs c words _ _ l here refl refl
  after_close n leaves_so faults_so pending line pc opened env regs c e l here (left v) = leaves_so pending line pc opened env regs c v l here

  leaves_step : (n : ℕ) → Leaves n → Faults n → (m : ℕ) (pending : List Pending) → length pending ≤ m → (line pc opened : ℕ) (env regs : List Value) (c : Captured) (e : Value) → Left pending env c regs → Here S pc line
      → Agree S (suc n) (tree.at (leave_scope 0 line e (finish line (throws e))) (of_tree S pending env c) []) (amid fails (e ∷ []) (of_code S pending pc regs opened) c)
  leaves_step n leaves_so faults_so m pending short line pc opened env regs c e l here = by m pending (snoc pending) short l
    where
      ends : Left [] env c regs → Agree S (suc n) (tree.at (leave_scope 0 line e (finish line (throws e))) (of_tree S [] env c) []) (amid fails (e ∷ []) (of_code S [] pc regs opened) c)
      ends l =
          go_left S (suc n) _ (tree.at (finish line (throws e)) (record { celling = when_captured; locals = []; varargs = S.varargs; pending = []; captured = cut env c }) []) _ refl
          (both_ask S n _ _ (leaves (throws e)) (leaves (throws e)) line _ _ _ _ _ refl (fails_none e (of_code S [] pc regs opened) c refl) refl refl here.lined
          (ap (λ h. shared_by h [] ++ (gone_from 0 c.held env ++ c.gone)) (none_below c.held) ∙ ap (λ g. g ++ c.gone) (gone_all c.held env ∙ l.shared))
          (λ x fits. absurd fits.reply))

      closed : (ys : List Pending) (y : Pending) (b : Bool) → y.needed ≡ b → Left (ys ++ y ∷ []) env c regs
          → (y.needed ≡ false → Agree S (suc n) (tree.at (leave_scope 0 line e (finish line (throws e))) (of_tree S ys env c) []) (amid fails (e ∷ []) (of_code S ys pc regs opened) c))
          → Agree S (suc n) (tree.at (leave_scope 0 line e (finish line (throws e))) (of_tree S (ys ++ y ∷ []) env c) []) (amid fails (e ∷ []) (of_code S (ys ++ y ∷ []) pc regs opened) c)
      closed ys y false needed l fewer =
          subst (λ ms. Agree S (suc n) (tree.at (leave_scope 0 line e (finish line (throws e))) (of_tree S (ys ++ y ∷ []) env c) []) (amid fails (e ∷ []) (record { pc = pc; registers = regs; varargs = S.varargs; pending = ms; opened = opened }) c)) (sym (marked_fewer ys y needed))
          (go_left S (suc n) _ (tree.at (leave_scope 0 line e (finish line (throws e))) (of_tree S ys env c) []) _
          (leave_one ys y line e (finish line (throws e)) env c [] ∙ ap (λ b. cond b (asks (closes (nth env y.number) e) line (of_tree S ys env (cut env c)) [] (λ _. leave_scope 0 line e (finish line (throws e)))) (go (leave_scope 0 line e (finish line (throws e))) (of_tree S ys env c) [])) needed)
          (fewer needed))
      closed ys y true needed l fewer =
          let marks = marked_more ys y needed in
          let rest : (r : ℕ) → is_pending (marked_in ys) r ≡ true → is_pending (marked_in (ys ++ y ∷ [])) r ≡ true = λ r h. ap (λ ms. is_pending ms r) marks ∙ is_pending_more (marked_in ys) y.number r h in
          let v = l.values y.number (ap (λ ms. is_pending ms y.number) marks ∙ is_pending_last (marked_in ys) y.number) in
          both_ask S n _ _ (closes (nth env y.number) e) (closes (nth regs y.number) e) line _ _ _ _ _
          (leave_one ys y line e (finish line (throws e)) env c [] ∙ ap (λ b. cond b (asks (closes (nth env y.number) e) line (of_tree S ys env (cut env c)) [] (λ _. leave_scope 0 line e (finish line (throws e)))) (go (leave_scope 0 line e (finish line (throws e))) (of_tree S ys env c) [])) needed)
          (fails_some e (marked_in ys) y.number (of_code S (ys ++ y ∷ []) pc regs opened) c marks) (v.0, refl) refl here.lined
          (ap (λ h. shared_by h env ++ (gone_from 0 c.held env ++ c.gone)) (none_below c.held) ∙ cut_same (ys ++ y ∷ []) env c regs l ∙ sym (ap (λ h. shared_by h (kept (marked_in ys) regs) ++ (gone_from 0 c.held regs ++ c.gone)) (none_below c.held)))
          (λ x fits. after_close n leaves_so faults_so ys line pc 0 (brought (held_below 0 c.held) x.shared env) (brought (held_below 0 c.held) x.shared (kept (marked_in ys) regs)) (record { held = held_below 0 c.held; gone = [] }) e
          (left_so_far (ys ++ y ∷ []) ys env c regs x.shared l rest) here x.reply)

      by : (m : ℕ) (pending : List Pending) → Snoc pending → length pending ≤ m → Left pending env c regs
          → Agree S (suc n) (tree.at (leave_scope 0 line e (finish line (throws e))) (of_tree S pending env c) []) (amid fails (e ∷ []) (of_code S pending pc regs opened) c)
      by m _ empty short l = ends l
      by zero _ (with_last ys y) short l = let size = length_more ys y in absurd (omega (arith, size))
      by (suc m) _ (with_last ys y) short l =
          let size = length_more ys y in
          closed ys y y.needed refl l
          (λ needed. by m ys (snoc ys) (omega (arith, size)) (record { shared = l.shared; values = λ r h. l.values r (ap (λ ms. is_pending ms r) (marked_fewer ys y needed) ∙ h) }))

  faults_step : (n : ℕ) → Leaves n → Faults (suc n)
  faults_step n leaves_so pending line pc opened env regs c words s t l here e d =
      both_ask S n s t (raises words) (raises words) line _ _ _ _ _ e d refl refl here.lined
      (ap (λ h. shared_by h env ++ (gone_from 0 c.held env ++ c.gone)) (none_below c.held) ∙ cut_same pending env c regs l ∙ sym (ap (λ h. shared_by h (kept (marked_in pending) regs) ++ (gone_from 0 c.held regs ++ c.gone)) (none_below c.held)))
      (λ x fits. by x x.reply fits.reply)
    where
      by : (x : Answer) (reply : Reply) → IsLeft reply
          → Agree S n (trees.heard reply line (of_tree S pending (brought (held_below 0 c.held) x.shared env) (record { held = held_below 0 c.held; gone = [] })) [] (λ _. over))
          (amid (after {V = Value} (leaving (known nil)) S.code pc reply) (told_values (leaving (known nil)) reply) (of_code S pending pc (brought (held_below 0 c.held) x.shared (kept (marked_in pending) regs)) 0) (record { held = held_below 0 c.held; gone = [] }))
      by x (left v) fits = leaves_so pending line pc 0 (brought (held_below 0 c.held) x.shared env) (brought (held_below 0 c.held) x.shared (kept (marked_in pending) regs)) (record { held = held_below 0 c.held; gone = [] }) v (left_so_far pending pending env c regs x.shared l (λ r h. h)) here
      by x (values vs) fits = absurd fits
      by x (faulted text) fits = absurd fits

  mutual
    pub leaves_so : (n : ℕ) → Leaves n
    leaves_so zero pending line pc opened env regs c e l here = tt
    leaves_so (suc n) pending line pc opened env regs c e l here = leaves_step n (leaves_so n) (faults_so n) (length pending) pending (omega arith) line pc opened env regs c e l here

    pub faults_so : (n : ℕ) → Faults n
    faults_so zero pending line pc opened env regs c words s t l here e d = tt
    faults_so (suc n) pending line pc opened env regs c words s t l here e d = faults_step n (leaves_so n) pending line pc opened env regs c words s t l here e d

  -- an activation that is left with an error from above
  pub leaves_alike : (n : ℕ) (pending : List Pending) (line pc opened : ℕ) (env regs : List Value) (c : Captured) (e : Value) → Rel S.hidden S.code.own.stack pending env c regs → Here S pc line
      → Agree S n (tree.at (leave_scope 0 line e (finish line (throws e))) (of_tree S pending env c) []) (amid fails (e ∷ []) (of_code S pending pc regs opened) c)
  leaves_alike n pending line pc opened env regs c e rel here = leaves_so n pending line pc opened env regs c e (left_from pending env c regs rel) here

  -- an activation whose own step is at fault
  pub faults_alike : (n : ℕ) (pending : List Pending) (line pc opened : ℕ) (env regs : List Value) (c : Captured) (words : List ℕ) (s : tree.State) (t : code.State) → Rel S.hidden S.code.own.stack pending env c regs → Here S pc line
      → step s ≡ raises_fault line words (of_tree S pending env c) → talk_step S.code t ≡ talk S.code (text.raise words) [] (of_code S pending pc regs opened) c → Agree S n s t
  faults_alike n pending line pc opened env regs c words s t rel here e d = faults_so n pending line pc opened env regs c words s t (left_from pending env c regs rel) here e d
