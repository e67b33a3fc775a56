-- How an activation returns values: its variables are closed first, the last one first, on both sides alike.
use Rattle.std.proofs.Common.{◌≡◌, ℕ, zero, suc, ◌+◌, ◌<◌, ◌≤◌, max, Bool, true, false, cond, ◌||◌, ◌&&◌, List, [], ◌∷◌, ◌++◌, length, drop, Option, Some, None, refl, sym, ap, ap₂, ◌∙◌, subst, arith}
use Rattle.std.specs.Prelude.{nat_le, nat_lt}
use borrow.Author.Tests.{le-leb}
use Rattle.int_core.specs.Value.{Value, known, nil, nth}
use Rattle.int_core.specs.Ask.{closes, leaves, returns, Reply, values, faulted, left, Captured, held_below, gone_from, shared_by, brought}
use Rattle.tree_activation.specs.Work.{Control, leave_scope, finish, when_captured, Work, Pending}
use Rattle.tree_activation.specs.Work as tree
use Rattle.tree_activation.specs.Asking.{go, asks}
use Rattle.tree_activation.specs.Asking as trees
use Rattle.tree_activation.specs.Activation.{step}
use Rattle.code_core.specs.Instruction.{opcode_of, a_of}
use Rattle.machine_core.specs.World as world
use Rattle.machine_core.specs.World.{returning}
use Rattle.machine_core.specs.Text as text
use Rattle.machine_core.specs.Text.{Text, read, written, own, read_registers, blanked, behind, is_pending, last_pending, without_pending, value_if, is_there}
use Rattle.machine_core.specs.InstructionRows.{rest_at, rest_by, returned_so, after, told_values}
use Rattle.machine_core.specs.InstructionRows as rows
use Rattle.machine_core.specs.Talk as code
use Rattle.machine_core.specs.Talk.{talk, talk_step, says_so, heard, amid}
use Rattle.machine_core.proofs.Pending.{last_from, without_from}
use Rattle.list_laws.proofs.Items.{append_nil, length_more}
use Rattle.list_laws.proofs.Ends.{Snoc, empty, with_last, snoc}
use Rattle.list_laws.proofs.Tests.{lt_true, or_left, or_right, both_true}
use Rattle.exp_laws.proofs.Registers.{Rel, marked_in}
use Rattle.list_laws.proofs.Values.{last_nth, drop_front}
use Rattle.exp_laws.specs.Setting.{Setting}
use Rattle.exp_laws.proofs.Talking.{Here, Agree, go_left, both_ask, of_tree, of_code}
use Rattle.exp_laws.proofs.Lists.{Holds, range_held}
use Rattle.exp_laws.proofs.Steps.{own_step}
use Rattle.list_laws.proofs.Held.{none_below, brought_none}
use Rattle.exp_laws.proofs.Leaving.{gone_all, length_blanked, blanked_keeps, marked_more, marked_fewer, is_pending_last, is_pending_more, Left, left_from, cut, cut_same, leave_one, leaves_so, faults_so}

behind_most : (from count i : ℕ) → i < count → from + i < behind from count
behind_most from zero i h = absurd (omega arith)
behind_most from (suc count) i h = omega arith

module _ (S : Setting) (from : ℕ) (vs : List Value) where
  abbrev count : ℕ
  count = length vs

  -- the registers of what is returned and of the variables still to be closed are kept
  abbrev keeps : List ℕ → ℕ → Bool
  keeps ms i = is_pending ms i || (nat_le from i && nat_lt i (from + count))

  abbrev size : ℕ
  size = max S.code.own.stack (behind from count)

  abbrev kept : List ℕ → List Value → List Value
  kept ms regs = blanked (keeps ms) 0 size regs

  kept_pending : (ms : List ℕ) (regs : List Value) (r : ℕ) → r < S.code.own.stack → is_pending ms r ≡ true → nth (kept ms regs) r ≡ nth regs r
  kept_pending ms regs r lt e = blanked_keeps (keeps ms) size regs r (omega arith) (or_left (is_pending ms r) (nat_le from r && nat_lt r (from + count)) e)

  kept_results : (ms : List ℕ) (regs : List Value) → Holds from count vs regs → Holds from count vs (kept ms regs)
  kept_results ms regs h i lt =
      let below = behind_most from count i lt in
      blanked_keeps (keeps ms) size regs (from + i) (omega (arith, below))
      (or_right (is_pending ms (from + i)) (nat_le from (from + i) && nat_lt (from + i) (from + count)) (both_true (nat_le from (from + i)) (nat_lt (from + i) (from + count)) (le-leb from (from + i) (omega arith)) (lt_true (from + i) (from + count) (omega (arith, lt)))))
      ∙ h i lt

  kept_left : (pending rest : List Pending) (env : List Value) (c : Captured) (regs shared : List Value) → Left S pending env c regs
      → ((r : ℕ) → is_pending (marked_in rest) r ≡ true → is_pending (marked_in pending) r ≡ true)
      → Left S rest (brought (held_below 0 c.held) shared env) (record { held = held_below 0 c.held; gone = [] }) (brought (held_below 0 c.held) shared (kept (marked_in rest) regs))
  kept_left pending rest env c regs shared l fewer = record {
    shared = ap (λ h. shared_by h (brought h shared env)) (none_below c.held) ∙ sym (ap (λ h. shared_by h (brought h shared (kept (marked_in rest) regs))) (none_below c.held));
    values = λ r e. let v = l.values r (fewer r e) in (
      ap (λ xs. nth xs r) (brought_none c.held shared env) ∙ v.0 ∙ sym (kept_pending (marked_in rest) regs r v.1 e) ∙ sym (ap (λ xs. nth xs r) (brought_none c.held shared (kept (marked_in rest) regs))),
      v.1,
    );
  }

  -- the code's side

  abbrev closing_text : (slot : ℕ) → (there : Option ℕ) → Text
  closing_text slot there = cond (is_there there) (text.close (read slot) (written nil) (returning count) (returned_so from count)) (own (read_registers from count) (λ w _. text.leave (text.results w)))

  returns_none : (had : List Value) (a : world.Activation) (c : Captured) → last_pending 0 a.pending ≡ None → behind from count ≤ length a.registers → Holds from count vs a.registers
      → talk S.code (rows.returns from count) had a c ≡ says_so (leaves (returns vs)) S.code a c (λ x b d. amid text.trap [] b d)
  returns_none had a c is wide held =
      ap (λ o. talk S.code (closing_text (length had) o) (had ++ value_if a.registers o) a c) is
      ∙ ap (λ l. talk S.code (closing_text (length had) None) l a c) (append_nil had)
      ∙ own_step S.code (read_registers from count) (λ w _. text.leave (text.results w)) had a c (le-leb (behind from count) (length a.registers) wide)
      ∙ ap (λ l. says_so (leaves (returns (drop (length had) (had ++ l)))) S.code a c (λ x b d. amid text.trap [] b d)) (range_held from vs a.registers held)
      ∙ ap (λ l. says_so (leaves (returns l)) S.code a c (λ x b d. amid text.trap [] b d)) (drop_front had vs)

  abbrev after_closing : (ms : List ℕ) → world.Activation → world.Activation
  after_closing ms a = record a { registers = kept ms a.registers; pending = ms; opened = 0 }

  returns_some : (had : List Value) (ms : List ℕ) (q : ℕ) (a : world.Activation) (c : Captured) → a.pending ≡ ms ++ q ∷ []
      → talk S.code (rows.returns from count) had a c ≡ says_so (closes (nth a.registers q) (known nil)) S.code (after_closing ms a) (cut S a.registers c) (λ x b d. heard (returning count) S.code x b d)
  returns_some had ms q a c is =
      let there : last_pending 0 a.pending ≡ Some q = ap (last_pending 0) is ∙ last_from 0 ms q (omega arith) in
      let fewer : without_pending 0 a.pending ≡ ms = ap (without_pending 0) is ∙ without_from 0 ms q (omega arith) in
      ap (λ o. talk S.code (closing_text (length had) o) (had ++ value_if a.registers o) a c) there
      ∙ ap₂ (λ v l. says_so (closes v (known nil)) S.code (after_closing l a) (cut S a.registers c) (λ x b d. heard (returning count) S.code x b d)) (last_nth had (nth a.registers q)) fewer

  returning_rest : (pc line : ℕ) (here : Here S pc line) → a_of here.word ≡ from → rest_at {V = Value} (returning count) S.code pc ≡ rows.returns from count
  returning_rest pc line here is =
      ap (λ o. elim o as (λ _. Text) [ None ↦ text.trap | Some w ↦ rest_by {V = Value} (returning count) S.code pc w (opcode_of w) ]) here.there
      ∙ ap (rest_by {V = Value} (returning count) S.code pc here.word) here.is ∙ ap (λ r. rows.returns r count) is

  abbrev done : ℕ → Control
  done line = finish line (returns vs)

  abbrev pub Returns : ℕ → Type 0
  Returns n =
      (pending : List Pending) (line pc opened : ℕ) (env regs had : List Value) (c : Captured) (q : code.State) → Left S pending env c regs → (here : Here S pc line) → a_of here.word ≡ from → behind from count ≤ length regs → Holds from count vs regs
      → talk_step S.code q ≡ talk S.code (rows.returns from count) had (of_code S pending pc regs opened) c
      → Agree S n (tree.at (leave_scope 0 line (known nil) (done line)) (of_tree S pending env c) []) q

  after_close : (n : ℕ) → Returns n → (pending : List Pending) (line pc opened : ℕ) (env regs : List Value) (c : Captured) → Left S pending env c regs → (here : Here S pc line) → a_of here.word ≡ from → behind from count ≤ length regs → Holds from count vs regs
      → (reply : Reply) → Agree S n (trees.heard reply line (of_tree S pending env c) [] (λ _. leave_scope 0 line (known nil) (done line)))
      (amid (after {V = Value} (returning count) S.code pc reply) (told_values (returning count) reply) (of_code S pending pc regs opened) c)
  after_close n returns_so pending line pc opened env regs c l here is wide held (values ws) =
      returns_so pending line pc opened env regs ws c _ l here is wide held (ap (λ x. talk S.code x ws (of_code S pending pc regs opened) c) (returning_rest pc line here is))
  after_close n returns_so pending line pc opened env regs c l here is wide held (faulted words) = faults_so S n pending line pc opened env regs c words _ _ l here refl refl
  after_close n returns_so pending line pc opened env regs c l here is wide held (left v) = leaves_so S n pending line pc opened env regs c v l here

  returns_step : (n : ℕ) → Returns n → (m : ℕ) (pending : List Pending) → Snoc pending → length pending ≤ m → (line pc opened : ℕ) (env regs had : List Value) (c : Captured) (q : code.State) → Left S pending env c regs → (here : Here S pc line) → a_of here.word ≡ from
      → behind from count ≤ length regs → Holds from count vs regs → talk_step S.code q ≡ talk S.code (rows.returns from count) had (of_code S pending pc regs opened) c
      → Agree S (suc n) (tree.at (leave_scope 0 line (known nil) (done line)) (of_tree S pending env c) []) q
  returns_step n returns_so m _ empty short line pc opened env regs had c q l here is wide held d =
      go_left S (suc n) _ (tree.at (done line) (record { celling = when_captured; locals = []; varargs = S.varargs; pending = []; captured = cut S env c }) []) _ refl
      (both_ask S n _ _ (leaves (returns vs)) (leaves (returns vs)) line _ _ _ _ _ refl (d ∙ returns_none had (of_code S [] pc regs opened) c refl wide held) refl refl here.lined
      (ap (λ h. shared_by h [] ++ (gone_from 0 c.held env ++ c.gone)) (none_below c.held) ∙ ap (λ g. g ++ c.gone) (gone_all c.held env ∙ l.shared))
      (λ x fits. absurd fits.reply))
  returns_step n returns_so zero _ (with_last ys y) short line pc opened env regs had c q l here is wide held d = let more = length_more ys y in absurd (omega (arith, more, short))
  returns_step n returns_so (suc m) _ (with_last ys y) short line pc opened env regs had c q l here is wide held d =
      by y.needed refl (λ needed. returns_step n returns_so m ys (snoc ys) (let more = length_more ys y in omega (arith, more, short)) line pc opened env regs had c q
      (record { shared = l.shared; values = λ r h. l.values r (ap (λ ms. is_pending ms r) (marked_fewer ys y needed) ∙ h) }) here is wide held
      (d ∙ ap (λ ms. talk S.code (rows.returns from count) had (record { pc = pc; registers = regs; varargs = S.varargs; pending = ms; opened = opened }) c) (marked_fewer ys y needed)))
    where
      tree_step : (b : Bool) → y.needed ≡ b
          → step (tree.at (leave_scope 0 line (known nil) (done line)) (of_tree S (ys ++ y ∷ []) env c) [])
          ≡ cond b (asks (closes (nth env y.number) (known nil)) line (of_tree S ys env (cut S env c)) [] (λ _. leave_scope 0 line (known nil) (done line))) (go (leave_scope 0 line (known nil) (done line)) (of_tree S ys env c) [])
      tree_step b needed =
          leave_one S ys y line (known nil) (done line) env c []
          ∙ ap (λ b. cond b (asks (closes (nth env y.number) (known nil)) line (of_tree S ys env (cut S env c)) [] (λ _. leave_scope 0 line (known nil) (done line))) (go (leave_scope 0 line (known nil) (done line)) (of_tree S ys env c) [])) needed

      by : (b : Bool) → y.needed ≡ b → (y.needed ≡ false → Agree S (suc n) (tree.at (leave_scope 0 line (known nil) (done line)) (of_tree S ys env c) []) q)
          → Agree S (suc n) (tree.at (leave_scope 0 line (known nil) (done line)) (of_tree S (ys ++ y ∷ []) env c) []) q
      by false needed fewer = go_left S (suc n) _ (tree.at (leave_scope 0 line (known nil) (done line)) (of_tree S ys env c) []) q (tree_step false needed) (fewer needed)
      by true needed fewer =
          let marks = marked_more ys y needed in
          let v = l.values y.number (ap (λ ms. is_pending ms y.number) marks ∙ is_pending_last (marked_in ys) y.number) in
          both_ask S n _ q (closes (nth env y.number) (known nil)) (closes (nth regs y.number) (known nil)) line _ _ _ _ _ (tree_step true needed)
          (d ∙ returns_some had (marked_in ys) y.number (of_code S (ys ++ y ∷ []) pc regs opened) c marks) (v.0, refl) refl here.lined
          (ap (λ h. shared_by h env ++ (gone_from 0 c.held env ++ c.gone)) (none_below c.held) ∙ cut_same S (ys ++ y ∷ []) env c regs l ∙ sym (ap (λ h. shared_by h (kept (marked_in ys) regs) ++ (gone_from 0 c.held regs ++ c.gone)) (none_below c.held)))
          (λ x fits. let same = brought_none c.held x.shared (kept (marked_in ys) regs) in
          after_close n returns_so ys line pc 0 (brought (held_below 0 c.held) x.shared env) (brought (held_below 0 c.held) x.shared (kept (marked_in ys) regs)) (record { held = held_below 0 c.held; gone = [] })
          (kept_left (ys ++ y ∷ []) ys env c regs x.shared l (λ r h. ap (λ ms. is_pending ms r) marks ∙ is_pending_more (marked_in ys) y.number r h)) here is
          (subst (λ xs. behind from count ≤ length xs) (sym same) (wide_kept (marked_in ys)))
          (subst (λ xs. Holds from count vs xs) (sym same) (kept_results (marked_in ys) regs held)) x.reply)
        where
          wide_kept : (ms : List ℕ) → behind from count ≤ length (kept ms regs)
          wide_kept ms = let enough = length_blanked (keeps ms) 0 size regs in omega (arith, enough)

  mutual
    returns_so : (n : ℕ) → Returns n
    returns_so zero pending line pc opened env regs had c q l here is wide held d = tt
    returns_so (suc n) pending line pc opened env regs had c q l here is wide held d = returns_step n (returns_so n) (length pending) pending (snoc pending) (omega arith) line pc opened env regs had c q l here is wide held d

  -- an activation that returns values, which stand in registers
  pub returns_alike : (n : ℕ) (pending : List Pending) (line pc opened : ℕ) (env regs had : List Value) (c : Captured) (q : code.State) → Rel S.hidden S.code.own.stack pending env c regs → (here : Here S pc line) → a_of here.word ≡ from → behind from count ≤ length regs
      → Holds from count vs regs → talk_step S.code q ≡ talk S.code (rows.returns from count) had (of_code S pending pc regs opened) c
      → Agree S n (tree.at (leave_scope 0 line (known nil) (finish line (returns vs))) (of_tree S pending env c) []) q
  returns_alike n pending line pc opened env regs had c q rel here is wide held d = returns_so n pending line pc opened env regs had c q (left_from S pending env c regs rel) here is wide held d
