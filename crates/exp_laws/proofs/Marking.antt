-- A variable to be closed is marked as it is declared, where it is neither nil nor false.
use Rattle.std.proofs.Common.{◌≡◌, ℕ, zero, suc, ◌+◌, ◌<◌, ◌≤◌, ◌^◌, Bool, true, false, cond, List, [], ◌∷◌, ◌++◌, length, Some, refl, sym, ap, ◌∙◌, subst, arith}
use Rattle.std.specs.Prelude.{codes}
use borrow.Author.Tests.{lt-ltb}
use Rattle.int_core.specs.Value.{Value, nth, shape, holds}
use Rattle.int_core.specs.Ask.{marks, Reply, values, faulted, left, Captured, brought, IsChecked}
use Rattle.tree_activation.specs.Work.{Control, mark, Work, Pending}
use Rattle.tree_activation.specs.Work as tree
use Rattle.tree_activation.specs.Asking.{go, with_pending}
use Rattle.tree_activation.specs.Asking as trees
use Rattle.code_core.specs.declared.opcode.Opcode.TheVariants.{Tbc}
use Rattle.code_core.specs.declared.instruction.Instruction.{Instruction}
use Rattle.code_core.specs.Instruction.{abc}
use Rattle.code_core.specs.Prototype.{Prototype}
use Rattle.code_core.specs.Check.{at}
use Rattle.code_core.proofs.FieldLemmas.{opcode_of-abc, a_of-abc}
use Rattle.machine_core.specs.World as world
use Rattle.machine_core.specs.Text.{Text, read, read_register, mark_pending, closable}
use Rattle.machine_core.specs.InstructionRows.{next, then, variable_name}
use Rattle.machine_core.specs.InstructionRows as rows
use Rattle.machine_core.specs.Talk.{before, amid, talk, talk_step, marked}
use Rattle.code_of.specs.Coded.{with_abc}
use Rattle.exp_laws.proofs.Registers.{Rel, marked_in, Ascends, told, share_same, after_share}
use Rattle.exp_laws.specs.Setting.{Setting}
use Rattle.exp_laws.proofs.Talking.{Agree, down, go_left, go_right, both_mark, of_tree, of_code}
use Rattle.exp_laws.proofs.Placing.{HasAt, here_abc}
use Rattle.exp_laws.proofs.Leaving.{marked_more, marked_fewer, faults_alike}
use Rattle.exp_laws.proofs.Going.{next_there}
use Rattle.exp_laws.proofs.Steps.{row_step, own_step, go_step}

-- the text of TBC once the value is known
abbrev marking : (p : Prototype) → (pc t : ℕ) → Bool → Text
marking p pc t b = cond b (closable (read 0) (variable_name p pc t) (then (mark_pending t) next)) next

mark_step : (p : Prototype) (t : ℕ) (a : world.Activation) (c : Captured) → at p a.pc ≡ Some (abc Tbc t 0 0 false) → t < 2 ^ 8 → t < length a.registers
    → talk_step p (before a c) ≡ talk p (marking p a.pc t (holds (shape (nth a.registers t)))) (nth a.registers t ∷ []) a c
mark_step p t a c here fits room =
    row_step p (abc Tbc t 0 0 false) Tbc (rows.marks p a.pc t next) a c here (opcode_of-abc Tbc t 0 0 false)
    (ap (λ r. rows.marks p a.pc r next) (a_of-abc Tbc t 0 0 false fits))
    ∙ own_step p (read_register t) (λ v s. cond (holds s) (closable (read v) (variable_name p a.pc t) (then (mark_pending t) next)) next) [] a c (lt-ltb t (length a.registers) room)

-- a further variable, behind the others
pub ascends_more : (from : ℕ) (ps : List Pending) (t to : ℕ) (needed : Bool) → Ascends from ps t → from ≤ t → t < to → Ascends from (ps ++ record { number = t; needed = needed } ∷ []) to
ascends_more from [] t to needed h le lt = (le, (lt, tt))
ascends_more from (p ∷ ps) t to needed h le lt =
    let below = h.1.0 in
    (h.0, (omega (arith, below, lt), ascends_more (suc p.number) ps t to needed h.1.1 (omega (arith, below)) lt))

module _ (S : Setting) (pending : List Pending) where
  abbrev pub with_one : ℕ → Bool → List Pending
  with_one t needed = pending ++ record { number = t; needed = needed } ∷ []

  rel_marked : (t : ℕ) (needed : Bool) (env : List Value) (c : Captured) (regs : List Value) → Ascends 0 pending t → t < length env → Rel S.hidden S.code.own.stack pending env c regs → Rel S.hidden S.code.own.stack (with_one t needed) env c regs
  rel_marked t needed env c regs above lt rel =
      record { agree = rel.agree; held = rel.held; hides = rel.hides; ascends = ascends_more 0 pending t (length env) needed above (omega arith) lt; fits = rel.fits; room = rel.room }

  -- code goes on as the tree does with the variable among those to be closed
  abbrev pub GoesMarked : (n size t pc opened : ℕ) → Control → List Work → Type 0
  GoesMarked n size t pc opened next_of k =
      (needed : Bool) (env1 regs1 : List Value) (c1 : Captured) → length env1 ≡ size → Rel S.hidden S.code.own.stack (with_one t needed) env1 c1 regs1
      → Agree S n (tree.at next_of (of_tree S (with_one t needed) env1 c1) k) (before (of_code S (with_one t needed) pc regs1 opened) c1)

  -- the name is known where lines are
  pub mark_goes : (n line t pc opened : ℕ) (name : List ℕ) (next_of : Control) (env regs : List Value) (c : Captured) (k : List Work) → HasAt S pc (with_abc Tbc t 0 0 line ∷ []) → pc + 1 < length S.code.own.code
      → variable_name S.code pc t ≡ cond S.lines name (codes "?") → Ascends 0 pending t → t < length env → Rel S.hidden S.code.own.stack pending env c regs → GoesMarked n (length env) t (pc + 1) opened next_of k
      → Agree S n (tree.at (mark line name t next_of) (of_tree S pending env c) k) (before (of_code S pending pc regs opened) c)
  mark_goes n line t pc opened name next_of env regs c k has inside named above lt rel goes = by (holds (shape (nth env t))) refl
    where
      there : (w : Instruction) × (at S.code (pc + 1) ≡ Some w)
      there = next_there S (pc + 1) inside

      reads : talk_step S.code (before (of_code S pending pc regs opened) c) ≡ talk S.code (marking S.code pc t (holds (shape (nth env t)))) (nth regs t ∷ []) (of_code S pending pc regs opened) c
      reads =
          mark_step S.code t (of_code S pending pc regs opened) c has.0 (omega (arith, lt, rel.fits, S.small)) (omega (arith, lt, rel.fits, rel.room))
          ∙ ap (λ v. talk S.code (marking S.code pc t (holds (shape v))) (nth regs t ∷ []) (of_code S pending pc regs opened) c) (sym (rel.agree t lt))

      -- the mark is set
      sets : (n : ℕ) (env1 regs1 had : List Value) (c1 : Captured) → length env1 ≡ length env → Rel S.hidden S.code.own.stack pending env1 c1 regs1 → GoesMarked n (length env) t (pc + 1) opened next_of k
          → Agree S n (tree.at next_of (of_tree S (with_one t true) env1 c1) k) (amid (then (mark_pending t) next) had (of_code S pending pc regs1 opened) c1)
      sets n env1 regs1 had c1 size rel1 goes =
          let more = marked_more pending (record { number = t; needed = true }) refl in
          go_right S n _ _ (before (record { pc = pc + 1; registers = regs1; varargs = S.varargs; pending = marked_in pending ++ t ∷ []; opened = opened }) c1)
          (own_step S.code (mark_pending t) (λ _ _. next) had (of_code S pending pc regs1 opened) c1 (lt-ltb t (length regs1) (omega (arith, lt, rel.fits, rel1.room)))
          ∙ go_step S.code 1 there.0 (had ++ []) (record { pc = pc; registers = regs1; varargs = S.varargs; pending = marked_in pending ++ t ∷ []; opened = opened }) c1 there.1)
          (subst (λ ms. Agree S n (tree.at next_of (of_tree S (with_one t true) env1 c1) k) (before (record { pc = pc + 1; registers = regs1; varargs = S.varargs; pending = ms; opened = opened }) c1)) more
          (goes true env1 regs1 c1 size (rel_marked t true env1 c1 regs1 above (omega (arith, lt, size)) rel1)))

      asked : (n : ℕ) → holds (shape (nth env t)) ≡ true → GoesMarked n (length env) t (pc + 1) opened next_of k → Agree S n (tree.at (mark line name t next_of) (of_tree S pending env c) k) (before (of_code S pending pc regs opened) c)
      asked zero is goes = tt
      asked (suc n) is goes =
          both_mark S n _ _ (nth env t) (nth regs t) name (variable_name S.code pc t) line _ _ _ _ _
          (ap (λ b. cond b (trees.says_so (marks (nth env t) name) line (of_tree S pending env c) (λ x b. trees.marked x.reply line t next_of b k)) (go next_of (with_pending (of_tree S pending env c) t false) k)) is)
          (reads ∙ ap (λ b. talk S.code (marking S.code pc t b) (nth regs t ∷ []) (of_code S pending pc regs opened) c) is)
          (rel.agree t lt) named (here_abc S Tbc t 0 0 false line pc [] has).lined (share_same S.hidden S.code.own.stack pending env c regs rel) (λ x fits. answered x.shared x.reply fits)
        where
          answered : (shared : List Value) (reply : Reply) → IsChecked reply
              → Agree S n (trees.marked reply line t next_of (of_tree S pending (brought c.held shared env) (told c)) k)
              (amid (marked (then (mark_pending t) next) S.code pc reply) (nth regs t ∷ []) (of_code S pending pc (brought c.held shared regs) opened) (told c))
          answered shared (values vs) fits =
              let af = after_share S.hidden S.code.own.stack pending env regs shared c t rel in
              down S n _ _ (sets (suc n) (brought c.held shared env) (brought c.held shared regs) (nth regs t ∷ []) (told c) af.size af.rel goes)
          answered shared (faulted words) fits =
              faults_alike S n pending line pc opened (brought c.held shared env) (brought c.held shared regs) (told c) words _ _ (after_share S.hidden S.code.own.stack pending env regs shared c t rel).rel (here_abc S Tbc t 0 0 false line pc [] has) refl refl
          answered shared (left e) fits = absurd fits

      by : (b : Bool) → holds (shape (nth env t)) ≡ b → Agree S n (tree.at (mark line name t next_of) (of_tree S pending env c) k) (before (of_code S pending pc regs opened) c)
      by true is = asked n is goes
      by false is =
          let fewer = marked_fewer pending (record { number = t; needed = false }) refl in
          go_left S n _ (tree.at next_of (of_tree S (with_one t false) env c) k) _
          (ap (λ b. cond b (trees.says_so (marks (nth env t) name) line (of_tree S pending env c) (λ x b. trees.marked x.reply line t next_of b k)) (go next_of (with_pending (of_tree S pending env c) t false) k)) is)
          (go_right S n _ _ (before (of_code S pending (pc + 1) regs opened) c)
          (reads ∙ ap (λ b. talk S.code (marking S.code pc t b) (nth regs t ∷ []) (of_code S pending pc regs opened) c) is ∙ go_step S.code 1 there.0 (nth regs t ∷ []) (of_code S pending pc regs opened) c there.1)
          (subst (λ ms. Agree S n (tree.at next_of (of_tree S (with_one t false) env c) k) (before (record { pc = pc + 1; registers = regs; varargs = S.varargs; pending = ms; opened = opened }) c)) fewer
          (goes false env regs c refl (rel_marked t false env c regs above lt rel))))
