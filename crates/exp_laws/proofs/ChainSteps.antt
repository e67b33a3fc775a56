-- What the machine does at a CONCAT, which joins the values of registers that follow each other, from the last one on.
use Rattle.std.proofs.Common.{◌≡◌, ℕ, zero, suc, ◌+◌, ◌<◌, ◌^◌, false, List, [], ◌∷◌, length, Some, None, refl, ap, ap₂, ◌∙◌, arith}
use borrow.Author.Tests.{lt-ltb}
use Rattle.int_core.specs.Value.{Value, nth}
use Rattle.int_core.specs.Operations.{concat}
use Rattle.int_core.specs.Ask.{Ask, Reply, values, faulted, left, operates, Captured, brought, AskLike}
use Rattle.tree_core.specs.Tree.{Body}
use Rattle.tree_activation.specs.Work.{Control, Work, Pending}
use Rattle.tree_activation.specs.Work as tree
use Rattle.tree_activation.specs.Asking.{asks}
use Rattle.tree_activation.specs.Asking as trees
use Rattle.tree_activation.specs.Activation.{step}
use Rattle.code_core.specs.declared.opcode.Opcode.TheVariants.{Concat}
use Rattle.code_core.specs.Instruction.{abc, opcode_of}
use Rattle.code_core.specs.Prototype.{Prototype}
use Rattle.code_core.specs.Check.{at}
use Rattle.code_core.proofs.FieldLemmas.{opcode_of-abc, a_of-abc, b_of-abc}
use Rattle.machine_core.specs.World.{Activation, Wait, for_concat}
use Rattle.machine_core.specs.Text.{read, Text, read_register, own, operate, trap}
use Rattle.machine_core.specs.InstructionRows.{next, joins, rest_by, rest_at, after, arrived, told_values}
use Rattle.machine_core.specs.Talk as code
use Rattle.machine_core.specs.Talk.{before, amid, talk_step, says_so, heard}
use Rattle.lua_meaning.specs.World.{without_name}
use Rattle.exp_laws.specs.Setting.{Setting, InnerAlike}
use Rattle.exp_laws.proofs.Registers.{Rel, After, told, share_same, after_share}
use Rattle.exp_laws.proofs.Talking.{Here, Agree, down, both_ask, of_tree, of_code}
use Rattle.exp_laws.proofs.Leaving.{leaves_alike, faults_alike}
use Rattle.exp_laws.proofs.Steps.{row_step, own_step}

module _ (p : Prototype) where
  -- what came is joined with the operands to its left, of which there are `count`
  pub joining_rest : (t b count pc : ℕ) → at p pc ≡ Some (abc Concat t b 0 false) → t < 2 ^ 8 → rest_at {V = Value} (for_concat count) p pc ≡ joins t count (read 0)
  joining_rest t b count pc here fits =
      ap (λ o. elim o as (λ _. Text) [ None ↦ trap | Some i ↦ rest_by {V = Value} (for_concat count) p pc i (opcode_of i) ]) here
      ∙ ap (rest_by {V = Value} (for_concat count) p pc (abc Concat t b 0 false)) (opcode_of-abc Concat t b 0 false)
      ∙ ap (λ r. joins r count (read 0)) (a_of-abc Concat t b 0 false fits)

  -- the nearest of them is read, and the operation is asked for
  pub joining_step : (t count : ℕ) (v : Value) (a : Activation) (c : Captured) → t + count < length a.registers
      → talk_step p (amid (joins t (suc count) (read 0)) (v ∷ []) a c) ≡ says_so (operates concat (nth a.registers (t + count) ∷ v ∷ [])) p a c (λ z b d. heard (for_concat count) p z b d)
  joining_step t count v a c room =
      own_step p (read_register (t + count)) (λ u _. operate concat (read u ∷ read 0 ∷ []) (for_concat count) [] (joins t count (read 0))) (v ∷ []) a c (lt-ltb (t + count) (length a.registers) room)

  -- the last two operands are read first
  pub chain_step : (t count : ℕ) (a : Activation) (c : Captured) → at p a.pc ≡ Some (abc Concat t (suc (suc count)) 0 false) → t < 2 ^ 8 → suc (suc count) < 2 ^ 8 → t + suc count < length a.registers
      → talk_step p (before a c) ≡ says_so (operates concat (nth a.registers (t + count) ∷ nth a.registers (t + suc count) ∷ [])) p a c (λ z b d. heard (for_concat count) p z b d)
  chain_step t count a c here fits small room =
      let w = abc Concat t (suc (suc count)) 0 false in
      row_step p w Concat (own (read_register (t + suc count)) (λ v _. joins t (suc count) (read v))) a c here (opcode_of-abc Concat t (suc (suc count)) 0 false)
      (ap₂ (λ b d. elim b as (λ _. Text) [ zero ↦ next | suc n ↦ own (read_register (d + n)) (λ v _. joins d n (read v)) ]) (b_of-abc Concat t (suc (suc count)) 0 false fits small) (a_of-abc Concat t (suc (suc count)) 0 false fits))
      ∙ own_step p (read_register (t + suc count)) (λ v _. joins t (suc count) (read v)) [] a c (lt-ltb (t + suc count) (length a.registers) room)
      ∙ joining_step t count (nth a.registers (t + suc count)) a c (omega (arith, room))

module _ (S : Setting) (pending : List Pending) where
  -- an ask for which the code's instruction waits, whatever of the values it takes
  pub waits_alike : (n : ℕ) (wait : Wait Value) (s : tree.State) (t : code.State) (q : Ask Body) (r : Ask Prototype) (line pc opened u : ℕ) (env regs : List Value) (c : Captured) (k : List Work) (goes : List Value → Control)
      → step s ≡ asks q line (of_tree S pending env c) k goes
      → talk_step S.code t ≡ says_so r S.code (of_code S pending pc regs opened) c (λ x b d. heard wait S.code x b d)
      → ((m : ℕ) → AskLike (InnerAlike S m) q r) → without_name q ≡ q → Rel S.hidden S.code.own.stack pending env c regs → Here S pc line
      → ((ws env' regs' : List Value) (c' : Captured) → After S.hidden S.code.own.stack pending env regs u env' regs' c'
      → Agree S n (tree.at (goes ws) (of_tree S pending env' c') k) (amid (rest_at wait S.code pc) (arrived wait ws) (of_code S pending pc regs' opened) c'))
      → Agree S n s t
  waits_alike zero wait s t q r line pc opened u env regs c k goes e d like plain rel here goes_then = tt
  waits_alike (suc n) wait s t q r line pc opened u env regs c k goes e d like plain rel here goes_then =
      both_ask S n s t q r line _ _ _ _ _ e d (like n) plain here.lined (share_same S.hidden S.code.own.stack pending env c regs rel) (λ x fits. by x.shared x.reply)
    where
      by : (shared : List Value) (reply : Reply)
          → Agree S n (trees.heard reply line (of_tree S pending (brought c.held shared env) (told c)) k goes) (amid (after wait S.code pc reply) (told_values wait reply) (of_code S pending pc (brought c.held shared regs) opened) (told c))
      by shared (values ws) = down S n _ _ (goes_then ws (brought c.held shared env) (brought c.held shared regs) (told c) (after_share S.hidden S.code.own.stack pending env regs shared c u rel))
      by shared (faulted words) =
          faults_alike S n pending line pc opened (brought c.held shared env) (brought c.held shared regs) (told c) words _ _ (after_share S.hidden S.code.own.stack pending env regs shared c u rel).rel here refl refl
      by shared (left v) =
          leaves_alike S n pending line pc opened (brought c.held shared env) (brought c.held shared regs) (told c) v (after_share S.hidden S.code.own.stack pending env regs shared c u rel).rel here
