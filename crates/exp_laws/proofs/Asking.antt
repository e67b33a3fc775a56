-- Asks of both sides, and how both go on with the answers.
use Rattle.std.proofs.Common.{◌≡◌, ℕ, zero, suc, ◌<◌, List, [], ◌∷◌, ◌++◌, refl, sym, subst, arith}
use Rattle.int_core.specs.Value.{Value}
use Rattle.int_core.specs.Ask.{Ask, Reply, values, faulted, left, values_in, throws, Captured, brought, AskLike, IsReplyTo, IsOne}
use Rattle.tree_core.specs.Tree.{Body}
use Rattle.tree_activation.specs.Work.{Control, raise, leave_scope, finish, Work, Pending}
use Rattle.tree_activation.specs.Work as tree
use Rattle.tree_activation.specs.Asking.{asks, asks_quickly}
use Rattle.tree_activation.specs.Asking as trees
use Rattle.tree_activation.specs.Activation.{step}
use Rattle.code_core.specs.Prototype.{Prototype}
use Rattle.machine_core.specs.World.{Wait, for_value}
use Rattle.machine_core.specs.Text.{Text}
use Rattle.machine_core.specs.Text as text
use Rattle.machine_core.specs.InstructionRows.{fails, rest_at, after, told_values}
use Rattle.machine_core.specs.Talk as code
use Rattle.machine_core.specs.Talk.{talk_step, says_so, heard, amid}
use Rattle.lua_meaning.specs.World.{without_name}
use Rattle.exp_laws.proofs.Registers.{Rel, After, told, share_same, after_share}
use Rattle.exp_laws.specs.Setting.{Setting, InnerAlike}
use Rattle.exp_laws.proofs.Talking.{Here, Agree, down, both_ask, of_tree, of_code}
use Rattle.exp_laws.proofs.Leaving.{leaves_alike, faults_alike}

module _ (S : Setting) (pending : List Pending) where
  -- an ask for which the code's instruction waits: values may come, or an error
  pub asks_alike : (n : ℕ) (wait : Wait Value) (told_so : (reply : Reply) → told_values wait reply ≡ told_values for_value reply) (s : tree.State) (t : code.State) (q : Ask Body) (r : Ask Prototype) (line pc opened u : ℕ) (env regs : List Value) (c : Captured) (k : List Work) (goes : List Value → Control)
      → step s ≡ asks q line (of_tree S pending env c) k goes
      → talk_step S.code t ≡ says_so r S.code (of_code S pending pc regs opened) c (λ x b d. heard wait S.code x b d)
      → ((m : ℕ) → AskLike (InnerAlike S m) q r) → without_name q ≡ q → Rel S.hidden S.code.own.stack pending env c regs → Here S pc line
      → ((ws env' regs' : List Value) (c' : Captured) → After S.hidden S.code.own.stack pending env regs u env' regs' c'
      → Agree S n (tree.at (goes ws) (of_tree S pending env' c') k) (amid (rest_at wait S.code pc) ws (of_code S pending pc regs' opened) c'))
      → Agree S n s t
  asks_alike zero wait told_so s t q r line pc opened u env regs c k goes e d like plain rel here next = tt
  asks_alike (suc n) wait told_so s t q r line pc opened u env regs c k goes e d like plain rel here next =
      both_ask S n s t q r line _ _ _ _ _ e d (like n) plain here.lined (share_same S.hidden S.code.own.stack pending env c regs rel) (λ x fits. by x.shared x.reply)
    where
      by : (shared : List Value) (reply : Reply)
          → Agree S n (trees.heard reply line (of_tree S pending (brought c.held shared env) (told c)) k goes) (amid (after wait S.code pc reply) (told_values wait reply) (of_code S pending pc (brought c.held shared regs) opened) (told c))
      by shared (values ws) =
          subst (λ l. Agree S n (tree.at (goes ws) (of_tree S pending (brought c.held shared env) (told c)) k) (amid (rest_at wait S.code pc) l (of_code S pending pc (brought c.held shared regs) opened) (told c))) (sym (told_so (values ws)))
          (down S n _ _ (next ws (brought c.held shared env) (brought c.held shared regs) (told c) (after_share S.hidden S.code.own.stack pending env regs shared c u rel)))
      by shared (faulted words) =
          subst (λ l. Agree S n (tree.at (raise line words) (of_tree S pending (brought c.held shared env) (told c)) []) (amid (text.raise words) l (of_code S pending pc (brought c.held shared regs) opened) (told c))) (sym (told_so (faulted words)))
          (faults_alike S n pending line pc opened (brought c.held shared env) (brought c.held shared regs) (told c) words _ _ (after_share S.hidden S.code.own.stack pending env regs shared c u rel).rel here refl refl)
      by shared (left v) =
          subst (λ l. Agree S n (tree.at (leave_scope 0 line v (finish line (throws v))) (of_tree S pending (brought c.held shared env) (told c)) []) (amid fails l (of_code S pending pc (brought c.held shared regs) opened) (told c))) (sym (told_so (left v)))
          (leaves_alike S n pending line pc opened (brought c.held shared env) (brought c.held shared regs) (told c) v (after_share S.hidden S.code.own.stack pending env regs shared c u rel).rel here)

  -- an ask that is answered at once; the row has read some values before
  pub quick_alike : (n : ℕ) (s : tree.State) (t : code.State) (q : Ask Body) (r : Ask Prototype) (line pc opened u : ℕ) (env regs : List Value) (c : Captured) (k : List Work) (goes : List Value → Control) (rest : Text) (had : List Value)
      → step s ≡ asks_quickly q line (of_tree S pending env c) k goes
      → talk_step S.code t ≡ says_so r S.code (of_code S pending pc regs opened) c (λ x b d. amid rest (had ++ values_in x.reply) b d)
      → ((m : ℕ) → m < n → AskLike (InnerAlike S m) q r) → without_name q ≡ q → Rel S.hidden S.code.own.stack pending env c regs → Here S pc line
      → ((reply : Reply) → IsReplyTo q reply → (env' regs' : List Value) (c' : Captured) → After S.hidden S.code.own.stack pending env regs u env' regs' c'
      → Agree S n (tree.at (goes (values_in reply)) (of_tree S pending env' c') k) (amid rest (had ++ values_in reply) (of_code S pending pc regs' opened) c'))
      → Agree S n s t
  quick_alike zero s t q r line pc opened u env regs c k goes rest had e d like plain rel here next = tt
  quick_alike (suc n) s t q r line pc opened u env regs c k goes rest had e d like plain rel here next =
      both_ask S n s t q r line _ _ _ _ _ e d (like n (omega arith)) plain here.lined (share_same S.hidden S.code.own.stack pending env c regs rel)
      (λ x fits. down S n _ _ (next x.reply fits.reply (brought c.held x.shared env) (brought c.held x.shared regs) (told c) (after_share S.hidden S.code.own.stack pending env regs x.shared c u rel)))

  -- one that is answered by one value
  pub one_alike : (n : ℕ) (s : tree.State) (t : code.State) (q : Ask Body) (r : Ask Prototype) (line pc opened u : ℕ) (env regs : List Value) (c : Captured) (k : List Work) (goes : List Value → Control) (rest : Text) (had : List Value)
      → step s ≡ asks_quickly q line (of_tree S pending env c) k goes
      → talk_step S.code t ≡ says_so r S.code (of_code S pending pc regs opened) c (λ x b d. amid rest (had ++ values_in x.reply) b d)
      → ((m : ℕ) → m < n → AskLike (InnerAlike S m) q r) → without_name q ≡ q → ((reply : Reply) → IsReplyTo q reply → IsOne reply) → Rel S.hidden S.code.own.stack pending env c regs → Here S pc line
      → ((v : Value) (env' regs' : List Value) (c' : Captured) → After S.hidden S.code.own.stack pending env regs u env' regs' c'
      → Agree S n (tree.at (goes (v ∷ [])) (of_tree S pending env' c') k) (amid rest (had ++ v ∷ []) (of_code S pending pc regs' opened) c'))
      → Agree S n s t
  one_alike n s t q r line pc opened u env regs c k goes rest had e d like plain one rel here next =
      quick_alike n s t q r line pc opened u env regs c k goes rest had e d like plain rel here (λ reply fits env' regs' c' af. by reply (one reply fits) env' regs' c' af)
    where
      by : (reply : Reply) → IsOne reply → (env' regs' : List Value) (c' : Captured) → After S.hidden S.code.own.stack pending env regs u env' regs' c'
          → Agree S n (tree.at (goes (values_in reply)) (of_tree S pending env' c') k) (amid rest (had ++ values_in reply) (of_code S pending pc regs' opened) c')
      by (values (v ∷ [])) is env' regs' c' af = next v env' regs' c' af
      by (values []) is env' regs' c' af = absurd is
      by (values (v ∷ w ∷ vs)) is env' regs' c' af = absurd is
      by (faulted words) is env' regs' c' af = absurd is
      by (left e) is env' regs' c' af = absurd is
