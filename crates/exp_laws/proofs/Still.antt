-- An ask that runs no other activation leaves each local's value as it was: what it brings back is what it carried.
use Rattle.std.proofs.Common.{◌≡◌, ℕ, zero, suc, ◌<◌, ◌≤◌, length, map, List, [], ◌∷◌, ◌++◌, Option, Some, None, refl, sym, ap, ◌∙◌, arith}
use Rattle.int_core.specs.Value.{Value, nth, write}
use Rattle.int_core.specs.Ask.{Ask, opens, Reply, values, faulted, left, values_in, Captured, shared_by, brought, Next, cell_held, AskLike, IsReplyTo, IsOne, IsQuiet}
use Rattle.tree_core.specs.Tree.{Body}
use Rattle.tree_activation.specs.Work.{Control, capture, Work, Pending}
use Rattle.tree_activation.specs.Work as tree
use Rattle.tree_activation.specs.Asking.{asks_quickly, captures_one}
use Rattle.tree_activation.specs.Activation.{step}
use Rattle.code_core.specs.Prototype.{Prototype}
use Rattle.machine_core.specs.Text.{Text, open_cell}
use Rattle.machine_core.specs.Talk as code
use Rattle.machine_core.specs.Talk.{talk, talk_step, says_so, amid}
use Rattle.lua_meaning.specs.World.{without_name}
use Rattle.exp_laws.proofs.Registers.{MayHold, Rel, After, told, share_same, after_none, after_share, after_hold}
use Rattle.exp_laws.specs.Setting.{Setting, InnerAlike}
use Rattle.exp_laws.proofs.Talking.{Here, Agree, down, go_left, both_ask, of_tree, of_code}

alike : (p : ℕ) (v : Value) (xs : List Value) (r : ℕ) → nth xs p ≡ v → nth (write p v xs) r ≡ nth xs r
alike zero v [] zero e = sym e
alike zero v (x ∷ xs) zero e = sym e
alike zero v [] (suc r) e = refl
alike zero v (x ∷ xs) (suc r) e = refl
alike (suc p) v [] zero e = refl
alike (suc p) v (x ∷ xs) zero e = refl
alike (suc p) v [] (suc r) e = alike p v [] r e
alike (suc p) v (x ∷ xs) (suc r) e = alike p v xs r e

-- values that are those of the present come back
comes_back : (held : List (ℕ × ℕ)) (gone : List (ℕ × Value)) (env now : List Value) → ((r : ℕ) → nth now r ≡ nth env r) → (r : ℕ) → nth (brought held (map (λ s. s.1) (shared_by held env ++ gone)) now) r ≡ nth env r
comes_back [] gone env now same r = same r
comes_back (h ∷ held) gone env now same r = comes_back held gone env (write h.0 (nth env h.0) now) (λ q. alike h.0 (nth env h.0) now q (same h.0) ∙ same q) r

pub brought_back : (held : List (ℕ × ℕ)) (gone : List (ℕ × Value)) (env vs : List Value) → vs ≡ map (λ s. s.1) (shared_by held env ++ gone) → (r : ℕ) → nth (brought held vs env) r ≡ nth env r
brought_back held gone env vs e r = ap (λ l. nth (brought held l env) r) e ∙ comes_back held gone env env (λ q. refl) r

-- each local has the value that it had
abbrev pub Still : List Value → List Value → Type 0
Still env env' = (r : ℕ) → nth env' r ≡ nth env r

pub still_then : (env env1 env2 : List Value) → Still env env1 → Still env1 env2 → Still env env2
still_then env env1 env2 a b r = b r ∙ a r

module _ (S : Setting) (pending : List Pending) where
  -- an ask that runs no other activation, and is answered by one value
  pub one_still : (n : ℕ) (s : tree.State) (t : code.State) (q : Ask Body) (r : Ask Prototype) (line pc opened u : ℕ) (env regs : List Value) (c : Captured) (k : List Work) (goes : List Value → Control) (rest : Text) (had : List Value)
      → step s ≡ asks_quickly q line (of_tree S pending env c) k goes
      → talk_step S.code t ≡ says_so r S.code (of_code S pending pc regs opened) c (λ x b d. amid rest (had ++ values_in x.reply) b d)
      → ((m : ℕ) → m < n → AskLike (InnerAlike S m) q r) → without_name q ≡ q → IsQuiet q → ((reply : Reply) → IsReplyTo q reply → IsOne reply) → Rel S.hidden S.code.own.stack pending env c regs → Here S pc line
      → ((v : Value) (env' regs' : List Value) (c' : Captured) → After S.hidden S.code.own.stack pending env regs u env' regs' c' → Still env env'
      → Agree S n (tree.at (goes (v ∷ [])) (of_tree S pending env' c') k) (amid rest (had ++ v ∷ []) (of_code S pending pc regs' opened) c'))
      → Agree S n s t
  one_still zero s t q r line pc opened u env regs c k goes rest had e d like plain quiet one rel here next = tt
  one_still (suc n) s t q r line pc opened u env regs c k goes rest had e d like plain quiet one rel here next =
      both_ask S n s t q r line _ _ _ _ _ e d (like n (omega arith)) plain here.lined (share_same S.hidden S.code.own.stack pending env c regs rel)
      (λ x fits. by x.reply (one x.reply fits.reply) x.shared (fits.kept quiet))
    where
      by : (reply : Reply) → IsOne reply → (shared : List Value) → shared ≡ map (λ s. s.1) (shared_by c.held env ++ c.gone)
          → Agree S n (tree.at (goes (values_in reply)) (of_tree S pending (brought c.held shared env) (told c)) k) (amid rest (had ++ values_in reply) (of_code S pending pc (brought c.held shared regs) opened) (told c))
      by (values (v ∷ [])) is shared kept = down S n _ _ (next v (brought c.held shared env) (brought c.held shared regs) (told c) (after_share S.hidden S.code.own.stack pending env regs shared c u rel) (brought_back c.held c.gone env shared kept))
      by (values []) is shared kept = absurd is
      by (values (v ∷ w ∷ vs)) is shared kept = absurd is
      by (faulted words) is shared kept = absurd is
      by (left e) is shared kept = absurd is

  -- a captured local gets a cell, where it has none
  pub opens_still : (n : ℕ) (s : tree.State) (t : code.State) (line place pc opened u : ℕ) (places : List ℕ) (next_of : Control) (env regs had : List Value) (c : Captured) (k : List Work) (rest : Text)
      → step s ≡ captures_one (cell_held place c.held) line place places next_of (of_tree S pending env c) k
      → talk_step S.code t ≡ talk S.code (open_cell place rest) had (of_code S pending pc regs opened) c
      → place < length env → MayHold place S.hidden → length env ≤ u → Rel S.hidden S.code.own.stack pending env c regs → Here S pc line
      → ((env' regs' : List Value) (c' : Captured) (t' : code.State) → After S.hidden S.code.own.stack pending env regs u env' regs' c' → Still env env' → talk_step S.code t' ≡ talk S.code rest had (of_code S pending pc regs' opened) c'
      → Agree S n (tree.at (capture line places next_of) (of_tree S pending env' c') k) t')
      → Agree S n s t
  opens_still n s t line place pc opened u places next_of env regs had c k rest e d below other le rel here next = by (cell_held place c.held) e d
    where
      by : (o : Option ℕ) → step s ≡ captures_one o line place places next_of (of_tree S pending env c) k
          → talk_step S.code t ≡ elim o as (λ _. Next Prototype code.State) [
            | Some _ ↦ talk S.code rest had (of_code S pending pc regs opened) c
            | None ↦ says_so (opens (nth regs place)) S.code (of_code S pending pc regs opened) c (λ x b d'. amid rest had b (record d' { held = (place, x.cell) ∷ d'.held }))
          ] → Agree S n s t
      by (Some cell) e d = go_left S n s _ t e (next env regs c t (after_none S.hidden S.code.own.stack pending env regs c u rel) (λ r. refl) d)
      by None e d = asked n e d next
        where
          asked : (n : ℕ) → step s ≡ captures_one None line place places next_of (of_tree S pending env c) k
              → talk_step S.code t ≡ says_so (opens (nth regs place)) S.code (of_code S pending pc regs opened) c (λ x b d'. amid rest had b (record d' { held = (place, x.cell) ∷ d'.held }))
              → ((env' regs' : List Value) (c' : Captured) (t' : code.State) → After S.hidden S.code.own.stack pending env regs u env' regs' c' → Still env env' → talk_step S.code t' ≡ talk S.code rest had (of_code S pending pc regs' opened) c'
              → Agree S n (tree.at (capture line places next_of) (of_tree S pending env' c') k) t')
              → Agree S n s t
          asked zero e d next = tt
          asked (suc n) e d next =
              both_ask S n s t (opens (nth env place)) (opens (nth regs place)) line _ _ _ _ _ e d (rel.agree place below) refl here.lined (share_same S.hidden S.code.own.stack pending env c regs rel)
              (λ x fits. down S n _ _ (next (brought c.held x.shared env) (brought c.held x.shared regs) (record { held = (place, x.cell) ∷ c.held; gone = [] }) _
              (after_hold S.hidden S.code.own.stack pending env regs x.shared c u place x.cell below other rel) (brought_back c.held c.gone env x.shared (fits.kept tt)) refl))
