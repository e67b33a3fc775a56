-- A function's end without `return`: the tree leaves its scope and then ends, which is as if it did both in one.
use Rattle.std.proofs.Common.{◌≡◌, ℕ, zero, suc, ◌≤◌, Bool, true, false, cond, List, [], ◌∷◌, ◌++◌, length, Option, sym, ap, subst, refl, arith, length-append}
use Rattle.int_core.specs.Value.{Value, known, nil, nth}
use Rattle.int_core.specs.Ask.{Ask, closes, returns, Answer, Reply, values, faulted, left, Captured, brought, held_below, gone_from, Next, goes_on, says, stuck, on_from, runs}
use Rattle.tree_core.specs.Tree.{Body}
use Rattle.tree_activation.specs.Work.{complete, finish, leave_scope, end_of_body, Pending}
use Rattle.tree_activation.specs.Work as tree
use Rattle.tree_activation.specs.Activation.{step}
use Rattle.tree_activation.specs.Asking.{go, asks, heard}
use Rattle.code_core.specs.Prototype.{Prototype}
use Rattle.machine_core.specs.Talk as code
use Rattle.machine_core.specs.Talk.{talk_step}
use Rattle.lua_meaning.specs.World.{as_known}
use Rattle.exp_laws.specs.Setting.{Setting}
use Rattle.exp_laws.proofs.Talking.{Agree, NextAgree, go_left, of_tree}
use Rattle.list_laws.proofs.Ends.{Snoc, empty, with_last, snoc}
use Rattle.exp_laws.proofs.Leaving.{cut, leave_one}

module _ (S : Setting) where
  -- code that talks as one state of the tree does talks as another does
  abbrev Follows : ℕ → tree.State → tree.State → Type 0
  Follows n s s' = (t : code.State) → Agree S n s t → Agree S n s' t

  moves : (n : ℕ) (lines : Bool) (s : tree.State) (y : Next Prototype code.State) → NextAgree S n (as_known lines (goes_on s)) y → ⊥
  moves n true s (goes_on u) h = h
  moves n true s (says q line shared k) h = h
  moves n true s stuck h = h
  moves n false s (goes_on u) h = h
  moves n false s (says q line shared k) h = h
  moves n false s stuck h = h

  went : (n : ℕ) (s s1 : tree.State) → step s ≡ goes_on s1 → Follows n s s1
  went zero s s1 e t h = tt
  went (suc n) s s1 e t h = by h.0 h.2
    where
      by : (i : ℕ) → NextAgree S n (as_known S.lines (runs step i s)) (runs (talk_step S.code) h.1 t) → Agree S (suc n) s1 t
      by zero like = absurd (moves n S.lines s1 (runs (talk_step S.code) h.1 t) (subst (λ x. NextAgree S n (as_known S.lines x) (runs (talk_step S.code) h.1 t)) e like))
      by (suc i) like = (i, h.1, subst (λ x. NextAgree S n (as_known S.lines x) (runs (talk_step S.code) h.1 t)) (ap (λ x. on_from x (runs step i)) e) like)

  says_still : (i : ℕ) (s : tree.State) (q : Ask Body) (line : Option ℕ) (shared : List (ℕ × Value)) (f : Answer → tree.State) → step s ≡ says q line shared f → runs step i s ≡ says q line shared f
  says_still zero s q line shared f e = e
  says_still (suc i) s q line shared f e = ap (λ x. on_from x (runs step i)) e

  asked : (n : ℕ) (s s' : tree.State) (q : Ask Body) (line : Option ℕ) (shared : List (ℕ × Value)) (f f' : Answer → tree.State) → step s ≡ says q line shared f → step s' ≡ says q line shared f' → ((x : Answer) → Follows n (f x) (f' x)) → Follows (suc n) s s'
  asked n s s' q line shared f f' e e' more t h = (
    0,
    h.1,
    subst (λ x. NextAgree S n (as_known S.lines x) (runs (talk_step S.code) h.1 t)) (sym e')
        (swap S.lines (runs (talk_step S.code) h.1 t) (subst (λ x. NextAgree S n (as_known S.lines x) (runs (talk_step S.code) h.1 t)) (says_still h.0 s q line shared f e) h.2)),
  )
    where
      swap : (lines : Bool) (y : Next Prototype code.State) → NextAgree S n (as_known lines (says q line shared f)) y → NextAgree S n (as_known lines (says q line shared f')) y
      swap true (says r other also g) h = (h.0, (h.1.0, (h.1.1.0, λ x fits. more x (g x) (h.1.1.1 x fits))))
      swap false (says r other also g) h = (h.0, (h.1.0, (h.1.1.0, λ x fits. more x (g x) (h.1.1.1 x fits))))
      swap true (goes_on u) h = absurd h
      swap false (goes_on u) h = absurd h
      swap true stuck h = absurd h
      swap false stuck h = absurd h

  abbrev finishing : (line : ℕ) → List Pending → List Value → Captured → tree.State
  finishing line ps env c = tree.at (leave_scope 0 line (known nil) (finish line (returns []))) (of_tree S ps env c) []

  abbrev ending : (line : ℕ) → List Pending → List Value → Captured → tree.State
  ending line ps env c = tree.at (leave_scope 0 line (known nil) complete) (of_tree S ps env c) (end_of_body line ∷ [])

  abbrev Ends : ℕ → Type 0
  Ends n = (line : ℕ) (ps : List Pending) (env : List Value) (c : Captured) → Follows n (finishing line ps env c) (ending line ps env c)

  replied : (n : ℕ) → Ends n → (line : ℕ) (ps : List Pending) (env : List Value) (c : Captured) (reply : Reply)
      → Follows n (heard reply line (of_tree S ps env c) [] (λ _. leave_scope 0 line (known nil) (finish line (returns [])))) (heard reply line (of_tree S ps env c) (end_of_body line ∷ []) (λ _. leave_scope 0 line (known nil) complete))
  replied n below line ps env c (values vs) t h = below line ps env c t h
  replied n below line ps env c (faulted words) t h = h
  replied n below line ps env c (left v) t h = h

  ends_step : (n : ℕ) → Ends n → (m line : ℕ) (ps : List Pending) → Snoc ps → length ps ≤ m → (env : List Value) (c : Captured) → Follows (suc n) (finishing line ps env c) (ending line ps env c)
  ends_step n below m line _ empty short env c t h =
      let done = tree.at (finish line (returns [])) (of_tree S [] [] (record { held = held_below 0 c.held; gone = gone_from 0 c.held env ++ c.gone })) [] in
      go_left S (suc n) _ (tree.at complete (of_tree S [] [] (record { held = held_below 0 c.held; gone = gone_from 0 c.held env ++ c.gone })) (end_of_body line ∷ [])) t refl
      (go_left S (suc n) _ done t refl (went (suc n) (finishing line [] env c) done refl t h))
  ends_step n below zero line _ (with_last ys y) short env c t h = let sum = length-append ys (y ∷ []) in absurd (omega (arith, sum, short))
  ends_step n below (suc m) line _ (with_last ys y) short env c t h =
      by y.needed (leave_one S ys y line (known nil) (finish line (returns [])) env c []) (leave_one S ys y line (known nil) complete env c (end_of_body line ∷ []))
      (λ h'. ends_step n below m line ys (snoc ys) (let sum = length-append ys (y ∷ []) in omega (arith, sum, short)) env c t h')
    where
      by : (b : Bool)
          → step (finishing line (ys ++ y ∷ []) env c) ≡ cond b (asks (closes (nth env y.number) (known nil)) line (of_tree S ys env (cut S env c)) [] (λ _. leave_scope 0 line (known nil) (finish line (returns [])))) (go (leave_scope 0 line (known nil) (finish line (returns []))) (of_tree S ys env c) [])
          → step (ending line (ys ++ y ∷ []) env c) ≡ cond b (asks (closes (nth env y.number) (known nil)) line (of_tree S ys env (cut S env c)) (end_of_body line ∷ []) (λ _. leave_scope 0 line (known nil) complete)) (go (leave_scope 0 line (known nil) complete) (of_tree S ys env c) (end_of_body line ∷ []))
          → (Agree S (suc n) (finishing line ys env c) t → Agree S (suc n) (ending line ys env c) t)
          → Agree S (suc n) (ending line (ys ++ y ∷ []) env c) t
      by false e e' fewer = go_left S (suc n) _ (ending line ys env c) t e' (fewer (went (suc n) (finishing line (ys ++ y ∷ []) env c) (finishing line ys env c) e t h))
      by true e e' fewer =
          asked n (finishing line (ys ++ y ∷ []) env c) (ending line (ys ++ y ∷ []) env c) (closes (nth env y.number) (known nil)) _ _ _ _ e e'
          (λ x. replied n below line ys (brought (held_below 0 c.held) x.shared env) (record { held = held_below 0 c.held; gone = [] }) x.reply) t h

  -- what code does that leaves and returns at once is what the tree does at the end of a body
  pub ends_alike : (n : ℕ) → Ends n
  ends_alike zero line ps env c t h = tt
  ends_alike (suc n) line ps env c t h = ends_step n (ends_alike n) (length ps) line ps (snoc ps) (omega arith) env c t h
