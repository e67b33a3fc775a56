-- Cells of the frame on top are closed.
use Rattle.std.proofs.Common.{ℕ, zero, suc, ◌<◌, ◌≡◌, ◌⊎◌, inl, inr, ⊎_elim, List, [], ◌∷◌, length, Some, refl, sym, ap, subst, ◌∙◌, arith}
use Rattle.std.specs.Prelude.{slice_get, slice_set, map, Bool, true, false, cond, nat_eq, nat_lt, not, ◌&&◌}
use Rattle.std.proofs.lemmas.Bool.{cases_eq}
use Rattle.code_core.specs.Prototype.{Prototype}
use Rattle.int_core.specs.Value.{Value, nth}
use Rattle.int_core.specs.Ask.{gone_from, held_below, shared_by}
use Rattle.list_laws.specs.Held.{Held}
use Rattle.list_laws.proofs.Held.{below_has, below_was, none_below}
use Rattle.list_laws.proofs.Items.{get_set_same, get_set_other}
use Rattle.list_laws.proofs.Tests.{lt_not, lt_is, lt_off, eq_true, eq_refl}
use Rattle.machine_core.specs.World.{Function, Cell, closed, open_at, Wait, Activation, Frame, Coroutine, close_from}
use Rattle.machine_core.specs.Talk.{State}
use Rattle.lua_meaning.specs.World as talk
use Rattle.lua_meaning.specs.World.{shared_in}
use Rattle.machine_means.specs.Joined.{TalkFrame, HoldsOf, HoldsIn, Holds}
use Rattle.machine_means.proofs.Held.{holds_less}
use Rattle.machine_means.proofs.FrameWrites.{below_length, below_values}
use Rattle.machine_means.proofs.Sharing.{gone_on, gone_off, shared_length}
use Rattle.means_steps.proofs.Middle.{MiddleOf, others_values, own_holds, once, top_range, not_below, not_apart, not_shut, with_held}
use Rattle.machine_sound.proofs.Lists.{get_map, map_get}

length_map : {A B : Type 0} (f : A → B) (xs : List A) → length (map f xs) ≡ length xs
length_map f [] = refl
length_map f (x ∷ xs) = ap suc (length_map f xs)

-- what becomes of a cell as frame f of coroutine co closes those from register a on
abbrev pub closed_cell : (co f a : ℕ) → List Value → Cell → Cell
closed_cell co f a regs (closed v) = closed v
closed_cell co f a regs (open_at i g r) = cond (nat_eq co i && (nat_eq f g && not (nat_lt r a))) (closed (nth regs r)) (open_at i g r)

close_map : (co f a : ℕ) (regs : List Value) (ws : List Cell) → close_from co f a regs ws ≡ map (closed_cell co f a regs) ws
close_map co f a regs [] = refl
close_map co f a regs (closed v ∷ ws) = ap (λ xs. closed v ∷ xs) (close_map co f a regs ws)
close_map co f a regs (open_at i g r ∷ ws) = ap (λ xs. cond (nat_eq co i && (nat_eq f g && not (nat_lt r a))) (closed (nth regs r)) (open_at i g r) ∷ xs) (close_map co f a regs ws)

module _ (co f a : ℕ) (regs : List Value) where
  stays : (i g r : ℕ) → (co ≡ i → g ≡ f → r < a) → closed_cell co f a regs (open_at i g r) ≡ open_at i g r
  stays i g r n = by (nat_eq co i) (nat_eq f g) (nat_lt r a) refl refl refl
    where
      by : (b c d : Bool) → nat_eq co i ≡ b → nat_eq f g ≡ c → nat_lt r a ≡ d → cond (b && (c && not d)) (closed (nth regs r)) (open_at i g r) ≡ open_at i g r
      by true true true x y z = refl
      by true true false x y z = absurd (lt_off r a z (n (eq_true co i x) (sym (eq_true f g y))))
      by true false d x y z = refl
      by false c d x y z = refl

  was_open : (x : Cell) (i g r : ℕ) → closed_cell co f a regs x ≡ open_at i g r → (x ≡ open_at i g r) × (co ≡ i → g ≡ f → r < a)
  was_open (closed v) i g r h = absurd (cc)
  was_open (open_at i' g' r') i g r h = by (nat_eq co i') (nat_eq f g') (nat_lt r' a) refl refl refl h
    where
      by : (b c d : Bool) → nat_eq co i' ≡ b → nat_eq f g' ≡ c → nat_lt r' a ≡ d → cond (b && (c && not d)) (closed (nth regs r')) (open_at i' g' r') ≡ open_at i g r → (open_at i' g' r' ≡ open_at i g r) × (co ≡ i → g ≡ f → r < a)
      by true true true x y z k = let j : r' ≡ r = cc in (k, λ _ _. subst (λ r. r < a) j (lt_is r' a z))
      by true true false x y z k = absurd (cc)
      by true false d x y z k = let j : g' ≡ g = cc in (k, λ _ e. absurd (let u : true ≡ false = sym (eq_refl f) ∙ ap (λ g. nat_eq f g) (sym (j ∙ e)) ∙ y in cc))
      by false c d x y z k = let j : i' ≡ i = cc in (k, λ e _. absurd (let u : true ≡ false = sym (eq_refl co) ∙ ap (λ g. nat_eq co g) (e ∙ sym j) ∙ x in cc))

  was_shut : (x : Cell) (v : Value) → closed_cell co f a regs x ≡ closed v → (x ≡ closed v) ⊎ ((r : ℕ) × (x ≡ open_at co f r) × (r < a → ⊥) × (nth regs r ≡ v))
  was_shut (closed w) v h = inl h
  was_shut (open_at i g r) v h = by (nat_eq co i) (nat_eq f g) (nat_lt r a) refl refl refl h
    where
      by : (b c d : Bool) → nat_eq co i ≡ b → nat_eq f g ≡ c → nat_lt r a ≡ d → cond (b && (c && not d)) (closed (nth regs r)) (open_at i g r) ≡ closed v → (open_at i g r ≡ closed v) ⊎ ((q : ℕ) × (open_at i g r ≡ open_at co f q) × (q < a → ⊥) × (nth regs q ≡ v))
      by true true true x y z k = absurd (cc)
      by true true false x y z k = let j : nth regs r ≡ v = cc in inr (r, ap (λ i. open_at i g r) (sym (eq_true co i x)) ∙ ap (λ g. open_at co g r) (sym (eq_true f g y)), lt_off r a z, j)
      by true false d x y z k = absurd (cc)
      by false c d x y z k = absurd (cc)

-- xs are the registers that the activation knows
module _ (chain : List ℕ) (fs : List Function) (ws : List Cell) (cs : List Coroutine) (gs : List (talk.Function Prototype)) (ds : List (talk.Coroutine State)) (vs : List Value)
    (co n : ℕ) (g : Function) (g' : talk.Function Prototype) (w : Wait Value) (own : Activation) (h : Held) (below : List Frame) (ts : List TalkFrame) (k : MiddleOf chain fs ws cs gs ds vs co n g g' w own h below ts)
    (a : ℕ) (xs : List Value) (same : (r : ℕ) → nth xs r ≡ nth own.registers r) where
  abbrev regs : List Value
  regs = own.registers

  abbrev top : ℕ
  top = length k.more

  abbrev ws1 : List Cell
  ws1 = map (closed_cell co (length k.more) a own.registers) ws

  abbrev vs1 : List Value
  vs1 = shared_in (gone_from a h xs) vs

  abbrev held1 : List (List Held)
  held1 = slice_set k.held co (held_below a h ∷ k.more)

  own_held : slice_get held1 co ≡ Some (held_below a h ∷ k.more)
  own_held = get_set_same k.held co (h ∷ k.more) (held_below a h ∷ k.more) k.holds

  close_shut : (c : ℕ) (v : Value) → slice_get ws1 c ≡ Some (closed v) → nth vs1 c ≡ v
  close_shut c v e =
      let m = map_get (closed_cell co top a regs) ws c (closed v) e in
      ⊎_elim
      (λ d. let e' = m.1 ∙ ap Some d in
      gone_off a xs vs h c (λ r n. absurd (not_shut ws vs k.held k.cells co h k.more k.holds c v e' r n)) ∙ k.cells.shut c v e')
      (λ d. ⊎_elim
      (λ n. gone_on a xs vs h d.0 c (once ws vs k.held k.cells co h k.more k.holds) (top_range ws vs k.held k.cells co h k.more k.holds) n.1 d.2 ∙ same d.0 ∙ d.3)
      (λ n. let l = holds_less k.more top d.0 c n in absurd (omega (arith, l)))
      (own_holds ws vs k.held k.cells co h k.more k.holds top d.0 c (k.cells.opened c co top d.0 (m.1 ∙ ap Some d.1))))
      (was_shut co top a regs m.0 v m.2)

  close_opened : (c i f r : ℕ) → slice_get ws1 c ≡ Some (open_at i f r) → HoldsIn held1 i f r c
  close_opened c i f r e =
      let m = map_get (closed_cell co top a regs) ws c (open_at i f r) e in
      let d = was_open co top a regs m.0 i f r m.2 in
      let o = k.cells.opened c i f r (m.1 ∙ ap Some d.0) in
      ⊎_elim
      (λ (q : co ≡ i).
      let mine = own_holds ws vs k.held k.cells co h k.more k.holds f r c (subst (λ i. HoldsIn k.held i f r c) (sym q) o) in
      subst (λ o. HoldsOf o f r c) (sym (ap (slice_get held1) (sym q) ∙ own_held)) (⊎_elim (λ n. inl (n.0, below_has a h r c n.1 (d.1 q n.0))) (λ n. inr n) mine))
      (λ q. subst (λ o. HoldsOf o f r c) (sym (get_set_other k.held co i (held_below a h ∷ k.more) q)) o)
      (cases_eq co i)

  close_held : (c i f r : ℕ) → HoldsIn held1 i f r c → slice_get ws1 c ≡ Some (open_at i f r)
  close_held c i f r o = ⊎_elim
      (λ (q : co ≡ i). subst (λ i. slice_get ws1 c ≡ Some (open_at i f r)) q (mine (subst (λ o. HoldsOf o f r c) (ap (slice_get held1) (sym q) ∙ own_held) o)))
      (λ q. get_map (closed_cell co top a regs) ws c (open_at i f r) (k.cells.held_open c i f r (subst (λ o. HoldsOf o f r c) (get_set_other k.held co i (held_below a h ∷ k.more) q) o)) ∙ ap Some (stays co top a regs i f r (λ e. absurd (q e))))
      (cases_eq co i)
    where
      mine : Holds f r c (held_below a h ∷ k.more) → slice_get ws1 c ≡ Some (open_at co f r)
      mine n = ⊎_elim
          (λ m. let b = below_was a h r c m.1 in
          get_map (closed_cell co top a regs) ws c (open_at co f r) (k.cells.held_open c co f r (subst (λ o. HoldsOf o f r c) (sym k.holds) (inl (m.0, b.0)))) ∙ ap Some (stays co top a regs co f r (λ _ _. b.1)))
          (λ m. let l = holds_less k.more f r c m in
          get_map (closed_cell co top a regs) ws c (open_at co f r) (k.cells.held_open c co f r (subst (λ o. HoldsOf o f r c) (sym k.holds) (inr m))) ∙ ap Some (stays co top a regs co f r (λ _ e. absurd (omega (arith, e, l)))))
          n

  close_one : (c d i f r : ℕ) → slice_get ws1 c ≡ Some (open_at i f r) → slice_get ws1 d ≡ Some (open_at i f r) → c ≡ d
  close_one c d i f r x y =
      let m = map_get (closed_cell co top a regs) ws c (open_at i f r) x in
      let n = map_get (closed_cell co top a regs) ws d (open_at i f r) y in
      k.cells.one c d i f r (m.1 ∙ ap Some (was_open co top a regs m.0 i f r m.2).0) (n.1 ∙ ap Some (was_open co top a regs n.0 i f r n.2).0)

  closed_top : MiddleOf chain fs ws1 cs gs ds vs1 co n g g' w own (held_below a h) below ts
  closed_top = with_held k ws1 vs1 (held_below a h)
      (λ u d e. (let i = k.in_range u d e in let l = length_map (closed_cell co top a regs) ws in omega (arith, i, l)))
      (λ r d u m e. k.not_own r d u (below_was a h r d m).0 e)
      (record { size = length_map (closed_cell co top a regs) ws ∙ k.cells.size ∙ sym (shared_length (gone_from a h xs) vs); shut = close_shut; opened = close_opened; held_open = close_held; one = close_one })
      (below_values false fs vs vs1 below ts k.more (λ f r c m. gone_off a xs vs h c (λ q n. absurd (not_below ws vs k.held k.cells co h k.more k.holds f r c m q n))) k.waits)
      (others_values fs vs vs1 co cs ds k.held (λ j f r c n m. gone_off a xs vs h c (λ q o. absurd (not_apart ws vs k.held k.cells co h k.more k.holds j f r c n m q o))) k.others)

  pub closes_from : MiddleOf chain fs (close_from co (length below) a own.registers ws) cs gs ds (shared_in (gone_from a h xs) vs) co n g g' w own (held_below a h) below ts
  closes_from =
      subst (λ l. MiddleOf chain fs l cs gs ds vs1 co n g g' w own (held_below a h) below ts) (sym (close_map co (length below) a regs ws))
      (subst (λ m. MiddleOf chain fs (map (closed_cell co m a regs) ws) cs gs ds vs1 co n g g' w own (held_below a h) below ts) (below_length false fs vs below ts k.more k.waits) closed_top)

gone_zero : (h : Held) (xs : List Value) → gone_from 0 h xs ≡ shared_by h xs
gone_zero [] xs = refl
gone_zero (s ∷ h) xs = ap (λ b. cond b (gone_from 0 h xs) ((s.1, nth xs s.0) ∷ gone_from 0 h xs)) (lt_not s.0 0 (λ l. omega (arith, l))) ∙ ap (λ l. (s.1, nth xs s.0) ∷ l) (gone_zero h xs)

-- all of its cells
pub closes_all : (chain : List ℕ) (fs : List Function) (ws : List Cell) (cs : List Coroutine) (gs : List (talk.Function Prototype)) (ds : List (talk.Coroutine State)) (vs : List Value)
    (co n : ℕ) (g : Function) (g' : talk.Function Prototype) (w : Wait Value) (own : Activation) (h : Held) (below : List Frame) (ts : List TalkFrame) (k : MiddleOf chain fs ws cs gs ds vs co n g g' w own h below ts)
    (xs : List Value) → ((r : ℕ) → nth xs r ≡ nth own.registers r) → MiddleOf chain fs (close_from co (length below) 0 own.registers ws) cs gs ds (shared_in (shared_by h xs) vs) co n g g' w own [] below ts
closes_all chain fs ws cs gs ds vs co n g g' w own h below ts k xs same =
    subst (λ z. MiddleOf chain fs (close_from co (length below) 0 own.registers ws) cs gs ds (shared_in z vs) co n g g' w own [] below ts) (gone_zero h xs)
    (subst (λ z. MiddleOf chain fs (close_from co (length below) 0 own.registers ws) cs gs ds (shared_in (gone_from 0 h xs) vs) co n g g' w own z below ts) (none_below h) (closes_from chain fs ws cs gs ds vs co n g g' w own h below ts k 0 xs same))
