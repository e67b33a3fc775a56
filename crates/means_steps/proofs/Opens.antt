-- Cells of the frame on top that are opened, and named, in both worlds.
use Rattle.std.proofs.Common.{ℕ, zero, suc, ◌+◌, ◌≡◌, inl, inr, ⊎_elim, List, [], ◌∷◌, ◌++◌, length, Option, Some, None, refl, sym, ap, subst, ◌∙◌, arith}
use Rattle.std.specs.Prelude.{slice_get, slice_set, Bool, true, false, cond, nat_eq, ◌&&◌, option_map}
use Rattle.std.proofs.lemmas.Bool.{cases_eq}
use Rattle.std.proofs.lemmas.Option.{slice_get_within}
use Rattle.code_core.specs.declared.proto.UpDesc.{UpDesc}
use Rattle.code_core.specs.Prototype.{Prototype}
use Rattle.int_core.specs.Value.{Value, nth, bind}
use Rattle.int_core.specs.Ask.{CellName, of_local, of_upvalue, cell_held}
use Rattle.machine_core.specs.World.{Function, Cell, closed, open_at, Wait, Activation, Frame, Coroutine, find_open, find_open_from}
use Rattle.machine_core.specs.Moves.{captured}
use Rattle.machine_core.specs.Talk.{State, names_of}
use Rattle.list_laws.proofs.Tests.{eq_true, eq_refl}
use Rattle.list_laws.proofs.Items.{get_old, get_new, get_either, length_more, get_set_same, get_set_other}
use Rattle.list_laws.proofs.Values.{nth_old}
use Rattle.list_laws.specs.Held.{Held, Has}
use Rattle.list_laws.proofs.Held.{find_has, has_find}
use Rattle.lua_meaning.specs.World as talk
use Rattle.lua_meaning.specs.World.{cell_of}
use Rattle.lua_meaning.specs.Asks.{cells_named}
use Rattle.machine_means.specs.Joined.{TalkFrame, TalkWorld, RegistersPair, HoldsOf, HoldsIn, Holds, CellsPair}
use Rattle.machine_means.proofs.Held.{holds_less}
use Rattle.machine_means.proofs.FrameWrites.{below_values}
use Rattle.means_steps.proofs.Middle.{MiddleOf, others_values, top_holds, own_holds, below_holds, with_held}

module _ (co f r : ℕ) where
  open_found : (n : ℕ) (ws : List Cell) (c : ℕ) → find_open_from n co f r ws ≡ Some c → (i : ℕ) × (c ≡ n + i) × (slice_get ws i ≡ Some (open_at co f r))
  open_found n [] c e = absurd (cc)
  open_found n (closed v ∷ ws) c e = let m = open_found (suc n) ws c e in let z = m.1 in (suc m.0, omega (arith, z), m.2)
  open_found n (open_at k g q ∷ ws) c e = by (nat_eq co k) (nat_eq f g) (nat_eq r q) refl refl refl e (open_found (suc n) ws c)
    where
      by : (x y z : Bool) → nat_eq co k ≡ x → nat_eq f g ≡ y → nat_eq r q ≡ z → cond (x && (y && z)) (Some n) (find_open_from (suc n) co f r ws) ≡ Some c → (find_open_from (suc n) co f r ws ≡ Some c → (i : ℕ) × (c ≡ suc n + i) × (slice_get ws i ≡ Some (open_at co f r))) → (i : ℕ) × (c ≡ n + i) × (slice_get (open_at k g q ∷ ws) i ≡ Some (open_at co f r))
      by true true true dx dy dz e ih = let u : n ≡ c = cc in (0, omega (arith, u), (let a = eq_true co k dx in let b = eq_true f g dy in let d = eq_true r q dz in cc))
      by true true false dx dy dz e ih = let m = ih e in let z = m.1 in (suc m.0, omega (arith, z), m.2)
      by true false z' dx dy dz e ih = let m = ih e in let z = m.1 in (suc m.0, omega (arith, z), m.2)
      by false y z' dx dy dz e ih = let m = ih e in let z = m.1 in (suc m.0, omega (arith, z), m.2)

  open_none : (n : ℕ) (ws : List Cell) (i : ℕ) → find_open_from n co f r ws ≡ None → slice_get ws i ≡ Some (open_at co f r) → ⊥
  open_none n [] i e h = absurd (cc)
  open_none n (closed v ∷ ws) zero e h = absurd (cc)
  open_none n (closed v ∷ ws) (suc i) e h = open_none (suc n) ws i e h
  open_none n (open_at k g q ∷ ws) i e h = by (nat_eq co k) (nat_eq f g) (nat_eq r q) refl refl refl e (λ j d h. open_none (suc n) ws j d h) i h
    where
      by : (x y z : Bool) → nat_eq co k ≡ x → nat_eq f g ≡ y → nat_eq r q ≡ z → cond (x && (y && z)) (Some n) (find_open_from (suc n) co f r ws) ≡ None → ((j : ℕ) → find_open_from (suc n) co f r ws ≡ None → slice_get ws j ≡ Some (open_at co f r) → ⊥) → (i : ℕ) → slice_get (open_at k g q ∷ ws) i ≡ Some (open_at co f r) → ⊥
      by true true true dx dy dz e ih i h = absurd (cc)
      by true true false dx dy dz e ih zero h = let y : q ≡ r = cc in let z : true ≡ false = sym (eq_refl r) ∙ ap (nat_eq r) (sym y) ∙ dz in absurd (cc)
      by true true false dx dy dz e ih (suc i) h = ih i e h
      by true false z' dx dy dz e ih zero h = let y : g ≡ f = cc in let z : true ≡ false = sym (eq_refl f) ∙ ap (nat_eq f) (sym y) ∙ dy in absurd (cc)
      by true false z' dx dy dz e ih (suc i) h = ih i e h
      by false y z' dx dy dz e ih zero h = let y : k ≡ co = cc in let z : true ≡ false = sym (eq_refl co) ∙ ap (nat_eq co) (sym y) ∙ dx in absurd (cc)
      by false y z' dx dy dz e ih (suc i) h = ih i e h

  found_at : (ws : List Cell) (c : ℕ) → find_open co f r ws ≡ Some c → slice_get ws c ≡ Some (open_at co f r)
  found_at ws c e = let m = open_found 0 ws c e in let z : m.0 ≡ c = (let u = m.1 in omega (arith, u)) in subst (λ i. slice_get ws i ≡ Some (open_at co f r)) z m.2

-- the cell at a register of the frame on top has the same number in both
module _ (ws : List Cell) (vs : List Value) (hss : List (List Held)) (k : CellsPair ws vs hss) (co : ℕ) (h : Held) (more : List Held) (holds : slice_get hss co ≡ Some (h ∷ more)) where
  top_has : (r c : ℕ) → find_open co (length more) r ws ≡ Some c → Has r c h
  top_has r c e = ⊎_elim (λ m. m.1) (λ m. let l = holds_less more (length more) r c m in absurd (omega (arith, l)))
      (own_holds ws vs hss k co h more holds (length more) r c (k.opened c co (length more) r (found_at co (length more) r ws c e)))

  pub both_find : (r c : ℕ) → find_open co (length more) r ws ≡ Some c → cell_held r h ≡ Some c
  both_find r c e = by (cell_held r h) refl
    where
      by : (o : Option ℕ) → cell_held r h ≡ o → o ≡ Some c
      by None d = absurd (has_find h r c (top_has r c e) d)
      by (Some c') d = ap Some (k.one c' c co (length more) r (k.held_open c' co (length more) r (top_holds ws vs hss k co h more holds r c' (find_has h r c' d))) (found_at co (length more) r ws c e))

  pub both_none : (r : ℕ) → cell_held r h ≡ None → find_open co (length more) r ws ≡ None
  both_none r e = by (find_open co (length more) r ws) refl
    where
      by : (o : Option ℕ) → find_open co (length more) r ws ≡ o → o ≡ None
      by None d = refl
      by (Some c) d = absurd (has_find h r c (top_has r c d) e)

  pub both_some : (r c : ℕ) → cell_held r h ≡ Some c → find_open co (length more) r ws ≡ Some c
  both_some r c e = by (find_open co (length more) r ws) refl
    where
      by : (o : Option ℕ) → find_open co (length more) r ws ≡ o → o ≡ Some c
      by None d = absurd (open_none co (length more) r 0 ws c d (k.held_open c co (length more) r (top_holds ws vs hss k co h more holds r c (find_has h r c e))))
      by (Some c') d = sym (both_find r c' d) ∙ e

  abbrev pub NamedSo : TalkWorld → ℕ → UpDesc → List UpDesc → Bool → List ℕ → Type 0
  NamedSo T f u us s ds = (ns : List CellName) × (bind (cond s (bind (cell_held u.index h) (λ cell. Some (of_local cell))) (Some (of_upvalue u.index))) (λ name. bind (names_of us h) (λ names. Some (name ∷ names))) ≡ Some ns) × (cells_named T f ns ≡ Some ds)

  -- the cells of a new function; that of g is the list of `outer`
  pub both_names : (T : TalkWorld) (f : ℕ) (g' : talk.Function Prototype) → slice_get T.functions f ≡ Some g' → (outer : List ℕ) → g'.cells ≡ outer → (us : List UpDesc) (ds : List ℕ) → captured us co (length more) outer ws ≡ Some ds
      → (ns : List CellName) × (names_of us h ≡ Some ns) × (cells_named T f ns ≡ Some ds)
  both_names T f g' e outer same [] ds z = ([], refl, z)
  both_names T f g' e outer same (u ∷ us) ds z = by u.in_stack (find_open co (length more) u.index ws) (slice_get outer u.index) (captured us co (length more) outer ws) refl refl refl z (both_names T f g' e outer same us)
    where
      by : (s : Bool) (o x : Option ℕ) (q : Option (List ℕ)) → find_open co (length more) u.index ws ≡ o → slice_get outer u.index ≡ x → captured us co (length more) outer ws ≡ q → bind (cond s o x) (λ c. bind q (λ cs. Some (c ∷ cs))) ≡ Some ds
          → ((ds : List ℕ) → captured us co (length more) outer ws ≡ Some ds → (ns : List CellName) × (names_of us h ≡ Some ns) × (cells_named T f ns ≡ Some ds)) → NamedSo T f u us s ds
      by true None x q do' dx dq z ih = absurd (cc)
      by true (Some c) x None do' dx dq z ih = absurd (cc)
      by true (Some c) x (Some ds') do' dx dq z ih =
          let y : c ∷ ds' ≡ ds = cc in
          let m = ih ds' dq in (
            of_local c ∷ m.0,
            ap (λ o. bind (bind o (λ cell. Some (of_local cell))) (λ name. bind (names_of us h) (λ names. Some (name ∷ names)))) (both_find u.index c do') ∙ ap (λ o. bind o (λ names. Some (of_local c ∷ names))) m.1,
            ap (option_map (λ cells. c ∷ cells)) m.2 ∙ ap Some y,
          )
      by false o None q do' dx dq z ih = absurd (cc)
      by false o (Some c) None do' dx dq z ih = absurd (cc)
      by false o (Some c) (Some ds') do' dx dq z ih =
          let y : c ∷ ds' ≡ ds = cc in
          let m = ih ds' dq in
          let own : cell_of T f u.index ≡ Some c = ap (λ o. bind o (λ g. slice_get g.cells u.index)) e ∙ ap (λ cs. slice_get cs u.index) same ∙ dx in (
            of_upvalue u.index ∷ m.0,
            ap (λ o. bind o (λ names. Some (of_upvalue u.index ∷ names))) m.1,
            ap (λ x. bind x (λ c. option_map (λ cells. c ∷ cells) (cells_named T f m.0))) own ∙ ap (option_map (λ cells. c ∷ cells)) m.2 ∙ ap Some y,
          )

-- a new cell at a register of the frame on top
module _ (chain : List ℕ) (fs : List Function) (ws : List Cell) (cs : List Coroutine) (gs : List (talk.Function Prototype)) (ds : List (talk.Coroutine State)) (vs : List Value)
    (co n : ℕ) (g : Function) (g' : talk.Function Prototype) (w : Wait Value) (own : Activation) (h : Held) (below : List Frame) (ts : List TalkFrame) (k : MiddleOf chain fs ws cs gs ds vs co n g g' w own h below ts)
    (r : ℕ) (v : Value) (e : find_open co (length k.more) r ws ≡ None) where
  abbrev h1 : Held
  h1 = (r, length vs) ∷ h

  abbrev top : ℕ
  top = length k.more

  abbrev ws1 : List Cell
  ws1 = ws ++ open_at co (length k.more) r ∷ []

  abbrev vs1 : List Value
  vs1 = vs ++ v ∷ []

  abbrev held1 : List (List Held)
  held1 = slice_set k.held co (h1 ∷ k.more)

  own_held : slice_get held1 co ≡ Some (h1 ∷ k.more)
  own_held = get_set_same k.held co (h ∷ k.more) (h1 ∷ k.more) k.holds

  old_value : (c : ℕ) (x : Cell) → slice_get ws c ≡ Some x → nth vs1 c ≡ nth vs c
  old_value c x d = let i = slice_get_within ws c x d in let s = k.cells.size in nth_old vs (v ∷ []) c (omega (arith, i, s))

  new_shut : (c : ℕ) (u : Value) → slice_get ws1 c ≡ Some (closed u) → nth vs1 c ≡ u
  new_shut c u d = ⊎_elim (λ m. old_value c (closed u) m ∙ k.cells.shut c u m) (λ m. let z = m.1 in absurd (cc)) (get_either ws (open_at co top r) c (closed u) d)

  -- what was held is so still
  still : (i f q c : ℕ) → HoldsIn k.held i f q c → HoldsIn held1 i f q c
  still i f q c m = ⊎_elim
      (λ (d : co ≡ i). subst (λ o. HoldsOf o f q c) (sym (ap (slice_get held1) (sym d) ∙ own_held)) (⊎_elim (λ o. inl (o.0, inr o.1)) (λ o. inr o) (own_holds ws vs k.held k.cells co h k.more k.holds f q c (subst (λ i. HoldsIn k.held i f q c) (sym d) m))))
      (λ d. subst (λ o. HoldsOf o f q c) (sym (get_set_other k.held co i (h1 ∷ k.more) d)) m)
      (cases_eq co i)

  new_opened : (c i f q : ℕ) → slice_get ws1 c ≡ Some (open_at i f q) → HoldsIn held1 i f q c
  new_opened c i f q d = ⊎_elim
      (λ m. still i f q c (k.cells.opened c i f q m))
      (λ m. let u = m.1 in
      let x : co ≡ i = cc in let a : f ≡ top = cc in let b : r ≡ q = cc in
      subst (λ o. HoldsOf o f q c) (sym (ap (slice_get held1) (sym x) ∙ own_held)) (inl (a, inl (b, sym (m.0 ∙ k.cells.size)))))
      (get_either ws (open_at co top r) c (open_at i f q) d)

  new_held : (c i f q : ℕ) → HoldsIn held1 i f q c → slice_get ws1 c ≡ Some (open_at i f q)
  new_held c i f q m = ⊎_elim
      (λ (d : co ≡ i). subst (λ i. slice_get ws1 c ≡ Some (open_at i f q)) d (mine (subst (λ o. HoldsOf o f q c) (ap (slice_get held1) (sym d) ∙ own_held) m)))
      (λ d. get_old ws (open_at co top r ∷ []) c (open_at i f q) (k.cells.held_open c i f q (subst (λ o. HoldsOf o f q c) (get_set_other k.held co i (h1 ∷ k.more) d) m)))
      (cases_eq co i)
    where
      mine : Holds f q c (h1 ∷ k.more) → slice_get ws1 c ≡ Some (open_at co f q)
      mine m = ⊎_elim
          (λ n. ⊎_elim
          (λ o. let a = n.0 in let b = o.0 in
          let u : open_at co top r ≡ open_at co f q = cc in
          ap (slice_get ws1) (sym (k.cells.size ∙ o.1)) ∙ get_new ws (open_at co top r) ∙ ap Some u)
          (λ o. get_old ws (open_at co top r ∷ []) c (open_at co f q) (k.cells.held_open c co f q (subst (λ o. HoldsOf o f q c) (sym k.holds) (inl (n.0, o)))))
          n.1)
          (λ n. get_old ws (open_at co top r ∷ []) c (open_at co f q) (k.cells.held_open c co f q (subst (λ o. HoldsOf o f q c) (sym k.holds) (inr n))))
          m

  not_yet : (c i f q : ℕ) → slice_get ws c ≡ Some (open_at i f q) → open_at co top r ≡ open_at i f q → ⊥
  not_yet c i f q d u = open_none co top r 0 ws c e (d ∙ ap Some (sym u))

  new_one : (c d i f q : ℕ) → slice_get ws1 c ≡ Some (open_at i f q) → slice_get ws1 d ≡ Some (open_at i f q) → c ≡ d
  new_one c d i f q x y =
      ⊎_elim
      (λ m. ⊎_elim (λ n. k.cells.one c d i f q m n) (λ n. absurd (not_yet c i f q m n.1)) (get_either ws (open_at co top r) d (open_at i f q) y))
      (λ m. ⊎_elim (λ n. absurd (not_yet d i f q n m.1)) (λ n. m.0 ∙ sym n.0) (get_either ws (open_at co top r) d (open_at i f q) y))
      (get_either ws (open_at co top r) c (open_at i f q) x)

  pub opened_top : MiddleOf chain fs (ws ++ open_at co (length k.more) r ∷ []) cs gs ds (vs ++ v ∷ []) co n g g' w own ((r, length vs) ∷ h) below ts
  opened_top = with_held k ws1 vs1 h1
      (λ u d x. (let i = k.in_range u d x in let l = length_more ws (open_at co top r) in omega (arith, i, l)))
      (λ q d u m x. ⊎_elim (λ o. let i = k.in_range u d x in let s = k.cells.size in let z = o.1 in omega (arith, i, s, z)) (λ o. k.not_own q d u o x) m)
      (record { size = length_more ws (open_at co top r) ∙ ap suc k.cells.size ∙ sym (length_more vs v); shut = new_shut; opened = new_opened; held_open = new_held; one = new_one })
      (below_values false fs vs vs1 below ts k.more (λ f q c m. old_value c (open_at co f q) (k.cells.held_open c co f q (below_holds ws vs k.held k.cells co h k.more k.holds f q c m))) k.waits)
      (others_values fs vs vs1 co cs ds k.held (λ j f q c d m. old_value c (open_at j f q) (k.cells.held_open c j f q m)) k.others)

  pub opened_registers : (known : List Value) → RegistersPair vs h known own.registers → RegistersPair (vs ++ v ∷ []) h known own.registers
  opened_registers known p = record { size = p.size; off = p.off; on = λ q c m. old_value c (open_at co top q) (k.cells.held_open c co top q (top_holds ws vs k.held k.cells co h k.more k.holds q c m)) ∙ p.on q c m }
