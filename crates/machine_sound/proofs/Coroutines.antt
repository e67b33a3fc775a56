-- Worlds with other coroutines: one that ends, fails or is suspended, after which the one that resumed it goes on.
use Rattle.std.proofs.Common.{ℕ, zero, suc, ◌-◌, ◌<◌, ◌≤◌, ◌≡◌, ⊎_elim, List, [], ◌∷◌, ◌++◌, Option, Some, None, refl, subst, sym, ap, ◌∙◌, length, map, arith, Bool, true, false, length-append}
use Rattle.std.specs.Prelude.{slice_get, slice_set, flat_map}
use Rattle.std.proofs.lemmas.Bool.{cases_eq}
use Rattle.std.proofs.lemmas.Bool.Decides.{nat_tests}
use Rattle.std.proofs.lemmas.List.{map-set}
use Rattle.int_core.specs.Value.{Value, nth, last, without_last}
use Rattle.machine_core.specs.World.{Cell, closed, open_at, Frame, lua, pcall, xpcall, handler, closing, Coroutine, in_progress, normal, World, frames_of, close_from, OneEach}
use Rattle.machine_core.specs.Moves.{pending_values, all_closed_from, put_coroutine, awake, back_to_resumer, runs_main}
use Rattle.machine_sound.specs.Sound.{Each, Sizes, sizes, Valid, TableOk, FunctionOk, FrameOk, FramesOk, AllWait, CoroutineOk, runs, resumed_another, apart, standing, ChainOk, registers_in, registers_of, CellOk, Solid, StackWaits}
use Rattle.machine_sound.specs.Safe.{IsPhase, after_end}
use Rattle.machine_sound.proofs.Lists.{each_none, each_set, each_append, each_tail, each_on, get_set_same, get_set_other, length_set, map_get, last_splits, each_cons}
use Rattle.machine_sound.proofs.Values.{nth_ok}
use Rattle.machine_sound.proofs.Grow.{Grows, values_on, table_on, function_on, coroutine_on, each_waits_on, cell_on, roots_on}
use Rattle.machine_sound.proofs.Own.{close_length, close_open, close_closed}
use Rattle.machine_sound.proofs.Chains.{last_get, chain_empty, chain_back, r_was}

-- other coroutines, cells and chain, as many
module _ (n : ℕ) (W : World) (s : Solid n W) (cells : List Cell) (cos : List Coroutine) (chain : List ℕ) (lc : length cells ≡ length W.cells) (lo : length cos ≡ length W.coroutines) where
  abbrev pub with_coroutines : World
  with_coroutines = record W { cells = cells; coroutines = cos; chain = chain }

  pub coroutines_grow : Grows (sizes n W) (sizes n with_coroutines)
  coroutines_grow = record { primitives = refl; tables = omega arith; some = omega arith; functions = λ i f e. e; cells = omega arith; coroutines = omega arith }

  pub coroutines_solid : Each (CellOk (sizes n W) cos) cells → OneEach cells → Each (CoroutineOk (sizes n W)) cos → ChainOk W.main (map standing cos) chain → Solid n with_coroutines
  coroutines_solid c o k h =
      let z = sizes n W in
      let y = sizes n with_coroutines in
      let g = coroutines_grow in
      record {
        tables = each_on (TableOk z) (TableOk y) (table_on z y g) W.heap.tables s.tables;
        functions = each_on (FunctionOk z) (FunctionOk y) (function_on z y g) W.functions s.functions;
        cells = each_on (CellOk z cos) (CellOk y cos) (cell_on z y g cos) cells c;
        one_each = o;
        coroutines = each_on (CoroutineOk z) (CoroutineOk y) (coroutine_on z y g) cos k;
        chain = h;
        moving = values_on z y g W.moving s.moving;
        roots = roots_on z y g W with_coroutines s.roots refl refl refl refl refl refl;
      }

-- the registers that a coroutine's frames have
abbrev pub registers_by : Coroutine → ℕ → ℕ
registers_by c g = elim (frames_of c) [ None ↦ 0 | Some frames ↦ registers_in frames g ]

pub registers_are : (cos : List Coroutine) (co g : ℕ) (c : Coroutine) → slice_get cos co ≡ Some c → registers_of cos co g ≡ registers_by c g
registers_are cos co g c e = rw (e, registers_of) refl

-- cells that are still open fit a coroutine
pub record CellsLeft (n : ℕ) (W : World) (co : ℕ) (d : Coroutine) (cells : List Cell) : Type 0 where
  pub count : length cells ≡ length W.cells
  pub still_open : (i e g r : ℕ) → slice_get cells i ≡ Some (open_at e g r) → slice_get W.cells i ≡ Some (open_at e g r)
  pub closed_ok : (i : ℕ) (v : Value) → slice_get cells i ≡ Some (closed v) → Valid (sizes n W) v
  pub there : (i g r : ℕ) → slice_get cells i ≡ Some (open_at co g r) → r < registers_by d g

-- closing all cells of a coroutine's frames

pub all_length : (co n : ℕ) (fs : List Frame) (cs : List Cell) → length (all_closed_from co n fs cs) ≡ length cs
all_length co n [] cs = refl
all_length co n (lua f ∷ fs) cs = all_length co (suc n) fs (close_from co n 0 f.own.registers cs) ∙ close_length co n 0 f.own.registers cs
all_length co n (pcall ∷ fs) cs = all_length co (suc n) fs cs
all_length co n (xpcall v ∷ fs) cs = all_length co (suc n) fs cs
all_length co n (handler ∷ fs) cs = all_length co (suc n) fs cs
all_length co n (closing e vs ∷ fs) cs = all_length co (suc n) fs cs

pub record StillOpen (co n : ℕ) (fs : List Frame) (cs : List Cell) (i d g q : ℕ) : Type 0 where
  pub was : slice_get cs i ≡ Some (open_at d g q)
  pub elsewhere : d ≡ co → n ≤ g → q < registers_in fs (g - n) → ⊥

at_head : (g n : ℕ) → n ≤ g → (g ≡ n → ⊥) → g - n ≡ suc (g - suc n)
at_head g n l e = omega arith

-- a frame that is no Lua function's has no cells
past_other : (co n : ℕ) (f : Frame) (fs : List Frame) (cs : List Cell) (i d g q : ℕ) → registers_in (f ∷ fs) 0 ≡ 0 → StillOpen co (suc n) fs cs i d g q → StillOpen co n (f ∷ fs) cs i d g q
past_other co n f fs cs i d g q z h = record {
  was = h.was;
  elsewhere = λ e l b. ⊎_elim
      (λ (k : g ≡ n). (let m : g - n ≡ 0 = omega arith in let c = subst (λ m. q < registers_in (f ∷ fs) m) m b in let c' = subst (λ m. q < m) z c in omega arith))
      (λ k. h.elsewhere e (omega arith) (subst (λ m. q < registers_in (f ∷ fs) m) (at_head g n l k) b)) (cases_eq g n);
}

pub all_open : (co n : ℕ) (fs : List Frame) (cs : List Cell) (i d g q : ℕ) → slice_get (all_closed_from co n fs cs) i ≡ Some (open_at d g q) → StillOpen co n fs cs i d g q
all_open co n [] cs i d g q h = record { was = h; elsewhere = λ e l b. omega arith }
all_open co n (lua f ∷ fs) cs i d g q h =
    let x = all_open co (suc n) fs (close_from co n 0 f.own.registers cs) i d g q h in
    let c = close_open co n 0 f.own.registers cs i d g q x.was in
    record {
      was = c.0;
      elsewhere = λ e l b. ⊎_elim
          (λ (k : g ≡ n). (let m = c.1 e k in omega arith))
          (λ k. x.elsewhere e (omega arith) (subst (λ m. q < registers_in (lua f ∷ fs) m) (at_head g n l k) b)) (cases_eq g n);
    }
all_open co n (pcall ∷ fs) cs i d g q h = past_other co n pcall fs cs i d g q refl (all_open co (suc n) fs cs i d g q h)
all_open co n (xpcall v ∷ fs) cs i d g q h = past_other co n (xpcall v) fs cs i d g q refl (all_open co (suc n) fs cs i d g q h)
all_open co n (handler ∷ fs) cs i d g q h = past_other co n handler fs cs i d g q refl (all_open co (suc n) fs cs i d g q h)
all_open co n (closing v vs ∷ fs) cs i d g q h = past_other co n (closing v vs) fs cs i d g q refl (all_open co (suc n) fs cs i d g q h)

pub all_closed : (z : Sizes) (co n : ℕ) (fs : List Frame) (cs : List Cell) → Each (FrameOk z) fs → ((i : ℕ) (v : Value) → slice_get cs i ≡ Some (closed v) → Valid z v) → (i : ℕ) (v : Value) → slice_get (all_closed_from co n fs cs) i ≡ Some (closed v) → Valid z v
all_closed z co n [] cs f c i v e = c i v e
all_closed z co n (lua l ∷ fs) cs f c i v e = all_closed z co (suc n) fs (close_from co n 0 l.own.registers cs) (each_tail (FrameOk z) (lua l) fs f) (close_closed (Valid z) tt co n 0 l.own.registers cs (f zero (lua l) refl).registers c) i v e
all_closed z co n (pcall ∷ fs) cs f c i v e = all_closed z co (suc n) fs cs (each_tail (FrameOk z) pcall fs f) c i v e
all_closed z co n (xpcall x ∷ fs) cs f c i v e = all_closed z co (suc n) fs cs (each_tail (FrameOk z) (xpcall x) fs f) c i v e
all_closed z co n (handler ∷ fs) cs f c i v e = all_closed z co (suc n) fs cs (each_tail (FrameOk z) handler fs f) c i v e
all_closed z co n (closing x vs ∷ fs) cs f c i v e = all_closed z co (suc n) fs cs (each_tail (FrameOk z) (closing x vs) fs f) c i v e

-- all cells of a coroutine are closed where its frames are gone
pub buried_cells : (n : ℕ) (W : World) (s : Solid n W) (co : ℕ) (c d : Coroutine) (fs : List Frame) → slice_get W.coroutines co ≡ Some c → frames_of c ≡ Some fs → FramesOk (sizes n W) fs → CellsLeft n W co d (all_closed_from co 0 fs W.cells)
buried_cells n W s co c d fs e k f = record {
  count = all_length co 0 fs W.cells;
  still_open = λ i d g r x. (all_open co 0 fs W.cells i d g r x).was;
  closed_ok = all_closed (sizes n W) co 0 fs W.cells f.each (λ i v e. s.cells i (closed v) e);
  there = λ i g r x.
      let o = all_open co 0 fs W.cells i co g r x in
      let a : r < registers_of W.coroutines co g = s.cells i (open_at co g r) o.was in
      let b : registers_of W.coroutines co g ≡ registers_in fs g = registers_are W.coroutines co g c e ∙ ap (λ o. elim o as (λ _. ℕ) [ None ↦ 0 | Some frames ↦ registers_in frames g ]) k in
      let m : g - 0 ≡ g = omega arith in
      absurd (o.elsewhere refl (omega arith) (subst (λ m. r < registers_in fs m) (sym m) (subst (λ m. r < m) b a)));
}

-- the values of pending variables
pending_valid : (z : Sizes) (f : Frame) → FrameOk z f → Each (Valid z) (pending_values f)
pending_valid z (lua f) h = go f.own.pending
  where
    go : (ps : List ℕ) → Each (Valid z) (map (nth f.own.registers) ps)
    go [] = each_none (Valid z)
    go (p ∷ ps) = each_cons (Valid z) (nth f.own.registers p) (map (nth f.own.registers) ps) (nth_ok (Valid z) tt f.own.registers p h.registers) (go ps)
pending_valid z _ h = each_none (Valid z)

pub pendings_valid : (z : Sizes) (fs : List Frame) → Each (FrameOk z) fs → Each (Valid z) (flat_map pending_values fs)
pendings_valid z [] h = each_none (Valid z)
pendings_valid z (f ∷ fs) h = each_append (Valid z) (pending_values f) (flat_map pending_values fs) (pending_valid z f (h zero f refl)) (pendings_valid z fs (each_tail (FrameOk z) f fs h))

-- the running coroutine stands apart now, and the one that resumed it goes on

normal_is : (c : Coroutine) → standing c ≡ resumed_another → (fs : List Frame) × (c ≡ normal fs)
normal_is (normal fs) e = (fs, refl)
normal_is _ e = absurd (cc)

none_last : (ch : List ℕ) → last ch ≡ None → ch ≡ []
none_last [] e = refl
none_last (x ∷ xs) e = absurd (let k = some_there x xs in let c : Some k.0 ≡ None = sym k.1 ∙ e in cc)
  where
    some_there : (x : ℕ) (xs : List ℕ) → (y : ℕ) × (slice_get (x ∷ xs) (length xs) ≡ Some y)
    some_there x [] = (x, refl)
    some_there x (y ∷ ys) = some_there y ys

pub record BackTo (n : ℕ) (W : World) (V : World) : Type 0 where
  pub world : World
  pub is : V ≡ world
  pub grows : Grows (sizes n W) (sizes n world)
  pub solid : Solid n world
  pub phase : (b : Bool) → runs_main W ≡ b → IsPhase n (after_end b) world

back_none : (W : World) (cells : List Cell) (co : ℕ) (d : Coroutine) → last (without_last W.chain) ≡ None → back_to_resumer (put_coroutine (record W { cells = cells }) co d) ≡ record W { cells = cells; coroutines = slice_set W.coroutines co d; chain = without_last W.chain }
unfolding back_to_resumer put_coroutine
back_none W cells co d e = ap (λ (o : Option ℕ). elim o as (λ _. World) [ None ↦ record W { cells = cells; coroutines = slice_set W.coroutines co d; chain = without_last W.chain } | Some r ↦ record W { cells = cells; coroutines = slice_set (slice_set W.coroutines co d) r (in_progress (awake (slice_get (slice_set W.coroutines co d) r))); chain = without_last W.chain } ]) e

back_some : (W : World) (cells : List Cell) (co r : ℕ) (d : Coroutine) → last (without_last W.chain) ≡ Some r → back_to_resumer (put_coroutine (record W { cells = cells }) co d) ≡ record W { cells = cells; coroutines = slice_set (slice_set W.coroutines co d) r (in_progress (awake (slice_get (slice_set W.coroutines co d) r))); chain = without_last W.chain }
unfolding back_to_resumer put_coroutine
back_some W cells co r d e = ap (λ (o : Option ℕ). elim o as (λ _. World) [ None ↦ record W { cells = cells; coroutines = slice_set W.coroutines co d; chain = without_last W.chain } | Some r ↦ record W { cells = cells; coroutines = slice_set (slice_set W.coroutines co d) r (in_progress (awake (slice_get (slice_set W.coroutines co d) r))); chain = without_last W.chain } ]) e

module _ (n : ℕ) (W : World) (s : Solid n W) (h : StackWaits n W) (d : Coroutine) (a : standing d ≡ apart) (ok : CoroutineOk (sizes n W) d) (cells : List Cell) (left : CellsLeft n W h.coroutine d cells) where
  abbrev co : ℕ
  co = h.coroutine

  ch : W.chain ≡ without_last W.chain ++ h.coroutine ∷ []
  ch = last_splits W.chain h.coroutine h.last

  abbrev one_less : List Coroutine
  one_less = slice_set W.coroutines h.coroutine d

  standings : map standing one_less ≡ slice_set (map standing W.coroutines) h.coroutine apart
  standings = map-set standing W.coroutines h.coroutine d ∙ ap (λ a. slice_set (map standing W.coroutines) h.coroutine a) a

  chained : ChainOk W.main (map standing W.coroutines) (without_last W.chain ++ h.coroutine ∷ [])
  chained = subst (ChainOk W.main (map standing W.coroutines)) ch s.chain

  one_each : OneEach cells
  one_each i j e g r x y = s.one_each i j e g r (left.still_open i e g r x) (left.still_open j e g r y)

  at_co : slice_get one_less h.coroutine ≡ Some d
  at_co = get_set_same W.coroutines h.coroutine (in_progress h.frames) d h.running

  cells_less : Each (CellOk (sizes n W) one_less) cells
  cells_less i (closed v) e = left.closed_ok i v e
  cells_less i (open_at e g r) x = ⊎_elim
      (λ (q : e ≡ h.coroutine). subst (λ e. r < registers_of one_less e g) (sym q) (subst (λ m. r < m) (sym (registers_are one_less h.coroutine g d at_co)) (left.there i g r (subst (λ e. slice_get cells i ≡ Some (open_at e g r)) q x))))
      (λ q. subst (λ m. r < m) (sym (rw (get_set_other W.coroutines h.coroutine e d (λ k. q (sym k)), registers_of) refl)) (s.cells i (open_at e g r) (left.still_open i e g r x)))
      (cases_eq e h.coroutine)

  coroutines_less : Each (CoroutineOk (sizes n W)) one_less
  coroutines_less = each_set (CoroutineOk (sizes n W)) W.coroutines h.coroutine d s.coroutines ok

  size_less : length one_less ≡ length W.coroutines
  size_less = length_set W.coroutines h.coroutine d

  main_runs : (b : Bool) → without_last W.chain ≡ [] → runs_main W ≡ b → b ≡ true
  main_runs b e q = let k = ap length ch in let l = ap length e in let m = length-append (without_last W.chain) (h.coroutine ∷ []) in let t : runs_main W ≡ true = grind (arith, nat_tests) in sym q ∙ t

  not_main : (b : Bool) (r : ℕ) → last (without_last W.chain) ≡ Some r → runs_main W ≡ b → b ≡ false
  not_main b r e q = let k = ap length ch in let l = (last_get (without_last W.chain) r e).1 in let m = length-append (without_last W.chain) (h.coroutine ∷ []) in let t : runs_main W ≡ false = grind (arith, nat_tests) in sym q ∙ t

  pub goes_back : BackTo n W (back_to_resumer (put_coroutine (record W { cells = cells }) h.coroutine d))
  goes_back = from (last (without_last W.chain)) refl
    where
      none' : last (without_last W.chain) ≡ None → BackTo n W (back_to_resumer (put_coroutine (record W { cells = cells }) h.coroutine d))
      none' e =
          let z = none_last (without_last W.chain) e in
          let c = subst (λ l. ChainOk W.main (map standing (slice_set W.coroutines h.coroutine d)) l) (sym z) (subst (λ st. ChainOk W.main st []) (sym standings) (chain_empty W.main (map standing W.coroutines) (without_last W.chain) h.coroutine chained z)) in
          record {
            world = with_coroutines n W s cells (slice_set W.coroutines h.coroutine d) (without_last W.chain) left.count size_less;
            is = back_none W cells h.coroutine d e;
            grows = coroutines_grow n W s cells (slice_set W.coroutines h.coroutine d) (without_last W.chain) left.count size_less;
            solid = coroutines_solid n W s cells (slice_set W.coroutines h.coroutine d) (without_last W.chain) left.count size_less cells_less one_each coroutines_less c;
            phase = λ b q. subst (λ b. IsPhase n (after_end b) (with_coroutines n W s cells (slice_set W.coroutines h.coroutine d) (without_last W.chain) left.count size_less)) (sym (main_runs b z q)) z;
          }

      some' : (r : ℕ) → last (without_last W.chain) ≡ Some r → BackTo n W (back_to_resumer (put_coroutine (record W { cells = cells }) h.coroutine d))
      some' r e =
          let was = r_was W.main (map standing W.coroutines) (without_last W.chain) h.coroutine chained r e in
          let c = map_get standing W.coroutines r resumed_another was in
          let f = normal_is c.0 c.2 in
          let there : slice_get W.coroutines r ≡ Some (normal f.0) = c.1 ∙ ap Some f.1 in
          let differ : h.coroutine ≡ r → ⊥ = (λ q. let x : Some (in_progress h.frames) ≡ Some (normal f.0) = sym h.running ∙ ap (slice_get W.coroutines) q ∙ there in absurd (cc)) in
          let still : slice_get (slice_set W.coroutines h.coroutine d) r ≡ Some (normal f.0) = get_set_other W.coroutines h.coroutine r d differ ∙ there in
          let cos = slice_set (slice_set W.coroutines h.coroutine d) r (in_progress f.0) in
          let size = length_set (slice_set W.coroutines h.coroutine d) r (in_progress f.0) ∙ size_less in
          let st : map standing cos ≡ slice_set (slice_set (map standing W.coroutines) h.coroutine apart) r runs = map-set standing (slice_set W.coroutines h.coroutine d) r (in_progress f.0) ∙ ap (λ l. slice_set l r runs) standings in
          let chain = subst (λ st. ChainOk W.main st (without_last W.chain)) (sym st) (chain_back W.main (map standing W.coroutines) (without_last W.chain) h.coroutine chained r e) in
          let fr : AllWait (sizes n W) f.0 = s.coroutines r (normal f.0) there in
          let here = get_set_same (slice_set W.coroutines h.coroutine d) r (normal f.0) (in_progress f.0) still in
          let same : (e g : ℕ) → registers_of cos e g ≡ registers_of (slice_set W.coroutines h.coroutine d) e g = (λ e g. ⊎_elim
          (λ (q : e ≡ r). subst (λ e. registers_of cos e g ≡ registers_of (slice_set W.coroutines h.coroutine d) e g) (sym q) (registers_are cos r g (in_progress f.0) here ∙ sym (registers_are (slice_set W.coroutines h.coroutine d) r g (normal f.0) still)))
          (λ q. rw (get_set_other (slice_set W.coroutines h.coroutine d) r e (in_progress f.0) (λ k. q (sym k)), registers_of) refl) (cases_eq e r)) in
          let cs : Each (CellOk (sizes n W) cos) cells = (λ i c x. on_cell cos same c (cells_less i c x)) in
          let g = coroutines_grow n W s cells cos (without_last W.chain) left.count size in
          let V = with_coroutines n W s cells cos (without_last W.chain) left.count size in
          record {
            world = V;
            is = back_some W cells h.coroutine r d e ∙ ap (λ o. record W { cells = cells; coroutines = slice_set (slice_set W.coroutines h.coroutine d) r (in_progress (awake o)); chain = without_last W.chain }) still;
            grows = g;
            solid = coroutines_solid n W s cells cos (without_last W.chain) left.count size cs one_each (each_set (CoroutineOk (sizes n W)) (slice_set W.coroutines h.coroutine d) r (in_progress f.0) coroutines_less fr.right) chain;
            phase = λ b q. subst (λ b. IsPhase n (after_end b) V) (sym (not_main b r e q)) (record {
              all = record { coroutine = r; frames = f.0; last = e; running = here; waits = each_waits_on (sizes n W) (sizes n V) g f.0 fr.waits };
              top = tt;
            });
          }
        where
          on_cell : (cos : List Coroutine) → ((e g : ℕ) → registers_of cos e g ≡ registers_of (slice_set W.coroutines h.coroutine d) e g) → (c : Cell) → CellOk (sizes n W) (slice_set W.coroutines h.coroutine d) c → CellOk (sizes n W) cos c
          on_cell cos m (closed v) k = k
          on_cell cos m (open_at e g q) k = subst (λ x. q < x) (sym (m e g)) k

      from : (o : Option ℕ) → last (without_last W.chain) ≡ o → BackTo n W (back_to_resumer (put_coroutine (record W { cells = cells }) h.coroutine d))
      from None e = none' e
      from (Some r) e = some' r e
