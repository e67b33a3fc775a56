-- A cell of the running function is read or written, wherever it is open.
use Rattle.std.proofs.Common.{ℕ, ◌<◌, ◌≡◌, ◌≢◌, ⊎_elim, List, ◌∷◌, length, Option, Some, None, refl, sym, ap, subst, ◌∙◌, arith, Bool, false}
use Rattle.std.specs.Prelude.{slice_get, slice_set, cond}
use Rattle.std.proofs.lemmas.Bool.{cases_eq}
use Rattle.std.proofs.lemmas.Option.{slice_get_within}
use Rattle.code_core.specs.Prototype.{Prototype}
use Rattle.int_core.specs.Value.{Value, nth, bind}
use Rattle.list_laws.specs.Held.{Held, Has}
use Rattle.list_laws.proofs.Ends.{upward}
use Rattle.list_laws.proofs.Items.{get_set_same, get_set_other, length_set}
use Rattle.list_laws.proofs.Values.{nth_set_other, nth_get}
use Rattle.list_laws.proofs.Tests.{eq_not}
use Rattle.machine_core.specs.World as machine
use Rattle.machine_core.specs.World.{Function, Cell, closed, open_at, Wait, Activation, Frame, lua, Coroutine, fresh, suspended, in_progress, normal, dead, failed, frames_of, read_cell, write_cell, write_in_coroutine, write_in_frame}
use Rattle.machine_core.specs.Talk.{State}
use Rattle.machine_means.proofs.FrameNumbers.{frame_top, frame_below, value_in, put_frame, length_put, set_frame}
use Rattle.lua_meaning.specs.World as talk
use Rattle.machine_means.specs.Joined.{TalkFrame, TalkWorld, RegistersPair, Stacks, CoroutinePair, AllThree, Holds, HoldsOf, HoldsIn}
use Rattle.machine_means.proofs.Held.{holds_less, reverse_is}
use Rattle.machine_means.proofs.Shutting.{below_held}
use Rattle.machine_means.proofs.FrameWrites.{below_length, below_values, below_write, cells_put, apart_in, apart_less, one_owner}
use Rattle.machine_means.proofs.CellWrites.{all3_first, all3_at, co_write}
use Rattle.machine_means.proofs.Switches.{Never}
use Rattle.machine_means.proofs.Writing.{free, cells_set}
use Rattle.means_steps.proofs.Middle.{Around, Middle, frame, still_middle, values_at, others_frames, others_values, own_holds, below_holds}

-- reads

module _ (fs : List Function) (vs : List Value) where
  stack_read : (lax : Bool) (frames : List Frame) (ts : List TalkFrame) (hs : List Held) (f r c : ℕ) (v : Value) → Stacks lax fs vs frames ts hs → Holds f r c hs → value_in (slice_get frames f) r ≡ Some v → nth vs c ≡ v
  stack_read lax frames ts hs f r c v s m e =
      let p = below_held lax fs vs s.ms ts hs f r c s.below m in
      let there : slice_get frames f ≡ Some (lua p.0) = ap (λ xs. slice_get xs f) (s.listed ∙ reverse_is s.ms) ∙ p.1 in
      p.2 ∙ nth_get p.0.own.registers r v (ap (λ o. value_in o r) (sym there) ∙ e)

  co_read : (x : Coroutine) (y : talk.Coroutine State) (hs : List Held) (f r c : ℕ) (v : Value) → CoroutinePair fs vs Never x y hs → Holds f r c hs → bind (frames_of x) (λ frames. value_in (slice_get frames f) r) ≡ Some v → nth vs c ≡ v
  co_read (suspended frames) (talk.suspended ts) hs f r c v k m e = stack_read false frames ts hs f r c v k m e
  co_read (normal frames) (talk.normal ts) hs f r c v k m e = stack_read false frames ts hs f r c v k m e
  co_read (in_progress frames) talk.running hs f r c v k m e = absurd k
  co_read (fresh a) (talk.fresh b) hs f r c v k m e = absurd (cc)
  co_read dead talk.dead hs f r c v k m e = absurd (cc)
  co_read (failed a p) (talk.failed d q) hs f r c v k m e = absurd (cc)
  co_read _ _ hs f r c v k m e = absurd k

  all3_read : (p : Option Coroutine) (q : Option (talk.Coroutine State)) (s : Option (List Held)) (f r c : ℕ) (v : Value) → AllThree (CoroutinePair fs vs Never) p q s → HoldsOf s f r c → bind (bind p frames_of) (λ frames. value_in (slice_get frames f) r) ≡ Some v → nth vs c ≡ v
  all3_read (Some x) (Some y) (Some hs) f r c v k m e = co_read x y hs f r c v k m e
  all3_read (Some x) (Some y) None f r c v k m e = absurd k
  all3_read (Some x) None (Some hs) f r c v k m e = absurd k
  all3_read (Some x) None None f r c v k m e = absurd k
  all3_read None (Some y) (Some hs) f r c v k m e = absurd k
  all3_read None (Some y) None f r c v k m e = absurd k
  all3_read None None (Some hs) f r c v k m e = absurd k
  all3_read None None None f r c v k m e = absurd m

module _ (M : machine.World) (T : TalkWorld) (vs : List Value) (co n : ℕ) (g : Function) (g' : talk.Function Prototype) (w : Wait Value) (own : Activation) (h : Held) (below : List Frame) (ts : List TalkFrame)
    (k : Middle M T vs co n g g' w own h below ts) (known : List Value) (pair : RegistersPair vs h known own.registers) where
  abbrev frames : List Frame
  frames = upward (lua (frame n w own) ∷ below)

  same_length : length k.more ≡ length below
  same_length = below_length false M.functions vs below ts k.more k.waits

  own_read : (f r c : ℕ) (v : Value) → HoldsIn k.held co f r c → value_in (slice_get frames f) r ≡ Some v → nth vs c ≡ v
  own_read f r c v m e = ⊎_elim
      (λ o. pair.on r c o.1 ∙ nth_get own.registers r v (ap (λ o. value_in o r) (sym (frame_top below (lua (frame n w own)) f (o.0 ∙ same_length))) ∙ e))
      (λ o.
      let p = below_held false M.functions vs below ts k.more f r c k.waits o in
      let i = holds_less k.more f r c o in
      let l = same_length in
      let there : slice_get frames f ≡ Some (lua p.0) = frame_below below (lua (frame n w own)) f (omega (arith, i, l)) ∙ p.1 in
      p.2 ∙ nth_get p.0.own.registers r v (ap (λ o. value_in o r) (sym there) ∙ e))
      (own_holds M.cells vs k.held k.cells co h k.more k.holds f r c m)

  pub cell_read : (c : ℕ) (cell : Cell) (v : Value) → slice_get M.cells c ≡ Some cell → read_cell M cell ≡ Some v → nth vs c ≡ v
  cell_read c (closed u) v e z = let y : u ≡ v = cc in k.cells.shut c u e ∙ y
  cell_read c (open_at i f r) v e z =
      let m = k.cells.opened c i f r e in
      ⊎_elim
      (λ (q : co ≡ i). own_read f r c v (subst (λ i. HoldsIn k.held i f r c) (sym q) m) (sym (ap (λ o. bind (bind o frames_of) (λ frames. value_in (slice_get frames f) r)) (ap (slice_get M.coroutines) (sym q) ∙ k.runs)) ∙ z))
      (λ q. all3_read M.functions vs (slice_get M.coroutines i) (slice_get T.coroutines i) (slice_get k.held i) f r c v (k.others i q) m z)
      (cases_eq co i)

  -- writes; the cell is one of the function of the frame on top, which does not hold it
  module _ (around : Around M T) (c u : ℕ) (mine : slice_get g.cells u ≡ Some c) where
    pub record Written (W : machine.World) (v : Value) : Type 0 where
      pub below' : List Frame
      pub around' : Around W T
      pub middle : Middle W T (slice_set vs c v) co n g g' w own h below' ts
      pub pair' : RegistersPair (slice_set vs c v) h known own.registers

    not_held : (r d : ℕ) → Has r d h → d ≢ c
    not_held r d m q = k.not_own r c u (subst (λ d. Has r d h) q m) mine

    still_pair : (v : Value) → RegistersPair (slice_set vs c v) h known own.registers
    still_pair v = record { size = pair.size; off = pair.off; on = λ r d m. nth_set_other c v vs d (not_held r d m) ∙ pair.on r d m }

    write_shut : (x v : Value) → slice_get M.cells c ≡ Some (closed x) → Written (record M { cells = slice_set M.cells c (closed v) }) v
    write_shut x v e =
        let nobody = free M.cells vs k.held k.cells c x v e in
        record {
          below' = below;
          around' = record { heap = around.heap; globals = around.globals; printed = around.printed; fuel = around.fuel; chain = around.chain };
          middle = still_middle k (slice_set M.cells c (closed v)) M.coroutines (slice_set vs c v) w own below (λ u d y. (let i = k.in_range u d y in let l = length_set M.cells c (closed v) in omega (arith, i, l))) k.runs
              (cells_set M.cells vs k.held k.cells c x v e)
              (below_values false M.functions vs (slice_set vs c v) below ts k.more (λ f r d m. nth_set_other c v vs d (λ q. nobody co f r (below_holds M.cells vs k.held k.cells co h k.more k.holds f r c (subst (λ d. Holds f r d k.more) q m)))) k.waits) k.depth
              (others_values M.functions vs (slice_set vs c v) co M.coroutines T.coroutines k.held (λ j f r d _ m. nth_set_other c v vs d (λ q. nobody j f r (subst (λ d. HoldsIn k.held j f r d) q m))) k.others);
          pair' = still_pair v;
        }

    within : (i f r : ℕ) → slice_get M.cells c ≡ Some (open_at i f r) → c < length vs
    within i f r e = let a = slice_get_within M.cells c (open_at i f r) e in let s = k.cells.size in omega (arith, a, s)

    -- in another frame of the coroutine that runs
    module _ (f r : ℕ) (v was : Value) (e : slice_get M.cells c ≡ Some (open_at co f r)) (reads : value_in (slice_get frames f) r ≡ Some was) where
      in_below : Holds f r c k.more
      in_below = ⊎_elim (λ o. absurd (k.not_own r c u o.1 mine)) (λ o. o) (own_holds M.cells vs k.held k.cells co h k.more k.holds f r c (k.cells.opened c co f r e))

      number : f < length below
      number = let i = holds_less k.more f r c in_below in let l = same_length in omega (arith, i, l)

      abbrev put : List Frame
      put = put_frame f r v below

      coroutine_is : write_in_coroutine f r v (in_progress (upward (lua (frame n w own) ∷ below))) ≡ in_progress (upward (lua (frame n w own) ∷ put_frame f r v below))
      coroutine_is =
          let p = below_held false M.functions vs below ts k.more f r c k.waits in_below in
          let there : slice_get frames f ≡ Some (lua p.0) = frame_below below (lua (frame n w own)) f number ∙ p.1 in
          let apart : f ≢ length below = (λ q. (let l = number in omega (arith, l, q))) in
          ap (λ o. elim (bind o (λ m. Some (slice_set frames f (write_in_frame r v m)))) as (λ _. Coroutine) [ None ↦ in_progress frames | Some xs ↦ in_progress xs ]) there
          ∙ ap in_progress (set_frame f r v (lua (frame n w own) ∷ below) (lua p.0) there)
          ∙ ap (λ b. in_progress (upward (cond b (write_in_frame r v (lua (frame n w own)) ∷ below) (lua (frame n w own) ∷ put_frame f r v below)))) (eq_not f (length below) apart)

      write_below : Written (record M { coroutines = slice_set M.coroutines co (in_progress (upward (lua (frame n w own) ∷ put_frame f r v below))) }) v
      write_below = record {
        below' = put;
        around' = record { heap = around.heap; globals = around.globals; printed = around.printed; fuel = around.fuel; chain = around.chain };
        middle = still_middle k M.cells (slice_set M.coroutines co (in_progress (upward (lua (frame n w own) ∷ put_frame f r v below)))) (slice_set vs c v) w own put k.in_range
            (get_set_same M.coroutines co (in_progress frames) (in_progress (upward (lua (frame n w own) ∷ put))) k.runs)
            (cells_put M.cells vs k.held k.cells c co f r v e)
            (below_write false M.functions vs below ts k.more f r c v was (ap (λ o. value_in o r) (sym (frame_below below (lua (frame n w own)) f number)) ∙ reads) (within co f r e)
            (apart_less h k.more (apart_in M.cells vs k.held k.cells co (h ∷ k.more) k.holds)) in_below k.waits)
            (let l = length_put f r v below in let d = k.depth in omega (arith, l, d))
            (others_frames M.functions (slice_set vs c v) co M.coroutines T.coroutines k.held (in_progress (upward (lua (frame n w own) ∷ put)))
            (others_values M.functions vs (slice_set vs c v) co M.coroutines T.coroutines k.held
            (λ j f' r' d q m. nth_set_other c v vs d (λ z. q (one_owner M.cells vs k.held k.cells co f r j f' r' c (k.cells.opened c co f r e) (subst (λ d. HoldsIn k.held j f' r' d) z m)).0)) k.others));
        pair' = still_pair v;
      }

    -- in the frames of another coroutine
    module _ (i f r : ℕ) (v was : Value) (x : Coroutine) (apart : co ≢ i) (e : slice_get M.cells c ≡ Some (open_at i f r)) (there : slice_get M.coroutines i ≡ Some x)
        (reads : bind (frames_of x) (λ frames. value_in (slice_get frames f) r) ≡ Some was) where
      abbrev cs1 : List Coroutine
      cs1 = slice_set M.coroutines i (write_in_coroutine f r v x)

      reads_so : (o : Option (List Frame)) → bind o (λ frames. value_in (slice_get frames f) r) ≡ bind (bind o (λ frames. bind (slice_get frames f) machine.lua_frame)) (λ fr. slice_get fr.own.registers r)
      reads_so None = refl
      reads_so (Some _) = refl

      other_cell : (j f' r' d : ℕ) → i ≢ j → HoldsIn k.held j f' r' d → nth (slice_set vs c v) d ≡ nth vs d
      other_cell j f' r' d q m = nth_set_other c v vs d (λ z. q (one_owner M.cells vs k.held k.cells i f r j f' r' c (k.cells.opened c i f r e) (subst (λ d. HoldsIn k.held j f' r' d) z m)).0)

      others_written : (j : ℕ) → co ≢ j → AllThree (CoroutinePair M.functions (slice_set vs c v) Never) (slice_get cs1 j) (slice_get T.coroutines j) (slice_get k.held j)
      others_written j q = ⊎_elim
          (λ (d : i ≡ j).
          let p = all3_first (CoroutinePair M.functions vs Never) x (slice_get M.coroutines j) (slice_get T.coroutines j) (slice_get k.held j) (ap (slice_get M.coroutines) (sym d) ∙ there) (k.others j q) in
          let holds : Holds f r c p.1 = subst (λ o. HoldsOf o f r c) (ap (slice_get k.held) d ∙ p.3) (k.cells.opened c i f r e) in
          all3_at (CoroutinePair M.functions (slice_set vs c v) Never) (slice_get cs1 j) (slice_get T.coroutines j) (slice_get k.held j) (write_in_coroutine f r v x) p.0 p.1
          (ap (slice_get cs1) (sym d) ∙ get_set_same M.coroutines i x (write_in_coroutine f r v x) there) p.2 p.3
          (co_write M.functions vs f r c v was Never Never x p.0 p.1 (sym (reads_so (frames_of x)) ∙ reads) (within i f r e) (apart_in M.cells vs k.held k.cells j p.1 p.3) holds (λ fr m at_f value never. never) p.4))
          (λ d. subst (λ o. AllThree (CoroutinePair M.functions (slice_set vs c v) Never) o (slice_get T.coroutines j) (slice_get k.held j)) (sym (get_set_other M.coroutines i j (write_in_coroutine f r v x) d)) (still j q d))
          (cases_eq i j)
        where
          still : (j : ℕ) → co ≢ j → i ≢ j → AllThree (CoroutinePair M.functions (slice_set vs c v) Never) (slice_get M.coroutines j) (slice_get T.coroutines j) (slice_get k.held j)
          still j q d = values_at M.functions vs (slice_set vs c v) M.coroutines T.coroutines k.held j (λ f' r' d' m. other_cell j f' r' d' d m) (k.others j q)

      write_apart : Written (record M { coroutines = slice_set M.coroutines i (write_in_coroutine f r v x) }) v
      write_apart = record {
        below' = below;
        around' = record { heap = around.heap; globals = around.globals; printed = around.printed; fuel = around.fuel; chain = around.chain };
        middle = still_middle k M.cells (slice_set M.coroutines i (write_in_coroutine f r v x)) (slice_set vs c v) w own below k.in_range
            (get_set_other M.coroutines i co (write_in_coroutine f r v x) (λ q. apart (sym q)) ∙ k.runs)
            (cells_put M.cells vs k.held k.cells c i f r v e)
            (below_values false M.functions vs (slice_set vs c v) below ts k.more (λ f' r' d m. other_cell co f' r' d (λ q. apart (sym q)) (below_holds M.cells vs k.held k.cells co h k.more k.holds f' r' d m)) k.waits) k.depth
            others_written;
        pair' = still_pair v;
      }

    pub cell_written : (cell : Cell) (v was : Value) → slice_get M.cells c ≡ Some cell → read_cell M cell ≡ Some was → Written (write_cell M c cell v) v
    unfolding write_cell
    cell_written (closed x) v was e z = write_shut x v e
    cell_written (open_at i f r) v was e z = by (slice_get M.coroutines i) refl z
      where
        by : (o : Option Coroutine) → slice_get M.coroutines i ≡ o → bind (bind o frames_of) (λ frames. value_in (slice_get frames f) r) ≡ Some was
            → Written (elim o as (λ _. machine.World) [ None ↦ M | Some x ↦ record M { coroutines = slice_set M.coroutines i (write_in_coroutine f r v x) } ]) v
        by None there reads = absurd (cc)
        by (Some x) there reads = ⊎_elim
            (λ (q : co ≡ i).
            let is : x ≡ in_progress frames = (let z : Some x ≡ Some (in_progress frames) = sym there ∙ ap (slice_get M.coroutines) (sym q) ∙ k.runs in cc) in
            let at_co : slice_get M.cells c ≡ Some (open_at co f r) = e ∙ ap (λ i. Some (open_at i f r)) (sym q) in
            let reads' : value_in (slice_get frames f) r ≡ Some was = sym (ap (λ x. bind (frames_of x) (λ frames. value_in (slice_get frames f) r)) is) ∙ reads in
            subst (λ i. Written (record M { coroutines = slice_set M.coroutines i (write_in_coroutine f r v x) }) v) q
            (subst (λ x. Written (record M { coroutines = slice_set M.coroutines co (write_in_coroutine f r v x) }) v) (sym is)
            (subst (λ y. Written (record M { coroutines = slice_set M.coroutines co y }) v) (sym (coroutine_is f r v was at_co reads')) (write_below f r v was at_co reads'))))
            (λ q. write_apart i f r v was x q e there reads)
            (cases_eq co i)
