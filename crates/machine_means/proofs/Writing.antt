-- A cell is written, whoever runs: both worlds stay joined.
use Rattle.std.proofs.Common.{ℕ, ◌<◌, ◌≡◌, ◌≢◌, ⊎_elim, List, length, Option, Some, None, refl, sym, ap, subst, ◌∙◌, arith, Bool}
use Rattle.std.specs.Prelude.{slice_get, slice_set}
use Rattle.std.proofs.lemmas.Bool.{cases_eq}
use Rattle.std.proofs.lemmas.Option.{slice_get_within}
use Rattle.int_core.specs.Value.{Value, nth, bind}
use Rattle.list_laws.specs.Held.{Held}
use Rattle.list_laws.proofs.Items.{get_set_same, get_set_other, length_set}
use Rattle.list_laws.proofs.Values.{nth_set_same, nth_set_other}
use Rattle.machine_core.specs.World as machine
use Rattle.machine_core.specs.World.{Cell, closed, open_at, Frame, LuaFrame, Coroutine, frames_of, lua_frame, read_cell, write_cell, write_in_coroutine}
use Rattle.machine_means.specs.Joined.{TalkWorld, Stacks, CoroutinePair, HoldsIn, HoldsOf, Holds, CellsPair, Joined}
use Rattle.machine_means.specs.Laws.{WritesJoined}
use Rattle.machine_means.proofs.FrameWrites.{cells_put, stack_values}
use Rattle.machine_means.proofs.CellWrites.{stack_write, all3_map, co_values, cos_write}
use Rattle.machine_means.proofs.Rejoined.{rejoined}

abbrev Runs : Bool → machine.World → TalkWorld → List Value → List Frame → List Held → Type 0
Runs lax M T vs frames hs = Stacks lax M.functions vs frames T.frames hs

-- a cell that is closed is held by nobody
module _ (ws : List Cell) (vs : List Value) (hss : List (List Held)) (k : CellsPair ws vs hss) (c : ℕ) (u v : Value) (e : slice_get ws c ≡ Some (closed u)) where
  pub free : (i f r : ℕ) → HoldsIn hss i f r c → ⊥
  free i f r m = let z : Some (closed u) ≡ Some (open_at i f r) = sym e ∙ k.held_open c i f r m in cc

  apart : (d i f r : ℕ) → slice_get ws d ≡ Some (open_at i f r) → c ≢ d
  apart d i f r g q = let z : Some (closed u) ≡ Some (open_at i f r) = sym e ∙ ap (slice_get ws) q ∙ g in cc

  back : (d i f r : ℕ) → slice_get (slice_set ws c (closed v)) d ≡ Some (open_at i f r) → slice_get ws d ≡ Some (open_at i f r)
  back d i f r g = ⊎_elim
      (λ q. let z : Some (open_at i f r) ≡ Some (closed v) = sym g ∙ ap (slice_get (slice_set ws c (closed v))) (sym q) ∙ get_set_same ws c (closed u) (closed v) e in absurd (cc))
      (λ n. sym (get_set_other ws c d (closed v) n) ∙ g)
      (cases_eq c d)

  within : c < length vs
  within = let i = slice_get_within ws c (closed u) e in let s = k.size in omega (arith, i, s)

  pub cells_set : CellsPair (slice_set ws c (closed v)) (slice_set vs c v) hss
  cells_set = record {
    size = length_set ws c (closed v) ∙ k.size ∙ sym (length_set vs c v);
    shut = λ d w g. ⊎_elim
        (λ q. let z : Some (closed v) ≡ Some (closed w) = sym (get_set_same ws c (closed u) (closed v) e) ∙ ap (slice_get (slice_set ws c (closed v))) q ∙ g in
        let y : v ≡ w = cc in ap (nth (slice_set vs c v)) (sym q) ∙ nth_set_same c v vs within ∙ y)
        (λ n. nth_set_other c v vs d (λ q. n (sym q)) ∙ k.shut d w (sym (get_set_other ws c d (closed v) n) ∙ g))
        (cases_eq c d);
    opened = λ d i f r g. k.opened d i f r (back d i f r g);
    held_open = λ d i f r m. let g = k.held_open d i f r m in get_set_other ws c d (closed v) (apart d i f r g) ∙ g;
    one = λ d d' i f r g g'. k.one d d' i f r (back d i f r g) (back d' i f r g');
  }

module _ (lax : Bool) (M : machine.World) (T : TalkWorld) (k : Joined lax M T) (c : ℕ) (v : Value) where
  write_shut : (u : Value) → slice_get M.cells c ≡ Some (closed u) → Joined lax (record M { cells = slice_set M.cells c (closed v) }) (record T { cells = slice_set T.cells c v })
  write_shut u e =
      rejoined lax lax M T k (slice_set M.cells c (closed v)) M.coroutines M.chain M.moving M.fuel (slice_set T.cells c v) T.coroutines T.chain T.frames T.now T.fuel k.held k.fuel k.chain
      (cells_set M.cells T.cells k.held k.cells c u v e)
      (λ j. all3_map (CoroutinePair M.functions T.cells (Runs lax M T T.cells)) (CoroutinePair M.functions (slice_set T.cells c v) (Runs lax M T (slice_set T.cells c v)))
      (slice_get M.coroutines j) (slice_get T.coroutines j) (slice_get k.held j)
      (λ x y hs _ at_j p.
      let no : (f q : ℕ) → Holds f q c hs → ⊥ = λ f q m. free M.cells T.cells k.held k.cells c u v e j f q (subst (λ o. HoldsOf o f q c) (sym at_j) m) in
      co_values M.functions T.cells c v (Runs lax M T T.cells) (Runs lax M T (slice_set T.cells c v)) x y hs no (λ frames s. stack_values M.functions T.cells c v lax frames T.frames hs no s) p)
      (k.coroutines j))

  reads_so : (f r : ℕ) (o : Option (List Frame))
      → bind o (λ frames. bind (bind (slice_get frames f) lua_frame) (λ fr. slice_get fr.own.registers r)) ≡ bind (bind o (λ frames. bind (slice_get frames f) lua_frame)) (λ fr. slice_get fr.own.registers r)
  reads_so f r None = refl
  reads_so f r (Some frames) = refl

  write_open : (i f r : ℕ) (x : Coroutine) (was : Value) → slice_get M.cells c ≡ Some (open_at i f r) → slice_get M.coroutines i ≡ Some x
      → bind (frames_of x) (λ frames. bind (bind (slice_get frames f) lua_frame) (λ fr. slice_get fr.own.registers r)) ≡ Some was
      → Joined lax (record M { coroutines = slice_set M.coroutines i (write_in_coroutine f r v x) }) (record T { cells = slice_set T.cells c v })
  write_open i f r x was e there reads =
      let l : c < length T.cells = (let a = slice_get_within M.cells c (open_at i f r) e in let s = k.cells.size in omega (arith, a, s)) in
      rejoined lax lax M T k M.cells (slice_set M.coroutines i (write_in_coroutine f r v x)) M.chain M.moving M.fuel (slice_set T.cells c v) T.coroutines T.chain T.frames T.now T.fuel k.held k.fuel k.chain
      (cells_put M.cells T.cells k.held k.cells c i f r v e)
      (cos_write M.functions T.cells M.cells M.coroutines T.coroutines k.held k.cells (Runs lax M T T.cells) (Runs lax M T (slice_set T.cells c v)) c i f r v was e x there (sym (reads_so f r (frames_of x)) ∙ reads)
      (λ frames hs no s. stack_values M.functions T.cells c v lax frames T.frames hs no s)
      (λ frames hs m apart h at_f value s. stack_write lax M.functions T.cells frames T.frames hs f r c v was m at_f value l apart h s)
      k.coroutines)

pub writes_joined : WritesJoined
unfolding write_cell
writes_joined lax M T k c (closed u) e was d v = write_shut lax M T k c v u e
writes_joined lax M T k c (open_at i f r) e was d v = by (slice_get M.coroutines i) refl d
  where
    by : (o : Option Coroutine) → slice_get M.coroutines i ≡ o → bind (bind o frames_of) (λ frames. bind (bind (slice_get frames f) lua_frame) (λ fr. slice_get fr.own.registers r)) ≡ Some was
        → Joined lax (elim o as (λ _. machine.World) [ None ↦ M | Some x ↦ record M { coroutines = slice_set M.coroutines i (write_in_coroutine f r v x) } ]) (record T { cells = slice_set T.cells c v })
    by None there reads = absurd (cc)
    by (Some x) there reads = write_open lax M T k c v i f r x was e there reads
