-- Open cells: each names a register that is its frame's own, and they stand in the order of their frames and registers.
use Rattle.std.proofs.Common.{◌≡◌, ℕ, zero, suc, ◌-◌, ◌<◌, ◌≤◌, Bool, true, false, List, [], ◌∷◌, ◌++◌, length, map, take, drop, Option, Some, None, refl, ap, sym, ◌∙◌, subst, arith, length-append, ◌⊎◌, inl, inr}
use Rattle.std.specs.Prelude.{cond, not, ◌&&◌, ◌||◌, nat_eq, nat_lt, slice_get, slice_index_or, IfSome, IfNone}
use Rattle.std.proofs.lemmas.Bool.Decides.{nat_tests}
use Rattle.std.proofs.lemmas.List.{length-map, take-append-drop}
use Rattle.list_laws.proofs.Items.{append_nil, some_same}
use Rattle.table_core.specs.declared.value.Value.{Value as Kept}
use Rattle.table_core.specs.declared.value.CellId.{CellId}
use Rattle.lua_stack.specs.declared.frame.Window.{Window}
use Rattle.lua_stack.specs.declared.frame.Running.{Running}
use Rattle.lua_stack.specs.declared.frame.Record.{Record}
use Rattle.lua_stack.specs.declared.frame.OpenCell.{OpenCell}
use Rattle.lua_stack.specs.declared.frame.Kind.{Kind}
use Rattle.lua_stack.specs.declared.frame.Kind.TheVariants.{Missing, Lua, Pcall, Xpcall, Handler, Closing}
use Rattle.lua_stack.specs.declared.stack.Stack.TheInside.{Inside}
use Rattle.lua_stack.specs.Frames.{KeptStack, IsBelow, AllBelow, AllAbove, cell_at, top_number, NoneFrom, Adds, opened_at}
use Rattle.lua_stack.specs.View.{frame_at, tops, tops_of, reach_of, reach_at, AllWithin, AreInOrder, AreOpen, window_at, IsFirst, FirstFrom, IsTaken, is_at, stands_below, NoneUnder, whole_record}
use Rattle.lua_stack.proofs.Parts.{drop_there, take_whole}
use Rattle.lua_stack.proofs.Ends.{shown, stands}

-- cells by their places

no_such : true ≡ false → ⊥
no_such e = cc

abbrev both_are : (f r g s : ℕ) → Bool
both_are f r g s = nat_eq f g && nat_eq r s

both_first : (f r g s : ℕ) (b : Bool) → nat_eq f g ≡ b → both_are f r g s ≡ (b && nat_eq r s)
both_first f r g s b e = ap (λ t. t && nat_eq r s) e

not_at : (f r g s : ℕ) → (f ≡ g → r ≡ s → ⊥) → both_are f r g s ≡ false
not_at f r g s h = by (nat_eq f g) refl (nat_eq r s) refl
  where
    by : (b : Bool) → nat_eq f g ≡ b → (t : Bool) → nat_eq r s ≡ t → both_are f r g s ≡ false
    by false p t q = both_first f r g s false p
    by true p false q = both_first f r g s true p ∙ q
    by true p true q =
        let e : f ≡ g = grind (arith, nat_tests) in
        let m : r ≡ s = grind (arith, nat_tests) in
        absurd (h e m)

-- not at a register that is behind, or in front
not_at_less : (f r g s : ℕ) → (g ≤ f → r < s) → both_are f r g s ≡ false
not_at_less f r g s h = not_at f r g s (λ e m. let k = h (omega (arith, e)) in omega (arith, m, k))

not_at_more : (f r g s : ℕ) → (f ≤ g → s < r) → both_are f r g s ≡ false
not_at_more f r g s h = not_at f r g s (λ e m. let k = h (omega (arith, e)) in omega (arith, m, k))

pub at_is : (f r g s : ℕ) → f ≡ g → r ≡ s → both_are f r g s ≡ true
at_is f r g s e m = by (nat_eq f g) refl (nat_eq r s) refl
  where
    by : (b : Bool) → nat_eq f g ≡ b → (t : Bool) → nat_eq r s ≡ t → both_are f r g s ≡ true
    by true p true q = both_first f r g s true p ∙ q
    by true p false q = absurd (no_such (let x : nat_eq r s ≡ true = grind (arith, nat_tests) in sym x ∙ q))
    by false p t q = absurd (no_such (let x : nat_eq f g ≡ true = grind (arith, nat_tests) in sym x ∙ p))

-- what the test for a place tells
placed : (frame register : ℕ) (c : OpenCell) → ((stands_below frame register c ≡ true) × IsBelow frame register c) ⊎ ((stands_below frame register c ≡ false) × IsFirst frame register c)
placed frame register c = by (nat_lt c.frame frame) refl (nat_eq c.frame frame) refl (nat_lt c.register register) refl
  where
    test : (s t u : Bool) → nat_lt c.frame frame ≡ s → nat_eq c.frame frame ≡ t → nat_lt c.register register ≡ u → stands_below frame register c ≡ (s || (t && u))
    test s t u p q w = ap (λ s. s || (nat_eq c.frame frame && nat_lt c.register register)) p ∙ ap (λ t. s || (t && nat_lt c.register register)) q ∙ ap (λ u. s || (t && u)) w

    by : (s : Bool) → nat_lt c.frame frame ≡ s → (t : Bool) → nat_eq c.frame frame ≡ t → (u : Bool) → nat_lt c.register register ≡ u
        → ((stands_below frame register c ≡ true) × IsBelow frame register c) ⊎ ((stands_below frame register c ≡ false) × IsFirst frame register c)
    by true p t q u w =
        let l : c.frame < frame = grind (arith, nat_tests) in
        inl (test true t u p q w, record { frame_at_most = omega (arith, l); register_less = λ g. absurd (omega (arith, l, g)) })
    by false p true q true w =
        let l : c.frame ≡ frame = grind (arith, nat_tests) in
        let m : c.register < register = grind (arith, nat_tests) in
        inl (test false true true p q w, record { frame_at_most = omega (arith, l); register_less = λ g. m })
    by false p true q false w =
        let l : c.frame ≡ frame = grind (arith, nat_tests) in
        let m : register ≤ c.register = grind (arith, nat_tests) in
        inr (test false true false p q w, record { frame_at_least = omega (arith, l); register_at_least = λ g. m })
    by false p false q u w =
        let l : frame ≤ c.frame = grind (arith, nat_tests) in
        inr (
          test false false u p q w,
          record { frame_at_least = l; register_at_least = λ g. absurd (no_such (let x : nat_eq c.frame frame ≡ true = grind (arith, nat_tests) in sym x ∙ q)) },
        )

pub below_true : (frame register : ℕ) (c : OpenCell) → true ≡ stands_below frame register c → IsBelow frame register c
below_true frame register c e = elim (placed frame register c) [ inl x ↦ x.1 | inr x ↦ absurd (no_such (e ∙ x.0)) ]

pub below_false : (frame register : ℕ) (c : OpenCell) → false ≡ stands_below frame register c → IsFirst frame register c
below_false frame register c e = elim (placed frame register c) [ inl x ↦ absurd (no_such (sym (e ∙ x.0))) | inr x ↦ x.1 ]

pub none_below : (frame register : ℕ) (cs ds : List OpenCell) → AllBelow frame register cs → cell_at frame register (cs ++ ds) ≡ cell_at frame register ds
none_below frame register [] ds b = refl
none_below frame register (c ∷ cs) ds b =
    ap (λ t. cond t (Some c.cell) (cell_at frame register (cs ++ ds))) (not_at_less c.frame c.register frame register b.0.register_less) ∙ none_below frame register cs ds b.1

pub none_above : (frame register : ℕ) (cs : List OpenCell) → AllAbove frame register cs → cell_at frame register cs ≡ None
none_above frame register [] b = refl
none_above frame register (c ∷ cs) b = ap (λ t. cond t (Some c.cell) (cell_at frame register cs)) (not_at_more c.frame c.register frame register b.1) ∙ none_above frame register cs b.2

above_more : (f r g s : ℕ) (cs : List OpenCell) → f ≤ g → (g ≤ f → r ≤ s) → AllAbove g s cs → AllAbove f r cs
above_more f r g s [] l h b = tt
above_more f r g s (c ∷ cs) l h b =
    ((let k = b.0 in omega arith), (λ q. let k = b.1 (omega arith) in let m = h (let j = b.0 in omega arith) in omega arith), above_more f r g s cs l h b.2)

order_back : (cs ds : List OpenCell) → AreInOrder (cs ++ ds) → AreInOrder ds
order_back [] ds o = o
order_back (c ∷ cs) ds o = order_back cs ds o.1

-- all in front of one that stands in front of a place do so
pub below_all : (frame register : ℕ) (cs : List OpenCell) (c : OpenCell) → AreInOrder (cs ++ c ∷ []) → IsBelow frame register c → AllBelow frame register (cs ++ c ∷ [])
below_all frame register [] c o b = (b, tt)
below_all frame register (d ∷ cs) c o b =
    let l = last_above d.frame d.register cs o.0 in (
      record {
        frame_at_most = (let k = l.0 in let m = b.frame_at_most in omega arith);
        register_less = λ q.
            let k = l.0 in
            let m = b.register_less (omega arith) in
            let n = l.1 (let j = b.frame_at_most in omega arith) in
            omega arith;
      },
      below_all frame register cs c o.1 b,
    )
  where
    last_above : (f r : ℕ) (cs : List OpenCell) → AllAbove f r (cs ++ c ∷ []) → (f ≤ c.frame) × (c.frame ≤ f → r < c.register)
    last_above f r [] a = (a.0, a.1)
    last_above f r (d ∷ cs) a = last_above f r cs a.2

more_than : (m n : ℕ) → n ≤ m → (m ≡ n → ⊥) → n < m
more_than zero zero l o = absurd (o refl)
more_than zero (suc n) l o = absurd (omega arith)
more_than (suc m) zero l o = omega arith
more_than (suc m) (suc n) l o = let k = more_than m n (omega arith) (λ e. o (ap suc e)) in omega arith

first_found : (frame register : ℕ) (c : OpenCell) (cs : List OpenCell) → IsFirst frame register c → AllAbove c.frame c.register cs → is_at frame register c ≡ false → AllAbove frame register (c ∷ cs)
first_found frame register c cs h a e = (
  h.frame_at_least,
  (λ q. more_than c.register register (h.register_at_least q) (λ same.
      let k = h.frame_at_least in
      let x : true ≡ false = sym (at_is c.frame c.register frame register (omega (arith, k, q)) same) ∙ e in
      no_such x)),
  above_more frame register c.frame c.register cs h.frame_at_least (λ q. h.register_at_least q) a,
)

split_at : (cells : List OpenCell) (at : ℕ) → cells ≡ take at cells ++ drop at cells
split_at cells at = sym (take-append-drop at cells)

-- what is open at a register, by the cell that stands where it would
pub found_end : (frame register at : ℕ) (cells : List OpenCell) → at ≡ length cells → AllBelow frame register (take at cells) → None ≡ cell_at frame register cells
found_end frame register at cells e b =
    let whole : take at cells ≡ cells = ap (λ n. take n cells) e ∙ take_whole cells in
    sym (ap (cell_at frame register) (sym (append_nil cells)) ∙ none_below frame register cells [] (subst (AllBelow frame register) whole b))

module _ (frame register at : ℕ) (cells : List OpenCell) (c : OpenCell) (o : AreInOrder cells) (b : AllBelow frame register (take at cells)) (h : FirstFrom frame register (drop at cells))
    (g : slice_get cells at ≡ Some c) where
  behind_is : drop at cells ≡ c ∷ drop (suc at) cells
  behind_is = drop_there cells at c g

  cell_is : cell_at frame register cells ≡ cond (is_at frame register c) (Some c.cell) (cell_at frame register (drop (suc at) cells))
  cell_is =
      ap (cell_at frame register) (split_at cells at) ∙ none_below frame register (take at cells) (drop at cells) b ∙ ap (cell_at frame register) behind_is

  above_all : AllAbove c.frame c.register (drop (suc at) cells)
  above_all = (subst AreInOrder behind_is (order_back (take at cells) (drop at cells) (subst AreInOrder (split_at cells at) o))).0

  pub found_there : true ≡ is_at frame register c → Some c.cell ≡ cell_at frame register cells
  found_there e = sym (cell_is ∙ ap (λ t. cond t (Some c.cell) (cell_at frame register (drop (suc at) cells))) (sym e))

  pub found_not : false ≡ is_at frame register c → None ≡ cell_at frame register cells
  found_not e =
      sym (cell_is ∙ ap (λ t. cond t (Some c.cell) (cell_at frame register (drop (suc at) cells))) (sym e)
      ∙ none_above frame register (drop (suc at) cells) (first_found frame register c (drop (suc at) cells) (subst (FirstFrom frame register) behind_is h) above_all (sym e)).2)

some_none : (x : CellId) → Some x ≡ None → ⊥
some_none x e = cc

-- what is not open stands behind
pub above_rest : (frame register : ℕ) (cs ds : List OpenCell) → AreInOrder (cs ++ ds) → AllBelow frame register cs → FirstFrom frame register ds → cell_at frame register (cs ++ ds) ≡ None → AllAbove frame register ds
above_rest frame register cs [] o b h e = tt
above_rest frame register cs (d ∷ ds) o b h e = by (is_at frame register d) refl
  where
    by : (t : Bool) → is_at frame register d ≡ t → AllAbove frame register (d ∷ ds)
    by false t = first_found frame register d ds h (order_back cs (d ∷ ds) o).0 t
    by true t = absurd (some_none d.cell (sym (none_below frame register cs (d ∷ ds) b ∙ ap (λ t. cond t (Some d.cell) (cell_at frame register ds)) t) ∙ e))

-- one more, in its place
pub one_more : (cs ds : List OpenCell) (c : OpenCell) → AreInOrder (cs ++ ds) → AllBelow c.frame c.register cs → AllAbove c.frame c.register ds → AreInOrder (cs ++ c ∷ ds)
one_more [] ds c o b a = (a, o)
one_more (d ∷ cs) ds c o b a = (among d.frame d.register cs o.0 b.0.frame_at_most b.0.register_less, one_more cs ds c o.1 b.1 a)
  where
    among : (f r : ℕ) (cs : List OpenCell) → AllAbove f r (cs ++ ds) → f ≤ c.frame → (c.frame ≤ f → r < c.register) → AllAbove f r (cs ++ c ∷ ds)
    among f r [] h l m = (l, m, h)
    among f r (e ∷ cs) h l m = (h.0, h.1, among f r cs h.2 l m)

-- one cell further back
pub first_step : (frame register at : ℕ) (cells : List OpenCell) (c : OpenCell) → slice_get cells at ≡ Some c → IsFirst frame register c → FirstFrom frame register (drop at cells)
first_step frame register at cells c g h = subst (FirstFrom frame register) (sym (drop_there cells at c g)) h

take_one : (cells : List OpenCell) (at : ℕ) (c : OpenCell) → slice_get cells at ≡ Some c → take (suc at) cells ≡ take at cells ++ c ∷ []
take_one [] at c g = absurd (cc)
take_one (d ∷ cells) zero c g = ap (λ d. d ∷ []) (some_same d c g)
take_one (d ∷ cells) (suc at) c g = ap (λ l. d ∷ l) (take_one cells at c g)

pub stop_here : (frame register at : ℕ) (cells : List OpenCell) (c : OpenCell) → AreInOrder cells → slice_get cells at ≡ Some c → IsBelow frame register c → AllBelow frame register (take (suc at) cells)
stop_here frame register at cells c o g b =
    let e : take (suc at) cells ≡ take at cells ++ c ∷ [] = take_one cells at c g in
    subst (AllBelow frame register) (sym e) (below_all frame register (take at cells) c (front_order cells at o g) b)
  where
    some_above : (f r : ℕ) (cells : List OpenCell) (at : ℕ) → AllAbove f r cells → slice_get cells at ≡ Some c → AllAbove f r (take at cells ++ c ∷ [])
    some_above f r [] at h g = absurd (cc)
    some_above f r (d ∷ cells) zero h g = subst (λ d. AllAbove f r (d ∷ [])) (some_same d c g) (h.0, h.1, tt)
    some_above f r (d ∷ cells) (suc at) h g = (h.0, h.1, some_above f r cells at h.2 g)

    front_order : (cells : List OpenCell) (at : ℕ) → AreInOrder cells → slice_get cells at ≡ Some c → AreInOrder (take at cells ++ c ∷ [])
    front_order [] at o g = absurd (cc)
    front_order (d ∷ cells) zero o g = (tt, tt)
    front_order (d ∷ cells) (suc at) o g = (some_above d.frame d.register cells at o.0 g, front_order cells at o.1 g)

-- the last cell
pub taken_is : (frame register n : ℕ) (old new : List OpenCell) (c : OpenCell) → suc n ≡ length old → slice_get old n ≡ Some c → new ≡ take n old → false ≡ stands_below frame register c → IsTaken frame register old new c
taken_is frame register n old new c e g q f = record {
  cells = sym (take_whole old) ∙ ap (λ m. take m old) (sym e) ∙ take_one old n c g ∙ ap (λ l. l ++ c ∷ []) (sym q);
  first = below_false frame register c f;
}

pub none_taken : (frame register n : ℕ) (old : List OpenCell) (c : OpenCell) → AreInOrder old → suc n ≡ length old → slice_get old n ≡ Some c → true ≡ stands_below frame register c → AllBelow frame register old
none_taken frame register n old c o e g f =
    subst (AllBelow frame register) (ap (λ m. take m old) e ∙ take_whole old) (stop_here frame register n old c o g (below_true frame register c f))

pub first_end : (frame register n : ℕ) (cells : List OpenCell) → n ≡ length cells → FirstFrom frame register (drop n cells)
first_end frame register n cells e = subst (FirstFrom frame register) (sym (ap (λ n. drop n cells) e ∙ drop_whole cells)) tt
  where
    drop_whole : (cells : List OpenCell) → drop (length cells) cells ≡ []
    drop_whole [] = refl
    drop_whole (c ∷ cells) = drop_whole cells

pub first_before : (frame register n : ℕ) (cells : List OpenCell) (c : OpenCell) → slice_get cells n ≡ Some c → false ≡ stands_below frame register c → FirstFrom frame register (drop n cells)
first_before frame register n cells c g e = first_step frame register n cells c g (below_false frame register c e)

pub stop_before : (frame register n m : ℕ) (cells : List OpenCell) (c : OpenCell) → AreInOrder cells → suc n ≡ m → slice_get cells n ≡ Some c → true ≡ stands_below frame register c → AllBelow frame register (take m cells)
stop_before frame register n m cells c o e g t = subst (λ m. AllBelow frame register (take m cells)) e (stop_here frame register n cells c o g (below_true frame register c t))

pub none_left : (frame register n : ℕ) (cells : List OpenCell) → n ≡ 0 → AllBelow frame register (take n cells)
none_left frame register n cells e = subst (λ n. AllBelow frame register (take n cells)) (sym e) tt

pub empty_below : (frame register : ℕ) (old : List OpenCell) → 0 ≡ length old → AllBelow frame register old
empty_below frame register [] e = tt
empty_below frame register (c ∷ cs) e = absurd (omega (arith, e))

order_front : (cs ds : List OpenCell) → AreInOrder (cs ++ ds) → AreInOrder cs
order_front [] ds o = tt
order_front (c ∷ cs) ds o = (front c.frame c.register cs o.0, order_front cs ds o.1)
  where
    front : (f r : ℕ) (cs : List OpenCell) → AllAbove f r (cs ++ ds) → AllAbove f r cs
    front f r [] a = tt
    front f r (c ∷ cs) a = (a.0, a.1, front f r cs a.2)

-- registers that are there

pub reach_over : (below : List Record) (k : Kind) (w : Window) (n r : ℕ) → r < reach_at below k w n → n ≤ length below
reach_over [] k w zero r l = omega arith
reach_over [] k w (suc n) r l = absurd (omega arith)
reach_over (q ∷ below) k w zero r l = omega arith
reach_over (q ∷ below) k w (suc n) r l = let h = reach_over below k w n r l in omega arith

-- the frames of more cells
pub within_split : (below : List Record) (k : Kind) (w : Window) (cs ds : List OpenCell) → AllWithin below k w (cs ++ ds) → AllWithin below k w cs × AllWithin below k w ds
within_split below k w [] ds h = (tt, h)
within_split below k w (c ∷ cs) ds h = let t = within_split below k w cs ds h.1 in ((h.0, t.0), t.1)

pub within_join : (below : List Record) (k : Kind) (w : Window) (cs ds : List OpenCell) → AllWithin below k w cs → AllWithin below k w ds → AllWithin below k w (cs ++ ds)
within_join below k w [] ds h t = t
within_join below k w (c ∷ cs) ds h t = (h.0, within_join below k w cs ds h.1 t)

-- where one is open, its register is its frame's own
pub open_within : (below : List Record) (k : Kind) (w : Window) (n r : ℕ) (cs : List OpenCell) (id : CellId) → AllWithin below k w cs → cell_at n r cs ≡ Some id → r < reach_at below k w n
open_within below k w n r [] id h e = absurd (cc)
open_within below k w n r (c ∷ cs) id h e = by (λ x. open_within below k w n r cs id h.1 x) (nat_eq c.frame n) refl (nat_eq c.register r) refl
  where
    by : (cell_at n r cs ≡ Some id → r < reach_at below k w n) → (s : Bool) → nat_eq c.frame n ≡ s → (t : Bool) → nat_eq c.register r ≡ t → r < reach_at below k w n
    by later true p true q =
        let f : c.frame ≡ n = grind (arith, nat_tests) in
        let g : c.register ≡ r = grind (arith, nat_tests) in
        subst (λ n. r < reach_at below k w n) f (let l = h.0 in omega (arith, l, g))
    by later true p false q = later (sym (ap (λ s. cond (s && nat_eq c.register r) (Some c.cell) (cell_at n r cs)) p ∙ ap (λ t. cond t (Some c.cell) (cell_at n r cs)) q) ∙ e)
    by later false p t q = later (sym (ap (λ s. cond (s && nat_eq c.register r) (Some c.cell) (cell_at n r cs)) p) ∙ e)

-- other frames, in which each register that was there still is
within_more : (below : List Record) (k : Kind) (w : Window) (above : List Record) (j : Kind) (v : Window) (cs : List OpenCell)
    → ((n r : ℕ) → r < reach_at below k w n → r < reach_at above j v n) → AllWithin below k w cs → AllWithin above j v cs
within_more below k w above j v [] f h = tt
within_more below k w above j v (c ∷ cs) f h = (f c.frame c.register h.0, within_more below k w above j v cs f h.1)

pub below_pushed : (below : List Record) (r : Running) (k : Kind) (w : Window) (j : Kind) (v : Window) (cs : List OpenCell) → AreOpen below k w cs
    → AreOpen (below ++ tops (record { kind = k; running = r; window = w })) j v cs
below_pushed below r k w j v cs h = record { there = within_more below k w (below ++ tops_of k top) j v cs (more below) h.there; in_order = h.in_order }
  where
    top : Record
    top = record { kind = k; running = r; window = w }

    last : (k : Kind) (n m : ℕ) → m < reach_at [] k w n → m < reach_at (tops_of k (record { kind = k; running = r; window = w })) j v n
    last Missing zero m l = absurd (omega arith)
    last Lua zero m l = l
    last Pcall zero m l = l
    last (Xpcall h) zero m l = l
    last Handler zero m l = l
    last (Closing e) zero m l = l
    last k (suc n) m l = absurd (omega arith)

    more : (below : List Record) (n m : ℕ) → m < reach_at below k w n → m < reach_at (below ++ tops_of k top) j v n
    more [] n m l = last k n m l
    more (q ∷ below) zero m l = l
    more (q ∷ below) (suc n) m l = more below n m l

-- the frame on top has other registers, and each cell of it is in front of their end
pub resized_open : (below : List Record) (w v : Window) (cs : List OpenCell) → AreOpen below Lua w cs → AllBelow (length below) v.kept cs → AreOpen below Lua v cs
resized_open below w v cs h b = record { there = by cs h.there b; in_order = h.in_order }
  where
    one : (below : List Record) (n r : ℕ) → r < reach_at below Lua w n → n ≤ length below → (length below ≤ n → r < v.kept) → r < reach_at below Lua v n
    one [] zero r l a b = b (omega arith)
    one [] (suc n) r l a b = absurd (omega arith)
    one (q ∷ below) zero r l a b = l
    one (q ∷ below) (suc n) r l a b = one below n r l (omega arith) (λ t. b (omega arith))

    by : (cs : List OpenCell) → AllWithin below Lua w cs → AllBelow (length below) v.kept cs → AllWithin below Lua v cs
    by [] h b = tt
    by (c ∷ cs) h b = (one below c.frame c.register h.0 b.0.frame_at_most b.0.register_less, by cs h.1 b.1)

reach_whole : (k : Kind) (w v : Window) (r : ℕ) → w.kept ≤ v.kept → r < reach_of k w → r < reach_of k v
reach_whole Lua w v r m l = omega arith
reach_whole _ w v r m l = absurd (omega arith)

-- the frame below is on top again
pub popped_open : (below : List Record) (q : Record) (k : Kind) (w : Window) (cs : List OpenCell) → q.window.kept ≤ q.window.size → AreOpen (below ++ q ∷ []) k w cs → AllBelow (length (below ++ q ∷ [])) 0 cs
    → AreOpen below q.kind (whole_record q).window cs
popped_open below q k w cs l h b = record { there = by cs h.there b; in_order = h.in_order }
  where
    one : (below : List Record) (n r : ℕ) → r < reach_at (below ++ q ∷ []) k w n → n ≤ length (below ++ q ∷ []) → (length (below ++ q ∷ []) ≤ n → r < 0) → r < reach_at below q.kind (whole_record q).window n
    one [] zero r h a b = reach_whole q.kind q.window (whole_record q).window r l h
    one [] (suc zero) r h a b = absurd (let t = b (omega arith) in omega arith)
    one [] (suc (suc n)) r h a b = absurd (omega arith)
    one (p ∷ below) zero r h a b = h
    one (p ∷ below) (suc n) r h a b = one below n r h (omega arith) (λ t. b (omega arith))

    by : (cs : List OpenCell) → AllWithin (below ++ q ∷ []) k w cs → AllBelow (length (below ++ q ∷ [])) 0 cs → AllWithin below q.kind (whole_record q).window cs
    by [] h b = tt
    by (c ∷ cs) h b = (one below c.frame c.register h.0 b.0.frame_at_most b.0.register_less, by cs h.1 b.1)

-- the last frame is gone, and its cells were closed
pub emptied_open : (k : Kind) (w : Window) (j : Kind) (v : Window) (cs : List OpenCell) → AreOpen [] k w cs → AllBelow 0 0 cs → AreOpen [] j v cs
emptied_open k w j v [] h b = record { there = tt; in_order = tt }
emptied_open k w j v (c ∷ cs) h b = absurd (let l = b.0.frame_at_most in let m = b.0.register_less (omega arith) in omega (arith, m))

-- a frame that is no Lua frame has no open cell
not_of_top : (below : List Record) (k : Kind) (w : Window) (cs : List OpenCell) → reach_of k w ≡ 0 → AllWithin below k w cs → AllBelow (length below) 0 cs
not_of_top below k w [] z h = tt
not_of_top below k w (c ∷ cs) z h = (record { frame_at_most = reach_over below k w c.frame c.register h.0; register_less = λ q. absurd (none below c.frame c.register h.0 q) }, not_of_top below k w cs z h.1)
  where
    none : (below : List Record) (n r : ℕ) → r < reach_at below k w n → length below ≤ n → ⊥
    none [] zero r l q = omega (arith, z)
    none [] (suc n) r l q = omega arith
    none (p ∷ below) zero r l q = omega arith
    none (p ∷ below) (suc n) r l q = none below n r l (omega arith)

pub closed_top : (below : List Record) (k : Kind) (w : Window) (cs : List OpenCell) → (k ≡ Lua → AllBelow (length below) 0 cs) → AllWithin below k w cs → AllBelow (length below) 0 cs
closed_top below Missing w cs f h = not_of_top below Missing w cs refl h
closed_top below Lua w cs f h = f refl
closed_top below Pcall w cs f h = not_of_top below Pcall w cs refl h
closed_top below (Xpcall x) w cs f h = not_of_top below (Xpcall x) w cs refl h
closed_top below Handler w cs f h = not_of_top below Handler w cs refl h
closed_top below (Closing x) w cs f h = not_of_top below (Closing x) w cs refl h

-- the number of the frame on top
number_of : (values : List Kept) (pending : List ℕ) (below : List Record) (k : Kind) (r : Running) (w : Window) → NoneUnder k below
    → length (map (frame_at values pending) (below ++ tops (record { kind = k; running = r; window = w }))) - 1 ≡ length below
number_of values pending below k r w n =
    let l = length-map (below ++ tops_of k (record { kind = k; running = r; window = w })) (frame_at values pending) in
    let m = by k n in
    omega (arith, l, m)
  where
    by : (k : Kind) → NoneUnder k below → length (below ++ tops_of k (record { kind = k; running = r; window = w })) - 1 ≡ length below
    by Missing n = ap (λ b. length (b ++ []) - 1) n ∙ ap length (sym n)
    by Lua n = let m = length-append below (record { kind = Lua; running = r; window = w } ∷ []) in omega (arith, m)
    by Pcall n = let m = length-append below (record { kind = Pcall; running = r; window = w } ∷ []) in omega (arith, m)
    by (Xpcall h) n = let m = length-append below (record { kind = Xpcall h; running = r; window = w } ∷ []) in omega (arith, m)
    by Handler n = let m = length-append below (record { kind = Handler; running = r; window = w } ∷ []) in omega (arith, m)
    by (Closing h) n = let m = length-append below (record { kind = Closing h; running = r; window = w } ∷ []) in omega (arith, m)

pub number_is : (a : Inside) (s : KeptStack) → shown a ≡ s → stands a → top_number s ≡ length a.below.items
number_is a s v i = ap top_number (sym v) ∙ number_of a.values.items a.pending.items a.below.items a.top.kind a.top.running a.top.window i.none

-- what a caller knows of the cells of the frame on top
pub none_from : (a : Inside) (s : KeptStack) (r : ℕ) → shown a ≡ s → stands a → NoneFrom s r → AllBelow (length a.below.items) r a.open_cells.items
none_from a s r v i h = subst (λ n. AllBelow n r a.open_cells.items) (number_is a s v i) (subst (λ cs. AllBelow (top_number s) r cs) (sym (ap (λ (s : KeptStack). s.open_cells) v)) h.below)

-- a cell is opened

pub added : (frame register at : ℕ) (cell : CellId) (old new : List OpenCell) → AreInOrder old → AllBelow frame register (take at old) → FirstFrom frame register (drop at old) → cell_at frame register old ≡ None
    → new ≡ take at old ++ opened_at cell frame register ∷ drop at old → Adds old new (opened_at cell frame register)
added frame register at cell old new o b h e q = record {
  before = take at old;
  after = drop at old;
  was = split_at old at;
  is = q;
  below = b;
  above = above_rest frame register (take at old) (drop at old) (subst AreInOrder (split_at old at) o) b h (ap (cell_at frame register) (sym (split_at old at)) ∙ e);
}

reach_top : (below : List Record) (k : Kind) (w : Window) → reach_at below k w (length below) ≡ reach_of k w
reach_top [] k w = refl
reach_top (q ∷ below) k w = reach_top below k w

pub added_open : (below : List Record) (k : Kind) (w : Window) (c : OpenCell) (old new : List OpenCell) → AreOpen below k w old → Adds old new c → c.frame ≡ length below → c.register < reach_of k w → AreOpen below k w new
added_open below k w c old new h x e l =
    let parts = within_split below k w x.before x.after (subst (AllWithin below k w) x.was h.there) in
    let there : c.register < reach_at below k w c.frame = subst (λ n. c.register < reach_at below k w n) (sym e) (let m = reach_top below k w in omega (arith, m, l)) in
    subst (AreOpen below k w) (sym x.is) (record {
      there = within_join below k w x.before (c ∷ x.after) parts.0 (there, parts.1);
      in_order = one_more x.before x.after c (subst AreInOrder x.was h.in_order) x.below x.above;
    })

-- a cell is taken

pub taken_open : (below : List Record) (k : Kind) (w : Window) (frame register : ℕ) (old new : List OpenCell) (r : Option OpenCell) → AreOpen below k w old
    → IfSome r (λ c. IsTaken frame register old new c) → IfNone r (new ≡ old) → AreOpen below k w new
taken_open below k w frame register old new None h t e = subst (AreOpen below k w) (sym e) h
taken_open below k w frame register old new (Some c) h t e = record {
  there = (within_split below k w new (c ∷ []) (subst (AllWithin below k w) t.cells h.there)).0;
  in_order = order_front new (c ∷ []) (subst AreInOrder t.cells h.in_order);
}

last_there : (below : List Record) (k : Kind) (w : Window) (cs : List OpenCell) (c : OpenCell) → AllWithin below k w (cs ++ c ∷ []) → c.register < reach_at below k w c.frame
last_there below k w cs c h = (within_split below k w cs (c ∷ []) h).1.0

-- the frame on top is a Lua frame where it has a register that is its own
pub reach_lua : (k : Kind) (w : Window) (r : ℕ) → r < reach_of k w → (k ≡ Lua) × (r < w.kept)
reach_lua Lua w r l = (refl, l)
reach_lua _ w r l = absurd (omega arith)

pub last_reach : (below : List Record) (k : Kind) (w : Window) (register : ℕ) (old new : List OpenCell) (c : OpenCell) → AreOpen below k w old → IsTaken (length below) register old new c
    → (c.frame ≡ length below) × (register ≤ c.register) × (c.register < reach_of k w)
last_reach below k w register old new c h t =
    let l : c.register < reach_at below k w c.frame = last_there below k w new c (subst (AllWithin below k w) t.cells h.there) in
    let m : c.frame ≤ length below = reach_over below k w c.frame c.register l in
    let n = t.first.frame_at_least in
    let e : c.frame ≡ length below = omega (arith, m, n) in
    (e, t.first.register_at_least m, let x = reach_top below k w in let y : c.register < reach_at below k w (length below) = subst (λ n. c.register < reach_at below k w n) e l in omega (arith, x, y))

-- in the words of the stack

pub found_is : (a : Inside) (s : KeptStack) (register n : ℕ) (cells : List OpenCell) (r : Option CellId) → shown a ≡ s → stands a → r ≡ cell_at n register cells → n ≡ length a.below.items → cells ≡ a.open_cells.items
    → r ≡ cell_at (top_number s) register s.open_cells
found_is a s register n cells r v i e l q =
    e ∙ ap (λ cells. cell_at n register cells) (q ∙ ap (λ (s : KeptStack). s.open_cells) v) ∙ ap (λ n. cell_at n register s.open_cells) (l ∙ sym (number_is a s v i))

pub added_in : (a : Inside) (s : KeptStack) (register n at : ℕ) (cell : CellId) (cells new : List OpenCell) → shown a ≡ s → stands a → AreOpen a.below.items a.top.kind a.top.window a.open_cells.items
    → n ≡ length a.below.items → cells ≡ a.open_cells.items → AllBelow n register (take at cells) → FirstFrom n register (drop at cells) → cell_at (top_number s) register s.open_cells ≡ None
    → new ≡ take at a.open_cells.items ++ opened_at cell n register ∷ drop at a.open_cells.items → Adds a.open_cells.items new (opened_at cell n register)
added_in a s register n at cell cells new v i o l q b h e w =
    added n register at cell a.open_cells.items new o.in_order (subst (λ cs. AllBelow n register (take at cs)) q b) (subst (λ cs. FirstFrom n register (drop at cs)) q h)
    (ap (λ n. cell_at n register a.open_cells.items) (l ∙ sym (number_is a s v i)) ∙ ap (λ (s' : KeptStack). cell_at (top_number s) register s'.open_cells) v ∙ e) w

pub added_to : (a : Inside) (s : KeptStack) (register n : ℕ) (cell : CellId) (new : List OpenCell) → shown a ≡ s → stands a → n ≡ length a.below.items → Adds a.open_cells.items new (opened_at cell n register)
    → Adds s.open_cells new (opened_at cell (top_number s) register)
added_to a s register n cell new v i l x =
    subst (λ cs. Adds cs new (opened_at cell (top_number s) register)) (ap (λ (s : KeptStack). s.open_cells) v) (subst (λ n. Adds a.open_cells.items new (opened_at cell n register)) (l ∙ sym (number_is a s v i)) x)

-- windows by number
pub window_or : (below : List Record) (w : Window) (n : ℕ) (d : Record) → n < length below → (slice_index_or below n d).window ≡ window_at below w n
window_or [] w n d l = absurd (omega arith)
window_or (q ∷ below) w zero d l = refl
window_or (q ∷ below) w (suc n) d l = window_or below w n d (omega arith)

pub window_top : (below : List Record) (w : Window) (n : ℕ) → n ≡ length below → w ≡ window_at below w n
window_top [] w n e = refl
window_top (q ∷ below) w zero e = absurd (omega (arith, e))
window_top (q ∷ below) w (suc n) e = window_top below w n (omega (arith, e))

-- other values and marks, and at least as many registers
pub kept_open : (below : List Record) (k : Kind) (w v : Window) (cs : List OpenCell) → w.kept ≤ v.kept → AreOpen below k w cs → AreOpen below k v cs
kept_open below k w v cs l h = record { there = within_more below k w below k v cs (more below) h.there; in_order = h.in_order }
  where
    more : (below : List Record) (n r : ℕ) → r < reach_at below k w n → r < reach_at below k v n
    more [] zero r h = reach_whole k w v r l h
    more [] (suc n) r h = absurd (omega arith)
    more (q ∷ below) zero r h = h
    more (q ∷ below) (suc n) r h = more below n r h

pub not_false : (b : Bool) → not b ≡ false → b ≡ true
not_false true e = refl
not_false false e = absurd (cc)

pub all_below_more : (frame r s : ℕ) (cs : List OpenCell) → r ≤ s → AllBelow frame r cs → AllBelow frame s cs
all_below_more frame r s [] l h = tt
all_below_more frame r s (c ∷ cs) l h = (record { frame_at_most = h.0.frame_at_most; register_less = λ q. (let k = h.0.register_less q in omega arith) }, all_below_more frame r s cs l h.1)

-- a frame that is no Lua frame has no open cell, so another of the like may take its place
pub no_reach_open : (below : List Record) (k : Kind) (w : Window) (j : Kind) (v : Window) (cs : List OpenCell) → reach_of k w ≡ 0 → AreOpen below k w cs → AreOpen below j v cs
no_reach_open below k w j v cs z h = record { there = within_more below k w below j v cs (more below) h.there; in_order = h.in_order }
  where
    more : (below : List Record) (n r : ℕ) → r < reach_at below k w n → r < reach_at below j v n
    more [] zero r h = absurd (omega (arith, z, h))
    more [] (suc n) r h = absurd (omega arith)
    more (q ∷ below) zero r h = h
    more (q ∷ below) (suc n) r h = more below n r h
