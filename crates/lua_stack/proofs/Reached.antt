-- Registers of any frame, which are reached by the cells that are open at them.
use Rattle.std.proofs.Common.{◌≡◌, ℕ, zero, suc, ◌+◌, ◌-◌, ◌<◌, ◌≤◌, List, [], ◌∷◌, ◌++◌, length, map, take, Option, Some, None, refl, ap, sym, ◌∙◌, subst, arith, le_refl, length-append}
use Rattle.std.specs.Prelude.{slice_get, slice_set, IfSome, IfNone}
use Rattle.std.proofs.lemmas.List.{length-map}
use Rattle.int_core.specs.Value.{Value, known, nil, bind, write}
use Rattle.list_laws.proofs.Items.{get_old, some_same}
use Rattle.machine_core.specs.World.{Frame, lua, lua_frame, write_in_frame}
use Rattle.table_core.specs.declared.value.Value.{Value as Kept}
use Rattle.table_core.specs.declared.value.CellId.{CellId}
use Rattle.lua_stack.specs.declared.frame.Window.{Window}
use Rattle.lua_stack.specs.declared.frame.Running.{Running}
use Rattle.lua_stack.specs.declared.frame.Record.{Record}
use Rattle.lua_stack.specs.declared.frame.OpenCell.{OpenCell}
use Rattle.lua_stack.specs.declared.frame.Kind.{Kind}
use Rattle.lua_stack.specs.declared.frame.Kind.TheVariants.{Lua, Closing}
use Rattle.lua_stack.specs.declared.stack.Stack.TheInside.{Inside}
use Rattle.lua_stack.specs.Frames.{KeptStack, kept_lua, kept_closing, cell_at, frames, frame_of, lua_of, register_in, HasOpen, HasRegisters, AllBelow, NoneFrom, TakesLast, RegisterIs, RegisterBecomes, Adds, opened_at, top_number}
use Rattle.lua_stack.specs.View.{part, blank, frame_at, frame_in, lua_at, registers_at, tops_of, seen, IsUnder, AllUnder, AllOver, IsWithin, AreStacked, AreOpen, IsTaken, reach_of, reach_at, window_at}
use Rattle.lua_stack.proofs.Parts.{drop_set, part_kept, part_set_in, take_set, length_part}
use Rattle.lua_stack.proofs.Stacked.{lua_with}
use Rattle.lua_stack.proofs.Ends.{map_more, shown, stands, lua_on_top, lua_frames}
use Rattle.lua_stack.proofs.Own.{get_part, get_map, lua_top, map_set, made, length_whole, room_in}
use Rattle.lua_stack.proofs.OpenCells.{added_open, open_within, reach_over, reach_lua, last_reach, number_is}

-- where an open register stands

-- how far a frame's own registers go
reach_end : (n m : ℕ) (below : List Record) (k : Kind) (w : Window) → AreStacked n m below → IsWithin n m w → (frame r : ℕ) → r < reach_at below k w frame → (window_at below w frame).base + r < n
reach_end n m [] k w s i zero r l = let x = (reach_lua k w r l).1 in let a = i.kept in let b = i.end in omega (arith, x)
reach_end n m [] k w s i (suc frame) r l = absurd (omega arith)
reach_end n m (q ∷ below) k w s i zero r l = let x = (reach_lua q.kind q.window r l).1 in let a = s.1.kept in let b = s.1.end in omega (arith, x)
reach_end n m (q ∷ below) k w s i (suc frame) r l = reach_end n m below k w s.3 i frame r l

module _ (a : Inside) (s : KeptStack) (frame register : ℕ) (v : shown a ≡ s) (i : stands a) (o : AreOpen a.below.items a.top.kind a.top.window a.open_cells.items) (h : HasOpen s frame register) where
  pub reaches : register < reach_at a.below.items a.top.kind a.top.window frame
  reaches = open_within a.below.items a.top.kind a.top.window frame register a.open_cells.items h.cell o.there (ap (λ (s : KeptStack). cell_at frame register s.open_cells) v ∙ h.is)

  pub frame_there : frame ≤ length a.below.items
  frame_there = reach_over a.below.items a.top.kind a.top.window frame register reaches

  pub place_there : (w : Window) → w ≡ window_at a.below.items a.top.window frame → w.base + register < length a.values.items
  place_there w e =
      let b : w.base ≡ (window_at a.below.items a.top.window frame).base = ap (λ (w : Window). w.base) e in
      let l = reach_end (length a.values.items) (length a.pending.items) a.below.items a.top.kind a.top.window i.stacked i.within frame register reaches in
      omega (arith, b, l)

  -- of the frames below as a list of its own
  module _ (below : List Record) (b : below ≡ a.below.items) where
    pub frame_listed : frame ≤ length below
    frame_listed = let l = frame_there in let e = ap length b in omega (arith, l, e)

    pub window_listed : window_at below a.top.window frame ≡ window_at a.below.items a.top.window frame
    window_listed = ap (λ xs. window_at xs a.top.window frame) b

    pub place_listed : (n : ℕ) → n ≡ length a.values.items → (window_at below a.top.window frame).base + register < n
    place_listed n q = let l = place_there (window_at below a.top.window frame) window_listed in omega (arith, l, q)

-- what is read there

module _ (f : Kept → Value) (xs : List Kept) (ps : List ℕ) (register : ℕ) (v : Kept) where
  lua_reads : (k : Kind) (r : Running) (w : Window) → register < reach_of k w → slice_get xs (w.base + register) ≡ Some v
      → bind (lua_frame (frame_of f (frame_in xs ps k r w))) (λ t. slice_get t.own.registers register) ≡ Some (f v)
  lua_reads Lua r w l g =
      get_map f (registers_at xs w) register v (get_old (part w.base w.kept xs) (blank (w.size - w.kept)) register v (get_part xs w.base w.kept register l ∙ g))
  lua_reads _ r w l g = absurd (omega arith)

  top_reads : (k : Kind) (r : Running) (w : Window) → register < reach_of k w → slice_get xs (w.base + register) ≡ Some v
      → register_in 0 register (map (frame_of f) (map (frame_at xs ps) (tops_of k (record { kind = k; running = r; window = w })))) ≡ Some (f v)
  top_reads Lua r w l g = lua_reads Lua r w l g
  top_reads _ r w l g = absurd (omega arith)

  frame_reads : (below : List Record) (k : Kind) (r : Running) (w : Window) (frame : ℕ) → register < reach_at below k w frame → slice_get xs ((window_at below w frame).base + register) ≡ Some v
      → register_in frame register (map (frame_of f) (map (frame_at xs ps) (below ++ tops_of k (record { kind = k; running = r; window = w })))) ≡ Some (f v)
  frame_reads [] k r w zero l g = top_reads k r w l g
  frame_reads [] k r w (suc frame) l g = absurd (omega arith)
  frame_reads (q ∷ below) k r w zero l g = lua_reads q.kind q.running q.window l g
  frame_reads (q ∷ below) k r w (suc frame) l g = frame_reads below k r w frame l g

pub register_read : (a : Inside) (s : KeptStack) (frame register at : ℕ) (w : Window) (v : Kept) → shown a ≡ s → stands a → AreOpen a.below.items a.top.kind a.top.window a.open_cells.items → HasOpen s frame register
    → w ≡ window_at a.below.items a.top.window frame → at ≡ w.base + register → slice_get a.values.items at ≡ Some v → RegisterIs s frame register v
register_read a s frame register at w v e i o h x p g = record {
  reads = λ f. ap (λ (s : KeptStack). register_in frame register (frames f s)) (sym e)
      ∙ frame_reads f a.values.items a.pending.items register v a.below.items a.top.kind a.top.running a.top.window frame (reaches a s frame register e i o h)
      (ap (slice_get a.values.items) (ap (λ (w : Window). w.base + register) (sym x) ∙ sym p) ∙ g);
}

-- what is written there

set_front : {A : Type 0} (xs ys : List A) (r : ℕ) (v : A) → r < length xs → slice_set xs r v ++ ys ≡ slice_set (xs ++ ys) r v
set_front [] ys r v l = absurd (omega arith)
set_front (x ∷ xs) ys zero v l = refl
set_front (x ∷ xs) ys (suc r) v l = ap (λ l. x ∷ l) (set_front xs ys r v (omega arith))

module _ (f : Kept → Value) (xs : List Kept) (ps : List ℕ) (register at : ℕ) (v : Kept) where
  abbrev ys : List Kept
  ys = slice_set xs at v

  -- a frame whose values are the same
  same_frame : (k : Kind) (r : Running) (w : Window) → part w.base w.kept ys ≡ part w.base w.kept xs → part w.start (w.base - w.start) ys ≡ part w.start (w.base - w.start) xs
      → frame_in ys ps k r w ≡ frame_in xs ps k r w
  same_frame Lua r w e d =
      ap (λ l. lua_with r w l (part w.start (w.base - w.start) ys) (part w.marks w.marked ps)) e
      ∙ ap (λ l. lua_with r w (part w.base w.kept xs) l (part w.marks w.marked ps)) d
  same_frame (Closing x) r w e d = ap (kept_closing x) e
  same_frame _ r w e d = refl

  under_same : (k : Kind) (r : Running) (w : Window) → w.start ≤ w.base → w.base + w.kept ≤ at → frame_in ys ps k r w ≡ frame_in xs ps k r w
  under_same k r w x l =
      same_frame k r w (part_kept w.base w.kept at xs ys l (take_set xs at at v (le_refl _))) (part_kept w.start (w.base - w.start) at xs ys (omega arith) (take_set xs at at v (le_refl _)))

  over_same : (k : Kind) (r : Running) (w : Window) → w.start ≤ w.base → at < w.start → frame_in ys ps k r w ≡ frame_in xs ps k r w
  over_same k r w x l =
      same_frame k r w (ap (take w.kept) (drop_set xs w.base at v (omega arith))) (ap (take (w.base - w.start)) (drop_set xs w.start at v l))

  tops_over : (k : Kind) (r : Running) (w : Window) → w.start ≤ w.base → at < w.start
      → map (frame_at ys ps) (tops_of k (record { kind = k; running = r; window = w })) ≡ map (frame_at xs ps) (tops_of k (record { kind = k; running = r; window = w }))
  tops_over Lua r w x l = ap (λ g. g ∷ []) (over_same Lua r w x l)
  tops_over (Closing e) r w x l = ap (λ g. g ∷ []) (over_same (Closing e) r w x l)
  tops_over _ r w x l = refl

  all_over : (z : Window) (n m : ℕ) (below : List Record) (k : Kind) (r : Running) (w : Window) → AllOver z below → AreStacked n m below → IsUnder w z → w.start ≤ w.base → at < z.base + z.kept
      → map (frame_at ys ps) (below ++ tops_of k (record { kind = k; running = r; window = w })) ≡ map (frame_at xs ps) (below ++ tops_of k (record { kind = k; running = r; window = w }))
  all_over z n m [] k r w o s u x l = tops_over k r w x (let b = u.values in omega arith)
  all_over z n m (q ∷ below) k r w o s u x l =
      let a = o.0.values in
      ap (λ g. g ∷ map (frame_at ys ps) (below ++ tops_of k (record { kind = k; running = r; window = w }))) (over_same q.kind q.running q.window s.1.extra (omega (arith, a, l)))
      ∙ ap (λ l. frame_at xs ps q ∷ l) (all_over z n m below k r w o.1 s.3 u x l)

  lua_writes : (k : Kind) (r : Running) (w : Window) → register < reach_of k w → at ≡ w.base + register → w.start ≤ w.base → w.base + w.kept ≤ length xs
      → frame_of f (frame_in ys ps k r w) ≡ write_in_frame register (f v) (frame_of f (frame_in xs ps k r w))
  lua_writes Lua r w l e x b =
      let P = part w.base w.kept xs in
      let B = blank (w.size - w.kept) in
      let n : length P ≡ w.kept = length_part w.base w.kept xs b in
      let m = length-append P B in
      ap (λ l. lua (made f r (part w.marks w.marked ps) (map f (l ++ B)) (map f (part w.start (w.base - w.start) ys)))) (part_set_in xs w.base w.kept register at v e l)
      ∙ ap (λ l. lua (made f r (part w.marks w.marked ps) (map f l) (map f (part w.start (w.base - w.start) ys)))) (set_front P B register v (omega (arith, n, l)))
      ∙ ap (λ l. lua (made f r (part w.marks w.marked ps) l (map f (part w.start (w.base - w.start) ys)))) (map_set f (P ++ B) register v (omega (arith, n, m, l)))
      ∙ ap (λ l. lua (made f r (part w.marks w.marked ps) (write register (f v) (map f (P ++ B))) (map f l)))
      (part_kept w.start (w.base - w.start) w.base xs ys (omega arith) (take_set xs w.base at v (omega (arith, e))))
  lua_writes _ r w l e x b = absurd (omega arith)

  -- the frame that is written stands behind those below it
  base_behind : (z : Window) (n m : ℕ) (below : List Record) (w : Window) (frame : ℕ) → AllOver z below → AreStacked n m below → IsUnder w z → w.start ≤ w.base → frame ≤ length below → z.base + z.kept ≤ (window_at below w frame).base
  base_behind z n m [] w frame o s u x l = let a = u.values in omega arith
  base_behind z n m (q ∷ below) w zero o s u x l = let a = o.0.values in let b = s.1.extra in omega arith
  base_behind z n m (q ∷ below) w (suc frame) o s u x l = base_behind z n m below w frame o.1 s.3 u x (omega arith)

  abbrev read_all : List Kept → List Record → List Frame
  read_all zs rs = map (frame_of f) (map (frame_at zs ps) rs)

  top_writes : (k : Kind) (r : Running) (w : Window) → register < reach_of k w → at ≡ w.base + register → w.start ≤ w.base → w.base + w.kept ≤ length xs → (g : Frame)
      → slice_get (read_all xs (tops_of k (record { kind = k; running = r; window = w }))) 0 ≡ Some g
      → read_all ys (tops_of k (record { kind = k; running = r; window = w })) ≡ slice_set (read_all xs (tops_of k (record { kind = k; running = r; window = w }))) 0 (write_in_frame register (f v) g)
  top_writes Lua r w l e x b g is = ap (λ g. g ∷ []) (lua_writes Lua r w l e x b ∙ ap (write_in_frame register (f v)) (some_same _ _ is))
  top_writes _ r w l e x b g is = absurd (omega arith)

  frame_writes : (m : ℕ) (below : List Record) (k : Kind) (r : Running) (w : Window) (frame : ℕ) → AreStacked (length xs) m below → AllUnder w below → IsWithin (length xs) m w
      → register < reach_at below k w frame → at ≡ (window_at below w frame).base + register → (g : Frame)
      → slice_get (read_all xs (below ++ tops_of k (record { kind = k; running = r; window = w }))) frame ≡ Some g
      → read_all ys (below ++ tops_of k (record { kind = k; running = r; window = w }))
      ≡ slice_set (read_all xs (below ++ tops_of k (record { kind = k; running = r; window = w }))) frame (write_in_frame register (f v) g)
  frame_writes m [] k r w zero s u i l e g is = top_writes k r w l e i.extra (let a = i.kept in let b = i.end in omega arith) g is
  frame_writes m [] k r w (suc frame) s u i l e g is = absurd (omega arith)
  frame_writes m (q ∷ below) k r w zero s u i l e g is =
      let a = s.1.kept in
      let b = s.1.end in
      let reach = (reach_lua q.kind q.window register l).1 in
      let T = below ++ tops_of k (record { kind = k; running = r; window = w }) in
      ap (λ h. h ∷ read_all ys T) (lua_writes q.kind q.running q.window l e s.1.extra (omega arith) ∙ ap (write_in_frame register (f v)) (some_same _ _ is))
      ∙ ap (λ l. write_in_frame register (f v) g ∷ map (frame_of f) l) (all_over q.window (length xs) m below k r w s.2 s.3 u.0 i.extra (omega (arith, e, reach)))
  frame_writes m (q ∷ below) k r w (suc frame) s u i l e g is =
      let T = below ++ tops_of k (record { kind = k; running = r; window = w }) in
      let there : frame ≤ length below = reach_over below k w frame register l in
      let behind = base_behind q.window (length xs) m below w frame s.2 s.3 u.0 i.extra there in
      ap (λ h. frame_of f h ∷ read_all ys T) (under_same q.kind q.running q.window s.1.extra (omega (arith, e, behind)))
      ∙ ap (λ l. frame_of f (frame_at xs ps q) ∷ l) (frame_writes m below k r w frame s.3 u.1 i l e g is)

pub register_written : (a : Inside) (s n : KeptStack) (frame register at : ℕ) (w : Window) (v : Kept) → shown a ≡ s → stands a → AreOpen a.below.items a.top.kind a.top.window a.open_cells.items → HasOpen s frame register
    → w ≡ window_at a.below.items a.top.window frame → at ≡ w.base + register → n ≡ seen (slice_set a.values.items at v) a.pending.items a.below.items a.top a.open_cells.items → RegisterBecomes s n frame register v
register_written a s n frame register at w v e i o h x p q = record {
  writes = λ f g is.
      ap (λ (n : KeptStack). frames f n) q
      ∙ frame_writes f a.values.items a.pending.items register at v (length a.pending.items) a.below.items a.top.kind a.top.running a.top.window frame i.stacked i.under i.within
      (reaches a s frame register e i o h) (p ∙ ap (λ (w : Window). w.base + register) x) g (ap (λ (s : KeptStack). slice_get (frames f s) frame) e ∙ is)
      ∙ ap (λ (s : KeptStack). slice_set (frames f s) frame (write_in_frame register (f v) g)) e;
  cells = ap (λ (n : KeptStack). n.open_cells) q ∙ ap (λ (s : KeptStack). s.open_cells) e;
}

-- the frame on top has a register at which a cell was open

pub has_one : (a : Inside) (s : KeptStack) (register : ℕ) → shown a ≡ s → stands a → register < reach_of a.top.kind a.top.window → HasRegisters s (register + 1)
has_one a s register v i l =
    let both = reach_lua a.top.kind a.top.window register l in
    record {
      value = λ x. known nil;
      below = map (frame_of (λ x. known nil)) (map (frame_at a.values.items a.pending.items) a.below.items);
      top = lua_of (λ x. known nil) (lua_at a.values.items a.pending.items a.top.running a.top.window);
      is = ap (λ (s : KeptStack). map (frame_of (λ x. known nil)) s.frames) (sym v) ∙ ap (map (frame_of (λ x. known nil))) (lua_frames a.values.items a.pending.items a.below.items a.top both.0)
          ∙ map_more (frame_of (λ x. known nil)) (map (frame_at a.values.items a.pending.items) a.below.items) (kept_lua (lua_at a.values.items a.pending.items a.top.running a.top.window) ∷ []);
      room = (let n = length-map (registers_at a.values.items a.top.window) (λ x. known nil) in let m = length_whole a.values.items a.top.window i.whole i.within.end in let k = both.1 in omega (arith, n, m, k));
    }

pub takes_last : (a : Inside) (s n : KeptStack) (register : ℕ) (r : Option OpenCell) → shown a ≡ s → stands a → AreOpen a.below.items a.top.kind a.top.window a.open_cells.items
    → IfSome r (λ c. IsTaken (length a.below.items) register a.open_cells.items n.open_cells c) → IfSome r (λ c. TakesLast s n register c)
takes_last a s n register None v i o t = tt
takes_last a s n register (Some c) v i o t =
    let x = last_reach a.below.items a.top.kind a.top.window register a.open_cells.items n.open_cells c o t in
    record {
      cells = ap (λ (s : KeptStack). s.open_cells) (sym v) ∙ t.cells;
      frame = x.0 ∙ sym (number_is a s v i);
      register_at_least = x.1;
      room = has_one a s c.register v i x.2;
    }

pub takes_none : (a : Inside) (s : KeptStack) (register : ℕ) (r : Option OpenCell) → shown a ≡ s → stands a → IfNone r (AllBelow (length a.below.items) register a.open_cells.items) → IfNone r (NoneFrom s register)
takes_none a s register None v i b = record {
  below = subst (λ cs. AllBelow (top_number s) register cs) (ap (λ (s : KeptStack). s.open_cells) v) (subst (λ n. AllBelow n register a.open_cells.items) (sym (number_is a s v i)) b);
}
takes_none a s register (Some c) v i b = tt

pub added_stands : (a : Inside) (s : KeptStack) (register n : ℕ) (cell : CellId) (new : List OpenCell) → shown a ≡ s → stands a → AreOpen a.below.items a.top.kind a.top.window a.open_cells.items
    → n ≡ length a.below.items → Adds a.open_cells.items new (opened_at cell n register) → HasRegisters s (register + 1) → AreOpen a.below.items a.top.kind a.top.window new
added_stands a s register n cell new v i o l x h =
    let is : a.top.kind ≡ Lua = lua_on_top a s v i (lua_top h) in
    let r = room_in a s (register + 1) v i h in
    added_open a.below.items a.top.kind a.top.window (opened_at cell n register) a.open_cells.items new o x l
    (let k : reach_of a.top.kind a.top.window ≡ a.top.window.kept = ap (λ k. reach_of k a.top.window) is in omega (arith, k, r))
