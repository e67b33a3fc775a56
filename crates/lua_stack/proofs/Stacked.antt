-- Frames below one another: pushed, popped, and not seen to change where values above them are written.
use Rattle.std.proofs.Common.{◌≡◌, ℕ, ◌+◌, ◌-◌, ◌≤◌, List, [], ◌∷◌, ◌++◌, map, take, refl, ap, ◌∙◌, arith}
use Rattle.table_core.specs.declared.value.Value.{Value as Kept}
use Rattle.lua_stack.specs.declared.frame.Window.{Window}
use Rattle.lua_stack.specs.declared.frame.Running.{Running}
use Rattle.lua_stack.specs.declared.frame.Record.{Record}
use Rattle.lua_stack.specs.declared.frame.Kind.{Kind}
use Rattle.lua_stack.specs.declared.frame.Kind.TheVariants.{Lua, Closing}
use Rattle.lua_stack.specs.Frames.{KeptFrame, kept_lua, kept_closing}
use Rattle.lua_stack.specs.View.{part, blank, frame_at, frame_in, IsUnder, AllUnder, AllOver, IsWithin, IsFrame, AreStacked}
use Rattle.lua_stack.proofs.Parts.{part_kept}

abbrev pub lua_with : Running → Window → List Kept → List Kept → List ℕ → KeptFrame
lua_with r w kept extra marks = kept_lua (record {
  function = r.function;
  wait = r.wait;
  pc = r.pc;
  registers = kept ++ blank (w.size - w.kept);
  varargs = extra;
  pending = marks;
  opened = r.opened;
})

module _ (xs ys : List Kept) (ps qs : List ℕ) (n m : ℕ) (same : take n ys ≡ take n xs) (marks_same : take m qs ≡ take m ps) where
  kept_frame : (k : Kind) (r : Running) (w : Window) → w.start ≤ w.base → w.base + w.kept ≤ n → w.marks + w.marked ≤ m → frame_in ys qs k r w ≡ frame_in xs ps k r w
  kept_frame Lua r w a b c =
      ap (λ l. lua_with r w l (part w.start (w.base - w.start) ys) (part w.marks w.marked qs)) (part_kept w.base w.kept n xs ys b same)
      ∙ ap (λ l. lua_with r w (part w.base w.kept xs) l (part w.marks w.marked qs)) (part_kept w.start (w.base - w.start) n xs ys (omega arith) same)
      ∙ ap (λ l. lua_with r w (part w.base w.kept xs) (part w.start (w.base - w.start) xs) l) (part_kept w.marks w.marked m ps qs c marks_same)
  kept_frame (Closing e) r w a b c = ap (kept_closing e) (part_kept w.base w.kept n xs ys b same)
  kept_frame _ r w a b c = refl

  pub below_kept : (w : Window) (rs : List Record) → AllUnder w rs → w.start ≤ n → w.marks ≤ m → map (frame_at ys qs) rs ≡ map (frame_at xs ps) rs
  below_kept w [] u a b = refl
  below_kept w (r ∷ rs) u a b =
      ap (λ f. f ∷ map (frame_at ys qs) rs) (kept_frame r.kind r.running r.window u.0.extra (let k = u.0.values in omega arith) (let k = u.0.marks in omega arith))
      ∙ ap (λ l. frame_at xs ps r ∷ l) (below_kept w rs u.1 a b)

pub under_more : (v w : Window) (rs : List Record) → AllUnder v rs → v.start ≤ w.start → v.marks ≤ w.marks → AllUnder w rs
under_more v w [] u a b = tt
under_more v w (r ∷ rs) u a b = (record { extra = u.0.extra; values = (let k = u.0.values in omega arith); marks = (let k = u.0.marks in omega arith) }, under_more v w rs u.1 a b)

under_one_more : (w : Window) (rs : List Record) (r : Record) → AllUnder w rs → IsUnder w r.window → AllUnder w (rs ++ r ∷ [])
under_one_more w [] r u h = (h, tt)
under_one_more w (q ∷ rs) r u h = (u.0, under_one_more w rs r u.1 h)

-- what lies under the frame on top and that frame itself lie under one behind it
pub under_next : (w : Window) (rs : List Record) (r : Record) → AllUnder r.window rs → IsUnder w r.window → r.window.start ≤ w.start → r.window.marks ≤ w.marks → AllUnder w (rs ++ r ∷ [])
under_next w rs r u h a b = under_one_more w rs r (under_more r.window w rs u a b) h

over_more : (w : Window) (rs : List Record) (r : Record) → AllOver w rs → IsUnder r.window w → AllOver w (rs ++ r ∷ [])
over_more w [] r o h = (h, tt)
over_more w (q ∷ rs) r o h = (o.0, over_more w rs r o.1 h)

over_less : (w : Window) (rs : List Record) (r : Record) → AllOver w (rs ++ r ∷ []) → AllOver w rs × IsUnder r.window w
over_less w [] r o = (tt, o.0)
over_less w (q ∷ rs) r o = let k = over_less w rs r o.1 in ((o.0, k.0), k.1)

pub stacked_more : (n m : ℕ) (rs : List Record) (r : Record) → AreStacked n m rs → IsFrame r.kind r.window → IsWithin n m r.window → AllUnder r.window rs → AreStacked n m (rs ++ r ∷ [])
stacked_more n m [] r s f w u = (f, w, tt, tt)
stacked_more n m (q ∷ rs) r s f w u = (s.0, s.1, over_more q.window rs r s.2 u.0, stacked_more n m rs r s.3 f w u.1)

pub record IsLastOf (n m : ℕ) (rs : List Record) (r : Record) : Type 0 where
  pub stacked : AreStacked n m rs
  pub frame : IsFrame r.kind r.window
  pub within : IsWithin n m r.window
  pub under : AllUnder r.window rs

pub stacked_less : (n m : ℕ) (rs : List Record) (r : Record) → AreStacked n m (rs ++ r ∷ []) → IsLastOf n m rs r
stacked_less n m [] r s = record { stacked = tt; frame = s.0; within = s.1; under = tt }
stacked_less n m (q ∷ rs) r s =
    let k = stacked_less n m rs r s.3 in
    let o = over_less q.window rs r s.2 in
    record { stacked = (s.0, s.1, o.0, k.stacked); frame = k.frame; within = k.within; under = (o.1, k.under) }

-- more values behind, and other marks behind those that the frames have
pub stacked_longer : (n m n' m' : ℕ) (w : Window) (rs : List Record) → AreStacked n m rs → AllUnder w rs → n ≤ n' → w.marks ≤ m' → AreStacked n' m' rs
stacked_longer n m n' m' w [] s u a b = tt
stacked_longer n m n' m' w (r ∷ rs) s u a b =
    (s.0, record { extra = s.1.extra; kept = s.1.kept; end = (let k = s.1.end in omega arith); marks_end = (let k = u.0.marks in omega arith) }, s.2, stacked_longer n m n' m' w rs s.3 u.1 a b)
