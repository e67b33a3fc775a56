-- A cell is read and written: both are open at one place, or each has its value where nothing that is paired sees it.
use Rattle.std.proofs.Common.{ℕ, zero, suc, ◌≡◌, ◌≢◌, ⊎_elim, List, [], ◌∷◌, Option, Some, None, refl, subst, sym, ap, ◌∙◌}
use Rattle.std.specs.Prelude.{slice_get, slice_set}
use Rattle.std.proofs.lemmas.Bool.{cases_eq}
use Rattle.int_core.specs.Value.{a_coroutine, Value, nil, write, bind}
use Rattle.machine_core.specs.World.{LuaFrame, Frame, lua, Coroutine, suspended, in_progress, normal, Cell, closed, open_at, World, frames_of, lua_frame, with_frames, register_at, read_cell, write_in_frame, write_in_coroutine, write_cell, OneEach}
use Rattle.machine_alike.specs.Agree.{Pairs, SameNumber, SameCellNumber, Both, Each, SameValue, same_known, SameValues, SameLuaFrame, SameFrame, same_lua, same_pcall, same_xpcall, same_handler, same_closing, SameFrames, SameCoroutine, same_fresh, same_suspended, same_in_progress, same_normal, same_dead, same_failed, IsFirst, IsSecond, Loose, kept_closed, kept_apart, SameCell, same_place, same_content, Objects, objects_of, SameObjects}
use Rattle.machine_alike.proofs.Pairwise.{both_each, both_split, both_from, each_bind, zip_get, zip_set, get_set_same, get_set_other, bind_some}
use Rattle.machine_alike.proofs.Same.{lua_frame_same, frames_same}
use Rattle.machine_alike.proofs.Cells.{set_coroutine_same}

-- reading

pub register_same : (p : Pairs) (cs ds : List Coroutine) (co co' f r : ℕ) → Both (SameCoroutine p) (slice_get cs co) (slice_get ds co') → Each (SameValue p) (register_at cs co f r) (register_at ds co' f r)
register_same p cs ds co co' f r h =
    each_bind (SameFrames p) (SameValue p) _ _
    (λ fs gs k. each_bind (SameLuaFrame p) (SameValue p) _ _ (λ x y z. zip_get (SameValue p) x.own.registers y.own.registers r z.own.registers) (bind (slice_get fs f) lua_frame) (bind (slice_get gs f) lua_frame)
    (each_bind (SameFrame p) (SameLuaFrame p) lua_frame lua_frame (lua_frame_same p) (slice_get fs f) (slice_get gs f) (zip_get (SameFrame p) fs gs f k)))
    (bind (slice_get cs co) frames_of) (bind (slice_get ds co') frames_of)
    (each_bind (SameCoroutine p) (SameFrames p) frames_of frames_of (frames_same p) (slice_get cs co) (slice_get ds co') (both_each (SameCoroutine p) (slice_get cs co) (slice_get ds co') h))

loose_value : (W : World) (P : ℕ → Type 0) (c : Cell) (v : Value) → Loose W.coroutines P c v → read_cell W c ≡ Some v
loose_value W P c v (kept_closed w) = refl
loose_value W P c v (kept_apart co f r w n at) = at

pub read_same : (p : Pairs) (W X : World) (c d : Cell) → SameObjects p (objects_of W) (objects_of X) → SameCell p W.coroutines X.coroutines c d → Each (SameValue p) (read_cell W c) (read_cell X d)
read_same p W X c d a (same_place co co' f r h) = register_same p W.coroutines X.coroutines co co' f r (a.coroutines co co' h)
read_same p W X c d a (same_content x y v w l m s) = rw (loose_value W (IsFirst p) x v l, loose_value X (IsSecond p) y w m) s

-- a write in registers

pub write_same : (p : Pairs) (r : ℕ) (v w : Value) (vs ws : List Value) → SameValue p v w → SameValues p vs ws → SameValues p (write r v vs) (write r w ws)
write_same p zero v w [] [] s h = (s, tt)
write_same p (suc r) v w [] [] s h = (same_known nil, write_same p r v w [] [] s tt)
write_same p r v w [] (y ∷ ws) s h = absurd h
write_same p r v w (x ∷ vs) [] s h = absurd h
write_same p zero v w (x ∷ vs) (y ∷ ws) s h = (s, h.1)
write_same p (suc r) v w (x ∷ vs) (y ∷ ws) s h = (h.0, write_same p r v w vs ws s h.1)

write_here : (r : ℕ) (v : Value) (vs : List Value) → slice_get (write r v vs) r ≡ Some v
write_here zero v [] = refl
write_here zero v (x ∷ vs) = refl
write_here (suc r) v [] = write_here r v []
write_here (suc r) v (x ∷ vs) = write_here r v vs

write_other : (r q : ℕ) (u v : Value) (vs : List Value) → slice_get vs r ≡ Some u → q ≢ r → slice_get (write r v vs) q ≡ slice_get vs q
write_other r q u v [] h n = absurd (cc)
write_other zero zero u v (x ∷ vs) h n = absurd (n refl)
write_other zero (suc q) u v (x ∷ vs) h n = refl
write_other (suc r) zero u v (x ∷ vs) h n = refl
write_other (suc r) (suc q) u v (x ∷ vs) h n = write_other r q u v vs h (λ e. n (ap suc e))

in_frame_same : (p : Pairs) (r : ℕ) (v w : Value) → SameValue p v w → (f g : Frame) → SameFrame p f g → SameFrame p (write_in_frame r v f) (write_in_frame r w g)
in_frame_same p r v w s f g (same_lua x y h) = same_lua _ _ (record {
  function = h.function;
  wait = h.wait;
  own = record { pc = h.own.pc; registers = write_same p r v w x.own.registers y.own.registers s h.own.registers; varargs = h.own.varargs; pending = h.own.pending; opened = h.own.opened };
})
in_frame_same p r v w s f g same_pcall = same_pcall
in_frame_same p r v w s f g (same_xpcall x y h) = same_xpcall x y h
in_frame_same p r v w s f g same_handler = same_handler
in_frame_same p r v w s f g (same_closing x y vs ws h k) = same_closing x y vs ws h k

with_frames_same : (p : Pairs) (c d : Coroutine) (fs gs : List Frame) → SameCoroutine p c d → SameFrames p fs gs → SameCoroutine p (with_frames c fs) (with_frames d gs)
with_frames_same p c d fs gs (same_fresh v w h) k = same_fresh v w h
with_frames_same p c d fs gs (same_suspended x y h) k = same_suspended fs gs k
with_frames_same p c d fs gs (same_in_progress x y h) k = same_in_progress fs gs k
with_frames_same p c d fs gs (same_normal x y h) k = same_normal fs gs k
with_frames_same p c d fs gs same_dead k = same_dead
with_frames_same p c d fs gs (same_failed v w vs ws h l) k = same_failed v w vs ws h l

in_coroutine_same : (p : Pairs) (f r : ℕ) (v w : Value) (c d : Coroutine) → SameValue p v w → SameCoroutine p c d → SameCoroutine p (write_in_coroutine f r v c) (write_in_coroutine f r w d)
in_coroutine_same p f r v w c d s h = go _ _ (each_bind (SameFrames p) (SameFrames p) _ _
    (λ fs gs k. each_bind (SameFrame p) (SameFrames p) _ _ (λ x y l. zip_set (SameFrame p) fs gs f _ _ k (in_frame_same p r v w s x y l)) (slice_get fs f) (slice_get gs f) (zip_get (SameFrame p) fs gs f k))
    (frames_of c) (frames_of d) (frames_same p c d h))
  where
    go : (o o' : Option (List Frame)) → Each (SameFrames p) o o' → SameCoroutine p (elim o [ None ↦ c | Some frames ↦ with_frames c frames ]) (elim o' [ None ↦ d | Some frames ↦ with_frames d frames ])
    go None None k = h
    go None (Some gs) k = absurd k
    go (Some fs) None k = absurd k
    go (Some fs) (Some gs) k = with_frames_same p c d fs gs h k

-- one loose cell was written, on one side
record Wrote (P : ℕ → Type 0) (cs ds : List Coroutine) (cells after : List Cell) (i : ℕ) (v : Value) : Type 0 where
  pub coroutines : (co : ℕ) → P co → slice_get ds co ≡ slice_get cs co
  pub others : (k : ℕ) → k ≢ i → slice_get after k ≡ slice_get cells k
  pub loose : (k : ℕ) (c : Cell) (x : Value) → k ≢ i → slice_get cells k ≡ Some c → Loose cs P c x → Loose ds P c x
  pub here : (c : Cell) × (slice_get after i ≡ Some c) × Loose ds P c v
  pub each : OneEach after

module _ (p : Pairs) (A B : Objects) (cs ds : List Coroutine) (xs ys : List Cell) (i j : ℕ) (v w : Value) (a : SameObjects p A B) (l : Wrote (IsFirst p) A.coroutines cs A.cells xs i v) (r : Wrote (IsSecond p) B.coroutines ds B.cells ys j w) (at : SameCellNumber p i j) (s : SameValue p v w) where
  other_cell : (c d : Cell) → SameCell p A.coroutines B.coroutines c d → ((x : Value) → Loose A.coroutines (IsFirst p) c x → Loose cs (IsFirst p) c x) → ((y : Value) → Loose B.coroutines (IsSecond p) d y → Loose ds (IsSecond p) d y) → SameCell p cs ds c d
  other_cell c d (same_place co co' f q h) x y = same_place co co' f q h
  other_cell c d (same_content c' d' u z k m t) x y = same_content c' d' u z (x u k) (y z m) t

  cells_wrote : (m n : ℕ) → SameCellNumber p m n → Both (SameCell p cs ds) (slice_get xs m) (slice_get ys n)
  cells_wrote m n h = ⊎_elim
      (λ e. let f : Some j ≡ Some n = sym at ∙ ap p.cells (sym e) ∙ h in
      let k : j ≡ n = cc in
      subst (λ m. Both (SameCell p cs ds) (slice_get xs m) (slice_get ys n)) (sym e) (subst (λ n. Both (SameCell p cs ds) (slice_get xs i) (slice_get ys n)) k
      (both_from (SameCell p cs ds) _ _ l.here.0 r.here.0 l.here.1 r.here.1 (same_content l.here.0 r.here.0 v w l.here.2 r.here.2 s))))
      (λ ne. let k : n ≢ j = λ e. ne (a.one_to_one.cells m i j (h ∙ ap Some e) at) in
      let t = both_split (SameCell p A.coroutines B.coroutines) (slice_get A.cells m) (slice_get B.cells n) (a.cells m n h) in
      both_from (SameCell p cs ds) _ _ t.0 t.1 (l.others m ne ∙ t.2) (r.others n k ∙ t.3)
      (other_cell t.0 t.1 t.4 (λ x z. l.loose m t.0 x ne t.2 z) (λ y z. r.loose n t.1 y k t.3 z)))
      (cases_eq m i)

  wrote_same : SameObjects p (record A { coroutines = cs; cells = xs }) (record B { coroutines = ds; cells = ys })
  wrote_same = record {
    one_to_one = a.one_to_one;
    tables = a.tables;
    functions = a.functions;
    coroutines = λ m n h. rw (l.coroutines m (n, h), r.coroutines n (m, h)) (a.coroutines m n h);
    cells = cells_wrote;
    one_each = (l.each, r.each);
  }

-- a closed cell is written

not_opened : (cells : List Cell) (i n co f r : ℕ) (v : Value) → slice_get (slice_set cells i (closed v)) n ≡ Some (open_at co f r) → n ≡ i → ⊥
not_opened [] i n co f r v h e = cc
not_opened (c ∷ cells) zero zero co f r v h e = cc
not_opened (c ∷ cells) zero (suc n) co f r v h e = cc
not_opened (c ∷ cells) (suc i) zero co f r v h e = cc
not_opened (c ∷ cells) (suc i) (suc n) co f r v h e = not_opened cells i n co f r v h (cc)

each_set : (cells : List Cell) (i : ℕ) (v : Value) → OneEach cells → OneEach (slice_set cells i (closed v))
each_set cells i v one a b co f r h k = one a b co f r (old a h) (old b k)
  where
    old : (n : ℕ) → slice_get (slice_set cells i (closed v)) n ≡ Some (open_at co f r) → slice_get cells n ≡ Some (open_at co f r)
    old n h = ⊎_elim
        (λ e. absurd (not_opened cells i n co f r v h e)) (λ ne. let o = get_set_other cells i n (closed v) (λ e. ne (sym e)) in sym o ∙ h) (cases_eq n i)

wrote_closed : (P : ℕ → Type 0) (cs : List Coroutine) (cells : List Cell) (i : ℕ) (c : Cell) (v : Value) → slice_get cells i ≡ Some c → OneEach cells → Wrote P cs cs cells (slice_set cells i (closed v)) i v
wrote_closed P cs cells i c v at one = record {
  coroutines = λ co h. refl;
  others = λ k n. get_set_other cells i k (closed v) (λ e. n (sym e));
  loose = λ k d x n h l. l;
  here = (closed v, get_set_same cells i c (closed v) at, kept_closed v);
  each = each_set cells i v one;
}

-- a cell that is open in a coroutine of its side alone is written

abbrev at_frames : List Frame → ℕ → ℕ → Option Value
at_frames fs f r = bind (bind (slice_get fs f) lua_frame) (λ l. slice_get l.own.registers r)

is_lua : (f : Frame) (l : LuaFrame) → lua_frame f ≡ Some l → f ≡ lua l
is_lua (lua g) l h = let e : g ≡ l = cc in ap lua e
is_lua _ l h = absurd (cc)

frames_with : (k : Coroutine) (fs gs : List Frame) → frames_of k ≡ Some fs → frames_of (with_frames k gs) ≡ Some gs
frames_with (suspended fs') fs gs h = refl
frames_with (in_progress fs') fs gs h = refl
frames_with (normal fs') fs gs h = refl
frames_with _ fs gs h = absurd (cc)

module _ (cs : List Coroutine) (co f r : ℕ) (u v : Value) (k : Coroutine) (fs : List Frame) (l : LuaFrame) (x : slice_get cs co ≡ Some k) (y : frames_of k ≡ Some fs) (z : slice_get fs f ≡ Some (lua l)) (t : slice_get l.own.registers r ≡ Some u) where
  abbrev written : List Frame
  written = slice_set fs f (write_in_frame r v (lua l))

  abbrev after : List Coroutine
  after = slice_set cs co (with_frames k written)

  is_written : write_in_coroutine f r v k ≡ with_frames k written
  is_written = rw (write_in_coroutine, y, z) refl

  read_there : at_frames written f r ≡ Some v
  read_there = rw (get_set_same fs f (lua l) (write_in_frame r v (lua l)) z) (write_here r v l.own.registers)

  read_other : (g q : ℕ) → ((g ≡ f) × (q ≡ r) → ⊥) → at_frames written g q ≡ at_frames fs g q
  read_other g q n = ⊎_elim
      (λ e. subst (λ g. at_frames written g q ≡ at_frames fs g q) (sym e)
      (rw (get_set_same fs f (lua l) (write_in_frame r v (lua l)) z, z) (write_other r q u v l.own.registers t (λ m. n (e, m)))))
      (λ e. rw (get_set_other fs f g (write_in_frame r v (lua l)) (λ m. e (sym m))) refl)
      (cases_eq g f)

  -- registers elsewhere are as before
  elsewhere : (d g q : ℕ) → ((d ≡ co) × (g ≡ f) × (q ≡ r) → ⊥) → register_at after d g q ≡ register_at cs d g q
  elsewhere d g q n = ⊎_elim
      (λ e. subst (λ d. register_at after d g q ≡ register_at cs d g q) (sym e)
      (rw (get_set_same cs co k (with_frames k written) x, frames_with k fs written y, x, y) (read_other g q (λ s. n (e, s.0, s.1)))))
      (λ e. rw (get_set_other cs co d (with_frames k written) (λ s. e (sym s))) refl)
      (cases_eq d co)

  module _ (P : ℕ → Type 0) (cells : List Cell) (i : ℕ) (here : slice_get cells i ≡ Some (open_at co f r)) (one : OneEach cells) where
    kept_loose : (m : ℕ) (c : Cell) (w : Value) → m ≢ i → slice_get cells m ≡ Some c → Loose cs P c w → Loose after P c w
    kept_loose m c w ne g (kept_closed w') = kept_closed w'
    kept_loose m c w ne g (kept_apart d h q w' n at) =
        kept_apart d h q w' n (elsewhere d h q (λ s. let e : open_at d h q ≡ open_at co f r = rw (s.0, s.1, s.2) refl in ne (one m i co f r (g ∙ ap Some e) here)) ∙ at)

    wrote_apart : (P co → ⊥) → Wrote P cs after cells cells i v
    wrote_apart n =
        let own : slice_get after co ≡ Some (with_frames k written) = get_set_same cs co k (with_frames k written) x in
        record {
          coroutines = λ c h. get_set_other cs co c (with_frames k written) (λ e. n (subst P (sym e) h));
          others = λ m ne. refl;
          loose = kept_loose;
          here = (open_at co f r, here, kept_apart co f r v n (rw (own, frames_with k fs written y) read_there));
          each = one;
        }

-- what a write leaves
record Written (P : ℕ → Type 0) (W : World) (i : ℕ) (c : Cell) (v : Value) : Type 0 where
  pub coroutines : List Coroutine
  pub cells : List Cell
  pub is : write_cell W i c v ≡ record W { coroutines = coroutines; cells = cells }
  pub wrote : Wrote P W.coroutines coroutines W.cells cells i v

write_open : (W : World) (i co f r : ℕ) (v : Value) (k : Coroutine) → slice_get W.coroutines co ≡ Some k → write_cell W i (open_at co f r) v ≡ record W { coroutines = slice_set W.coroutines co (write_in_coroutine f r v k) }
unfolding write_cell
write_open W i co f r v k x = rw (write_cell, x) refl

written_apart : (P : ℕ → Type 0) (W : World) (i co f r : ℕ) (u v : Value) → (P co → ⊥) → register_at W.coroutines co f r ≡ Some u → slice_get W.cells i ≡ Some (open_at co f r) → OneEach W.cells → Written P W i (open_at co f r) v
written_apart P W i co f r u v n at here one =
    let a = bind_some (bind (slice_get W.coroutines co) frames_of) (λ fs. at_frames fs f r) u at in
    let b = bind_some (slice_get W.coroutines co) frames_of a.0 a.1 in
    let c = bind_some (bind (slice_get a.0 f) lua_frame) (λ l. slice_get l.own.registers r) u a.2 in
    let d = bind_some (slice_get a.0 f) lua_frame c.0 c.1 in
    let z : slice_get a.0 f ≡ Some (lua c.0) = d.1 ∙ ap Some (is_lua d.0 c.0 d.2) in
    record {
      coroutines = after W.coroutines co f r u v b.0 a.0 c.0 b.1 b.2 z c.2;
      cells = W.cells;
      is = write_open W i co f r v b.0 b.1 ∙ (ap (λ x. record W { coroutines = slice_set W.coroutines co x }) (is_written W.coroutines co f r u v b.0 a.0 c.0 b.1 b.2 z c.2));
      wrote = wrote_apart W.coroutines co f r u v b.0 a.0 c.0 b.1 b.2 z c.2 P W.cells i here one n;
    }

written_loose : (P : ℕ → Type 0) (W : World) (i : ℕ) (c : Cell) (u v : Value) → Loose W.coroutines P c u → slice_get W.cells i ≡ Some c → OneEach W.cells → Written P W i c v
unfolding write_cell
written_loose P W i c u v (kept_closed w) at one = record { coroutines = W.coroutines; cells = slice_set W.cells i (closed v); is = refl; wrote = wrote_closed P W.coroutines W.cells i (closed w) v at one }
written_loose P W i c u v (kept_apart co f r w n reg) at one = written_apart P W i co f r w v n reg at one

module _ (p : Pairs) (W X : World) (a : SameObjects p (objects_of W) (objects_of X)) (i j : ℕ) (v w : Value) (at : SameCellNumber p i j) (s : SameValue p v w) where
  abbrev AfterWrite : Cell → Cell → Type 0
  AfterWrite c d = SameObjects p (objects_of (write_cell W i c v)) (objects_of (write_cell X j d w))

  write_place : (co co' f r : ℕ) → SameNumber p a_coroutine co co' → AfterWrite (open_at co f r) (open_at co' f r)
  unfolding write_cell
  write_place co co' f r h = go (slice_get W.coroutines co) (slice_get X.coroutines co') (a.coroutines co co' h)
    where
      go : (o o' : Option Coroutine) → Both (SameCoroutine p) o o' → SameObjects p
          (objects_of (elim o [ None ↦ W | Some c ↦ record W { coroutines = slice_set W.coroutines co (write_in_coroutine f r v c) } ]))
          (objects_of (elim o' [ None ↦ X | Some c ↦ record X { coroutines = slice_set X.coroutines co' (write_in_coroutine f r w c) } ]))
      go None o' k = absurd k
      go (Some c) None k = absurd k
      go (Some c) (Some d) k = set_coroutine_same p (objects_of W) (objects_of X) co co' _ _ a h (in_coroutine_same p f r v w c d s k)

  write_content : (c d : Cell) (x y : Value) → slice_get W.cells i ≡ Some c → slice_get X.cells j ≡ Some d → Loose W.coroutines (IsFirst p) c x → Loose X.coroutines (IsSecond p) d y → AfterWrite c d
  write_content c d x y g h l m =
      let L = written_loose (IsFirst p) W i c x v l g a.one_each.0 in
      let R = written_loose (IsSecond p) X j d y w m h a.one_each.1 in
      rw (L.is, R.is) (wrote_same p (objects_of W) (objects_of X) L.coroutines R.coroutines L.cells R.cells i j v w a L.wrote R.wrote at s)

  pub write_cell_same : (c d : Cell) → slice_get W.cells i ≡ Some c → slice_get X.cells j ≡ Some d → SameCell p W.coroutines X.coroutines c d → AfterWrite c d
  write_cell_same c d g h (same_place co co' f r k) = write_place co co' f r k
  write_cell_same c d g h (same_content x y u z l m t) = write_content x y u z g h l m
