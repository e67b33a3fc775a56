-- Frames that are pushed and popped.
use Rattle.std.proofs.Common.{◌≡◌, ℕ, zero, suc, ◌+◌, ◌-◌, ◌<◌, ◌≤◌, true, false, List, [], ◌∷◌, ◌++◌, length, map, take, drop, Some, None, refl, ap, sym, ◌∙◌, subst, arith, le_refl}
use Rattle.std.specs.Prelude.{slice_get, option_map}
use Rattle.int_core.specs.Value.{known, nil, without_last}
use Rattle.list_laws.proofs.Ends.{without_last_is}
use Rattle.list_laws.proofs.Items.{get_old, get_new, append_nil}
use Rattle.table_core.specs.declared.value.Value.{Value as Kept}
use Rattle.lua_stack.specs.declared.frame.Window.{Window}
use Rattle.lua_stack.specs.declared.frame.Running.{Running}
use Rattle.lua_stack.specs.declared.frame.Record.{Record}
use Rattle.lua_stack.specs.declared.frame.Kind.{Kind}
use Rattle.lua_stack.specs.declared.frame.Kind.TheVariants.{Missing, Lua, Pcall, Xpcall, Handler, Closing}
use Rattle.lua_stack.specs.declared.stack.Stack.TheInside.{Inside}
use Rattle.lua_stack.specs.Frames.{AllBelow, KeptFrame, KeptStack, NoneFrom, OnTop, frame_of, lua_of, kept_lua, kept_closing}
use Rattle.lua_stack.specs.View.{AreOpen, part, blank, put_all, frame_at, frame_in, lua_at, registers_at, tops, tops_of, IsStack, IsFrame, IsUnder, AllUnder, IsWithin, AreStacked, NoneUnder, record_behind, is_missing, is_plain, plain_frame, whole_record}
use Rattle.lua_stack.proofs.Parts.{part_kept, part_put_in, put_tail, take_put_all, take_take, length_blank, length_part, length_put_all, no_blank}
use Rattle.lua_stack.proofs.Stacked.{IsLastOf, stacked_more, stacked_less, stacked_longer, under_next, under_more, below_kept}
use Rattle.lua_stack.proofs.Ends.{map_more, shown, stands, lua_frames}
use Rattle.lua_stack.proofs.OpenCells.{below_pushed, closed_top, emptied_open, none_from, popped_open}

-- the frame on top as one of those below

pub tops_missing : (k : Kind) (r : Record) → is_missing k ≡ true → tops_of k r ≡ []
tops_missing Missing r e = refl
tops_missing _ r e = absurd (cc)

pub tops_there : (k : Kind) (r : Record) → is_missing k ≡ false → tops_of k r ≡ r ∷ []
tops_there Missing r e = absurd (cc)
tops_there _ r e = refl

tops_frame : (k : Kind) (w : Window) (r : Record) → IsFrame k w → tops_of k r ≡ r ∷ []
tops_frame Missing w r f = absurd f
tops_frame _ w r f = refl

under_behind : (n m : ℕ) (r : Record) (k : Kind) → IsWithin n m r.window → IsUnder (record_behind r k).window r.window
under_behind n m r k w = record { extra = w.extra; values = (let e = w.kept in omega arith); marks = le_refl _ }

module _ (n m : ℕ) (below : List Record) (r : Running) (w : Window) (s : AreStacked n m below) (u : AllUnder w below) (h : IsWithin n m w) (k : Kind) where
  abbrev top_of : Kind → Record
  top_of kind = record { kind = kind; running = r; window = w }

  one_more : (kind : Kind) → IsFrame kind w → AreStacked n m (below ++ top_of kind ∷ []) × AllUnder (record_behind (top_of kind) k).window (below ++ top_of kind ∷ [])
  one_more kind f = (
    stacked_more n m below (top_of kind) s f h u,
    under_next (record_behind (top_of kind) k).window below (top_of kind) u (under_behind n m (top_of kind) k h) (let e = h.extra in omega arith) (omega arith),
  )

  pub with_top : (kind : Kind) → NoneUnder kind below → w.kept ≡ w.size → AreStacked n m (below ++ tops (top_of kind)) × AllUnder (record_behind (top_of kind) k).window (below ++ tops (top_of kind))
  with_top Missing e x =
      subst (λ below. AreStacked n m (below ++ []) × AllUnder (record_behind (top_of Missing) k).window (below ++ [])) (sym e) (tt, tt)
  with_top Lua e x = one_more Lua tt
  with_top Pcall e x = one_more Pcall tt
  with_top (Xpcall v) e x = one_more (Xpcall v) tt
  with_top Handler e x = one_more Handler tt
  with_top (Closing y) e x = one_more (Closing y) x

none_under : (k : Kind) (rs : List Record) → is_missing k ≡ false → NoneUnder k rs
none_under Missing rs e = absurd (cc)
none_under _ rs e = tt

plain_is : (k : Kind) → is_plain k ≡ true → is_missing k ≡ false
plain_is Missing e = absurd (cc)
plain_is _ e = refl

pub pushed_stands : (a : Inside) (below : List Record) (k : Kind) (top : Record) → stands a → below ≡ a.below.items ++ tops a.top → is_plain k ≡ true → top ≡ record_behind a.top k → IsStack a.values.items a.pending.items below top
pushed_stands a below k top i e p q =
    let both = with_top (length a.values.items) (length a.pending.items) a.below.items a.top.running a.top.window i.stacked i.under i.within k a.top.kind i.none i.whole in
    let w = i.within in
    subst (λ top. IsStack a.values.items a.pending.items below top) (sym q) (subst (λ below. IsStack a.values.items a.pending.items below (record_behind a.top k)) (sym e) (record {
      stacked = both.0;
      under = both.1;
      within = record { extra = le_refl _; kept = le_refl _; end = (let h = w.end in omega arith); marks_end = (let h = w.marks_end in omega arith) };
      whole = refl;
      none = none_under k (a.below.items ++ tops a.top) (plain_is k p);
    }))

pub pushed_open : (a : Inside) (below : List Record) (top : Record) → AreOpen a.below.items a.top.kind a.top.window a.open_cells.items → below ≡ a.below.items ++ tops a.top
    → AreOpen below top.kind top.window a.open_cells.items
pushed_open a below top o e =
    subst (λ below. AreOpen below top.kind top.window a.open_cells.items) (sym e) (below_pushed a.below.items a.top.running a.top.kind a.top.window top.kind top.window a.open_cells.items o)

plain_seen : (values : List Kept) (pending : List ℕ) (k : Kind) (r : Running) (w : Window) → is_plain k ≡ true → frame_in values pending k r w ≡ plain_frame k
plain_seen values pending Missing r w e = absurd (cc)
plain_seen values pending Lua r w e = absurd (cc)
plain_seen values pending Pcall r w e = refl
plain_seen values pending (Xpcall h) r w e = refl
plain_seen values pending Handler r w e = refl
plain_seen values pending (Closing x) r w e = absurd (cc)

pub pushed_frames : (a : Inside) (s : KeptStack) (below : List Record) (k : Kind) (top : Record) → shown a ≡ s → below ≡ a.below.items ++ tops a.top → is_plain k ≡ true → top ≡ record_behind a.top k
    → map (frame_at a.values.items a.pending.items) (below ++ tops top) ≡ s.frames ++ plain_frame k ∷ []
pushed_frames a s below k top v e p q =
    let F = frame_at a.values.items a.pending.items in
    let r = record_behind a.top k in
    ap (λ top. map F (below ++ tops top)) q
    ∙ ap (λ rs. map F (below ++ rs)) (tops_there k r (plain_is k p))
    ∙ map_more F below (r ∷ [])
    ∙ ap (λ rs. map F rs ++ F r ∷ []) e
    ∙ ap (λ f. map F (a.below.items ++ tops a.top) ++ f ∷ []) (plain_seen a.values.items a.pending.items k r.running r.window p)
    ∙ ap (λ (s : KeptStack). s.frames ++ plain_frame k ∷ []) v

-- a frame that is on top again gets all its registers

module _ (values : List Kept) (pending : List ℕ) (r : Record) (w : IsWithin (length values) (length pending) r.window) where
  abbrev filled : List Kept
  filled = put_all (r.window.base + r.window.kept) (blank (r.window.size - r.window.kept)) values

  values_filled : part r.window.base r.window.size filled ≡ part r.window.base r.window.kept values ++ blank (r.window.size - r.window.kept)
  values_filled =
      let b = length_blank (r.window.size - r.window.kept) in
      let l = length_part r.window.base r.window.size values w.end in
      let k = w.kept in
      part_put_in (blank (r.window.size - r.window.kept)) values r.window.base r.window.size r.window.kept (r.window.base + r.window.kept) refl (omega (arith, b))
      ∙ put_tail (blank (r.window.size - r.window.kept)) (part r.window.base r.window.size values) r.window.kept (omega (arith, b, l))
      ∙ ap (λ l. l ++ blank (r.window.size - r.window.kept)) (take_take (drop r.window.base values) r.window.kept r.window.size k)

  varargs_filled : part r.window.start (r.window.base - r.window.start) filled ≡ part r.window.start (r.window.base - r.window.start) values
  varargs_filled =
      part_kept r.window.start (r.window.base - r.window.start) r.window.base values filled (let e = w.extra in omega arith)
      (take_put_all (blank (r.window.size - r.window.kept)) values r.window.base (r.window.base + r.window.kept) (omega arith))

  woken_frame : (k : Kind) → IsFrame k r.window → frame_in filled pending k r.running (whole_record r).window ≡ frame_in values pending k r.running r.window
  woken_frame Lua f =
      let W = (whole_record r).window in
      let marks = part W.marks W.marked pending in
      ap (λ l. lua_all r.running l (part W.start (W.base - W.start) filled) marks) (no_blank W.kept W.size (part W.base W.kept filled) refl ∙ values_filled)
      ∙ ap (λ l. lua_all r.running (registers_at values r.window) l marks) varargs_filled
    where
      lua_all : Running → List Kept → List Kept → List ℕ → KeptFrame
      lua_all r registers extra marks = kept_lua (record { function = r.function; wait = r.wait; pc = r.pc; registers = registers; varargs = extra; pending = marks; opened = r.opened })
  woken_frame (Closing e) f =
      let z : r.window.size - r.window.kept ≡ 0 = omega (arith, f) in
      ap (kept_closing e) (values_filled ∙ ap (λ n. part r.window.base r.window.kept values ++ blank n) z ∙ append_nil (part r.window.base r.window.kept values))
  woken_frame _ f = refl

missing_none : (k : Kind) (below : List Record) (r : Record) → NoneUnder k (below ++ r ∷ []) → is_missing k ≡ false
missing_none Missing below r e = absurd (never below e)
  where
    never : (below : List Record) → below ++ r ∷ [] ≡ [] → ⊥
    never [] e = cc
    never (q ∷ below) e = cc
missing_none _ below r e = refl

-- what holds where the frame on top is a Lua frame
lua_closed : (a : Inside) (s : KeptStack) (P : Type 0) → shown a ≡ s → a.top.kind ≡ Lua → OnTop s (λ f t. P) → P
lua_closed a s P v is h =
    h (λ x. known nil) (map (frame_of (λ x. known nil)) (map (frame_at a.values.items a.pending.items) a.below.items)) (lua_of (λ x. known nil) (lua_at a.values.items a.pending.items a.top.running a.top.window))
    (ap (λ (s : KeptStack). map (frame_of (λ x. known nil)) s.frames) (sym v) ∙ ap (map (frame_of (λ x. known nil))) (lua_frames a.values.items a.pending.items a.below.items a.top is)
    ∙ map_more (frame_of (λ x. known nil)) (map (frame_at a.values.items a.pending.items) a.below.items) (kept_lua (lua_at a.values.items a.pending.items a.top.running a.top.window) ∷ []))

module _ (a : Inside) (below : List Record) (r : Record) (i : stands a) (e : a.below.items ≡ below ++ r ∷ []) where
  pub last_of : IsLastOf (length a.values.items) (length a.pending.items) below r
  last_of = stacked_less (length a.values.items) (length a.pending.items) below r (subst (AreStacked (length a.values.items) (length a.pending.items)) e i.stacked)

  pub popped_stands : (values : List Kept) (at n : ℕ) (top : Record) → at ≡ r.window.base + r.window.kept → n ≡ r.window.size - r.window.kept → values ≡ put_all at (blank n) a.values.items → top ≡ whole_record r → IsStack values a.pending.items below top
  popped_stands values at n top p c q t =
      let k = last_of in
      let l : length values ≡ length a.values.items = ap length q ∙ length_put_all (blank n) a.values.items at in
      let w = k.within in
      subst (IsStack values a.pending.items below) (sym t) (record {
        stacked = stacked_longer (length a.values.items) (length a.pending.items) (length values) (length a.pending.items) r.window below k.stacked k.under (omega (arith, l)) (let m = w.marks_end in omega arith);
        under = under_more r.window (whole_record r).window below k.under (le_refl _) (le_refl _);
        within = record { extra = w.extra; kept = le_refl _; end = (let m = w.end in omega (arith, l)); marks_end = w.marks_end };
        whole = refl;
        none = frame_none r.kind r.window k.frame;
      })
    where
      frame_none : (k : Kind) (w : Window) → IsFrame k w → NoneUnder k below
      frame_none Missing w f = absurd f
      frame_none Lua w f = tt
      frame_none _ w f = tt

  pub popped_frames : (s : KeptStack) (values : List Kept) (at n : ℕ) (top : Record) → shown a ≡ s → at ≡ r.window.base + r.window.kept → n ≡ r.window.size - r.window.kept → values ≡ put_all at (blank n) a.values.items → top ≡ whole_record r
      → map (frame_at values a.pending.items) (below ++ tops top) ≡ without_last s.frames
  popped_frames s values at n top v p c q t =
      let k = last_of in
      let F = frame_at a.values.items a.pending.items in
      let V = filled a.values.items a.pending.items r k.within in
      let G = frame_at V a.pending.items in
      let x : values ≡ V = q ∙ ap (λ at. put_all at (blank n) a.values.items) p ∙ ap (λ n. put_all (r.window.base + r.window.kept) (blank n) a.values.items) c in
      let same : take r.window.start V ≡ take r.window.start a.values.items = take_put_all (blank (r.window.size - r.window.kept)) a.values.items r.window.start (r.window.base + r.window.kept) (let e = k.within.extra in omega arith) in
      ap (λ top. map (frame_at values a.pending.items) (below ++ tops top)) t
      ∙ ap (λ xs. map (frame_at xs a.pending.items) (below ++ tops (whole_record r))) x
      ∙ ap (λ rs. map G (below ++ rs)) (tops_frame r.kind r.window (whole_record r) k.frame)
      ∙ map_more G below (whole_record r ∷ [])
      ∙ ap (λ l. l ++ G (whole_record r) ∷ []) (below_kept a.values.items V a.pending.items a.pending.items r.window.start r.window.marks same refl r.window below k.under (le_refl _) (le_refl _))
      ∙ ap (λ f. map F below ++ f ∷ []) (woken_frame a.values.items a.pending.items r k.within r.kind k.frame)
      ∙ sym (map_more F below (r ∷ []))
      ∙ sym (without_last_is (map F (below ++ r ∷ [])) (F a.top))
      ∙ ap without_last (sym (map_more F (below ++ r ∷ []) (a.top ∷ [])))
      ∙ ap (λ rs. without_last (map F (rs ++ a.top ∷ []))) (sym e)
      ∙ ap (λ rs. without_last (map F (a.below.items ++ rs))) (sym (tops_there a.top.kind a.top (missing_none a.top.kind below r (subst (NoneUnder a.top.kind) e i.none))))
      ∙ ap (λ (s : KeptStack). without_last s.frames) v

  -- the cells of the frame that goes are closed
  pub cells_popped : (s : KeptStack) (top : Record) → shown a ≡ s → AreOpen a.below.items a.top.kind a.top.window a.open_cells.items → OnTop s (λ f t. NoneFrom s 0) → top ≡ whole_record r
      → AreOpen below top.kind top.window a.open_cells.items
  cells_popped s top v o h t =
      let c : AllBelow (length a.below.items) 0 a.open_cells.items =
      closed_top a.below.items a.top.kind a.top.window a.open_cells.items (λ is. none_from a s 0 v i (lua_closed a s (NoneFrom s 0) v is h)) o.there in
      subst (λ (t : Record). AreOpen below t.kind t.window a.open_cells.items) (sym t)
      (popped_open below r a.top.kind a.top.window a.open_cells.items last_of.within.kept (subst (λ b. AreOpen b a.top.kind a.top.window a.open_cells.items) e o) (subst (λ b. AllBelow (length b) 0 a.open_cells.items) e c))

-- the last frame
pub emptied_stands : (a : Inside) (below : List Record) → stands a → a.below.items ≡ below ++ [] → below ≡ [] → IsStack a.values.items a.pending.items below (record a.top { kind = Missing })
emptied_stands a below i e z =
    let b : a.below.items ≡ below = e ∙ append_nil below in
    subst (λ below. IsStack a.values.items a.pending.items below (record a.top { kind = Missing })) b (record { stacked = i.stacked; under = i.under; within = i.within; whole = i.whole; none = b ∙ z })

pub cells_emptied : (a : Inside) (s : KeptStack) (below : List Record) (j : Kind) (w : Window) → shown a ≡ s → stands a → AreOpen a.below.items a.top.kind a.top.window a.open_cells.items → OnTop s (λ f t. NoneFrom s 0)
    → a.below.items ≡ below ++ [] → below ≡ [] → AreOpen below j w a.open_cells.items
cells_emptied a s below j w v i o h e z =
    let b : a.below.items ≡ [] = e ∙ append_nil below ∙ z in
    let c : AllBelow (length a.below.items) 0 a.open_cells.items =
    closed_top a.below.items a.top.kind a.top.window a.open_cells.items (λ is. none_from a s 0 v i (lua_closed a s (NoneFrom s 0) v is h)) o.there in
    subst (λ below. AreOpen below j w a.open_cells.items) (sym z)
    (emptied_open a.top.kind a.top.window j w a.open_cells.items (subst (λ b. AreOpen b a.top.kind a.top.window a.open_cells.items) b o) (subst (λ b. AllBelow (length b) 0 a.open_cells.items) b c))

pub empty_is : {A : Type 0} (xs : List A) → length xs ≡ 0 → xs ≡ []
empty_is [] e = refl
empty_is (x ∷ xs) e = absurd (omega (arith, e))

pub emptied_frames : (a : Inside) (s : KeptStack) (below : List Record) → shown a ≡ s → a.below.items ≡ [] → below ≡ []
    → map (frame_at a.values.items a.pending.items) (below ++ tops (record a.top { kind = Missing })) ≡ without_last s.frames
emptied_frames a s below v e z =
    let F = frame_at a.values.items a.pending.items in
    ap (λ below. map F (below ++ [])) z ∙ one a.top.kind ∙ ap (λ below. without_last (map F (below ++ tops a.top))) (sym e) ∙ ap (λ (s : KeptStack). without_last s.frames) v
  where
    one : (k : Kind) → [] ≡ without_last (map (frame_at a.values.items a.pending.items) (tops_of k a.top))
    one Missing = refl
    one _ = refl

-- frames by number

pub get_map : {A B : Type 0} (f : A → B) (xs : List A) (n : ℕ) → slice_get (map f xs) n ≡ option_map f (slice_get xs n)
get_map f [] n = refl
get_map f (x ∷ xs) zero = refl
get_map f (x ∷ xs) (suc n) = get_map f xs n

pub get_past : {A : Type 0} (xs : List A) (n : ℕ) → length xs ≤ n → slice_get xs n ≡ None
get_past [] n l = refl
get_past (x ∷ xs) zero l = absurd (omega arith)
get_past (x ∷ xs) (suc n) l = get_past xs n (omega arith)

pub found_below : (xs : List Record) (n : ℕ) (r t : Record) → slice_get xs n ≡ Some r → Some r ≡ slice_get (xs ++ tops t) n
found_below xs n r t e = sym (get_old xs (tops t) n r e)

pub found_top : (xs : List Record) (n : ℕ) (t : Record) → n ≡ length xs → is_missing t.kind ≡ false → Some t ≡ slice_get (xs ++ tops t) n
found_top xs n t e m = sym (ap (λ rs. slice_get (xs ++ rs) n) (tops_there t.kind t m) ∙ ap (slice_get (xs ++ t ∷ [])) e ∙ get_new xs t)

pub found_none : (xs : List Record) (n : ℕ) (t : Record) → length xs ≤ n → is_missing t.kind ≡ true → None ≡ slice_get (xs ++ tops t) n
found_none xs n t l m = sym (ap (λ rs. slice_get (xs ++ rs) n) (tops_missing t.kind t m) ∙ ap (λ xs. slice_get xs n) (append_nil xs) ∙ get_past xs n l)

pub found_past : (xs : List Record) (n : ℕ) (t : Record) → length xs < n → None ≡ slice_get (xs ++ tops t) n
found_past xs n t l = sym (by t.kind)
  where
    over : (xs : List Record) (n : ℕ) → length xs < n → slice_get (xs ++ t ∷ []) n ≡ None
    over [] zero l = absurd (omega arith)
    over [] (suc n) l = refl
    over (x ∷ xs) zero l = absurd (omega arith)
    over (x ∷ xs) (suc n) l = over xs n (omega arith)

    by : (k : Kind) → slice_get (xs ++ tops_of k t) n ≡ None
    by Missing = ap (λ xs. slice_get xs n) (append_nil xs) ∙ get_past xs n (omega arith)
    by Lua = over xs n l
    by Pcall = over xs n l
    by (Xpcall h) = over xs n l
    by Handler = over xs n l
    by (Closing x) = over xs n l
