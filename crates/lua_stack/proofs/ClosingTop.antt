-- A frame of `coroutine.close` on top, and the first frame that is no Lua frame.
use Rattle.std.proofs.Common.{◌≡◌, ℕ, suc, ◌+◌, ◌-◌, ◌≤◌, true, false, List, [], ◌∷◌, ◌++◌, length, map, take, drop, Option, Some, None, refl, ap, sym, ◌∙◌, subst, arith, le_refl}
use Rattle.std.specs.Prelude.{cond, reverse, slice_get}
use Rattle.std.proofs.lemmas.List.{reverse-append}
use Rattle.int_core.specs.Value.{last, without_last}
use Rattle.list_laws.proofs.Items.{some_same}
use Rattle.table_core.specs.declared.value.Value.{Value as Kept}
use Rattle.lua_stack.specs.declared.frame.Window.{Window}
use Rattle.lua_stack.specs.declared.frame.Running.{Running}
use Rattle.lua_stack.specs.declared.frame.Record.{Record}
use Rattle.lua_stack.specs.declared.frame.Kind.{Kind}
use Rattle.lua_stack.specs.declared.frame.Kind.TheVariants.{Missing, Lua, Pcall, Xpcall, Handler, Closing}
use Rattle.lua_stack.specs.declared.stack.Stack.TheInside.{Inside}
use Rattle.lua_stack.specs.Frames.{KeptFrame, KeptStack, kept_closing, kept_catcher, top_is, HasClosingTop}
use Rattle.lua_stack.specs.View.{part, put_all, frame_at, frame_in, tops, tops_of, top_in, seen, AreOpen, AreStacked, IsFrame, IsStack, NoneUnder, catcher_of, is_lua, reach_of, record_behind, with_values}
use Rattle.lua_stack.proofs.Parts.{length_part, length_put_all, part_put_all, take_next, take_put_all, take_take}
use Rattle.lua_stack.proofs.Stacked.{under_more}
use Rattle.lua_stack.proofs.Ends.{front_same, last_same, map_more, shown, stands}
use Rattle.lua_stack.proofs.Own.{get_part}
use Rattle.lua_stack.proofs.OpenCells.{no_reach_open}
use Rattle.lua_stack.proofs.LaidOut.{window_from}
use Rattle.lua_stack.proofs.Called.{all_same, all_stacked, all_under, grown_same}

abbrev error_of : KeptFrame → Option (Option Kept)
error_of (kept_closing error left) = Some error
error_of f = None

abbrev left_of : KeptFrame → List Kept
left_of (kept_closing error left) = left
left_of f = []

pub record IsClosingTop (a : Inside) (below : List KeptFrame) (error : Option Kept) (left : List Kept) : Type 0 where
  pub kind : a.top.kind ≡ Closing error
  pub values : part a.top.window.base a.top.window.kept a.values.items ≡ left
  pub frames : map (frame_at a.values.items a.pending.items) a.below.items ≡ below

module _ (a : Inside) (s : KeptStack) (v : shown a ≡ s) (i : stands a) where
  abbrev F : Record → KeptFrame
  F = frame_at a.values.items a.pending.items

  pub closing_there : (below : List KeptFrame) (error : Option Kept) (left : List Kept) → s.frames ≡ below ++ kept_closing error left ∷ [] → IsClosingTop a below error left
  closing_there below error left e = by a.top.kind refl
    where
      one : (r : Record) → r.window ≡ a.top.window → map F (a.below.items ++ r ∷ []) ≡ below ++ kept_closing error left ∷ [] → (map F a.below.items ≡ below) × (F r ≡ kept_closing error left)
      one r w q = let k = sym (map_more F a.below.items (r ∷ [])) ∙ q in (front_same _ _ _ _ k, last_same _ _ _ _ k)

      whole : (k : Kind) → a.top.kind ≡ k → map F (a.below.items ++ tops_of k (record a.top { kind = k })) ≡ below ++ kept_closing error left ∷ []
      whole k q = ap (λ k. map F (a.below.items ++ tops_of k (record a.top { kind = k }))) (sym q) ∙ ap (λ (s : KeptStack). s.frames) v ∙ e

      not_empty : (fs : List KeptFrame) → [] ≡ fs ++ kept_closing error left ∷ [] → ⊥
      not_empty [] e = cc
      not_empty (g ∷ gs) e = cc

      by : (k : Kind) → a.top.kind ≡ k → IsClosingTop a below error left
      by Missing q =
          let n : a.below.items ≡ [] = subst (λ k. NoneUnder k a.below.items) q i.none in
          absurd (not_empty below (ap (λ rs. map F (rs ++ [])) (sym n) ∙ whole Missing q))
      by Lua q = absurd (let k = (one (record a.top { kind = Lua }) refl (whole Lua q)).1 in cc)
      by Pcall q = absurd (let k = (one (record a.top { kind = Pcall }) refl (whole Pcall q)).1 in cc)
      by (Xpcall h) q = absurd (let k = (one (record a.top { kind = Xpcall h }) refl (whole (Xpcall h) q)).1 in cc)
      by Handler q = absurd (let k = (one (record a.top { kind = Handler }) refl (whole Handler q)).1 in cc)
      by (Closing x) q =
          let both = one (record a.top { kind = Closing x }) refl (whole (Closing x) q) in
          record {
            kind = q ∙ ap Closing (some_same x error (ap error_of both.1));
            values = ap left_of both.1;
            frames = both.0;
          }

-- a value is taken

last_get : (xs : List Kept) (n : ℕ) (v : Kept) → suc n ≡ length xs → slice_get xs n ≡ Some v → Some v ≡ last xs
last_get [] n v e g = absurd (cc)
last_get (x ∷ xs) n v e g = sym g ∙ (let m : n ≡ length xs = omega (arith, e) in ap (slice_get (x ∷ xs)) m)

without : (xs : List Kept) (n : ℕ) → suc n ≡ length xs → take n xs ≡ without_last xs
without xs n e = let m : n ≡ length xs - 1 = omega (arith, e) in ap (λ n. take n xs) m

module _ (a : Inside) (s : KeptStack) (v : shown a ≡ s) (i : stands a) (h : HasClosingTop s) where
  there : IsClosingTop a h.below h.error h.left
  there = closing_there a s v i h.below h.error h.left h.is

  pub shorter_stands : (n : ℕ) (top : Record) → n ≤ a.top.window.kept → top ≡ with_values a.top n → IsStack a.values.items a.pending.items a.below.items top
  shorter_stands n top l e =
      let w = i.within in
      let k = i.whole in
      let z = w.end in
      subst (IsStack a.values.items a.pending.items a.below.items) (sym e) (record {
        stacked = i.stacked;
        under = under_more a.top.window (with_values a.top n).window a.below.items i.under (le_refl _) (le_refl _);
        within = record { extra = w.extra; kept = le_refl _; end = omega (arith, l, k, z); marks_end = w.marks_end };
        whole = refl;
        none = i.none;
      })

  no_reach : reach_of a.top.kind a.top.window ≡ 0
  no_reach = ap (λ k. reach_of k a.top.window) there.kind

  pub closing_open : (k : Kind) (w : Window) → AreOpen a.below.items a.top.kind a.top.window a.open_cells.items → AreOpen a.below.items k w a.open_cells.items
  closing_open k w o = no_reach_open a.below.items a.top.kind a.top.window k w a.open_cells.items no_reach o

  pub one_taken : (n at : ℕ) (x : Kept) (top : Record) (k : KeptStack) → suc n ≡ a.top.window.size → at ≡ a.top.window.base + n → slice_get a.values.items at ≡ Some x → top ≡ with_values a.top n
      → k ≡ seen a.values.items a.pending.items a.below.items top a.open_cells.items → (below : List KeptFrame) (error : Option Kept) (left : List Kept) → s.frames ≡ below ++ kept_closing error left ∷ []
      → (Some x ≡ last left) × (k.frames ≡ below ++ kept_closing error (without_last left) ∷ [])
  one_taken n at x top k e p g t q below error left f =
      let c = closing_there a s v i below error left f in
      let w = i.whole in
      let z = i.within.end in
      let m : suc n ≡ length left = (let l = ap length (sym c.values) ∙ length_part a.top.window.base a.top.window.kept a.values.items (omega (arith, w, z)) in omega (arith, l, e, w)) in
      let G = frame_at a.values.items a.pending.items in
      let got : slice_get left n ≡ Some x = ap (λ xs. slice_get xs n) (sym c.values) ∙ get_part a.values.items a.top.window.base a.top.window.kept n (omega (arith, e, w)) ∙ ap (slice_get a.values.items) (sym p) ∙ g in (
        last_get left n x m got,
        ap (λ (k : KeptStack). k.frames) q ∙ ap (λ top. map G (a.below.items ++ tops top)) t
            ∙ ap (λ kind. map G (a.below.items ++ tops_of kind (record (with_values a.top n) { kind = kind }))) c.kind
            ∙ map_more G a.below.items (record (with_values a.top n) { kind = Closing error } ∷ []) ∙ ap (λ fs. fs ++ kept_closing error (part a.top.window.base n a.values.items) ∷ []) c.frames
            ∙ ap (λ l. below ++ kept_closing error l ∷ [])
            (sym (take_take (drop a.top.window.base a.values.items) n a.top.window.kept (omega (arith, e, w))) ∙ ap (take n) c.values ∙ without left n m),
      )

  -- another error
  pub replaced_stands : (error : Option Kept) → IsStack a.values.items a.pending.items a.below.items (record a.top { kind = Closing error })
  replaced_stands error = record { stacked = i.stacked; under = i.under; within = i.within; whole = i.whole; none = tt }

  pub error_replaced : (new : Option Kept) (below : List KeptFrame) (error : Option Kept) (left : List Kept) → s.frames ≡ below ++ kept_closing error left ∷ []
      → map (frame_at a.values.items a.pending.items) (a.below.items ++ record a.top { kind = Closing new } ∷ []) ≡ below ++ kept_closing new left ∷ []
  error_replaced new below error left f =
      let c = closing_there a s v i below error left f in
      map_more (frame_at a.values.items a.pending.items) a.below.items (record a.top { kind = Closing new } ∷ [])
      ∙ ap (λ fs. fs ++ kept_closing new (part a.top.window.base a.top.window.kept a.values.items) ∷ []) c.frames ∙ ap (λ l. below ++ kept_closing new l ∷ []) c.values

-- one is pushed

module _ (a : Inside) (i : stands a) (place marks : ℕ) (p : place ≡ a.top.window.base + a.top.window.size) (m : marks ≡ a.top.window.marks + a.top.window.marked) (grown : List Kept)
    (front : take (length a.values.items) grown ≡ a.values.items) (longer : length a.values.items ≤ length grown) (left values : List Kept) (w : values ≡ put_all place left grown) (room : place + length left ≤ length grown)
    (error : Option Kept) (below : List Record) (next top : Record) (b : below ≡ a.below.items ++ tops a.top) (n : next ≡ record_behind a.top (Closing error)) (t : top ≡ with_values next (length left)) where
  values_length : length values ≡ length grown
  values_length = ap length w ∙ length_put_all left grown place

  values_same : take place values ≡ take place a.values.items
  values_same = ap (take place) w ∙ take_put_all left grown place place (le_refl _) ∙ grown_same a i place marks p m grown front longer

  abbrev whole_top : Record
  whole_top = with_values (record_behind a.top (Closing error)) (length left)

  top_is_whole : top ≡ whole_top
  top_is_whole = t ∙ ap (λ r. with_values r (length left)) n

  pub closing_stands : IsStack values a.pending.items below top
  closing_stands =
      let l = values_length in
      let e = i.within.marks_end in
      subst (λ top. IsStack values a.pending.items below top) (sym top_is_whole) (subst (λ below. IsStack values a.pending.items below whole_top) (sym b) (record {
        stacked = all_stacked a i place marks p m values values_same (omega (arith, l, longer));
        under = under_more (window_from place marks) whole_top.window (a.below.items ++ tops a.top) (all_under a i place marks p m values values_same (omega (arith, l, longer))) (omega (arith, p)) (omega (arith, m));
        within = record { extra = le_refl _; kept = le_refl _; end = omega (arith, l, room, p); marks_end = omega (arith, e) };
        whole = refl;
        none = tt;
      }))

  pub closing_frames : (s : KeptStack) → shown a ≡ s → map (frame_at values a.pending.items) (below ++ tops top) ≡ s.frames ++ kept_closing error left ∷ []
  closing_frames s v =
      let l = values_length in
      let G = frame_at values a.pending.items in
      ap (λ top. map G (below ++ tops top)) top_is_whole ∙ ap (λ below. map G (below ++ whole_top ∷ [])) b
      ∙ map_more G (a.below.items ++ tops a.top) (whole_top ∷ [])
      ∙ ap (λ fs. fs ++ kept_closing error (part (a.top.window.base + a.top.window.size) (length left) values) ∷ []) (all_same a i place marks p m values values_same (omega (arith, l, longer)))
      ∙ ap (λ (s : KeptStack). s.frames ++ kept_closing error (part (a.top.window.base + a.top.window.size) (length left) values) ∷ []) v
      ∙ ap (λ l. s.frames ++ kept_closing error l ∷ []) (ap (λ b. part b (length left) values) (sym p) ∙ ap (part place (length left)) w ∙ part_put_all left grown place room)

-- the first frame that is no Lua frame

pub some_catcher : (n m : ℕ) (rs : List Record) (r : Record) → suc n ≡ m → slice_get rs n ≡ Some r → reverse (take m rs) ≡ r ∷ reverse (take n rs)
some_catcher n m rs r e g = ap (λ m. reverse (take m rs)) (sym e) ∙ ap reverse (take_next n rs r g) ∙ reverse-append (take n rs) (r ∷ [])

pub is_catcher : (n m : ℕ) (rs : List Record) (r : Record) → suc n ≡ m → slice_get rs n ≡ Some r → is_lua r.kind ≡ false → catcher_of (reverse (take m rs)) ≡ top_in r.kind
is_catcher n m rs r e g f = ap catcher_of (some_catcher n m rs r e g) ∙ ap (λ b. cond b (catcher_of (reverse (take n rs))) (top_in r.kind)) f

pub no_catcher : (n m : ℕ) (rs : List Record) (r : Record) → suc n ≡ m → slice_get rs n ≡ Some r → is_lua r.kind ≡ true → catcher_of (reverse (take m rs)) ≡ catcher_of (reverse (take n rs))
no_catcher n m rs r e g f = ap catcher_of (some_catcher n m rs r e g) ∙ ap (λ b. cond b (catcher_of (reverse (take n rs))) (top_in r.kind)) f

abbrev AllFrames : List Record → Type 0
AllFrames [] = Unit {0}
AllFrames (r ∷ rs) = IsFrame r.kind r.window × AllFrames rs

all_frames : (n m : ℕ) (rs : List Record) → AreStacked n m rs → AllFrames rs
all_frames n m [] s = tt
all_frames n m (r ∷ rs) s = (s.0, all_frames n m rs s.3)

frames_append : (rs qs : List Record) → AllFrames rs → AllFrames qs → AllFrames (rs ++ qs)
frames_append [] qs a b = b
frames_append (r ∷ rs) qs a b = (a.0, frames_append rs qs a.1 b)

reverse_one : {A : Type 0} (x : A) (xs : List A) → reverse (x ∷ xs) ≡ reverse xs ++ x ∷ []
reverse_one x xs = reverse-append (x ∷ []) xs

frames_reversed : (rs : List Record) → AllFrames rs → AllFrames (reverse rs)
frames_reversed [] a = tt
frames_reversed (r ∷ rs) a = subst AllFrames (sym (reverse_one r rs)) (frames_append (reverse rs) (r ∷ []) (frames_reversed rs a.1) (a.0, tt))

pub reverse_map : {A B : Type 0} (f : A → B) (xs : List A) → reverse (map f xs) ≡ map f (reverse xs)
reverse_map f [] = refl
reverse_map f (x ∷ xs) = reverse_one (f x) (map f xs) ∙ ap (λ l. l ++ f x ∷ []) (reverse_map f xs) ∙ sym (ap (map f) (reverse_one x xs) ∙ map_more f (reverse xs) (x ∷ []))

module _ (values : List Kept) (pending : List ℕ) where
  catchers : (rs : List Record) → AllFrames rs → catcher_of rs ≡ top_is (kept_catcher (map (frame_at values pending) rs))
  catchers [] a = refl
  catchers (r ∷ rs) a = by r.kind a.0 (catchers rs a.1)
    where
      by : (k : Kind) → IsFrame k r.window → catcher_of rs ≡ top_is (kept_catcher (map (frame_at values pending) rs))
          → cond (is_lua k) (catcher_of rs) (top_in k) ≡ top_is (kept_catcher (frame_in values pending k r.running r.window ∷ map (frame_at values pending) rs))
      by Missing f h = absurd f
      by Lua f h = h
      by Pcall f h = refl
      by (Xpcall x) f h = refl
      by Handler f h = refl
      by (Closing x) f h = refl

  under_lua : (n m : ℕ) (below : List Record) (r : Running) (w : Window) → AreStacked n m below
      → catcher_of (reverse below) ≡ top_is (kept_catcher (reverse (map (frame_at values pending) (below ++ record { kind = Lua; running = r; window = w } ∷ []))))
  under_lua n m below r w s =
      let top : Record = record { kind = Lua; running = r; window = w } in
      catchers (reverse below) (frames_reversed below (all_frames n m below s))
      ∙ ap (λ fs. top_is (kept_catcher fs)) (sym (reverse_map (frame_at values pending) below))
      ∙ sym (ap (λ fs. top_is (kept_catcher (reverse fs))) (map_more (frame_at values pending) below (top ∷ [])) ∙ ap (λ fs. top_is (kept_catcher fs)) (reverse-append (map (frame_at values pending) below) (frame_at values pending top ∷ [])))

pub catcher_under : (a : Inside) (s : KeptStack) (rs : List Record) → shown a ≡ s → stands a → is_lua a.top.kind ≡ true → rs ≡ a.below.items → catcher_of (reverse rs) ≡ top_is (kept_catcher (reverse s.frames))
catcher_under a s rs v i l e =
    let k : a.top.kind ≡ Lua = lua_is a.top.kind l in
    ap (λ rs. catcher_of (reverse rs)) e ∙ under_lua a.values.items a.pending.items (length a.values.items) (length a.pending.items) a.below.items a.top.running a.top.window i.stacked
    ∙ ap (λ fs. top_is (kept_catcher (reverse fs))) (ap (λ k. map (frame_at a.values.items a.pending.items) (a.below.items ++ tops_of k (record a.top { kind = k }))) (sym k) ∙ ap (λ (s : KeptStack). s.frames) v)
  where
    lua_is : (k : Kind) → is_lua k ≡ true → k ≡ Lua
    lua_is Lua e = refl
    lua_is _ e = absurd (cc)
