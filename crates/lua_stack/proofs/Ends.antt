-- The frame on top, as the last of the frames.
use Rattle.std.proofs.Common.{◌≡◌, ℕ, List, [], ◌∷◌, ◌++◌, map, Some, refl, ap, sym, ◌∙◌, subst}
use Rattle.int_core.specs.Value.{last, without_last}
use Rattle.list_laws.proofs.Ends.{last_is, without_last_is}
use Rattle.list_laws.proofs.Items.{some_same}
use Rattle.lua_stack.specs.declared.frame.Record.{Record}
use Rattle.lua_stack.specs.declared.frame.Running.{Running}
use Rattle.lua_stack.specs.declared.frame.OpenCell.{OpenCell}
use Rattle.lua_stack.specs.declared.frame.Kind.{Kind}
use Rattle.lua_stack.specs.declared.frame.Kind.TheVariants.{Missing, Lua, Pcall, Xpcall, Handler, Closing}
use Rattle.lua_stack.specs.declared.frame.Window.{Window}
use Rattle.lua_stack.specs.declared.frame.Top.{Top}
use Rattle.lua_stack.specs.declared.stack.Stack.TheInside.{Inside}
use Rattle.table_core.specs.declared.value.Value.{Value as Kept}
use Rattle.lua_stack.specs.Frames.{kept_lua, KeptStack, HasLuaTop, top_is, IsTop, frames, frame_of}
use Rattle.int_core.specs.Value.{Value}
use Rattle.machine_core.specs.World.{LuaFrame, Frame, lua}
use Rattle.lua_stack.specs.View.{frame_at, frame_in, lua_at, tops, top_in, seen, NoneUnder, IsStack}

pub map_more : {A B : Type 0} (f : A → B) (xs ys : List A) → map f (xs ++ ys) ≡ map f xs ++ map f ys
map_more f [] ys = refl
map_more f (x ∷ xs) ys = ap (λ l. f x ∷ l) (map_more f xs ys)

pub last_same : {A : Type 0} (xs ys : List A) (x y : A) → xs ++ x ∷ [] ≡ ys ++ y ∷ [] → x ≡ y
last_same xs ys x y e = some_same x y (sym (last_is xs x) ∙ ap last e ∙ last_is ys y)

pub front_same : {A : Type 0} (xs ys : List A) (x y : A) → xs ++ x ∷ [] ≡ ys ++ y ∷ [] → xs ≡ ys
front_same xs ys x y e = sym (without_last_is xs x) ∙ ap without_last e ∙ without_last_is ys y

abbrev pub shown : Inside → KeptStack
shown a = seen a.values.items a.pending.items a.below.items a.top a.open_cells.items

abbrev pub stands : Inside → Type 0
stands a = IsStack a.values.items a.pending.items a.below.items a.top

module _ (values : List Kept) (pending : List ℕ) where
  pub last_frame : (below : List Record) (r : Record) → last (map (frame_at values pending) (below ++ r ∷ [])) ≡ Some (frame_at values pending r)
  last_frame below r = ap last (map_more (frame_at values pending) below (r ∷ [])) ∙ last_is (map (frame_at values pending) below) (frame_at values pending r)

  pub top_seen : (below : List Record) (kind : Kind) (r : Running) (w : Window) (cells : List OpenCell) → NoneUnder kind below
      → IsTop (seen values pending below (record { kind = kind; running = r; window = w }) cells) (top_in kind)
  top_seen below Missing r w cells n = subst (λ below. IsTop (seen values pending below (record { kind = Missing; running = r; window = w }) cells) (top_in Missing)) (sym n) refl
  top_seen below Lua r w cells n = sym (ap top_is (last_frame below (record { kind = Lua; running = r; window = w })))
  top_seen below Pcall r w cells n = sym (ap top_is (last_frame below (record { kind = Pcall; running = r; window = w })))
  top_seen below (Xpcall h) r w cells n = sym (ap top_is (last_frame below (record { kind = Xpcall h; running = r; window = w })))
  top_seen below Handler r w cells n = sym (ap top_is (last_frame below (record { kind = Handler; running = r; window = w })))
  top_seen below (Closing e) r w cells n = sym (ap top_is (last_frame below (record { kind = Closing e; running = r; window = w })))

pub top_there : (a : Inside) (s : KeptStack) (t : Top) → shown a ≡ s → stands a → t ≡ top_in a.top.kind → IsTop s t
top_there a s t v i k =
    subst (λ s. IsTop s t) v (k ∙ top_seen a.values.items a.pending.items a.below.items a.top.kind a.top.running a.top.window a.open_cells.items i.none)

-- a stack on which a Lua frame stands knows so
module _ (f : Kept → Value) (values : List Kept) (pending : List ℕ) (fs : List Frame) (t : LuaFrame) where
  frame_lua : (k : Kind) (r : Running) (w : Window) → frame_of f (frame_in values pending k r w) ≡ lua t → k ≡ Lua
  frame_lua Lua r w e = refl
  frame_lua _ r w e = absurd (cc)

  top_lua : (below : List Record) (r : Record) → map (frame_of f) (map (frame_at values pending) (below ++ r ∷ [])) ≡ fs ++ lua t ∷ [] → r.kind ≡ Lua
  top_lua below r e =
      frame_lua r.kind r.running r.window (last_same (map (frame_of f) (map (frame_at values pending) below)) fs (frame_of f (frame_at values pending r)) (lua t)
      (sym (ap (map (frame_of f)) (map_more (frame_at values pending) below (r ∷ [])) ∙ map_more (frame_of f) (map (frame_at values pending) below) (frame_at values pending r ∷ [])) ∙ e))

  not_empty : (fs : List Frame) → [] ≡ fs ++ lua t ∷ [] → ⊥
  not_empty [] e = cc
  not_empty (g ∷ gs) e = cc

  tops_lua : (below : List Record) (k : Kind) (r : Running) (w : Window) → NoneUnder k below
      → map (frame_of f) (map (frame_at values pending) (below ++ tops (record { kind = k; running = r; window = w }))) ≡ fs ++ lua t ∷ [] → k ≡ Lua
  tops_lua below Missing r w n e = absurd (not_empty fs (subst (λ below. map (frame_of f) (map (frame_at values pending) (below ++ [])) ≡ fs ++ lua t ∷ []) n e))
  tops_lua below Lua r w n e = refl
  tops_lua below Pcall r w n e = top_lua below (record { kind = Pcall; running = r; window = w }) e
  tops_lua below (Xpcall h) r w n e = top_lua below (record { kind = Xpcall h; running = r; window = w }) e
  tops_lua below Handler r w n e = top_lua below (record { kind = Handler; running = r; window = w }) e
  tops_lua below (Closing x) r w n e = top_lua below (record { kind = Closing x; running = r; window = w }) e

pub lua_on_top : (a : Inside) (s : KeptStack) → shown a ≡ s → stands a → HasLuaTop s → a.top.kind ≡ Lua
lua_on_top a s v i h =
    tops_lua h.value a.values.items a.pending.items h.below h.top a.below.items a.top.kind a.top.running a.top.window i.none (ap (λ (s : KeptStack). frames h.value s) v ∙ h.is)

-- its frames
pub lua_frames : (values : List Kept) (pending : List ℕ) (below : List Record) (top : Record) → top.kind ≡ Lua
    → map (frame_at values pending) (below ++ tops top) ≡ map (frame_at values pending) below ++ kept_lua (lua_at values pending top.running top.window) ∷ []
lua_frames values pending below top e =
    ap (λ k. map (frame_at values pending) (below ++ tops (record top { kind = k }))) e ∙ map_more (frame_at values pending) below (record top { kind = Lua } ∷ [])
