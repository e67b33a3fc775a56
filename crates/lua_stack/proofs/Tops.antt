-- Changes of the frame on top.
use Rattle.std.proofs.Common.{◌≡◌, ℕ, ◌≤◌, List, [], ◌∷◌, ◌++◌, length, map, take, Some, refl, ap, sym, ◌∙◌, subst}
use Rattle.int_core.specs.Value.{Value, known, nil}
use Rattle.list_laws.proofs.Items.{some_same}
use Rattle.machine_core.specs.World.{LuaFrame, lua, lua_frame}
use Rattle.table_core.specs.declared.value.Value.{Value as Kept}
use Rattle.table_core.specs.declared.value.Value.TheVariants.{Nil}
use Rattle.lua_stack.specs.declared.frame.Record.{Record}
use Rattle.lua_stack.specs.declared.frame.Kind.TheVariants.{Lua}
use Rattle.lua_stack.specs.declared.stack.Stack.TheInside.{Inside}
use Rattle.lua_stack.specs.Frames.{KeptLua, KeptFrame, kept_lua, KeptStack, HasLuaTop, TopBecomes, OnTop, frames, frame_of, lua_of}
use Rattle.lua_stack.specs.View.{frame_at, lua_at, seen}
use Rattle.lua_stack.proofs.Ends.{map_more, last_same, front_same, shown, stands, lua_on_top, lua_frames}
use Rattle.lua_stack.proofs.Stacked.{below_kept}

-- whether a change of kept values is one of what they stand for
abbrev pub Reads : KeptLua → KeptLua → ((Kept → Value) → LuaFrame → LuaFrame) → Type 0
Reads t u change = (f : Kept → Value) → f Nil ≡ known nil → lua_of f u ≡ change f (lua_of f t)

frames_read : (f : Kept → Value) (s : KeptStack) (fs : List KeptFrame) (t : KeptLua) → s.frames ≡ fs ++ kept_lua t ∷ [] → frames f s ≡ map (frame_of f) fs ++ lua (lua_of f t) ∷ []
frames_read f s fs t e = ap (map (frame_of f)) e ∙ map_more (frame_of f) fs (kept_lua t ∷ [])

pub same_lua : (t u : LuaFrame) → lua t ≡ lua u → t ≡ u
same_lua t u e = some_same t u (ap lua_frame e)

pub becomes : (old new : KeptStack) (fs : List KeptFrame) (t u : KeptLua) (change : (Kept → Value) → LuaFrame → LuaFrame)
    → old.frames ≡ fs ++ kept_lua t ∷ [] → new.frames ≡ fs ++ kept_lua u ∷ [] → new.open_cells ≡ old.open_cells → Reads t u change → TopBecomes old new change
becomes old new fs t u change e k c h = record {
  top = λ f z below v q.
      let both : map (frame_of f) fs ++ lua (lua_of f t) ∷ [] ≡ below ++ lua v ∷ [] = sym (frames_read f old fs t e) ∙ q in
      let front : map (frame_of f) fs ≡ below = front_same _ _ _ _ both in
      let top : lua_of f t ≡ v = same_lua _ _ (last_same _ _ _ _ both) in
      frames_read f new fs u k ∙ ap (λ l. l ++ lua (lua_of f u) ∷ []) front ∙ ap (λ x. below ++ lua x ∷ []) (h f z ∙ ap (change f) top);
  cells = c;
}

-- The frame on top is another one over other values, which those below it do not see
pub retop : (a : Inside) (s n : KeptStack) (values : List Kept) (pending : List ℕ) (top : Record) (change : (Kept → Value) → LuaFrame → LuaFrame)
    → shown a ≡ s → stands a → HasLuaTop s → top.kind ≡ a.top.kind → n ≡ seen values pending a.below.items top a.open_cells.items
    → take a.top.window.start values ≡ take a.top.window.start a.values.items → take a.top.window.marks pending ≡ take a.top.window.marks a.pending.items
    → Reads (lua_at a.values.items a.pending.items a.top.running a.top.window) (lua_at values pending top.running top.window) change
    → TopBecomes s n change
retop a s n values pending top change v i h k e xs ps reads =
    let is : a.top.kind ≡ Lua = lua_on_top a s v i h in
    let below : map (frame_at values pending) a.below.items ≡ map (frame_at a.values.items a.pending.items) a.below.items =
    below_kept a.values.items values a.pending.items pending _ _ xs ps a.top.window a.below.items i.under (Rattle.std.proofs.Common.le_refl _) (Rattle.std.proofs.Common.le_refl _) in
    becomes s n (map (frame_at a.values.items a.pending.items) a.below.items) (lua_at a.values.items a.pending.items a.top.running a.top.window) (lua_at values pending top.running top.window) change
    (ap (λ (s : KeptStack). s.frames) (sym v) ∙ lua_frames a.values.items a.pending.items a.below.items a.top is)
    (ap (λ (s : KeptStack). s.frames) e ∙ lua_frames values pending a.below.items top (k ∙ is) ∙ ap (λ l. l ++ kept_lua (lua_at values pending top.running top.window) ∷ []) below)
    (ap (λ (s : KeptStack). s.open_cells) e ∙ ap (λ (s : KeptStack). s.open_cells) v)
    reads

-- what is known of the frame on top
pub on_top : (a : Inside) (s : KeptStack) (P : (Kept → Value) → LuaFrame → Type 0) → shown a ≡ s → stands a
    → ((f : Kept → Value) → P f (lua_of f (lua_at a.values.items a.pending.items a.top.running a.top.window))) → OnTop s P
on_top a s P v i p =
    λ f below t e.
    let is : a.top.kind ≡ Lua = lua_on_top a s v i (record { value = f; below = below; top = t; is = e }) in
    let both : map (frame_of f) (map (frame_at a.values.items a.pending.items) a.below.items) ++ lua (lua_of f (lua_at a.values.items a.pending.items a.top.running a.top.window)) ∷ [] ≡ below ++ lua t ∷ [] =
    sym (frames_read f s (map (frame_at a.values.items a.pending.items) a.below.items) (lua_at a.values.items a.pending.items a.top.running a.top.window)
    (ap (λ (s : KeptStack). s.frames) (sym v) ∙ lua_frames a.values.items a.pending.items a.below.items a.top is)) ∙ e in
    subst (P f) (same_lua _ _ (last_same _ _ _ _ both)) (p f)
