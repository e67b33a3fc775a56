-- A frame that is read by its number.
use Rattle.std.proofs.Common.{◌≡◌, ℕ, zero, suc, List, [], ◌∷◌, ◌++◌, length, Option, Some, ap, sym, ◌∙◌, subst}
use Rattle.std.specs.Prelude.{slice_get}
use Rattle.std.specs.Option.{option_map}
use Rattle.list_laws.proofs.Items.{some_same}
use Rattle.lua_stack.specs.declared.frame.Record.{Record}
use Rattle.lua_stack.specs.declared.frame.Kind.{Kind}
use Rattle.lua_stack.specs.declared.frame.Kind.TheVariants.{Missing, Lua, Pcall, Xpcall, Handler, Closing}
use Rattle.lua_stack.specs.declared.stack.Stack.TheInside.{Inside}
use Rattle.lua_stack.specs.Frames.{KeptStack}
use Rattle.lua_stack.specs.View.{frame_at, tops, tops_of, AreStacked, IsWithin}
use Rattle.lua_stack.proofs.Ends.{shown, stands}
use Rattle.lua_stack.proofs.Pushed.{get_map}

top_at : (k : Kind) (t r : Record) (n : ℕ) → slice_get (tops_of k t) n ≡ Some r → t ≡ r
top_at Missing t r n g = absurd (cc)
top_at Lua t r zero g = cc
top_at Lua t r (suc n) g = absurd (cc)
top_at Pcall t r zero g = cc
top_at Pcall t r (suc n) g = absurd (cc)
top_at (Xpcall h) t r zero g = cc
top_at (Xpcall h) t r (suc n) g = absurd (cc)
top_at Handler t r zero g = cc
top_at Handler t r (suc n) g = absurd (cc)
top_at (Closing e) t r zero g = cc
top_at (Closing e) t r (suc n) g = absurd (cc)

record_within : (n m : ℕ) (rs : List Record) (t : Record) (k : ℕ) (r : Record) → AreStacked n m rs → IsWithin n m t.window → slice_get (rs ++ tops t) k ≡ Some r → IsWithin n m r.window
record_within n m [] t k r s w g = subst (λ (r : Record). IsWithin n m r.window) (top_at t.kind t r k g) w
record_within n m (q ∷ rs) t zero r s w g = subst (λ (r : Record). IsWithin n m r.window) (some_same q r g) s.1
record_within n m (q ∷ rs) t (suc k) r s w g = record_within n m rs t k r s.3 w g

pub within_at : (a : Inside) (k : ℕ) (r : Record) → stands a → slice_get (a.below.items ++ tops a.top) k ≡ Some r → IsWithin (length a.values.items) (length a.pending.items) r.window
within_at a k r i g = record_within (length a.values.items) (length a.pending.items) a.below.items a.top k r i.stacked i.within g

pub frame_seen : (a : Inside) (s : KeptStack) (k : ℕ) (r : Option Record) → shown a ≡ s → r ≡ slice_get (a.below.items ++ tops a.top) k → option_map (frame_at a.values.items a.pending.items) r ≡ slice_get s.frames k
frame_seen a s k r v e =
    let F = frame_at a.values.items a.pending.items in
    ap (option_map F) e ∙ sym (get_map F (a.below.items ++ tops a.top) k) ∙ ap (λ (s : KeptStack). slice_get s.frames k) v
