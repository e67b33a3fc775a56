-- The frame below the one on top.
use Rattle.std.proofs.Common.{◌≡◌, ℕ, suc, ◌+◌, ◌-◌, List, [], ◌∷◌, ◌++◌, length, map, Some, None, refl, ap, sym, ◌∙◌, subst, arith, length-append}
use Rattle.std.specs.Prelude.{slice_get}
use Rattle.std.specs.Option.{option_map}
use Rattle.std.proofs.lemmas.List.{length-map}
use Rattle.int_core.specs.Value.{last, without_last}
use Rattle.list_laws.proofs.Ends.{without_last_is}
use Rattle.table_core.specs.declared.value.Value.{Value as Kept}
use Rattle.lua_stack.specs.declared.frame.LuaState.{LuaState}
use Rattle.lua_stack.specs.declared.frame.Record.{Record}
use Rattle.lua_stack.specs.declared.frame.Running.{Running}
use Rattle.lua_stack.specs.declared.frame.Window.{Window}
use Rattle.lua_stack.specs.declared.frame.Kind.{Kind}
use Rattle.lua_stack.specs.declared.frame.Kind.TheVariants.{Missing, Lua, Pcall, Xpcall, Handler, Closing}
use Rattle.lua_stack.specs.declared.stack.Stack.TheInside.{Inside}
use Rattle.lua_stack.specs.Frames.{KeptStack, kept_state}
use Rattle.lua_stack.specs.View.{IsWithin, NoneUnder, blank, frame_at, frame_in, part, registers_at, state_by, state_in, tops}
use Rattle.lua_stack.proofs.Ends.{map_more, shown, stands}
use Rattle.lua_stack.proofs.Parts.{length_blank, length_part}
use Rattle.lua_stack.proofs.Pushed.{found_below, get_map}
use Rattle.lua_stack.proofs.Viewed.{within_at}

last_got : {A : Type 0} (xs : List A) → last xs ≡ slice_get xs (length xs - 1)
last_got [] = refl
last_got (x ∷ xs) = let e : length xs ≡ suc (length xs) - 1 = omega arith in ap (slice_get (x ∷ xs)) e

module _ (values : List Kept) (pending : List ℕ) where
  pushed : (below : List Record) (r : Record) → without_last (map (frame_at values pending) (below ++ r ∷ [])) ≡ map (frame_at values pending) below
  pushed below r = ap without_last (map_more (frame_at values pending) below (r ∷ [])) ∙ without_last_is (map (frame_at values pending) below) (frame_at values pending r)

  front : (below : List Record) (k : Kind) (r : Running) (w : Window) → NoneUnder k below → without_last (map (frame_at values pending) (below ++ tops (record { kind = k; running = r; window = w }))) ≡ map (frame_at values pending) below
  front below Missing r w n = subst (λ below. without_last (map (frame_at values pending) (below ++ [])) ≡ map (frame_at values pending) below) (sym n) refl
  front below Lua r w n = pushed below (record { kind = Lua; running = r; window = w })
  front below Pcall r w n = pushed below (record { kind = Pcall; running = r; window = w })
  front below (Xpcall h) r w n = pushed below (record { kind = Xpcall h; running = r; window = w })
  front below Handler r w n = pushed below (record { kind = Handler; running = r; window = w })
  front below (Closing e) r w n = pushed below (record { kind = Closing e; running = r; window = w })

  size_is : (w : Window) → IsWithin (length values) (length pending) w → w.size ≡ length (registers_at values w)
  size_is w i =
      let a = length-append (part w.base w.kept values) (blank (w.size - w.kept)) in
      let b = i.kept in
      let c = i.end in
      let d = length_part w.base w.kept values (omega (arith, b, c)) in
      let e = length_blank (w.size - w.kept) in
      omega (arith, a, b, d, e)

  state_read : (k : Kind) (r : Running) (w : Window) → IsWithin (length values) (length pending) w → state_by k r w ≡ kept_state (Some (frame_in values pending k r w))
  state_read Lua r w i = ap (λ (n : ℕ). Some (state n)) (size_is w i)
    where
      state : ℕ → LuaState
      state n = record { function = r.function; wait = r.wait; pc = r.pc; size = n }
  state_read _ r w i = refl

last_below : (a : Inside) (s : KeptStack) → shown a ≡ s → stands a → last (without_last s.frames) ≡ option_map (frame_at a.values.items a.pending.items) (slice_get a.below.items (length a.below.items - 1))
last_below a s v i =
    let F = frame_at a.values.items a.pending.items in
    ap (λ (s : KeptStack). last (without_last s.frames)) (sym v)
    ∙ ap last (front a.values.items a.pending.items a.below.items a.top.kind a.top.running a.top.window i.none)
    ∙ last_got (map F a.below.items)
    ∙ ap (λ n. slice_get (map F a.below.items) (n - 1)) (length-map a.below.items F)
    ∙ get_map F a.below.items (length a.below.items - 1)

pub none_below : (a : Inside) (s : KeptStack) → shown a ≡ s → stands a → length a.below.items ≡ 0 → None ≡ kept_state (last (without_last s.frames))
none_below a s v i e = sym (ap kept_state (last_below a s v i) ∙ ap (λ xs. kept_state (option_map (frame_at a.values.items a.pending.items) (slice_get xs (length xs - 1)))) (empty a.below.items e))
  where
    empty : (xs : List Record) → length xs ≡ 0 → xs ≡ []
    empty [] e = refl
    empty (x ∷ xs) e = absurd (omega (arith, e))

pub one_below : (a : Inside) (s : KeptStack) (r : Record) → shown a ≡ s → stands a → slice_get a.below.items (length a.below.items - 1) ≡ Some r → state_in (Some r) ≡ kept_state (last (without_last s.frames))
one_below a s r v i e =
    let w = within_at a (length a.below.items - 1) r i (sym (found_below a.below.items (length a.below.items - 1) r a.top e)) in
    state_read a.values.items a.pending.items r.kind r.running r.window w
    ∙ ap (λ o. kept_state (option_map (frame_at a.values.items a.pending.items) o)) (sym e)
    ∙ ap kept_state (sym (last_below a s v i))
