-- Where the frame on top stands, whatever is written into registers: the function and the place of each Lua frame stay.
use Rattle.std.proofs.Common.{◌≡◌, ℕ, zero, suc, List, [], ◌∷◌, Option, Some, None, refl, ap, sym, ◌∙◌}
use Rattle.std.specs.Prelude.{◌-◌, length, map, slice_get, slice_set}
use Rattle.std.specs.Option.{option_map}
use Rattle.int_core.specs.Value.{Value, bind, last}
use Rattle.machine_core.specs.World.{Function, Cell, closed, open_at, LuaFrame, lua_frame, Frame, lua, pcall, xpcall, handler, closing, Coroutine, suspended, in_progress, normal, running_frames, with_frames, World, Stack, Place, place_of, write_in_frame, write_in_coroutine, write_cell}
use Rattle.machine_sound.proofs.Lists.{bind_at, bind_some, map_set, some_is}
use Rattle.lua_heap.specs.declared.world.World.{World as Memory}
use Rattle.lua_heap.specs.Plain.{plain}
use Rattle.move_laws.specs.Memory.{StandsAt}
use Rattle.lua_stack.proofs.Told.{last_map}

-- the place in its code of the Lua frame on top
abbrev pub pc_of : World → Option ℕ
pc_of W = bind (place_of W) (λ p. Some p.top.own.pc)

-- which hangs on these alone

abbrev seen_of : Frame → Option (ℕ × ℕ)
seen_of (lua f) = Some (f.function, f.own.pc)
seen_of pcall = None
seen_of (xpcall h) = None
seen_of handler = None
seen_of (closing e left) = None

abbrev seen_in : Coroutine → Option (List (Option (ℕ × ℕ)))
seen_in c = option_map (map seen_of) (running_frames c)

abbrev same_part : {A : Type 0} → Option A → Option A
same_part o = o

abbrev place_seen : List Function → ℕ × ℕ → Option ℕ
place_seen functions x = bind (slice_get functions x.0) (λ _. Some x.1)

abbrev top_seen : List Function → Option (Option (ℕ × ℕ)) → Option ℕ
top_seen functions o = bind (bind o same_part) (place_seen functions)

abbrev coroutine_seen : List Function → Option (Option (List (Option (ℕ × ℕ)))) → Option ℕ
coroutine_seen functions o = bind (bind o same_part) (λ shapes. top_seen functions (last shapes))

abbrev pc_by : List Function → List ℕ → List (Option (List (Option (ℕ × ℕ)))) → Option ℕ
pc_by functions chain seen = bind (last chain) (λ co. coroutine_seen functions (slice_get seen co))

get_of_map : {A B : Type 0} (f : A → B) (xs : List A) (i : ℕ) → slice_get (map f xs) i ≡ option_map f (slice_get xs i)
get_of_map f [] i = refl
get_of_map f (x ∷ xs) zero = refl
get_of_map f (x ∷ xs) (suc i) = get_of_map f xs i

abbrev stack_in : ℕ → List Frame → Stack
stack_in co frames = record { coroutine = co; frames = frames }

abbrev place_in : Stack → LuaFrame → Function → Place
place_in s top f = record { stack = s; number = length s.frames - 1; top = top; function = f }

abbrev place_under : List Function → Stack → Option Frame → Option Place
place_under functions s o = bind (bind o lua_frame) (λ top. bind (slice_get functions top.function) (λ f. Some (place_in s top f)))

abbrev place_with : List Function → Option Stack → Option Place
place_with functions o = bind o (λ s. place_under functions s (last s.frames))

abbrev stack_with : ℕ → Option Coroutine → Option Stack
stack_with co o = bind (bind o running_frames) (λ frames. Some (stack_in co frames))

abbrev pc_in : Option Place → Option ℕ
pc_in o = bind o (λ p. Some p.top.own.pc)

on_top : (functions : List Function) (s : Stack) (o : Option Frame) → pc_in (place_under functions s o) ≡ top_seen functions (option_map seen_of o)
on_top functions s (Some (lua f)) = by (slice_get functions f.function)
  where
    by : (o : Option Function) → pc_in (bind o (λ g. Some (place_in s f g))) ≡ bind o (λ _. Some f.own.pc)
    by None = refl
    by (Some g) = refl
on_top functions s _ = refl

in_coroutine : (functions : List Function) (co : ℕ) (o : Option Coroutine) → pc_in (place_with functions (stack_with co o)) ≡ coroutine_seen functions (option_map seen_in o)
in_coroutine functions co (Some (in_progress fs)) = on_top functions (stack_in co fs) (last fs) ∙ ap (top_seen functions) (sym (last_map seen_of fs))
in_coroutine functions co _ = refl

pc_is : (W : World) → pc_of W ≡ pc_by W.functions W.chain (map seen_in W.coroutines)
pc_is W = by (last W.chain)
  where
    by : (o : Option ℕ) → pc_in (place_with W.functions (bind o (λ co. stack_with co (slice_get W.coroutines co)))) ≡ bind o (λ co. coroutine_seen W.functions (slice_get (map seen_in W.coroutines) co))
    by None = refl
    by (Some co) = in_coroutine W.functions co (slice_get W.coroutines co) ∙ ap (coroutine_seen W.functions) (sym (get_of_map seen_in W.coroutines co))

-- a register is written in some frame

seen_same : (register : ℕ) (v : Value) (f : Frame) → seen_of (write_in_frame register v f) ≡ seen_of f
seen_same register v (lua f) = refl
seen_same register v _ = refl

abbrev written_in : ℕ → ℕ → Value → Coroutine → List Frame → Option Frame → Coroutine
written_in frame register v c fs o = elim (bind o (λ f. Some (slice_set fs frame (write_in_frame register v f)))) [ None ↦ c | Some gs ↦ with_frames c gs ]

seen_written : (frame register : ℕ) (v : Value) (c : Coroutine) → seen_in (write_in_coroutine frame register v c) ≡ seen_in c
seen_written frame register v (suspended fs) = by (slice_get fs frame)
  where
    by : (o : Option Frame) → seen_in (written_in frame register v (suspended fs) fs o) ≡ None
    by None = refl
    by (Some f) = refl
seen_written frame register v (in_progress fs) = by (slice_get fs frame) refl
  where
    by : (o : Option Frame) → slice_get fs frame ≡ o → seen_in (written_in frame register v (in_progress fs) fs o) ≡ Some (map seen_of fs)
    by None q = refl
    by (Some f) q = ap (λ l. Some l) (map_set seen_of fs frame f (write_in_frame register v f) q (seen_same register v f))
seen_written frame register v (normal fs) = by (slice_get fs frame)
  where
    by : (o : Option Frame) → seen_in (written_in frame register v (normal fs) fs o) ≡ None
    by None = refl
    by (Some f) = refl
seen_written frame register v _ = refl

abbrev with_written : World → ℕ → ℕ → ℕ → Value → Option Coroutine → World
with_written W co frame register v o = elim o [ None ↦ W | Some c ↦ record W { coroutines = slice_set W.coroutines co (write_in_coroutine frame register v c) } ]

open_written : (W : World) (co frame register : ℕ) (v : Value) (o : Option Coroutine) → slice_get W.coroutines co ≡ o → pc_of (with_written W co frame register v o) ≡ pc_of W
open_written W co frame register v None q = refl
open_written W co frame register v (Some c) q =
    pc_is (record W { coroutines = slice_set W.coroutines co (write_in_coroutine frame register v c) })
    ∙ ap (pc_by W.functions W.chain) (map_set seen_in W.coroutines co c (write_in_coroutine frame register v c) q (seen_written frame register v c))
    ∙ sym (pc_is W)

pub pc_written : (W : World) (n : ℕ) (c : Cell) (v : Value) → pc_of (write_cell W n c v) ≡ pc_of W
unfolding write_cell
pc_written W n (closed w) v = refl
pc_written W n (open_at co frame register) v = open_written W co frame register v (slice_get W.coroutines co) refl

pub stands_as : (old new : Memory) (pc : ℕ) → pc_of (plain new 0) ≡ pc_of (plain old 0) → StandsAt old pc → StandsAt new pc
stands_as old new pc e s =
    let was : pc_of (plain old 0) ≡ Some pc = bind_at (λ (p : Place). Some p.top.own.pc) (place_of (plain old 0)) s.place s.is ∙ ap (λ n. Some n) s.at in
    let b = bind_some (λ (p : Place). Some p.top.own.pc) (place_of (plain new 0)) pc (e ∙ was) in
    record { place = b.0; is = b.1; at = some_is {o = Some b.0.top.own.pc} refl b.2 }
