-- A frame that waits for a primitive stands where it stood, and what is on top of a world.
use Rattle.std.proofs.Common.{◌≡◌, ℕ, List, [], ◌∷◌, Option, Some, refl, ap, sym, ◌∙◌, Bool, true, false}
use Rattle.int_core.specs.Value.{Value, bind, last}
use Rattle.machine_core.specs.World.{Wait, LuaFrame, lua, World, Stack, Place, place_of, put_top}
use Rattle.machine_core.specs.Text.{cut_from, drop_pending, read}
use Rattle.machine_core.specs.Moves.{Made, made, TopShape, lua_top, see_top, top_now, top_shape, with_own}
use Rattle.table_core.specs.declared.value.Value.{Value as Kept}
use Rattle.lua_stack.specs.declared.frame.Wait.{Wait as KeptWait}
use Rattle.lua_stack.specs.Frames.{given_up, wait_of, with_wait}
use Rattle.lua_heap.specs.declared.world.World.{World as Memory}
use Rattle.lua_heap.specs.Plain.{plain}
use Rattle.lua_heap.specs.Reading.{value}
use Rattle.move_laws.specs.Memory.{Makes}
use Rattle.move_laws.proofs.Places.{place_is}
use Rattle.move_laws.proofs.Running.{place_put, with_top}
use Rattle.machine_calls.specs.declared.preparing.Prepared.TheVariants.{GivenUp}
use Rattle.machine_calls.specs.Preparing.{ReadyFor}
use Rattle.machine_call_rows.specs.Rows.{IsWaitOfCall}
use Rattle.running_frame.specs.Here.{is_none}
use Rattle.machine_library_calls.specs.Calls.{wait_by}

-- the frame has given its registers up, and waits

abbrev pub waiting_top : Memory → KeptWait → (register : ℕ) → Place → LuaFrame
waiting_top W wait register at = with_wait (wait_of (value W.strings) wait) (given_up register at.function.code.own.stack at.top)

abbrev pub waiting_place : Memory → KeptWait → (register : ℕ) → Place → Place
waiting_place W wait register at = with_top at (waiting_top W wait register at)

own_put : (V : World) (at : Place) (w : Wait Value) (register : ℕ) (env : List Value)
    → with_own V at w (drop_pending register ∷ cut_from register ∷ []) env ≡ put_top V at.stack (lua (with_wait w (given_up register at.function.code.own.stack at.top)))
unfolding with_own
own_put V at w register env = refl

pub ready_place : (old ready : Memory) (at : Place) (wait : KeptWait) (register : ℕ) → place_of (plain old 0) ≡ Some at → ReadyFor old ready wait (GivenUp register)
    → place_of (plain ready 0) ≡ Some (waiting_place old wait register at)
ready_place old ready at wait register e r =
    ap place_of (sym (r.is at e [] (read 0) tt 0) ∙ own_put (plain old 0) at (wait_of (value old.strings) wait) register [])
    ∙ place_put (plain old 0) at (waiting_top old wait register at) e refl

-- it waits, and not for nothing

pub is_wait : (iterates : Bool) → IsWaitOfCall iterates (wait_by iterates)
is_wait true = record { is = λ f env. refl; held = λ texts. tt }
is_wait false = record { is = λ f env. refl; held = λ texts. tt }

pub same_wait : (f g : Kept → Value) (iterates : Bool) (one two : KeptWait) → IsWaitOfCall iterates one → IsWaitOfCall iterates two → wait_of f one ≡ wait_of g two
same_wait f g iterates one two i j = sym (i.is f []) ∙ j.is g []

pub same_by : (f g : Kept → Value) (iterates : Bool) → wait_of f (wait_by iterates) ≡ wait_of g (wait_by iterates)
same_by f g true = refl
same_by f g false = refl

pub waits_for_some : (f : Kept → Value) (iterates : Bool) (wait : KeptWait) → IsWaitOfCall iterates wait → is_none (wait_of f wait) ≡ false
waits_for_some f true wait i = ap is_none (sym (i.is f []))
waits_for_some f false wait i = ap is_none (sym (i.is f []))

-- a Lua frame is on top

abbrev pub top_in : World → Option Stack → Option TopShape
top_in V o = bind o (λ s. Some (top_shape V (last s.frames)))

top_is : (V : World) (at : Place) → place_of V ≡ Some at → top_now V ≡ Some lua_top
top_is V at e = let p = place_is V at e in ap (top_in V) p.stack ∙ ap (λ o. Some (top_shape V o)) p.top

abbrev pub told_top : World → Option TopShape → Option (Made TopShape)
told_top V o = bind o (λ top. made V [] top)

pub sees : (W : Memory) (at : Place) → ((fuel : ℕ) → place_of (plain W fuel) ≡ Some at) → (env : List Value) → Makes W W see_top env [] lua_top
sees W at e env = record { is = λ fuel. ap (told_top (plain W fuel)) (top_is (plain W fuel) at (e fuel)) }
