-- What is known of a sound world, and of one that got a string.
use Rattle.std.proofs.Common.{◌≡◌, ◌<◌, ℕ, List, Some, ap, sym, subst, ◌∙◌, length}
use Rattle.std.specs.Prelude.{slice_get}
use Rattle.std.proofs.lemmas.List.{length-map}
use Rattle.int_core.specs.Value.{known, string, object, a_coroutine}
use Rattle.machine_core.specs.World.{World, stack_of}
use Rattle.machine_sound.specs.Sound.{Valid, sizes}
use Rattle.machine_sound.proofs.Values.{nth_ok}
use Rattle.table_core.specs.declared.value.CoroId.{CoroId}
use Rattle.table_core.specs.declared.value.StrId.{StrId}
use Rattle.table_core.specs.declared.value.Value.TheVariants.{Str}
use Rattle.lua_heap.specs.declared.world.World.{World as Memory}
use Rattle.lua_heap.specs.Cells.{CellsAreListed}
use Rattle.lua_heap.specs.Changes.{Interns}
use Rattle.lua_heap.specs.Reading.{text_or, value}
use Rattle.lua_heap.specs.Plain.{coroutine, plain}
use Rattle.move_laws.specs.Memory.{HasStack, InOrder, IsSound}
use Rattle.lib_coroutine.specs.Arguments.{FirstIs}

-- a coroutine that moves is there
pub coroutine_there : {W : Memory} → IsSound W → (co : CoroId) → FirstIs W (object a_coroutine co.0) → co.0 < length W.coros.objects
coroutine_there {W} s co e =
    let z = sizes s.primitives (plain W 0) in
    let valid : Valid z (object a_coroutine co.0) = subst (Valid z) e (nth_ok (Valid z) tt (plain W 0).moving 0 s.sound.solid.moving) in
    subst (λ n. co.0 < n) (length-map W.coros.objects (coroutine W.strings)) valid

pub interned_same : {old new : Memory} {text : List ℕ} → IsSound old → Interns old new text → (fuel : ℕ) → plain new fuel ≡ plain old fuel
interned_same s i fuel = ap (λ (W : World). record W { fuel = fuel }) (i.plain s.primitives 0 s.sound)

pub interned_runs : {old new : Memory} {text : List ℕ} → IsSound old → Interns old new text → HasStack old → HasStack new
interned_runs {old} {new} s i h = record { stack = h.stack; is = ap stack_of (interned_same s i 0) ∙ h.is }

pub interned_order : {old mid new : Memory} {text : List ℕ} → InOrder old → Interns old mid text → new ≡ record mid { moving = new.moving } → InOrder new
interned_order {old} {mid} {new} o i e =
    let m : InOrder mid = record { codes = i.codes o.codes; listed = subst CellsAreListed (sym i.rest) o.listed } in
    subst InOrder (sym e) (record { codes = m.codes; listed = m.listed })

pub interned_text : (texts : List (List ℕ)) (id : StrId) {bytes : List ℕ} → slice_get texts id.0 ≡ Some bytes → value texts (Str id) ≡ known (string bytes)
interned_text texts id e = ap (λ o. known (string (text_or id.0 o))) e
