-- Coroutines that begin.
use Rattle.std.proofs.Common.{◌≡◌, ℕ, List, Some, refl, true, false}
use Rattle.std.specs.Prelude.{slice_get}
use Rattle.int_core.specs.Operations.{is_function}
use Rattle.machine_core.specs.World.{fresh}
use Rattle.machine_sound.specs.Sound.{CoroutineOk, sizes}
use Rattle.machine_sound.proofs.Lists.{get_map, get_there}
use Rattle.table_core.specs.declared.value.CoroId.{CoroId}
use Rattle.table_core.specs.declared.value.FuncId.{FuncId}
use Rattle.table_core.specs.declared.value.Value.{Value as Kept}
use Rattle.table_core.specs.declared.value.Value.TheVariants.{Prim, Func}
use Rattle.lua_heap.specs.declared.world.Coro.TheVariants.{Fresh}
use Rattle.lua_heap.specs.declared.world.World.{World as Memory}
use Rattle.lua_heap.specs.Reading.{value}
use Rattle.lua_heap.specs.Plain.{coroutine, plain}
use Rattle.move_laws.specs.Memory.{IsSound}
use Rattle.machine_calls.specs.Entering.{HasFunction}

body_ok : {W : Memory} (s : IsSound W) (co : CoroId) (body : Kept) → slice_get W.coros.objects co.0 ≡ Some (Fresh body) → CoroutineOk (sizes s.primitives (plain W 0)) (fresh (value W.strings body))
body_ok {W} s co body e = s.sound.solid.coroutines co.0 (fresh (value W.strings body)) (get_map (coroutine W.strings) W.coros.objects co.0 (Fresh body) e)

no_true : false ≡ true → ⊥
no_true e = cc

one_of_both : (texts : List (List ℕ)) (v : Kept) → is_function (value texts v) ≡ true → ((id : FuncId) → v ≡ Func id → ⊥) → ((n : ℕ) → v ≡ Prim n → ⊥) → ⊥
one_of_both texts (Prim n) e f p = p n refl
one_of_both texts (Func id) e f p = f id refl
one_of_both texts _ e f p = no_true e

-- the body of a coroutine of a sound world is a Lua function or a primitive
pub body_is_function : {W : Memory} → IsSound W → (co : CoroId) (body : Kept) → slice_get W.coros.objects co.0 ≡ Some (Fresh body) → ((id : FuncId) → body ≡ Func id → ⊥) → ((n : ℕ) → body ≡ Prim n → ⊥) → ⊥
body_is_function {W} s co body e f p = one_of_both W.strings body (body_ok s co body e).1 f p

-- and the Lua function is there
pub function_there : {W : Memory} → IsSound W → (co : CoroId) (id : FuncId) → slice_get W.coros.objects co.0 ≡ Some (Fresh (Func id)) → HasFunction W id.0
function_there {W} s co id e =
    let f = get_there (plain W 0).functions id.0 (body_ok s co (Func id) e).0 in
    record { function = f.0; is = f.1; checked = (s.sound.solid.functions id.0 f.0 f.1).code }
