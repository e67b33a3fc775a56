-- What a world is where a row ends well.
use Rattle.std.proofs.Common.{ℕ, Some, None}
use Rattle.machine_core.specs.World.{World}
use Rattle.machine_core.specs.Moves.{lua_top, Ending, go, returned, asks, calls_primitive, raised, unwinding, spent, main_yielded, main_returned, main_failed}
use Rattle.machine_sound.specs.Sound.{Solid}
use Rattle.machine_sound.specs.Safe.{Phase, on_lua, waiting, calling, ended, between, IsPhase, EndsWell, EndIs}
use Rattle.machine_sound.proofs.Held.{lua_settles}

pub end_is : (n : ℕ) (e : Ending) (x : Phase) (W : World) → Solid n W → IsPhase n x W → EndsWell e x → EndIs n e W
end_is n go (on_lua t) W s h k = record { top = t; is_top = h; fits = k }
end_is n go (waiting None) W s h k = absurd k
end_is n go (waiting (Some lua_top)) W s h k = lua_settles n W s h
end_is n go between W s h k = h
end_is n returned (waiting o) W s h k = h.all
end_is n asks (waiting o) W s h k = h.all
end_is n raised (waiting o) W s h k = h.all
end_is n unwinding (waiting o) W s h k = h.all
end_is n (calls_primitive m) (calling j) W s h k = rw k h
end_is n spent x W s h k = tt
end_is n main_yielded ended W s h k = h
end_is n main_returned ended W s h k = h
end_is n main_failed ended W s h k = h
end_is n _ _ W s h k = absurd k
