-- What a Lua frame does by itself calls no function of the libraries, so it is the same whatever these do.
use Rattle.std.proofs.Common.{ℕ, zero, suc, ◌≡◌, refl, sym, ◌∙◌, length}
use Rattle.library_rows.specs.Library.{all_entries}
use Rattle.machine_core.specs.World.{World}
use Rattle.machine_core.specs.Moves.{Ending, go, returned, asks, calls_primitive, raised, unwinding, spent, main_yielded, main_returned, main_failed, Row, stop, Outcome, trapped, ends}
use Rattle.machine_core.specs.MachineStep.{step, steps, and_then}
use Rattle.machine_focus.specs.Focus.{Reaches}
use Rattle.machine_sound.specs.Laws.{PrimitivesSafe}
use Rattle.lua_driver.proofs.Ahead.{ends_stay}

-- rows of which each ends the turn
abbrev pub none_called : ℕ → Row
none_called n = stop spent

pub none_called_safe : PrimitivesSafe (length all_entries) none_called
none_called_safe n l W solid waits = (solid, tt)

module _ (rows : ℕ → Row) where
  further : (n : ℕ) (V : World) → ((e : Ending) (W : World) → steps none_called n e W ≡ ends go V → steps rows n e W ≡ ends go V) → (o : Outcome) → and_then o (steps none_called n) ≡ ends go V → and_then o (steps rows n) ≡ ends go V
  further n V f trapped h = absurd (cc)
  further n V f (ends e W) h = f e W h

  any_steps : (n : ℕ) (V : World) (e : Ending) (W : World) → steps none_called n e W ≡ ends go V → steps rows n e W ≡ ends go V
  any_steps zero V e W h = h
  any_steps (suc n) V (calls_primitive k) W h = absurd (let past : ends spent W ≡ ends go V = sym (ends_stay none_called n spent W refl) ∙ h in cc)
  any_steps (suc n) V go W h = further n V (any_steps n V) (step none_called go W) h
  any_steps (suc n) V returned W h = further n V (any_steps n V) (step none_called returned W) h
  any_steps (suc n) V asks W h = further n V (any_steps n V) (step none_called asks W) h
  any_steps (suc n) V raised W h = further n V (any_steps n V) (step none_called raised W) h
  any_steps (suc n) V unwinding W h = further n V (any_steps n V) (step none_called unwinding W) h
  any_steps (suc n) V spent W h = further n V (any_steps n V) (step none_called spent W) h
  any_steps (suc n) V main_yielded W h = further n V (any_steps n V) (step none_called main_yielded W) h
  any_steps (suc n) V main_returned W h = further n V (any_steps n V) (step none_called main_returned W) h
  any_steps (suc n) V main_failed W h = further n V (any_steps n V) (step none_called main_failed W) h

  pub reaches_by_any : {W V : World} → Reaches none_called W V → Reaches rows W V
  reaches_by_any {W} {V} r = (r.0, any_steps r.0 V go W r.1)
