-- Rows that pay a unit of the budget, and steps with what is read before.
use Rattle.std.proofs.Common.{◌≡◌, ℕ, zero, suc, List, [], ◌∷◌, ◌++◌, length, Option, Some, None, ap, sym, ◌∙◌, Bool, true, false}
use Rattle.std.specs.Prelude.{cond}
use Rattle.int_core.specs.Value.{Value}
use Rattle.machine_core.specs.World.{World, place_of}
use Rattle.machine_core.specs.Text.{pay}
use Rattle.machine_core.specs.Moves.{Made, made, Move, Told, move, outside, do_outside, Ending, go, spent, Row, act, stop, ends, run}
use Rattle.machine_core.specs.FrameRows.{quick_row}
use Rattle.machine_core.specs.MachineStep.{from_world}
use Rattle.machine_sound.proofs.Lists.{bind_at}
use Rattle.lua_heap.specs.declared.world.World.{World as Memory}
use Rattle.lua_heap.specs.Plain.{plain}
use Rattle.move_laws.specs.Memory.{HasFrame, IsSafe, Leads, Makes, Steps}
use Rattle.move_laws.proofs.Rows.{act_is}
use Rattle.machine_moves.specs.Moves.{Pays}

pay_is : (W : Memory) (fuel : ℕ) (env : List Value) → HasFrame W → move (outside pay) env (plain W (suc fuel)) ≡ made (plain W fuel) [] true
pay_is W fuel env h = bind_at (do_outside pay env (plain W (suc fuel))) (place_of (plain W (suc fuel))) h.place h.is

-- what follows a unit that is paid is as safe, whatever is left
pub safe_paid : {W : Memory} {env : List Value} (k : ℕ → Row) → HasFrame W → IsSafe (quick_row pay k) env W → IsSafe (k (length env)) (env ++ []) W
safe_paid {W} {env} k h s = record {
  never = λ fuel e. s.never (suc fuel) (act_is (outside pay) (λ n paid. cond paid (k n) (stop spent)) env (plain W (suc fuel)) (plain W fuel) [] true (pay_is W fuel env h) ∙ e);
}

pub steps_paid : {W V : Memory} {env : List Value} {fuel left : ℕ} (k : ℕ → Row) → HasFrame W → Pays fuel left true → Leads (k (length env)) (env ++ []) W V go → Steps (quick_row pay k) env W fuel V left go
steps_paid {W} {V} {env} {fuel} {left} k h p l = record {
  is = ap (from_world (plain W fuel)) (act_is (outside pay) (λ n paid. cond paid (k n) (stop spent)) env (plain W fuel) (plain W left) [] true (p W env h) ∙ l.is left);
}

-- where no unit is left, nothing changes

abbrev world_of : World → Option (Made Bool) → World
world_of W o = elim o [ None ↦ W | Some d ↦ d.world ]

abbrev told_of : Option (Made Bool) → Bool
told_of o = elim o [ None ↦ false | Some d ↦ d.told ]

not_true : (true ≡ false) → ⊥
not_true e = absurd (cc)

spent_same : (W : Memory) (fuel left : ℕ) → HasFrame W → Pays fuel left false → plain W fuel ≡ plain W left
spent_same W zero left h p = ap (world_of (plain W 0)) (sym (bind_at (do_outside pay [] (plain W 0)) (place_of (plain W 0)) h.place h.is) ∙ p W [] h)
spent_same W (suc fuel) left h p = absurd (not_true (ap told_of (sym (pay_is W fuel [] h) ∙ p W [] h)))

pub steps_spent : {W : Memory} {env : List Value} {fuel left : ℕ} (k : ℕ → Row) → HasFrame W → Pays fuel left false → Steps (quick_row pay k) env W fuel W left spent
steps_spent {W} {env} {fuel} {left} k h p = record {
  is =
      ap (from_world (plain W fuel)) (act_is (outside pay) (λ n paid. cond paid (k n) (stop spent)) env (plain W fuel) (plain W left) [] false (p W env h))
      ∙ ap (ends spent) (spent_same W fuel left h p);
}

-- a step goes on with what its row has read
pub steps_read : {W V : Memory} {m : Move} {env vs : List Value} {told : Told m} {fuel left : ℕ} {ending : Ending} (k : ℕ → Told m → Row)
    → Makes W W m env vs told → Steps (k (length env) told) (env ++ vs) W fuel V left ending → Steps (act m k) env W fuel V left ending
steps_read {W} {V} {m} {env} {vs} {told} {fuel} k h s = record { is = ap (from_world (plain W fuel)) (act_is m k env (plain W fuel) (plain W fuel) vs told (h.is fuel)) ∙ s.is }

-- or with that to which its row comes
pub steps_as : {W V : Memory} {r q : Row} {env vs : List Value} {fuel left : ℕ} {ending : Ending} → run r env (plain W fuel) ≡ run q vs (plain W fuel) → Steps q vs W fuel V left ending → Steps r env W fuel V left ending
steps_as {W} {V} {r} {q} {env} {vs} {fuel} h s = record { is = ap (from_world (plain W fuel)) h ∙ s.is }
