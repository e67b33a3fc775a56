-- Rows move by move, over worlds in memory.
use Rattle.std.proofs.Common.{◌≡◌, ℕ, List, [], ◌∷◌, ◌++◌, length, Option, Some, None, refl, ap, ◌∙◌, Bool, true, false}
use Rattle.std.specs.Prelude.{ℤ, IsSome, cond}
use Rattle.code_core.specs.declared.instruction.Instruction.{Instruction}
use Rattle.code_core.specs.Check.{at}
use Rattle.int_core.specs.Value.{Value, Shape, bind}
use Rattle.machine_core.specs.World.{World, Place, place_of}
use Rattle.machine_core.specs.Text.{Own, reads, tells, fits}
use Rattle.machine_core.specs.Moves.{Move, Told, made, move, on_own, do_own, move_pc, moved_pc, place_from, with_own, Ending, Row, act, stop, Outcome, trapped, run}
use Rattle.machine_sound.proofs.Lists.{bind_at}
use Rattle.lua_heap.specs.declared.world.World.{World as Memory}
use Rattle.lua_heap.specs.Plain.{plain}
use Rattle.move_laws.proofs.Running.{went}
use Rattle.move_laws.specs.Memory.{CanDo, Makes, Leads, IsSafe}

pub act_is : (m : Move) (k : ℕ → Told m → Row) (env : List Value) (W V : World) (vs : List Value) (t : Told m) → move m env W ≡ made V vs t → run (act m k) env W ≡ run (k (length env) t) (env ++ vs) V
act_is m k env W V vs t e = ap (λ o. elim o as (λ _. Outcome) [ None ↦ trapped | Some d ↦ run (k (length env) d.told) (env ++ d.values) d.world ]) e

-- a move is made, and the row goes on
pub first : {old new last : Memory} {m : Move} {env vs : List Value} {told : Told m} {ending : Ending} (k : ℕ → Told m → Row)
    → Makes old new m env vs told → Leads (k (length env) told) (env ++ vs) new last ending → Leads (act m k) env old last ending
first {old} {new} {last} {m} {env} {vs} {told} k h r = record { is = λ fuel. act_is m k env (plain old fuel) (plain new fuel) vs told (h.is fuel) ∙ r.is fuel }

pub ended : {W : Memory} {env : List Value} {ending : Ending} → Leads (stop ending) env W W ending
ended = record { is = λ fuel. refl }

-- what follows a move that was made is safe again
pub safe_after : {old new : Memory} {m : Move} {env vs : List Value} {told : Told m} (k : ℕ → Told m → Row) → IsSafe (act m k) env old → Makes old new m env vs told → IsSafe (k (length env) told) (env ++ vs) new
safe_after {old} {new} {m} {env} {vs} {told} k s h = record { never = λ fuel e. s.never fuel (act_is m k env (plain old fuel) (plain new fuel) vs told (h.is fuel) ∙ e) }

-- a move of the frame on top that is safe can be done
pub can_do : {W : Memory} {env : List Value} (m : Own) (k : ℕ → Shape → Row) → IsSafe (act (on_own m) k) env W → CanDo W m
can_do {W} {env} m k s = by (place_of (plain W 0)) refl
  where
    trap : move (on_own m) env (plain W 0) ≡ None → ⊥
    trap e = s.never 0 (ap (λ o. elim o as (λ _. Outcome) [ None ↦ trapped | Some d ↦ run (k (length env) d.told) (env ++ d.values) d.world ]) e)

    there : (at : Place) → place_of (plain W 0) ≡ Some at → (b : Bool) → fits m at.function.code at.top.own ≡ b → CanDo W m
    there at e true f = record { place = at; is = e; fits = f }
    there at e false f = absurd (trap (bind_at (do_own m env (plain W 0)) (place_of (plain W 0)) at e
        ∙ ap (λ b. cond b (made (with_own (plain W 0) at at.top.wait (m ∷ []) env) (reads m at.function.code env at.top.own) (tells m at.function.code env at.top.own)) None) f))

    by : (o : Option Place) → place_of (plain W 0) ≡ o → CanDo W m
    by None e = absurd (trap (ap (λ o. bind o (do_own m env (plain W 0))) e))
    by (Some at) e = there at e (fits m at.function.code at.top.own) refl

-- where a safe row goes on is a place of the code
pub can_go : {W : Memory} {env : List Value} (z : ℤ) (k : ℕ → Unit {0} → Row) (pc : ℕ) (p : Place) → IsSafe (act (move_pc z) k) env W → place_of (plain W 0) ≡ Some p → place_from p.top.own.pc z ≡ Some pc → IsSome (at p.function.code pc)
can_go {W} {env} z k pc p s e f = by (at p.function.code pc) refl
  where
    by : (o : Option Instruction) → at p.function.code pc ≡ o → IsSome o
    by (Some i) q = refl
    by None q = absurd (s.never 0 (ap (λ o. elim o as (λ _. Outcome) [ None ↦ trapped | Some d ↦ run (k (length env) d.told) (env ++ d.values) d.world ])
        (bind_at (λ p. moved_pc (plain W 0) p z) (place_of (plain W 0)) p e
        ∙ ap (λ o. bind o (λ pc. bind (at p.function.code pc) (λ _. went (plain W 0) p pc))) f
        ∙ ap (λ o. bind o (λ _. went (plain W 0) p pc)) q)))
