use Rattle.std.proofs.Common.{◌≡◌, ℕ, [], length, sym, subst}
use Rattle.std.specs.Prelude.{IfNone, IfSome}
use Rattle.library_rows.specs.Library.{all_entries}
use Rattle.lua_heap.specs.declared.world.World.{World as Memory}
use Rattle.lua_heap.specs.Plain.{plain}
use Rattle.machine_core.specs.Moves.{Row}
use Rattle.machine_focus.specs.Focus.{Reaches}
use Rattle.step_laws.proofs.Ready.{go_has_frame}
use Rattle.frame_calls.proofs.Chained.{reaches_none}
use Rattle.running_frame.proofs.taking.is_taken.Goals as goal

pub is_running-runs-requires : goal.is_running-runs-requires
is_running-runs-requires c = go_has_frame (length all_entries) c.args.world.now c.requires.ready

pub returns-then-runs-clause-reaches : goal.returns-then-runs-clause-reaches
returns-then-runs-clause-reaches c = λ rows fuel. reaches_none rows (plain c.args.world.now fuel)

pub returns-then-runs-clause-still : goal.returns-then-runs-clause-still
returns-then-runs-clause-still c = c.is_still.ensures

pub returns-then-runs-clause-order : goal.returns-then-runs-clause-order
returns-then-runs-clause-order c = c.requires.ready.order

pub returns-in-Some-clause-reaches : goal.returns-in-Some-clause-reaches
returns-in-Some-clause-reaches c =
    subst (λ o. IfSome o (λ _. (rows : ℕ → Row) (fuel : ℕ) → Reaches rows (plain c.args.world.now fuel) (plain c.take_moving.new.world fuel))) c.in-Some.is c.take_moving.ensures.reaches

pub returns-in-Some-clause-still : goal.returns-in-Some-clause-still
returns-in-Some-clause-still c = λ yes. subst (λ o. IfSome o (λ _. c.take_moving.new.world.moving.items ≡ [])) c.in-Some.is c.take_moving.ensures.still

pub returns-in-None-clause-reaches : goal.returns-in-None-clause-reaches
returns-in-None-clause-reaches c =
    let kept = subst (λ o. IfNone o (c.take_moving.new.world ≡ c.args.world.now)) c.in-None.is c.take_moving.ensures.kept in
    λ rows fuel. subst (λ (M : Memory). Reaches rows (plain c.args.world.now fuel) (plain M fuel)) (sym kept) (reaches_none rows (plain c.args.world.now fuel))
