use Rattle.std.proofs.Common.{[], ◌∷◌}
use Rattle.int_core.specs.Value.{nil}
use Rattle.machine_core.specs.World.{for_close}
use Rattle.machine_core.specs.Text.{read, written}
use Rattle.machine_core.specs.FrameRows.{at_once, expand}
use Rattle.lua_heap.specs.Reading.{value as meant}
use Rattle.move_laws.proofs.Order.{steps_of}
use Rattle.move_laws.proofs.Rows.{safe_after}
use Rattle.machine_returns.proofs.Tops.{solid_of, can_see, can_close}
use Rattle.machine_returns.proofs.Closed.{close_text, may_so, names_close, seen_some, seen_none, steps_first, where_ok}
use Rattle.machine_returns.proofs.closing.close_variables.Goals as goal

pub see_pending-requires : goal.see_pending-requires
see_pending-requires c = can_see c.args.world.now c.requires.stands.at.place c.args.register (solid_of c.requires.stands.sound) c.requires.stands.at.is

pub pass_over-requires : goal.pass_over-requires
pass_over-requires c =
    record {
      order = c.requires.stands.sound.order;
      at = c.requires.stands.at;
      room = c.requires.stands.room;
      safe = record {
        when = at_once;
        env = [];
        safe = safe_after (λ v s. expand (close_text c.args.register v s)) c.requires.safe (seen_none c.args.world.now c.args.register c.see_pending.result c.see_pending.ensures c.in_default.is []);
      };
    }

pub returns-in_default-clause-steps : goal.returns-in_default-clause-steps
returns-in_default-clause-steps c =
    steps_first (λ v s. expand (close_text c.args.register v s)) (seen_none c.args.world.now c.args.register c.see_pending.result c.see_pending.ensures c.in_default.is [])
    (steps_of c.args.budget.now (λ n. n) (c.pass_over.ensures.leads at_once []))

pub call_to_close-requires-clause-sound : goal.call_to_close-requires-clause-sound
call_to_close-requires-clause-sound c = c.requires.stands.sound

pub call_to_close-requires-clause-ready : goal.call_to_close-requires-clause-ready
call_to_close-requires-clause-ready c = can_close c.args.world.now c.requires.stands.at.place c.args.register (solid_of c.requires.stands.sound) c.requires.stands.at.is

pub call_to_close-requires-clause-safe : goal.call_to_close-requires-clause-safe
call_to_close-requires-clause-safe c =
    let W = c.args.world.now in
    let v = c.in-Some.v in
    may_so (names_close W v [] c.args.register)
    (safe_after (λ v s. expand (close_text c.args.register v s)) c.requires.safe (seen_some W c.args.register c.see_pending.result v c.see_pending.ensures c.in-Some.is [])) tt tt

pub returns-clause-steps : goal.returns-clause-steps
returns-clause-steps c =
    let W = c.args.world.now in
    let v = c.in-Some.v in
    where_ok c.call_to_close.result c.call_to_close.ensures.steps (λ ending calls.
    steps_first (λ v s. expand (close_text c.args.register v s)) (seen_some W c.args.register c.see_pending.result v c.see_pending.ensures c.in-Some.is [])
    (calls.steps (meant W.strings v ∷ []) (read 0) (written nil) (written nil) for_close (names_close W v [] c.args.register)))
