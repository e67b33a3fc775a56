use Rattle.std.proofs.Common.{[], ◌∷◌, ◌++◌, length}
use Rattle.int_core.specs.Value.{nil}
use Rattle.machine_core.specs.World.{for_close}
use Rattle.machine_core.specs.Text.{read, written}
use Rattle.machine_core.specs.FrameRows.{by_asking, expand_by}
use Rattle.lua_heap.specs.Reading.{value as meant}
use Rattle.move_laws.proofs.Rows.{first, safe_after}
use Rattle.machine_returns.proofs.Tops.{can_see, can_close}
use Rattle.machine_returns.proofs.Closed.{close_text, names_close, seen_some, seen_none, where_ok}
use Rattle.machine_returns.proofs.closing.go_on_closing.Goals as goal

pub see_pending-requires : goal.see_pending-requires
see_pending-requires c = can_see c.args.world.now c.requires.at.place c.args.register c.requires.solid c.requires.at.is

pub pass_over-requires-clause-safe : goal.pass_over-requires-clause-safe
pass_over-requires-clause-safe c =
    let k = c.requires.safe in
    record {
      when = k.when;
      env = k.env ++ [];
      safe = safe_after (λ v s. expand_by k.when (close_text c.args.register v s)) k.safe (seen_none c.args.world.now c.args.register c.see_pending.result c.see_pending.ensures c.in_default.is k.env);
    }

pub returns-in_default-clause-leads : goal.returns-in_default-clause-leads
returns-in_default-clause-leads c = λ env.
    first (λ v s. expand_by by_asking (close_text c.args.register v s)) (seen_none c.args.world.now c.args.register c.see_pending.result c.see_pending.ensures c.in_default.is env) (c.pass_over.ensures.leads by_asking (env ++ []))

pub ask_to_close-requires-clause-ready : goal.ask_to_close-requires-clause-ready
ask_to_close-requires-clause-ready c = can_close c.args.world.now c.requires.at.place c.args.register c.requires.solid c.requires.at.is

pub returns-clause-leads : goal.returns-clause-leads
returns-clause-leads c =
    let W = c.args.world.now in
    let v = c.in-Some.v in
    where_ok c.ask_to_close.result c.ask_to_close.ensures.leads (λ ending asks env.
    first (λ v s. expand_by by_asking (close_text c.args.register v s)) (seen_some W c.args.register c.see_pending.result v c.see_pending.ensures c.in-Some.is env)
    (asks.leads (env ++ meant W.strings v ∷ []) (read (length env)) (written nil) (written nil) for_close (names_close W v env c.args.register)))
