use Rattle.std.proofs.Common.{◌≡◌, sym, subst, rules}
use Rattle.running_frame.specs.Functions.{code_in}
use Rattle.lua_stack.specs.Frames.{KeptStack}
use Rattle.machine_loop.proofs.Alike.{closes_nothing_still}
use Rattle.machine_loop.proofs.Recalled.{still_hold}
use Rattle.frame_calls.specs.Standing.{RunsAt}
use Rattle.running_frame.specs.Advancing.{Advances}
use Rattle.running_frame.proofs.Advanced.{advances_none, advances_then, advances_with}
use Rattle.running_frame.proofs.stack.run_rounds.Goals as goal

pub loop-init : goal.loop-init
loop-init g c = record {
  goes = advances_none g.g c.args.stack.now c.args.tables.now.objects c.args.cells.now.objects c.args.budget.now;
  runs = c.requires.0;
  known = record { first = tt; second = tt; third = tt };
}

pub go_between-requires : goal.go_between-requires
go_between-requires g c = (
  record { fuel = c.loop.budget; runs = rw (c.closure_of-closure.ensures.words, c.closure_of-closure.ensures.constants, c.closure_of-closure.ensures.upvalues) c.loop.invariant.runs },
  (
    closes_nothing_still g.g.around c.args.cells.now.objects c.loop.cells.objects c.loop.invariant.goes.opened c.args.closed c.requires.1.0,
    (c.requires.1.1.0, (c.requires.1.1.1, rw c.closure_of-closure.ensures.upvalues c.loop.invariant.known)),
  ),
)

pub returns-in_default-clause-goes : goal.returns-in_default-clause-goes
returns-in_default-clause-goes g c =
    let kept : c.go_between.new.stack ≡ c.loop.stack = search rules in
    subst (λ (s : KeptStack). Advances g.g c.args.stack.now s c.args.tables.now.objects c.loop.tables.objects c.args.cells.now.objects c.loop.cells.objects c.args.budget.now c.loop.budget) (sym kept) c.loop.invariant.goes

pub returns-in_default-clause-runs : goal.returns-in_default-clause-runs
returns-in_default-clause-runs g c =
    let kept : c.go_between.new.stack ≡ c.loop.stack = search rules in
    subst (λ (s : KeptStack). RunsAt g.g (code_in c.args.function.object.now c.args.function.proto.now c.args.around.strings.now) s c.loop.tables.objects c.loop.cells.objects c.loop.budget c.loop.pc) (sym kept) c.loop.invariant.runs

pub run_once-at-requires : goal.run_once-at-requires
run_once-at-requires g c =
    let o = rw (c.closure_of-closure.ensures.words, c.closure_of-closure.ensures.constants, c.closure_of-closure.ensures.upvalues) at c.in-Some.ensures.goes in
    (o.runs c.loop.budget c.loop.invariant.runs, rw c.closure_of-closure.ensures.upvalues at c.go_between.ensures.known)

pub loop-preserved : goal.loop-preserved
loop-preserved g c =
    let r = c.run_once-at.ensures in
    let o = rw (c.closure_of-closure.ensures.words, c.closure_of-closure.ensures.constants, c.closure_of-closure.ensures.upvalues) at c.in-Some.ensures.goes in
    let fuel = c.loop.budget in
    record {
      goes = advances_then (advances_then c.loop.invariant.goes (advances_with o fuel c.loop.invariant.runs)) r.goes;
      runs = r.runs;
      known = still_hold g.g.around c.args.function.object.now.cells.items c.loop.cells.objects c.run_once-at.new.cells.objects r.goes.opened c.go_between.new.memo (rw c.closure_of-closure.ensures.upvalues at c.go_between.ensures.known);
    }
