use Rattle.std.proofs.Common.{◌≡◌, sym, subst, rules}
use Rattle.running_frame.specs.Functions.{code_in}
use Rattle.lua_stack.specs.Frames.{KeptStack}
use Rattle.machine_loop.proofs.Recalled.{still_hold}
use Rattle.running_frame.specs.Between.{GoesWith, RunsWith}
use Rattle.frame_calls.specs.Standing.{RunsAt}
use Rattle.running_frame.specs.Advancing.{Advances}
use Rattle.running_frame.proofs.Advanced.{advances_none, advances_then, advances_with}
use Rattle.running_frame.proofs.FoundFields.{over_goes, over_runs}
use Rattle.running_frame.proofs.stack.run_round.Goals as goal

pub loop-round-init : goal.loop-round-init
loop-round-init g c = record { goes = advances_none g.g c.args.stack.now c.args.tables.now.objects c.args.cells.now.objects c.args.budget.now; runs = c.requires.0 }

pub run_once-at-requires : goal.run_once-at-requires
run_once-at-requires g c =
    (c.loop-round.invariant.runs, still_hold g.g.around c.args.function.object.now.cells.items c.args.cells.now.objects c.loop-round.cells.objects c.loop-round.invariant.goes.opened c.args.memo.now c.requires.1.0)

pub returns-then-is_last-clause-goes : goal.returns-then-is_last-clause-goes
returns-then-is_last-clause-goes g c = advances_then c.loop-round.invariant.goes c.run_once-at.ensures.goes

pub read_open-requires : goal.read_open-requires
read_open-requires g c =
    let u = c.run_once-at.new in
    let x : RunsWith g.g (code_in c.args.function.object.now c.args.function.proto.now c.args.around.strings.now) u.stack u.tables.objects u.cells.objects c.run_once-at.result = record { fuel = u.budget; runs = c.run_once-at.ensures.runs } in
    (rw (c.closure_of-closure.ensures.words, c.closure_of-closure.ensures.constants, c.closure_of-closure.ensures.upvalues) (over_runs x), c.requires.1.1)

pub returns-in_default-clause-goes : goal.returns-in_default-clause-goes
returns-in_default-clause-goes g c =
    let kept : c.read_open.new.stack ≡ c.run_once-at.new.stack = search rules in
    subst (λ (s : KeptStack). Advances g.g c.args.stack.now s c.args.tables.now.objects c.run_once-at.new.tables.objects c.args.cells.now.objects c.run_once-at.new.cells.objects c.args.budget.now c.run_once-at.new.budget)
    (sym kept) (advances_then c.loop-round.invariant.goes c.run_once-at.ensures.goes)

pub returns-in_default-clause-runs : goal.returns-in_default-clause-runs
returns-in_default-clause-runs g c =
    let kept : c.read_open.new.stack ≡ c.run_once-at.new.stack = search rules in
    subst (λ (s : KeptStack). RunsAt g.g (code_in c.args.function.object.now c.args.function.proto.now c.args.around.strings.now) s c.run_once-at.new.tables.objects c.run_once-at.new.cells.objects c.run_once-at.new.budget c.run_once-at.result) (sym kept) c.run_once-at.ensures.runs

pub loop-round-preserved : goal.loop-round-preserved
loop-round-preserved g c =
    let r = c.run_once-at.ensures in
    let fuel = c.run_once-at.new.budget in
    let o : GoesWith g.g (code_in c.args.function.object.now c.args.function.proto.now c.args.around.strings.now) c.run_once-at.new.stack c.read_open.new.stack c.run_once-at.new.tables.objects c.run_once-at.new.cells.objects c.run_once-at.result c.in-Some.to =
    over_goes r.runs.may.closure.texts_are (rw (c.closure_of-closure.ensures.words, c.closure_of-closure.ensures.constants, c.closure_of-closure.ensures.upvalues) at c.in-Some.ensures.goes) in
    record { goes = advances_then (advances_then c.loop-round.invariant.goes r.goes) (advances_with o fuel r.runs); runs = o.runs fuel r.runs }
