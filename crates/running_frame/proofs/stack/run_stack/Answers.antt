use Rattle.std.proofs.Common.{◌≡◌, [], ◌∷◌, ◌++◌, sym, ap, subst, ◌∙◌, arith}
use Rattle.running_frame.specs.Functions.{code_in}
use Rattle.lua_heap.specs.Reading.{value}
use Rattle.lua_stack.specs.Frames.{KeptStack, frames}
use Rattle.machine_core.specs.World.{lua}
use Rattle.running_frame.specs.Here.{is_none}
use Rattle.frame_calls.specs.Standing.{MayRun, RunsAt}
use Rattle.frame_calls.proofs.Closed.{closes_nothing, still_closed}
use Rattle.running_frame.specs.Advancing.{Advances}
use Rattle.running_frame.proofs.Advanced.{advances_none}
use Rattle.running_frame.proofs.OnStack.{place_within}
use Rattle.running_frame.proofs.Places.{none_is}
use Rattle.running_frame.proofs.stack.run_stack.Goals as goal

pub here_at-here-requires : goal.here_at-here-requires
here_at-here-requires g c =
    let m = c.requires.0 in
    let v = value g.g.around.texts in
    let below = g.g.around.context.below in
    let e = c.pc-start.ensures v below m.top m.is in
    let l = m.within in
    rw c.deref.ensures.value (omega (arith, e, l))

pub returns-then-not-runs-clause-here : goal.returns-then-not-runs-clause-here
returns-then-not-runs-clause-here g c =
    let m = c.requires.0 in
    let v = value g.g.around.texts in
    let below = g.g.around.context.below in
    record {
      top = m.top;
      is = m.is;
      function = m.function;
      at_pc = sym (c.here_at-here.ensures.place ∙ c.pc-start.ensures v below m.top m.is);
      word = rw c.deref.ensures.value at c.here_at-here.ensures.word;
      runs = c.here_at-here.ensures.runs ∙ sym c.if-not-runs.true ∙ c.is_none-runs.ensures g.g.around.texts ∙ ap is_none (c.wait.ensures v below m.top m.is);
    }

pub closed_from-closed-requires : goal.closed_from-closed-requires
closed_from-closed-requires g c = let m = c.requires.0 in record { value = value g.g.around.texts; below = g.g.around.context.below; top = m.top; is = m.is }

pub run_rounds-pc-requires : goal.run_rounds-pc-requires
run_rounds-pc-requires g c =
    let m = c.requires.0 in
    let v = value g.g.around.texts in
    let below = g.g.around.context.below in
    let k = code_in c.args.function.object.now c.args.function.proto.now c.args.around.strings.now in
    let ts = c.args.tables.now.objects in
    let cs = c.args.cells.now.objects in
    let kept = sym c.closed_from-closed.ensures.kept in
    let runs = none_is m.top.wait (sym (c.is_none-runs.ensures g.g.around.texts ∙ ap is_none (c.wait.ensures v below m.top m.is)) ∙ c.if-not-runs.false) in (
      subst (λ (s : KeptStack). RunsAt g.g k s ts cs c.args.budget.now c.pc-start.result) kept (record { may = m; runs = runs; at_pc = sym (c.pc-start.ensures v below m.top m.is) }),
      (
        closes_nothing g.g k c.closed_from-closed.new.stack ts cs c.args.budget.now (subst (λ (s : KeptStack). MayRun g.g k s ts cs c.args.budget.now) kept m) c.closed_from-closed.result c.closed_from-closed.ensures.closed,
        c.requires.1,
      ),
    )

pub here_at-requires : goal.here_at-requires
here_at-requires g c = let r = c.run_rounds-pc.ensures.runs in rw c.deref-2.ensures.value (place_within r)

pub returns-clause-here : goal.returns-clause-here
returns-clause-here g c =
    let r = c.run_rounds-pc.ensures.runs in
    record {
      top = r.may.top;
      is = r.may.is;
      function = r.may.function;
      at_pc = r.at_pc ∙ sym c.here_at.ensures.place;
      word = rw c.deref-2.ensures.value at c.here_at.ensures.word;
      runs = c.here_at.ensures.runs ∙ sym (ap is_none r.runs);
    }

pub returns-clause-runs : goal.returns-clause-runs
returns-clause-runs g c =
    let k = code_in c.args.function.object.now c.args.function.proto.now c.args.around.strings.now in
    let u = c.run_rounds-pc.new in
    λ _. subst (λ pc. RunsAt g.g k u.stack u.tables.objects u.cells.objects u.budget pc) (sym c.here_at.ensures.place) c.run_rounds-pc.ensures.runs

pub returns-clause-closed : goal.returns-clause-closed
returns-clause-closed g c =
    let m = c.requires.0 in
    let u = c.run_rounds-pc.ensures.runs.may in
    let kept = c.closed_from-closed.ensures.kept in
    still_closed (value g.g.around.texts) c.closed_from-closed.new.stack c.run_rounds-pc.new.stack g.g.around.context.below m.top u.top (subst (λ (s : KeptStack). frames (value g.g.around.texts) s ≡ g.g.around.context.below ++ lua m.top ∷ []) (sym kept) m.is)
    u.is (u.pending ∙ sym m.pending) c.run_rounds-pc.ensures.goes.listed c.closed_from-closed.result c.closed_from-closed.ensures.closed

pub returns-then-not-runs-clause-goes : goal.returns-then-not-runs-clause-goes
returns-then-not-runs-clause-goes g c = advances_none g.g c.args.stack.now c.args.tables.now.objects c.args.cells.now.objects c.args.budget.now

pub returns-clause-goes : goal.returns-clause-goes
returns-clause-goes g c =
    subst (λ (s : KeptStack). Advances g.g s c.run_rounds-pc.new.stack c.args.tables.now.objects c.run_rounds-pc.new.tables.objects c.args.cells.now.objects c.run_rounds-pc.new.cells.objects c.args.budget.now c.run_rounds-pc.new.budget)
    c.closed_from-closed.ensures.kept c.run_rounds-pc.ensures.goes

pub returns-then-not-runs-clause-runs : goal.returns-then-not-runs-clause-runs
returns-then-not-runs-clause-runs g c = λ e. absurd (let f = sym e ∙ c.here_at-here.ensures.runs in cc)
