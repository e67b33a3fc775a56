use Rattle.std.proofs.Common.{rules, arith, ◌≡◌, ◌⊎◌, ◌+◌, ◌-◌, ◌≤◌, ℕ, List, Err, refl, ap, subst}
use Rattle.machine_core.specs.World.{World}
use Rattle.machine_runs.specs.Runs.{Run}
use Rattle.loaded_code.specs.Laws.{library}
use Rattle.source_builds.proofs.Knowing.{read_all, read_map, read_both}
use Rattle.source_builds.proofs.Lookups.{read_some}
use Rattle.io_edge.specs.Lines.{ahead}
use Rattle.lua_feed.specs.Closes.{close_of}
use Rattle.lua_feed.specs.Feeding.{Does, IsBrokenOff, IsCutOff, IsFedFront, IsFedTo}
use Rattle.lua_feed.specs.Running.{started}
use Rattle.prelude_code.proofs.Preludes.{prelude_once}
use Rattle.program.specs.declared.fault.Fault.TheVariants.{Memory}
use Rattle.program.specs.Faults.{fault_of_file, fault_of_prelude, fault_of_feeding, status_of}
use Rattle.program.specs.Outcomes.{IsCodeIn, IsNoCodeFor}
use Rattle.program.proofs.CodeLemmas.{code_tells, memory_fits, feeding_fits}
use Rattle.program.proofs.Limited.{when_stopped}
use Rattle.program.proofs.LimitLemmas.{file_limits, prelude_limits, code_limits, feeding_limits, one_past, left_limits, none_past, one_fault}
use Rattle.program.proofs.Endings.{cut_ran, closed_ran, limit_new, broken_new, front_new, fed_new}
use Rattle.program.proofs.Keeping.{run_keeps}
use Rattle.program.proofs.RunLemmas.{unread_run, no_prelude_run, no_code_run, run_of, run_since, run_before, short_run}
use Rattle.program.proofs.Raised.{raised}
use Rattle.program.proofs.running.run_file.Goals as goal

pub returns-in_err-content-clause-run : goal.returns-in_err-content-clause-run
returns-in_err-content-clause-run g c =
    let is : c.from_residual.result ≡ Err (fault_of_file c.in_err-content.field-0.0) = search rules in
    read_all (λ builds sources. rw (ap status_of is) (unread_run c.args.name.now c.args.budget _ _ _ _ _ _ _ _ _ _ c.in_err-content.field-0.0 c.in_err-content.ensures.cause c.in_err-content.ensures.absent c.in_err-content.ensures.lacking c.in_err-content.ensures.kept c.in_err-content.ensures.failed))

pub returns-in_err-prelude-clause-run : goal.returns-in_err-prelude-clause-run
returns-in_err-prelude-clause-run g c =
    let is : c.from_residual-in_err-prelude.result ≡ Err (fault_of_prelude c.in_err-prelude.field-0.0) = search rules in
    read_all (λ builds sources. run_before c.args.name.now c.args.budget _ _ _ _ _ _ _ _ _ _ c.in_ok-content.ensures.cause.only c.in_ok-content.ensures.kept (ap status_of is)
    (no_prelude_run c.args.name.now c.in_ok-content.content.items c.args.budget _ _ _ _ _ _ _ _ c.in_err-prelude.field-0.0 c.in_ok-content.ensures.found c.in_err-prelude.ensures.refused))

pub returns-in_err-code-clause-run : goal.returns-in_err-code-clause-run
returns-in_err-code-clause-run g c =
    let is : c.from_residual-in_err-code.result ≡ Err c.in_err-code.field-0.0 = search rules in
    let answers : IsNoCodeFor c.in_ok-content.content.items c.in_err-code.field-0.0 ⊎ (c.in_err-code.field-0.0 ≡ Memory) = subst (λ (s : List ℕ). IsNoCodeFor s c.in_err-code.field-0.0 ⊎ (c.in_err-code.field-0.0 ≡ Memory)) c.as_slice.ensures.value c.in_err-code.ensures.refused in
    read_all (λ builds sources. run_before c.args.name.now c.args.budget _ _ _ _ _ _ _ _ _ _ c.in_ok-content.ensures.cause.only c.in_ok-content.ensures.kept (ap status_of is)
    (no_code_run c.args.name.now c.in_ok-content.content.items c.args.budget _ _ _ _ _ _ _ _ c.in_err-code.field-0.0 c.in_ok-content.ensures.found answers))

pub returns-in_err-code-clause-fits : goal.returns-in_err-code-clause-fits
returns-in_err-code-clause-fits g c =
    let is : c.from_residual-in_err-code.result ≡ Err c.in_err-code.field-0.0 = search rules in
    let answers : IsNoCodeFor c.in_ok-content.content.items c.in_err-code.field-0.0 ⊎ (c.in_err-code.field-0.0 ≡ Memory) = subst (λ (s : List ℕ). IsNoCodeFor s c.in_err-code.field-0.0 ⊎ (c.in_err-code.field-0.0 ≡ Memory)) c.as_slice.ensures.value c.in_err-code.ensures.refused in
    λ content has. rw is (code_tells c.args.name.now c.in_ok-content.content.items content _ c.in_err-code.field-0.0 c.in_ok-content.ensures.found has answers)

pub returns-in_err-reader-clause-run : goal.returns-in_err-reader-clause-run
returns-in_err-reader-clause-run g c =
    read_all (λ builds sources. short_run c.args.name.now c.in_ok-content.content.items c.args.budget _ _ _ _ _ _ _ _ _ _ c.from_residual-in_err-reader.result c.in_ok-content.ensures.cause.only c.in_ok-content.ensures.kept c.in_ok-content.ensures.found c.from_residual-in_err-reader.ensures.1)

pub returns-in_err-reader-clause-fits : goal.returns-in_err-reader-clause-fits
returns-in_err-reader-clause-fits g c = λ content has. rw (raised c.from_residual-in_err-reader.result Memory c.from_residual-in_err-reader.ensures.1) (memory_fits content)

pub returns-in_err-world-clause-run : goal.returns-in_err-world-clause-run
returns-in_err-world-clause-run g c =
    read_all (λ builds sources. short_run c.args.name.now c.in_ok-content.content.items c.args.budget _ _ _ _ _ _ _ _ _ _ c.from_residual-in_err-world.result c.in_ok-content.ensures.cause.only c.in_ok-content.ensures.kept c.in_ok-content.ensures.found c.from_residual-in_err-world.ensures.1)

pub returns-in_err-world-clause-fits : goal.returns-in_err-world-clause-fits
returns-in_err-world-clause-fits g c = λ content has. rw (raised c.from_residual-in_err-world.result Memory c.from_residual-in_err-world.ensures.1) (memory_fits content)

pub returns-in_err-close-clause-run : goal.returns-in_err-close-clause-run
returns-in_err-close-clause-run g c =
    let is = raised c.from_residual-in_err-close.result (fault_of_feeding c.in_err-close.field-0.0) c.from_residual-in_err-close.ensures.1 in
    let prelude = c.in_ok-prelude.prelude in
    let code = c.in_ok-code.code in
    let own : IsCodeIn c.args.name.now c.in_ok-content.content.items code = subst (λ (s : List ℕ). IsCodeIn c.args.name.now s code) c.as_slice.ensures.value c.in_ok-code.ensures.code in
    read_both (λ builds sources front stops.
    let runs : List (List ℕ) → Run → Type 0 = Does (library builds) (started prelude code) c.args.budget in
    let fed : IsFedFront runs c.in_ok-reader.reader.taken (ahead c.in_ok-reader.reader (g.S.Source.left c.args.input.now)) (g.K.Sink.written c.args.out.now) (g.K.Sink.written c.feed.new.out)
    = subst (λ (W : World). IsFedFront (Does (library builds) W c.args.budget) c.in_ok-reader.reader.taken (ahead c.in_ok-reader.reader (g.S.Source.left c.args.input.now)) (g.K.Sink.written c.args.out.now) (g.K.Sink.written c.feed.new.out)) c.in_ok-world.ensures.begun front in
    run_before c.args.name.now c.args.budget _ _ _ _ _ _ _ _ _ _ c.in_ok-content.ensures.cause.only c.in_ok-content.ensures.kept (ap status_of is)
    (run_of sources c.scripts_do_as_they_mean.ensures.does c.scripts_do_as_they_mean.ensures.means c.prelude_is_alike.ensures c.args.name.now c.in_ok-content.content.items c.args.budget _ prelude code _ _ _ _ _
    c.requires.short c.in_ok-content.ensures.found c.in_ok-prelude.ensures.code (λ other is_prelude. prelude_once prelude other c.in_ok-prelude.ensures.code is_prelude) own c.rules_hold.ensures
    (run_keeps sources c.runs_have_the_prelude.ensures.runs c.runs_have_the_prelude.ensures.code c.loading_is_safe.ensures.safe c.prelude_is_alike.ensures prelude code c.args.budget c.in_ok-prelude.ensures.code c.rules_hold.ensures)
    (cut_ran prelude c.in_ok-prelude.ensures.code runs (λ lines x y h k. c.runs_are_one.ensures.runs (library builds) (started prelude code) lines c.args.budget x y h k) _ _ _ _ _ c.in_err-close.field-0.0
    (record { no_fault = refl; unwritten = refl }) c.in_err-close.ensures.input c.in_err-close.ensures.output (λ past. limit_new c.in_ok-reader.reader runs _ _ _ c.in_ok-reader.ensures
    (subst (λ (W : World). IsCutOff (Does (library builds) W c.args.budget) c.in_ok-reader.reader.taken (ahead c.in_ok-reader.reader (g.S.Source.left c.args.input.now)) (g.K.Sink.written c.args.out.now) (g.K.Sink.written c.feed.new.out)) c.in_ok-world.ensures.begun (stops.0 past)))
    (λ failed. broken_new c.in_ok-reader.reader runs _ _ _ c.in_ok-reader.ensures
    (subst (λ (W : World). IsBrokenOff (Does (library builds) W c.args.budget) c.in_ok-reader.reader.taken (ahead c.in_ok-reader.reader (g.S.Source.left c.args.input.now)) (g.K.Sink.written c.args.out.now) (g.K.Sink.written c.feed.new.out)) c.in_ok-world.ensures.begun (stops.1 failed)))
    (front_new c.in_ok-reader.reader runs _ _ _ c.in_ok-reader.ensures fed) c.in_err-close.ensures.grows)))
    c.in_err-close.ensures.front (when_stopped (Err c.in_err-close.field-0.0) c.in_err-close.ensures.limit c.in_err-close.ensures.broken)

pub returns-clause-run : goal.returns-clause-run
returns-clause-run g c =
    let prelude = c.in_ok-prelude.prelude in
    let code = c.in_ok-code.code in
    let own : IsCodeIn c.args.name.now c.in_ok-content.content.items code = subst (λ (s : List ℕ). IsCodeIn c.args.name.now s code) c.as_slice.ensures.value c.in_ok-code.ensures.code in
    read_map (λ builds sources feeds.
    let runs : List (List ℕ) → Run → Type 0 = Does (library builds) (started prelude code) c.args.budget in
    let fed : IsFedTo runs c.in_ok-reader.reader.taken (ahead c.in_ok-reader.reader (g.S.Source.left c.args.input.now)) (g.K.Sink.written c.args.out.now) (g.K.Sink.written c.feed.new.out) (close_of c.in_ok-close.close) c.feed.new.world
    = subst (λ (W : World). IsFedTo (Does (library builds) W c.args.budget) c.in_ok-reader.reader.taken (ahead c.in_ok-reader.reader (g.S.Source.left c.args.input.now)) (g.K.Sink.written c.args.out.now) (g.K.Sink.written c.feed.new.out) (close_of c.in_ok-close.close) c.feed.new.world) c.in_ok-world.ensures.begun feeds in
    run_since c.args.name.now c.args.budget _ _ _ _ _ _ _ _ _ _ _ _ c.in_ok-content.ensures.cause.only c.in_ok-content.ensures.kept refl
    (run_of sources c.scripts_do_as_they_mean.ensures.does c.scripts_do_as_they_mean.ensures.means c.prelude_is_alike.ensures c.args.name.now c.in_ok-content.content.items c.args.budget _ prelude code _ _ _ _ _
    c.requires.short (rw c.in_ok-content.ensures.kept c.in_ok-content.ensures.found) c.in_ok-prelude.ensures.code (λ other is_prelude. prelude_once prelude other c.in_ok-prelude.ensures.code is_prelude) own c.rules_hold.ensures
    (run_keeps sources c.runs_have_the_prelude.ensures.runs c.runs_have_the_prelude.ensures.code c.loading_is_safe.ensures.safe c.prelude_is_alike.ensures prelude code c.args.budget c.in_ok-prelude.ensures.code c.rules_hold.ensures)
    (closed_ran prelude c.in_ok-prelude.ensures.code runs (λ lines x y h k. c.runs_are_one.ensures.runs (library builds) (started prelude code) lines c.args.budget x y h k) _ _ _ _ c.feed.new.world (close_of c.in_ok-close.close) c.state_at.result _
    c.in_ok-close.ensures.input.only c.in_ok-close.ensures.output.only (fed_new c.in_ok-reader.reader runs _ _ _ (close_of c.in_ok-close.close) c.feed.new.world c.in_ok-reader.ensures fed) c.leave_session-answer.ensures.left c.state_at.ensures))) c.in_ok-close.ensures.fed

pub returns-in_err-close-clause-fits : goal.returns-in_err-close-clause-fits
returns-in_err-close-clause-fits g c =
    let is = raised c.from_residual-in_err-close.result (fault_of_feeding c.in_err-close.field-0.0) c.from_residual-in_err-close.ensures.1 in
    λ content has. rw is (feeding_fits content c.in_err-close.field-0.0)

pub returns-clause-fits : goal.returns-clause-fits
returns-clause-fits g c content has = c.leave_session-answer.ensures.code content

-- which of its lines a 7 has

pub returns-in_err-content-clause-limits : goal.returns-in_err-content-clause-limits
returns-in_err-content-clause-limits g c =
    let is : c.from_residual.result ≡ Err (fault_of_file c.in_err-content.field-0.0) = search rules in
    rw is (file_limits (g.S.Source.left c.args.input.now) c.in_err-content.field-0.0)

pub returns-in_err-prelude-clause-limits : goal.returns-in_err-prelude-clause-limits
returns-in_err-prelude-clause-limits g c =
    let is : c.from_residual-in_err-prelude.result ≡ Err (fault_of_prelude c.in_err-prelude.field-0.0) = search rules in
    rw is (prelude_limits (g.S.Source.left c.args.input.now) c.in_err-prelude.field-0.0)

pub returns-in_err-code-clause-limits : goal.returns-in_err-code-clause-limits
returns-in_err-code-clause-limits g c =
    let is : c.from_residual-in_err-code.result ≡ Err c.in_err-code.field-0.0 = search rules in
    rw is (code_limits (g.S.Source.left c.args.input.now) c.as_slice.result.now c.in_err-code.field-0.0 c.in_err-code.ensures.refused)

pub returns-in_err-reader-clause-limits : goal.returns-in_err-reader-clause-limits
returns-in_err-reader-clause-limits g c = rw (raised c.from_residual-in_err-reader.result Memory c.from_residual-in_err-reader.ensures.1) tt

pub returns-in_err-world-clause-limits : goal.returns-in_err-world-clause-limits
returns-in_err-world-clause-limits g c = rw (raised c.from_residual-in_err-world.result Memory c.from_residual-in_err-world.ensures.1) tt

pub returns-in_err-close-clause-limits : goal.returns-in_err-close-clause-limits
returns-in_err-close-clause-limits g c =
    let is = raised c.from_residual-in_err-close.result (fault_of_feeding c.in_err-close.field-0.0) c.from_residual-in_err-close.ensures.1 in
    let left = g.S.Source.left c.args.input.now in
    rw is (feeding_limits left c.in_err-close.field-0.0
    (λ past. one_past c.in_ok-reader.reader _ left (g.K.Sink.written c.args.out.now) (g.K.Sink.written c.feed.new.out) c.in_ok-reader.ensures (read_some (c.in_err-close.ensures.limit past)).2))

pub returns-clause-limits : goal.returns-clause-limits
returns-clause-limits g c =
    let left = g.S.Source.left c.args.input.now in
    let close = close_of c.in_ok-close.close in
    left_limits left close c.leave_session-answer.result
    (none_past c.in_ok-reader.reader _ left (g.K.Sink.written c.args.out.now) (g.K.Sink.written c.feed.new.out) close c.feed.new.world c.in_ok-reader.ensures (read_some c.in_ok-close.ensures.fed).2)
    c.leave_session-answer.ensures.limits

-- and one fault at most is counted

pub returns-in_err-content-clause-once : goal.returns-in_err-content-clause-once
returns-in_err-content-clause-once g c = omega (arith, c.in_err-content.ensures.cause.once)

pub returns-in_err-prelude-clause-once : goal.returns-in_err-prelude-clause-once
returns-in_err-prelude-clause-once g c = omega (arith, c.in_ok-content.ensures.cause.once)

pub returns-in_err-code-clause-once : goal.returns-in_err-code-clause-once
returns-in_err-code-clause-once g c = omega (arith, c.in_ok-content.ensures.cause.once)

pub returns-in_err-reader-clause-once : goal.returns-in_err-reader-clause-once
returns-in_err-reader-clause-once g c = omega (arith, c.in_ok-content.ensures.cause.once)

pub returns-in_err-world-clause-once : goal.returns-in_err-world-clause-once
returns-in_err-world-clause-once g c = omega (arith, c.in_ok-content.ensures.cause.once)

pub returns-in_err-close-clause-once : goal.returns-in_err-close-clause-once
returns-in_err-close-clause-once g c =
    let fed : (g.S.Source.faults c.feed.new.input - g.S.Source.faults c.args.input.now) + (g.K.Sink.faults c.feed.new.out - g.K.Sink.faults c.args.out.now) ≤ 1
    = one_fault _ _ _ _ c.in_err-close.field-0.0 c.in_err-close.ensures.input c.in_err-close.ensures.output in
    omega (arith, c.in_ok-content.ensures.cause.only, fed)

pub returns-clause-once : goal.returns-clause-once
returns-clause-once g c = omega (arith, c.in_ok-content.ensures.cause.only, c.in_ok-close.ensures.input.only, c.in_ok-close.ensures.output.only, c.leave_session-answer.ensures.once)
