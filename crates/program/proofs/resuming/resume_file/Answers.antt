use Rattle.std.proofs.Common.{rules, arith, ◌≡◌, ◌⊎◌, ◌+◌, ◌-◌, ◌≤◌, ℕ, List, Err, refl, ap, subst}
use Rattle.machine_runs.specs.Runs.{Run}
use Rattle.loaded_code.specs.Laws.{library}
use Rattle.source_builds.proofs.Knowing.{read_all, read_map, read_both}
use Rattle.source_builds.proofs.Lookups.{read_some}
use Rattle.lua_heap.specs.Plain.{plain}
use Rattle.lua_feed.specs.Closes.{close_of}
use Rattle.lua_feed.specs.Feeding.{GoesOn}
use Rattle.lua_saving.specs.Saving.{IsSession}
use Rattle.prelude_code.proofs.Preludes.{prelude_once}
use Rattle.program.specs.declared.fault.Fault.TheVariants.{Memory}
use Rattle.program.specs.Faults.{fault_of_file, fault_of_prelude, fault_of_feeding, status_of}
use Rattle.program.specs.Outcomes.{IsNoSessionFor}
use Rattle.program.specs.Sessions.{functions_of}
use Rattle.program.proofs.Limited.{when_stopped}
use Rattle.program.proofs.LimitLemmas.{file_limits, prelude_limits, session_limits, feeding_limits, one_past, left_limits, none_past, one_fault}
use Rattle.program.proofs.Endings.{cut_ran, closed_ran, onward_once, limit_new, broken_new, front_new, fed_new}
use Rattle.program.proofs.ImageLemmas.{feeding_fits_image, image_tells}
use Rattle.program.proofs.ResumeLemmas.{unread_resume, no_prelude_resume, no_session_resume, resume_of, resume_since, resume_before, short_resume}
use Rattle.program.proofs.Raised.{raised}
use Rattle.program.proofs.resuming.resume_file.Goals as goal

pub returns-in_err-content-clause-resume : goal.returns-in_err-content-clause-resume
returns-in_err-content-clause-resume g c =
    let is : c.from_residual.result ≡ Err (fault_of_file c.in_err-content.field-0.0) = search rules in
    read_all (λ builds sources. rw (ap status_of is) (unread_resume c.args.name.now c.args.budget _ _ _ _ _ _ _ _ _ _ c.in_err-content.field-0.0 c.in_err-content.ensures.cause c.in_err-content.ensures.absent c.in_err-content.ensures.lacking c.in_err-content.ensures.kept c.in_err-content.ensures.failed))

pub returns-in_err-prelude-clause-resume : goal.returns-in_err-prelude-clause-resume
returns-in_err-prelude-clause-resume g c =
    let is : c.from_residual-in_err-prelude.result ≡ Err (fault_of_prelude c.in_err-prelude.field-0.0) = search rules in
    read_all (λ builds sources. resume_before c.args.name.now c.args.budget _ _ _ _ _ _ _ _ _ _ c.in_ok-content.ensures.cause.only c.in_ok-content.ensures.kept (ap status_of is)
    (no_prelude_resume c.args.name.now c.in_ok-content.content.items c.args.budget _ _ _ _ _ _ _ _ c.in_err-prelude.field-0.0 c.in_ok-content.ensures.found c.in_err-prelude.ensures.refused))

pub returns-in_err-world-clause-resume : goal.returns-in_err-world-clause-resume
returns-in_err-world-clause-resume g c =
    let prelude = c.in_ok-prelude.prelude in
    let is : c.from_residual-in_err-world.result ≡ Err c.in_err-world.field-0.0 = search rules in
    let answers : IsNoSessionFor prelude c.in_ok-content.content.items c.in_err-world.field-0.0 ⊎ (c.in_err-world.field-0.0 ≡ Memory)
    = subst (λ (s : List ℕ). IsNoSessionFor prelude s c.in_err-world.field-0.0 ⊎ (c.in_err-world.field-0.0 ≡ Memory)) c.as_slice.ensures.value c.in_err-world.ensures.refused in
    read_all (λ builds sources. resume_before c.args.name.now c.args.budget _ _ _ _ _ _ _ _ _ _ c.in_ok-content.ensures.cause.only c.in_ok-content.ensures.kept (ap status_of is)
    (no_session_resume c.args.name.now c.in_ok-content.content.items c.args.budget _ prelude _ _ _ _ _ _ _ c.in_err-world.field-0.0 c.in_ok-content.ensures.found
    (λ other is_prelude. prelude_once prelude other c.in_ok-prelude.ensures.code is_prelude) answers))

pub returns-in_err-world-clause-fits : goal.returns-in_err-world-clause-fits
returns-in_err-world-clause-fits g c =
    let is : c.from_residual-in_err-world.result ≡ Err c.in_err-world.field-0.0 = search rules in
    let answers : IsNoSessionFor c.in_ok-prelude.prelude c.in_ok-content.content.items c.in_err-world.field-0.0 ⊎ (c.in_err-world.field-0.0 ≡ Memory)
    = subst (λ (s : List ℕ). IsNoSessionFor c.in_ok-prelude.prelude s c.in_err-world.field-0.0 ⊎ (c.in_err-world.field-0.0 ≡ Memory)) c.as_slice.ensures.value c.in_err-world.ensures.refused in
    λ content has. rw is (image_tells c.args.name.now c.in_ok-content.content.items content _ c.in_ok-prelude.prelude c.in_err-world.field-0.0 c.in_ok-content.ensures.found has c.in_ok-prelude.ensures.code answers)

pub returns-in_err-reader-clause-resume : goal.returns-in_err-reader-clause-resume
returns-in_err-reader-clause-resume g c =
    read_all (λ builds sources. short_resume c.args.name.now c.in_ok-content.content.items c.args.budget _ _ _ _ _ _ _ _ _ _ c.from_residual-in_err-reader.result c.in_ok-content.ensures.cause.only c.in_ok-content.ensures.kept c.in_ok-content.ensures.found c.from_residual-in_err-reader.ensures.1)

pub returns-in_err-reader-clause-fits : goal.returns-in_err-reader-clause-fits
returns-in_err-reader-clause-fits g c = λ content has. rw (raised c.from_residual-in_err-reader.result Memory c.from_residual-in_err-reader.ensures.1) tt

pub returns-in_err-close-clause-resume : goal.returns-in_err-close-clause-resume
returns-in_err-close-clause-resume g c =
    let is = raised c.from_residual-in_err-close.result (fault_of_feeding c.in_err-close.field-0.0) c.from_residual-in_err-close.ensures.1 in
    let prelude = c.in_ok-prelude.prelude in
    let session = plain c.in_ok-world.world 0 in
    let own : IsSession (functions_of prelude) c.in_ok-content.content.items session = subst (λ (s : List ℕ). IsSession (functions_of prelude) s session) c.as_slice.ensures.value c.in_ok-world.ensures.session in
    read_both (λ builds sources front stops.
    let runs : List (List ℕ) → Run → Type 0 = GoesOn (library builds) session c.args.budget in
    resume_before c.args.name.now c.args.budget _ _ _ _ _ _ _ _ _ _ c.in_ok-content.ensures.cause.only c.in_ok-content.ensures.kept (ap status_of is)
    (resume_of c.args.name.now c.in_ok-content.content.items c.args.budget _ prelude session _ _ _ _ _
    c.in_ok-content.ensures.found c.in_ok-prelude.ensures.code (λ other is_prelude. prelude_once prelude other c.in_ok-prelude.ensures.code is_prelude) own c.in_ok-world.ensures.yielded
    (cut_ran prelude c.in_ok-prelude.ensures.code runs (λ lines x y h k. onward_once c.runs_are_one.ensures.runs (library builds) session c.args.budget lines x y h k) _ _ _ _ _ c.in_err-close.field-0.0
    (record { no_fault = refl; unwritten = refl }) c.in_err-close.ensures.input c.in_err-close.ensures.output (λ past. limit_new c.in_ok-reader.reader runs _ _ _ c.in_ok-reader.ensures (stops.0 past))
    (λ failed. broken_new c.in_ok-reader.reader runs _ _ _ c.in_ok-reader.ensures (stops.1 failed))
    (front_new c.in_ok-reader.reader runs _ _ _ c.in_ok-reader.ensures front) c.in_err-close.ensures.grows)))
    c.in_err-close.ensures.front (when_stopped (Err c.in_err-close.field-0.0) c.in_err-close.ensures.limit c.in_err-close.ensures.broken)

pub returns-clause-resume : goal.returns-clause-resume
returns-clause-resume g c =
    let prelude = c.in_ok-prelude.prelude in
    let session = plain c.in_ok-world.world 0 in
    let own : IsSession (functions_of prelude) c.in_ok-content.content.items session = subst (λ (s : List ℕ). IsSession (functions_of prelude) s session) c.as_slice.ensures.value c.in_ok-world.ensures.session in
    read_map (λ builds sources fed.
    let runs : List (List ℕ) → Run → Type 0 = GoesOn (library builds) session c.args.budget in
    resume_since c.args.name.now c.args.budget _ _ _ _ _ _ _ _ _ _ _ _ c.in_ok-content.ensures.cause.only c.in_ok-content.ensures.kept refl
    (resume_of c.args.name.now c.in_ok-content.content.items c.args.budget _ prelude session _ _ _ _ _
    (rw c.in_ok-content.ensures.kept c.in_ok-content.ensures.found) c.in_ok-prelude.ensures.code (λ other is_prelude. prelude_once prelude other c.in_ok-prelude.ensures.code is_prelude) own c.in_ok-world.ensures.yielded
    (closed_ran prelude c.in_ok-prelude.ensures.code runs (λ lines x y h k. onward_once c.runs_are_one.ensures.runs (library builds) session c.args.budget lines x y h k) _ _ _ _ c.feed_on.new.world (close_of c.in_ok-close.close) c.state_at.result _
    c.in_ok-close.ensures.input.only c.in_ok-close.ensures.output.only (fed_new c.in_ok-reader.reader runs _ _ _ (close_of c.in_ok-close.close) c.feed_on.new.world c.in_ok-reader.ensures fed) c.leave_session-answer.ensures.left c.state_at.ensures))) c.in_ok-close.ensures.fed

pub returns-in_err-close-clause-fits : goal.returns-in_err-close-clause-fits
returns-in_err-close-clause-fits g c =
    let is = raised c.from_residual-in_err-close.result (fault_of_feeding c.in_err-close.field-0.0) c.from_residual-in_err-close.ensures.1 in
    λ content has. rw is (feeding_fits_image content c.in_err-close.field-0.0)

pub returns-clause-fits : goal.returns-clause-fits
returns-clause-fits g c content has = c.leave_session-answer.ensures.image content

-- which of its lines a 7 has

pub returns-in_err-content-clause-limits : goal.returns-in_err-content-clause-limits
returns-in_err-content-clause-limits g c =
    let is : c.from_residual.result ≡ Err (fault_of_file c.in_err-content.field-0.0) = search rules in
    rw is (file_limits (g.S.Source.left c.args.input.now) c.in_err-content.field-0.0)

pub returns-in_err-prelude-clause-limits : goal.returns-in_err-prelude-clause-limits
returns-in_err-prelude-clause-limits g c =
    let is : c.from_residual-in_err-prelude.result ≡ Err (fault_of_prelude c.in_err-prelude.field-0.0) = search rules in
    rw is (prelude_limits (g.S.Source.left c.args.input.now) c.in_err-prelude.field-0.0)

pub returns-in_err-world-clause-limits : goal.returns-in_err-world-clause-limits
returns-in_err-world-clause-limits g c =
    let is : c.from_residual-in_err-world.result ≡ Err c.in_err-world.field-0.0 = search rules in
    rw is (session_limits (g.S.Source.left c.args.input.now) c.in_ok-prelude.prelude c.as_slice.result.now c.in_err-world.field-0.0 c.in_err-world.ensures.refused)

pub returns-in_err-reader-clause-limits : goal.returns-in_err-reader-clause-limits
returns-in_err-reader-clause-limits g c = rw (raised c.from_residual-in_err-reader.result Memory c.from_residual-in_err-reader.ensures.1) tt

pub returns-in_err-close-clause-limits : goal.returns-in_err-close-clause-limits
returns-in_err-close-clause-limits g c =
    let is = raised c.from_residual-in_err-close.result (fault_of_feeding c.in_err-close.field-0.0) c.from_residual-in_err-close.ensures.1 in
    let left = g.S.Source.left c.args.input.now in
    rw is (feeding_limits left c.in_err-close.field-0.0
    (λ past. one_past c.in_ok-reader.reader _ left (g.K.Sink.written c.args.out.now) (g.K.Sink.written c.feed_on.new.out) c.in_ok-reader.ensures (read_some (c.in_err-close.ensures.limit past)).2))

pub returns-clause-limits : goal.returns-clause-limits
returns-clause-limits g c =
    let left = g.S.Source.left c.args.input.now in
    let close = close_of c.in_ok-close.close in
    left_limits left close c.leave_session-answer.result
    (none_past c.in_ok-reader.reader _ left (g.K.Sink.written c.args.out.now) (g.K.Sink.written c.feed_on.new.out) close c.feed_on.new.world c.in_ok-reader.ensures (read_some c.in_ok-close.ensures.fed).2)
    c.leave_session-answer.ensures.limits

-- and one fault at most is counted

pub returns-in_err-content-clause-once : goal.returns-in_err-content-clause-once
returns-in_err-content-clause-once g c = omega (arith, c.in_err-content.ensures.cause.once)

pub returns-in_err-prelude-clause-once : goal.returns-in_err-prelude-clause-once
returns-in_err-prelude-clause-once g c = omega (arith, c.in_ok-content.ensures.cause.once)

pub returns-in_err-reader-clause-once : goal.returns-in_err-reader-clause-once
returns-in_err-reader-clause-once g c = omega (arith, c.in_ok-content.ensures.cause.once)

pub returns-in_err-world-clause-once : goal.returns-in_err-world-clause-once
returns-in_err-world-clause-once g c = omega (arith, c.in_ok-content.ensures.cause.once)

pub returns-in_err-close-clause-once : goal.returns-in_err-close-clause-once
returns-in_err-close-clause-once g c =
    let fed : (g.S.Source.faults c.feed_on.new.input - g.S.Source.faults c.args.input.now) + (g.K.Sink.faults c.feed_on.new.out - g.K.Sink.faults c.args.out.now) ≤ 1
    = one_fault _ _ _ _ c.in_err-close.field-0.0 c.in_err-close.ensures.input c.in_err-close.ensures.output in
    omega (arith, c.in_ok-content.ensures.cause.only, fed)

pub returns-clause-once : goal.returns-clause-once
returns-clause-once g c = omega (arith, c.in_ok-content.ensures.cause.only, c.in_ok-close.ensures.input.only, c.in_ok-close.ensures.output.only, c.leave_session-answer.ensures.once)
