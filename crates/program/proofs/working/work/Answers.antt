use Rattle.std.proofs.Common.{rules, arith, ◌≡◌, ◌∙◌, ◌++◌, List, ℕ, Err, [], Some, ap, subst}
use Rattle.std.specs.Prelude.{codes, true}
use Rattle.std.proofs.lemmas.Result.{IfErr-weaker}
use Rattle.machine_core.specs.World.{World}
use Rattle.loaded_code.specs.Laws.{library}
use Rattle.source_builds.proofs.Knowing.{read_all, read_both, read_map}
use Rattle.compile_text.specs.Source.{IsRefused}
use Rattle.compile_chunk.specs.Chunk.{IsCodeOf}
use Rattle.io_edge.specs.Lines.{ahead}
use Rattle.std.specs.Option.{option_map}
use Rattle.io_edge.specs.Content.{GrowsByFront}
use Rattle.lua_feed.specs.Closes.{close_of}
use Rattle.lua_feed.specs.Feeding.{Does, IsCutOff, IsFedFront}
use Rattle.lua_feed.specs.Running.{started}
use Rattle.prelude_code.proofs.Preludes.{prelude_once}
use Rattle.work_script.specs.Script.{work_script}
use Rattle.program.specs.declared.fault.Fault.TheVariants.{Memory, Spent}
use Rattle.program.specs.Faults.{fault_of_prelude, fault_of_text, fault_of_feeding, status_of}
use Rattle.program.specs.Report.{ScriptFits}
use Rattle.program.proofs.Limited.{when_limited}
use Rattle.program.proofs.WorkLemmas.{no_prelude_work, memory_exit, refused_work, refused_fits, prelude_fits, feeding_fits, worked_line, cut_work, done_work, failed_work}
use Rattle.program.proofs.Raised.{raised}
use Rattle.program.proofs.working.work.Goals as goal

pub returns-in_err-prelude-clause-work : goal.returns-in_err-prelude-clause-work
returns-in_err-prelude-clause-work g c =
    let is : c.from_residual.result ≡ Err (fault_of_prelude c.in_err-prelude.field-0.0) = search rules in
    read_all (λ builds sources. rw (ap status_of is) (no_prelude_work c.args.count _ _ _ c.in_err-prelude.field-0.0 c.in_err-prelude.ensures.refused))

pub returns-in_err-script-clause-work : goal.returns-in_err-script-clause-work
returns-in_err-script-clause-work g c = read_all (λ builds sources. memory_exit c.args.count _ _ _ c.from_residual-in_err-script.result c.from_residual-in_err-script.ensures.1)

pub returns-in_err-code-clause-work : goal.returns-in_err-code-clause-work
returns-in_err-code-clause-work g c =
    let is : c.from_residual-in_err-code.result ≡ Err (fault_of_text c.in_err-code.field-0.0) = search rules in
    let refused : IsRefused (work_script c.args.count) c.in_err-code.field-0.0 = subst (λ (s : List ℕ). IsRefused s c.in_err-code.field-0.0) (c.as_slice.ensures.value ∙ c.in_ok-script.ensures) c.in_err-code.ensures.refused in
    read_all (λ builds sources. rw (ap status_of is) (refused_work c.args.count _ _ _ c.in_err-code.field-0.0 refused))

pub returns-in_err-code-clause-fits : goal.returns-in_err-code-clause-fits
returns-in_err-code-clause-fits g c =
    let is : c.from_residual-in_err-code.result ≡ Err (fault_of_text c.in_err-code.field-0.0) = search rules in
    let refused : IsRefused (work_script c.args.count) c.in_err-code.field-0.0 = subst (λ (s : List ℕ). IsRefused s c.in_err-code.field-0.0) (c.as_slice.ensures.value ∙ c.in_ok-script.ensures) c.in_err-code.ensures.refused in
    rw is (refused_fits c.args.count c.in_err-code.field-0.0 refused)

pub returns-in_err-line-clause-work : goal.returns-in_err-line-clause-work
returns-in_err-line-clause-work g c = read_all (λ builds sources. memory_exit c.args.count _ _ _ c.from_residual-in_err-line.result c.from_residual-in_err-line.ensures.1)

pub returns-in_err-reader-clause-work : goal.returns-in_err-reader-clause-work
returns-in_err-reader-clause-work g c = read_all (λ builds sources. memory_exit c.args.count _ _ _ c.from_residual-in_err-reader.result c.from_residual-in_err-reader.ensures.1)

pub returns-in_err-world-clause-work : goal.returns-in_err-world-clause-work
returns-in_err-world-clause-work g c = read_all (λ builds sources. memory_exit c.args.count _ _ _ c.from_residual-in_err-world.result c.from_residual-in_err-world.ensures.1)

pub returns-in_err-close-clause-work : goal.returns-in_err-close-clause-work
returns-in_err-close-clause-work g c =
    let is = raised c.from_residual-in_err-close.result (fault_of_feeding c.in_err-close.field-0.0) c.from_residual-in_err-close.ensures.1 in
    let prelude = c.in_ok-prelude.prelude in
    let code = c.in_ok-code.code in
    let before = g.K.Sink.written c.args.out.now in
    let after = g.K.Sink.written c.feed.new.out in
    let reader = c.in_ok-reader.reader in
    let own : IsCodeOf (codes "work") (work_script c.args.count) true code = subst (λ (s : List ℕ). IsCodeOf (codes "work") s true code) (c.as_slice.ensures.value ∙ c.in_ok-script.ensures) c.in_ok-code.ensures.code in
    read_both (λ builds sources stopped limit.
    let front : IsFedFront (Does (library builds) (started prelude code) 10000000) reader.taken (ahead reader (Some [])) before after
    = subst (λ (W : World). IsFedFront (Does (library builds) W 10000000) reader.taken (ahead reader (Some [])) before after) c.in_ok-world.ensures.begun stopped in
    rw (ap status_of is)
    (cut_work builds sources c.runs_are_one.ensures.runs c.scripts_do_as_they_mean.ensures.does c.scripts_do_as_they_mean.ensures.means c.prelude_is_alike.ensures c.args.count prelude code
    c.in_ok-prelude.ensures.code (λ other is_prelude. prelude_once prelude other c.in_ok-prelude.ensures.code is_prelude) own c.rules_hold.ensures
    reader _ _ before after _ c.in_err-close.field-0.0 c.in_ok-reader.ensures c.in_err-close.ensures.input c.in_err-close.ensures.output
    (λ past. subst (λ (W : World). IsCutOff (Does (library builds) W 10000000) reader.taken (ahead reader (Some [])) before after) c.in_ok-world.ensures.begun (limit past))
    front c.in_err-close.ensures.grows)) c.in_err-close.ensures.front (when_limited (Err c.in_err-close.field-0.0) c.in_err-close.ensures.limit)

pub returns-in_err-write_output-clause-work : goal.returns-in_err-write_output-clause-work
returns-in_err-write_output-clause-work g c =
    let is : c.from_residual-in_err-write_output.result ≡ Err c.in_err-write_output.field-0.0 = search rules in
    let prelude = c.in_ok-prelude.prelude in
    let code = c.in_ok-code.code in
    let own : IsCodeOf (codes "work") (work_script c.args.count) true code = subst (λ (s : List ℕ). IsCodeOf (codes "work") s true code) (c.as_slice.ensures.value ∙ c.in_ok-script.ensures) c.in_ok-code.ensures.code in
    let line = worked_line c.args.count c.len.result c.as_slice-2.result.now c.in_ok-script.script.items (c.as_slice-2.ensures.value ∙ c.in_ok-line.ensures) (search rules) c.in_ok-script.ensures in
    read_map (λ builds sources feeds.
    rw (ap status_of is, c.in_err-write_output.ensures.device)
    (failed_work builds sources c.runs_are_one.ensures.runs c.scripts_do_as_they_mean.ensures.does c.scripts_do_as_they_mean.ensures.means c.prelude_is_alike.ensures c.args.count prelude code
    c.in_ok-prelude.ensures.code (λ other is_prelude. prelude_once prelude other c.in_ok-prelude.ensures.code is_prelude) own c.rules_hold.ensures
    c.in_ok-reader.reader _ _ _ (g.K.Sink.written c.args.out.now) (g.K.Sink.written c.feed.new.out) (g.K.Sink.written c.write_output.new.out) (close_of c.in_ok-close.close) c.feed.new.world _ c.in_ok-reader.ensures c.in_ok-close.ensures.output.only _ c.in_ok-world.ensures.begun feeds c.state_at.ensures
    c.in_err-write_output.ensures.cause.rose (subst (λ t. GrowsByFront t (g.K.Sink.written c.feed.new.out) (g.K.Sink.written c.write_output.new.out)) line c.in_err-write_output.ensures.front))) c.in_ok-close.ensures.fed

pub returns-clause-work : goal.returns-clause-work
returns-clause-work g c =
    let prelude = c.in_ok-prelude.prelude in
    let code = c.in_ok-code.code in
    let own : IsCodeOf (codes "work") (work_script c.args.count) true code = subst (λ (s : List ℕ). IsCodeOf (codes "work") s true code) (c.as_slice.ensures.value ∙ c.in_ok-script.ensures) c.in_ok-code.ensures.code in
    let line = worked_line c.args.count c.len.result c.as_slice-2.result.now c.in_ok-script.script.items (c.as_slice-2.ensures.value ∙ c.in_ok-line.ensures) (search rules) c.in_ok-script.ensures in
    read_map (λ builds sources feeds.
    done_work builds sources c.runs_are_one.ensures.runs c.scripts_do_as_they_mean.ensures.does c.scripts_do_as_they_mean.ensures.means c.prelude_is_alike.ensures c.args.count prelude code
    c.in_ok-prelude.ensures.code (λ other is_prelude. prelude_once prelude other c.in_ok-prelude.ensures.code is_prelude) own c.rules_hold.ensures
    c.in_ok-reader.reader _ _ _ (g.K.Sink.written c.args.out.now) (g.K.Sink.written c.feed.new.out) (g.K.Sink.written c.write_output.new.out) (close_of c.in_ok-close.close) c.feed.new.world _ c.in_ok-reader.ensures c.in_ok-close.ensures.output.only _ c.in_ok-world.ensures.begun feeds c.state_at.ensures
    _ c.status_at.ensures.status c.in_ok-write_output.ensures.cause.only (subst (λ t. g.K.Sink.written c.write_output.new.out ≡ option_map (λ b. b ++ t) (g.K.Sink.written c.feed.new.out)) line c.in_ok-write_output.ensures.written)) c.in_ok-close.ensures.fed

pub returns-in_err-prelude-clause-fits : goal.returns-in_err-prelude-clause-fits
returns-in_err-prelude-clause-fits g c =
    let is : c.from_residual.result ≡ Err (fault_of_prelude c.in_err-prelude.field-0.0) = search rules in
    rw is (prelude_fits (work_script c.args.count) c.in_err-prelude.field-0.0)

pub returns-in_err-script-clause-fits : goal.returns-in_err-script-clause-fits
returns-in_err-script-clause-fits g c = rw (raised c.from_residual-in_err-script.result Memory c.from_residual-in_err-script.ensures.1) tt

pub returns-in_err-line-clause-fits : goal.returns-in_err-line-clause-fits
returns-in_err-line-clause-fits g c = rw (raised c.from_residual-in_err-line.result Memory c.from_residual-in_err-line.ensures.1) tt

pub returns-in_err-reader-clause-fits : goal.returns-in_err-reader-clause-fits
returns-in_err-reader-clause-fits g c = rw (raised c.from_residual-in_err-reader.result Memory c.from_residual-in_err-reader.ensures.1) tt

pub returns-in_err-world-clause-fits : goal.returns-in_err-world-clause-fits
returns-in_err-world-clause-fits g c = rw (raised c.from_residual-in_err-world.result Memory c.from_residual-in_err-world.ensures.1) tt

pub returns-in_err-close-clause-fits : goal.returns-in_err-close-clause-fits
returns-in_err-close-clause-fits g c = rw (raised c.from_residual-in_err-close.result (fault_of_feeding c.in_err-close.field-0.0) c.from_residual-in_err-close.ensures.1) (feeding_fits (work_script c.args.count) c.in_err-close.field-0.0)

pub returns-in_err-write_output-clause-fits : goal.returns-in_err-write_output-clause-fits
returns-in_err-write_output-clause-fits g c =
    let is : c.from_residual-in_err-write_output.result ≡ Err c.in_err-write_output.field-0.0 = search rules in
    rw (is, c.in_err-write_output.ensures.device) tt

pub returns-clause-fits : goal.returns-clause-fits
returns-clause-fits g c = IfErr-weaker c.status_at.result (λ fault. fault ≡ Spent) (λ fault. ScriptFits (work_script c.args.count) fault) (λ fault is. rw is tt) c.status_at.ensures.spent

pub returns-in_err-close-clause-once : goal.returns-in_err-close-clause-once
returns-in_err-close-clause-once g c = omega (arith, c.in_err-close.ensures.output.once)

pub returns-in_err-write_output-clause-once : goal.returns-in_err-write_output-clause-once
returns-in_err-write_output-clause-once g c = omega (arith, c.in_ok-close.ensures.output.only, c.in_err-write_output.ensures.cause.once)

pub returns-clause-once : goal.returns-clause-once
returns-clause-once g c = omega (arith, c.in_ok-close.ensures.output.only, c.in_ok-write_output.ensures.cause.only)
