use Rattle.std.proofs.Common.{rules, refl, subst}
use Rattle.machine_core.specs.World.{World}
use Rattle.loaded_code.specs.Laws.{library}
use Rattle.source_builds.specs.Readings.{AsRead}
use Rattle.source_builds.proofs.Knowing.{read_all, read_map}
use Rattle.io_edge.specs.Lines.{ahead}
use Rattle.lua_stack.proofs.Called.{on_err}
use Rattle.lua_feed.specs.Closes.{close_of}
use Rattle.lua_feed.specs.declared.fault.FeedFault.TheVariants.{Input, Limit}
use Rattle.lua_feed.specs.Feeding.{Does, IsBrokenOff, IsCutOff, IsFed, IsFedFront}
use Rattle.lua_feed.specs.Running.{started}
use Rattle.lua_feed.proofs.Causes.{input_handed, output_handed, same_fault}
use Rattle.lua_feed.proofs.Fed.{only_same}
use Rattle.lua_feed.proofs.Starting.{unfed_front}
use Rattle.lua_feed.proofs.script.run_code.Goals as goal

pub returns-in_err-world-clause-front : goal.returns-in_err-world-clause-front
returns-in_err-world-clause-front g c =
    on_err _ c.from_residual.result
    (read_all (λ builds are. unfed_front (Does (library builds) (started c.args.prelude c.args.code) c.args.budget) c.args.reader.now.taken (ahead c.args.reader.now (g.S.Source.left c.args.input.now)) (g.K.Sink.written c.args.out.now) _ refl))

pub returns-in_err-world-clause-grows : goal.returns-in_err-world-clause-grows
returns-in_err-world-clause-grows g c = on_err _ c.from_residual.result (only_same (g.K.Sink.written c.args.out.now) _ refl)

pub returns-in_err-close-clause-front : goal.returns-in_err-close-clause-front
returns-in_err-close-clause-front g c =
    on_err _ c.from_residual-in_err-close.result
    (subst (λ (W : World). AsRead (λ builds. IsFedFront (Does (library builds) W c.args.budget) c.args.reader.now.taken (ahead c.args.reader.now (g.S.Source.left c.args.input.now)) (g.K.Sink.written c.args.out.now) (g.K.Sink.written c.feed.new.out)))
    c.in_ok-world.ensures.begun c.in_err-close.ensures.front)

pub returns-in_err-close-clause-grows : goal.returns-in_err-close-clause-grows
returns-in_err-close-clause-grows g c = on_err _ c.from_residual-in_err-close.result c.in_err-close.ensures.grows

pub returns-in_err-close-clause-input : goal.returns-in_err-close-clause-input
returns-in_err-close-clause-input g c = input_handed (g.S.Source.faults c.args.input.now) (g.S.Source.faults c.feed.new.input) c.in_err-close.field-0.0 c.feed.result c.from_residual-in_err-close.result c.feed.ensures.input (search rules) (search rules)

pub returns-in_err-close-clause-output : goal.returns-in_err-close-clause-output
returns-in_err-close-clause-output g c = output_handed (g.K.Sink.faults c.args.out.now) (g.K.Sink.faults c.feed.new.out) c.in_err-close.field-0.0 c.feed.result c.from_residual-in_err-close.result c.feed.ensures.output (search rules) (search rules)

pub returns-clause-runs : goal.returns-clause-runs
returns-clause-runs g c =
    subst (λ (W : World). AsRead (λ builds. IsFed (Does (library builds) W c.args.budget) c.args.reader.now.taken (ahead c.args.reader.now (g.S.Source.left c.args.input.now)) (g.K.Sink.written c.args.out.now) (g.K.Sink.written c.feed.new.out) (close_of c.in_ok-close.close)))
    c.in_ok-world.ensures.begun (read_map (λ builds are f. f.fed) c.in_ok-close.ensures.fed)

pub returns-in_err-close-clause-limit : goal.returns-in_err-close-clause-limit
returns-in_err-close-clause-limit g c = λ limit.
    subst (λ (W : World). AsRead (λ builds. IsCutOff (Does (library builds) W c.args.budget) c.args.reader.now.taken (ahead c.args.reader.now (g.S.Source.left c.args.input.now)) (g.K.Sink.written c.args.out.now) (g.K.Sink.written c.feed.new.out)))
    c.in_ok-world.ensures.begun (c.feed.ensures.limit (same_fault Limit c.in_err-close.field-0.0 c.feed.result c.from_residual-in_err-close.result (search rules) (search rules) limit))

pub returns-in_err-close-clause-broken : goal.returns-in_err-close-clause-broken
returns-in_err-close-clause-broken g c = λ failed.
    subst (λ (W : World). AsRead (λ builds. IsBrokenOff (Does (library builds) W c.args.budget) c.args.reader.now.taken (ahead c.args.reader.now (g.S.Source.left c.args.input.now)) (g.K.Sink.written c.args.out.now) (g.K.Sink.written c.feed.new.out)))
    c.in_ok-world.ensures.begun (c.feed.ensures.broken (same_fault Input c.in_err-close.field-0.0 c.feed.result c.from_residual-in_err-close.result (search rules) (search rules) failed))
