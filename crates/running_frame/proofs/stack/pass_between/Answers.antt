use Rattle.std.proofs.Common.{◌≡◌, sym, subst, ◌∙◌, rules}
use Rattle.std.specs.Prelude.{IfSome}
use Rattle.std.proofs.lemmas.Option.{IfSome_then}
use Rattle.lua_stack.specs.Frames.{KeptStack}
use Rattle.machine_arms_tables.specs.Frame.{code}
use Rattle.running_frame.specs.Between.{GoesWith, RunsOver}
use Rattle.running_frame.proofs.FoundFields.{over_goes, over_runs}
use Rattle.frame_calls.proofs.Takers.{none_then}
use Rattle.running_frame.proofs.stack.pass_between.Goals as goal

pub read_between-requires : goal.read_between-requires
read_between-requires g c = (c.requires.0, c.requires.1.1)

pub returns-in-Some-clause-goes : goal.returns-in-Some-clause-goes
returns-in-Some-clause-goes g c =
    subst (λ o. IfSome o (λ to. GoesWith g.g (code c.args.closure c.args.around.strings.now) c.args.stack.now c.read_between.new.stack c.args.tables.now.objects c.args.cells.now.objects c.args.pc to)) c.in-Some.is c.read_between.ensures.goes

pub pass_close-requires : goal.pass_close-requires
pass_close-requires g c =
    let kept : c.read_between.new.stack ≡ c.args.stack.now = search rules in
    (subst (λ (s : KeptStack). RunsOver g.g (code c.args.closure g.g.around.texts) s c.args.cells.now.objects c.args.pc) (sym kept) (over_runs c.requires.0), c.requires.1.0)

pub returns-in-None-clause-goes : goal.returns-in-None-clause-goes
returns-in-None-clause-goes g c =
    let kept : c.read_between.new.stack ≡ c.args.stack.now = search rules in
    IfSome_then c.pass_close.result c.pass_close.ensures.goes (λ to x.
    subst (λ (s : KeptStack). GoesWith g.g (code c.args.closure c.args.around.strings.now) s c.pass_close.new.stack c.args.tables.now.objects c.args.cells.now.objects c.args.pc to) kept
    (over_goes c.requires.0.runs.may.closure.texts_are x))

pub returns-in-None-clause-kept : goal.returns-in-None-clause-kept
returns-in-None-clause-kept g c =
    let kept : c.read_between.new.stack ≡ c.args.stack.now = search rules in
    none_then c.pass_close.result (λ (e : c.pass_close.new.stack ≡ c.read_between.new.stack). e ∙ kept) c.pass_close.ensures.kept
