use Rattle.std.proofs.Common.{◌≡◌, sym, subst, ◌∙◌, rules}
use Rattle.std.proofs.lemmas.Option.{IfSome_then}
use Rattle.lua_stack.specs.Frames.{KeptStack}
use Rattle.machine_arms_tables.specs.Frame.{code}
use Rattle.running_frame.specs.Between.{RunsAmid}
use Rattle.running_frame.proofs.FoundFields.{amid_goes, over_goes, over_runs}
use Rattle.frame_calls.proofs.Takers.{none_then}
use Rattle.running_frame.proofs.stack.read_between.Goals as goal

pub read_open-requires : goal.read_open-requires
read_open-requires g c = (over_runs c.requires.0, c.requires.1.0)

pub returns-in-Some-clause-goes : goal.returns-in-Some-clause-goes
returns-in-Some-clause-goes g c = over_goes c.requires.0.runs.may.closure.texts_are c.in-Some.ensures.goes

pub read_inherited-requires : goal.read_inherited-requires
read_inherited-requires g c =
    let kept : c.read_open.new.stack ≡ c.args.stack.now = search rules in (
      subst (λ (s : KeptStack). RunsAmid g.g (code c.args.closure c.args.around.strings.now) s c.args.tables.now.objects c.args.pc) (sym kept) (c.args.cells.now.objects, c.requires.0),
      c.requires.1.1,
    )

pub returns-in-None-clause-goes : goal.returns-in-None-clause-goes
returns-in-None-clause-goes g c =
    let kept : c.read_open.new.stack ≡ c.args.stack.now = search rules in
    IfSome_then c.read_inherited.result c.read_inherited.ensures.goes (λ to x. amid_goes kept x)

pub returns-in-None-clause-kept : goal.returns-in-None-clause-kept
returns-in-None-clause-kept g c =
    let kept : c.read_open.new.stack ≡ c.args.stack.now = search rules in
    none_then c.read_inherited.result (λ (e : c.read_inherited.new.stack ≡ c.read_open.new.stack). e ∙ kept) c.read_inherited.ensures.kept
