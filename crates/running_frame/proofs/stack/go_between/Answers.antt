use Rattle.std.proofs.Common.{refl, subst}
use Rattle.std.specs.Prelude.{IfSome}
use Rattle.machine_loop.specs.Knowing.{AllHold}
use Rattle.frame_calls.specs.Standing.{standing}
use Rattle.frame_calls.proofs.Chained.{reaches_none}
use Rattle.running_frame.proofs.FoundFields.{over_runs}
use Rattle.running_frame.proofs.stack.go_between.Goals as goal

pub remember-requires : goal.remember-requires
remember-requires g c = (over_runs c.requires.0, (c.requires.1.1.0, c.requires.1.1.1.1))

pub returns-in-Some-clause-goes : goal.returns-in-Some-clause-goes
returns-in-Some-clause-goes g c = record {
  runs = λ fuel x. x;
  reaches = λ fuel x. reaches_none g.g.around.rows (standing g.g c.args.stack.now c.args.tables.now.objects c.args.cells.now.objects fuel);
  listed = refl;
}

pub returns-in-Some-clause-known : goal.returns-in-Some-clause-known
returns-in-Some-clause-known g c = subst (λ o. IfSome o (λ more. AllHold g.g.around c.args.closure.upvalues.now c.args.cells.now.objects more)) c.in-Some.is c.remember.ensures

pub pass_between-requires : goal.pass_between-requires
pass_between-requires g c = (c.requires.0, (c.requires.1.0, (c.requires.1.1.0, c.requires.1.1.1.0)))

pub returns-in-None-clause-known : goal.returns-in-None-clause-known
returns-in-None-clause-known g c = c.requires.1.1.1.1
