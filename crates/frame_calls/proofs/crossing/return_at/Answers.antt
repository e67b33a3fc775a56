use Rattle.std.proofs.Common.{refl, ◌∙◌}
use Rattle.frame_calls.specs.Crossing.{by_counted_return}
use Rattle.frame_calls.proofs.Takers.{crosses_still, kept_still, none_so, some_so, still_may}
use Rattle.frame_calls.proofs.crossing.return_at.Goals as goal

pub returns-in-Some-clause-crosses : goal.returns-in-Some-clause-crosses
returns-in-Some-clause-crosses c = by_counted_return (some_so c.in-Some.is c.return_one.ensures.returns) refl

pub cross_otherwise-requires : goal.cross_otherwise-requires
cross_otherwise-requires c = still_may (none_so c.in-None.is c.return_one.ensures.kept) c.requires

pub returns-in-None-clause-crosses : goal.returns-in-None-clause-crosses
returns-in-None-clause-crosses c = crosses_still c.cross_otherwise.new.stack c.cross_otherwise.new.budget c.cross_otherwise.result (none_so c.in-None.is c.return_one.ensures.kept) refl c.args.stop c.cross_otherwise.ensures.crosses

pub returns-in-None-clause-kept : goal.returns-in-None-clause-kept
returns-in-None-clause-kept c = kept_still c.cross_otherwise.new.stack c.cross_otherwise.new.budget c.cross_otherwise.result (none_so c.in-None.is c.return_one.ensures.kept) refl c.cross_otherwise.ensures.kept

pub returns-in-None-clause-listed : goal.returns-in-None-clause-listed
returns-in-None-clause-listed c = c.cross_otherwise.ensures.listed ∙ c.return_one.ensures.listed
