use Rattle.std.proofs.Common.{◌∙◌}
use Rattle.frame_calls.specs.Crossing.{by_call}
use Rattle.frame_calls.proofs.Takers.{crosses_still, kept_still, none_so, some_so, still_may}
use Rattle.frame_calls.proofs.crossing.cross_over_at.Goals as goal

pub returns-in-Some-clause-crosses : goal.returns-in-Some-clause-crosses
returns-in-Some-clause-crosses c = by_call (some_so c.in-Some.is c.call_function.ensures.calls)

pub return_at-requires : goal.return_at-requires
return_at-requires c =
    let k = none_so c.in-None.is c.call_function.ensures.kept in
    still_may k.0 c.requires

pub returns-in-None-clause-crosses : goal.returns-in-None-clause-crosses
returns-in-None-clause-crosses c =
    let k = none_so c.in-None.is c.call_function.ensures.kept in
    crosses_still c.return_at.new.stack c.return_at.new.budget c.return_at.result k.0 k.1 c.args.stop c.return_at.ensures.crosses

pub returns-in-None-clause-kept : goal.returns-in-None-clause-kept
returns-in-None-clause-kept c =
    let k = none_so c.in-None.is c.call_function.ensures.kept in
    kept_still c.return_at.new.stack c.return_at.new.budget c.return_at.result k.0 k.1 c.return_at.ensures.kept

pub returns-in-None-clause-listed : goal.returns-in-None-clause-listed
returns-in-None-clause-listed c = c.return_at.ensures.listed ∙ c.call_function.ensures.listed
