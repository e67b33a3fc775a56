use Rattle.lua_pattern.proofs.Starts.{passed_by, passed_nothing, within_part}
use Rattle.lua_pattern.proofs.begins.next_start.Goals as goal

pub returns-in-Some-clause-within : goal.returns-in-Some-clause-within
returns-in-Some-clause-within c = within_part c.args.subject.now c.span.result.now c.args.at c.args.left c.others.result c.span.ensures c.others.ensures.within

pub returns-in-Some-clause-passed : goal.returns-in-Some-clause-passed
returns-in-Some-clause-passed c =
    passed_by c.args.subject.now c.span.result.now c.args.items.now c.in-Some.class.now c.args.at c.args.left c.others.result c.in-Some.ensures c.span.ensures c.others.ensures.value c.requires

pub returns-in-None-clause-passed : goal.returns-in-None-clause-passed
returns-in-None-clause-passed c = passed_nothing c.args.subject.now c.args.items.now c.args.at
