use Rattle.std.proofs.Common.{rules, ◌≡◌, None}
use Rattle.lua_session.proofs.Waking.{has_yielded, main_within, no_main, not_begun}
use Rattle.lua_session.proofs.resuming.resume_main.Goals as goal

pub unreachable-requires : goal.unreachable-requires
unreachable-requires c = let none : c.args.world.now.main ≡ None = search rules in no_main c.args.world.now c.requires.may none

pub get-requires : goal.get-requires
get-requires c = main_within c.args.world.now c.requires.may c.in-Some.main c.in-Some.is

pub begin_main-requires-clause-fresh : goal.begin_main-requires-clause-fresh
begin_main-requires-clause-fresh c = not_begun c.args.world.now c.in-Some.main c.get.result.now c.in-Some-body_of.body c.get.ensures (search rules)

pub go_on_main-requires-clause-yielded : goal.go_on_main-requires-clause-yielded
go_on_main-requires-clause-yielded c = has_yielded c.args.world.now c.requires.may c.in-Some.main c.get.result.now c.in-Some.is c.get.ensures (search rules)
