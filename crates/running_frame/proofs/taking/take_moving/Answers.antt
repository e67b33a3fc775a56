use Rattle.std.proofs.Common.{◌≡◌, [], length, map, refl, rules, subst}
use Rattle.library_rows.specs.Library.{all_entries}
use Rattle.lua_heap.specs.declared.world.World.{World as Memory}
use Rattle.frame_calls.specs.Returning.{AreFirst}
use Rattle.running_frame.proofs.Taken.{taken_reaches}
use Rattle.running_frame.proofs.taking.take_moving.Goals as goal

pub returns-clause-reaches : goal.returns-clause-reaches
returns-clause-reaches c =
    let W : Memory = c.args.world.now in
    let U : Memory = c.take_on_top.new.world in
    let V : Memory = record U { moving = c.clear.new.self } in
    let none : V.moving.items ≡ [] = search rules in
    let given : AreFirst (λ f. map f W.moving.items) c.first_two-given.result = subst (λ values. AreFirst (λ f. map f values) c.first_two-given.result) c.deref.ensures.value c.first_two-given.ensures in
    let many : c.len-count.result ≡ length W.moving.items = search rules in
    taken_reaches (length all_entries) W c.requires.ready c.checked_code_is_there.ensures U V c.first_two-given.result c.len-count.result given many c.in_ok-take_on_top.ensures.takes refl none

pub returns-clause-order : goal.returns-clause-order
returns-clause-order c = let o = c.take_on_top.ensures.order in record { codes = o.codes; listed = o.listed }
