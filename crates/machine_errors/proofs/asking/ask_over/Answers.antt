use Rattle.std.proofs.Common.{rules, ◌≡◌, ap, subst, false, true}
use Rattle.lua_heap.specs.declared.world.World.{World as Memory}
use Rattle.machine_errors.proofs.Asked.{asked_full, asked_room, IsPushed}
use Rattle.machine_errors.proofs.asking.ask_over.Goals as goal

pub returns-then-not-branch-clause-asks : goal.returns-then-not-branch-clause-asks
returns-then-not-branch-clause-asks c =
    let W = c.args.world.now in
    let room : c.in_ok-push_frame.field-0 ≡ false = search rules in
    asked_full W c.push_frame.new.world c.args.over c.args.asked.items (subst (IsPushed W c.push_frame.new.world c.args.over) room c.in_ok-push_frame.ensures.makes)

pub returns-clause-asks : goal.returns-clause-asks
returns-clause-asks c =
    let W = c.args.world.now in
    let room : c.in_ok-push_frame.field-0 ≡ true = search rules in
    asked_room W c.push_frame.new.world c.give_values.new.world c.args.over c.args.asked.items (subst (IsPushed W c.push_frame.new.world c.args.over) room c.in_ok-push_frame.ensures.makes)
    (ap (λ (W : Memory). W.strings) c.push_frame.ensures.rest) c.give_values.ensures.more
