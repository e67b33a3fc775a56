use Rattle.lua_stack.specs.Frames.{frames}
use Rattle.lua_heap.specs.Reading.{value}
use Rattle.machine_moves.proofs.Stacks.{within}
use Rattle.machine_coroutines.proofs.Ended.{has_frames, ends_is}
use Rattle.machine_coroutines.proofs.ends.end_as.Goals as goal

pub bury-requires-clause-there : goal.bury-requires-clause-there
bury-requires-clause-there c = within c.running-co.ensures

pub returns-clause-ends : goal.returns-clause-ends
returns-clause-ends c = λ fuel.
    let W = c.args.world.now in
    let r = c.running-co.ensures in
    ends_is W c.bury.new.world c.back_to_resumer.new.self c.running-co.result r.stack c.args.coro fuel r.runs
    (c.bury.ensures.plain fuel (frames (value W.strings) r.stack) (has_frames W c.running-co.result r.stack fuel r.runs)) (c.back_to_resumer.ensures.plain fuel)
