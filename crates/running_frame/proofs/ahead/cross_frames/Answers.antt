use Rattle.std.proofs.Common.{length, ap, sym}
use Rattle.library_rows.specs.Library.{all_entries}
use Rattle.lua_heap.specs.declared.world.World.{World as Memory}
use Rattle.move_laws.proofs.Running.{has_stack}
use Rattle.machine_moves.proofs.InPlace.{found}
use Rattle.machine_moves.proofs.Stacks.{within}
use Rattle.step_laws.proofs.Ready.{go_has_frame}
use Rattle.running_frame.proofs.Crossed.{begins_so, own_co, reaches_so, ready_so}
use Rattle.running_frame.proofs.ahead.cross_frames.Goals as goal

pub running-co-requires : goal.running-co-requires
running-co-requires g c =
    let f = go_has_frame (length all_entries) c.args.world.now c.requires.ready in
    has_stack c.args.world.now f.place f.is

pub get_mut-requires : goal.get_mut-requires
get_mut-requires g c = within c.running-co.ensures

pub cross_stack-requires : goal.cross_stack-requires
cross_stack-requires g c =
    let r = found c.running-co.ensures c.get_mut.ensures.value c.in-Running.is in
    (begins_so g.outside c.args.world.now c.requires c.running-co.result c.in-Running.stack r, (own_co g.outside c.args.world.now c.requires c.running-co.result c.in-Running.stack r, sym (ap (λ (W : Memory). W.string_meta) c.requires.is)))

pub returns-clause-reaches : goal.returns-clause-reaches
returns-clause-reaches g c =
    let r = found c.running-co.ensures c.get_mut.ensures.value c.in-Running.is in
    reaches_so g.outside c.args.world.now c.requires c.running-co.result c.in-Running.stack r c.cross_stack.new.tables c.cross_stack.new.cells c.cross_stack.new.stack
    c.args.budget.now c.cross_stack.new.budget c.cross_stack.ensures.reaches

pub returns-clause-ready : goal.returns-clause-ready
returns-clause-ready g c =
    let r = found c.running-co.ensures c.get_mut.ensures.value c.in-Running.is in
    ready_so g.outside c.args.world.now c.requires c.running-co.result c.in-Running.stack r c.cross_stack.new.tables c.cross_stack.new.cells c.cross_stack.new.stack c.cross_stack.ensures.may
