use Rattle.move_laws.proofs.Running.{has_stack}
use Rattle.machine_moves.proofs.Closing.{closed_made, closed_stands}
use Rattle.machine_moves.proofs.cells.close_cells.Goals as goal

pub running-co-requires : goal.running-co-requires
running-co-requires c = has_stack c.args.world.now c.requires.frame.place c.requires.frame.is

pub returns-clause-makes : goal.returns-clause-makes
returns-clause-makes c = λ env.
    let r = c.running-co.ensures in
    closed_made c.args.world.now c.close_cells.new.self c.running-co.result r.stack c.requires.frame.place c.args.register env r.runs c.requires.frame.is c.close_cells.ensures.closed

pub returns-clause-at : goal.returns-clause-at
returns-clause-at c = λ pc s.
    let r = c.running-co.ensures in
    closed_stands c.args.world.now c.close_cells.new.self c.running-co.result r.stack c.args.register pc r.runs (c.close_cells.ensures.closed 0) s
