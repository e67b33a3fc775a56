use Rattle.machine_moves.proofs.Opening.{has_register, opened_made, opened_stands}
use Rattle.machine_moves.proofs.cells.open_register.Goals as goal

pub open_cell-requires-clause-there : goal.open_cell-requires-clause-there
open_cell-requires-clause-there c = has_register c.args.world.now c.args.register c.requires.there

pub returns-clause-makes : goal.returns-clause-makes
returns-clause-makes c = λ env. opened_made c.args.world.now c.open_cell.new.self c.args.register env c.requires.there c.in_ok-open_cell.ensures.opened

pub returns-clause-at : goal.returns-clause-at
returns-clause-at c = λ pc s. opened_stands c.args.world.now c.open_cell.new.self c.args.register pc (c.in_ok-open_cell.ensures.opened 0) s
