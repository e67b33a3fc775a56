use Rattle.std.proofs.Common.{subst}
use Rattle.std.specs.Prelude.{IsSome}
use Rattle.lua_heap.specs.Changes.{value_in}
use Rattle.lua_heap.specs.Plain.{plain}
use Rattle.machine_moves.proofs.OfCode.{same_cell, upvalue_written, upvalue_stands}
use Rattle.machine_moves.proofs.upvalues.write_upvalue.Goals as goal

pub cell_of-cell-requires : goal.cell_of-cell-requires
cell_of-cell-requires c = let h = c.requires.there in record { place = h.place; is = h.is; cell = h.cell; there = h.there }

pub set_cell-requires-clause-there : goal.set_cell-requires-clause-there
set_cell-requires-clause-there c =
    let W = c.args.world.now in
    subst (λ n. IsSome (value_in (plain W 0) n)) (same_cell W c.args.upvalue c.cell_of-cell.result c.requires.there c.cell_of-cell.ensures) c.requires.there.value

pub returns-clause-makes : goal.returns-clause-makes
returns-clause-makes c = λ env x e.
    upvalue_written c.args.world.now c.set_cell.new.self c.args.upvalue c.cell_of-cell.result c.args.given env x c.requires.there c.cell_of-cell.ensures e c.set_cell.ensures.written

pub returns-clause-at : goal.returns-clause-at
returns-clause-at c = λ pc s. upvalue_stands c.args.world.now c.set_cell.new.self c.cell_of-cell.result.0 c.args.given pc (c.set_cell.ensures.written 0) s
