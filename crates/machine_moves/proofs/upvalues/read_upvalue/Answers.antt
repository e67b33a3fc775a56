use Rattle.std.proofs.Common.{ap, subst, ◌∙◌}
use Rattle.std.specs.Prelude.{IsSome}
use Rattle.lua_heap.specs.Changes.{value_in}
use Rattle.lua_heap.specs.Plain.{plain}
use Rattle.machine_moves.proofs.OfCode.{same_cell, upvalue_made}
use Rattle.machine_moves.proofs.upvalues.read_upvalue.Goals as goal

pub cell_of-requires : goal.cell_of-requires
cell_of-requires c = let h = c.requires.there in record { place = h.place; is = h.is; cell = h.cell; there = h.there }

pub cell_value-requires-clause-there : goal.cell_value-requires-clause-there
cell_value-requires-clause-there c =
    let W = c.args.world.now in
    subst (λ n. IsSome (value_in (plain W 0) n)) (same_cell W c.args.upvalue c.cell_of.result c.requires.there c.cell_of.ensures) c.requires.there.value

pub returns : goal.returns
returns c = λ env.
    let W = c.args.world.now in
    upvalue_made W c.requires.there.place c.args.upvalue c.requires.there.cell c.cell_value.result env c.requires.there.is c.requires.there.there
    (λ fuel. ap (value_in (plain W fuel)) (same_cell W c.args.upvalue c.cell_of.result c.requires.there c.cell_of.ensures) ∙ c.cell_value.ensures fuel)
