use Rattle.std.proofs.Common.{◌≤◌, ◌∙◌, ap, arith, length, rules, subst}
use Rattle.machine_arms_tables.specs.Making.{AddsEmpty}
use Rattle.machine_arms_tables.proofs.making.add_table.Goals as goal

pub place_table-requires : goal.place_table-requires
place_table-requires c =
    let room : 1 ≤ c.reserve.new.self.spare = search rules in
    omega (arith, room)

pub returns-in-Ok-clause-id : goal.returns-in-Ok-clause-id
returns-in-Ok-clause-id c = c.place_table.ensures.id ∙ ap length c.reserve.ensures.objects

pub returns-in-Ok-clause-added : goal.returns-in-Ok-clause-added
returns-in-Ok-clause-added c = subst (λ ts. AddsEmpty ts c.place_table.new.tables.objects) c.reserve.ensures.objects c.place_table.ensures.added
