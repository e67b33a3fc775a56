use Rattle.machine_arms_tables.proofs.making.place_table.Goals as goal

pub returns-clause-added : goal.returns-clause-added
returns-clause-added c = record { table = c.new-table.result; rows = c.new-table.ensures.rows; metatable = c.new-table.ensures.metatable; added = c.place.ensures.appended.objects }
