use Rattle.std.proofs.Common.{rules, ◌≡◌, sym, subst}
use Rattle.lua_heap.specs.declared.world.World.{World as Memory}
use Rattle.move_laws.specs.Memory.{StandsAt}
use Rattle.machine_moves.proofs.NewObjects.{if_ok_on, table_made}
use Rattle.machine_moves.proofs.objects.make_table.Goals as goal

pub returns-clause-makes : goal.returns-clause-makes
returns-clause-makes c =
    if_ok_on c.add_table.result c.add_table.ensures.id c.add_table.ensures.added
    (λ id n a env. table_made c.args.world.now c.add_table.new.self c.new-table.result id.0 env c.requires a n c.new-table.ensures.rows c.new-table.ensures.metatable)

pub returns-clause-at : goal.returns-clause-at
returns-clause-at c = λ pc s.
    let W = c.args.world.now in
    let rest : ◌≡◌ {A = Memory} c.add_table.new.self (record W { tables = c.add_table.new.self.tables }) = search rules in
    subst (λ V. StandsAt V pc) (sym rest) (record { place = s.place; is = s.is; at = s.at })
