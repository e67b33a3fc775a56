use Rattle.std.proofs.Common.{[], sym, subst}
use Rattle.int_core.specs.Value.{nil, is_known}
use Rattle.machine_core.specs.Moves.{on_own}
use Rattle.move_laws.specs.Memory.{CanDo, Makes}
use Rattle.machine_moves.proofs.OnTop.{on_ok}
use Rattle.machine_returns.proofs.Taken.{none_written, some_written}
use Rattle.machine_returns.proofs.results.write_values.Goals as goal

pub write_list-requires : goal.write_list-requires
write_list-requires c = subst (CanDo c.args.world.now) (none_written c.args.to 0 c.args.count c.if-count-eq0.true) c.requires

pub write_registers-requires : goal.write_registers-requires
write_registers-requires c = subst (CanDo c.args.world.now) (some_written c.args.to 0 c.args.count c.if-count-eq0.false) c.requires

pub returns-then-count-eq0-clause-makes : goal.returns-then-count-eq0-clause-makes
returns-then-count-eq0-clause-makes c =
    on_ok c.write_list.result c.write_list.ensures.makes (λ m env slot e.
    subst (λ m. Makes c.args.world.now c.write_list.new.world (on_own m) env [] (is_known nil)) (sym (none_written c.args.to slot c.args.count c.if-count-eq0.true)) (m env slot e))

pub returns-clause-makes : goal.returns-clause-makes
returns-clause-makes c = λ env slot e.
    subst (λ m. Makes c.args.world.now c.write_registers.new.world (on_own m) env [] (is_known nil)) (sym (some_written c.args.to slot c.args.count c.if-count-eq0.false)) (c.write_registers.ensures.makes env slot e)

pub returns-clause-at : goal.returns-clause-at
returns-clause-at c = c.write_registers.ensures.stays.at

pub returns-clause-listed : goal.returns-clause-listed
returns-clause-listed c = c.write_registers.ensures.stays.listed

pub returns-clause-rest : goal.returns-clause-rest
returns-clause-rest c = c.write_registers.ensures.stays.rest
