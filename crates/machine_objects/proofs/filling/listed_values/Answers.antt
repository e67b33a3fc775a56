use Rattle.std.proofs.Common.{subst}
use Rattle.machine_core.specs.Text.{read_list, read_registers}
use Rattle.machine_core.specs.InstructionRows.{read_values}
use Rattle.machine_core.specs.FrameRows.{expand}
use Rattle.move_laws.specs.Memory.{IsSafe}
use Rattle.move_laws.proofs.Rows.{can_do}
use Rattle.machine_call_rows.proofs.Read.{list_read, registers_read}
use Rattle.machine_objects.specs.Filling.{counted}
use Rattle.machine_objects.proofs.Filled.{none_counted, some_counted}
use Rattle.machine_objects.proofs.filling.listed_values.Goals as goal

pub read_list-requires-clause-there : goal.read_list-requires-clause-there
read_list-requires-clause-there c =
    let h = c.requires.safe in
    can_do (read_list c.args.from) (λ n s. expand (h.rest n s)) (subst (λ n. IsSafe (expand (read_values c.args.from n h.rest)) h.env c.args.world.now) (none_counted c.args.count c.if-count-eq0.true) h.safe)

pub read_registers-requires : goal.read_registers-requires
read_registers-requires c =
    let h = c.requires.safe in
    can_do (read_registers c.args.from c.args.count) (λ n s. expand (h.rest n s)) (subst (λ n. IsSafe (expand (read_values c.args.from n h.rest)) h.env c.args.world.now) (some_counted c.args.count c.if-count-eq0.false) h.safe)

pub returns-then-count-eq0 : goal.returns-then-count-eq0
returns-then-count-eq0 c = list_read c.args.world.now c.args.from (counted c.args.count) c.read_list.result.now (none_counted c.args.count c.if-count-eq0.true) c.read_list.ensures

pub returns : goal.returns
returns c = registers_read c.args.world.now c.args.from (counted c.args.count) c.args.count c.read_registers.result.now (some_counted c.args.count c.if-count-eq0.false) c.read_registers.ensures
