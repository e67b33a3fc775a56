use Rattle.std.proofs.Common.{◌≡◌, suc, ◌-◌, subst, arith}
use Rattle.machine_core.specs.Text.{read_list, read_registers}
use Rattle.machine_core.specs.InstructionRows.{read_values}
use Rattle.machine_core.specs.FrameRows.{expand}
use Rattle.move_laws.specs.Memory.{IsSafe}
use Rattle.move_laws.proofs.Rows.{can_do}
use Rattle.machine_call_rows.proofs.Read.{list_read, registers_read}
use Rattle.machine_call_rows.proofs.calls.read_values.Goals as goal

pub read_list-requires-clause-there : goal.read_list-requires-clause-there
read_list-requires-clause-there c =
    let h = c.requires.safe in
    can_do (read_list c.args.from) (λ n s. expand (h.rest n s)) (subst (λ n. IsSafe (expand (read_values c.args.from n h.rest)) h.env c.args.world.now) c.if-count-eq0.true h.safe)

pub read_registers-requires : goal.read_registers-requires
read_registers-requires c =
    let h = c.requires.safe in
    let one_more : c.args.count ≡ suc (c.args.count - 1) = (let z = c.if-count-eq0.false in omega (arith, z)) in
    can_do (read_registers c.args.from (c.args.count - 1)) (λ n s. expand (h.rest n s)) (subst (λ n. IsSafe (expand (read_values c.args.from n h.rest)) h.env c.args.world.now) one_more h.safe)

pub returns-then-count-eq0 : goal.returns-then-count-eq0
returns-then-count-eq0 c = list_read c.args.world.now c.args.from c.args.count c.read_list.result.now c.if-count-eq0.true c.read_list.ensures

pub returns : goal.returns
returns c =
    let one_more : c.args.count ≡ suc (c.args.count - 1) = (let z = c.if-count-eq0.false in omega (arith, z)) in
    registers_read c.args.world.now c.args.from c.args.count (c.args.count - 1) c.read_registers.result.now one_more c.read_registers.ensures
