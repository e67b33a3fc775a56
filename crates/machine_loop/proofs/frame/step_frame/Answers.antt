use Rattle.std.proofs.Common.{sym}
use Rattle.machine_arms_tables.proofs.Steps.{place_there, at_opcode}
use Rattle.machine_arms_tables.specs.Frame.{code, moment}
use Rattle.machine_loop.proofs.Stepping.{step_once}
use Rattle.machine_loop.proofs.frame.step_frame.Goals as goal

pub fetch-i-requires : goal.fetch-i-requires
fetch-i-requires g c = place_there g.g.around g.g.string_metatable (code c.args.closure c.args.strings.now) (moment c.args.tables.now.objects c.args.cells.now.objects c.args.registers.now c.args.pc c.args.fuel.now) c.requires

pub run_instruction-requires : goal.run_instruction-requires
run_instruction-requires g c =
    at_opcode g.g.around g.g.string_metatable (code c.args.closure c.args.strings.now) (moment c.args.tables.now.objects c.args.cells.now.objects c.args.registers.now c.args.pc c.args.fuel.now) c.requires
    c.fetch-i.result c.in_ok-op.op c.fetch-i.ensures (sym c.in_ok-op.ensures)

pub returns-clause-once : goal.returns-clause-once
returns-clause-once g c =
    step_once g.g (code c.args.closure c.args.strings.now) (moment c.args.tables.now.objects c.args.cells.now.objects c.args.registers.now c.args.pc c.args.fuel.now) c.requires
    c.fetch-i.result c.in_ok-op.op _ _ _ _ _ c.fetch-i.ensures c.in_ok-op.ensures c.run_instruction.ensures.goes
