use Rattle.frame_calls.proofs.calling.function_in.Goals as goal

pub returns : goal.returns
returns c = record { registers = c.registers.result.now; are = c.registers.ensures; holds = c.in_ok-id.ensures; has = c.in_ok-shape.ensures }
