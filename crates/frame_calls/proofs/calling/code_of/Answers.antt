use Rattle.frame_calls.proofs.calling.code_of.Goals as goal

pub get-code-requires : goal.get-code-requires
get-code-requires c = c.requires.code_there c.args.id.0 c.get-func.result.now c.get-func.ensures

pub returns : goal.returns
returns c = record { func = c.get-func.result.now; func_there = c.get-func.ensures; code_there = c.get-code.ensures }
