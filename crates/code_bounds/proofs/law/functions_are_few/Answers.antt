use Rattle.code_bounds.proofs.Counts.{made_block, written_block}
use Rattle.code_bounds.proofs.law.functions_are_few.Goals as goal

pub returns : goal.returns
returns c = record { of_block = made_block; of_weight = written_block }
