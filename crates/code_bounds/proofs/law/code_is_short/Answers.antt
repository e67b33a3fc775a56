use Rattle.std.proofs.Common.{arith}
use Rattle.code_bounds.proofs.ShortExpressions.{exp_short}
use Rattle.code_bounds.proofs.ShortStatements.{stat_short, block_short}
use Rattle.code_bounds.proofs.ShortBodies.{body_short}
use Rattle.code_bounds.proofs.law.code_is_short.Goals as goal

pub returns : goal.returns
returns c = record {
  of_exp = λ constants e t j c. omega (arith, exp_short constants e t j c);
  of_stat = λ constants back s closing t j. stat_short constants back s closing t j;
  of_block = λ constants back block closing outer t j. block_short constants back block closing outer t j;
  of_body = body_short;
}
