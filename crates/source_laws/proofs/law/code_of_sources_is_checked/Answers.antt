use Rattle.source_laws.proofs.Checked.{source_checked}
use Rattle.source_laws.proofs.law.code_of_sources_is_checked.Goals as goal

pub returns : goal.returns
returns c = λ source tokens tree small t d keeps name named. source_checked source tokens tree small t d keeps name named
