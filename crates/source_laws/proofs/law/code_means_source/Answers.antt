use Rattle.source_laws.proofs.Meaning.{source_means}
use Rattle.source_laws.proofs.law.code_means_source.Goals as goal

pub returns : goal.returns
returns c = λ source tokens tree small t d keeps name. source_means source tokens tree small t d keeps name
