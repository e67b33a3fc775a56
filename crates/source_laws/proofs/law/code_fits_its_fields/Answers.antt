use Rattle.source_laws.proofs.Fields.{fits}
use Rattle.source_laws.proofs.law.code_fits_its_fields.Goals as goal

pub returns : goal.returns
returns c = λ source tokens tree small t d r. fits source tokens tree small t d r
