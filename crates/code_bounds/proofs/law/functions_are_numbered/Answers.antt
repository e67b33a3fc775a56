use Rattle.code_bounds.proofs.Functions.{body_made}
use Rattle.code_bounds.proofs.law.functions_are_numbered.Goals as goal

pub returns : goal.returns
returns c = body_made
