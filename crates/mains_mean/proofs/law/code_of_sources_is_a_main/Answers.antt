use Rattle.mains_mean.proofs.Mains.{code_is_main}
use Rattle.mains_mean.proofs.law.code_of_sources_is_a_main.Goals as goal

pub returns : goal.returns
returns c = code_is_main c.library_is_safe.ensures.loads
