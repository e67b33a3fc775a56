use Rattle.scripts_mean.proofs.Broken.{sources_never_broken}
use Rattle.scripts_mean.proofs.law.sources_are_never_broken.Goals as goal

pub returns : goal.returns
returns c = sources_never_broken c.library_is_safe.ensures.loads
