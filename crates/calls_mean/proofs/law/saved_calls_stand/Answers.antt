use Rattle.calls_mean.proofs.Stood.{saved_calls_stand}
use Rattle.calls_mean.proofs.law.saved_calls_stand.Goals as goal

pub returns : goal.returns
returns c = saved_calls_stand c.saved_images_stand.ensures c.prelude_is_alike.ensures
