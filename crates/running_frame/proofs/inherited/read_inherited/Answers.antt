use Rattle.running_frame.proofs.OnStack.{place_within}
use Rattle.running_frame.proofs.inherited.read_inherited.Goals as goal

pub fetch-i-requires : goal.fetch-i-requires
fetch-i-requires g c = place_within c.requires.0.1.runs

pub get_inherited-requires : goal.get_inherited-requires
get_inherited-requires g c = (c.requires.0, (c.requires.1, (c.fetch-i.ensures, c.in_ok-receives.ensures)))
