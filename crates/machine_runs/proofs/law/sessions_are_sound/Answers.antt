use Rattle.machine_runs.proofs.Opening.{opening_sound, opening_idle, begun_sound, begun_may_turn, handed_sound, handed_may_turn}
use Rattle.machine_runs.proofs.law.sessions_are_sound.Goals as goal

pub returns-clause-opening : goal.returns-clause-opening
returns-clause-opening c = opening_sound

pub returns-clause-idle : goal.returns-clause-idle
returns-clause-idle c = opening_idle

pub returns-clause-begun : goal.returns-clause-begun
returns-clause-begun c = begun_sound

pub returns-clause-begins : goal.returns-clause-begins
returns-clause-begins c = begun_may_turn

pub returns-clause-handed : goal.returns-clause-handed
returns-clause-handed c = handed_sound

pub returns-clause-goes_on : goal.returns-clause-goes_on
returns-clause-goes_on c = handed_may_turn
