-- How the feeding of a script closes.
use Rattle.std.specs.Prelude.{Option, Some, None}
use Rattle.machine_core.specs.Moves.{Ending, main_returned, main_failed, spent}
use Rattle.machine_runs.specs.Runs.{Close, has_returned, has_failed, has_spent, is_suspended}
use Rattle.lua_feed.specs.declared.feeding.Close.{Close as Kept}
use Rattle.lua_feed.specs.declared.feeding.Close.TheVariants.{Returned, Failed, Spent, Suspended}

abbrev pub close_of : Kept → Close
close_of Returned = has_returned
close_of Failed = has_failed
close_of Spent = has_spent
close_of Suspended = is_suspended

-- the end of a turn that no line follows closes the run
abbrev pub closing : Ending → Option Kept
closing main_returned = Some Returned
closing main_failed = Some Failed
closing spent = Some Spent
closing _ = None
