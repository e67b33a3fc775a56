use Rattle.lua_driver.proofs.AnyRows.{none_called}
use Rattle.lua_driver.proofs.running.go_further.Given as goal

abbrev pub ghost-run_ahead : goal.ghost-run_ahead
ghost-run_ahead a = none_called
