use Rattle.std.proofs.Common.{◌≡◌}
use Rattle.std.specs.Prelude.{drop}
use Rattle.std.specs.List.{list_all}
use Rattle.lua_saving.specs.Made.{is_apart}
use Rattle.lua_saving.proofs.prelude.are_apart.Given as goal

abbrev pub invariant-functions : goal.invariant-functions
invariant-functions l = list_all is_apart (drop l.from l.funcs.objects) ≡ list_all is_apart (drop l.number l.funcs.objects)
