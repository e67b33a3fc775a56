use Rattle.std.proofs.Common.{◌≡◌, map, take}
use Rattle.machine_runs.specs.Opening.{numbers}
use Rattle.lua_saving.proofs.prelude.are_numbered.Given as goal

abbrev pub invariant-ids : goal.invariant-ids
invariant-ids l = take l.number (map (λ id. id.0) l.ids) ≡ take l.number (numbers 0 l.count)
