use Rattle.std.proofs.Common.{◌≡◌, ◌++◌, map, take}
use Rattle.graph_core.specs.Permanents.{permanents, value_of}
use Rattle.session_images.specs.Permanents.{by_keys}
use Rattle.lua_saving.proofs.permanents.add_all.Given as goal

abbrev pub invariant-keys : goal.invariant-keys
invariant-keys l = permanents l.all ≡ permanents l.initial.all ++ by_keys (value_of l.sort) 0 (take l.number (map (λ key. key.now) l.keys))
