use Rattle.std.proofs.Common.{◌≡◌, ℕ, List, take, map}
use Rattle.int_core.specs.Value.{known}
use Rattle.machine_core.specs.Text.{constant}
use Rattle.lua_heap.specs.Reading.{value}
use Rattle.lua_heap.specs.Adding.{Begins}
use Rattle.lua_heap.proofs.adding.values_of.Given as goal

abbrev pub invariant-loop-literal : goal.invariant-loop-literal
invariant-loop-literal l = record {
  strings : Begins (List ℕ) l.initial.strings l.strings;
  same : map (value l.strings) l.values.items ≡ map (λ c. known (constant c)) (take l.literal-index l.constants);
}
