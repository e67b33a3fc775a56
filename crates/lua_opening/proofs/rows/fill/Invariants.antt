use Rattle.std.proofs.Common.{ℕ, List, map, take}
use Rattle.lua_heap.specs.Adding.{Begins}
use Rattle.lua_opening.specs.Opened.{Filled, meant}
use Rattle.lua_opening.proofs.rows.fill.Given as goal

abbrev pub invariant-loop-name : goal.invariant-loop-name
invariant-loop-name l = record {
  strings : Begins (List ℕ) l.initial.strings l.strings;
  table : Filled l.strings l.table (map (λ r. meant r.0.now r.1) (take l.name-index l.rows));
}
