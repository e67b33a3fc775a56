use Rattle.std.proofs.Common.{◌≡◌, ℕ, List, length, take}
use Rattle.code_core.specs.Prototype.{count}
use Rattle.lua_heap.specs.Adding.{Begins}
use Rattle.lua_heap.proofs.Added.{IsUnderway}
use Rattle.lua_heap.proofs.adding.+add_function.Given as goal

abbrev pub decreases-add_function : goal.decreases-add_function
decreases-add_function l = count l.proto.now.inner

abbrev pub invariant-loop-function : goal.invariant-loop-function
invariant-loop-function l = record {
  strings : Begins (List ℕ) l.fn.strings l.strings;
  place : l.place ≡ length l.fn.list.items;
  underway : IsUnderway l.strings l.fn.list.items l.list.items l.proto (take l.function-index l.function-items) l.inner.items;
}
