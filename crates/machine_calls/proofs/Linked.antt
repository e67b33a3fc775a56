-- Arguments of a value that is called by way of handlers.
use Rattle.std.proofs.Common.{◌≡◌, ℕ, List}
use Rattle.std.specs.Prelude.{map}
use Rattle.table_core.specs.declared.value.Value.{Value as Kept}
use Rattle.lua_heap.specs.Reading.{value}
use Rattle.meta_ops.specs.declared.heap.Heap.{Heap as Parts}
use Rattle.meta_ops.specs.Chains.{linked, through}
use Rattle.meta_ops.specs.Heap.{heap_of}

-- so many links were followed
pub record AreLinked (parts : Parts) (called : Kept) (arguments : List Kept) (at : Kept) (all : List Kept) (links : ℕ) : Type 0 where
  pub at_is : value parts.strings.now at ≡ linked links (heap_of parts) (value parts.strings.now called)
  pub all_are : map (value parts.strings.now) all ≡ through links (heap_of parts) (value parts.strings.now called) (map (value parts.strings.now) arguments)
