-- Chains of `__call` (Lua 5.4 manual, 2.4): where they end, and how many links are followed.
use Rattle.std.proofs.Common.{◌≡◌, ℕ, List, [], ◌∷◌, ◌++◌, Some, None, refl}
use Rattle.std.specs.Prelude.{pos, codes}
use Rattle.int_core.specs.Value.{integer, string, a_table, a_function, Value, known, object}
use Rattle.int_core.specs.Heap.{Table, Heap}
use Rattle.int_core.specs.Operations.{callee, not_callable, callee_of, greatest_chain}

-- an empty table and its metatable, which stands behind it at this number
abbrev called_by : (metatable : ℕ) → Value → List Table
called_by metatable handler =
    record { rows = []; metatable = Some metatable } ∷ record { rows = (known (string (codes "__call")), handler) ∷ []; metatable = None } ∷ []

-- table 0 is called by table 2, and that by this value
abbrev two_links : Value → Heap
two_links v = record { tables = called_by 1 (object a_table 2) ++ called_by 3 v; string_metatable = None }

abbrev called : Value
called = object a_table 0

-- each value that is called stands in front of the arguments
to_a_function : callee_of 2 (two_links (object a_function 9)) called (known (integer (pos 5)) ∷ [])
    ≡ callee (object a_function 9) (object a_table 2 ∷ object a_table 0 ∷ known (integer (pos 5)) ∷ [])
to_a_function = refl

-- as many links as may be, to a value that is called by nothing
to_a_number : callee_of 2 (two_links (known (integer (pos 5)))) called [] ≡ not_callable (codes "attempt to call a number value")
to_a_number = refl

-- one link more
too_long : callee_of 1 (two_links (object a_function 9)) called [] ≡ not_callable (codes "stack overflow")
too_long = refl

links_followed : greatest_chain ≡ 2000
links_followed = refl
