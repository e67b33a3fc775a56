use Rattle.std.proofs.Common.{◌≡◌, ◌+◌, ◌-◌, ◌*◌}
use Rattle.chunk_format.specs.Reading.{and_then, read_number, read_functions, read_function}
use Rattle.chunk_format.proofs.Functions.{behind_functions}
use Rattle.chunk_format.proofs.function.+function.Given as goal

abbrev pub decreases-function : goal.decreases-function
decreases-function l = 2 * l.levels

abbrev pub decreases-functions : goal.decreases-functions
decreases-functions l = 2 * l.levels + 1

abbrev pub invariant-functions-loop : goal.invariant-functions-loop
invariant-functions-loop l =
    behind_functions l.protos.items (read_functions (read_function l.levels l.parent) (l.len - l.counter) l.left l.input)
    ≡ and_then (read_number l.fn.input) (λ n behind. read_functions (read_function l.levels l.parent) n l.fn.left behind)
