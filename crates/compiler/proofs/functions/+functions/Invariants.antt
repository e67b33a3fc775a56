-- The prototypes so far are those of the bodies so far. A function in another has fewer functions in it.
use Rattle.std.proofs.Common.{◌≡◌, ◌+◌, ◌*◌, map, take, None}
use Rattle.tree_core.specs.Plain.{plain_block, plain_body}
use Rattle.code_core.specs.Prototype.{none, count}
use Rattle.code_of.specs.CodeOf.{code_of, from_block, from_body}
use Rattle.code_parts.specs.Assembled.{low_prototype}
use Rattle.compiler.proofs.functions.+functions.Given as goal

abbrev pub decreases-function : goal.decreases-function
decreases-function l = 2 * count (from_body None (plain_body l.body.now)) + 1

abbrev pub decreases-inner_functions : goal.decreases-inner_functions
decreases-inner_functions l = 2 * count (from_block None (plain_block l.block.now) none)

abbrev pub invariant-inner_functions-loop-body : goal.invariant-inner_functions-loop-body
invariant-inner_functions-loop-body l = l.list.items ≡ map (λ b. low_prototype (code_of l.source (plain_body b.now))) (take l.body-index l.body-items)
