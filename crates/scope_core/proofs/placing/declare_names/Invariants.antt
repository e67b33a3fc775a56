-- What is left of a list leads to where the whole list leads.
use Rattle.scope_core.specs.Places.{first_placed}
use Rattle.scope_core.proofs.Going.{IsGoing}
use Rattle.scope_core.proofs.Declaring.{declares_name}
use Rattle.scope_core.proofs.placing.declare_names.Given as goal

abbrev pub invariant-loop-name : goal.invariant-loop-name
invariant-loop-name l = IsGoing (λ x. x) declares_name first_placed l.nesting l.name-items l.name-index l.fn.nesting l.initial.name-items
