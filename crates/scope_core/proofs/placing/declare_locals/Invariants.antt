-- What is left of a list leads to where the whole list leads.
use Rattle.scope_core.specs.Places.{local_placed}
use Rattle.scope_core.proofs.Going.{IsGoing}
use Rattle.scope_core.proofs.Declaring.{declares_local}
use Rattle.scope_core.proofs.placing.declare_locals.Given as goal

abbrev pub invariant-loop-declared : goal.invariant-loop-declared
invariant-loop-declared l = IsGoing (λ x. x) declares_local local_placed l.nesting l.declared-items l.declared-index l.fn.nesting l.initial.declared-items
