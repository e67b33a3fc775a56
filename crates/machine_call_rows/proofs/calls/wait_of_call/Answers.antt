use Rattle.std.proofs.Common.{refl, sym, subst}
use Rattle.lua_stack.specs.declared.frame.Wait.TheVariants.{ForCall, ForIterator}
use Rattle.machine_call_rows.specs.Rows.{IsWaitOfCall}
use Rattle.machine_call_rows.proofs.calls.wait_of_call.Goals as goal

pub returns-then-iterates : goal.returns-then-iterates
returns-then-iterates c = subst (λ b. IsWaitOfCall b ForIterator) (sym c.if-iterates.true) (record { is = λ f env. refl; held = λ texts. tt })

pub returns-else-iterates : goal.returns-else-iterates
returns-else-iterates c = subst (λ b. IsWaitOfCall b ForCall) (sym c.if-iterates.false) (record { is = λ f env. refl; held = λ texts. tt })
