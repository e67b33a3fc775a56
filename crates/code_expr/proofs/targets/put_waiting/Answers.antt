use Rattle.code_expr.proofs.targets.put_waiting.Goals as goal

pub returns : goal.returns
returns c = rw c.in_ok-next.ensures at c.in_ok-put_store.ensures
