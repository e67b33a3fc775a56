use Rattle.std.proofs.Common.{rules, ◌≡◌}
use Rattle.meta_ops.proofs.Storing.{object-kept, on_err}
use Rattle.meta_ops.proofs.store.put.Goals as goal

pub returns-in_err-set-clause-err : goal.returns-in_err-set-clause-err
returns-in_err-set-clause-err c =
    let same : c.set.new.self ≡ c.get_mut.result.now = search rules in
    on_err c.from_residual.result (object-kept c.args.tables.now c.args.id.0 c.get_mut.result.now c.set.new.self c.get_mut.ensures.value same)
