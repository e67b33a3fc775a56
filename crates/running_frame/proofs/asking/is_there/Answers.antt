use Rattle.std.proofs.Common.{◌<◌, length, sym, subst, rules, arith}
use Rattle.meta_ops.specs.Heap.{IsThere}
use Rattle.running_frame.proofs.asking.is_there.Goals as goal

pub returns-in-Int : goal.returns-in-Int
returns-in-Int c = λ yes. subst (IsThere c.args.heap) (sym c.in-Int.is) tt

pub returns-in-Table : goal.returns-in-Table
returns-in-Table c = λ yes.
    let within : c.in-Table.id.0 < length c.args.heap.tables.now.objects = search (rules, arith) in
    subst (IsThere c.args.heap) (sym c.in-Table.is) within
