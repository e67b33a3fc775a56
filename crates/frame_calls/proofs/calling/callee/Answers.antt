use Rattle.std.proofs.Common.{◌≡◌, Some, arith, rules}
use Rattle.std.specs.Prelude.{slice_get}
use Rattle.table_core.specs.declared.value.Value.TheVariants.{Func as a_func}
use Rattle.frame_calls.proofs.calling.callee.Goals as goal

pub returns-in-Func : goal.returns-in-Func
returns-in-Func c =
    let holds : slice_get c.args.registers.now c.args.register ≡ Some (a_func c.in-Func.id) = search rules in
    record { holds = holds; room = search (rules, arith) }
