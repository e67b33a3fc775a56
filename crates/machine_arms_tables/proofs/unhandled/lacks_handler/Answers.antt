use Rattle.std.proofs.Common.{None, ap, sym, ◌∙◌}
use Rattle.int_core.specs.Operations.{of_newindex}
use Rattle.int_core.specs.Value.{is_nil}
use Rattle.lua_heap.specs.Reading.{value}
use Rattle.machine_arms_tables.proofs.Settling.{any_metatable}
use Rattle.machine_arms_tables.proofs.unhandled.lacks_handler.Goals as goal

pub returns-in-Nil : goal.returns-in-Nil
returns-in-Nil c = λ yes meta.
    let texts = c.args.strings.now in
    ap is_nil (any_metatable texts c.args.tables.now.objects meta None of_newindex c.args.id.0 ∙ sym c.handler_in.ensures ∙ ap (value texts) c.in-Nil.is)
