use Rattle.std.proofs.Common.{◌≡◌, length, ap, rules, ◌∙◌}
use Rattle.machine_objects.proofs.functions.upvalue_count.Goals as goal

pub returns : goal.returns
returns c =
    let size : c.len.result ≡ length c.code.result.now.upvalues.items = search rules in
    size ∙ ap length c.code.ensures.upvalues
