use Rattle.std.proofs.Common.{Some, ap, ◌∙◌}
use Rattle.lua_heap.proofs.Recalled.{same_text}
use Rattle.lua_heap.proofs.strings.Strings.recalled.Goals as goal

pub returns-then-same : goal.returns-then-same
returns-then-same c = c.bytes.ensures ∙ ap Some (same_text c.bytes.result.now c.args.bytes.now c.same.result c.same.ensures c.if-same.true)
