use Rattle.std.proofs.Common.{ap, ◌∙◌}
use Rattle.lua_heap.specs.Reading.{value}
use Rattle.lib_base.proofs.expanding.unescaped_string.Goals as goal

pub own_text-requires-clause-second : goal.own_text-requires-clause-second
own_text-requires-clause-second c = λ texts. c.argument.ensures texts ∙ ap (value texts) c.in-Table.is
