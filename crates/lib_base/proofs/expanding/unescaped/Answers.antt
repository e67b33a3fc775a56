use Rattle.std.proofs.Common.{ap, ◌∙◌}
use Rattle.lua_heap.specs.Reading.{value}
use Rattle.lib_base.proofs.expanding.unescaped.Goals as goal

pub unescaped_string-requires-clause-first : goal.unescaped_string-requires-clause-first
unescaped_string-requires-clause-first c = λ texts. c.argument.ensures texts ∙ ap (value texts) c.in-Str.is
