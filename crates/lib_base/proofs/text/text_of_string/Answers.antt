use Rattle.std.proofs.Common.{ap, ◌∙◌}
use Rattle.lua_heap.specs.Reading.{value}
use Rattle.lib_base.proofs.text.text_of_string.Goals as goal

pub own_text-requires-clause-first : goal.own_text-requires-clause-first
own_text-requires-clause-first c = λ texts. c.argument.ensures texts ∙ ap (value texts) c.in-Str.is

pub returns-in-Str : goal.returns-in-Str
returns-in-Str c = c.own_text.ensures
