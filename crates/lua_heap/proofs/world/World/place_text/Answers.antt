use Rattle.std.proofs.Common.{◌++◌, ap, sym, ◌∙◌}
use Rattle.int_core.specs.Limits.{limited}
use Rattle.machine_core.specs.Moves.{placed}
use Rattle.lua_heap.specs.Reading.{value}
use Rattle.lua_heap.specs.Plain.{plain}
use Rattle.lua_heap.proofs.Placed.{text_is}
use Rattle.lua_heap.proofs.world.World.place_text.Goals as goal

pub returns-clause-value : goal.returns-clause-value
returns-clause-value c fuel =
    c.in_ok-placed.ensures.value ∙ ap limited (c.deref.ensures.value ∙ c.in_ok-extend_from_slice.ensures.items ∙ ap (λ front. front ++ c.bytes.result.now) (c.in_ok-whole.ensures fuel))
    ∙ sym (ap (placed (plain c.args.self.now fuel) c.args.level) (ap (value c.args.self.now.strings) c.in-Str.is ∙ text_is c.args.self.now.strings c.in-Str.id c.bytes.result.now c.bytes.ensures))
