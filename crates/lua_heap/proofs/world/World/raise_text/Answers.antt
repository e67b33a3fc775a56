use Rattle.std.proofs.Common.{◌++◌, ap, ◌∙◌}
use Rattle.int_core.specs.Limits.{limited}
use Rattle.lua_heap.proofs.world.World.raise_text.Goals as goal

pub returns-clause-value : goal.returns-clause-value
returns-clause-value c fuel =
    c.in_ok-raised.ensures.value ∙ ap limited (c.deref.ensures.value ∙ c.in_ok-extend_from_slice.ensures.items ∙ ap (λ front. front ++ c.args.text.now) (c.in_ok-whole.ensures fuel))
