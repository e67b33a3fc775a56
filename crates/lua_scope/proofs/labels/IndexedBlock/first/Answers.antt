use Rattle.std.proofs.Common.{ap, ◌∙◌, map}
use Rattle.tree_core.specs.Plain.{plain_stat}
use Rattle.lua_scope.specs.declared.labels.BlockPlace.{BlockPlace}
use Rattle.lua_scope.specs.Indexed.{first_label, found_in}
use Rattle.lua_scope.proofs.labels.IndexedBlock.first.Goals as goal

pub returns : goal.returns
returns c =
    c.copied.ensures
    ∙ c.get.ensures.value
    ∙ ap (λ text. found_in text c.self.inside.labels) c.as_slice.ensures
    ∙ c.self.invariant.0 c.args.text.now
    ∙ ap (λ (block : BlockPlace). first_label c.args.text.now 0 0 (map plain_stat block.stats.now.items)) c.self.view_is
