use Rattle.std.proofs.Common.{ap, sym, ◌∙◌, subst, take}
use Rattle.std.proofs.lemmas.List.{take-map}
use Rattle.lua_heap.specs.Strings.{AreShort}
use Rattle.lua_heap.proofs.Finding.{contents, short_take}
use Rattle.lua_heap.proofs.strings.Strings.release_to.Goals as goal

pub returns : goal.returns
returns c = ap contents c.truncate.ensures.keys ∙ sym (take-map (λ k. k.items) c.args.count c.self.inside.contents.keys) ∙ ap (take c.args.count) c.self.view_is

pub invariant_of-self : goal.invariant_of-self
invariant_of-self c =
    subst AreShort (take-map (λ k. k.items) c.args.count c.self.inside.contents.keys ∙ sym (ap contents c.truncate.ensures.keys)) (short_take c.args.count (contents c.self.inside.contents.keys) c.self.invariant)
