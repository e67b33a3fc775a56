use Rattle.std.proofs.Common.{◌≡◌, ℕ, List, false, map, ap, ◌∙◌}
use Rattle.int_core.specs.Value.{a_coroutine}
use Rattle.image_core.specs.Visit.{met}
use Rattle.image_core.specs.Records.{Part, an_object, same_part, visited}
use Rattle.lua_heap.specs.Plain.{plain}
use Rattle.lua_heap.specs.Reading.{value}
use Rattle.graph_core.specs.declared.object.Object.{Object}
use Rattle.graph_core.specs.Numbering.{names}
use Rattle.graph_core.specs.Objects.{part}
use Rattle.graph_core.proofs.numbering.reach.Goals as goal

pub returns : goal.returns
returns c = record { reached = reached; few_reached = c.in_ok-reached.ensures.few; few_ordered = c.in_ok-order.ensures.few; order = order }
  where
    reached : (fuel : ℕ) → map part c.in_ok-reached.reached.keys ≡ visited (plain c.args.world.now fuel) (names c.args.world.now c.args.permanents.now) (λ _. false) (map (value c.args.world.now.strings) c.args.roots.now)
    reached fuel =
        c.in_ok-reached.ensures.visited fuel
        ∙ ap (λ (ks : List Object). visited (plain c.args.world.now fuel) (names c.args.world.now c.args.permanents.now) (λ co. met same_part (map part ks) (an_object a_coroutine co)) (map (value c.args.world.now.strings) c.args.roots.now))
        c.new-none.ensures.empty

    order : (fuel : ℕ) → map part c.in_ok-order.order.keys
        ≡ visited (plain c.args.world.now fuel) (names c.args.world.now c.args.permanents.now) (λ co. met same_part (visited (plain c.args.world.now fuel) (names c.args.world.now c.args.permanents.now) (λ _. false) (map (value c.args.world.now.strings) c.args.roots.now)) (an_object a_coroutine co)) (map (value c.args.world.now.strings) c.args.roots.now)
    order fuel =
        c.in_ok-order.ensures.visited fuel
        ∙ ap (λ (ps : List Part). visited (plain c.args.world.now fuel) (names c.args.world.now c.args.permanents.now) (λ co. met same_part ps (an_object a_coroutine co)) (map (value c.args.world.now.strings) c.args.roots.now)) (reached fuel)
