use Rattle.std.proofs.Common.{rules, ◌≡◌, true, [], ap, ap₂, ◌∙◌}
use Rattle.tree_core.specs.Tree.{BodyOf}
use Rattle.tree_core.specs.Plain.{plain_block}
use Rattle.scope_core.specs.Places.{main_upvalues}
use Rattle.scope_core.specs.Walked.{settled_block, main_frames}
use Rattle.scope_core.proofs.TreeRows.{rolled_body}
use Rattle.scope_core.proofs.MainPlaces.{main_settled}
use Rattle.scope_core.proofs.places.place.Goals as goal

pub returns : goal.returns
returns c =
    let block : plain_block c.place_block.new.block ≡ settled_block main_frames (plain_block c.args.block) =
    c.in_ok-place_block.ensures.settled ∙ ap (λ fs. settled_block fs (plain_block c.args.block)) c.in_ok-nesting.ensures in
    let params : c.new.result.items ≡ [] = search rules in
    let upvalues : c.in_ok-upvalues.upvalues.items ≡ main_upvalues = search rules in
    rolled_body c.new.result true c.place_block.new.block c.in_ok-upvalues.upvalues 0
    ∙ ap₂ (λ ns b. BodyOf ns true b c.in_ok-upvalues.upvalues.items 0) params block
    ∙ ap (λ us. BodyOf [] true (settled_block main_frames (plain_block c.args.block)) us 0) upvalues
    ∙ main_settled (plain_block c.args.block)
