use Rattle.std.proofs.Common.{◌≤◌, ◌∙◌, Some, length, ap₂, arith}
use Rattle.graph_core.specs.Permanents.{permanents}
use Rattle.image_records.specs.Names.{entries_of}
use Rattle.eris_read.proofs.Knowing.{alike_none, alike_more, alike_all, small_there}
use Rattle.eris_read.proofs.known.names_of.Goals as goal

pub loop-at-init : goal.loop-at-init
loop-at-init c = alike_none _ (permanents c.args.permanents.now) c.new-known.ensures.none

pub value_of-requires : goal.value_of-requires
value_of-requires c = small_there c.args.world.now (permanents c.args.permanents.now) c.requires c.loop-at.at _ _ c.at.ensures

pub loop-at-preserved : goal.loop-at-preserved
loop-at-preserved c = alike_more _ _ _ _ _ c.in_ok-add.ensures.ok (ap₂ (λ o k. Some (record { object = o; key = k })) c.value_of.ensures c.key_of.ensures ∙ c.at.ensures) c.loop-at.invariant

pub returns : goal.returns
returns c =
    let l : length (permanents c.args.permanents.now) ≤ c.loop-at.at = omega (arith, c.len-at-end.ensures, c.loop-at-test.false) in
    record { objects = alike_all (entries_of c.loop-at.known) (permanents c.args.permanents.now) c.loop-at.at l c.loop-at.invariant }
