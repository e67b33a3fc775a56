use Rattle.std.proofs.Common.{rules, ◌∙◌, ◌<◌, sym, ap, length}
use Rattle.std.specs.Prelude.{slice_get}
use Rattle.chunk_check.proofs.WalkLemmas.{shown_entry, stops, passes}
use Rattle.chunk_check.proofs.walk.other_places.Goals as goal

pub returns-in-Some : goal.returns-in-Some
returns-in-Some c =
    let within : c.loop-pc.pc < length c.proto.inside.code.items = search rules in
    let there = shown_entry c.args.proto.now.own.code c.proto.inside.code.items c.loop-pc.pc c.index.result.now (sym (ap (λ p. p.own.code) c.proto.view_is)) within c.index.ensures in
    ap (λ found. slice_get found 0) (sym c.loop-pc.invariant) ∙ stops c.args.function c.args.proto.now c.loop-pc.pc c.in-Some.rule c.index.result.now c.args.proto.now.own.code there c.in-Some.ensures

pub loop-pc-preserved : goal.loop-pc-preserved
loop-pc-preserved c =
    let within : c.loop-pc.pc < length c.proto.inside.code.items = search rules in
    let there = shown_entry c.args.proto.now.own.code c.proto.inside.code.items c.loop-pc.pc c.index.result.now (sym (ap (λ p. p.own.code) c.proto.view_is)) within c.index.ensures in
    sym (passes c.args.function c.args.proto.now c.loop-pc.pc c.index.result.now c.args.proto.now.own.code there c.in_default.ensures) ∙ c.loop-pc.invariant
