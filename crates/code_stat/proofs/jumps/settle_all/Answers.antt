use Rattle.std.proofs.Common.{rules, arith, ◌≡◌, ◌<◌, ◌≤◌, [], refl, ◌∙◌, length}
use Rattle.std.specs.Prelude.{slice_index_or}
use Rattle.code_stat.specs.Drafts.{newest_first, leads_to, arrives, within}
use Rattle.code_stat.proofs.Leading.{one_more, front_kept, all_led, none_led}
use Rattle.code_stat.proofs.jumps.settle_all.Goals as goal

pub loop-i-init : goal.loop-i-init
loop-i-init c = (omega arith, refl, λ ahead reach xs. none_led (leads_to ahead reach) (arrives (within ahead (newest_first c.args.passed.now.items []) reach)) c.args.jumps.now.items c.args.from xs)

pub loop-i-preserved : goal.loop-i-preserved
loop-i-preserved c =
    let inside : c.loop-i.i < length c.loop-i.jumps.items = search rules in let is : c.index_mut.result.now ≡ slice_index_or c.loop-i.jumps.items c.loop-i.i c.index_mut.result.now = search rules in (
      omega (arith, c.loop-i.invariant.0),
      front_kept c.loop-i.jumps.items c.args.from c.loop-i.i c.settle.new.self c.loop-i.invariant.0 ∙ c.loop-i.invariant.1,
      λ ahead reach xs. one_more (leads_to ahead reach) (arrives (within ahead (newest_first c.args.passed.now.items []) reach)) c.loop-i.jumps.items c.args.from c.loop-i.i c.index_mut.result.now c.settle.new.self xs c.loop-i.invariant.0 inside is c.settle.ensures.place c.settle.ensures.line c.settle.ensures.closes (c.settle.ensures.leads ahead reach) ∙ c.loop-i.invariant.2 ahead reach xs,
    )

pub returns-clause-leads : goal.returns-clause-leads
returns-clause-leads c ahead reach xs =
    let over : length c.loop-i.jumps.items ≤ c.loop-i.i = search rules in
    all_led (leads_to ahead reach) (arrives (within ahead (newest_first c.args.passed.now.items []) reach)) c.loop-i.jumps.items c.args.from c.loop-i.i xs over ∙ c.loop-i.invariant.2 ahead reach xs
