use Rattle.std.proofs.Common.{rules, arith, ◌≡◌, ◌<◌, ◌≤◌, refl, ◌∙◌, length}
use Rattle.std.specs.Prelude.{slice_index_or}
use Rattle.code_of.specs.Statements.{in_loop}
use Rattle.code_stat.specs.Drafts.{arrives}
use Rattle.code_stat.proofs.Leading.{one_more, front_kept, all_led, none_led}
use Rattle.code_stat.proofs.jumps.leave_all.Goals as goal

pub loop-i-init : goal.loop-i-init
loop-i-init c = (omega arith, refl, λ reach xs. none_led (arrives reach) (arrives (in_loop reach c.args.to.place c.args.to.level)) c.args.jumps.now.items c.args.from xs)

pub loop-i-preserved : goal.loop-i-preserved
loop-i-preserved c =
    let inside : c.loop-i.i < length c.loop-i.jumps.items = search rules in let is : c.index_mut.result.now ≡ slice_index_or c.loop-i.jumps.items c.loop-i.i c.index_mut.result.now = search rules in (
      omega (arith, c.loop-i.invariant.0),
      front_kept c.loop-i.jumps.items c.args.from c.loop-i.i c.leave.new.self c.loop-i.invariant.0 ∙ c.loop-i.invariant.1,
      λ reach xs. one_more (arrives reach) (arrives (in_loop reach c.args.to.place c.args.to.level)) c.loop-i.jumps.items c.args.from c.loop-i.i c.index_mut.result.now c.leave.new.self xs c.loop-i.invariant.0 inside is c.leave.ensures.place c.leave.ensures.line c.leave.ensures.closes (c.leave.ensures.leads reach) ∙ c.loop-i.invariant.2 reach xs,
    )

pub returns-clause-leads : goal.returns-clause-leads
returns-clause-leads c reach xs =
    let over : length c.loop-i.jumps.items ≤ c.loop-i.i = search rules in
    all_led (arrives reach) (arrives (in_loop reach c.args.to.place c.args.to.level)) c.loop-i.jumps.items c.args.from c.loop-i.i xs over ∙ c.loop-i.invariant.2 reach xs
