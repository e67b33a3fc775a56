use Rattle.std.proofs.Common.{Some, List, map, sym, subst}
use Rattle.image_records.specs.Views.{frame, item, record_read}
use Rattle.image_made.specs.Making.{MakesAll}
use Rattle.image_made.specs.Stacks.{MakesStack, MakesCoroutine}
use Rattle.lua_heap.specs.declared.world.Coro.TheVariants.{Suspended, Failed}
use Rattle.image_placed.proofs.CoroutinesMade.{suspended_made, failed_made}
use Rattle.image_placed.proofs.placing.coroutine_of.Goals as goal

pub returns-in_ok-stack-in-Suspended : goal.returns-in_ok-stack-in-Suspended
returns-in_ok-stack-in-Suspended c =
    let to = c.in_ok-stack-in-Suspended.at in
    let s = c.in_ok-stack-in-Suspended.stack in
    subst (λ r. MakesCoroutine c.args.maker.now c.args.strings.now c.args.own c.args.openings.now c.args.from to (record_read r) (Some (Suspended s))) (sym c.in-Suspended.is)
    (suspended_made c.args.maker.now c.args.strings.now c.args.own c.args.openings.now c.args.from to (map frame c.in-Suspended.frames.items) s
    (subst (λ fs. MakesStack c.args.maker.now c.args.strings.now c.args.own c.args.openings.now c.args.from to (map frame fs) s) c.deref.ensures.value c.in_ok-stack-in-Suspended.ensures))

pub returns-in_ok-pending-in-Failed : goal.returns-in_ok-pending-in-Failed
returns-in_ok-pending-in-Failed c =
    let e = c.in_ok-error-in-Failed.error in
    let vs = c.in_ok-pending-in-Failed.pending in
    subst (λ r. MakesCoroutine c.args.maker.now c.args.strings.now c.args.own c.args.openings.now c.args.from c.args.from (record_read r) (Some (Failed e vs))) (sym c.in-Failed.is)
    (failed_made c.args.maker.now c.args.strings.now c.args.own c.args.openings.now c.args.from (item c.in-Failed.error) e (map item c.in-Failed.pending.items) vs c.in_ok-error-in-Failed.ensures
    (subst (λ is. MakesAll c.args.maker.now c.args.strings.now (map item is) vs.items) c.deref-in-Failed.ensures.value c.in_ok-pending-in-Failed.ensures))
