use Rattle.std.proofs.Common.{rules, ◌≡◌, ◌∙◌, sym, Some, Err, arith}
use Rattle.std.specs.Prelude.{slice_get}
use Rattle.code_core.proofs.PrototypeLemmas.{count-drop}
use Rattle.chunk_check.proofs.WalkLemmas.{entry, writable_at, writable_behind, inner_passes, own_is_first, inner_is_first}
use Rattle.chunk_check.proofs.walk.+inner_fault.Goals as goal

pub own_fault-requires : goal.own_fault-requires
own_fault-requires t c =
    let there : slice_get c.deref-inner-items.result.now c.loop-inner.inner-index ≡ Some c.inner-item.result = entry c.deref-inner-items.result.now c.loop-inner.inner-index c.inner-item.result (search rules) c.inner-item.is in
    sym (writable_at c.args.proto.now.own c.deref-inner-items.result.now c.loop-inner.inner-index c.inner-item.result there c.loop-inner.invariant.2)

pub returns-in_err-own_fault-clause-found : goal.returns-in_err-own_fault-clause-found
returns-in_err-own_fault-clause-found t c =
    let there : slice_get c.deref-inner-items.result.now c.loop-inner.inner-index ≡ Some c.inner-item.result = entry c.deref-inner-items.result.now c.loop-inner.inner-index c.inner-item.result (search rules) c.inner-item.is in
    let is : c.from_residual.result ≡ Err c.in_err-own_fault.field-0.0 = search rules in
    rw (is, ← c.loop-inner.invariant.0) (own_is_first c.loop-inner.next c.inner-item.result c.deref-inner-items.result.now c.loop-inner.inner-index c.in_err-own_fault.field-0.0 there c.in_err-own_fault.ensures)

pub inner_fault-requires : goal.inner_fault-requires
inner_fault-requires t c =
    let there : slice_get c.deref-inner-items.result.now c.loop-inner.inner-index ≡ Some c.inner-item.result = entry c.deref-inner-items.result.now c.loop-inner.inner-index c.inner-item.result (search rules) c.inner-item.is in
    let many = count-drop c.deref-inner-items.result.now c.loop-inner.inner-index c.inner-item.result there in
    let all = c.loop-inner.invariant.1 in
    let below = c.requires.numbers in
    let from = c.loop-inner.invariant.3 in
    (omega arith, (writable_at c.args.proto.now.own c.deref-inner-items.result.now c.loop-inner.inner-index c.inner-item.result there c.loop-inner.invariant.2, omega arith))

pub returns-in_err-next-clause-found : goal.returns-in_err-next-clause-found
returns-in_err-next-clause-found t c =
    let there : slice_get c.deref-inner-items.result.now c.loop-inner.inner-index ≡ Some c.inner-item.result = entry c.deref-inner-items.result.now c.loop-inner.inner-index c.inner-item.result (search rules) c.inner-item.is in
    let is : c.from_residual-in_err-next.result ≡ Err c.in_err-next.field-0.0 = search rules in
    rw (is, ← c.loop-inner.invariant.0) (inner_is_first c.loop-inner.next c.inner-item.result c.deref-inner-items.result.now c.loop-inner.inner-index c.in_err-next.field-0.0 there c.in_ok-own_fault.ensures c.in_err-next.ensures.found)

pub loop-inner-preserved : goal.loop-inner-preserved
loop-inner-preserved t c =
    let there : slice_get c.deref-inner-items.result.now c.loop-inner.inner-index ≡ Some c.inner-item.result = entry c.deref-inner-items.result.now c.loop-inner.inner-index c.inner-item.result (search rules) c.inner-item.is in
    let many = count-drop c.deref-inner-items.result.now c.loop-inner.inner-index c.inner-item.result there in
    let all = c.loop-inner.invariant.1 in
    let next = c.in_ok-next.ensures.behind in
    let from = c.loop-inner.invariant.3 in (
      rw next (sym (inner_passes c.loop-inner.next c.inner-item.result c.deref-inner-items.result.now c.loop-inner.inner-index there c.in_ok-own_fault.ensures c.in_ok-next.ensures.found) ∙ c.loop-inner.invariant.0),
      omega arith,
      writable_behind c.args.proto.now.own c.deref-inner-items.result.now c.loop-inner.inner-index c.inner-item.result there c.loop-inner.invariant.2,
      omega arith,
    )
