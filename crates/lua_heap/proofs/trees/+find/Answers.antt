use Rattle.std.proofs.Common.{rules, arith, ◌≡◌, Some, sym, ◌∙◌, ap}
use Rattle.std.specs.Prelude.{slice_get}
use Rattle.std.proofs.lemmas.Option.{slice_get-get_or}
use Rattle.code_core.proofs.PrototypeLemmas.{count-drop}
use Rattle.lua_heap.proofs.Walk.{found_in, passed}
use Rattle.lua_heap.proofs.trees.+find.Goals as goal

pub returns-in-Ok-clause-found : goal.returns-in-Ok-clause-found
returns-in-Ok-clause-found t c =
    let e : slice_get c.deref-inner-items.result.now c.loop-inner.inner-index ≡ Some c.inner-item.result =
    slice_get-get_or c.deref-inner-items.result.now c.loop-inner.inner-index c.inner-item.result (search rules) ∙ ap (λ x. Some x) (sym c.inner-item.is) in
    sym c.loop-inner.invariant.same
    ∙ found_in c.deref-inner-items.result.now c.loop-inner.inner-index c.inner-item.result c.loop-inner.left c.in-Ok.found.now e c.in-Ok.ensures.found

pub loop-inner-preserved : goal.loop-inner-preserved
loop-inner-preserved t c =
    let e : slice_get c.deref-inner-items.result.now c.loop-inner.inner-index ≡ Some c.inner-item.result =
    slice_get-get_or c.deref-inner-items.result.now c.loop-inner.inner-index c.inner-item.result (search rules) ∙ ap (λ x. Some x) (sym c.inner-item.is) in
    let n = count-drop c.deref-inner-items.result.now c.loop-inner.inner-index c.inner-item.result e in
    let s = c.loop-inner.invariant.sum in
    let l = c.in-Err.ensures.left in
    record {
      same = passed c.deref-inner-items.result.now c.loop-inner.inner-index c.inner-item.result c.loop-inner.left c.in-Err.rest e l ∙ c.loop-inner.invariant.same;
      sum = omega (arith, n, s, l);
    }
