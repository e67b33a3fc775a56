use Rattle.std.proofs.Common.{◌+◌, ◌≤◌, [], ◌∷◌, length, length-append, sym, ap, ◌∙◌, arith}
use Rattle.std.proofs.lemmas.List.{length-map}
use Rattle.std.proofs.lemmas.Simd.{map-map}
use Rattle.image_core.specs.Loading.{value_made}
use Rattle.lua_heap.specs.Reading.{value}
use Rattle.image_records.specs.Views.{item}
use Rattle.image_made.proofs.Steps.{one_more_at, all_done}
use Rattle.image_made.proofs.making.Maker.values.Goals as goal

pub loop-at-preserved : goal.loop-at-preserved
loop-at-preserved c = record {
  count = ap length c.in_ok-push.ensures.items ∙ (length-append c.loop-at.values.items (c.in_ok-value.value ∷ []) ∙ ap (λ n. n + 1) c.loop-at.invariant.count);
  are = λ T rs m.
      one_more_at (value c.args.strings.now) (λ i. value_made T rs (item i)) c.args.items.now c.loop-at.at c.item_at.result _ _ _ c.item_at.ensures (c.in_ok-value.ensures.is T rs m)
      c.in_ok-push.ensures.items (c.loop-at.invariant.are T rs m);
}

pub returns : goal.returns
returns c =
    let ended : length c.args.items.now ≤ c.loop-at.at = omega arith in
    let within : c.loop-at.at ≤ length c.args.items.now = omega arith in
    let count = c.loop-at.invariant.count in
    let same = length-map c.args.items.now item in
    record {
      count = omega (arith, count, ended, within, same);
      is = λ T rs m.
          all_done (value c.args.strings.now) (λ i. value_made T rs (item i)) c.args.items.now c.loop-at.at _ ended (c.loop-at.invariant.are T rs m) ∙ sym (map-map (value_made T rs) item c.args.items.now);
    }
