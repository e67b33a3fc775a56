use Rattle.std.proofs.Common.{◌≡◌, ◌+◌, suc, ◌∷◌, [], ◌++◌, List, ℕ, map, take, rules, arith, ap, sym, ◌∙◌}
use Rattle.std.proofs.Math.Seq.{take-suc}
use Rattle.int_core.specs.Value.{known}
use Rattle.code_core.specs.declared.proto.Const.{Const}
use Rattle.machine_core.specs.Text.{constant}
use Rattle.lua_heap.specs.Reading.{value}
use Rattle.lua_heap.proofs.Added.{begins_more, fits_take, values_kept, one_value_more}
use Rattle.lua_heap.proofs.adding.values_of.Goals as goal

pub loop-literal-preserved : goal.loop-literal-preserved
loop-literal-preserved c =
    let i : ℕ = c.loop-literal.literal-index in
    let ks : List Const = c.args.constants.now in
    let texts : List (List ℕ) = c.value_of.new.strings in
    let on : i + 1 ≡ suc i = omega arith in
    let taken : take (i + 1) ks ≡ take i ks ++ c.literal-item.result ∷ [] =
    ap (λ n. take n ks) on ∙ take-suc ks i c.literal-item.result (search rules) ∙ ap (λ k. take i ks ++ k ∷ []) (sym c.literal-item.is) in
    let kept = values_kept c.loop-literal.strings texts c.loop-literal.values.items (take i ks) (fits_take i ks c.requires) c.value_of.ensures.strings c.loop-literal.invariant.same in
    record {
      strings = begins_more _ _ _ c.loop-literal.invariant.strings c.value_of.ensures.strings;
      same = ap (map (value texts)) c.in_ok-push.ensures.items
          ∙ one_value_more texts c.loop-literal.values.items c.in_ok-read.read (take i ks) c.literal-item.result kept c.in_ok-read.ensures.value
          ∙ ap (map (λ (k : Const). known (constant k))) (sym taken);
    }
