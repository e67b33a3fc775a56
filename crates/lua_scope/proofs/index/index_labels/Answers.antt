use Rattle.std.proofs.Common.{arith, rules, ◌≡◌, ◌+◌, ◌<◌, ◌≤◌, refl, ap, subst, length, map}
use Rattle.std.specs.Prelude.{slice_index_or, bytes_eq}
use Rattle.std.specs.Map.{lookup}
use Rattle.tree_core.specs.Plain.{plain_stat}
use Rattle.lua_scope.specs.Indexed.{first_label, found_in}
use Rattle.lua_scope.proofs.Indexing.{none_yet, one_more_stat, no_more_stat}
use Rattle.lua_scope.proofs.Looping.{mapped, within, gone}
use Rattle.lua_scope.proofs.index.index_labels.Goals as goal

pub loop-stat-init : goal.loop-stat-init
loop-stat-init c =
    let same : c.deref-stat-items.result.now ≡ c.args.list.now.items = search rules in
    (refl, same, λ text. none_yet text (found_in text c.new-labels.result) (map plain_stat c.args.list.now.items) (ap (lookup (λ key. bytes_eq text key.items)) c.new-labels.ensures.empty))

pub loop-stat-preserved : goal.loop-stat-preserved
loop-stat-preserved c =
    let items = c.args.list.now.items in
    let i = c.loop-stat.stat-index in
    let all : c.deref-stat-items.result.now ≡ items = c.loop-stat.invariant.1 in
    let h : i < length items = subst (λ xs. i < length xs) all (omega (arith, c.loop-stat-test.true)) in
    let is = mapped plain_stat items i c.stat-item.result h (subst (λ xs. c.stat-item.result ≡ slice_index_or xs i c.stat-item.result) all c.stat-item.is) in (
      ap (λ n. n + 1) c.loop-stat.invariant.0,
      all,
      λ text.
          one_more_stat text (found_in text c.loop-stat.labels) (found_in text c.add_label.new.labels) (first_label text 0 0 (map plain_stat items))
          c.loop-stat.at c.loop-stat.declared c.declared_behind-declared.result (map plain_stat items) i (plain_stat c.stat-item.result)
          (within plain_stat items i h) is (c.in_ok-add_label.ensures text) c.declared_behind-declared.ensures (c.loop-stat.invariant.2 text),
    )

pub returns : goal.returns
returns c =
    let items = c.args.list.now.items in
    let i = c.loop-stat.stat-index in
    let over : length (map plain_stat items) ≤ i = gone plain_stat items i (subst (λ xs. length xs ≤ i) c.loop-stat.invariant.1 (omega (arith, c.loop-stat-test.false))) in
    λ text. no_more_stat text (found_in text c.loop-stat.labels) (first_label text 0 0 (map plain_stat items)) c.loop-stat.at c.loop-stat.declared (map plain_stat items) i over (c.loop-stat.invariant.2 text)
