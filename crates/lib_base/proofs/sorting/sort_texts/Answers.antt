use Rattle.std.proofs.Common.{rules, ◌≡◌, ap}
use Rattle.std.specs.Cmp.Lexicographic.{slice_cmp}
use Rattle.std.specs.Ordering.{is_lt, nat_cmp}
use Rattle.std.proofs.lemmas.Cmp.{nat_list_cmp_total}
use Rattle.std.proofs.lemmas.Fn.{always_returns_same}
use Rattle.std.proofs.lemmas.List.Sorted.{ranks_by}
use Rattle.lib_base.specs.Sorting.{bytes_of}
use Rattle.lib_base.proofs.SortRows.{texts_in_order}
use Rattle.lib_base.proofs.sorting.sort_texts.Goals as goal

pub returns-clause-sorted : goal.returns-clause-sorted
returns-clause-sorted c =
    let texts = c.args.world.now.strings in
    texts_in_order texts c.args.items.now c.sort_unstable_by.new.self c.requires.texts c.requires.there c.sort_unstable_by.ensures.permutation
    (c.sort_unstable_by.ensures.sorted (λ a b. is_lt (slice_cmp nat_cmp (bytes_of texts a) (bytes_of texts b))) (ranks_by nat_list_cmp_total (bytes_of texts))
    (always_returns_same _ _ _ (λ a r q k. let h : r ≡ slice_cmp nat_cmp (bytes_of texts a.0.now) (bytes_of texts a.1.0.now) = search rules in (ap is_lt h, search rules))))
