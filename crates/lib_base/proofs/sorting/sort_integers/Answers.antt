use Rattle.std.proofs.Common.{rules}
use Rattle.std.proofs.lemmas.List.Sorted.{answers_always}
use Rattle.lib_base.specs.Sorting.{number_of}
use Rattle.lib_base.proofs.SortRows.{integers_in_order}
use Rattle.lib_base.proofs.sorting.sort_integers.Goals as goal

pub returns-clause-sorted : goal.returns-clause-sorted
returns-clause-sorted c = λ texts. integers_in_order texts c.args.items.now c.sort_unstable_by_key.new.self c.requires c.sort_unstable_by_key.ensures.permutation
    (c.sort_unstable_by_key.ensures.sorted number_of (answers_always _ _ _ (λ f a r g k. search rules)))
