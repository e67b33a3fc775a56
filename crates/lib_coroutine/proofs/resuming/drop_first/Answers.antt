use Rattle.std.proofs.Common.{rules, ◌≡◌, length, ap, sym, ◌∙◌}
use Rattle.std.specs.Prelude.{drop}
use Rattle.std.proofs.lemmas.List.{nil_from_length}
use Rattle.lib_coroutine.proofs.resuming.drop_first.Goals as goal

pub returns-then-is_empty : goal.returns-then-is_empty
returns-then-is_empty c =
    let none : length c.args.values.now.items ≡ 0 = search rules in
    let e = nil_from_length c.args.values.now.items none in
    e ∙ sym (ap (drop 1) e)

pub returns : goal.returns
returns c = c.remove.ensures.by_index.2
