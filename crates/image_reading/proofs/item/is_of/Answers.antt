use Rattle.std.proofs.Common.{rules, ◌≡◌, ◌∙◌}
use Rattle.std.specs.Prelude.{slice_get, Some, None}
use Rattle.image_reading.proofs.Sorts.{one_among, none_among}
use Rattle.image_reading.proofs.item.is_of.Goals as goal

pub returns-in-Some : goal.returns-in-Some
returns-in-Some c =
    let found : Some c.in-Some.sort ≡ slice_get c.args.sorts.now c.args.n = search rules in
    c.contains.ensures.value ∙ one_among c.args.sorts.now c.args.wanted.now c.args.n c.in-Some.sort found

pub returns-in-None : goal.returns-in-None
returns-in-None c =
    let found : None ≡ slice_get c.args.sorts.now c.args.n = search rules in
    none_among c.args.sorts.now c.args.wanted.now c.args.n found
