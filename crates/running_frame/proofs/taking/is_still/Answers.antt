use Rattle.std.proofs.Common.{◌≡◌, length, rules}
use Rattle.std.proofs.lemmas.List.{nil_from_length}
use Rattle.running_frame.proofs.taking.is_still.Goals as goal

pub returns : goal.returns
returns c = λ yes.
    let none : length c.args.world.now.moving.items ≡ 0 = search rules in
    nil_from_length c.args.world.now.moving.items none
