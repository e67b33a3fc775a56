use Rattle.std.proofs.Common.{rules, ◌≡◌, [], ◌∷◌}
use Rattle.machine_errors.proofs.Texts.{texts_read_same}
use Rattle.machine_errors.proofs.Thrown.{sent, sent_from}
use Rattle.machine_errors.proofs.throwing.throw_placed.Goals as goal

pub returns-clause-sends : goal.returns-clause-sends
returns-clause-sends c =
    let v = c.in_ok-thrown.thrown in
    let is : c.push_reserved.new.self.items ≡ v ∷ [] = search rules in
    sent_from (texts_read_same c.requires.sound c.in_ok-thrown.ensures.added) (sent c.place_text.new.self c.give_values.new.world c.push_reserved.new.self.items v is c.give_values.ensures.all) c.in_ok-thrown.ensures.value
