use Rattle.std.proofs.Common.{rules, ◌≡◌, [], ◌∷◌}
use Rattle.machine_errors.proofs.Thrown.{sent}
use Rattle.machine_errors.proofs.throwing.throw.Goals as goal

pub returns-clause-sends : goal.returns-clause-sends
returns-clause-sends c =
    let is : c.push.new.self.items ≡ c.args.thrown ∷ [] = search rules in
    sent c.args.world.now c.give_values.new.world c.push.new.self.items c.args.thrown is c.give_values.ensures.all
