use Rattle.std.proofs.Common.{rules, ◌≡◌, subst, length}
use Rattle.std.specs.HashMap.{get}
use Rattle.std.specs.Ordering.{int_eq}
use Rattle.code_constants.specs.Indexed.{IsIndexed}
use Rattle.code_constants.proofs.Numbers.{false_indexed, text_number}
use Rattle.code_constants.proofs.constants.Constants.add_false.Goals as goal

pub invariant_of-self-2 : goal.invariant_of-self-2
invariant_of-self-2 c =
    let count : c.len-number.result ≡ length c.args.self.now = search rules in
    false_indexed c.args.self.now c.push.new.self.items c.len-number.result (text_number c.self.inside.texts) (get int_eq c.self.inside.integers) c.self.inside.nil c.self.inside.falsehood c.self.inside.truth count
    (subst (λ l. IsIndexed l (text_number c.self.inside.texts) (get int_eq c.self.inside.integers) c.self.inside.nil c.self.inside.falsehood c.self.inside.truth) c.self.view_is c.self.invariant) (search rules) (search rules)
