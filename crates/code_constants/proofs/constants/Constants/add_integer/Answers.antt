use Rattle.std.proofs.Common.{rules, ◌≡◌, ◌≤◌, ◌++◌, [], ◌∷◌, subst, Some, length, to_z, of_z, w64}
use Rattle.std.specs.HashMap.{get, Updates}
use Rattle.std.specs.Ordering.{int_eq}
use Rattle.code_core.specs.declared.proto.Const.TheVariants.{Int}
use Rattle.code_of.specs.Constants.{number_in}
use Rattle.code_constants.specs.Indexed.{IsIndexed}
use Rattle.code_constants.proofs.Numbers.{integer_indexed, text_number}
use Rattle.code_constants.proofs.constants.Constants.add_integer.Goals as goal

pub invariant_of-self-2 : goal.invariant_of-self-2
invariant_of-self-2 c =
    let cs = c.args.self.now in
    let n = c.args.integer in
    let whole : to_z w64 (of_z w64 n) ≡ n = search rules in
    let count : c.len-number.result ≡ length cs = search rules in
    let absent : length cs ≤ number_in cs (Int n) = search rules in
    let all : c.push.new.self.items ≡ cs ++ Int n ∷ [] = search rules in
    integer_indexed cs c.push.new.self.items c.self.inside.integers c.insert.new.self n c.len-number.result (text_number c.self.inside.texts) c.self.inside.nil c.self.inside.falsehood c.self.inside.truth count absent all
    (subst (λ m. Updates int_eq c.self.inside.integers c.insert.new.self m (Some c.len-number.result)) whole c.in_ok-insert.ensures.updates)
    (subst (λ l. IsIndexed l (text_number c.self.inside.texts) (get int_eq c.self.inside.integers) c.self.inside.nil c.self.inside.falsehood c.self.inside.truth) c.self.view_is c.self.invariant)
