use Rattle.std.proofs.Common.{rules, ◌≡◌, ◌≤◌, ◌++◌, [], ◌∷◌, subst, length}
use Rattle.std.specs.HashMap.{get}
use Rattle.std.specs.Ordering.{int_eq}
use Rattle.code_core.specs.declared.proto.Const.TheVariants.{Str}
use Rattle.code_of.specs.Constants.{number_in}
use Rattle.code_constants.specs.Indexed.{IsIndexed}
use Rattle.code_constants.proofs.Numbers.{text_indexed, text_number}
use Rattle.code_constants.proofs.constants.Constants.add_text.Goals as goal

pub invariant_of-self-2 : goal.invariant_of-self-2
invariant_of-self-2 c =
    let cs = c.args.self.now in
    let text = c.args.text.now in
    let count : c.len-number.result ≡ length cs = search rules in
    let absent : length cs ≤ number_in cs (Str text) = search rules in
    let all : c.push.new.self.items ≡ cs ++ Str text ∷ [] = search rules in
    let key : c.in_ok-key.key.items ≡ text = search rules in
    text_indexed cs c.push.new.self.items c.self.inside.texts c.insert.new.self c.in_ok-key.key text c.len-number.result (get int_eq c.self.inside.integers) c.self.inside.nil c.self.inside.falsehood c.self.inside.truth key count absent all c.in_ok-insert.ensures.updates
    (subst (λ l. IsIndexed l (text_number c.self.inside.texts) (get int_eq c.self.inside.integers) c.self.inside.nil c.self.inside.falsehood c.self.inside.truth) c.self.view_is c.self.invariant)
