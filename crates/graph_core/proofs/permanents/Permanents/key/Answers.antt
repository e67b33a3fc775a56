use Rattle.std.proofs.Common.{◌≡◌, Some, None, ap, ◌∙◌, rules}
use Rattle.std.specs.Option.{option_map}
use Rattle.graph_core.specs.Permanents.{key_read, stands_for}
use Rattle.graph_core.proofs.Named.{key_at, key_found, key_copied}
use Rattle.graph_core.proofs.permanents.Permanents.key.Goals as goal

pub returns-in_err-object : goal.returns-in_err-object
returns-in_err-object c texts =
    let none : c.from_residual.result ≡ None = search rules in
    let e : None ≡ stands_for c.args.value = search rules in
    ap (option_map (λ k. key_read k.now)) none ∙ (ap (key_at c.args.self.now.keys.entries) e ∙ key_found c.args.self.now.keys.entries texts c.args.value)

pub returns : goal.returns
returns c texts =
    let e : Some c.in_ok-object.object ≡ stands_for c.args.value = search rules in
    key_copied c.get.result ∙ (ap (option_map key_read) c.get.ensures.value ∙ (ap (key_at c.args.self.now.keys.entries) e ∙ key_found c.args.self.now.keys.entries texts c.args.value))
