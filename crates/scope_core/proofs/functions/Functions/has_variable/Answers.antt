use Rattle.std.proofs.Common.{rules, arith, ◌≡◌, ◌∙◌, true, false, drop}
use Rattle.std.proofs.lemmas.Grind.{common_steps}
use Rattle.std.specs.List.{list_any}
use Rattle.scope_core.specs.Scopes.{is_local}
use Rattle.scope_core.proofs.Finding.{variable_among}
use Rattle.scope_core.proofs.functions.Functions.has_variable.Goals as goal

pub returns-then-has_local : goal.returns-then-has_local
returns-then-has_local c =
    let left : true ≡ list_any (is_local c.args.name.now) (drop c.loop-scope.scope-index c.deref-scope-items.result.now) = first_of (search rules, grind (arith, common_steps)) in
    variable_among c.args.name.now c.args.self.now.scopes.items true c.loop-scope.invariant.1 (left ∙ c.loop-scope.invariant.0)

pub returns : goal.returns
returns c =
    let left : false ≡ list_any (is_local c.args.name.now) (drop c.loop-scope.scope-index c.deref-scope-items.result.now) = first_of (search rules, grind (arith, common_steps)) in
    variable_among c.args.name.now c.args.self.now.scopes.items false c.loop-scope.invariant.1 (left ∙ c.loop-scope.invariant.0)
