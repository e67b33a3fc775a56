use Rattle.std.proofs.Common.{rules, ◌≡◌, ◌∙◌, sym, true, false, length, reverse, take}
use Rattle.scope_core.specs.Scopes.{environment, is_variable}
use Rattle.scope_core.specs.Places.{up_name}
use Rattle.scope_core.specs.Reaching.{reached, up_name_at}
use Rattle.scope_core.proofs.Finding.{variable_placed, global_placed}
use Rattle.scope_core.proofs.functions.Functions.place.Goals as goal

pub returns-then-has_variable-clause-place : goal.returns-then-has_variable-clause-place
returns-then-has_variable-clause-place c =
    let known : is_variable c.args.name.now (reverse c.args.self.now.scopes.items) ≡ true = sym c.has_variable.ensures ∙ c.if-has_variable.true in
    let size : c.len-count.result ≡ length c.args.self.now.scopes.items = search rules in
    c.local_place.ensures
    ∙ sym (variable_placed c.args.name.now c.len-count.result c.args.self.now.scopes.items c.reach.new.self.scopes.items c.in_ok-source.source size c.reach.ensures.len c.in_ok-source.ensures.reached known c.in_ok-source.ensures.source)

pub returns-clause-place : goal.returns-clause-place
returns-clause-place c =
    let known : is_variable c.args.name.now (reverse c.args.self.now.scopes.items) ≡ false = sym c.has_variable.ensures ∙ c.if-has_variable.false in
    let r : reverse (take c.len-count.result c.reach-2.new.self.scopes.items) ≡ reached (reverse (take c.len-count.result c.args.self.now.scopes.items)) environment = search rules in
    let e : up_name (reverse (take c.len-count.result c.reach-2.new.self.scopes.items)) environment ≡ up_name_at environment c.in_ok-source-2.source = search rules in
    let size : c.len-count.result ≡ length c.args.self.now.scopes.items = search rules in
    c.global_place.ensures
    ∙ sym (global_placed c.args.name.now c.len-count.result c.args.self.now.scopes.items c.reach-2.new.self.scopes.items c.in_ok-source-2.source size c.reach-2.ensures.len r known e)
