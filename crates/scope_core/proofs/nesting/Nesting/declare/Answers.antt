use Rattle.std.proofs.Common.{rules, arith, ◌≡◌, ◌-◌, List, ◌∷◌, ap, ◌∙◌, length, drop, reverse}
use Rattle.std.specs.Prelude.{slice_index_or, slice_set}
use Rattle.scope_core.specs.Scopes.{Frame, declare}
use Rattle.scope_core.specs.Walked.{kept}
use Rattle.scope_core.proofs.Captures.{last_here, last_changed, changed_frame}
use Rattle.scope_core.proofs.nesting.Nesting.declare.Goals as goal

pub returns : goal.returns
returns c =
    let xs : List Frame = c.self.inside.functions.scopes.items in let here : Frame = slice_index_or xs (length xs - 1) c.index_mut.result.now in
    let size : c.len-count.result ≡ length c.self.inside.functions.scopes.items = search rules in
    let value : c.index_mut.result.now ≡ here = last_here xs c.len-count.result c.index_mut.result.now size (search rules) in
    let changed : c.declare.new.self ≡ record here { variables = c.args.variable ∷ here.variables } =
    changed_frame c.declare.new.self c.index_mut.result.now here (c.args.variable ∷ here.variables) value (c.in_ok-declare.ensures.declared ∙ ap (λ (g : Frame). c.args.variable ∷ g.variables) value) c.in_ok-declare.ensures.upvalues in
    ap (λ n. reverse (slice_set xs (n - 1) c.declare.new.self)) size
    ∙ last_changed xs c.index_mut.result.now c.declare.new.self (λ fs. declare fs c.args.variable) (search rules) (λ rest. ap (λ (f : Frame). f ∷ rest) changed)
    ∙ ap (λ fs. declare fs c.args.variable) c.self.view_is
