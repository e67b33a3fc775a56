use Rattle.std.proofs.Common.{rules, arith, ◌≡◌, ◌-◌, List, ◌∷◌, ap, ◌∙◌, length, drop, reverse}
use Rattle.std.specs.Prelude.{slice_index_or, slice_set}
use Rattle.scope_core.specs.Scopes.{Frame, declare}
use Rattle.scope_core.specs.Walked.{kept}
use Rattle.scope_core.proofs.Captures.{last_here, last_changed, changed_frame}
use Rattle.scope_core.proofs.nesting.Nesting.keep.Goals as goal

pub returns : goal.returns
returns c =
    let xs : List Frame = c.self.inside.functions.scopes.items in let here : Frame = slice_index_or xs (length xs - 1) c.index_mut.result.now in
    let size : c.len-functions.result ≡ length c.self.inside.functions.scopes.items = search rules in
    let value : c.index_mut.result.now ≡ here = last_here xs c.len-functions.result c.index_mut.result.now size (search rules) in
    let changed : c.keep.new.self ≡ record here { variables = drop (length here.variables - c.args.count) here.variables } =
    changed_frame c.keep.new.self c.index_mut.result.now here (drop (length here.variables - c.args.count) here.variables) value (c.keep.ensures.kept ∙ ap (λ (g : Frame). drop (length g.variables - c.args.count) g.variables) value) c.keep.ensures.upvalues in
    ap (λ n. reverse (slice_set xs (n - 1) c.keep.new.self)) size
    ∙ last_changed xs c.index_mut.result.now c.keep.new.self (kept c.args.count) (search rules) (λ rest. ap (λ (f : Frame). f ∷ rest) changed)
    ∙ ap (kept c.args.count) c.self.view_is
