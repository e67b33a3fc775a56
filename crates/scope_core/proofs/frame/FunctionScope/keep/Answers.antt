-- The first variables are the last ones of the list that contracts see.
use Rattle.std.proofs.Common.{◌-◌, ◌∙◌, ap, drop, length, reverse}
use Rattle.scope_core.specs.Scopes.{Frame}
use Rattle.scope_core.proofs.Variables.{reversed_take}
use Rattle.scope_core.proofs.frame.FunctionScope.keep.Goals as goal

pub returns-clause-kept : goal.returns-clause-kept
returns-clause-kept c =
    ap reverse c.truncate.ensures.items
    ∙ reversed_take c.args.count c.self.inside.variables.items
    ∙ ap (λ (frame : Frame). drop (length frame.variables - c.args.count) frame.variables) c.self.view_is
