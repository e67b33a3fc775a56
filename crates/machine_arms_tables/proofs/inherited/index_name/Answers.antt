use Rattle.std.proofs.Common.{◌≡◌, Some, subst, ℕ, List}
use Rattle.std.specs.Prelude.{IfSome, slice_get}
use Rattle.machine_arms_tables.proofs.inherited.index_name.Goals as goal

pub returns : goal.returns
returns c = subst (λ (text : List ℕ). IfSome c.find.result (λ id. slice_get c.args.strings.now id.0 ≡ Some text)) c.index_text-name.ensures c.find.ensures.found
