use Rattle.std.proofs.Common.{◌≡◌, true, Some, slice_get, sym, ◌∙◌, rules}
use Rattle.table_core.specs.Value.{value_eq}
use Rattle.table_core.proofs.PlaceLemmas.{key-at}
use Rattle.table_core.proofs.indexed.Indexed.hinted.Goals as goal

pub returns-then-eq : goal.returns-then-eq
returns-then-eq c =
    let found : slice_get c.args.self.now.rows.entries c.in_ok-hint.hint.now ≡ Some (c.in_ok-found.found.now, c.in_ok-found.field-0-1.now) = search rules in
    let same : value_eq c.in_ok-found.found.now c.args.key ≡ true = sym c.eq.ensures ∙ c.if-eq.true in
    key-at c.args.self.now.rows.entries c.args.key c.in_ok-found.found.now c.in_ok-found.field-0-1.now c.in_ok-hint.hint.now found same
