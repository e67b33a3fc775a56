use Rattle.std.proofs.Common.{sym, ◌∙◌, arith}
use Rattle.std.proofs.lemmas.Option.{slice_get-get_or}
use Rattle.table_core.proofs.PlaceLemmas.{key-at}
use Rattle.table_core.proofs.keyed.place_among.Goals as goal

pub returns-then-eq : goal.returns-then-eq
returns-then-eq c = key-at c.args.rows.now c.args.key _ _ c.loop-at.at (slice_get-get_or c.args.rows.now c.loop-at.at _ (omega arith)) (sym c.eq.ensures ∙ c.if-eq.true)
