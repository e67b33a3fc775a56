use Rattle.table_core.proofs.PlaceLemmas.{found-cases}
use Rattle.table_core.proofs.indexed.Indexed.hashed.Goals as goal

pub returns : goal.returns
returns c = found-cases c.args.self.now.rows.entries c.args.key c.get_index_of.result c.get_index_of.ensures.index c.get_index_of.ensures.found
