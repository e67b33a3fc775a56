use Rattle.std.proofs.Common.{◌+◌, arith}
use Rattle.meaning_ends.proofs.Measure.{measure}
use Rattle.meaning_ends.proofs.Asks.{asks_within}
use Rattle.meaning_ends.proofs.law.asks_at_last.Goals as goal

pub returns : goal.returns
returns c = λ s. asks_within (measure s + 1) s (omega arith)
