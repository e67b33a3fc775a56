-- What a pool ends as, where an object of it is lent for writing.
use Rattle.std.specs.Prelude.{ℕ}
use Rattle.std.specs.Borrow.{Lends, Fml, RattleType, MutBor}
use Rattle.object_pool.specs.Pool.{Pool, with_object}
use Rattle.object_pool.specs.contracts.pool.Pool.{the_row}

-- once the loan ends, the pool has at that place the last value written through it
abbrev pub lends_object : (T : RattleType) → MutBor (Pool T.Denot) → ℕ → MutBor T.Denot → Fml
lends_object T pool at object = Lends (the_row T) T pool object (with_object pool.now at)
