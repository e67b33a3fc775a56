-- What the exit of a `?` returns.
use Rattle.std.proofs.Common.{◌≡◌, Result, Ok, Err, IsErrAnd, ap}

-- it is the fault that another was made into
pub raised : {T E : Type 0} (r : Result T E) (fault : E) → IsErrAnd r (λ made. made ≡ fault) → r ≡ Err fault
raised (Ok done) fault h = absurd h
raised (Err made) fault h = ap (λ y. Err y) h
