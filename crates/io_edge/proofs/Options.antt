-- What is done to a value that may be there, one change after another.
use Rattle.std.proofs.Common.{◌≡◌, ◌++◌, ◌+◌, ◌-◌, ℕ, List, Bool, true, false, cond, Option, None, Some, refl, ap, arith, append_assoc, take, length}
use Rattle.std.proofs.Math.ListN.{drop}
use Rattle.std.proofs.Math.Seq.{take-add}
use Rattle.std.proofs.lemmas.Grind.{common_steps}
use Rattle.std.specs.Option.{option_map}

-- a change goes into both branches of a choice
pub option_map-cond : {X : Type 0} (f : X → List ℕ) (b : Bool) (x : X) (o : Option X) → option_map f (cond b (Some x) o) ≡ cond b (Some (f x)) (option_map f o)
option_map-cond f true x o = refl
option_map-cond f false x o = refl

-- a front of some bytes, and then a front of the rest, is a longer front
front_of_rest : (bytes : List ℕ) (done count : ℕ) → take done bytes ++ take count (take (length bytes - done) (drop done bytes)) ≡ take (done + count) bytes
front_of_rest bytes done count =
    let rest : take (length bytes - done) (drop done bytes) ≡ drop done bytes = grind (arith, common_steps) in
    rw (rest, take-add done count bytes)

-- what grew by a front of some bytes, and then by a front of the rest, grew by a longer front
pub grows_on : (bytes : List ℕ) (done count : ℕ) (before between after : Option (List ℕ)) → between ≡ option_map (λ text. text ++ take done bytes) before →
    after ≡ option_map (λ text. text ++ take count (take (length bytes - done) (drop done bytes))) between → after ≡ option_map (λ text. text ++ take (done + count) bytes) before
grows_on bytes done count None between after first then = rw (then, first)
grows_on bytes done count (Some text) between after first then = rw (then, first) (ap Some (rw append_assoc (ap (λ front. text ++ front) (front_of_rest bytes done count))))
