-- A loop over the list of what was met visits as the definition does.
use Rattle.std.proofs.Common.{◌≡◌, ℕ, zero, suc, ◌+◌, List, Some, None, refl, ap, arith}
use Rattle.std.specs.Prelude.{slice_get}
use Rattle.image_core.specs.Visit.{add_new, visit}
use Rattle.image_core.specs.Records.{Part, same_part}

pub visit_step : (parts : Part → List Part) (n m at : ℕ) (o : Part) (seen : List Part) → n ≡ suc m → slice_get seen at ≡ Some o → visit same_part parts n at seen ≡ visit same_part parts m (at + 1) (add_new same_part seen (parts o))
visit_step parts n m at o seen e h =
    let s : suc at ≡ at + 1 = omega arith in
    rw (e, visit, h) (ap (λ k. visit same_part parts m k (add_new same_part seen (parts o))) s)

pub visit_end : (parts : Part → List Part) (n at : ℕ) (seen : List Part) → slice_get seen at ≡ None → visit same_part parts n at seen ≡ seen
visit_end parts zero at seen h = refl
visit_end parts (suc n) at seen h = rw (visit, h) refl
