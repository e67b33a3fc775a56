-- Rows that look at no table are functions of the shapes of their arguments.
use Rattle.std.proofs.Common.{ℕ, zero, suc, ◌≡◌, List, [], ◌∷◌, refl, ◌∙◌, ap, length, map, Bool, true, false}
use Rattle.std.specs.Prelude.{cond}
use Rattle.std.specs.List.{list_all}
use Rattle.int_core.specs.Value.{Plain, Value, known, Shape, shape, nth}
use Rattle.int_core.specs.Heap.{Heap}
use Rattle.library_rows.specs.Look.{written, args_of, Look, gives, refuses, done, refused, looked}
use Rattle.library_rows.specs.Plainly.{Outcome, results, error, too_large, fits_length, told_as, sees, done_as, PlainRowsAreFunctions}

shapes : (many at : ℕ) → List Value → List Shape
shapes zero at vs = []
shapes (suc many) at vs = shape (nth vs at) ∷ shapes many (suc at) vs

seen : (many at : ℕ) (k : List Shape → Look) (vs : List Value) (H : Heap) → looked (sees many at k) vs H ≡ looked (k (shapes many at vs)) vs H
unfolding shapes
seen zero at k vs H = refl
seen (suc many) at k vs H = seen many (suc at) (λ ss. k (shape (nth vs at) ∷ ss)) vs H

shifted : (many at : ℕ) (v : Value) (vs : List Value) → shapes many (suc at) (v ∷ vs) ≡ shapes many at vs
unfolding shapes
shifted zero at v vs = refl
shifted (suc many) at v vs = ap (λ ss. shape (nth vs at) ∷ ss) (shifted many (suc at) v vs)

all_shapes : (vs : List Value) → shapes (length vs) 0 vs ≡ map shape vs
unfolding shapes
all_shapes [] = refl
all_shapes (v ∷ vs) = ap (λ ss. shape v ∷ ss) (shifted (length vs) 0 v vs ∙ all_shapes vs)

pub written_out : (env : List Value) (ps : List Plain) → args_of env (map written ps) ≡ map known ps
written_out env [] = refl
written_out env (p ∷ ps) = ap (λ vs. known p ∷ vs) (written_out env ps)

told : (o : Outcome) (vs : List Value) (H : Heap) → looked (told_as o) vs H ≡ done_as H o
told (error text) vs H = refl
told (results ps) vs H = by (list_all fits_length ps)
  where
    by : (b : Bool) → looked (cond b (gives (map written ps)) (refuses too_large)) vs H ≡ cond b (done H (map known ps)) (refused too_large)
    by true = ap (λ ws. done H ws) (written_out vs ps)
    by false = refl

pub are_functions : PlainRowsAreFunctions
are_functions f vs H = seen (length vs) 0 (λ ss. told_as (f ss)) vs H ∙ ap (λ ss. looked (told_as (f ss)) vs H) (all_shapes vs) ∙ told (f (map shape vs)) vs H
