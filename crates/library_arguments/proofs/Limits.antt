-- Outcomes within the limit on strings.
use Rattle.std.proofs.Common.{◌≡◌, ℕ, Bool, true, false, List, refl, ap, sym, ◌∙◌}
use Rattle.std.specs.Prelude.{cond, map}
use Rattle.std.specs.List.{list_all}
use Rattle.int_core.specs.Value.{Plain as Known, known}
use Rattle.int_core.specs.Heap.{Heap}
use Rattle.library_rows.specs.Look.{Done, done, refused}
use Rattle.library_rows.specs.Plainly.{Outcome, results, error, done_as, fits_length, too_large}
use Rattle.library_arguments.specs.Answers.{within_limit}

pub within_done : (told : Outcome) (ps : List Known) (H : Heap) → within_limit told ≡ results ps → (done_as H told ≡ done H (map known ps)) × (list_all fits_length ps ≡ true)
within_done (error text) ps H e = absurd (cc)
within_done (results qs) ps H e = by (list_all fits_length qs) refl e
  where
    by : (b : Bool) → list_all fits_length qs ≡ b → cond b (results qs) (error too_large) ≡ results ps
        → (cond b (done H (map known qs)) (refused too_large) ≡ done H (map known ps)) × (list_all fits_length ps ≡ true)
    by true fit same = let e : qs ≡ ps = cc in (ap (λ rs. done H (map known rs)) e, ap (list_all fits_length) (sym e) ∙ fit)
    by false fit same = absurd (cc)

pub within_refused : (told : Outcome) (text : List ℕ) (H : Heap) → within_limit told ≡ error text → done_as H told ≡ refused text
within_refused (error why) text H e = let same : why ≡ text = cc in ap (λ bytes. refused bytes) same
within_refused (results qs) text H e = by (list_all fits_length qs) e
  where
    by : (b : Bool) → cond b (results qs) (error too_large) ≡ error text → cond b (done H (map known qs)) (refused too_large) ≡ refused text
    by true same = absurd (cc)
    by false same = let e : too_large ≡ text = cc in ap (λ bytes. refused bytes) e
