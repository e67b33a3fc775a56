-- The parts of a line, written one after another.
use Rattle.std.proofs.Common.{◌≡◌, ℕ, zero, suc, ◌+◌, ◌≤◌, List, [], ◌∷◌, ◌++◌, Option, Some, refl, sym, ◌∙◌, ap, subst, drop, length, arith}
use Rattle.std.specs.Prelude.{flat_map, option_map, slice_get}
use Rattle.io_edge.specs.Content.{GrowsByFront}
use Rattle.lua_feed.proofs.Fed.{front_behind, front_more}
use Rattle.program.specs.declared.reporting.Part.{Part}
use Rattle.program.specs.Lines.{part_text}
use Rattle.program.proofs.ReportLemmas.{same_text, then_text}

-- the texts of parts from a place on
abbrev pub text_from : List Part → ℕ → List ℕ
text_from ps at = flat_map part_text (drop at ps)

next_part : (ps : List Part) (at : ℕ) (p : Part) → slice_get ps at ≡ Some p → text_from ps at ≡ part_text p ++ text_from ps (suc at)
next_part [] at p g = absurd (cc)
next_part (q ∷ ps) zero p g = let same : q ≡ p = cc in ap (λ r. part_text r ++ flat_map part_text ps) same
next_part (q ∷ ps) (suc at) p g = next_part ps at p g

none_left : (ps : List Part) (at : ℕ) → length ps ≤ at → text_from ps at ≡ []
none_left [] zero h = refl
none_left [] (suc at) h = refl
none_left (q ∷ ps) zero h = absurd (omega (arith, h))
none_left (q ∷ ps) (suc at) h = none_left ps at (omega (arith, h))

module _ (ps : List Part) (at : ℕ) (p : Part) (here : slice_get ps at ≡ Some p) where
  next_on : part_text p ++ text_from ps (at + 1) ≡ text_from ps at
  next_on = let on : at + 1 ≡ suc at = omega arith in ap (λ n. part_text p ++ text_from ps n) on ∙ sym (next_part ps at p here)

  -- the part is written, and what is left, all or a front of it
  pub written_on : (before between after : Option (List ℕ)) → between ≡ option_map (λ text. text ++ part_text p) before → after ≡ option_map (λ text. text ++ text_from ps (at + 1)) between
      → after ≡ option_map (λ text. text ++ text_from ps at) before
  written_on before between after first rest = subst (λ all. after ≡ option_map (λ text. text ++ all) before) next_on (then_text before between after (part_text p) (text_from ps (at + 1)) first rest)

  pub front_on : (before between after : Option (List ℕ)) → between ≡ option_map (λ text. text ++ part_text p) before → GrowsByFront (text_from ps (at + 1)) between after → GrowsByFront (text_from ps at) before after
  front_on before between after first rest = subst (λ all. GrowsByFront all before after) next_on (front_behind (part_text p) (text_from ps (at + 1)) before between after first rest)

  -- a front of the part is written
  pub front_here : (before after : Option (List ℕ)) → GrowsByFront (part_text p) before after → GrowsByFront (text_from ps at) before after
  front_here before after front = subst (λ all. GrowsByFront all before after) next_on (front_more (part_text p) (text_from ps (at + 1)) before after front)

pub all_written : (ps : List Part) (at : ℕ) (written : Option (List ℕ)) → length ps ≤ at → written ≡ option_map (λ text. text ++ text_from ps at) written
all_written ps at written h = subst (λ rest. written ≡ option_map (λ text. text ++ rest) written) (sym (none_left ps at h)) (same_text written)
