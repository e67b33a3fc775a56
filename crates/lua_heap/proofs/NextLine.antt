-- The line of an instruction from that in front of it: what is known where the walk over the lines of a function stands at it.
use Rattle.std.proofs.Common.{◌≡◌, ◌<◌, ◌+◌, ◌-◌, ◌∷◌, ◌≤◌, ℕ, suc, List, Some, true, pos, ℤ, length, drop, arith, w8, to_z, of_z, ap, sym, subst, ◌∙◌}
use Rattle.std.specs.Prelude.{◌≢◌, slice_get, slice_index_or, nat_abs}
use Rattle.std.specs.List.{list_all}
use Rattle.std.proofs.Math.Seq.{drop-cons}
use Rattle.code_core.specs.declared.proto.AbsLine.{AbsLine}
use Rattle.code_core.specs.Prototype.{Prototype}
use Rattle.code_core.specs.Check.{is_line, line_at, lines_from}
use Rattle.machine_core.specs.Moves.{line_of}
use Rattle.lua_heap.proofs.Placed.{as_natural, line_behind, line_here, line_is, next_good, rest_good}

module _ (p q : Prototype) (abs : List AbsLine) (items : List ℤ) (at : ℕ) (line : ℤ) (view : q ≡ p) (of_lines : abs ≡ q.own.abs_lines) (of_info : items ≡ q.own.line_info) (there : at < length items)
    (signed : to_z w8 (of_z w8 (slice_index_or items at (pos 0))) ≡ slice_index_or items at (pos 0))
    (good : list_all is_line (lines_from p.own.abs_lines at (Some line) (drop at p.own.line_info)) ≡ true) where
  abbrev change : ℤ
  change = slice_index_or items at (pos 0)

  lines : abs ≡ p.own.abs_lines
  lines = of_lines ∙ ap (λ (p : Prototype). p.own.abs_lines) view

  here : drop at p.own.line_info ≡ change ∷ drop (at + 1) p.own.line_info
  here =
      let infos : items ≡ p.own.line_info = of_info ∙ ap (λ (p : Prototype). p.own.line_info) view in
      let on : at + 1 ≡ suc at = omega arith in
      subst (λ info. drop at info ≡ change ∷ drop (at + 1) info) infos (drop-cons items at (pos 0) there ∙ ap (λ k. change ∷ drop k items) (sym on))

  good_here : is_line (line_at p.own.abs_lines at (Some line) change) ≡ true
  good_here = next_good p.own.abs_lines p.own.line_info at line change here good

  pub asked_good : is_line (line_at abs at (Some line) (to_z w8 (of_z w8 change))) ≡ true
  asked_good = ap (λ z. is_line (line_at abs at (Some line) z)) signed ∙ ap (λ ls. is_line (line_at ls at (Some line) change)) lines ∙ good_here

  module _ (next : ℤ) (told : line_at abs at (Some line) (to_z w8 (of_z w8 change)) ≡ Some next) where
    next_is : line_at p.own.abs_lines at (Some line) change ≡ Some next
    next_is = ap (λ z. line_at p.own.abs_lines at (Some line) z) (sym signed) ∙ ap (λ ls. line_at ls at (Some line) (to_z w8 (of_z w8 change))) (sym lines) ∙ told

    pub next_is_line : is_line (Some next) ≡ true
    next_is_line = ap is_line (sym next_is) ∙ good_here

    pub next_is_good : list_all is_line (lines_from p.own.abs_lines (at + 1) (Some next) (drop (at + 1) p.own.line_info)) ≡ true
    next_is_good = rest_good p.own.abs_lines p.own.line_info at line change here next next_is good

    module _ (pc : ℕ) (same : slice_get (lines_from p.own.abs_lines at (Some line) (drop at p.own.line_info)) (pc - at) ≡ slice_get (lines_from p.own.abs_lines 0 (Some (pos p.own.line_defined)) p.own.line_info) pc) where
      pub line_found : at ≡ pc → Some (nat_abs next) ≡ line_of p pc
      line_found e = line_is p pc next (nat_abs next) (sym same ∙ line_here p.own.abs_lines p.own.line_info at line change here next next_is pc e) (as_natural next next_is_line)

      pub line_later : at ≤ pc → at ≢ pc
          → slice_get (lines_from p.own.abs_lines (at + 1) (Some next) (drop (at + 1) p.own.line_info)) (pc - (at + 1)) ≡ slice_get (lines_from p.own.abs_lines 0 (Some (pos p.own.line_defined)) p.own.line_info) pc
      line_later within other = line_behind p.own.abs_lines p.own.line_info at line change here next next_is pc within other ∙ same
