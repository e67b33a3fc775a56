use Rattle.std.proofs.Common.{◌≡◌, ◌<◌, ◌+◌, ◌-◌, ◌^◌, List, Some, true, pos, ℤ, ◌≤ℤ◌, ℕ, drop, rules, arith, w64, to_z, of_z, ap, sym, subst, ◌∙◌}
use Rattle.std.specs.Prelude.{slice_get, nat_abs}
use Rattle.std.specs.List.{list_all}
use Rattle.std.proofs.lemmas.Int.{ints, to_z-of_z}
use Rattle.code_core.specs.declared.proto.AbsLine.{AbsLine}
use Rattle.code_core.specs.Prototype.{Prototype}
use Rattle.code_core.specs.Check.{is_line, lines_from}
use Rattle.lua_heap.proofs.Placed.{line_below, line_bounds}
use Rattle.lua_heap.proofs.NextLine.{asked_good, line_found, line_later, next_is_good, next_is_line}
use Rattle.lua_heap.proofs.places.line_at.Goals as goal

pub next_line-line-requires-clause-good : goal.next_line-line-requires-clause-good
next_line-line-requires-clause-good c =
    asked_good c.args.proto.now _ c.deref.result.now c.deref-change-items.result.now c.loop-at.at (to_z w64 c.loop-at.line-bits)
    c.proto.view_is c.deref.ensures.value c.deref-change-items.ensures.value (search rules) (search rules) c.loop-at.invariant.good

pub overflow_cast-result : goal.overflow_cast-result
overflow_cast-result c =
    let next : ℤ = c.next_line-line.result in
    let bits : to_z w64 (of_z w64 next) ≡ next = to_z-of_z w64 next (record { sfits = c.next_line-line.type_inv }) in
    let is_good : is_line (Some next) ≡ true =
    next_is_line c.args.proto.now _ c.deref.result.now c.deref-change-items.result.now c.loop-at.at (to_z w64 c.loop-at.line-bits)
    c.proto.view_is c.deref.ensures.value c.deref-change-items.ensures.value (search rules) (search rules) c.loop-at.invariant.good next c.next_line-line.ensures in
    let low : pos 0 ≤ℤ next = (line_bounds next is_good).0 in
    let below : nat_abs next < 2 ^ 31 = line_below next is_good in
    (omega (arith, ints, bits, low), omega (arith, ints, bits, below))

pub returns-then-at-pc : goal.returns-then-at-pc
returns-then-at-pc c =
    let next : ℤ = c.next_line-line.result in
    let bits : to_z w64 (of_z w64 next) ≡ next = to_z-of_z w64 next (record { sfits = c.next_line-line.type_inv }) in
    ap (λ z. Some (nat_abs z)) bits ∙ line_found c.args.proto.now _ c.deref.result.now c.deref-change-items.result.now c.loop-at.at (to_z w64 c.loop-at.line-bits)
    c.proto.view_is c.deref.ensures.value c.deref-change-items.ensures.value (search rules) (search rules) c.loop-at.invariant.good next c.next_line-line.ensures c.args.pc c.loop-at.invariant.same c.if-at-pc.true

pub loop-at-preserved : goal.loop-at-preserved
loop-at-preserved c =
    let p : Prototype = c.args.proto.now in
    let next : ℤ = c.next_line-line.result in
    let back : next ≡ to_z w64 (of_z w64 next) = sym (to_z-of_z w64 next (record { sfits = c.next_line-line.type_inv })) in
    let bounds = line_bounds next (next_is_line c.args.proto.now _ c.deref.result.now c.deref-change-items.result.now c.loop-at.at (to_z w64 c.loop-at.line-bits)
    c.proto.view_is c.deref.ensures.value c.deref-change-items.ensures.value (search rules) (search rules) c.loop-at.invariant.good next c.next_line-line.ensures) in
    let abs : List AbsLine = p.own.abs_lines in
    let info : List ℤ = p.own.line_info in
    let at : ℕ = c.loop-at.at in
    record {
      low = subst (λ z. pos 0 ≤ℤ z) back bounds.0;
      high = subst (λ z. z ≤ℤ pos (2 ^ 32)) back bounds.1;
      good = subst (λ z. list_all is_line (lines_from abs (at + 1) (Some z) (drop (at + 1) info)) ≡ true) back
          (next_is_good c.args.proto.now _ c.deref.result.now c.deref-change-items.result.now c.loop-at.at (to_z w64 c.loop-at.line-bits)
          c.proto.view_is c.deref.ensures.value c.deref-change-items.ensures.value (search rules) (search rules) c.loop-at.invariant.good next c.next_line-line.ensures);
      same = subst (λ z. slice_get (lines_from abs (at + 1) (Some z) (drop (at + 1) info)) (c.args.pc - (at + 1)) ≡ slice_get (lines_from abs 0 (Some (pos p.own.line_defined)) info) c.args.pc) back
          (line_later c.args.proto.now _ c.deref.result.now c.deref-change-items.result.now c.loop-at.at (to_z w64 c.loop-at.line-bits)
          c.proto.view_is c.deref.ensures.value c.deref-change-items.ensures.value (search rules) (search rules) c.loop-at.invariant.good next c.next_line-line.ensures c.args.pc c.loop-at.invariant.same c.loop-at.invariant.within c.if-at-pc.false);
      within = omega (arith, c.loop-at.invariant.within, c.if-at-pc.false);
    }
