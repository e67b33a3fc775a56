use Rattle.std.proofs.Common.{◌≡◌, ℕ, ◌+◌, ◌-◌, ◌<◌, ◌≤◌, List, length, get_or, None, Some, sym, arith}
use Rattle.std.specs.Prelude.{find, ◌==◌}
use Rattle.std.specs.List.{range_with_len}
use Rattle.std.proofs.lemmas.Bool.{eq-eqb, ne_eqb}
use Rattle.lua_pattern.specs.Ways.{open_after}
use Rattle.lua_pattern.proofs.Balanced.{find_more, find_first, open_closed, open_opened, open_kept}
use Rattle.lua_pattern.proofs.plain.closing_len.Goals as goal
use Rattle.lua_pattern.proofs.plain.closing_len.Goals.{then-byte-closing+else-depth-eq0, else-byte-closing+then-byte-opening, else-byte-closing+else-byte-opening}

-- nothing is open for the first time
found : (opening closing : ℕ) (text : List ℕ) (index depth : ℕ) → index < length text → get_or text index 0 ≡ closing → depth ≡ open_after opening closing text index → find (λ count. open_after opening closing text count == 0) (range_with_len 1 index) ≡ None → depth - 1 ≡ 0 → Some (index + 1) ≡ find (λ count. open_after opening closing text count == 0) (range_with_len 1 (length text))
found opening closing text index depth inside same here none over =
    let closed = open_closed opening closing text index inside same in
    let nothing : open_after opening closing text (index + 1) ≡ 0 = omega (arith, closed, here, over) in
    sym (find_first (λ count. open_after opening closing text count == 0) index (length text) none (eq-eqb _ 0 nothing) inside)

-- something is still open
more : (opening closing : ℕ) (text : List ℕ) (index depth : ℕ) → find (λ count. open_after opening closing text count == 0) (range_with_len 1 index) ≡ None → 0 < depth → depth ≤ 1 + (index + 1) → depth ≡ open_after opening closing text (index + 1) → (0 < depth) × (depth ≤ 1 + (index + 1)) × (depth ≡ open_after opening closing text (index + 1)) × (find (λ count. open_after opening closing text count == 0) (range_with_len 1 (index + 1)) ≡ None)
more opening closing text index depth none positive bounded here =
    (positive, bounded, here, find_more (λ count. open_after opening closing text count == 0) index none (ne_eqb _ 0 (λ e. omega (arith, e, positive, here))))

pub returns-then-depth-eq0-clause-value : goal.returns-then-depth-eq0-clause-value
returns-then-depth-eq0-clause-value c =
    let i = c.loop-index.invariant in
    found c.args.opening c.args.closing c.args.text.now c.loop-index.index c.loop-index.depth c.loop-index-test.true c.if-byte-closing.true i.2 i.3 c.if-depth-eq0.true

pub loop-index-preserved : goal.loop-index-preserved
loop-index-preserved c =
    let i = c.loop-index.invariant in
    let o = c.args.opening in
    let z = c.args.closing in
    let text = c.args.text.now in
    let at = c.loop-index.index in
    let inside : at < length text = c.loop-index-test.true in
    elim c.if-byte-closing.branch [
      | then-byte-closing+else-depth-eq0 w ↦
          (let after = open_closed o z text at inside w.if-byte-closing.true in
          let left : 0 < c.loop-index.depth - 1 = omega (arith, w.if-depth-eq0.false) in
          more o z text at _ i.3 (omega (arith, w.depth-is, left)) (omega (arith, w.depth-is)) (omega (arith, w.depth-is, after, i.2)))
      | else-byte-closing+then-byte-opening w ↦
          (let after = open_opened o z text at inside w.if-byte-closing.false w.if-byte-opening.true (omega (arith, i.0, i.2)) in
          more o z text at _ i.3 (omega (arith, w.depth-is)) (omega (arith, w.depth-is)) (omega (arith, w.depth-is, after, i.2)))
      | else-byte-closing+else-byte-opening w ↦
          (let after = open_kept o z text at inside w.if-byte-closing.false w.if-byte-opening.false in
          more o z text at _ i.3 (omega (arith, w.depth-is)) (omega (arith, w.depth-is)) (omega (arith, w.depth-is, after, i.2)))
    ]
