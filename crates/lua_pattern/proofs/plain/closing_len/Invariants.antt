use Rattle.std.proofs.Common.{◌≡◌, ◌+◌, ◌<◌, ◌≤◌, None}
use Rattle.std.specs.Prelude.{find, ◌==◌}
use Rattle.std.specs.List.{range_with_len}
use Rattle.lua_pattern.specs.Ways.{open_after}
use Rattle.lua_pattern.proofs.plain.closing_len.Given as goal

-- so much is open after the bytes so far, and it was never nothing
abbrev pub invariant-loop-index : goal.invariant-loop-index
invariant-loop-index l =
    (0 < l.depth) × (l.depth ≤ 1 + l.index) × (l.depth ≡ open_after l.opening l.closing l.text l.index) × (find (λ count. open_after l.opening l.closing l.text count == 0) (range_with_len 1 l.index) ≡ None)
