-- Each list is read in one way.
use Rattle.std.proofs.Common.{◌≡◌, List, refl}
use Rattle.token_cursor.specs.Words.{Lexeme}
use Rattle.lua_parse.specs.Moves.{Move}
use Rattle.lua_parse.specs.Reading.{Outcome, whole, Reads, picks, picks_none, passes, passes_none, refuses, refuses_none, is_whole, within_whole, within_cut, within_stuck}

pub only : {move : Move} {tokens : List Lexeme} {o p : Outcome} → Reads move tokens o → Reads move tokens p → o ≡ p
only (picks h) (picks h') = only h h'
only picks_none picks_none = refl
only (passes h) (passes h') = only h h'
only passes_none passes_none = refl
only refuses refuses = refl
only refuses_none refuses_none = refl
only is_whole is_whole = refl
only {p = p} (within_whole piece height between h later) (within_whole piece' height' between' h' later') =
    let same : whole piece height between ≡ whole piece' height' between' = only h h' in
    let pieces : piece ≡ piece' = cc in
    let heights : height ≡ height' = cc in
    let betweens : between ≡ between' = cc in
    only later (rw (pieces, heights, betweens) later')
only (within_whole piece height between h later) (within_cut h') = absurd (let bad = only h h' in cc)
only (within_whole piece height between h later) (within_stuck h') = absurd (let bad = only h h' in cc)
only (within_cut h) (within_whole piece height between h' later) = absurd (let bad = only h h' in cc)
only (within_cut h) (within_cut h') = refl
only (within_cut h) (within_stuck h') = absurd (let bad = only h h' in cc)
only (within_stuck h) (within_whole piece height between h' later) = absurd (let bad = only h h' in cc)
only (within_stuck h) (within_cut h') = absurd (let bad = only h h' in cc)
only (within_stuck h) (within_stuck h') = only h h'
