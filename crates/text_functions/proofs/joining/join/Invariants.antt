use Rattle.text_functions.proofs.Joins.{IsJoined}
use Rattle.text_functions.proofs.joining.join.Given as goal

abbrev pub invariant-loop-piece : goal.invariant-loop-piece
invariant-loop-piece l = IsJoined (λ piece. piece.now) l.pieces l.piece-index l.text
