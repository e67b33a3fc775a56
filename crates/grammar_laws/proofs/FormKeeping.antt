-- What is read is formed: what is claimed of each piece, by the part that gives it, and of what stands before a part.
use Rattle.std.proofs.Common.{ℕ, ◌<◌, length}
use Rattle.tree_core.specs.Tree as tree
use Rattle.tree_terms.specs.Asked.{ExpMeets, ExpsMeet}
use Rattle.lua_parse.specs.Moves.{Piece, some_names, an_exp, some_exps, a_target, Part, dotted, more_names, path, assignment, more_targets, Move}
use Rattle.grammar_laws.specs.Formed.{IsNameOrIndex, AreTargets, all_formed}
use Rattle.grammar_laws.proofs.Walk.{AnyToken, Keeps}
use Rattle.grammar_laws.proofs.Asking.{PieceMeets, FrontMeets}

abbrev pub PieceIsFormed : Piece → Type 0
PieceIsFormed (some_names xs) = 0 < length xs
PieceIsFormed (a_target e own) = IsNameOrIndex e × ExpMeets all_formed e
PieceIsFormed p = PieceMeets all_formed p

-- some parts give what can be assigned

abbrev pub PieceIsTarget : Piece → Type 0
PieceIsTarget (an_exp e) = IsNameOrIndex e
PieceIsTarget _ = Unit {0}

abbrev pub PieceHasTargets : Piece → Type 0
PieceHasTargets (some_exps es) = AreTargets (tree.exps es)
PieceHasTargets _ = Unit {0}

abbrev pub IsFormedBy : Part → Piece → Type 0
IsFormedBy (dotted w left height) p = PieceIsTarget p × PieceIsFormed p
IsFormedBy (path left height) p = PieceIsTarget p × PieceIsFormed p
IsFormedBy (more_targets ts height) p = PieceHasTargets p × PieceIsFormed p
IsFormedBy _ p = PieceIsFormed p

abbrev pub Forms : Part → ℕ → Piece → Type 0
Forms part room p = IsFormedBy part p

-- what stands before a part
abbrev pub StandsFormed : Part → Type 0
StandsFormed (more_names xs) = 0 < length xs
StandsFormed (path left height) = IsNameOrIndex left × ExpMeets all_formed left
StandsFormed (assignment line first height) = IsNameOrIndex first × ExpMeets all_formed first
StandsFormed (more_targets ts height) = AreTargets (tree.exps ts) × ExpsMeet all_formed (tree.exps ts)
StandsFormed part = FrontMeets all_formed part

abbrev pub FrontIsFormed : Part → ℕ → Type 0
FrontIsFormed part room = StandsFormed part

abbrev pub GivesFormed : Part → ℕ → Move → Type 0
GivesFormed part room move = Keeps AnyToken FrontIsFormed Forms part room move
