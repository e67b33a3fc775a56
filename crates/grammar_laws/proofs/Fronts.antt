-- What stands before a part, as the piece that it was read as.
use Rattle.std.proofs.Common.{Option, Some, None}
use Rattle.lua_parse.specs.Moves.{Piece, an_exp, some_exps, some_fields, some_arms, Part, behind, more_fields, suffixes, suffix, dotted, indexed, method, call, more_exps, more_arms, path, assignment, more_targets}

abbrev pub front : Part → Option Piece
front (behind level left height) = Some (an_exp left)
front (more_fields fs height) = Some (some_fields fs)
front (suffixes left height) = Some (an_exp left)
front (suffix left height) = Some (an_exp left)
front (dotted w left height) = Some (an_exp left)
front (indexed left height) = Some (an_exp left)
front (method left height) = Some (an_exp left)
front (call left height) = Some (an_exp left)
front (more_exps es height) = Some (some_exps es)
front (more_arms as' height) = Some (some_arms as')
front (path left height) = Some (an_exp left)
front (assignment line first height) = Some (an_exp first)
front (more_targets ts height) = Some (some_exps ts)
front _ = None
