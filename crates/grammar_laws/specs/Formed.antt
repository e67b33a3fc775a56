-- What the grammar gives of the forms in a tree, and the static rules do not: a statement that is an expression is a call, what is assigned is a
-- name or an index, and a generic `for` declares a name (Lua 5.4 manual, 3.3).
use Rattle.std.specs.Prelude.{◌<◌, length}
use Rattle.tree_core.specs.Tree.{Block, Body, Stat, Assign, CallStat, GenFor, Exp, Var, Index, Call, Method, Exps, EndExps, MoreExps}
use Rattle.tree_terms.specs.Asked.{Asked, nothing_asked, BlockMeets, BodyMeets}

abbrev pub IsCall : Exp → Type 0
IsCall (Call line f es) = Unit {0}
IsCall (Method line object name es) = Unit {0}
IsCall _ = ⊥

abbrev pub IsNameOrIndex : Exp → Type 0
IsNameOrIndex (Var line name) = Unit {0}
IsNameOrIndex (Index line object key) = Unit {0}
IsNameOrIndex _ = ⊥

abbrev pub AreTargets : Exps → Type 0
AreTargets EndExps = Unit {0}
AreTargets (MoreExps e es) = IsNameOrIndex e × AreTargets es

abbrev pub stat_is_formed : Stat → Type 0 → Type 0
stat_is_formed (Assign line targets es) parts = AreTargets targets × parts
stat_is_formed (CallStat line e) parts = IsCall e × parts
stat_is_formed (GenFor line names es block) parts = (0 < length names) × parts
stat_is_formed _ parts = parts

abbrev pub all_formed : Asked
all_formed = record nothing_asked { stat = stat_is_formed }

-- of an expression it is said of the functions in it

abbrev pub BlockIsFormed : Block → Type 0
BlockIsFormed block = BlockMeets all_formed block

abbrev pub BodyIsFormed : Body → Type 0
BodyIsFormed body = BodyMeets all_formed body
