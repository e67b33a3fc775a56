-- What a statement makes and what it declares: functions, locals in scope behind it, and variables to be closed among them.
use Rattle.std.specs.Prelude.{ℕ, ◌+◌, Bool, false, cond, ◌||◌, List, [], ◌∷◌, nat_lt}
use Rattle.tree_core.specs.declared.name.Declared.{Declared}
use Rattle.tree_core.specs.Tree.{Exp, Block, Falls, Returns, Stats, EndStats, MoreStats, Stat, Empty, Local, LocalFunction, Assign, CallStat, Do, While, Repeat, If, IfElse, NumFor, NumForStep, GenFor, Label, Goto, Break, Arms, EndArms, MoreArms}
use Rattle.tree_activation.specs.Statements.{is_closed}
use Rattle.tree_terms.specs.Levels.{levels_after, levels_in}
use Rattle.code_of.specs.Expressions.{made_by, made_in}

-- how many functions a piece of tree makes itself
abbrev mutual
  pub made_by_stat : Stat → ℕ
  made_by_stat (Empty line) = 0
  made_by_stat (Local line names es) = made_in es
  made_by_stat (LocalFunction line name body) = 1
  made_by_stat (Assign line targets es) = made_in targets + made_in es
  made_by_stat (CallStat line e) = made_by e
  made_by_stat (Do line block) = made_in_block block
  made_by_stat (While line e block) = made_by e + made_in_block block
  made_by_stat (Repeat line block e) = made_in_block block + made_by e
  made_by_stat (If line arms) = made_in_arms arms
  made_by_stat (IfElse line arms block) = made_in_arms arms + made_in_block block
  made_by_stat (NumFor line name from limit block) = made_by from + made_by limit + made_in_block block
  made_by_stat (NumForStep line name from limit step block) = made_by from + made_by limit + made_by step + made_in_block block
  made_by_stat (GenFor line names es block) = made_in es + made_in_block block
  made_by_stat (Label line name) = 0
  made_by_stat (Goto line name) = 0
  made_by_stat (Break line) = 0

  pub made_in_arms : Arms → ℕ
  made_in_arms EndArms = 0
  made_in_arms (MoreArms e block arms) = made_by e + made_in_block block + made_in_arms arms

  pub made_in_stats : Stats → ℕ
  made_in_stats EndStats = 0
  made_in_stats (MoreStats s ss) = made_by_stat s + made_in_stats ss

  pub made_in_block : Block → ℕ
  made_in_block (Falls ss tokens line) = made_in_stats ss
  made_in_block (Returns ss es tokens line) = made_in_stats ss + made_in es

-- whether one of them is to be closed

abbrev pub has_closed : List Declared → Bool
has_closed [] = false
has_closed (d ∷ names) = is_closed d.attrib || has_closed names

abbrev pub closing_after : Stat → Bool → Bool
closing_after (Local line names es) closing = closing || has_closed names
closing_after _ closing = closing

abbrev pub closings_after : Stats → Bool → Bool
closings_after EndStats closing = closing
closings_after (MoreStats s ss) closing = closings_after ss (closing_after s closing)

-- whether there may be something to close at the end of a scope: a function is made in it, which may capture a local, or a variable is to be closed
abbrev pub may_hold : Stats → Bool
may_hold ss = nat_lt 0 (made_in_stats ss) || closings_after ss false

-- a scope around which `outer` locals are in scope: those from there on and below this number are closed at its end
abbrev pub closed_below : Stats → (outer t : ℕ) → ℕ
closed_below ss outer t = cond (may_hold ss) (levels_after ss t) outer

-- the scope of a `repeat`, whose test may make functions too

abbrev pub made_until : Block → Exp → ℕ
made_until block e = made_in_block block + made_by e

abbrev pub marked_in_block : Block → Bool
marked_in_block (Falls ss tokens line) = closings_after ss false
marked_in_block (Returns ss es tokens line) = closings_after ss false

abbrev pub may_hold_until : Block → Exp → Bool
may_hold_until block e = nat_lt 0 (made_until block e) || marked_in_block block

abbrev pub closed_until : Block → Exp → (t : ℕ) → ℕ
closed_until block e t = cond (may_hold_until block e) (levels_in block t) t
