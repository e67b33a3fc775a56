-- All statements together.
use Rattle.std.proofs.Common.{◌≡◌, ℕ, Bool, true, false, ◌&&◌, List, refl}
use Rattle.tree_core.specs.Tree.{Block, Falls, Returns, Stats, EndStats, MoreStats, Stat, Empty, Local, LocalFunction, Assign, CallStat, Do, While, Repeat, If, IfElse, NumFor, NumForStep, GenFor, Label, Goto, Break, Arms, EndArms, MoreArms}
use Rattle.tree_activation.specs.Work.{Work, End, falls_off, returns_list, until}
use Rattle.tree_terms.specs.Labels.{are_void}
use Rattle.tree_activation.specs.Jumps.{is_at_end}
use Rattle.exp_laws.specs.Setting.{Setting, hiding, scoped}
use Rattle.code_of.specs.Levels.{may_hold, may_hold_until}
use Rattle.exp_laws.proofs.Conditions.{test_same}
use Rattle.stat_laws.proofs.Blocks.{StatLaw, StatsLaw, none_goes, label_goes, more_goes}
use Rattle.stat_laws.proofs.Forms.{TestLaw, BlockLaw, falls_goes, do_goes, goto_goes, break_goes, empty_stat_goes, label_stat_goes, while_goes, ArmsLaw, no_arms_goes, more_arms_goes, if_goes, if_else_goes}
use Rattle.stat_laws.proofs.Loops.{repeat_goes}
use Rattle.stat_laws.proofs.Returns.{returns_goes, repeat_returns_goes}
use Rattle.stat_laws.proofs.Iterating.{iterating_goes}
use Rattle.stat_laws.proofs.Bounds.{numeric_goes, stepped_goes}
use Rattle.stat_laws.proofs.Assigning.{assign_goes}
use Rattle.stat_laws.proofs.Values.{local_goes, function_goes, call_goes}

abbrev pub tests : (S : Setting) → TestLaw S
tests S ps e = test_same S ps e

module _ (back : ℕ) where
  mutual
    pub stat_goes : (S : Setting) (s : Stat) → StatLaw S back s
    stat_goes S (Empty l) = empty_stat_goes S back l
    stat_goes S (Local l names es) = local_goes S back l names es
    stat_goes S (LocalFunction l name body) = function_goes S back l name body
    stat_goes S (Assign l targets es) = assign_goes S back l targets es
    stat_goes S (CallStat l e) = call_goes S back l e
    stat_goes S (Do l block) = do_goes S back l block (block_goes S block)
    stat_goes S (While l e block) = while_goes S back (tests S) l e block (block_goes S block)
    stat_goes S (Repeat l (Falls ss tokens last) e) = repeat_goes S back l ss tokens last e (λ level. tests (scoped S (may_hold_until (Falls ss tokens last) e) level)) (λ outer closed k. stats_goes (scoped S (may_hold_until (Falls ss tokens last) e) outer) ss (until last e) false outer closed k (λ more. refl))
    stat_goes S (Repeat l (Returns ss es tokens last) e) = repeat_returns_goes S back l ss es tokens last e (λ outer closed k. stats_goes S ss (returns_list last es) false outer closed k (λ more. refl))
    stat_goes S (If l arms) = if_goes S back (tests S) l arms (arms_goes S arms)
    stat_goes S (IfElse l arms block) = if_else_goes S back (tests S) l arms block (arms_goes S arms) (block_goes S block)
    stat_goes S (NumFor l name from limit block) = numeric_goes S back l name from limit block (λ t. block_goes (hiding S t) block)
    stat_goes S (NumForStep l name from limit step block) = stepped_goes S back l name from limit step block (λ t. block_goes (hiding S t) block)
    stat_goes S (GenFor l names es block) = iterating_goes S back l names es block (block_goes S block)
    stat_goes S (Goto l name) = goto_goes S back l name
    stat_goes S (Break l) = break_goes S back l
    stat_goes S (Label l name) = label_stat_goes S back l name

    pub block_goes : (S : Setting) (block : Block) → BlockLaw S back block
    block_goes S (Falls ss tokens line) = falls_goes S back ss tokens line (λ outer closed k. stats_goes (scoped S (may_hold ss) outer) ss (falls_off line) true outer closed k (λ more. refl))
    block_goes S (Returns ss es tokens line) = returns_goes S back ss es tokens line (λ outer closed k. stats_goes S ss (returns_list line es) false outer closed k (λ more. refl))

    pub arms_goes : (S : Setting) (arms : Arms) → ArmsLaw S back (tests S) arms
    arms_goes S EndArms = no_arms_goes S back (tests S)
    arms_goes S (MoreArms e block arms) = more_arms_goes S back (tests S) e block arms (block_goes S block) (arms_goes S arms)

    pub stats_goes : (S : Setting) (ss : Stats) (ending : End) (falls : Bool) (outer : ℕ) (base : List ℕ) (k : List Work) (ending_is : (more : Stats) → is_at_end ending more ≡ (falls && are_void more)) → StatsLaw S back ending falls outer base k ending_is ss
    stats_goes S EndStats ending falls outer base k ending_is = none_goes S back ending falls outer base k ending_is
    stats_goes S (MoreStats (Label l name) ss) ending falls outer base k ending_is = label_goes S back ending falls outer base k ending_is l name ss (stats_goes S ss ending falls outer base k ending_is)
    stats_goes S (MoreStats (Empty l) ss) ending falls outer base k ending_is = more_goes S back ending falls outer base k ending_is (Empty l) ss tt (stat_goes S (Empty l)) (stats_goes S ss ending falls outer base k ending_is)
    stats_goes S (MoreStats (Local l names es) ss) ending falls outer base k ending_is = more_goes S back ending falls outer base k ending_is (Local l names es) ss tt (stat_goes S (Local l names es)) (stats_goes S ss ending falls outer base k ending_is)
    stats_goes S (MoreStats (LocalFunction l name body) ss) ending falls outer base k ending_is = more_goes S back ending falls outer base k ending_is (LocalFunction l name body) ss tt (stat_goes S (LocalFunction l name body)) (stats_goes S ss ending falls outer base k ending_is)
    stats_goes S (MoreStats (Assign l targets es) ss) ending falls outer base k ending_is = more_goes S back ending falls outer base k ending_is (Assign l targets es) ss tt (stat_goes S (Assign l targets es)) (stats_goes S ss ending falls outer base k ending_is)
    stats_goes S (MoreStats (CallStat l e) ss) ending falls outer base k ending_is = more_goes S back ending falls outer base k ending_is (CallStat l e) ss tt (stat_goes S (CallStat l e)) (stats_goes S ss ending falls outer base k ending_is)
    stats_goes S (MoreStats (Do l block) ss) ending falls outer base k ending_is = more_goes S back ending falls outer base k ending_is (Do l block) ss tt (stat_goes S (Do l block)) (stats_goes S ss ending falls outer base k ending_is)
    stats_goes S (MoreStats (While l e block) ss) ending falls outer base k ending_is = more_goes S back ending falls outer base k ending_is (While l e block) ss tt (stat_goes S (While l e block)) (stats_goes S ss ending falls outer base k ending_is)
    stats_goes S (MoreStats (Repeat l block e) ss) ending falls outer base k ending_is = more_goes S back ending falls outer base k ending_is (Repeat l block e) ss tt (stat_goes S (Repeat l block e)) (stats_goes S ss ending falls outer base k ending_is)
    stats_goes S (MoreStats (If l arms) ss) ending falls outer base k ending_is = more_goes S back ending falls outer base k ending_is (If l arms) ss tt (stat_goes S (If l arms)) (stats_goes S ss ending falls outer base k ending_is)
    stats_goes S (MoreStats (IfElse l arms block) ss) ending falls outer base k ending_is = more_goes S back ending falls outer base k ending_is (IfElse l arms block) ss tt (stat_goes S (IfElse l arms block)) (stats_goes S ss ending falls outer base k ending_is)
    stats_goes S (MoreStats (NumFor l name from limit block) ss) ending falls outer base k ending_is = more_goes S back ending falls outer base k ending_is (NumFor l name from limit block) ss tt (stat_goes S (NumFor l name from limit block)) (stats_goes S ss ending falls outer base k ending_is)
    stats_goes S (MoreStats (NumForStep l name from limit step block) ss) ending falls outer base k ending_is = more_goes S back ending falls outer base k ending_is (NumForStep l name from limit step block) ss tt (stat_goes S (NumForStep l name from limit step block)) (stats_goes S ss ending falls outer base k ending_is)
    stats_goes S (MoreStats (GenFor l names es block) ss) ending falls outer base k ending_is = more_goes S back ending falls outer base k ending_is (GenFor l names es block) ss tt (stat_goes S (GenFor l names es block)) (stats_goes S ss ending falls outer base k ending_is)
    stats_goes S (MoreStats (Goto l name) ss) ending falls outer base k ending_is = more_goes S back ending falls outer base k ending_is (Goto l name) ss tt (stat_goes S (Goto l name)) (stats_goes S ss ending falls outer base k ending_is)
    stats_goes S (MoreStats (Break l) ss) ending falls outer base k ending_is = more_goes S back ending falls outer base k ending_is (Break l) ss tt (stat_goes S (Break l)) (stats_goes S ss ending falls outer base k ending_is)
