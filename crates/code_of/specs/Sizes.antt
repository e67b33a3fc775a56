-- How many instructions a statement has. It does not hang on where its jumps lead.
use Rattle.std.specs.Prelude.{ℕ, ◌+◌, Bool, true, false, ◌||◌, List, length, Some}
use Rattle.tree_core.specs.Tree.{Block, Falls, Returns, Stats, EndStats, MoreStats, Stat, Empty, Local, LocalFunction, Assign, CallStat, Do, While, Repeat, If, IfElse, NumFor, NumForStep, GenFor, Label, Goto, Break, Arms, EndArms, MoreArms}
use Rattle.code_core.specs.declared.proto.Const.{Const}
use Rattle.code_of.specs.declared.leaving.Leaving.{Leaving}
use Rattle.code_of.specs.Jumps.{jump_size}
use Rattle.code_of.specs.Expressions.{made_by, made_in, exp_code, exps_code}
use Rattle.code_of.specs.Conditions.{test_code}
use Rattle.code_of.specs.Levels.{made_by_stat, made_in_arms, made_in_stats, made_in_block, closing_after, closings_after, closed_below, closed_until}
use Rattle.tree_terms.specs.Levels.{level_after, levels_after, levels_in}
use Rattle.code_of.specs.Parts.{marks_code, close_code, function_code, past_size, assign_code, return_code, bounds_code, steps_code}

module _ (constants : List Const) (back : Leaving) where
  abbrev mutual
    pub stat_size : Stat → (closing : Bool) → (t j : ℕ) → ℕ
    stat_size (Empty line) closing t j = 0
    stat_size (Local line names es) closing t j = length (exps_code constants es (Some (length names)) t j line) + length (marks_code names t)
    stat_size (LocalFunction line name body) closing t j = length (function_code body t j)
    stat_size (Assign line targets es) closing t j = length (assign_code constants targets es t j line)
    stat_size (CallStat line e) closing t j = length (exp_code constants e t j 1)
    stat_size (Do line block) closing t j = block_size block closing t t j
    stat_size (While line e block) closing t j = length (test_code constants e true 0 t j) + (block_size block closing t t (j + made_by e) + 1)
    stat_size (Repeat line block e) closing t j =
        let inner = levels_in block t in
        let close = length (close_code t (closed_until block e t) line) in
        open_size block closing t j + (length (test_code constants e false 0 inner (j + made_in_block block)) + (close + close + 1))
    stat_size (If line arms) closing t j = arms_size arms 0 closing t j
    stat_size (IfElse line arms block) closing t j =
        let otherwise = block_size block closing t t (j + made_in_arms arms) in
        arms_size arms otherwise closing t j + otherwise
    stat_size (NumFor line name from limit block) closing t j =
        length (bounds_code constants from limit t j line) + (block_size block closing (t + 3) (t + 4) (j + made_by from + made_by limit) + 2)
    stat_size (NumForStep line name from limit step block) closing t j =
        length (steps_code constants from limit step t j)
        + (block_size block closing (t + 3) (t + 4) (j + made_by from + made_by limit + made_by step) + 2)
    stat_size (GenFor line names es block) closing t j =
        length (exps_code constants es (Some 4) t j line) + (block_size block true (t + 4) (t + 4 + length names) (j + made_in es) + 4)
    stat_size (Label line name) closing t j = 0
    stat_size (Goto line name) closing t j = jump_size (back.closes || closing)
    stat_size (Break line) closing t j = jump_size (back.closes || closing)

    -- the arms, without the `rest` that stands behind them
    pub arms_size : Arms → (rest : ℕ) → (closing : Bool) → (t j : ℕ) → ℕ
    arms_size EndArms rest closing t j = 0
    arms_size (MoreArms e block arms) rest closing t j =
        let others = arms_size arms rest closing t (j + made_by e + made_in_block block) in
        length (test_code constants e true 0 t j) + (block_size block closing t t (j + made_by e) + (past_size (others + rest) + others))

    pub stats_size : Stats → (closing : Bool) → (t j : ℕ) → ℕ
    stats_size EndStats closing t j = 0
    stats_size (MoreStats s ss) closing t j = stat_size s closing t j + stats_size ss (closing_after s closing) (level_after s t) (j + made_by_stat s)

    -- a block around which `outer` locals are in scope; the variables of a `for` are the first of its own
    pub block_size : Block → (closing : Bool) → (outer t j : ℕ) → ℕ
    block_size (Falls ss tokens line) closing outer t j = stats_size ss closing t j + length (close_code outer (closed_below ss outer t) line)
    block_size (Returns ss es tokens line) closing outer t j =
        stats_size ss closing t j
        + length (return_code constants (closings_after ss closing) es (levels_after ss t) (j + made_in_stats ss) line back.back)

    -- the block of a `repeat`, whose locals are not closed at its end
    pub open_size : Block → (closing : Bool) → (t j : ℕ) → ℕ
    open_size (Falls ss tokens line) closing t j = stats_size ss closing t j
    open_size (Returns ss es tokens line) closing t j =
        stats_size ss closing t j
        + length (return_code constants (closings_after ss closing) es (levels_after ss t) (j + made_in_stats ss) line back.back)

  -- the block of a function, which ends by a return
  abbrev pub whole_size : Block → (params j : ℕ) → ℕ
  whole_size (Falls ss tokens line) params j = stats_size ss false params j + 1
  whole_size (Returns ss es tokens line) params j = block_size (Returns ss es tokens line) false 0 params j
