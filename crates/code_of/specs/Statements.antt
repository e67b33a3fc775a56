-- The code of statements and blocks (Lua 5.4 manual, 3.3), where t locals are in scope and the next place of the code is pc.
use Rattle.std.specs.Prelude.{ℕ, ◌+◌, Bool, true, false, cond, ◌&&◌, ◌||◌, List, [], ◌∷◌, ◌++◌, length, Some, None}
use Rattle.tree_core.specs.Tree.{Block, Falls, Returns, Stats, EndStats, MoreStats, Stat, Empty, Local, LocalFunction, Assign, CallStat, Do, While, Repeat, If, IfElse, NumFor, NumForStep, GenFor, Label, Goto, Break, Arms, EndArms, MoreArms}
use Rattle.tree_activation.specs.Activation.{line_of_end}
use Rattle.tree_terms.specs.Labels.{are_void}
use Rattle.code_core.specs.declared.opcode.Opcode.TheVariants.{Return}
use Rattle.code_core.specs.declared.proto.Const.{Const}
use Rattle.code_of.specs.declared.leaving.Leaving.{Leaving}
use Rattle.code_of.specs.Coded.{Coded, leaving_by}
use Rattle.code_of.specs.Expressions.{made_by, made_in, exp_code, exps_code}
use Rattle.code_of.specs.Conditions.{test_code}
use Rattle.code_of.specs.Jumps.{Visible, Reach, label_in, leads}
use Rattle.code_of.specs.Levels.{made_by_stat, made_in_arms, made_in_stats, made_in_block, closing_after, closings_after, closed_below, closed_until}
use Rattle.tree_terms.specs.Levels.{level_after, levels_after, levels_in}
use Rattle.code_of.specs.Parts.{marks_code, close_code, function_code, while_code, repeat_code, past_size, arm_code, counting_code, iterating_code, assign_code, return_code, bounds_code, steps_code}
use Rattle.code_of.specs.Sizes.{stat_size, arms_size, block_size}

abbrev pub visible : List ℕ → (place level : ℕ) → Visible
visible name place level = record { name = name; landing = record { place = place; level = level } }

-- a loop's block: `break` leads to the place behind the loop
abbrev pub in_loop : Reach → (place level : ℕ) → Reach
in_loop reach place level = record { labels = reach.labels; exit = Some (record { place = place; level = level }) }

-- the labels of a block that were passed
abbrev pub passed_after : Stat → (t pc : ℕ) → List Visible → List Visible
passed_after (Label line name) t pc passed = visible name.text pc t ∷ passed
passed_after _ t pc passed = passed

module _ (constants : List Const) (back : Leaving) where
  -- the labels among the statements to come. Where the block falls off its end, a label that only void statements follow stands outside the
  -- scope of the block's locals
  abbrev pub labels_ahead : Stats → (falls closing : Bool) → (outer t j pc : ℕ) → List Visible
  labels_ahead EndStats falls closing outer t j pc = []
  labels_ahead (MoreStats (Label line name) ss) falls closing outer t j pc =
      visible name.text pc (cond (falls && are_void ss) outer t) ∷ labels_ahead ss falls closing outer t j pc
  labels_ahead (MoreStats s ss) falls closing outer t j pc =
      labels_ahead ss falls (closing_after s closing) outer (level_after s t) (j + made_by_stat s) (pc + stat_size constants back s closing t j)

  abbrev mutual
    pub stat_code : Stat → (closing : Bool) → (t j pc : ℕ) → Reach → List Coded
    stat_code (Empty line) closing t j pc reach = []
    stat_code (Local line names es) closing t j pc reach = exps_code constants es (Some (length names)) t j line ++ marks_code names t
    stat_code (LocalFunction line name body) closing t j pc reach = function_code body t j
    stat_code (Assign line targets es) closing t j pc reach = assign_code constants targets es t j line
    stat_code (CallStat line e) closing t j pc reach = exp_code constants e t j 1
    stat_code (Do line block) closing t j pc reach = block_code block closing t t j pc reach
    stat_code (While line e block) closing t j pc reach =
        while_code (λ ahead. test_code constants e true ahead t j)
        (block_code block closing t t (j + made_by e) (pc + length (test_code constants e true 0 t j))
        (in_loop reach (pc + stat_size constants back (While line e block) closing t j) t))
        line
    stat_code (Repeat line block e) closing t j pc reach =
        let inner = levels_in block t in
        repeat_code (λ ahead. test_code constants e false ahead inner (j + made_in_block block))
        (open_code block closing t j pc (in_loop reach (pc + stat_size constants back (Repeat line block e) closing t j) t))
        (close_code t (closed_until block e t) (line_of_end block)) line
    stat_code (If line arms) closing t j pc reach = arms_code arms [] closing t j pc line reach
    stat_code (IfElse line arms block) closing t j pc reach =
        let k = j + made_in_arms arms in
        let place = pc + arms_size constants back arms (block_size constants back block closing t t k) closing t j in
        arms_code arms (block_code block closing t t k place reach) closing t j pc line reach
    stat_code (NumFor line name from limit block) closing t j pc reach =
        let start = bounds_code constants from limit t j line in
        counting_code start
        (block_code block closing (t + 3) (t + 4) (j + made_by from + made_by limit) (pc + length start + 1)
        (in_loop reach (pc + stat_size constants back (NumFor line name from limit block) closing t j) t))
        t line
    stat_code (NumForStep line name from limit step block) closing t j pc reach =
        let start = steps_code constants from limit step t j in
        counting_code start
        (block_code block closing (t + 3) (t + 4) (j + made_by from + made_by limit + made_by step) (pc + length start + 1)
        (in_loop reach (pc + stat_size constants back (NumForStep line name from limit step block) closing t j) t))
        t line
    stat_code (GenFor line names es block) closing t j pc reach =
        let start = exps_code constants es (Some 4) t j line in
        iterating_code start
        (block_code block true (t + 4) (t + 4 + length names) (j + made_in es) (pc + length start + 1)
        (in_loop reach (pc + stat_size constants back (GenFor line names es block) closing t j) t))
        t (length names) line
    stat_code (Label line name) closing t j pc reach = []
    stat_code (Goto line name) closing t j pc reach = leads (back.closes || closing) (label_in name.text reach.labels) pc line
    stat_code (Break line) closing t j pc reach = leads (back.closes || closing) reach.exit pc line

    -- `otherwise` is the code that stands behind the arms
    pub arms_code : Arms → (otherwise : List Coded) → (closing : Bool) → (t j pc line : ℕ) → Reach → List Coded
    arms_code EndArms otherwise closing t j pc line reach = otherwise
    arms_code (MoreArms e block arms) otherwise closing t j pc line reach =
        let k = j + made_by e + made_in_block block in
        let inner = pc + length (test_code constants e true 0 t j) in
        let behind = inner + block_size constants back block closing t t (j + made_by e)
        + past_size (arms_size constants back arms (length otherwise) closing t k + length otherwise) in
        arm_code (λ ahead. test_code constants e true ahead t j) (block_code block closing t t (j + made_by e) inner reach)
        (arms_code arms otherwise closing t k behind line reach) line

    -- of a block, with the labels that were passed in it; `outer` locals are in scope around it
    pub stats_code : Stats → (falls closing : Bool) → (outer t j pc : ℕ) → (passed : List Visible) → Reach → List Coded
    stats_code EndStats falls closing outer t j pc passed reach = []
    stats_code (MoreStats s ss) falls closing outer t j pc passed reach =
        let k = j + made_by_stat s in
        let place = pc + stat_size constants back s closing t j in
        let ahead = labels_ahead ss falls (closing_after s closing) outer (level_after s t) k place in
        stat_code s closing t j pc (record { labels = ahead ++ (passed ++ reach.labels); exit = reach.exit })
        ++ stats_code ss falls (closing_after s closing) outer (level_after s t) k place (passed_after s t pc passed) reach

    pub block_code : Block → (closing : Bool) → (outer t j pc : ℕ) → Reach → List Coded
    block_code (Falls ss tokens line) closing outer t j pc reach =
        stats_code ss true closing outer t j pc [] reach ++ close_code outer (closed_below ss outer t) line
    block_code (Returns ss es tokens line) closing outer t j pc reach =
        stats_code ss false closing outer t j pc [] reach
        ++ return_code constants (closings_after ss closing) es (levels_after ss t) (j + made_in_stats ss) line back.back

    -- the block of a `repeat`, in front of its test
    pub open_code : Block → (closing : Bool) → (t j pc : ℕ) → Reach → List Coded
    open_code (Falls ss tokens line) closing t j pc reach = stats_code ss false closing t t j pc [] reach
    open_code (Returns ss es tokens line) closing t j pc reach =
        stats_code ss false closing t t j pc [] reach
        ++ return_code constants (closings_after ss closing) es (levels_after ss t) (j + made_in_stats ss) line back.back

  -- the block of a function, whose parameters are its first locals: it ends by a return
  abbrev pub whole_code : Block → (params pc : ℕ) → List Coded
  whole_code (Falls ss tokens line) params pc =
      stats_code ss true false 0 params 0 pc [] (record { labels = []; exit = None }) ++ leaving_by Return (levels_after ss params) 1 back.back line ∷ []
  whole_code (Returns ss es tokens line) params pc = block_code (Returns ss es tokens line) false 0 params 0 pc (record { labels = []; exit = None })
