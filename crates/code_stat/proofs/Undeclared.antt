-- Statements without code have no variables.
use Rattle.std.proofs.Common.{arith, ℕ, ◌+◌, ◌≤◌, ◌≡◌, Bool, true, List, [], ◌∷◌, ◌++◌, Some, refl, sym, ap₂, ◌∙◌, length}
use Rattle.tree_core.specs.Tree.{Block, Falls, Returns, Stats, EndStats, MoreStats, Stat, Local, LocalFunction, Do, While, Repeat, If, IfElse, NumFor, NumForStep, GenFor, Arms, EndArms, MoreArms}
use Rattle.code_core.specs.declared.proto.Const.{Const}
use Rattle.code_of.specs.declared.leaving.Leaving.{Leaving}
use Rattle.code_of.specs.Expressions.{made_by, exps_code}
use Rattle.code_of.specs.Conditions.{test_code}
use Rattle.code_of.specs.Levels.{made_by_stat, made_in_arms, made_in_stats, made_in_block, closing_after, closings_after}
use Rattle.tree_terms.specs.Levels.{level_after, levels_after}
use Rattle.code_of.specs.Parts.{marks_code, past_size, return_code}
use Rattle.code_of.specs.Sizes.{stat_size, arms_size, stats_size, block_size}
use Rattle.code_of.specs.Variables.{declared_by, within_stat, within_arms, within_stats, within_block}
use Rattle.code_of.proofs.Lengths.{values_some}
use Rattle.code_of.proofs.Sizes.{function_some}
use Rattle.code_stat.proofs.Returning.{return_some}
use Rattle.tree_terms.proofs.Levels.{level_rises, levels_rise}

-- how many locals are in scope

first_same : (s : Stat) (ss : Stats) (t : ℕ) → levels_after (MoreStats s ss) t ≡ t → level_after s t ≡ t
first_same s ss t h = let a = level_rises s t in let b = levels_rise ss (level_after s t) in omega (arith, a, b, h)

module _ (k : List Const) (back : Leaving) where
  declared_none : (s : Stat) (t j pc end : ℕ) → level_after s t ≡ t → declared_by k back s t j pc end ≡ []
  declared_none (Local line [] es) t j pc end h = refl
  declared_none (Local line (d ∷ names) es) t j pc end h = absurd (omega (arith, h))
  declared_none (LocalFunction line name body) t j pc end h = absurd (omega (arith, h))
  declared_none _ t j pc end h = refl

  -- a statement without code declares nothing, since values that are wanted have some
  level_without : (s : Stat) (closing : Bool) (t j : ℕ) → stat_size k back s closing t j ≡ 0 → level_after s t ≡ t
  level_without (Local line [] es) closing t j h = omega arith
  level_without (Local line (d ∷ names) es) closing t j h =
      let some : 1 ≤ length (exps_code k es (Some (length (d ∷ names))) t j line) = values_some k es (length names) t j line in
      let none : length (exps_code k es (Some (length (d ∷ names))) t j line) + length (marks_code (d ∷ names) t) ≡ 0 = h in
      absurd (omega (arith, some, none))
  level_without (LocalFunction line name body) closing t j h = let some = function_some body t j in absurd (omega (arith, some, h))
  level_without _ closing t j h = refl

  levels_without : (ss : Stats) (closing : Bool) (t j : ℕ) → stats_size k back ss closing t j ≡ 0 → levels_after ss t ≡ t
  levels_without EndStats closing t j h = refl
  levels_without (MoreStats s ss) closing t j h =
      let here = level_without s closing t j (omega (arith, h)) in
      levels_without ss (closing_after s closing) (level_after s t) (j + made_by_stat s) (omega (arith, h)) ∙ here

  mutual
    pub stat_without : (s : Stat) (closing : Bool) (t j pc : ℕ) → stat_size k back s closing t j ≡ 0 → within_stat k back s closing t j pc ≡ []
    stat_without (Do line block) closing t j pc h = block_without block closing t j pc h
    stat_without (While line e block) closing t j pc h = absurd (omega (arith, h))
    stat_without (Repeat line block e) closing t j pc h = absurd (omega (arith, h))
    stat_without (If line arms) closing t j pc h = arms_without arms 0 closing t j pc h
    stat_without (IfElse line arms block) closing t j pc h =
        let m = j + made_in_arms arms in
        let otherwise = block_size k back block closing t t m in
        let first : arms_size k back arms otherwise closing t j ≡ 0 = omega (arith, h) in
        let rest : otherwise ≡ 0 = omega (arith, h) in
        ap₂ (λ xs ys. xs ++ ys) (arms_without arms otherwise closing t j pc first) (block_without block closing t m (pc + arms_size k back arms otherwise closing t j) rest)
    stat_without (NumFor line name from limit block) closing t j pc h = absurd (omega (arith, h))
    stat_without (NumForStep line name from limit step block) closing t j pc h = absurd (omega (arith, h))
    stat_without (GenFor line names es block) closing t j pc h = absurd (omega (arith, h))
    stat_without _ closing t j pc h = refl

    arms_without : (arms : Arms) (rest : ℕ) (closing : Bool) (t j pc : ℕ) → arms_size k back arms rest closing t j ≡ 0 → within_arms k back arms rest closing t j pc ≡ []
    arms_without EndArms rest closing t j pc h = refl
    arms_without (MoreArms e block arms) rest closing t j pc h =
        let m = j + made_by e + made_in_block block in
        let inner = pc + length (test_code k e true 0 t j) in
        let others = arms_size k back arms rest closing t m in
        let behind = inner + block_size k back block closing t t (j + made_by e) + past_size (others + rest) in
        let here : block_size k back block closing t t (j + made_by e) ≡ 0 = omega (arith, h) in
        let none : others ≡ 0 = omega (arith, h) in
        ap₂ (λ xs ys. xs ++ ys) (block_without block closing t (j + made_by e) inner here) (arms_without arms rest closing t m behind none)

    stats_without : (ss : Stats) (closing : Bool) (t j pc end : ℕ) → stats_size k back ss closing t j ≡ 0 → levels_after ss t ≡ t → within_stats k back ss closing t j pc end ≡ []
    stats_without EndStats closing t j pc end h same = refl
    stats_without (MoreStats s ss) closing t j pc end h same =
        let here : stat_size k back s closing t j ≡ 0 = omega (arith, h) in
        let rest : stats_size k back ss (closing_after s closing) (level_after s t) (j + made_by_stat s) ≡ 0 = omega (arith, h) in
        let level : level_after s t ≡ t = first_same s ss t same in
        ap₂ (λ xs ys. xs ++ ys) (declared_none s t j pc end level)
        (ap₂ (λ xs ys. xs ++ ys) (stat_without s closing t j pc here)
        (stats_without ss (closing_after s closing) (level_after s t) (j + made_by_stat s) (pc + stat_size k back s closing t j) end rest (same ∙ sym level)))

    block_without : (block : Block) (closing : Bool) (t j pc : ℕ) → block_size k back block closing t t j ≡ 0 → within_block k back block closing t t j pc ≡ []
    block_without (Falls ss tokens line) closing t j pc h =
        let here : stats_size k back ss closing t j ≡ 0 = omega (arith, h) in
        stats_without ss closing t j pc (pc + block_size k back (Falls ss tokens line) closing t t j) here (levels_without ss closing t j here)
    block_without (Returns ss es tokens line) closing t j pc h =
        let none : length (return_code k (closings_after ss closing) es (levels_after ss t) (j + made_in_stats ss) line back.back) ≡ 0 = omega (arith, h) in
        absurd (return_some k (closings_after ss closing) es (levels_after ss t) (j + made_in_stats ss) line back.back none)
