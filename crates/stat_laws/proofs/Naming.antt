-- Variables to be closed have their names at their marks, and the values that generic `for`s close have none: by the places of the code.
use Rattle.std.specs.Prelude.{◌≡◌, ℕ, ◌+◌, Bool, true, false, cond, List, [], ◌∷◌, length, Some, codes}
use Rattle.tree_core.specs.declared.name.Declared.{Declared}
use Rattle.tree_core.specs.Tree.{Block, Falls, Returns, Stats, EndStats, MoreStats, Stat, Local, Do, While, Repeat, If, IfElse, NumFor, NumForStep, GenFor, Arms, EndArms, MoreArms}
use Rattle.tree_activation.specs.Statements.{is_closed}
use Rattle.code_core.specs.Prototype.{Prototype}
use Rattle.machine_core.specs.InstructionRows.{variable_name}
use Rattle.code_of.specs.declared.leaving.Leaving.{Leaving}
use Rattle.code_of.specs.Expressions.{made_by, made_in, exps_code}
use Rattle.code_of.specs.Conditions.{test_code}
use Rattle.code_of.specs.Levels.{made_by_stat, made_in_arms, made_in_block, closing_after}
use Rattle.tree_terms.specs.Levels.{level_after}
use Rattle.code_of.specs.Parts.{past_size, bounds_code, steps_code}
use Rattle.code_of.specs.Sizes.{stat_size, arms_size, block_size}

abbrev pub past_mark : Bool → ℕ
past_mark true = 1
past_mark false = 0

module _ (lines : Bool) (p : Prototype) where
  -- the first of the names has register r, and the marks stand from pc on
  abbrev pub AreNamed : List Declared → (r pc : ℕ) → Type 0
  AreNamed [] r pc = Unit {0}
  AreNamed (d ∷ names) r pc = (is_closed d.attrib ≡ true → variable_name p pc r ≡ cond lines d.name.text (codes "?")) × AreNamed names (r + 1) (pc + past_mark (is_closed d.attrib))

  module _ (back : Leaving) where
    abbrev mutual
      pub StatIsNamed : Stat → (closing : Bool) → (t j pc : ℕ) → Type 0
      StatIsNamed (Local line names es) closing t j pc = AreNamed names t (pc + length (exps_code p.own.constants es (Some (length names)) t j line))
      StatIsNamed (Do line block) closing t j pc = BlockIsNamed block closing t t j pc
      StatIsNamed (While line e block) closing t j pc = BlockIsNamed block closing t t (j + made_by e) (pc + length (test_code p.own.constants e true 0 t j))
      StatIsNamed (Repeat line block e) closing t j pc = OpenIsNamed block closing t j pc
      StatIsNamed (If line arms) closing t j pc = ArmsAreNamed arms 0 closing t j pc
      StatIsNamed (IfElse line arms block) closing t j pc =
          ArmsAreNamed arms (block_size p.own.constants back block closing t t (j + made_in_arms arms)) closing t j pc
          × BlockIsNamed block closing t t (j + made_in_arms arms) (pc + arms_size p.own.constants back arms (block_size p.own.constants back block closing t t (j + made_in_arms arms)) closing t j)
      StatIsNamed (NumFor line name from limit block) closing t j pc =
          BlockIsNamed block closing (t + 3) (t + 4) (j + made_by from + made_by limit) (pc + length (bounds_code p.own.constants from limit t j line) + 1)
      StatIsNamed (NumForStep line name from limit step block) closing t j pc =
          BlockIsNamed block closing (t + 3) (t + 4) (j + made_by from + made_by limit + made_by step) (pc + length (steps_code p.own.constants from limit step t j) + 1)
      StatIsNamed (GenFor line names es block) closing t j pc =
          (variable_name p (pc + length (exps_code p.own.constants es (Some 4) t j line)) (t + 3) ≡ codes "?")
          × BlockIsNamed block true (t + 4) (t + 4 + length names) (j + made_in es) (pc + length (exps_code p.own.constants es (Some 4) t j line) + 1)
      StatIsNamed _ closing t j pc = Unit {0}

      pub ArmsAreNamed : Arms → (rest : ℕ) → (closing : Bool) → (t j pc : ℕ) → Type 0
      ArmsAreNamed EndArms rest closing t j pc = Unit {0}
      ArmsAreNamed (MoreArms e block arms) rest closing t j pc =
          BlockIsNamed block closing t t (j + made_by e) (pc + length (test_code p.own.constants e true 0 t j))
          × ArmsAreNamed arms rest closing t (j + made_by e + made_in_block block)
          (pc + length (test_code p.own.constants e true 0 t j) + block_size p.own.constants back block closing t t (j + made_by e)
          + past_size (arms_size p.own.constants back arms rest closing t (j + made_by e + made_in_block block) + rest))

      pub StatsAreNamed : Stats → (closing : Bool) → (t j pc : ℕ) → Type 0
      StatsAreNamed EndStats closing t j pc = Unit {0}
      StatsAreNamed (MoreStats s ss) closing t j pc =
          StatIsNamed s closing t j pc × StatsAreNamed ss (closing_after s closing) (level_after s t) (j + made_by_stat s) (pc + stat_size p.own.constants back s closing t j)

      pub BlockIsNamed : Block → (closing : Bool) → (outer t j pc : ℕ) → Type 0
      BlockIsNamed (Falls ss tokens line) closing outer t j pc = StatsAreNamed ss closing t j pc
      BlockIsNamed (Returns ss es tokens line) closing outer t j pc = StatsAreNamed ss closing t j pc

      pub OpenIsNamed : Block → (closing : Bool) → (t j pc : ℕ) → Type 0
      OpenIsNamed (Falls ss tokens line) closing t j pc = StatsAreNamed ss closing t j pc
      OpenIsNamed (Returns ss es tokens line) closing t j pc = StatsAreNamed ss closing t j pc
