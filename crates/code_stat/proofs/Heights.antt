-- How high a tree is, where the arms of an `if` count one by one: what calls that go down a tree and along its arms make less.
use Rattle.std.proofs.Common.{arith, ℕ, zero, suc, ◌+◌, ◌≡◌, ◌≤◌, ◌<◌, List, [], ◌∷◌, refl, ap, length, map, max, Option, Some, None, Box, Vec, Global}
use Rattle.std.specs.Prelude.{slice_index_or}
use Rattle.std.specs.Option.{option_map}
use Rattle.tree_core.specs.declared.tree.Stat.{Stat as RustStat}
use Rattle.tree_core.specs.declared.tree.Exp.{Exp as RustExp}
use Rattle.tree_core.specs.declared.tree.Block.{Block as RustBlock, out-Block}
use Rattle.tree_core.specs.Tree.{Block, Falls, Returns, Stats, EndStats, MoreStats, Stat, Do, While, Repeat, If, IfElse, NumFor, NumForStep, GenFor, Arms, EndArms, MoreArms, stats}
use Rattle.tree_core.specs.Plain.{plain_stat, plain_block}
use Rattle.code_stat.specs.Forms.{choice}
use Rattle.tree_core.proofs.Rows.{without_result, with_result}

abbrev mutual
  pub stat_height : Stat → ℕ
  stat_height (Do line block) = 1 + block_height block
  stat_height (While line e block) = 1 + block_height block
  stat_height (Repeat line block e) = 1 + block_height block
  stat_height (If line arms) = 1 + arms_height arms
  stat_height (IfElse line arms block) = 1 + arms_height arms + block_height block
  stat_height (NumFor line name from limit block) = 1 + block_height block
  stat_height (NumForStep line name from limit step block) = 1 + block_height block
  stat_height (GenFor line names es block) = 1 + block_height block
  stat_height _ = 0

  pub arms_height : Arms → ℕ
  arms_height EndArms = 0
  arms_height (MoreArms e block arms) = 1 + block_height block + arms_height arms

  pub stats_height : Stats → ℕ
  stats_height EndStats = 0
  stats_height (MoreStats s ss) = max (stat_height s) (stats_height ss)

  pub block_height : Block → ℕ
  block_height (Falls ss tokens line) = 1 + stats_height ss
  block_height (Returns ss es tokens line) = 1 + stats_height ss

abbrev pub other_height : Option (Box RustBlock Global) → ℕ
other_height None = 0
other_height (Some b) = block_height (plain_block b.value)

pub choice_height : (line : ℕ) (arms : Arms) (o : Option (Box RustBlock Global)) → stat_height (choice line arms (option_map (λ b. plain_block b.value) o)) ≡ 1 + (arms_height arms + other_height o)
choice_height line arms None = omega arith
choice_height line arms (Some b) = omega arith

pub block_inside : (b : RustBlock) → block_height (plain_block b) ≡ 1 + stats_height (stats (map plain_stat (out-Block b).stats.items))
block_inside b = by (out-Block b).result refl
  where
    by : (r : Option (Vec RustExp Global)) → (out-Block b).result ≡ r → block_height (plain_block b) ≡ 1 + stats_height (stats (map plain_stat (out-Block b).stats.items))
    by None e = ap block_height (without_result b e)
    by (Some es) e = ap block_height (with_result b es e)

pub within_height : (xs : List RustStat) (i : ℕ) (x : RustStat) → i < length xs → x ≡ slice_index_or xs i x → stat_height (plain_stat x) ≤ stats_height (stats (map plain_stat xs))
within_height [] i x h e = absurd (omega (arith, h))
within_height (y ∷ xs) zero x h e = let same = ap (λ s. stat_height (plain_stat s)) e in omega (arith, same)
within_height (y ∷ xs) (suc i) x h e = let more = within_height xs i x (omega (arith, h)) e in omega (arith, more)
