-- A piece of tree makes as many functions as it has bodies.
use Rattle.std.proofs.Common.{ℕ, ◌+◌, ◌≡◌, List, ◌++◌, length, refl, ap₂, ◌∙◌, length-append}
use Rattle.tree_core.specs.Tree.{Block, Falls, Returns, Body, Stats, EndStats, MoreStats, Stat, Local, Assign, CallStat, Do, While, Repeat, If, IfElse, NumFor, NumForStep, GenFor, Arms, EndArms, MoreArms, Exp, Index, Call, Method, Unary, Binary, And, Or, Paren, Table, Exps, EndExps, MoreExps, Fields, EndFields, MoreFields, Field, Item, Keyed}
use Rattle.code_of.specs.Expressions.{made_by, made_in, made_in_fields, made_by_field}
use Rattle.code_of.specs.Levels.{made_by_stat, made_in_arms, made_in_stats, made_in_block}
use Rattle.code_parts.specs.Bodies.{exp_bodies, exps_bodies, fields_bodies, field_bodies, stat_bodies, arms_bodies, stats_bodies, block_bodies}

both : (xs ys : List Body) (m n : ℕ) → length xs ≡ m → length ys ≡ n → length (xs ++ ys) ≡ m + n
both xs ys m n e d = length-append xs ys ∙ ap₂ (λ a b. a + b) e d

mutual
  exp_made : (e : Exp) → length (exp_bodies e) ≡ made_by e
  exp_made (Index line object key) = both (exp_bodies object) (exp_bodies key) _ _ (exp_made object) (exp_made key)
  exp_made (Call line f es) = both (exp_bodies f) (exps_bodies es) _ _ (exp_made f) (exps_made es)
  exp_made (Method line object name es) = both (exp_bodies object) (exps_bodies es) _ _ (exp_made object) (exps_made es)
  exp_made (Unary line op e) = exp_made e
  exp_made (Binary line op e d) = both (exp_bodies e) (exp_bodies d) _ _ (exp_made e) (exp_made d)
  exp_made (And line e d) = both (exp_bodies e) (exp_bodies d) _ _ (exp_made e) (exp_made d)
  exp_made (Or line e d) = both (exp_bodies e) (exp_bodies d) _ _ (exp_made e) (exp_made d)
  exp_made (Paren line e) = exp_made e
  exp_made (Table line fs) = fields_made fs
  exp_made _ = refl

  exps_made : (es : Exps) → length (exps_bodies es) ≡ made_in es
  exps_made EndExps = refl
  exps_made (MoreExps e es) = both (exp_bodies e) (exps_bodies es) _ _ (exp_made e) (exps_made es)

  fields_made : (fs : Fields) → length (fields_bodies fs) ≡ made_in_fields fs
  fields_made EndFields = refl
  fields_made (MoreFields f fs) = both (field_bodies f) (fields_bodies fs) _ _ (field_made f) (fields_made fs)

  field_made : (f : Field) → length (field_bodies f) ≡ made_by_field f
  field_made (Item e) = exp_made e
  field_made (Keyed line e d) = both (exp_bodies e) (exp_bodies d) _ _ (exp_made e) (exp_made d)

mutual
  stat_made : (s : Stat) → length (stat_bodies s) ≡ made_by_stat s
  stat_made (Local line names es) = exps_made es
  stat_made (Assign line targets es) = both (exps_bodies targets) (exps_bodies es) _ _ (exps_made targets) (exps_made es)
  stat_made (CallStat line e) = exp_made e
  stat_made (Do line block) = block_made block
  stat_made (While line e block) = both (exp_bodies e) (block_bodies block) _ _ (exp_made e) (block_made block)
  stat_made (Repeat line block e) = both (block_bodies block) (exp_bodies e) _ _ (block_made block) (exp_made e)
  stat_made (If line arms) = arms_made arms
  stat_made (IfElse line arms block) = both (arms_bodies arms) (block_bodies block) _ _ (arms_made arms) (block_made block)
  stat_made (NumFor line name from limit block) = both (exp_bodies from ++ exp_bodies limit) (block_bodies block) _ _ (both (exp_bodies from) (exp_bodies limit) _ _ (exp_made from) (exp_made limit)) (block_made block)
  stat_made (NumForStep line name from limit step block) = both (exp_bodies from ++ exp_bodies limit ++ exp_bodies step) (block_bodies block) _ _ (both (exp_bodies from ++ exp_bodies limit) (exp_bodies step) _ _ (both (exp_bodies from) (exp_bodies limit) _ _ (exp_made from) (exp_made limit)) (exp_made step)) (block_made block)
  stat_made (GenFor line names es block) = both (exps_bodies es) (block_bodies block) _ _ (exps_made es) (block_made block)
  stat_made _ = refl

  arms_made : (arms : Arms) → length (arms_bodies arms) ≡ made_in_arms arms
  arms_made EndArms = refl
  arms_made (MoreArms e block arms) = both (exp_bodies e ++ block_bodies block) (arms_bodies arms) _ _ (both (exp_bodies e) (block_bodies block) _ _ (exp_made e) (block_made block)) (arms_made arms)

  stats_made : (ss : Stats) → length (stats_bodies ss) ≡ made_in_stats ss
  stats_made EndStats = refl
  stats_made (MoreStats s ss) = both (stat_bodies s) (stats_bodies ss) _ _ (stat_made s) (stats_made ss)

  pub block_made : (block : Block) → length (block_bodies block) ≡ made_in_block block
  block_made (Falls ss tokens line) = stats_made ss
  block_made (Returns ss es tokens line) = both (stats_bodies ss) (exps_bodies es) _ _ (stats_made ss) (exps_made es)
