-- How deep the functions in a piece of tree are nested.
use Rattle.std.specs.Prelude.{ℕ, suc, max}
use Rattle.tree_core.specs.Tree.{Block, Falls, Returns, Body, BodyOf, Stats, EndStats, MoreStats, Stat, Local, LocalFunction, Assign, CallStat, Do, While, Repeat, If, IfElse, NumFor, NumForStep, GenFor, Arms, EndArms, MoreArms, Exp, Function, Index, Call, Method, Unary, Binary, And, Or, Paren, Table, Exps, EndExps, MoreExps, Fields, EndFields, MoreFields, Field, Item, Keyed}

abbrev mutual
  pub nesting : Exp → ℕ
  nesting (Function line body) = suc (nesting_in_body body)
  nesting (Index line object key) = max (nesting object) (nesting key)
  nesting (Call line f es) = max (nesting f) (nesting_in_exps es)
  nesting (Method line object name es) = max (nesting object) (nesting_in_exps es)
  nesting (Unary line op e) = nesting e
  nesting (Binary line op e d) = max (nesting e) (nesting d)
  nesting (And line e d) = max (nesting e) (nesting d)
  nesting (Or line e d) = max (nesting e) (nesting d)
  nesting (Paren line e) = nesting e
  nesting (Table line fs) = nesting_in_fields fs
  nesting _ = 0

  pub nesting_in_exps : Exps → ℕ
  nesting_in_exps EndExps = 0
  nesting_in_exps (MoreExps e es) = max (nesting e) (nesting_in_exps es)

  pub nesting_in_fields : Fields → ℕ
  nesting_in_fields EndFields = 0
  nesting_in_fields (MoreFields f fs) = max (nesting_in_field f) (nesting_in_fields fs)

  pub nesting_in_field : Field → ℕ
  nesting_in_field (Item e) = nesting e
  nesting_in_field (Keyed line e d) = max (nesting e) (nesting d)

  pub nesting_in_stat : Stat → ℕ
  nesting_in_stat (Local line names es) = nesting_in_exps es
  nesting_in_stat (LocalFunction line name body) = suc (nesting_in_body body)
  nesting_in_stat (Assign line targets es) = max (nesting_in_exps targets) (nesting_in_exps es)
  nesting_in_stat (CallStat line e) = nesting e
  nesting_in_stat (Do line block) = nesting_in_block block
  nesting_in_stat (While line e block) = max (nesting e) (nesting_in_block block)
  nesting_in_stat (Repeat line block e) = max (nesting_in_block block) (nesting e)
  nesting_in_stat (If line arms) = nesting_in_arms arms
  nesting_in_stat (IfElse line arms block) = max (nesting_in_arms arms) (nesting_in_block block)
  nesting_in_stat (NumFor line name from limit block) = max (nesting from) (max (nesting limit) (nesting_in_block block))
  nesting_in_stat (NumForStep line name from limit step block) = max (nesting from) (max (nesting limit) (max (nesting step) (nesting_in_block block)))
  nesting_in_stat (GenFor line names es block) = max (nesting_in_exps es) (nesting_in_block block)
  nesting_in_stat _ = 0

  pub nesting_in_arms : Arms → ℕ
  nesting_in_arms EndArms = 0
  nesting_in_arms (MoreArms e block arms) = max (nesting e) (max (nesting_in_block block) (nesting_in_arms arms))

  pub nesting_in_stats : Stats → ℕ
  nesting_in_stats EndStats = 0
  nesting_in_stats (MoreStats s ss) = max (nesting_in_stat s) (nesting_in_stats ss)

  pub nesting_in_block : Block → ℕ
  nesting_in_block (Falls ss tokens line) = nesting_in_stats ss
  nesting_in_block (Returns ss es tokens line) = max (nesting_in_stats ss) (nesting_in_exps es)

  pub nesting_in_body : Body → ℕ
  nesting_in_body (BodyOf params vararg inner ups line) = nesting_in_block inner
