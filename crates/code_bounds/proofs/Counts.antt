-- Constants and inner functions are at most as many as their tree weighs.
use Rattle.std.proofs.Common.{ℕ, ◌+◌, ◌≤◌, Bool, true, false, cond, List, [], ◌∷◌, length, Option, Some, None, arith}
use Rattle.tree_core.specs.declared.name.Place.{Place}
use Rattle.tree_core.specs.declared.name.Place.TheVariants.{Unset, Upvalue, GlobalIn, GlobalOf, Local as LocalPlace}
use Rattle.tree_core.specs.Tree.{Block, Falls, Returns, Body, BodyOf, Stats, EndStats, MoreStats, Stat, Local, LocalFunction, Assign, CallStat, Do, While, Repeat, If, IfElse, NumFor, NumForStep, GenFor, Arms, EndArms, MoreArms, Exp, Int, Str, Var, Function, Index, Call, Method, Unary, Binary, And, Or, Paren, Table, Exps, EndExps, MoreExps, Fields, EndFields, MoreFields, Field, Item, Keyed}
use Rattle.code_core.specs.declared.proto.Const.{Const}
use Rattle.code_core.specs.declared.proto.Const.TheVariants.{Int as IntConst, Str as StrConst}
use Rattle.code_of.specs.Constants.{same_constant, with_constant, with_any, is_small, of_name, of_exp, of_exps, of_fields, of_field, of_stat, of_arms, of_stats, of_block}
use Rattle.code_of.specs.ConstantOperands.{any_constant, constant_of, stored_constant}
use Rattle.code_of.specs.Expressions.{made_by, made_in, made_in_fields, made_by_field}
use Rattle.code_of.specs.Levels.{made_by_stat, made_in_arms, made_in_stats, made_in_block}
use Rattle.tree_terms.specs.FunctionCount.{functions, functions_in_exps, functions_in_fields, functions_in_field, functions_in_stat, functions_in_arms, functions_in_stats, functions_in_block, functions_in_body}
use Rattle.tree_terms.specs.Weight.{weight, weight_of_arguments, weight_of_exps, weight_of_fields, weight_of_field, weight_of_stat, weight_of_arms, weight_of_stats, weight_of_block, weight_of_body}

-- functions: those that code makes itself, those that are written, and the weight

pub arguments_weigh : (es : Exps) → weight_of_exps es ≤ weight_of_arguments es
arguments_weigh EndExps = omega arith
arguments_weigh (MoreExps e es) = omega arith

mutual
  exp_counts : (e : Exp) → (made_by e ≤ functions e) × (functions e ≤ weight e)
  exp_counts (Function line body) = (omega arith, omega (arith, body_counts body))
  exp_counts (Index line object key) = let x = exp_counts object in let y = exp_counts key in (omega (arith, x.0, y.0), omega (arith, x.1, y.1))
  exp_counts (Call line f es) = let x = exp_counts f in let y = exps_counts es in (omega (arith, x.0, y.0), omega (arith, x.1, y.1, arguments_weigh es))
  exp_counts (Method line object name es) = let x = exp_counts object in let y = exps_counts es in (omega (arith, x.0, y.0), omega (arith, x.1, y.1, arguments_weigh es))
  exp_counts (Unary line op e) = let x = exp_counts e in (omega (arith, x.0), omega (arith, x.1))
  exp_counts (Binary line op e d) = let x = exp_counts e in let y = exp_counts d in (omega (arith, x.0, y.0), omega (arith, x.1, y.1))
  exp_counts (And line e d) = let x = exp_counts e in let y = exp_counts d in (omega (arith, x.0, y.0), omega (arith, x.1, y.1))
  exp_counts (Or line e d) = let x = exp_counts e in let y = exp_counts d in (omega (arith, x.0, y.0), omega (arith, x.1, y.1))
  exp_counts (Paren line e) = let x = exp_counts e in (omega (arith, x.0), omega (arith, x.1))
  exp_counts (Table line fs) = let x = fields_counts fs in (omega (arith, x.0), omega (arith, x.1))
  exp_counts _ = (omega arith, omega arith)

  exps_counts : (es : Exps) → (made_in es ≤ functions_in_exps es) × (functions_in_exps es ≤ weight_of_exps es)
  exps_counts EndExps = (omega arith, omega arith)
  exps_counts (MoreExps e es) = let x = exp_counts e in let y = exps_counts es in (omega (arith, x.0, y.0), omega (arith, x.1, y.1))

  fields_counts : (fs : Fields) → (made_in_fields fs ≤ functions_in_fields fs) × (functions_in_fields fs ≤ weight_of_fields fs)
  fields_counts EndFields = (omega arith, omega arith)
  fields_counts (MoreFields f fs) = let x = field_counts f in let y = fields_counts fs in (omega (arith, x.0, y.0), omega (arith, x.1, y.1))

  field_counts : (f : Field) → (made_by_field f ≤ functions_in_field f) × (functions_in_field f ≤ weight_of_field f)
  field_counts (Item e) = exp_counts e
  field_counts (Keyed line e d) = let x = exp_counts e in let y = exp_counts d in (omega (arith, x.0, y.0), omega (arith, x.1, y.1))

  stat_counts : (s : Stat) → (made_by_stat s ≤ functions_in_stat s) × (functions_in_stat s ≤ weight_of_stat s)
  stat_counts (Local line names es) = let x = exps_counts es in (omega (arith, x.0), omega (arith, x.1))
  stat_counts (LocalFunction line name body) = (omega arith, omega (arith, body_counts body))
  stat_counts (Assign line targets es) = let x = exps_counts targets in let y = exps_counts es in (omega (arith, x.0, y.0), omega (arith, x.1, y.1))
  stat_counts (CallStat line e) = exp_counts e
  stat_counts (Do line block) = let x = block_counts block in (omega (arith, x.0), omega (arith, x.1))
  stat_counts (While line e block) = let x = exp_counts e in let y = block_counts block in (omega (arith, x.0, y.0), omega (arith, x.1, y.1))
  stat_counts (Repeat line block e) = let x = block_counts block in let y = exp_counts e in (omega (arith, x.0, y.0), omega (arith, x.1, y.1))
  stat_counts (If line arms) = let x = arms_counts arms in (omega (arith, x.0), omega (arith, x.1))
  stat_counts (IfElse line arms block) = let x = arms_counts arms in let y = block_counts block in (omega (arith, x.0, y.0), omega (arith, x.1, y.1))
  stat_counts (NumFor line name from limit block) = let x = exp_counts from in let y = exp_counts limit in let z = block_counts block in (omega (arith, x.0, y.0, z.0), omega (arith, x.1, y.1, z.1))
  stat_counts (NumForStep line name from limit step block) = let x = exp_counts from in let y = exp_counts limit in let z = exp_counts step in let u = block_counts block in (omega (arith, x.0, y.0, z.0, u.0), omega (arith, x.1, y.1, z.1, u.1))
  stat_counts (GenFor line names es block) = let x = exps_counts es in let y = block_counts block in (omega (arith, x.0, y.0), omega (arith, x.1, y.1))
  stat_counts _ = (omega arith, omega arith)

  arms_counts : (arms : Arms) → (made_in_arms arms ≤ functions_in_arms arms) × (functions_in_arms arms ≤ weight_of_arms arms)
  arms_counts EndArms = (omega arith, omega arith)
  arms_counts (MoreArms e block arms) = let x = exp_counts e in let y = block_counts block in let z = arms_counts arms in (omega (arith, x.0, y.0, z.0), omega (arith, x.1, y.1, z.1))

  stats_counts : (ss : Stats) → (made_in_stats ss ≤ functions_in_stats ss) × (functions_in_stats ss ≤ weight_of_stats ss)
  stats_counts EndStats = (omega arith, omega arith)
  stats_counts (MoreStats s ss) = let x = stat_counts s in let y = stats_counts ss in (omega (arith, x.0, y.0), omega (arith, x.1, y.1))

  block_counts : (block : Block) → (made_in_block block ≤ functions_in_block block) × (functions_in_block block ≤ weight_of_block block)
  block_counts (Falls ss tokens line) = stats_counts ss
  block_counts (Returns ss es tokens line) = let x = stats_counts ss in let y = exps_counts es in (omega (arith, x.0, y.0), omega (arith, x.1, y.1))

  body_counts : (body : Body) → functions_in_body body + 1 ≤ weight_of_body body
  body_counts (BodyOf params vararg inner ups line) = let x = block_counts inner in omega (arith, x.1)

pub made_block : (block : Block) → made_in_block block ≤ functions_in_block block
made_block block = (block_counts block).0

pub written_block : (block : Block) → functions_in_block block ≤ weight_of_block block
written_block block = (block_counts block).1

-- constants

one_more : (x : Const) (cs : List Const) → length (with_constant x cs) ≤ length cs + 1
one_more x [] = omega arith
one_more x (c ∷ cs) = by (one_more x cs) (same_constant c x)
  where
    by : length (with_constant x cs) ≤ length cs + 1 → (b : Bool) → length (cond b (c ∷ cs) (c ∷ with_constant x cs)) ≤ length (c ∷ cs) + 1
    by rest true = omega arith
    by rest false = omega (arith, rest)

any_more : (o : Option Const) (cs : List Const) → length (with_any o cs) ≤ length cs + 1
any_more None cs = omega arith
any_more (Some x) cs = one_more x cs

named : (place : Place) (text : List ℕ) (cs : List Const) → length (of_name place text cs) ≤ length cs + 1
named Unset text cs = omega arith
named (LocalPlace n) text cs = omega arith
named (Upvalue u) text cs = omega arith
named (GlobalIn n) text cs = one_more (StrConst text) cs
named (GlobalOf u) text cs = one_more (StrConst text) cs

mutual
  few_exp : (e : Exp) (cs : List Const) → length (of_exp e cs) ≤ length cs + weight e
  few_exp (Int line n) cs = by (is_small n)
    where
      by : (b : Bool) → length (cond b cs (with_constant (IntConst n) cs)) ≤ length cs + 1
      by true = omega arith
      by false = one_more (IntConst n) cs
  few_exp (Str line bytes) cs = one_more (StrConst bytes) cs
  few_exp (Var line name) cs = named name.place name.text cs
  few_exp (Index line object key) cs = omega (arith, few_exp object cs, few_exp key (of_exp object cs))
  few_exp (Call line f es) cs = omega (arith, few_exp f cs, few_exps es (of_exp f cs), arguments_weigh es)
  few_exp (Method line object name es) cs =
      let a = few_exp object cs in
      let b = one_more (StrConst name.text) (of_exp object cs) in
      let c = few_exps es (with_constant (StrConst name.text) (of_exp object cs)) in
      omega (arith, a, b, c, arguments_weigh es)
  few_exp (Unary line op e) cs = omega (arith, few_exp e cs)
  few_exp (Binary line op e d) cs =
      omega (arith, few_exp e cs, any_more (constant_of op d) (of_exp e cs), few_exp d (with_any (constant_of op d) (of_exp e cs)))
  few_exp (And line e d) cs = omega (arith, few_exp e cs, few_exp d (of_exp e cs))
  few_exp (Or line e d) cs = omega (arith, few_exp e cs, few_exp d (of_exp e cs))
  few_exp (Paren line e) cs = omega (arith, few_exp e cs)
  few_exp (Table line fs) cs = omega (arith, few_fields fs cs)
  few_exp _ cs = omega arith

  few_exps : (es : Exps) (cs : List Const) → length (of_exps es cs) ≤ length cs + weight_of_exps es
  few_exps EndExps cs = omega arith
  few_exps (MoreExps e es) cs = omega (arith, few_exp e cs, few_exps es (of_exp e cs))

  few_fields : (fs : Fields) (cs : List Const) → length (of_fields fs cs) ≤ length cs + weight_of_fields fs
  few_fields EndFields cs = omega arith
  few_fields (MoreFields f fs) cs = omega (arith, few_field f cs, few_fields fs (of_field f cs))

  few_field : (f : Field) (cs : List Const) → length (of_field f cs) ≤ length cs + weight_of_field f
  few_field (Item e) cs = few_exp e cs
  few_field (Keyed line e d) cs =
      omega (arith, few_exp e cs, any_more (any_constant d) (of_exp e cs), few_exp d (with_any (any_constant d) (of_exp e cs)))

mutual
  few_stat : (s : Stat) (cs : List Const) → length (of_stat s cs) ≤ length cs + weight_of_stat s
  few_stat (Local line names es) cs = omega (arith, few_exps es cs)
  few_stat (Assign line targets es) cs =
      let named = with_any (stored_constant targets es) (of_exps targets cs) in
      omega (arith, few_exps targets cs, any_more (stored_constant targets es) (of_exps targets cs), few_exps es named)
  few_stat (CallStat line e) cs = few_exp e cs
  few_stat (Do line block) cs = omega (arith, few_block block cs)
  few_stat (While line e block) cs = omega (arith, few_exp e cs, few_block block (of_exp e cs))
  few_stat (Repeat line block e) cs = omega (arith, few_block block cs, few_exp e (of_block block cs))
  few_stat (If line arms) cs = omega (arith, few_arms arms cs)
  few_stat (IfElse line arms block) cs = omega (arith, few_arms arms cs, few_block block (of_arms arms cs))
  few_stat (NumFor line name from limit block) cs =
      omega (arith, few_exp from cs, few_exp limit (of_exp from cs), few_block block (of_exp limit (of_exp from cs)))
  few_stat (NumForStep line name from limit step block) cs =
      omega (arith, few_exp from cs, few_exp limit (of_exp from cs), few_exp step (of_exp limit (of_exp from cs)), few_block block (of_exp step (of_exp limit (of_exp from cs))))
  few_stat (GenFor line names es block) cs = omega (arith, few_exps es cs, few_block block (of_exps es cs))
  few_stat _ cs = omega arith

  few_arms : (arms : Arms) (cs : List Const) → length (of_arms arms cs) ≤ length cs + weight_of_arms arms
  few_arms EndArms cs = omega arith
  few_arms (MoreArms e block arms) cs =
      omega (arith, few_exp e cs, few_block block (of_exp e cs), few_arms arms (of_block block (of_exp e cs)))

  few_stats : (ss : Stats) (cs : List Const) → length (of_stats ss cs) ≤ length cs + weight_of_stats ss
  few_stats EndStats cs = omega arith
  few_stats (MoreStats s ss) cs = omega (arith, few_stat s cs, few_stats ss (of_stat s cs))

  pub few_block : (block : Block) (cs : List Const) → length (of_block block cs) ≤ length cs + weight_of_block block
  few_block (Falls ss tokens line) cs = few_stats ss cs
  few_block (Returns ss es tokens line) cs = omega (arith, few_stats ss cs, few_exps es (of_stats ss cs))
