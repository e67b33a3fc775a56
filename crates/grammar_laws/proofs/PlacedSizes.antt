-- Setting places keeps how many functions there are, how deep they are nested, and the weight.
use Rattle.std.proofs.Common.{◌≡◌, ◌+◌, List, [], ◌∷◌, refl, arith}
use Rattle.std.specs.Prelude.{map}
use Rattle.tree_core.specs.Tree.{Block, Falls, Returns, Body, BodyOf, Stats, EndStats, MoreStats, Stat, Local, LocalFunction, Assign, CallStat, Do, While, Repeat, If, IfElse, NumFor, NumForStep, GenFor, Arms, EndArms, MoreArms, Exp, Function, Index, Call, Method, Unary, Binary, And, Or, Paren, Table, Exps, EndExps, MoreExps, Fields, EndFields, MoreFields, Field, Item, Keyed}
use Rattle.scope_core.specs.Scopes.{Frame, declare, declare_all, declared_by, plain_variable, behind, behind_stats, numeric_hidden, generic_hidden}
use Rattle.scope_core.specs.Places.{main_upvalues, upvalues_of, placed_exp, placed_exps, placed_fields, placed_field, placed_body, placed_block, placed_stats, placed_stat, placed_arms, placed}
use Rattle.tree_terms.specs.FunctionCount.{functions, functions_in_exps, functions_in_fields, functions_in_field, functions_in_stat, functions_in_arms, functions_in_stats, functions_in_block, functions_in_body}
use Rattle.tree_terms.specs.Weight.{weight, weight_of_arguments, weight_of_exps, weight_of_fields, weight_of_field, weight_of_stat, weight_of_arms, weight_of_stats, weight_of_block, weight_of_body}
use Rattle.scope_laws.proofs.Views.{names_length, declared_length}
use Rattle.grammar_laws.proofs.Nesting.{nesting, nesting_in_exps, nesting_in_fields, nesting_in_field, nesting_in_stat, nesting_in_arms, nesting_in_stats, nesting_in_block, nesting_in_body}

mutual
  exp_kept : (fs : List Frame) (e : Exp) → (functions (placed_exp fs e) ≡ functions e) × (nesting (placed_exp fs e) ≡ nesting e) × (weight (placed_exp fs e) ≡ weight e)
  exp_kept fs (Function line body) = let x = body_kept fs body in (omega (arith, x.0), omega (arith, x.1), omega (arith, x.2))
  exp_kept fs (Index line object key) = let x = exp_kept fs object in let y = exp_kept fs key in (omega (arith, x.0, y.0), omega (arith, x.1, y.1), omega (arith, x.2, y.2))
  exp_kept fs (Call line f es) = let x = exp_kept fs f in let y = exps_kept fs es in (omega (arith, x.0, y.0), omega (arith, x.1, y.1), omega (arith, x.2, arguments_weigh fs es))
  exp_kept fs (Method line object name es) = let x = exp_kept fs object in let y = exps_kept fs es in (omega (arith, x.0, y.0), omega (arith, x.1, y.1), omega (arith, x.2, arguments_weigh fs es))
  exp_kept fs (Unary line op e) = let x = exp_kept fs e in (omega (arith, x.0), omega (arith, x.1), omega (arith, x.2))
  exp_kept fs (Binary line op e d) = let x = exp_kept fs e in let y = exp_kept fs d in (omega (arith, x.0, y.0), omega (arith, x.1, y.1), omega (arith, x.2, y.2))
  exp_kept fs (And line e d) = let x = exp_kept fs e in let y = exp_kept fs d in (omega (arith, x.0, y.0), omega (arith, x.1, y.1), omega (arith, x.2, y.2))
  exp_kept fs (Or line e d) = let x = exp_kept fs e in let y = exp_kept fs d in (omega (arith, x.0, y.0), omega (arith, x.1, y.1), omega (arith, x.2, y.2))
  exp_kept fs (Paren line e) = let x = exp_kept fs e in (omega (arith, x.0), omega (arith, x.1), omega (arith, x.2))
  exp_kept fs (Table line inner) = let x = fields_kept fs inner in (omega (arith, x.0), omega (arith, x.1), omega (arith, x.2))
  exp_kept fs _ = (refl, refl, refl)

  arguments_weigh : (fs : List Frame) (es : Exps) → weight_of_arguments (placed_exps fs es) ≡ weight_of_arguments es
  arguments_weigh fs EndExps = refl
  arguments_weigh fs (MoreExps e es) = let x = exp_kept fs e in let y = exps_kept fs es in omega (arith, x.2, y.2)

  exps_kept : (fs : List Frame) (es : Exps) → (functions_in_exps (placed_exps fs es) ≡ functions_in_exps es) × (nesting_in_exps (placed_exps fs es) ≡ nesting_in_exps es) × (weight_of_exps (placed_exps fs es) ≡ weight_of_exps es)
  exps_kept fs EndExps = (refl, refl, refl)
  exps_kept fs (MoreExps e es) = let x = exp_kept fs e in let y = exps_kept fs es in (omega (arith, x.0, y.0), omega (arith, x.1, y.1), omega (arith, x.2, y.2))

  fields_kept : (fs : List Frame) (inner : Fields) → (functions_in_fields (placed_fields fs inner) ≡ functions_in_fields inner) × (nesting_in_fields (placed_fields fs inner) ≡ nesting_in_fields inner) × (weight_of_fields (placed_fields fs inner) ≡ weight_of_fields inner)
  fields_kept fs EndFields = (refl, refl, refl)
  fields_kept fs (MoreFields f inner) = let x = field_kept fs f in let y = fields_kept fs inner in (omega (arith, x.0, y.0), omega (arith, x.1, y.1), omega (arith, x.2, y.2))

  field_kept : (fs : List Frame) (f : Field) → (functions_in_field (placed_field fs f) ≡ functions_in_field f) × (nesting_in_field (placed_field fs f) ≡ nesting_in_field f) × (weight_of_field (placed_field fs f) ≡ weight_of_field f)
  field_kept fs (Item e) = exp_kept fs e
  field_kept fs (Keyed line e d) = let x = exp_kept fs e in let y = exp_kept fs d in (omega (arith, x.0, y.0), omega (arith, x.1, y.1), omega (arith, x.2, y.2))

  stat_kept : (fs : List Frame) (s : Stat) → (functions_in_stat (placed_stat fs s) ≡ functions_in_stat s) × (nesting_in_stat (placed_stat fs s) ≡ nesting_in_stat s) × (weight_of_stat (placed_stat fs s) ≡ weight_of_stat s)
  stat_kept fs (Local line names es) = let x = exps_kept fs es in (omega (arith, x.0), omega (arith, x.1), omega (arith, x.2, declared_length fs names))
  stat_kept fs (LocalFunction line name body) = let x = body_kept (declare fs (plain_variable name)) body in (omega (arith, x.0), omega (arith, x.1), omega (arith, x.2))
  stat_kept fs (Assign line targets es) = let x = exps_kept fs targets in let y = exps_kept fs es in (omega (arith, x.0, y.0), omega (arith, x.1, y.1), omega (arith, x.2, y.2))
  stat_kept fs (CallStat line e) = let x = exp_kept fs e in (omega (arith, x.0), omega (arith, x.1), omega (arith, x.2))
  stat_kept fs (Do line block) = let x = block_kept fs block in (omega (arith, x.0), omega (arith, x.1), omega (arith, x.2))
  stat_kept fs (While line e block) = let x = exp_kept fs e in let y = block_kept fs block in (omega (arith, x.0, y.0), omega (arith, x.1, y.1), omega (arith, x.2, y.2))
  stat_kept fs (Repeat line block e) = let x = block_kept fs block in let y = exp_kept (behind fs block) e in (omega (arith, x.0, y.0), omega (arith, x.1, y.1), omega (arith, x.2, y.2))
  stat_kept fs (If line arms) = let x = arms_kept fs arms in (omega (arith, x.0), omega (arith, x.1), omega (arith, x.2))
  stat_kept fs (IfElse line arms block) = let x = arms_kept fs arms in let y = block_kept fs block in (omega (arith, x.0, y.0), omega (arith, x.1, y.1), omega (arith, x.2, y.2))
  stat_kept fs (NumFor line name from limit block) = let x = exp_kept fs from in let y = exp_kept fs limit in let z = block_kept (declare (declare_all fs numeric_hidden) (plain_variable name)) block in (omega (arith, x.0, y.0, z.0), omega (arith, x.1, y.1, z.1), omega (arith, x.2, y.2, z.2))
  stat_kept fs (NumForStep line name from limit step block) = let x = exp_kept fs from in let y = exp_kept fs limit in let z = exp_kept fs step in let u = block_kept (declare (declare_all fs numeric_hidden) (plain_variable name)) block in (omega (arith, x.0, y.0, z.0, u.0), omega (arith, x.1, y.1, z.1, u.1), omega (arith, x.2, y.2, z.2, u.2))
  stat_kept fs (GenFor line names es block) = let x = exps_kept fs es in let y = block_kept (declare_all (declare_all fs generic_hidden) (map plain_variable names)) block in (omega (arith, x.0, y.0), omega (arith, x.1, y.1), omega (arith, x.2, y.2, names_length (declare_all fs generic_hidden) names))
  stat_kept fs _ = (refl, refl, refl)

  arms_kept : (fs : List Frame) (arms : Arms) → (functions_in_arms (placed_arms fs arms) ≡ functions_in_arms arms) × (nesting_in_arms (placed_arms fs arms) ≡ nesting_in_arms arms) × (weight_of_arms (placed_arms fs arms) ≡ weight_of_arms arms)
  arms_kept fs EndArms = (refl, refl, refl)
  arms_kept fs (MoreArms e block arms) = let x = exp_kept fs e in let y = block_kept fs block in let z = arms_kept fs arms in (omega (arith, x.0, y.0, z.0), omega (arith, x.1, y.1, z.1), omega (arith, x.2, y.2, z.2))

  stats_kept : (fs : List Frame) (ss : Stats) → (functions_in_stats (placed_stats fs ss) ≡ functions_in_stats ss) × (nesting_in_stats (placed_stats fs ss) ≡ nesting_in_stats ss) × (weight_of_stats (placed_stats fs ss) ≡ weight_of_stats ss)
  stats_kept fs EndStats = (refl, refl, refl)
  stats_kept fs (MoreStats s ss) = let x = stat_kept fs s in let y = stats_kept (declare_all fs (declared_by s)) ss in (omega (arith, x.0, y.0), omega (arith, x.1, y.1), omega (arith, x.2, y.2))

  block_kept : (fs : List Frame) (block : Block) → (functions_in_block (placed_block fs block) ≡ functions_in_block block) × (nesting_in_block (placed_block fs block) ≡ nesting_in_block block) × (weight_of_block (placed_block fs block) ≡ weight_of_block block)
  block_kept fs (Falls ss tokens line) = stats_kept fs ss
  block_kept fs (Returns ss es tokens line) = let x = stats_kept fs ss in let y = exps_kept (behind_stats fs ss) es in (omega (arith, x.0, y.0), omega (arith, x.1, y.1), omega (arith, x.2, y.2))

  body_kept : (fs : List Frame) (body : Body) → (functions_in_body (placed_body fs body) ≡ functions_in_body body) × (nesting_in_body (placed_body fs body) ≡ nesting_in_body body) × (weight_of_body (placed_body fs body) ≡ weight_of_body body)
  body_kept fs (BodyOf params vararg inner ups line) =
      let begin : List Frame = record { variables = []; upvalues = upvalues_of fs (BodyOf params vararg inner ups line) } ∷ fs in
      let x = block_kept (declare_all begin (map plain_variable params)) inner in (omega (arith, x.0), omega (arith, x.1), omega (arith, x.2))

pub exps_weighs : (fs : List Frame) (es : Exps) → weight_of_exps (placed_exps fs es) ≡ weight_of_exps es
exps_weighs fs es = (exps_kept fs es).2

pub stats_weighs : (fs : List Frame) (ss : Stats) → weight_of_stats (placed_stats fs ss) ≡ weight_of_stats ss
stats_weighs fs ss = (stats_kept fs ss).2

-- a source

main_kept : (block : Block) → (functions_in_body (placed block) ≡ functions_in_block block) × (nesting_in_body (placed block) ≡ nesting_in_block block) × (weight_of_body (placed block) ≡ weight_of_block block + 3)
main_kept block = let x = block_kept (record { variables = []; upvalues = main_upvalues } ∷ []) block in (x.0, x.1, omega (arith, x.2))

pub placed_has : (block : Block) → functions_in_body (placed block) ≡ functions_in_block block
placed_has block = (main_kept block).0

pub placed_nests : (block : Block) → nesting_in_body (placed block) ≡ nesting_in_block block
placed_nests block = (main_kept block).1

pub placed_weighs : (block : Block) → weight_of_body (placed block) ≡ weight_of_block block + 3
placed_weighs block = (main_kept block).2
