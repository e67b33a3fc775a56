-- The code of a small tree fits its fields, everywhere in it.
use Rattle.std.proofs.Common.{◌≡◌, ℕ, ◌≤◌, Bool, List, [], length, arith}
use Rattle.tree_core.specs.declared.name.Name.{Name}
use Rattle.tree_core.specs.declared.name.UpName.{UpName}
use Rattle.tree_core.specs.Tree.{Block, Falls, Returns, Body, BodyOf, Stats, EndStats, MoreStats, Stat, Local, LocalFunction, Assign, CallStat, Do, While, Repeat, If, IfElse, NumFor, NumForStep, GenFor, Arms, EndArms, MoreArms, Exp, Function, Index, Call, Method, Unary, Binary, And, Or, Paren, Table, Exps, EndExps, MoreExps, Fields, EndFields, MoreFields, Field, Item, Keyed}
use Rattle.scope_core.specs.Rules.{tokens_of, violations}
use Rattle.tree_terms.specs.Weight.{weight, weight_of_exps, weight_of_fields, weight_of_field, weight_of_stat, weight_of_arms, weight_of_stats, weight_of_block, weight_of_body}
use Rattle.tree_terms.specs.FunctionCount.{functions, functions_in_exps, functions_in_fields, functions_in_field, functions_in_stat, functions_in_arms, functions_in_stats, functions_in_block, functions_in_body}
use Rattle.tree_terms.specs.Asked.{ExpMeets, ExpsMeet, FieldsMeet, FieldMeets, StatMeets, ArmsMeet, StatsMeet, BlockMeets}
use Rattle.code_bounds.proofs.Counts.{arguments_weigh, made_block, few_block}
use Rattle.code_bounds.proofs.ShortStatements.{block_short}
use Rattle.code_bounds.proofs.ShortBodies.{body_short}
use Rattle.grammar_laws.specs.Counted.{BlockIsCounted, BodyIsCounted, all_counted}
use Rattle.grammar_laws.specs.Each.{InBody, each_one}
use Rattle.grammar_laws.proofs.Rules.{Nothing, IsShort, short_loops}
use Rattle.source_laws.specs.Fields.{FunctionFits, LoopFits}
use Rattle.token_cursor.specs.Words.{Lexeme}
use Rattle.lua_lex.specs.Lexical.{TokensOf}
use Rattle.lua_parse.specs.Reading.{Derives}
use Rattle.scope_core.specs.Places.{placed}
use Rattle.grammar_laws.proofs.PlacedBlocks.{placed_counted}
use Rattle.grammar_laws.proofs.PlacedSizes.{placed_has, placed_weighs}
use Rattle.grammar_laws.proofs.WholeSizes.{weighs, takes}

pub light : (block : Block) → BlockIsCounted block → weight_of_block block ≤ tokens_of block
light (Falls ss tokens line) c = c.0
light (Returns ss es tokens line) c = c.0

near : (block : Block) → BlockIsCounted block → IsShort block → LoopFits block
near block c few constants back closing outer t j = omega (arith, light block c, few, block_short constants back block closing outer t j)

small : (params : List Name) (vararg : Bool) (inner : Block) (ups : List UpName) (line : ℕ)
    → weight_of_body (BodyOf params vararg inner ups line) ≤ 1048579 → functions_in_body (BodyOf params vararg inner ups line) ≤ 131072 → FunctionFits (BodyOf params vararg inner ups line)
small params vararg inner ups line w f = record {
  code = omega (arith, w, body_short (BodyOf params vararg inner ups line));
  constants = omega (arith, w, few_block inner []);
  functions = omega (arith, f, made_block inner);
}

mutual
  exp_fits : (e : Exp) → weight e ≤ 1048579 → functions e ≤ 131072 → ExpMeets all_counted e → ExpMeets (each_one Nothing IsShort) e → ExpMeets (each_one FunctionFits LoopFits) e
  exp_fits (Function line body) w m c r = body_fits body (omega (arith, w)) (omega (arith, m)) c r
  exp_fits (Index line object key) w m c r = (exp_fits object (omega (arith, w)) (omega (arith, m)) c.0 r.0, exp_fits key (omega (arith, w)) (omega (arith, m)) c.1 r.1)
  exp_fits (Call line f es) w m c r = (exp_fits f (omega (arith, w, arguments_weigh es)) (omega (arith, m)) c.0 r.0, exps_fits es (omega (arith, w, arguments_weigh es)) (omega (arith, m)) c.1 r.1)
  exp_fits (Method line object name es) w m c r = (exp_fits object (omega (arith, w, arguments_weigh es)) (omega (arith, m)) c.0 r.0, exps_fits es (omega (arith, w, arguments_weigh es)) (omega (arith, m)) c.1 r.1)
  exp_fits (Unary line op e) w m c r = exp_fits e (omega (arith, w)) (omega (arith, m)) c r
  exp_fits (Binary line op e d) w m c r = (exp_fits e (omega (arith, w)) (omega (arith, m)) c.0 r.0, exp_fits d (omega (arith, w)) (omega (arith, m)) c.1 r.1)
  exp_fits (And line e d) w m c r = (exp_fits e (omega (arith, w)) (omega (arith, m)) c.0 r.0, exp_fits d (omega (arith, w)) (omega (arith, m)) c.1 r.1)
  exp_fits (Or line e d) w m c r = (exp_fits e (omega (arith, w)) (omega (arith, m)) c.0 r.0, exp_fits d (omega (arith, w)) (omega (arith, m)) c.1 r.1)
  exp_fits (Paren line e) w m c r = exp_fits e (omega (arith, w)) (omega (arith, m)) c r
  exp_fits (Table line fs) w m c r = fields_fits fs (omega (arith, w)) (omega (arith, m)) c r
  exp_fits _ w m c r = tt

  exps_fits : (es : Exps) → weight_of_exps es ≤ 1048579 → functions_in_exps es ≤ 131072 → ExpsMeet all_counted es → ExpsMeet (each_one Nothing IsShort) es → ExpsMeet (each_one FunctionFits LoopFits) es
  exps_fits EndExps w m c r = tt
  exps_fits (MoreExps e es) w m c r = (exp_fits e (omega (arith, w)) (omega (arith, m)) c.0 r.0, exps_fits es (omega (arith, w)) (omega (arith, m)) c.1 r.1)

  fields_fits : (fs : Fields) → weight_of_fields fs ≤ 1048579 → functions_in_fields fs ≤ 131072 → FieldsMeet all_counted fs → FieldsMeet (each_one Nothing IsShort) fs → FieldsMeet (each_one FunctionFits LoopFits) fs
  fields_fits EndFields w m c r = tt
  fields_fits (MoreFields g fs) w m c r = (field_fits g (omega (arith, w)) (omega (arith, m)) c.0 r.0, fields_fits fs (omega (arith, w)) (omega (arith, m)) c.1 r.1)

  field_fits : (f : Field) → weight_of_field f ≤ 1048579 → functions_in_field f ≤ 131072 → FieldMeets all_counted f → FieldMeets (each_one Nothing IsShort) f → FieldMeets (each_one FunctionFits LoopFits) f
  field_fits (Item e) w m c r = exp_fits e w m c r
  field_fits (Keyed line e d) w m c r = (exp_fits e (omega (arith, w)) (omega (arith, m)) c.0 r.0, exp_fits d (omega (arith, w)) (omega (arith, m)) c.1 r.1)

  stat_fits : (s : Stat) → weight_of_stat s ≤ 1048579 → functions_in_stat s ≤ 131072 → StatMeets all_counted s → StatMeets (each_one Nothing IsShort) s → StatMeets (each_one FunctionFits LoopFits) s
  stat_fits (Local line names es) w m c r = exps_fits es (omega (arith, w)) (omega (arith, m)) c r
  stat_fits (LocalFunction line name body) w m c r = body_fits body (omega (arith, w)) (omega (arith, m)) c r
  stat_fits (Assign line targets es) w m c r = (exps_fits targets (omega (arith, w)) (omega (arith, m)) c.0 r.0, exps_fits es (omega (arith, w)) (omega (arith, m)) c.1 r.1)
  stat_fits (CallStat line e) w m c r = exp_fits e (omega (arith, w)) (omega (arith, m)) c r
  stat_fits (Do line block) w m c r = block_fits block (omega (arith, w)) (omega (arith, m)) c r
  stat_fits (While line e block) w m c r = (exp_fits e (omega (arith, w)) (omega (arith, m)) c.0 r.0, block_fits block (omega (arith, w)) (omega (arith, m)) c.1 r.1)
  stat_fits (Repeat line block e) w m c r = (block_fits block (omega (arith, w)) (omega (arith, m)) c.0 r.0, exp_fits e (omega (arith, w)) (omega (arith, m)) c.1 r.1)
  stat_fits (If line arms) w m c r = arms_fits arms (omega (arith, w)) (omega (arith, m)) c r
  stat_fits (IfElse line arms block) w m c r = (arms_fits arms (omega (arith, w)) (omega (arith, m)) c.0 r.0, block_fits block (omega (arith, w)) (omega (arith, m)) c.1 r.1)
  stat_fits (NumFor line name from limit block) w m c r = (
    exp_fits from (omega (arith, w)) (omega (arith, m)) c.0 r.0,
    (exp_fits limit (omega (arith, w)) (omega (arith, m)) c.1.0 r.1.0, (near block c.1.1 r.1.1.0, block_fits block (omega (arith, w)) (omega (arith, m)) c.1.1 r.1.1.1)),
  )
  stat_fits (NumForStep line name from limit step block) w m c r = (
    exp_fits from (omega (arith, w)) (omega (arith, m)) c.0 r.0,
    (
      exp_fits limit (omega (arith, w)) (omega (arith, m)) c.1.0 r.1.0,
      (exp_fits step (omega (arith, w)) (omega (arith, m)) c.1.1.0 r.1.1.0, (near block c.1.1.1 r.1.1.1.0, block_fits block (omega (arith, w)) (omega (arith, m)) c.1.1.1 r.1.1.1.1)),
    ),
  )
  stat_fits (GenFor line names es block) w m c r = (exps_fits es (omega (arith, w)) (omega (arith, m)) c.0 r.0, (near block c.1 r.1.0, block_fits block (omega (arith, w)) (omega (arith, m)) c.1 r.1.1))
  stat_fits _ w m c r = tt

  arms_fits : (arms : Arms) → weight_of_arms arms ≤ 1048579 → functions_in_arms arms ≤ 131072 → ArmsMeet all_counted arms → ArmsMeet (each_one Nothing IsShort) arms → ArmsMeet (each_one FunctionFits LoopFits) arms
  arms_fits EndArms w m c r = tt
  arms_fits (MoreArms e block arms) w m c r = (exp_fits e (omega (arith, w)) (omega (arith, m)) c.0 r.0, (block_fits block (omega (arith, w)) (omega (arith, m)) c.1.0 r.1.0, arms_fits arms (omega (arith, w)) (omega (arith, m)) c.1.1 r.1.1))

  stats_fits : (ss : Stats) → weight_of_stats ss ≤ 1048579 → functions_in_stats ss ≤ 131072 → StatsMeet all_counted ss → StatsMeet (each_one Nothing IsShort) ss → StatsMeet (each_one FunctionFits LoopFits) ss
  stats_fits EndStats w m c r = tt
  stats_fits (MoreStats s ss) w m c r = (stat_fits s (omega (arith, w)) (omega (arith, m)) c.0 r.0, stats_fits ss (omega (arith, w)) (omega (arith, m)) c.1 r.1)

  block_fits : (block : Block) → weight_of_block block ≤ 1048579 → functions_in_block block ≤ 131072 → BlockIsCounted block → BlockMeets (each_one Nothing IsShort) block → BlockMeets (each_one FunctionFits LoopFits) block
  block_fits (Falls ss tokens line) w m c r = stats_fits ss w m c.1 r
  block_fits (Returns ss es tokens line) w m c r = (stats_fits ss (omega (arith, w)) (omega (arith, m)) c.1.0 r.0, exps_fits es (omega (arith, w)) (omega (arith, m)) c.1.1 r.1)

  pub body_fits : (body : Body) → weight_of_body body ≤ 1048579 → functions_in_body body ≤ 131072 → BodyIsCounted body → InBody Nothing IsShort body → InBody FunctionFits LoopFits body
  body_fits (BodyOf params vararg inner ups line) w m c r = (small params vararg inner ups line w m, block_fits inner (omega (arith, w)) m c r.1)

pub fits : (source : List ℕ) (tokens : List Lexeme) (tree : Block) → length source ≤ 1048576 → TokensOf source tokens → Derives tokens tree → violations tree ≡ [] → InBody FunctionFits LoopFits (placed tree)
fits source tokens tree small t d r =
    let w = weighs tokens tree d in
    let b = takes source tokens tree t d in
    body_fits (placed tree) (omega (arith, small, w.whole, b.tokens_count, placed_weighs tree)) (omega (arith, small, b.functions_count, placed_has tree)) (placed_counted tree w.blocks) (short_loops tree r)
