-- The plain trees of values of src/ that hold vectors, by the vectors' items.
use Rattle.std.proofs.Common.{◌≡◌, ℕ, List, map, Option, Some, None, Box, Vec, Global, refl, ap, ap₂, ◌∙◌}
use Rattle.std.specs.Option.{option_map}
use Rattle.tree_core.specs.declared.name.Name.{Name}
use Rattle.tree_core.specs.declared.name.Declared.{Declared}
use Rattle.tree_core.specs.declared.tree.ExpNode.{Call, Method, Table, Row_of-Exp, end_of-Exp, more_of-Exp, items-the_row-Exp, items_hidden-the_row-Exp-0, Row_of-Field, end_of-Field, more_of-Field, items-the_row-Field, items_hidden-the_row-Field-1}
use Rattle.tree_core.specs.declared.tree.ExpNode.TheBlock.{hidden-the_row-Exp-0, hidden-the_row-Field-1, hidden-the_row-Arm-2, hidden-the_row-Stat-3, shape-the_row-Stat-3}
use Rattle.tree_core.specs.declared.tree.StatNode.{Local, Assign, If, NumFor, GenFor, Row_of-Arm, end_of-Arm, more_of-Arm, items-the_row-Arm, items_hidden-the_row-Arm-2}
use Rattle.tree_core.specs.declared.tree.Block.{Block, Block', is-Block', back-Block-result, items_hidden-the_row-Stat-3, out-Block, Row_of-Stat, end_of-Stat, more_of-Stat, items-the_row-Stat}
use Rattle.tree_core.specs.declared.tree.Body.{Body, is-Body', out-Body}
use Rattle.tree_core.specs.declared.tree.Exp.{Exp}
use Rattle.tree_core.specs.declared.tree.Stat.{Stat}
use Rattle.tree_core.specs.declared.tree.Arm.{Arm, Arm'}
use Rattle.tree_core.specs.declared.tree.Field.{Field}
use Rattle.tree_core.specs.Tree as tree
use Rattle.tree_core.specs.Plain.{plain_exp_node, plain_exp, plain_exps, plain_exp_row, plain_field, plain_field_row, plain_stat_node, plain_stat, plain_stat_row, plain_arm, plain_arm_row, plain_block, plain_body, block_of, if_of, num_for_of}

exp_rows : (n : _) (es : Row_of-Exp n) → plain_exp_row es ≡ tree.exps (plain_exps (items-the_row-Exp n es))
exp_rows n end_of-Exp = refl
exp_rows n (more_of-Exp l e es) = ap (tree.MoreExps (plain_exp_node e l)) (exp_rows _ es)

field_rows : (n : _) (fs : Row_of-Field n) → plain_field_row fs ≡ tree.fields (map plain_field (items-the_row-Field n fs))
field_rows n end_of-Field = refl
field_rows n (more_of-Field f fs) = ap (tree.MoreFields (plain_field f)) (field_rows _ fs)

stat_rows : (n : _) (ss : Row_of-Stat n) → plain_stat_row ss ≡ tree.stats (map plain_stat (items-the_row-Stat n ss))
stat_rows n end_of-Stat = refl
stat_rows n (more_of-Stat l s ss) = ap (tree.MoreStats (plain_stat_node s l)) (stat_rows _ ss)

arm_rows : (n : _) (as' : Row_of-Arm n) → plain_arm_row as' ≡ tree.arms (map plain_arm (items-the_row-Arm n as'))
arm_rows n end_of-Arm = refl
arm_rows n (more_of-Arm (Arm' l e b) more) = ap (tree.MoreArms (plain_exp_node e l) (plain_block b)) (arm_rows _ more)

pub exps_of : (es : Vec Exp Global) → plain_exp_row (hidden-the_row-Exp-0 es) ≡ tree.exps (plain_exps es.items)
exps_of es = exp_rows _ (hidden-the_row-Exp-0 es) ∙ ap (λ x. tree.exps (plain_exps x)) (items_hidden-the_row-Exp-0 es)

pub fields_of : (fs : Vec Field Global) → plain_field_row (hidden-the_row-Field-1 fs) ≡ tree.fields (map plain_field fs.items)
fields_of fs = field_rows _ (hidden-the_row-Field-1 fs) ∙ ap (λ x. tree.fields (map plain_field x)) (items_hidden-the_row-Field-1 fs)

stats_of : (ss : Vec Stat Global) → plain_stat_row (hidden-the_row-Stat-3 ss) ≡ tree.stats (map plain_stat ss.items)
stats_of ss = stat_rows _ (hidden-the_row-Stat-3 ss) ∙ ap (λ x. tree.stats (map plain_stat x)) (items_hidden-the_row-Stat-3 ss)

pub arms_of : (as' : Vec Arm Global) → plain_arm_row (hidden-the_row-Arm-2 as') ≡ tree.arms (map plain_arm as'.items)
arms_of as' = arm_rows _ (hidden-the_row-Arm-2 as') ∙ ap (λ x. tree.arms (map plain_arm x)) (items_hidden-the_row-Arm-2 as')

-- expressions

pub plain-call : (line : ℕ) (f : Box Exp Global) (args : Vec Exp Global) → plain_exp_node (Call f args) line ≡ tree.Call line (plain_exp f.value) (tree.exps (plain_exps args.items))
plain-call line f args = ap (tree.Call line (plain_exp f.value)) (exps_of args)

pub plain-method : (line : ℕ) (f : Box Exp Global) (name : Name) (args : Vec Exp Global) → plain_exp_node (Method f name args) line ≡ tree.Method line (plain_exp f.value) name (tree.exps (plain_exps args.items))
plain-method line f name args = ap (tree.Method line (plain_exp f.value) name) (exps_of args)

pub plain-table : (line : ℕ) (fs : Vec Field Global) → plain_exp_node (Table fs) line ≡ tree.Table line (tree.fields (map plain_field fs.items))
plain-table line fs = ap (tree.Table line) (fields_of fs)

-- statements

pub plain-local : (line : ℕ) (names : Vec Declared Global) (es : Vec Exp Global) → plain_stat_node (Local names es) line ≡ tree.Local line names.items (tree.exps (plain_exps es.items))
plain-local line names es = ap (tree.Local line names.items) (exps_of es)

pub plain-assign : (line : ℕ) (ts es : Vec Exp Global) → plain_stat_node (Assign ts es) line ≡ tree.Assign line (tree.exps (plain_exps ts.items)) (tree.exps (plain_exps es.items))
plain-assign line ts es = ap₂ (tree.Assign line) (exps_of ts) (exps_of es)

pub plain-if : (line : ℕ) (as' : Vec Arm Global) (b : Option (Box Block Global)) → plain_stat_node (If as' b) line ≡ if_of line (map plain_arm as'.items) (option_map (λ x. plain_block x.value) b)
plain-if line as' None = ap (tree.If line) (arms_of as')
plain-if line as' (Some b) = ap (λ x. tree.IfElse line x (plain_block b.value)) (arms_of as')

pub plain-num_for : (line : ℕ) (name : Name) (a b : Box Exp Global) (c : Option (Box Exp Global)) (inner : Box Block Global) → plain_stat_node (NumFor name a b c inner) line ≡ num_for_of line name (plain_exp a.value) (plain_exp b.value) (option_map (λ x. plain_exp x.value) c) (plain_block inner.value)
plain-num_for line name a b None inner = refl
plain-num_for line name a b (Some c) inner = refl

pub plain-gen_for : (line : ℕ) (names : Vec Name Global) (es : Vec Exp Global) (inner : Box Block Global) → plain_stat_node (GenFor names es inner) line ≡ tree.GenFor line names.items (tree.exps (plain_exps es.items)) (plain_block inner.value)
plain-gen_for line names es inner = ap (λ x. tree.GenFor line names.items x (plain_block inner.value)) (exps_of es)

-- blocks and bodies

abbrev plain_result : Option (Vec Exp Global) → Option (List tree.Exp)
plain_result r = option_map (λ es. plain_exps es.items) r

block_back : (ss : Vec Stat Global) (r : Option (Vec Exp Global)) (tokens line : ℕ) → plain_block (Block' (shape-the_row-Stat-3 ss) (hidden-the_row-Stat-3 ss) (back-Block-result r) tokens line) ≡ block_of (map plain_stat ss.items) (plain_result r) tokens line
block_back ss None tokens line = ap (λ x. tree.Falls x tokens line) (stats_of ss)
block_back ss (Some es) tokens line = ap₂ (λ x y. tree.Returns x y tokens line) (stats_of ss) (exps_of es)

pub plain-block : (b : Block) → plain_block b ≡ block_of (map plain_stat (out-Block b).stats.items) (plain_result (out-Block b).result) (out-Block b).tokens (out-Block b).line
plain-block b = ap plain_block (is-Block' b) ∙ block_back (out-Block b).stats (out-Block b).result (out-Block b).tokens (out-Block b).line

pub plain-body : (b : Body) → plain_body b ≡ tree.BodyOf (out-Body b).params.items (out-Body b).vararg (plain_block (out-Body b).block) (out-Body b).upvalues.items (out-Body b).line
plain-body b = ap plain_body (is-Body' b)

-- a block that ends by a `return`, and one that does not

pub with_result : (b : Block) (es : Vec Exp Global) → (out-Block b).result ≡ Some es → plain_block b ≡ tree.Returns (tree.stats (map plain_stat (out-Block b).stats.items)) (tree.exps (plain_exps es.items)) (out-Block b).tokens (out-Block b).line
with_result b es is =
    plain-block b
    ∙ ap (λ r. block_of (map plain_stat (out-Block b).stats.items) (option_map (λ xs. plain_exps xs.items) r) (out-Block b).tokens (out-Block b).line) is

pub without_result : (b : Block) → (out-Block b).result ≡ None → plain_block b ≡ tree.Falls (tree.stats (map plain_stat (out-Block b).stats.items)) (out-Block b).tokens (out-Block b).line
without_result b is =
    plain-block b
    ∙ ap (λ r. block_of (map plain_stat (out-Block b).stats.items) (option_map (λ xs. plain_exps xs.items) r) (out-Block b).tokens (out-Block b).line) is
