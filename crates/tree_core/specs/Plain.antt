-- The plain tree of each tree of src/.
use Rattle.std.specs.Prelude.{ℕ, List, map, Option, Some, None}
use Rattle.tree_core.specs.declared.name.Name.{Name}
use Rattle.tree_core.specs.declared.tree.ExpNode.{ExpNode, Nil, True, False, Int, Str, Vararg, Function', Var, Index', Call', Method', Unary', Binary', And', Or', Paren', Table', Row_of-Exp, end_of-Exp, more_of-Exp, Row_of-Field, end_of-Field, more_of-Field}
use Rattle.tree_core.specs.declared.tree.Field.{Field, Item', Keyed'}
use Rattle.tree_core.specs.declared.tree.StatNode.{StatNode, Empty, Local', LocalFunction', Assign', Do', While', Repeat', If', NumFor', GenFor', Label, Goto, Break, Row_of-Arm, end_of-Arm, more_of-Arm, StatNode-If-1-None', StatNode-If-1-Some', StatNode-NumFor-3-None', StatNode-NumFor-3-Some'}
use Rattle.tree_core.specs.declared.tree.StatNode.{Call' as CallStat'}
use Rattle.tree_core.specs.declared.tree.Arm.{Arm, Arm'}
use Rattle.tree_core.specs.declared.tree.Block.{Block, Block', Row_of-Stat, end_of-Stat, more_of-Stat, Block-result-None', Block-result-Some'}
use Rattle.tree_core.specs.declared.tree.Body.{Body, Body'}
use Rattle.tree_core.specs.declared.tree.Exp.{Exp}
use Rattle.tree_core.specs.declared.tree.Stat.{Stat}
use Rattle.tree_core.specs.Tree as tree

abbrev mutual
  pub plain_exp_node : ExpNode → ℕ → tree.Exp
  plain_exp_node Nil line = tree.Nil line
  plain_exp_node True line = tree.True line
  plain_exp_node False line = tree.False line
  plain_exp_node (Int n) line = tree.Int line n
  plain_exp_node (Str bytes) line = tree.Str line bytes
  plain_exp_node Vararg line = tree.Vararg line
  plain_exp_node (Function' p inner) line = tree.Function line (plain_body inner)
  plain_exp_node (Var name) line = tree.Var line name
  plain_exp_node (Index' p l a q k b) line = tree.Index line (plain_exp_node a l) (plain_exp_node b k)
  plain_exp_node (Call' p l f s args) line = tree.Call line (plain_exp_node f l) (plain_exp_row args)
  plain_exp_node (Method' p l f name s args) line = tree.Method line (plain_exp_node f l) name (plain_exp_row args)
  plain_exp_node (Unary' op p l a) line = tree.Unary line op (plain_exp_node a l)
  plain_exp_node (Binary' op p l a q k b) line = tree.Binary line op (plain_exp_node a l) (plain_exp_node b k)
  plain_exp_node (And' p l a q k b) line = tree.And line (plain_exp_node a l) (plain_exp_node b k)
  plain_exp_node (Or' p l a q k b) line = tree.Or line (plain_exp_node a l) (plain_exp_node b k)
  plain_exp_node (Paren' p l a) line = tree.Paren line (plain_exp_node a l)
  plain_exp_node (Table' s fs) line = tree.Table line (plain_field_row fs)

  pub plain_exp_row : {m : _} → Row_of-Exp m → tree.Exps
  plain_exp_row end_of-Exp = tree.EndExps
  plain_exp_row (more_of-Exp l e es) = tree.MoreExps (plain_exp_node e l) (plain_exp_row es)

  pub plain_field_row : {m : _} → Row_of-Field m → tree.Fields
  plain_field_row end_of-Field = tree.EndFields
  plain_field_row (more_of-Field f fs) = tree.MoreFields (plain_field f) (plain_field_row fs)

  pub plain_field : Field → tree.Field
  plain_field (Item' l e) = tree.Item (plain_exp_node e l)
  plain_field (Keyed' line k a m b) = tree.Keyed line (plain_exp_node a k) (plain_exp_node b m)

  pub plain_stat_node : StatNode → ℕ → tree.Stat
  plain_stat_node Empty line = tree.Empty line
  plain_stat_node (Local' names s es) line = tree.Local line names.items (plain_exp_row es)
  plain_stat_node (LocalFunction' name p b) line = tree.LocalFunction line name (plain_body b)
  plain_stat_node (Assign' s ts t es) line = tree.Assign line (plain_exp_row ts) (plain_exp_row es)
  plain_stat_node (CallStat' p l e) line = tree.CallStat line (plain_exp_node e l)
  plain_stat_node (Do' p b) line = tree.Do line (plain_block b)
  plain_stat_node (While' p l e q b) line = tree.While line (plain_exp_node e l) (plain_block b)
  plain_stat_node (Repeat' q b p l e) line = tree.Repeat line (plain_block b) (plain_exp_node e l)
  plain_stat_node (If' s as' StatNode-If-1-None') line = tree.If line (plain_arm_row as')
  plain_stat_node (If' s as' (StatNode-If-1-Some' p b)) line = tree.IfElse line (plain_arm_row as') (plain_block b)
  plain_stat_node (NumFor' name p l a q k b StatNode-NumFor-3-None' r inner) line = tree.NumFor line name (plain_exp_node a l) (plain_exp_node b k) (plain_block inner)
  plain_stat_node (NumFor' name p l a q k b (StatNode-NumFor-3-Some' o m c) r inner) line = tree.NumForStep line name (plain_exp_node a l) (plain_exp_node b k) (plain_exp_node c m) (plain_block inner)
  plain_stat_node (GenFor' names s es p b) line = tree.GenFor line names.items (plain_exp_row es) (plain_block b)
  plain_stat_node (Label name) line = tree.Label line name
  plain_stat_node (Goto name) line = tree.Goto line name
  plain_stat_node Break line = tree.Break line

  pub plain_arm_row : {m : _} → Row_of-Arm m → tree.Arms
  plain_arm_row end_of-Arm = tree.EndArms
  plain_arm_row (more_of-Arm (Arm' l e b) more) = tree.MoreArms (plain_exp_node e l) (plain_block b) (plain_arm_row more)

  pub plain_block : Block → tree.Block
  plain_block (Block' s ss Block-result-None' tokens line) = tree.Falls (plain_stat_row ss) tokens line
  plain_block (Block' s ss (Block-result-Some' t es) tokens line) = tree.Returns (plain_stat_row ss) (plain_exp_row es) tokens line

  pub plain_stat_row : {m : _} → Row_of-Stat m → tree.Stats
  plain_stat_row end_of-Stat = tree.EndStats
  plain_stat_row (more_of-Stat l node ss) = tree.MoreStats (plain_stat_node node l) (plain_stat_row ss)

  pub plain_body : Body → tree.Body
  plain_body (Body' params vararg inner upvalues line) = tree.BodyOf params.items vararg (plain_block inner) upvalues.items line

abbrev pub plain_exp : Exp → tree.Exp
plain_exp e = plain_exp_node e.node e.line

abbrev pub plain_stat : Stat → tree.Stat
plain_stat s = plain_stat_node s.node s.line

abbrev pub plain_exps : List Exp → List tree.Exp
plain_exps es = map plain_exp es

abbrev pub plain_arm : Arm → tree.Exp × tree.Block
plain_arm (Arm' l e b) = (plain_exp_node e l, plain_block b)

-- a block from its statements and what stands behind `return`
abbrev pub block_of : List tree.Stat → Option (List tree.Exp) → ℕ → ℕ → tree.Block
block_of ss None tokens line = tree.Falls (tree.stats ss) tokens line
block_of ss (Some es) tokens line = tree.Returns (tree.stats ss) (tree.exps es) tokens line

-- an `if` with or without an `else`
abbrev pub if_of : ℕ → List (tree.Exp × tree.Block) → Option tree.Block → tree.Stat
if_of line as' None = tree.If line (tree.arms as')
if_of line as' (Some b) = tree.IfElse line (tree.arms as') b

-- a numeric `for` with or without a step
abbrev pub num_for_of : ℕ → Name → tree.Exp → tree.Exp → Option tree.Exp → tree.Block → tree.Stat
num_for_of line name a b None inner = tree.NumFor line name a b inner
num_for_of line name a b (Some c) inner = tree.NumForStep line name a b c inner
