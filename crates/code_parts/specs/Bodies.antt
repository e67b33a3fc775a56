-- The bodies of the functions that a piece of tree makes, in the order of the text, without those within them.
use Rattle.std.specs.Prelude.{ℕ, List, [], ◌∷◌, ◌++◌, Option}
use Rattle.tree_core.specs.Tree.{Block, Falls, Returns, Body, Stats, EndStats, MoreStats, Stat, Empty, Local, LocalFunction, Assign, CallStat, Do, While, Repeat, If, IfElse, NumFor, NumForStep, GenFor, Label, Goto, Break, Arms, EndArms, MoreArms, Exp, Nil, True, False, Int, Str, Vararg, Var, Function, Index, Call, Method, Unary, Binary, And, Or, Paren, Table, Exps, EndExps, MoreExps, Fields, EndFields, MoreFields, Field, Item, Keyed}
use Rattle.code_core.specs.Prototype.{Prototypes, more}
use Rattle.code_of.specs.CodeOf.{parts_of, from_body}

abbrev mutual
  pub exp_bodies : Exp → List Body
  exp_bodies (Nil line) = []
  exp_bodies (True line) = []
  exp_bodies (False line) = []
  exp_bodies (Int line n) = []
  exp_bodies (Str line bytes) = []
  exp_bodies (Vararg line) = []
  exp_bodies (Function line body) = body ∷ []
  exp_bodies (Var line name) = []
  exp_bodies (Index line object key) = exp_bodies object ++ exp_bodies key
  exp_bodies (Call line f es) = exp_bodies f ++ exps_bodies es
  exp_bodies (Method line object name es) = exp_bodies object ++ exps_bodies es
  exp_bodies (Unary line op e) = exp_bodies e
  exp_bodies (Binary line op e d) = exp_bodies e ++ exp_bodies d
  exp_bodies (And line e d) = exp_bodies e ++ exp_bodies d
  exp_bodies (Or line e d) = exp_bodies e ++ exp_bodies d
  exp_bodies (Paren line e) = exp_bodies e
  exp_bodies (Table line fs) = fields_bodies fs

  pub exps_bodies : Exps → List Body
  exps_bodies EndExps = []
  exps_bodies (MoreExps e es) = exp_bodies e ++ exps_bodies es

  pub fields_bodies : Fields → List Body
  fields_bodies EndFields = []
  fields_bodies (MoreFields f fs) = field_bodies f ++ fields_bodies fs

  pub field_bodies : Field → List Body
  field_bodies (Item e) = exp_bodies e
  field_bodies (Keyed line e d) = exp_bodies e ++ exp_bodies d

abbrev mutual
  pub stat_bodies : Stat → List Body
  stat_bodies (Empty line) = []
  stat_bodies (Local line names es) = exps_bodies es
  stat_bodies (LocalFunction line name body) = body ∷ []
  stat_bodies (Assign line targets es) = exps_bodies targets ++ exps_bodies es
  stat_bodies (CallStat line e) = exp_bodies e
  stat_bodies (Do line block) = block_bodies block
  stat_bodies (While line e block) = exp_bodies e ++ block_bodies block
  stat_bodies (Repeat line block e) = block_bodies block ++ exp_bodies e
  stat_bodies (If line arms) = arms_bodies arms
  stat_bodies (IfElse line arms block) = arms_bodies arms ++ block_bodies block
  stat_bodies (NumFor line name from limit block) = exp_bodies from ++ exp_bodies limit ++ block_bodies block
  stat_bodies (NumForStep line name from limit step block) = exp_bodies from ++ exp_bodies limit ++ exp_bodies step ++ block_bodies block
  stat_bodies (GenFor line names es block) = exps_bodies es ++ block_bodies block
  stat_bodies (Label line name) = []
  stat_bodies (Goto line name) = []
  stat_bodies (Break line) = []

  pub arms_bodies : Arms → List Body
  arms_bodies EndArms = []
  arms_bodies (MoreArms e block arms) = exp_bodies e ++ block_bodies block ++ arms_bodies arms

  pub stats_bodies : Stats → List Body
  stats_bodies EndStats = []
  stats_bodies (MoreStats s ss) = stat_bodies s ++ stats_bodies ss

  pub block_bodies : Block → List Body
  block_bodies (Falls ss tokens line) = stats_bodies ss
  block_bodies (Returns ss es tokens line) = stats_bodies ss ++ exps_bodies es

-- the prototypes of bodies, each with those within it, in front of others
abbrev pub compiled : (source : Option (List ℕ)) → List Body → Prototypes → Prototypes
compiled source [] rest = rest
compiled source (body ∷ bodies) rest = more (parts_of source body) (from_body source body) (compiled source bodies rest)
