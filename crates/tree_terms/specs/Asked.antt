-- What is asked of every part of a tree: a condition on each part by itself, beside what the parts in it meet.
use Rattle.tree_core.specs.declared.name.Name.{Name}
use Rattle.tree_core.specs.Tree.{Block, Falls, Returns, Body, BodyOf, Stats, EndStats, MoreStats, Stat, Local, LocalFunction, Assign, CallStat, Do, While, Repeat, If, IfElse, NumFor, NumForStep, GenFor, Arms, EndArms, MoreArms, Exp, Function, Index, Call, Method, Unary, Binary, And, Or, Paren, Table, Exps, EndExps, MoreExps, Fields, EndFields, MoreFields, Field, Item, Keyed}

-- each takes what the parts of its part meet, and may add to it or ask something else; a name is that of a method, and a loop the block of a `for`
pub record Asked : Type 1 where
  pub exp : Exp → Type 0 → Type 0
  pub name : Name → Type 0 → Type 0
  pub stat : Stat → Type 0 → Type 0
  pub loop : Block → Type 0 → Type 0
  pub block : Block → Type 0 → Type 0
  pub body : Body → Type 0 → Type 0

abbrev pub nothing_asked : Asked
nothing_asked = record {
  exp = λ e parts. parts;
  name = λ x parts. parts;
  stat = λ s parts. parts;
  loop = λ b parts. parts;
  block = λ b parts. parts;
  body = λ b parts. parts;
}

module _ (asked : Asked) where
  abbrev mutual
    pub ExpMeets : Exp → Type 0
    ExpMeets (Function line body) = asked.exp (Function line body) (BodyMeets body)
    ExpMeets (Index line object key) = asked.exp (Index line object key) (ExpMeets object × ExpMeets key)
    ExpMeets (Call line f es) = asked.exp (Call line f es) (ExpMeets f × ExpsMeet es)
    ExpMeets (Method line object name es) = asked.exp (Method line object name es) (ExpMeets object × asked.name name (ExpsMeet es))
    ExpMeets (Unary line op e) = asked.exp (Unary line op e) (ExpMeets e)
    ExpMeets (Binary line op e d) = asked.exp (Binary line op e d) (ExpMeets e × ExpMeets d)
    ExpMeets (And line e d) = asked.exp (And line e d) (ExpMeets e × ExpMeets d)
    ExpMeets (Or line e d) = asked.exp (Or line e d) (ExpMeets e × ExpMeets d)
    ExpMeets (Paren line e) = asked.exp (Paren line e) (ExpMeets e)
    ExpMeets (Table line fs) = asked.exp (Table line fs) (FieldsMeet fs)
    ExpMeets e = asked.exp e (Unit {0})

    pub ExpsMeet : Exps → Type 0
    ExpsMeet EndExps = Unit {0}
    ExpsMeet (MoreExps e es) = ExpMeets e × ExpsMeet es

    pub FieldsMeet : Fields → Type 0
    FieldsMeet EndFields = Unit {0}
    FieldsMeet (MoreFields f fs) = FieldMeets f × FieldsMeet fs

    pub FieldMeets : Field → Type 0
    FieldMeets (Item e) = ExpMeets e
    FieldMeets (Keyed line e d) = ExpMeets e × ExpMeets d

    pub StatMeets : Stat → Type 0
    StatMeets (Local line names es) = asked.stat (Local line names es) (ExpsMeet es)
    StatMeets (LocalFunction line name body) = asked.stat (LocalFunction line name body) (BodyMeets body)
    StatMeets (Assign line targets es) = asked.stat (Assign line targets es) (ExpsMeet targets × ExpsMeet es)
    StatMeets (CallStat line e) = asked.stat (CallStat line e) (ExpMeets e)
    StatMeets (Do line block) = asked.stat (Do line block) (BlockMeets block)
    StatMeets (While line e block) = asked.stat (While line e block) (ExpMeets e × BlockMeets block)
    StatMeets (Repeat line block e) = asked.stat (Repeat line block e) (BlockMeets block × ExpMeets e)
    StatMeets (If line arms) = asked.stat (If line arms) (ArmsMeet arms)
    StatMeets (IfElse line arms block) = asked.stat (IfElse line arms block) (ArmsMeet arms × BlockMeets block)
    StatMeets (NumFor line name from limit block) =
        asked.stat (NumFor line name from limit block) (ExpMeets from × (ExpMeets limit × asked.loop block (BlockMeets block)))
    StatMeets (NumForStep line name from limit step block) =
        asked.stat (NumForStep line name from limit step block) (ExpMeets from × (ExpMeets limit × (ExpMeets step × asked.loop block (BlockMeets block))))
    StatMeets (GenFor line names es block) = asked.stat (GenFor line names es block) (ExpsMeet es × asked.loop block (BlockMeets block))
    StatMeets s = asked.stat s (Unit {0})

    pub ArmsMeet : Arms → Type 0
    ArmsMeet EndArms = Unit {0}
    ArmsMeet (MoreArms e block arms) = ExpMeets e × (BlockMeets block × ArmsMeet arms)

    pub StatsMeet : Stats → Type 0
    StatsMeet EndStats = Unit {0}
    StatsMeet (MoreStats s ss) = StatMeets s × StatsMeet ss

    pub BlockMeets : Block → Type 0
    BlockMeets (Falls ss tokens line) = asked.block (Falls ss tokens line) (StatsMeet ss)
    BlockMeets (Returns ss es tokens line) = asked.block (Returns ss es tokens line) (StatsMeet ss × ExpsMeet es)

    pub BodyMeets : Body → Type 0
    BodyMeets (BodyOf params vararg inner ups line) = asked.body (BodyOf params vararg inner ups line) (BlockMeets inner)
