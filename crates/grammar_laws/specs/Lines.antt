-- Trees in which each line, of each piece and of each name, is at most a greatest one.
use Rattle.std.specs.Prelude.{ℕ, ◌≤◌, List, [], ◌∷◌}
use Rattle.tree_core.specs.declared.name.Name.{Name}
use Rattle.tree_core.specs.declared.name.Declared.{Declared}
use Rattle.tree_core.specs.Tree.{Block, Falls, Returns, Body, BodyOf, Stats, EndStats, MoreStats, Stat, Empty, Local, LocalFunction, Assign, CallStat, Do, While, Repeat, If, IfElse, NumFor, NumForStep, GenFor, Label, Goto, Break, Arms, EndArms, MoreArms, Exp, Nil, True, False, Int, Str, Vararg, Var, Function, Index, Call, Method, Unary, Binary, And, Or, Paren, Table, Exps, EndExps, MoreExps, Fields, EndFields, MoreFields, Field, Item, Keyed}

module _ (most : ℕ) where
  abbrev pub NamesAreWithin : List Name → Type 0
  NamesAreWithin [] = Unit {0}
  NamesAreWithin (x ∷ xs) = (x.line ≤ most) × NamesAreWithin xs

  abbrev pub DeclaredIsWithin : Declared → Type 0
  DeclaredIsWithin d = (d.name.line ≤ most) × (d.attrib_line ≤ most)

  abbrev pub DeclaredAreWithin : List Declared → Type 0
  DeclaredAreWithin [] = Unit {0}
  DeclaredAreWithin (d ∷ ds) = DeclaredIsWithin d × DeclaredAreWithin ds

  abbrev mutual
    pub ExpIsWithin : Exp → Type 0
    ExpIsWithin (Nil line) = line ≤ most
    ExpIsWithin (True line) = line ≤ most
    ExpIsWithin (False line) = line ≤ most
    ExpIsWithin (Int line n) = line ≤ most
    ExpIsWithin (Str line bytes) = line ≤ most
    ExpIsWithin (Vararg line) = line ≤ most
    ExpIsWithin (Function line body) = (line ≤ most) × BodyIsWithin body
    ExpIsWithin (Var line name) = (line ≤ most) × (name.line ≤ most)
    ExpIsWithin (Index line object key) = (line ≤ most) × ExpIsWithin object × ExpIsWithin key
    ExpIsWithin (Call line f es) = (line ≤ most) × ExpIsWithin f × ExpsAreWithin es
    ExpIsWithin (Method line object name es) = (line ≤ most) × ExpIsWithin object × (name.line ≤ most) × ExpsAreWithin es
    ExpIsWithin (Unary line op e) = (line ≤ most) × ExpIsWithin e
    ExpIsWithin (Binary line op e d) = (line ≤ most) × ExpIsWithin e × ExpIsWithin d
    ExpIsWithin (And line e d) = (line ≤ most) × ExpIsWithin e × ExpIsWithin d
    ExpIsWithin (Or line e d) = (line ≤ most) × ExpIsWithin e × ExpIsWithin d
    ExpIsWithin (Paren line e) = (line ≤ most) × ExpIsWithin e
    ExpIsWithin (Table line fs) = (line ≤ most) × FieldsAreWithin fs

    pub ExpsAreWithin : Exps → Type 0
    ExpsAreWithin EndExps = Unit {0}
    ExpsAreWithin (MoreExps e es) = ExpIsWithin e × ExpsAreWithin es

    pub FieldsAreWithin : Fields → Type 0
    FieldsAreWithin EndFields = Unit {0}
    FieldsAreWithin (MoreFields f fs) = FieldIsWithin f × FieldsAreWithin fs

    pub FieldIsWithin : Field → Type 0
    FieldIsWithin (Item e) = ExpIsWithin e
    FieldIsWithin (Keyed line e d) = (line ≤ most) × ExpIsWithin e × ExpIsWithin d

    pub StatIsWithin : Stat → Type 0
    StatIsWithin (Empty line) = line ≤ most
    StatIsWithin (Local line names es) = (line ≤ most) × DeclaredAreWithin names × ExpsAreWithin es
    StatIsWithin (LocalFunction line name body) = (line ≤ most) × (name.line ≤ most) × BodyIsWithin body
    StatIsWithin (Assign line targets es) = (line ≤ most) × ExpsAreWithin targets × ExpsAreWithin es
    StatIsWithin (CallStat line e) = (line ≤ most) × ExpIsWithin e
    StatIsWithin (Do line block) = (line ≤ most) × BlockIsWithin block
    StatIsWithin (While line e block) = (line ≤ most) × ExpIsWithin e × BlockIsWithin block
    StatIsWithin (Repeat line block e) = (line ≤ most) × BlockIsWithin block × ExpIsWithin e
    StatIsWithin (If line arms) = (line ≤ most) × ArmsAreWithin arms
    StatIsWithin (IfElse line arms block) = (line ≤ most) × ArmsAreWithin arms × BlockIsWithin block
    StatIsWithin (NumFor line name from limit block) = (line ≤ most) × (name.line ≤ most) × ExpIsWithin from × ExpIsWithin limit × BlockIsWithin block
    StatIsWithin (NumForStep line name from limit step block) =
        (line ≤ most) × (name.line ≤ most) × ExpIsWithin from × ExpIsWithin limit × ExpIsWithin step × BlockIsWithin block
    StatIsWithin (GenFor line names es block) = (line ≤ most) × NamesAreWithin names × ExpsAreWithin es × BlockIsWithin block
    StatIsWithin (Label line name) = (line ≤ most) × (name.line ≤ most)
    StatIsWithin (Goto line name) = (line ≤ most) × (name.line ≤ most)
    StatIsWithin (Break line) = line ≤ most

    pub ArmsAreWithin : Arms → Type 0
    ArmsAreWithin EndArms = Unit {0}
    ArmsAreWithin (MoreArms e block arms) = ExpIsWithin e × BlockIsWithin block × ArmsAreWithin arms

    pub StatsAreWithin : Stats → Type 0
    StatsAreWithin EndStats = Unit {0}
    StatsAreWithin (MoreStats s ss) = StatIsWithin s × StatsAreWithin ss

    pub BlockIsWithin : Block → Type 0
    BlockIsWithin (Falls ss tokens line) = (line ≤ most) × StatsAreWithin ss
    BlockIsWithin (Returns ss es tokens line) = (line ≤ most) × StatsAreWithin ss × ExpsAreWithin es

    pub BodyIsWithin : Body → Type 0
    BodyIsWithin (BodyOf params vararg inner ups line) = (line ≤ most) × NamesAreWithin params × BlockIsWithin inner
