-- That each function that a body makes is among the functions of its code, at its number, and that they have the body's upvalues.
use Rattle.std.specs.Prelude.{◌≡◌, ℕ, ◌+◌, List, Option, Some, length, map, slice_get}
use Rattle.tree_core.specs.Tree.{Block, Falls, Returns, Body, BodyOf, Stats, EndStats, MoreStats, Stat, Empty, Local, LocalFunction, Assign, CallStat, Do, While, Repeat, If, IfElse, NumFor, NumForStep, GenFor, Label, Goto, Break, Arms, EndArms, MoreArms, Exp, Nil, True, False, Int, Str, Vararg, Function, Var, Index, Call, Method, Unary, Binary, And, Or, Paren, Table, Exps, EndExps, MoreExps, Fields, EndFields, MoreFields, Field, Item, Keyed}
use Rattle.tree_terms.specs.Bodies.{upvalues_of}
use Rattle.code_core.specs.Prototype.{Prototype, list_of}
use Rattle.code_of.specs.CodeOf.{upvalue, code_of}
use Rattle.code_of.specs.Expressions.{made_by, made_in, made_by_field}
use Rattle.code_of.specs.Levels.{made_by_stat, made_in_arms, made_in_stats, made_in_block}

module _ (source : Option (List ℕ)) (functions : List Prototype) where
  -- the function of a number is a body's code
  abbrev pub IsMade : ℕ → Body → Type 0
  IsMade j body = slice_get functions j ≡ Some (code_of source body)

  -- those that a piece of tree makes, from number j on
  abbrev mutual
    pub ExpMakes : Exp → (j : ℕ) → Type 0
    ExpMakes (Nil line) j = Unit {0}
    ExpMakes (True line) j = Unit {0}
    ExpMakes (False line) j = Unit {0}
    ExpMakes (Int line z) j = Unit {0}
    ExpMakes (Str line bytes) j = Unit {0}
    ExpMakes (Vararg line) j = Unit {0}
    ExpMakes (Function line body) j = IsMade j body
    ExpMakes (Var line name) j = Unit {0}
    ExpMakes (Index line object key) j = ExpMakes object j × ExpMakes key (j + made_by object)
    ExpMakes (Call line f es) j = ExpMakes f j × ExpsMake es (j + made_by f)
    ExpMakes (Method line object name es) j = ExpMakes object j × ExpsMake es (j + made_by object)
    ExpMakes (Unary line op e) j = ExpMakes e j
    ExpMakes (Binary line op e d) j = ExpMakes e j × ExpMakes d (j + made_by e)
    ExpMakes (And line e d) j = ExpMakes e j × ExpMakes d (j + made_by e)
    ExpMakes (Or line e d) j = ExpMakes e j × ExpMakes d (j + made_by e)
    ExpMakes (Paren line e) j = ExpMakes e j
    ExpMakes (Table line fs) j = FieldsMake fs j

    pub ExpsMake : Exps → (j : ℕ) → Type 0
    ExpsMake EndExps j = Unit {0}
    ExpsMake (MoreExps e es) j = ExpMakes e j × ExpsMake es (j + made_by e)

    pub FieldsMake : Fields → (j : ℕ) → Type 0
    FieldsMake EndFields j = Unit {0}
    FieldsMake (MoreFields f fs) j = FieldMakes f j × FieldsMake fs (j + made_by_field f)

    pub FieldMakes : Field → (j : ℕ) → Type 0
    FieldMakes (Item e) j = ExpMakes e j
    FieldMakes (Keyed line e d) j = ExpMakes e j × ExpMakes d (j + made_by e)

  abbrev mutual
    pub StatMakes : Stat → (j : ℕ) → Type 0
    StatMakes (Empty line) j = Unit {0}
    StatMakes (Local line names es) j = ExpsMake es j
    StatMakes (LocalFunction line name body) j = IsMade j body
    StatMakes (Assign line targets es) j = ExpsMake targets j × ExpsMake es (j + made_in targets)
    StatMakes (CallStat line e) j = ExpMakes e j
    StatMakes (Do line block) j = BlockMakes block j
    StatMakes (While line e block) j = ExpMakes e j × BlockMakes block (j + made_by e)
    StatMakes (Repeat line block e) j = BlockMakes block j × ExpMakes e (j + made_in_block block)
    StatMakes (If line arms) j = ArmsMake arms j
    StatMakes (IfElse line arms block) j = ArmsMake arms j × BlockMakes block (j + made_in_arms arms)
    StatMakes (NumFor line name from limit block) j =
        ExpMakes from j × (ExpMakes limit (j + made_by from) × BlockMakes block (j + made_by from + made_by limit))
    StatMakes (NumForStep line name from limit step block) j =
        ExpMakes from j × (ExpMakes limit (j + made_by from)
        × (ExpMakes step (j + made_by from + made_by limit) × BlockMakes block (j + made_by from + made_by limit + made_by step)))
    StatMakes (GenFor line names es block) j = ExpsMake es j × BlockMakes block (j + made_in es)
    StatMakes (Label line name) j = Unit {0}
    StatMakes (Goto line name) j = Unit {0}
    StatMakes (Break line) j = Unit {0}

    pub ArmsMake : Arms → (j : ℕ) → Type 0
    ArmsMake EndArms j = Unit {0}
    ArmsMake (MoreArms e block arms) j = ExpMakes e j × (BlockMakes block (j + made_by e) × ArmsMake arms (j + made_by e + made_in_block block))

    pub StatsMake : Stats → (j : ℕ) → Type 0
    StatsMake EndStats j = Unit {0}
    StatsMake (MoreStats s ss) j = StatMakes s j × StatsMake ss (j + made_by_stat s)

    pub BlockMakes : Block → (j : ℕ) → Type 0
    BlockMakes (Falls ss tokens line) j = StatsMake ss j
    BlockMakes (Returns ss es tokens line) j = StatsMake ss j × ExpsMake es (j + made_in_stats ss)

abbrev pub inner_of : Body → Block
inner_of (BodyOf params vararg inner ups line) = inner

-- the code of a body has the functions that its block makes, from number 0 on, and no others; and it has the body's upvalues
abbrev pub FunctionsAreNumbered : Type 0
FunctionsAreNumbered =
    (source : Option (List ℕ)) (body : Body) →
    BlockMakes source (list_of (code_of source body).inner) (inner_of body) 0
    × ((length (list_of (code_of source body).inner) ≡ made_in_block (inner_of body)) × ((code_of source body).own.upvalues ≡ map upvalue (upvalues_of body)))
