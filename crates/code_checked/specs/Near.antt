-- What the static rules and the limits on sources have to give of a function's body, so that its code keeps the rules on code: registers have 8 bits,
-- upvalues are those of the function, what is captured is in scope, `...` stands where the function has it, and blocks of `for` are short enough.
-- Here `size` locals are in scope and an expression's value goes to register t, where j functions of the function are made before it.
use Rattle.std.specs.Prelude.{◌≡◌, ℕ, ◌+◌, ◌*◌, ◌%◌, ◌<◌, ◌≤◌, ◌^◌, Bool, true, false, cond, List, [], ◌∷◌, length, Option, IsTrue}
use Rattle.tree_core.specs.declared.name.Place.{Place}
use Rattle.tree_core.specs.declared.name.Place.TheVariants.{Unset, Upvalue, GlobalIn, GlobalOf, Local as LocalPlace}
use Rattle.tree_core.specs.declared.name.UpName.{UpName}
use Rattle.tree_core.specs.Tree.{Block, Falls, Returns, Body, BodyOf, Stats, EndStats, MoreStats, Stat, Local, LocalFunction, Assign, CallStat, Do, While, Repeat, If, IfElse, NumFor, NumForStep, GenFor, Arms, EndArms, MoreArms, Exp, Vararg, Function, Var, Index, Call, Method, Unary, Binary, And, Or, Paren, Table, Exps, EndExps, MoreExps, Fields, EndFields, MoreFields, Item, Keyed}
use Rattle.tree_terms.specs.Bodies.{upvalues_of}
use Rattle.code_core.specs.Prototype.{Prototype, list_of, count as count_of}
use Rattle.code_core.specs.Writable.{name_fits, depth, greatest_depth}
use Rattle.code_checked.specs.Written.{BodyIsWritten}
use Rattle.code_of.specs.declared.leaving.Leaving.{Leaving}
use Rattle.code_of.specs.CodeOf.{back_field, from_body, code_of}
use Rattle.code_of.specs.Expressions.{made_by, made_in, count}
use Rattle.code_of.specs.Levels.{made_by_stat, made_in_arms, made_in_block, closing_after}
use Rattle.tree_terms.specs.Levels.{level_after, levels_after, levels_in}
use Rattle.code_of.specs.Sizes.{block_size}

-- a register and the two above it have 8 bits
abbrev pub IsRegister : ℕ → Type 0
IsRegister t = t + 2 < 2 ^ 8

-- a name's register has 8 bits, or its upvalue is one of the function's
abbrev pub NameIsNear : (upvalues : ℕ) → Place → Type 0
NameIsNear upvalues Unset = Unit {0}
NameIsNear upvalues (LocalPlace n) = n < 2 ^ 8
NameIsNear upvalues (Upvalue u) = u < upvalues
NameIsNear upvalues (GlobalIn n) = n < 2 ^ 8
NameIsNear upvalues (GlobalOf u) = u < upvalues

-- what a function captures is in scope, or an upvalue of the function around it
abbrev pub AreCaptured : List UpName → (size upvalues : ℕ) → Type 0
AreCaptured [] size upvalues = Unit {0}
AreCaptured (u ∷ us) size upvalues = (u.index < cond u.in_stack size upvalues) × AreCaptured us size upvalues

-- the block of a `for` is short enough for the loop's instructions to name its length
abbrev pub IsShort : Prototype → Block → (closing : Bool) → (outer t j : ℕ) → Type 0
IsShort p block closing outer t j = (closes : Bool) → block_size p.own.constants (record { back = back_field p.own.vararg p.own.params; closes = closes }) block closing outer t j + 2 < 2 ^ 17

-- a function's parts have no more entries than the instructions can name, and a chunk can hold them
pub record FunctionIsNear (p : Prototype) : Type 0 where
  pub params : IsRegister p.own.params
  pub room : p.own.stack < 2 ^ 8
  pub upvalues : length p.own.upvalues ≤ 255
  pub code : length p.own.code ≤ 2 ^ 24
  pub constants : length p.own.constants ≤ 2 ^ 25
  pub functions : length (list_of p.inner) ≤ 2 ^ 17
  pub locals : length p.own.locals < 2 ^ 31

module _ (source : Option (List ℕ)) where
  abbrev mutual
    pub ExpIsNear : Prototype → Exp → (size t : ℕ) → Type 0
    ExpIsNear p (Vararg line) size t = IsRegister t × (p.own.vararg ≡ true)
    ExpIsNear p (Function line body) size t = IsRegister t × (AreCaptured (upvalues_of body) size (length p.own.upvalues) × AreNear body)
    ExpIsNear p (Var line name) size t = IsRegister t × NameIsNear (length p.own.upvalues) name.place
    ExpIsNear p (Index line object key) size t = IsRegister t × (ExpIsNear p object size t × ExpIsNear p key size (t + 1))
    ExpIsNear p (Call line f es) size t = IsRegister (t + count es) × (ExpIsNear p f size t × ExpsAreNear p es size (t + 1))
    ExpIsNear p (Method line object name es) size t = IsRegister (t + 1 + count es) × (ExpIsNear p object size t × ExpsAreNear p es size (t + 2))
    ExpIsNear p (Unary line op e) size t = IsRegister t × ExpIsNear p e size t
    ExpIsNear p (Binary line op e d) size t = IsRegister t × (ExpIsNear p e size t × ExpIsNear p d size (t + 1))
    ExpIsNear p (And line e d) size t = IsRegister t × (ExpIsNear p e size t × ExpIsNear p d size t)
    ExpIsNear p (Or line e d) size t = IsRegister t × (ExpIsNear p e size t × ExpIsNear p d size t)
    ExpIsNear p (Paren line e) size t = IsRegister t × ExpIsNear p e size t
    ExpIsNear p (Table line fs) size t = IsRegister t × FieldsAreNear p fs 0 size t
    ExpIsNear p _ size t = IsRegister t × Unit {0}

    -- the registers from t on get the values
    pub ExpsAreNear : Prototype → Exps → (size t : ℕ) → Type 0
    ExpsAreNear p EndExps size t = Unit {0}
    ExpsAreNear p (MoreExps e es) size t = ExpIsNear p e size t × ExpsAreNear p es size (t + 1)

    -- the table is in register t, and up to 49 of the items in front may wait in those behind it
    pub FieldsAreNear : Prototype → Fields → (items size t : ℕ) → Type 0
    FieldsAreNear p EndFields items size t = Unit {0}
    FieldsAreNear p (MoreFields (Item e) fs) items size t = ExpIsNear p e size (t + 1 + items % 50) × FieldsAreNear p fs (items + 1) size t
    FieldsAreNear p (MoreFields (Keyed line e d) fs) items size t = ExpIsNear p e size (t + 1) × (ExpIsNear p d size (t + 2) × FieldsAreNear p fs items size t)

    -- a name or an index; its table and key go to two registers from r on
    pub TargetIsNear : Prototype → Exp → (size r : ℕ) → Type 0
    TargetIsNear p (Var line name) size r = NameIsNear (length p.own.upvalues) name.place
    TargetIsNear p (Index line object key) size r = ExpIsNear p object size r × ExpIsNear p key size (r + 1)
    TargetIsNear p _ size r = ⊥

    pub TargetsAreNear : Prototype → Exps → (size r : ℕ) → Type 0
    TargetsAreNear p EndExps size r = Unit {0}
    TargetsAreNear p (MoreExps e targets) size r = TargetIsNear p e size r × TargetsAreNear p targets size (r + 2)

    pub StatIsNear : Prototype → Stat → (closing : Bool) → (t j : ℕ) → Type 0
    StatIsNear p (Local line names es) closing t j = IsRegister (t + length names) × ExpsAreNear p es t t
    StatIsNear p (LocalFunction line name body) closing t j = IsRegister (t + 1) × (AreCaptured (upvalues_of body) (t + 1) (length p.own.upvalues) × AreNear body)
    StatIsNear p (Assign line targets es) closing t j =
        IsRegister (t + 2 * count targets + count targets) × (TargetsAreNear p targets t t × ExpsAreNear p es t (t + 2 * count targets))
    StatIsNear p (CallStat line e) closing t j = ExpIsNear p e t t
    StatIsNear p (Do line block) closing t j = BlockIsNear p block closing t j
    StatIsNear p (While line e block) closing t j = ExpIsNear p e t t × BlockIsNear p block closing t (j + made_by e)
    StatIsNear p (Repeat line block e) closing t j =
        BlockIsNear p block closing t j × ExpIsNear p e (levels_in block t) (levels_in block t)
    StatIsNear p (If line arms) closing t j = ArmsAreNear p arms closing t j
    StatIsNear p (IfElse line arms block) closing t j = ArmsAreNear p arms closing t j × BlockIsNear p block closing t (j + made_in_arms arms)
    StatIsNear p (NumFor line name from limit block) closing t j =
        IsRegister (t + 4) × (ExpIsNear p from t t × (ExpIsNear p limit t (t + 1)
        × (IsShort p block closing (t + 3) (t + 4) (j + made_by from + made_by limit) × BlockIsNear p block closing (t + 4) (j + made_by from + made_by limit))))
    StatIsNear p (NumForStep line name from limit step block) closing t j =
        IsRegister (t + 4) × (ExpIsNear p from t t × (ExpIsNear p limit t (t + 1) × (ExpIsNear p step t (t + 2)
        × (IsShort p block closing (t + 3) (t + 4) (j + made_by from + made_by limit + made_by step)
        × BlockIsNear p block closing (t + 4) (j + made_by from + made_by limit + made_by step)))))
    StatIsNear p (GenFor line names es block) closing t j =
        IsRegister (t + 4 + length names) × (ExpsAreNear p es t t
        × (IsShort p block true (t + 4) (t + 4 + length names) (j + made_in es) × BlockIsNear p block true (t + 4 + length names) (j + made_in es)))
    StatIsNear p _ closing t j = Unit {0}

    pub ArmsAreNear : Prototype → Arms → (closing : Bool) → (t j : ℕ) → Type 0
    ArmsAreNear p EndArms closing t j = Unit {0}
    ArmsAreNear p (MoreArms e block arms) closing t j =
        ExpIsNear p e t t × (BlockIsNear p block closing t (j + made_by e) × ArmsAreNear p arms closing t (j + made_by e + made_in_block block))

    pub StatsAreNear : Prototype → Stats → (closing : Bool) → (t j : ℕ) → Type 0
    StatsAreNear p EndStats closing t j = Unit {0}
    StatsAreNear p (MoreStats s ss) closing t j =
        StatIsNear p s closing t j × StatsAreNear p ss (closing_after s closing) (level_after s t) (j + made_by_stat s)

    pub BlockIsNear : Prototype → Block → (closing : Bool) → (t j : ℕ) → Type 0
    BlockIsNear p (Falls ss tokens line) closing t j = StatsAreNear p ss closing t j
    BlockIsNear p (Returns ss es tokens line) closing t j = StatsAreNear p ss closing t j × (IsRegister (levels_after ss t + count es) × ExpsAreNear p es (levels_after ss t) (levels_after ss t))

    -- a function and all that are defined in it
    pub AreNear : Body → Type 0
    AreNear (BodyOf params vararg inner ups line) =
        FunctionIsNear (code_of source (BodyOf params vararg inner ups line)) × BlockIsNear (code_of source (BodyOf params vararg inner ups line)) inner false (length params) 0

  -- what `return` gives
  abbrev pub ResultIsNear : Prototype → Exps → (t : ℕ) → Type 0
  ResultIsNear p es t = IsRegister (t + count es) × ExpsAreNear p es t t

-- a function's body, from a source of a name or of none
pub record BodyIsNear (source : Option (List ℕ)) (body : Body) : Type 0 where
  pub name : IsTrue (name_fits source)
  pub near : AreNear source body
  pub written : BodyIsWritten body
  pub depth : depth (from_body source body) < greatest_depth
  pub functions : 1 + count_of (from_body source body) < 2 ^ 31
