-- The trees of the language (Lua 5.4 manual, 3.3 and 3.4) as plain data: blocks, statements and expressions, each with its line, and the
-- sequences of them. The types of src/ are the same trees kept in memory, with boxes and vectors; `Plain` gives the plain tree of each.
-- A value of src/ also holds where its parts lie, so it isn't determined by the source; a plain tree is. Definitions and clauses speak of plain trees.
use Rattle.std.specs.Prelude.{ℕ, ℤ, Bool, List, [], ◌∷◌}
use Rattle.tree_core.specs.declared.name.Name.{Name}
use Rattle.tree_core.specs.declared.name.UpName.{UpName}
use Rattle.tree_core.specs.declared.name.Declared.{Declared}
use Rattle.tree_core.specs.declared.operator.UnOp.{UnOp}
use Rattle.tree_core.specs.declared.operator.BinOp.{BinOp}

mutual
  pub data Block : Type 0 where
    Falls : (stats : Stats) → (tokens line : ℕ) → Block
    Returns : (stats : Stats) → (values : Exps) → (tokens line : ℕ) → Block

  pub data Body : Type 0 where
    BodyOf : (params : List Name) → (vararg : Bool) → (inner : Block) → (upvalues : List UpName) → (line : ℕ) → Body

  pub data Stats : Type 0 where
    EndStats : Stats
    MoreStats : Stat → Stats → Stats

  pub data Stat : Type 0 where
    Empty : (line : ℕ) → Stat
    Local : (line : ℕ) → (names : List Declared) → (values : Exps) → Stat
    LocalFunction : (line : ℕ) → Name → Body → Stat
    Assign : (line : ℕ) → (targets values : Exps) → Stat
    CallStat : (line : ℕ) → Exp → Stat
    Do : (line : ℕ) → Block → Stat
    While : (line : ℕ) → (test : Exp) → Block → Stat
    Repeat : (line : ℕ) → Block → (test : Exp) → Stat
    If : (line : ℕ) → Arms → Stat
    IfElse : (line : ℕ) → Arms → Block → Stat
    NumFor : (line : ℕ) → Name → (first limit : Exp) → Block → Stat
    NumForStep : (line : ℕ) → Name → (first limit step : Exp) → Block → Stat
    GenFor : (line : ℕ) → (names : List Name) → (values : Exps) → Block → Stat
    Label : (line : ℕ) → Name → Stat
    Goto : (line : ℕ) → Name → Stat
    Break : (line : ℕ) → Stat

  -- the tests of an `if` with their blocks
  pub data Arms : Type 0 where
    EndArms : Arms
    MoreArms : (test : Exp) → Block → Arms → Arms

  pub data Exps : Type 0 where
    EndExps : Exps
    MoreExps : Exp → Exps → Exps

  pub data Exp : Type 0 where
    Nil : (line : ℕ) → Exp
    True : (line : ℕ) → Exp
    False : (line : ℕ) → Exp
    Int : (line : ℕ) → ℤ → Exp
    Str : (line : ℕ) → (bytes : List ℕ) → Exp
    Vararg : (line : ℕ) → Exp
    Function : (line : ℕ) → Body → Exp
    Var : (line : ℕ) → Name → Exp
    Index : (line : ℕ) → (indexed key : Exp) → Exp
    Call : (line : ℕ) → (called : Exp) → Exps → Exp
    Method : (line : ℕ) → (object : Exp) → Name → Exps → Exp
    Unary : (line : ℕ) → UnOp → Exp → Exp
    Binary : (line : ℕ) → BinOp → (left right : Exp) → Exp
    And : (line : ℕ) → (left right : Exp) → Exp
    Or : (line : ℕ) → (left right : Exp) → Exp
    Paren : (line : ℕ) → Exp → Exp
    Table : (line : ℕ) → Fields → Exp

  pub data Fields : Type 0 where
    EndFields : Fields
    MoreFields : Field → Fields → Fields

  pub data Field : Type 0 where
    Item : Exp → Field
    Keyed : (line : ℕ) → (key value : Exp) → Field

-- sequences from lists

abbrev pub exps : List Exp → Exps
exps [] = EndExps
exps (e ∷ es) = MoreExps e (exps es)

abbrev pub fields : List Field → Fields
fields [] = EndFields
fields (f ∷ fs) = MoreFields f (fields fs)

abbrev pub stats : List Stat → Stats
stats [] = EndStats
stats (s ∷ ss) = MoreStats s (stats ss)

abbrev pub arms : List (Exp × Block) → Arms
arms [] = EndArms
arms (a ∷ as') = MoreArms a.0 a.1 (arms as')
