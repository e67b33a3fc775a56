-- What a tree writes fits: its lines have 31 bits, its integers 64, and its strings and names at most 16,777,216 bytes. The tree's places do not matter.
use Rattle.std.specs.Prelude.{ℕ, ◌<◌, ◌^◌, List, [], ◌∷◌, IsTrue}
use Rattle.int_core.specs.Limits.{string_fits}
use Rattle.tree_core.specs.declared.name.Name.{Name}
use Rattle.tree_core.specs.declared.name.Declared.{Declared}
use Rattle.tree_core.specs.declared.name.UpName.{UpName}
use Rattle.tree_core.specs.Tree.{Block, Falls, Returns, Body, BodyOf, Stats, EndStats, MoreStats, Stat, Empty, Local, LocalFunction, Assign, CallStat, Do, While, Repeat, If, IfElse, NumFor, NumForStep, GenFor, Label, Goto, Break, Arms, EndArms, MoreArms, Exp, Nil, True, False, Int, Str, Vararg, Function, Var, Index, Call, Method, Unary, Binary, And, Or, Paren, Table, Exps, EndExps, MoreExps, Fields, EndFields, MoreFields, Item, Keyed}
use Rattle.code_core.specs.Writable.{number_fits, signed_fits}

abbrev pub LineFits : ℕ → Type 0
LineFits line = IsTrue (number_fits line)

abbrev pub TextFits : List ℕ → Type 0
TextFits text = IsTrue (string_fits text)

abbrev pub NamesFit : List Name → Type 0
NamesFit [] = Unit {0}
NamesFit (name ∷ names) = TextFits name.text × NamesFit names

-- a variable to be closed is marked on the line of its name
abbrev pub DeclaredFit : List Declared → Type 0
DeclaredFit [] = Unit {0}
DeclaredFit (d ∷ names) = TextFits d.name.text × (LineFits d.name.line × DeclaredFit names)

-- an upvalue's number has 8 bits
abbrev pub UpvaluesFit : List UpName → Type 0
UpvaluesFit [] = Unit {0}
UpvaluesFit (u ∷ ups) = TextFits u.text × ((u.index < 2 ^ 8) × UpvaluesFit ups)

abbrev mutual
  pub ExpIsWritten : Exp → Type 0
  ExpIsWritten (Nil line) = LineFits line
  ExpIsWritten (True line) = LineFits line
  ExpIsWritten (False line) = LineFits line
  ExpIsWritten (Int line z) = LineFits line × IsTrue (signed_fits 63 z)
  ExpIsWritten (Str line bytes) = LineFits line × TextFits bytes
  ExpIsWritten (Vararg line) = LineFits line
  ExpIsWritten (Function line body) = LineFits line × BodyIsWritten body
  ExpIsWritten (Var line name) = LineFits line × TextFits name.text
  ExpIsWritten (Index line object key) = LineFits line × (ExpIsWritten object × ExpIsWritten key)
  ExpIsWritten (Call line f es) = LineFits line × (ExpIsWritten f × ExpsAreWritten es)
  ExpIsWritten (Method line object name es) = LineFits line × (ExpIsWritten object × (TextFits name.text × ExpsAreWritten es))
  ExpIsWritten (Unary line op e) = LineFits line × ExpIsWritten e
  ExpIsWritten (Binary line op e d) = LineFits line × (ExpIsWritten e × ExpIsWritten d)
  ExpIsWritten (And line e d) = LineFits line × (ExpIsWritten e × ExpIsWritten d)
  ExpIsWritten (Or line e d) = LineFits line × (ExpIsWritten e × ExpIsWritten d)
  ExpIsWritten (Paren line e) = LineFits line × ExpIsWritten e
  ExpIsWritten (Table line fs) = LineFits line × FieldsAreWritten fs

  pub ExpsAreWritten : Exps → Type 0
  ExpsAreWritten EndExps = Unit {0}
  ExpsAreWritten (MoreExps e es) = ExpIsWritten e × ExpsAreWritten es

  pub FieldsAreWritten : Fields → Type 0
  FieldsAreWritten EndFields = Unit {0}
  FieldsAreWritten (MoreFields (Item e) fs) = ExpIsWritten e × FieldsAreWritten fs
  FieldsAreWritten (MoreFields (Keyed line e d) fs) = LineFits line × (ExpIsWritten e × (ExpIsWritten d × FieldsAreWritten fs))

  pub StatIsWritten : Stat → Type 0
  StatIsWritten (Empty line) = LineFits line
  StatIsWritten (Local line names es) = LineFits line × (DeclaredFit names × ExpsAreWritten es)
  StatIsWritten (LocalFunction line name body) = LineFits line × (TextFits name.text × BodyIsWritten body)
  StatIsWritten (Assign line targets es) = LineFits line × (ExpsAreWritten targets × ExpsAreWritten es)
  StatIsWritten (CallStat line e) = LineFits line × ExpIsWritten e
  StatIsWritten (Do line block) = LineFits line × BlockIsWritten block
  StatIsWritten (While line e block) = LineFits line × (ExpIsWritten e × BlockIsWritten block)
  StatIsWritten (Repeat line block e) = LineFits line × (BlockIsWritten block × ExpIsWritten e)
  StatIsWritten (If line arms) = LineFits line × ArmsAreWritten arms
  StatIsWritten (IfElse line arms block) = LineFits line × (ArmsAreWritten arms × BlockIsWritten block)
  StatIsWritten (NumFor line name from limit block) = LineFits line × (TextFits name.text × (ExpIsWritten from × (ExpIsWritten limit × BlockIsWritten block)))
  StatIsWritten (NumForStep line name from limit step block) = LineFits line × (TextFits name.text × (ExpIsWritten from × (ExpIsWritten limit × (ExpIsWritten step × BlockIsWritten block))))
  StatIsWritten (GenFor line names es block) = LineFits line × (NamesFit names × (ExpsAreWritten es × BlockIsWritten block))
  StatIsWritten (Label line name) = LineFits line
  StatIsWritten (Goto line name) = LineFits line
  StatIsWritten (Break line) = LineFits line

  pub ArmsAreWritten : Arms → Type 0
  ArmsAreWritten EndArms = Unit {0}
  ArmsAreWritten (MoreArms e block arms) = ExpIsWritten e × (BlockIsWritten block × ArmsAreWritten arms)

  pub StatsAreWritten : Stats → Type 0
  StatsAreWritten EndStats = Unit {0}
  StatsAreWritten (MoreStats s ss) = StatIsWritten s × StatsAreWritten ss

  pub BlockIsWritten : Block → Type 0
  BlockIsWritten (Falls ss tokens line) = LineFits line × StatsAreWritten ss
  BlockIsWritten (Returns ss es tokens line) = LineFits line × (StatsAreWritten ss × ExpsAreWritten es)

  pub BodyIsWritten : Body → Type 0
  BodyIsWritten (BodyOf params vararg inner ups line) = LineFits line × (NamesFit params × (UpvaluesFit ups × BlockIsWritten inner))
