-- What the names of a piece of a tree are, where t locals are in scope, some of them hidden, in a function with so many upvalues: each name is that
-- of a local in scope that is not hidden, or of an upvalue; so is the `_ENV` of a global name; and so are the variables that an inner function
-- has from the function around it.
use Rattle.std.specs.Prelude.{ℕ, ◌+◌, ◌<◌, Bool, true, false, List, [], ◌∷◌, length}
use Rattle.tree_core.specs.declared.name.Place.{Place}
use Rattle.tree_core.specs.declared.name.Place.TheVariants.{Unset, Upvalue, GlobalIn, GlobalOf, Local as LocalPlace}
use Rattle.tree_core.specs.declared.name.UpName.{UpName}
use Rattle.tree_core.specs.Tree.{Block, Falls, Returns, Body, BodyOf, Stats, EndStats, MoreStats, Stat, Local, LocalFunction, Assign, CallStat, Do, While, Repeat, If, IfElse, NumFor, NumForStep, GenFor, Arms, EndArms, MoreArms, Exps, EndExps, MoreExps, Exp, Var, Function, Index, Call, Method, Unary, Binary, And, Or, Paren, Table, Fields, EndFields, MoreFields, Field, Item, Keyed}
use Rattle.tree_terms.specs.Bodies.{upvalues_of}
use Rattle.tree_terms.specs.Levels.{level_after, levels_after, levels_in}
use Rattle.tree_terms.specs.Hidden.{IsNoneOf}

-- a local in scope that has a name
abbrev pub LocalIsThere : (hidden : List ℕ) → (t n : ℕ) → Type 0
LocalIsThere hidden t n = (n < t) × IsNoneOf n hidden

abbrev pub PlaceIsThere : (hidden : List ℕ) → (t ups : ℕ) → Place → Type 0
PlaceIsThere hidden t ups Unset = ⊥
PlaceIsThere hidden t ups (LocalPlace n) = LocalIsThere hidden t n
PlaceIsThere hidden t ups (Upvalue u) = u < ups
PlaceIsThere hidden t ups (GlobalIn n) = LocalIsThere hidden t n
PlaceIsThere hidden t ups (GlobalOf u) = u < ups

-- a variable that an inner function has from this one
abbrev pub CaptureIsThere : (hidden : List ℕ) → (t ups : ℕ) → (in_stack : Bool) → (n : ℕ) → Type 0
CaptureIsThere hidden t ups true n = LocalIsThere hidden t n
CaptureIsThere hidden t ups false n = n < ups

abbrev pub CapturesAreThere : (hidden : List ℕ) → (t ups : ℕ) → List UpName → Type 0
CapturesAreThere hidden t ups [] = Unit {0}
CapturesAreThere hidden t ups (u ∷ us) = CaptureIsThere hidden t ups u.in_stack u.index × CapturesAreThere hidden t ups us

-- the hidden locals of a `for` that begins where t locals are in scope
abbrev pub three_hidden : ℕ → List ℕ → List ℕ
three_hidden t hidden = t ∷ (t + 1) ∷ (t + 2) ∷ hidden

abbrev pub four_hidden : ℕ → List ℕ → List ℕ
four_hidden t hidden = t ∷ (t + 1) ∷ (t + 2) ∷ (t + 3) ∷ hidden

abbrev mutual
  pub ExpFinds : Exp → (hidden : List ℕ) → (t ups : ℕ) → Type 0
  ExpFinds (Var line name) hidden t ups = PlaceIsThere hidden t ups name.place
  ExpFinds (Function line body) hidden t ups = BodyFinds body × CapturesAreThere hidden t ups (upvalues_of body)
  ExpFinds (Index line object key) hidden t ups = ExpFinds object hidden t ups × ExpFinds key hidden t ups
  ExpFinds (Call line f es) hidden t ups = ExpFinds f hidden t ups × ExpsFind es hidden t ups
  ExpFinds (Method line object name es) hidden t ups = ExpFinds object hidden t ups × ExpsFind es hidden t ups
  ExpFinds (Unary line op e) hidden t ups = ExpFinds e hidden t ups
  ExpFinds (Binary line op e d) hidden t ups = ExpFinds e hidden t ups × ExpFinds d hidden t ups
  ExpFinds (And line e d) hidden t ups = ExpFinds e hidden t ups × ExpFinds d hidden t ups
  ExpFinds (Or line e d) hidden t ups = ExpFinds e hidden t ups × ExpFinds d hidden t ups
  ExpFinds (Paren line e) hidden t ups = ExpFinds e hidden t ups
  ExpFinds (Table line fs) hidden t ups = FieldsFind fs hidden t ups
  ExpFinds _ hidden t ups = Unit {0}

  pub ExpsFind : Exps → (hidden : List ℕ) → (t ups : ℕ) → Type 0
  ExpsFind EndExps hidden t ups = Unit {0}
  ExpsFind (MoreExps e es) hidden t ups = ExpFinds e hidden t ups × ExpsFind es hidden t ups

  pub FieldsFind : Fields → (hidden : List ℕ) → (t ups : ℕ) → Type 0
  FieldsFind EndFields hidden t ups = Unit {0}
  FieldsFind (MoreFields f fs) hidden t ups = FieldFinds f hidden t ups × FieldsFind fs hidden t ups

  pub FieldFinds : Field → (hidden : List ℕ) → (t ups : ℕ) → Type 0
  FieldFinds (Item e) hidden t ups = ExpFinds e hidden t ups
  FieldFinds (Keyed line e d) hidden t ups = ExpFinds e hidden t ups × ExpFinds d hidden t ups

  pub BodyFinds : Body → Type 0
  BodyFinds (BodyOf params vararg inner ups line) = BlockFinds inner [] (length params) (length ups)

  pub BlockFinds : Block → (hidden : List ℕ) → (t ups : ℕ) → Type 0
  BlockFinds (Falls ss tokens line) hidden t ups = StatsFind ss hidden t ups
  BlockFinds (Returns ss es tokens line) hidden t ups = StatsFind ss hidden t ups × ExpsFind es hidden (levels_after ss t) ups

  pub StatsFind : Stats → (hidden : List ℕ) → (t ups : ℕ) → Type 0
  StatsFind EndStats hidden t ups = Unit {0}
  StatsFind (MoreStats s ss) hidden t ups = StatFinds s hidden t ups × StatsFind ss hidden (level_after s t) ups

  pub StatFinds : Stat → (hidden : List ℕ) → (t ups : ℕ) → Type 0
  StatFinds (Local line names es) hidden t ups = ExpsFind es hidden t ups
  StatFinds (LocalFunction line name body) hidden t ups = BodyFinds body × CapturesAreThere hidden (t + 1) ups (upvalues_of body)
  StatFinds (Assign line targets es) hidden t ups = ExpsFind targets hidden t ups × ExpsFind es hidden t ups
  StatFinds (CallStat line e) hidden t ups = ExpFinds e hidden t ups
  StatFinds (Do line block) hidden t ups = BlockFinds block hidden t ups
  StatFinds (While line e block) hidden t ups = ExpFinds e hidden t ups × BlockFinds block hidden t ups
  StatFinds (Repeat line block e) hidden t ups = BlockFinds block hidden t ups × ExpFinds e hidden (levels_in block t) ups
  StatFinds (If line arms) hidden t ups = ArmsFind arms hidden t ups
  StatFinds (IfElse line arms block) hidden t ups = ArmsFind arms hidden t ups × BlockFinds block hidden t ups
  StatFinds (NumFor line name from limit block) hidden t ups =
      ExpFinds from hidden t ups × (ExpFinds limit hidden t ups × BlockFinds block (three_hidden t hidden) (t + 4) ups)
  StatFinds (NumForStep line name from limit step block) hidden t ups =
      ExpFinds from hidden t ups
      × (ExpFinds limit hidden t ups × (ExpFinds step hidden t ups × BlockFinds block (three_hidden t hidden) (t + 4) ups))
  StatFinds (GenFor line names es block) hidden t ups =
      ExpsFind es hidden t ups × BlockFinds block (four_hidden t hidden) (t + 4 + length names) ups
  StatFinds _ hidden t ups = Unit {0}

  pub ArmsFind : Arms → (hidden : List ℕ) → (t ups : ℕ) → Type 0
  ArmsFind EndArms hidden t ups = Unit {0}
  ArmsFind (MoreArms e block arms) hidden t ups =
      ExpFinds e hidden t ups × (BlockFinds block hidden t ups × ArmsFind arms hidden t ups)
