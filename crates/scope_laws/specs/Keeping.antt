-- What the static rules give of a piece of a tree where t locals are in scope: no more than 200 locals are in scope and no more than 250 values
-- held at once, no function has more than 255 upvalues, a loop with a counter or an iterator is short, `...` stands where the function takes it,
-- each `break` in a loop, and a `goto` has a label in sight.
use Rattle.std.specs.Prelude.{◌≡◌, ℕ, ◌+◌, ◌≤◌, Bool, true, false, List, [], ◌++◌, length}
use Rattle.tree_core.specs.Tree.{Block, Falls, Returns, Body, BodyOf, Stats, EndStats, MoreStats, Stat, Local, LocalFunction, Assign, CallStat, Do, While, Repeat, If, IfElse, NumFor, NumForStep, GenFor, Goto, Break, Arms, EndArms, MoreArms, Exps, EndExps, MoreExps, Exp, Vararg, Function, Index, Call, Method, Unary, Binary, And, Or, Paren, Table, Fields, EndFields, MoreFields, Field, Item, Keyed}
use Rattle.scope_core.specs.Held.{held, held_behind, held_stat}
use Rattle.scope_core.specs.Rules.{tokens_of}
use Rattle.tree_terms.specs.Levels.{level_after, levels_after, levels_in}
use Rattle.tree_terms.specs.Labels.{Named, legal, names_ahead, names_passed}

abbrev mutual
  pub ExpKeeps : Exp → (vararg : Bool) → Type 0
  ExpKeeps (Vararg line) vararg = vararg ≡ true
  ExpKeeps (Function line body) vararg = BodyKeeps body
  ExpKeeps (Index line object key) vararg = ExpKeeps object vararg × ExpKeeps key vararg
  ExpKeeps (Call line f es) vararg = ExpKeeps f vararg × ExpsKeep es vararg
  ExpKeeps (Method line object name es) vararg = ExpKeeps object vararg × ExpsKeep es vararg
  ExpKeeps (Unary line op e) vararg = ExpKeeps e vararg
  ExpKeeps (Binary line op e d) vararg = ExpKeeps e vararg × ExpKeeps d vararg
  ExpKeeps (And line e d) vararg = ExpKeeps e vararg × ExpKeeps d vararg
  ExpKeeps (Or line e d) vararg = ExpKeeps e vararg × ExpKeeps d vararg
  ExpKeeps (Paren line e) vararg = ExpKeeps e vararg
  ExpKeeps (Table line fs) vararg = FieldsKeep fs vararg
  ExpKeeps _ vararg = Unit {0}

  pub ExpsKeep : Exps → (vararg : Bool) → Type 0
  ExpsKeep EndExps vararg = Unit {0}
  ExpsKeep (MoreExps e es) vararg = ExpKeeps e vararg × ExpsKeep es vararg

  pub FieldsKeep : Fields → (vararg : Bool) → Type 0
  FieldsKeep EndFields vararg = Unit {0}
  FieldsKeep (MoreFields f fs) vararg = FieldKeeps f vararg × FieldsKeep fs vararg

  pub FieldKeeps : Field → (vararg : Bool) → Type 0
  FieldKeeps (Item e) vararg = ExpKeeps e vararg
  FieldKeeps (Keyed line e d) vararg = ExpKeeps e vararg × ExpKeeps d vararg

  pub BodyKeeps : Body → Type 0
  BodyKeeps (BodyOf params vararg inner ups line) =
      (length ups ≤ 255) × ((length params ≤ 200) × BlockKeeps inner true vararg (length params) [] false)

  -- a block whose labels at its end stand outside the scope of its locals, or not, as before `until`
  pub BlockKeeps : Block → (falls vararg : Bool) → (t : ℕ) → List Named → (loops : Bool) → Type 0
  BlockKeeps (Falls ss tokens line) falls vararg t named loops = StatsKeep ss falls vararg t [] named loops
  BlockKeeps (Returns ss es tokens line) falls vararg t named loops =
      StatsKeep ss false vararg t [] named loops × ((levels_after ss t + held_behind 0 es ≤ 250) × ExpsKeep es vararg)

  pub StatsKeep : Stats → (falls vararg : Bool) → (t : ℕ) → (names named : List Named) → (loops : Bool) → Type 0
  StatsKeep EndStats falls vararg t names named loops = Unit {0}
  StatsKeep (MoreStats s ss) falls vararg t names named loops =
      (t + held_stat s ≤ 250) × (StatKeeps s vararg t (names_ahead ss falls t (level_after s t) ++ (names ++ named)) loops
      × StatsKeep ss falls vararg (level_after s t) (names_passed s names) named loops)

  pub StatKeeps : Stat → (vararg : Bool) → (t : ℕ) → List Named → (loops : Bool) → Type 0
  StatKeeps (Local line names es) vararg t named loops = ExpsKeep es vararg × (t + length names ≤ 200)
  StatKeeps (LocalFunction line name body) vararg t named loops = BodyKeeps body × (t + 1 ≤ 200)
  StatKeeps (Assign line targets es) vararg t named loops = ExpsKeep targets vararg × ExpsKeep es vararg
  StatKeeps (CallStat line e) vararg t named loops = ExpKeeps e vararg
  StatKeeps (Do line block) vararg t named loops = BlockKeeps block true vararg t named loops
  StatKeeps (While line e block) vararg t named loops = ExpKeeps e vararg × BlockKeeps block true vararg t named true
  StatKeeps (Repeat line block e) vararg t named loops =
      BlockKeeps block false vararg t named true × ((levels_in block t + held e ≤ 250) × ExpKeeps e vararg)
  StatKeeps (If line arms) vararg t named loops = ArmsKeep arms vararg t named loops
  StatKeeps (IfElse line arms block) vararg t named loops = ArmsKeep arms vararg t named loops × BlockKeeps block true vararg t named loops
  StatKeeps (NumFor line name from limit block) vararg t named loops =
      ExpKeeps from vararg × (ExpKeeps limit vararg × ((t + 4 ≤ 200) × ((tokens_of block ≤ 16000) × BlockKeeps block true vararg (t + 4) named true)))
  StatKeeps (NumForStep line name from limit step block) vararg t named loops =
      ExpKeeps from vararg × (ExpKeeps limit vararg × (ExpKeeps step vararg × ((t + 4 ≤ 200) × ((tokens_of block ≤ 16000) × BlockKeeps block true vararg (t + 4) named true))))
  StatKeeps (GenFor line names es block) vararg t named loops =
      ExpsKeep es vararg × ((t + 4 + length names ≤ 200) × ((tokens_of block ≤ 16000) × BlockKeeps block true vararg (t + 4 + length names) named true))
  StatKeeps (Goto line name) vararg t named loops = legal name.text named ≡ true
  StatKeeps (Break line) vararg t named loops = loops ≡ true
  StatKeeps _ vararg t named loops = Unit {0}

  pub ArmsKeep : Arms → (vararg : Bool) → (t : ℕ) → List Named → (loops : Bool) → Type 0
  ArmsKeep EndArms vararg t named loops = Unit {0}
  ArmsKeep (MoreArms e block arms) vararg t named loops =
      ExpKeeps e vararg × (BlockKeeps block true vararg t named loops × ArmsKeep arms vararg t named loops)
