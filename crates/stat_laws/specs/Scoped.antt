-- What is assumed of a statement where t locals are in scope and j functions of its function are made before it: names and labels are in scope, and
-- there are registers enough.
use Rattle.std.specs.Prelude.{◌≡◌, ℕ, ◌+◌, ◌*◌, ◌<◌, ◌≤◌, ◌^◌, Bool, true, false, List, [], ◌++◌, length, Option, Some, None}
use Rattle.tree_core.specs.declared.name.Place.{Place}
use Rattle.tree_core.specs.declared.name.Place.TheVariants.{Local as LocalPlace}
use Rattle.tree_core.specs.Tree.{Block, Falls, Returns, Stats, EndStats, MoreStats, Stat, Empty, Local, LocalFunction, Assign, CallStat, Do, While, Repeat, If, IfElse, NumFor, NumForStep, GenFor, Label, Goto, Break, Arms, EndArms, MoreArms, Exp, Var, Index, Call, Method, Exps, EndExps, MoreExps}
use Rattle.tree_terms.specs.Bodies.{upvalues_of}
use Rattle.tree_terms.specs.Labels.{Named, legal, names_ahead, names_passed}
use Rattle.code_core.specs.declared.proto.Const.{Const}
use Rattle.code_core.specs.declared.proto.Const.TheVariants.{Str as StrConst}
use Rattle.code_of.specs.Expressions.{made_by, made_in, count, is_open}
use Rattle.code_of.specs.Levels.{made_by_stat, made_in_arms, made_in_stats, made_in_block, closing_after, closings_after}
use Rattle.tree_terms.specs.Levels.{level_after, levels_after, levels_in}
use Rattle.code_of.specs.declared.leaving.Leaving.{Leaving}
use Rattle.code_of.specs.Sizes.{block_size}
use Rattle.exp_laws.specs.Setting.{Hidden, Setting, hiding}
use Rattle.code_of.specs.Constants.{Found}
use Rattle.exp_laws.specs.Placed.{Inner, Captures, IsPlaced, ArePlaced}
use Rattle.tree_terms.specs.Hidden.{IsNoneOf}
use Rattle.code_of.specs.Coded.{Coded}
use Rattle.code_of.specs.Operands.{assigned, second_assigned}
use Rattle.code_of.specs.Stores.{stores_field}
use Rattle.code_of.specs.Targets.{single_store}
use Rattle.code_of.specs.Rooms.{room_of, room_of_target, room_of_assigned, room_of_first, room_of_last, room_of_test, room_of_list, room_of_self, room_of_two}

-- what can be assigned: a name, though no hidden local has one, or an index
abbrev pub MayAssign : (hidden : Hidden) → Place → Type 0
MayAssign hidden (LocalPlace n) = IsNoneOf n hidden.integers
MayAssign hidden _ = Unit {0}

abbrev pub IsTarget : (hidden : Hidden) → Exp → Type 0
IsTarget hidden (Var line name) = MayAssign hidden name.place
IsTarget hidden (Index line object key) = Unit {0}
IsTarget hidden _ = ⊥

-- the block of a loop is short enough for the loop's instructions to name its length
abbrev pub IsNear : List Const → Block → (closing : Bool) → (outer t j : ℕ) → Type 0
IsNear constants block closing outer t j = (back : Leaving) → block_size constants back block closing outer t j + 2 < 2 ^ 17

module _ (S : Setting) where
  -- targets whose tables and keys go to the registers from r on, two for each
  abbrev pub TargetsArePlaced : Exps → (r t j : ℕ) → Type 0
  TargetsArePlaced EndExps r t j = Unit {0}
  TargetsArePlaced (MoreExps e targets) r t j =
      IsTarget S.hidden e × (IsPlaced S e t j × ((r + room_of_target S.code.own.constants e ≤ S.code.own.stack) × TargetsArePlaced targets (r + 2) t (j + made_by e)))

  -- a list of values behind the tables and keys of their targets, or a local that goes to a name by one instruction
  abbrev pub KeptIsPlaced : (store : Option Coded) → (targets es : Exps) → (t j : ℕ) → Type 0
  KeptIsPlaced None targets es t j =
      TargetsArePlaced targets t t j × (ArePlaced S es t (j + made_in targets)
      × ((t + 2 * count targets + room_of_list S.code.own.constants 0 es (Some (count targets)) ≤ S.code.own.stack) × ((t + 2 * count targets + count targets ≤ S.code.own.stack) × (count targets + 1 < 2 ^ 8))))
  KeptIsPlaced (Some x) targets es t j = ArePlaced S targets t j × ArePlaced S es t (j + made_in targets)

  -- one value that goes to a field, or other stores
  abbrev pub StoreIsPlaced : (field : Bool) → (targets es : Exps) → (t j : ℕ) → Type 0
  StoreIsPlaced true targets es t j =
      ArePlaced S targets t j × (ArePlaced S es t (j + made_in targets) × (t + room_of_first S.code.own.constants targets es ≤ S.code.own.stack))
  StoreIsPlaced false targets es t j = KeptIsPlaced (single_store S.code.own.constants targets es) targets es t j

  -- two values, of which the second one goes straight to the register of a local, or other stores
  abbrev pub TwoIsPlaced : Option ℕ → (targets es : Exps) → (t j : ℕ) → Type 0
  TwoIsPlaced None targets es t j = StoreIsPlaced (stores_field targets es) targets es t j
  TwoIsPlaced (Some r) targets es t j =
      TargetsArePlaced targets t t j × ((r < t) × (IsNoneOf r S.hidden.integers × (ArePlaced S es t (j + made_in targets) × (t + room_of_two S.code.own.constants targets es ≤ S.code.own.stack))))

  -- a local that gets a value straight into its register is in scope, and not a hidden one
  abbrev pub AssignIsPlaced : Option ℕ → (targets es : Exps) → (t j : ℕ) → Type 0
  AssignIsPlaced None targets es t j = TwoIsPlaced (second_assigned targets es) targets es t j
  AssignIsPlaced (Some r) targets es t j =
      (r < t) × (IsNoneOf r S.hidden.integers × (ArePlaced S es t (j + made_in targets) × (t + room_of_assigned S.code.own.constants es ≤ S.code.own.stack)))

  abbrev pub ListIsPlaced : Exps → (t j : ℕ) → Type 0
  ListIsPlaced es t j = ArePlaced S es t j × ((t + room_of_last S.code.own.constants es ≤ S.code.own.stack) × (count es + 1 < 2 ^ 8))

  -- what `return` gives: a call in the function's place, or a list
  abbrev pub LastIsPlaced : Exps → (t j : ℕ) → Type 0
  LastIsPlaced (MoreExps (Call line f es) EndExps) t j =
      IsPlaced S f t j × (ArePlaced S es t (j + made_by f) × ((t + room_of S.code.own.constants f 2 ≤ S.code.own.stack) × (t + room_of_list S.code.own.constants 1 es None ≤ S.code.own.stack)))
  LastIsPlaced (MoreExps (Method line object name es) EndExps) t j =
      IsPlaced S object t j × (Found S.code.own.constants (StrConst name.text) × (ArePlaced S es t (j + made_by object)
      × ((t + room_of S.code.own.constants object 2 ≤ S.code.own.stack) × ((t + room_of_self S.code.own.constants name.text ≤ S.code.own.stack) × (t + room_of_list S.code.own.constants 2 es None ≤ S.code.own.stack)))))
  LastIsPlaced es t j = ListIsPlaced es t j

  -- where a variable to be closed is in scope, no call is in the function's place
  abbrev pub ReturnIsPlaced : Exps → (closing : Bool) → (t j : ℕ) → Type 0
  ReturnIsPlaced es false t j = LastIsPlaced es t j
  ReturnIsPlaced es true t j = ListIsPlaced es t j

  -- the first two values of a numeric `for`
  abbrev pub BoundsArePlaced : (from limit : Exp) → (t j : ℕ) → Type 0
  BoundsArePlaced from limit t j =
      IsPlaced S from t j × ((t + room_of S.code.own.constants from 2 ≤ S.code.own.stack)
      × (IsPlaced S limit t (j + made_by from) × (t + 1 + room_of S.code.own.constants limit 2 ≤ S.code.own.stack)))

abbrev mutual
  pub StatIsPlaced : Setting → Stat → (closing : Bool) → (t j : ℕ) → List Named → (loops : Bool) → Type 0
  StatIsPlaced S (Empty line) closing t j named loops = Unit {0}
  StatIsPlaced S (Local line names es) closing t j named loops =
      ArePlaced S es t j × ((t + room_of_list S.code.own.constants 0 es (Some (length names)) ≤ S.code.own.stack) × ((t + length names ≤ S.code.own.stack) × (length names + 1 < 2 ^ 8)))
  StatIsPlaced S (LocalFunction line name body) closing t j named loops = Inner S j body × (Captures S.hidden (upvalues_of body) (t + 1) × (t < S.code.own.stack))
  StatIsPlaced S (Assign line targets es) closing t j named loops = AssignIsPlaced S (assigned targets es) targets es t j
  StatIsPlaced S (CallStat line e) closing t j named loops = (is_open e ≡ true) × (IsPlaced S e t j × (t + room_of S.code.own.constants e 1 ≤ S.code.own.stack))
  StatIsPlaced S (Do line block) closing t j named loops = BlockIsPlaced S block closing t j named loops
  StatIsPlaced S (While line e block) closing t j named loops =
      IsPlaced S e t j × ((t + room_of_test S.code.own.constants e ≤ S.code.own.stack) × BlockIsPlaced S block closing t (j + made_by e) named true)
  StatIsPlaced S (Repeat line block e) closing t j named loops =
      OpenIsPlaced S block closing t j named true × (IsPlaced S e (levels_in block t) (j + made_in_block block) × (levels_in block t + room_of_test S.code.own.constants e ≤ S.code.own.stack))
  StatIsPlaced S (If line arms) closing t j named loops = ArmsArePlaced S arms closing t j named loops
  StatIsPlaced S (IfElse line arms block) closing t j named loops = ArmsArePlaced S arms closing t j named loops × BlockIsPlaced S block closing t (j + made_in_arms arms) named loops
  StatIsPlaced S (NumFor line name from limit block) closing t j named loops =
      BoundsArePlaced S from limit t j × ((t + 4 ≤ S.code.own.stack) × (IsNear S.code.own.constants block closing (t + 3) (t + 4) (j + made_by from + made_by limit)
      × BlockIsPlaced (hiding S t) block closing (t + 4) (j + made_by from + made_by limit) named true))
  StatIsPlaced S (NumForStep line name from limit step block) closing t j named loops =
      BoundsArePlaced S from limit t j × (IsPlaced S step t (j + made_by from + made_by limit) × ((t + 2 + room_of S.code.own.constants step 2 ≤ S.code.own.stack)
      × ((t + 4 ≤ S.code.own.stack) × (IsNear S.code.own.constants block closing (t + 3) (t + 4) (j + made_by from + made_by limit + made_by step)
      × BlockIsPlaced (hiding S t) block closing (t + 4) (j + made_by from + made_by limit + made_by step) named true))))
  StatIsPlaced S (GenFor line names es block) closing t j named loops =
      ArePlaced S es t j × ((t + room_of_list S.code.own.constants 0 es (Some 4) ≤ S.code.own.stack) × ((t + 4 + length names ≤ S.code.own.stack) × ((0 < length names) × ((length names < 2 ^ 8)
      × (IsNear S.code.own.constants block true (t + 4) (t + 4 + length names) (j + made_in es) × BlockIsPlaced S block true (t + 4 + length names) (j + made_in es) named true)))))
  StatIsPlaced S (Label line name) closing t j named loops = Unit {0}
  StatIsPlaced S (Goto line name) closing t j named loops = legal name.text named ≡ true
  StatIsPlaced S (Break line) closing t j named loops = loops ≡ true

  pub ArmsArePlaced : Setting → Arms → (closing : Bool) → (t j : ℕ) → List Named → (loops : Bool) → Type 0
  ArmsArePlaced S EndArms closing t j named loops = Unit {0}
  ArmsArePlaced S (MoreArms e block arms) closing t j named loops =
      IsPlaced S e t j × ((t + room_of_test S.code.own.constants e ≤ S.code.own.stack)
      × (BlockIsPlaced S block closing t (j + made_by e) named loops × ArmsArePlaced S arms closing t (j + made_by e + made_in_block block) named loops))

  pub StatsArePlaced : Setting → Stats → (falls closing : Bool) → (t j : ℕ) → (names named : List Named) → (loops : Bool) → Type 0
  StatsArePlaced S EndStats falls closing t j names named loops = Unit {0}
  StatsArePlaced S (MoreStats s ss) falls closing t j names named loops =
      StatIsPlaced S s closing t j (names_ahead ss falls t (level_after s t) ++ (names ++ named)) loops
      × StatsArePlaced S ss falls (closing_after s closing) (level_after s t) (j + made_by_stat s) (names_passed s names) named loops

  pub BlockIsPlaced : Setting → Block → (closing : Bool) → (t j : ℕ) → List Named → (loops : Bool) → Type 0
  BlockIsPlaced S (Falls ss tokens line) closing t j named loops = StatsArePlaced S ss true closing t j [] named loops
  BlockIsPlaced S (Returns ss es tokens line) closing t j named loops =
      StatsArePlaced S ss false closing t j [] named loops × ReturnIsPlaced S es (closings_after ss closing) (levels_after ss t) (j + made_in_stats ss)

  -- the block of a `repeat`, whose labels stand in the scope of its locals
  pub OpenIsPlaced : Setting → Block → (closing : Bool) → (t j : ℕ) → List Named → (loops : Bool) → Type 0
  OpenIsPlaced S (Falls ss tokens line) closing t j named loops = StatsArePlaced S ss false closing t j [] named loops
  OpenIsPlaced S (Returns ss es tokens line) closing t j named loops =
      StatsArePlaced S ss false closing t j [] named loops × ReturnIsPlaced S es (closings_after ss closing) (levels_after ss t) (j + made_in_stats ss)
