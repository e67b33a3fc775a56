-- The two forms in which an activation's locals get their cells, side by side: as they are declared, and before the first function that
-- captures them. Cells of the two that stand for the same variable are a pair.
use Rattle.std.specs.Prelude.{◌≡◌, ◌⊎◌, ℕ, zero, suc, ◌<◌, List, [], ◌∷◌, ◌++◌, length, map}
use Rattle.int_core.specs.Value.{Value, nth}
use Rattle.int_core.specs.Ask.{CellName, of_local, of_upvalue, Ask, opens, makes_function, Answer, Next, goes_on, says, stuck}
use Rattle.tree_core.specs.Tree.{Body}
use Rattle.tree_activation.specs.Work.{when_declared, when_captured, State}
use Rattle.tree_activation.specs.Activation.{start, step}
use Rattle.lua_meaning.specs.World.{shared_in, shared_out}
use Rattle.list_laws.specs.Held.{Has}
use Rattle.meaning_cells.specs.Opening.{carried}

abbrev pub Member : ℕ → List ℕ → Type 0
Member n [] = ⊥
Member n (m ∷ ms) = (m ≡ n) ⊎ Member n ms

abbrev pub Pairs : Type 0
Pairs = List (ℕ × ℕ)

-- a cell of the first form that stands for no variable that has a cell in the second one
abbrev pub IsUnpaired : ℕ → Pairs → Type 0
IsUnpaired c pairs = (d : ℕ) → Has c d pairs → ⊥

-- the pairs, the values that are stored in the cells of both forms, and the cells of the first form that the activation has opened
pub record Cells : Type 0 where
  pub pairs : Pairs
  pub stored : List Value
  pub stored_too : List Value
  pub own : List ℕ

-- each cell has at most one partner, and all of these cells are there
pub record AreCells (cells : Cells) : Type 0 where
  pub one_way : (c d e : ℕ) → Has c d cells.pairs → Has c e cells.pairs → d ≡ e
  pub other_way : (b c d : ℕ) → Has b d cells.pairs → Has c d cells.pairs → b ≡ c
  pub there : (c d : ℕ) → Has c d cells.pairs → c < length cells.stored
  pub there_too : (c d : ℕ) → Has c d cells.pairs → d < length cells.stored_too
  pub own_there : (c : ℕ) → Member c cells.own → c < length cells.stored

-- cells that are a pair have the same value
abbrev pub AreEven : Cells → Type 0
AreEven cells = (c d : ℕ) → Has c d cells.pairs → nth cells.stored c ≡ nth cells.stored_too d

-- asks carry the values of the activation's captured locals into their cells
abbrev pub after_asks : Cells → (shared also : List (ℕ × Value)) → Cells
after_asks cells shared also = record cells { stored = shared_in shared cells.stored; stored_too = shared_in also cells.stored_too }

-- the first form carries values into own cells alone
abbrev pub CarriesOwn : Cells → List (ℕ × Value) → Type 0
CarriesOwn cells shared = (c : ℕ) (v : Value) → Has c v shared → Member c cells.own

-- answers

-- what others may do to cells while the activation waits: there may be more pairs and other values, but an own cell that has no partner has none
-- later on, and keeps its value
pub record Onward (cells now : Cells) : Type 0 where
  pub are : AreCells now
  pub more : (c d : ℕ) → Has c d cells.pairs → Has c d now.pairs
  pub own : (c : ℕ) → Member c cells.own → Member c now.own
  pub still : (c : ℕ) → Member c cells.own → IsUnpaired c cells.pairs → IsUnpaired c now.pairs × (nth now.stored c ≡ nth cells.stored c)

-- captured locals come back as they were carried, or with the values that are stored in their cells
pub data Brings (now : Cells) (shared also : List (ℕ × Value)) (x y : Answer) : Type 0 where
  as_carried : x.shared ≡ map carried shared → y.shared ≡ map carried also → Brings now shared also x y
  as_stored : x.shared ≡ shared_out shared now.stored → y.shared ≡ shared_out also now.stored_too → Brings now shared also x y

pub record Answered (now : Cells) (shared also : List (ℕ × Value)) (x y : Answer) : Type 0 where
  pub reply : x.reply ≡ y.reply
  pub brings : Brings now shared also x y
  pub even : AreEven now

-- asks

abbrev pub SameCell : Pairs → CellName → CellName → Type 0
SameCell pairs (of_local c) (of_local d) = Has c d pairs
SameCell pairs (of_upvalue u) (of_upvalue v) = u ≡ v
SameCell pairs _ _ = ⊥

abbrev pub SameCells : Pairs → List CellName → List CellName → Type 0
SameCells pairs [] [] = Unit {0}
SameCells pairs (c ∷ names) (d ∷ others) = SameCell pairs c d × SameCells pairs names others
SameCells pairs _ _ = ⊥

abbrev pub SameAsk : Pairs → Ask Body → Ask Body → Type 0
SameAsk pairs (makes_function body names) (makes_function other others) = (body ≡ other) × SameCells pairs names others
SameAsk pairs (opens v) r = ⊥
SameAsk pairs q r = q ≡ r

-- a cell is opened for a value: all cells after it, and its number
abbrev pub opened : List (ℕ × Value) → Value → List Value → List Value
opened shared v values = shared_in shared values ++ v ∷ []

abbrev pub new_cell : List (ℕ × Value) → List Value → ℕ
new_cell shared values = length (shared_in shared values)

module _ (Q : Cells → State → State → Type 0) (cells : Cells) where
  -- a step of each: of its own, the same ask on the same line, after which pairs have the same value, or nothing
  abbrev pub Moves : Next Body State → Next Body State → Type 0
  Moves (goes_on s) (goes_on t) = Q cells s t
  Moves (says q line shared k) (says r other also l) =
      SameAsk cells.pairs q r × (line ≡ other) × CarriesOwn cells shared × AreEven (after_asks cells shared also)
      × ((now : Cells) → Onward (after_asks cells shared also) now → (x y : Answer) → Answered now shared also x y → Q now (k x) (l y))
  Moves stuck stuck = Unit {0}
  Moves _ _ = ⊥

  -- while a cell is opened nobody else runs

  -- the first form alone comes to what was declared, or opens a cell for it
  abbrev pub FirstAlone : Next Body State → State → Type 0
  FirstAlone (goes_on s) t = Q cells s t
  FirstAlone (says (opens v) line shared k) t =
      CarriesOwn cells shared
      × ((x : Answer) → x.shared ≡ map carried shared → x.cell ≡ new_cell shared cells.stored
      → Q (record cells { stored = opened shared v cells.stored; own = x.cell ∷ cells.own }) (k x) t)
  FirstAlone _ t = ⊥

  -- the second form opens a cell for a variable that has one in the first form
  abbrev pub SecondOpens : Next Body State → Next Body State → Type 0
  SecondOpens (goes_on s) (says (opens v) line also l) =
      (c : ℕ) × Member c cells.own × IsUnpaired c cells.pairs
      × ((y : Answer) → y.shared ≡ map carried also → y.cell ≡ new_cell also cells.stored_too
      → Q (record cells { pairs = (c, y.cell) ∷ cells.pairs; stored_too = opened also v cells.stored_too }) s (l y))
  SecondOpens _ _ = ⊥

  abbrev pub BothOpen : Next Body State → Next Body State → Type 0
  BothOpen (says (opens v) line shared k) (says (opens w) other also l) =
      (v ≡ w) × (line ≡ other) × CarriesOwn cells shared
      × ((x y : Answer) → x.shared ≡ map carried shared → y.shared ≡ map carried also → x.cell ≡ new_cell shared cells.stored → y.cell ≡ new_cell also cells.stored_too
      → Q (record { pairs = (x.cell, y.cell) ∷ cells.pairs; stored = opened shared v cells.stored; stored_too = opened also w cells.stored_too; own = x.cell ∷ cells.own }) (k x) (l y))
  BothOpen _ _ = ⊥

  abbrev pub Together : Next Body State → Next Body State → Type 0
  Together x y = Moves x y ⊎ (SecondOpens x y ⊎ BothOpen x y)

  abbrev pub Steps : State → State → Type 0
  Steps s t = Together (step s) (step t) ⊎ FirstAlone (step s) t

-- the two are alike through n steps
abbrev pub Alike : ℕ → Cells → State → State → Type 0
Alike zero cells s t = Unit {0}
Alike (suc n) cells s t = Steps (Alike n) cells s t

abbrev pub CellsDoNotShow : Type 0
CellsDoNotShow =
    (n : ℕ) (cells : Cells) (body : Body) (arguments : List Value) → AreCells cells → AreEven cells
    → Alike n cells (start when_declared body arguments) (start when_captured body arguments)
