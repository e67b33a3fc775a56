-- The asks that an activation makes where given answers come, in their order.
use Rattle.std.specs.Prelude.{◌≡◌, ◌↔◌, ℕ, Bool, List, [], ◌∷◌, Option}
use Rattle.int_core.specs.Value.{Value}
use Rattle.int_core.specs.Ask.{Ask, reads_upvalue, writes_upvalue, makes_table, makes_function, fills_table, pays, opens, operates, calls, calls_last, marks, closes, raises, leaves, Answer, Next, says, runs, FitsAsk}
use Rattle.tree_core.specs.Tree.{Body}
use Rattle.tree_activation.specs.Work.{when_captured}
use Rattle.tree_activation.specs.Work as tree
use Rattle.tree_activation.specs.Activation.{start, step}
use Rattle.code_core.specs.Prototype.{Prototype}
use Rattle.machine_core.specs.Talk as code
use Rattle.machine_core.specs.Talk.{talk_start, talk_step}
use Rattle.lua_meaning.specs.World.{as_known}
use Rattle.code_means.specs.Means.{Means}

-- an ask, its line and the values that it carries; of a function that is made only the cells are kept
pub record Said : Type 0 where
  pub ask : Ask (Unit {0})
  pub line : Option ℕ
  pub shared : List (ℕ × Value)

abbrev pub shown : {F : Type 0} → Ask F → Ask (Unit {0})
shown (reads_upvalue u) = reads_upvalue u
shown (writes_upvalue u v) = writes_upvalue u v
shown makes_table = makes_table
shown (makes_function f cells) = makes_function tt cells
shown (fills_table t last vs) = fills_table t last vs
shown pays = pays
shown (opens v) = opens v
shown (operates op vs) = operates op vs
shown (calls f vs) = calls f vs
shown (calls_last f vs) = calls_last f vs
shown (marks v name) = marks v name
shown (closes v e) = closes v e
shown (raises text) = raises text
shown (leaves l) = leaves l

-- it says this, and nothing is answered
abbrev pub SaysLast : {F S : Type 0} → Next F S → List Said → Type 0
SaysLast (says q line shared k) (d ∷ []) = d ≡ record { ask = shown q; line = line; shared = shared }
SaysLast _ _ = ⊥

-- it says this, is answered by what fits, and goes on so
abbrev pub SaysThen : {F S : Type 0} → Next F S → Answer → List Said → (S → List Said → Type 0) → Type 0
SaysThen (says q line shared k) x (d ∷ ds) goes = (d ≡ record { ask = shown q; line = line; shared = shared }) × (FitsAsk q shared x × goes (k x) ds)
SaysThen _ x ds goes = ⊥

-- what is said on these answers; `talk` is what is done next after at most so many own steps
abbrev pub Asks : {F S : Type 0} → (talk : ℕ → S → Next F S) → List Answer → S → List Said → Type 0
Asks talk [] s said = (i : ℕ) × SaysLast (talk i s) said
Asks talk (x ∷ xs) s said = (i : ℕ) × SaysThen (talk i s) x said (Asks talk xs)

abbrev pub tree_talk : (lines : Bool) → ℕ → tree.State → Next Body tree.State
tree_talk lines i s = as_known lines (runs step i s)

abbrev pub code_talk : Prototype → ℕ → code.State → Next Prototype code.State
code_talk p i t = runs (talk_step p) i t

-- where code means a body, both make the same asks on any arguments and any answers that fit
abbrev pub AsksTheSame : Type 0
AsksTheSame =
    (lines : Bool) (p : Prototype) (b : Body) → Means lines p b → (arguments : List Value) (answers : List Answer) (said : List Said)
    → Asks (tree_talk lines) answers (start when_captured b arguments) said ↔ Asks (code_talk p) answers (talk_start p arguments) said
