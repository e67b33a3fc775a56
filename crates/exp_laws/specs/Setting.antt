-- A function under way, of which a tree and its code are compared.
use Rattle.std.specs.Prelude.{ℕ, ◌+◌, ◌<◌, ◌≤◌, ◌^◌, Bool, cond, List, [], ◌∷◌, length}
use Rattle.int_core.specs.Value.{Value}
use Rattle.tree_core.specs.Tree.{Body}
use Rattle.tree_activation.specs.Work.{when_captured}
use Rattle.tree_activation.specs.Activation.{start}
use Rattle.code_core.specs.Prototype.{Prototype}
use Rattle.machine_core.specs.Talk.{talk_start}
use Rattle.code_means.specs.Means.{Same}

-- a body and a prototype talk alike through n asks, on any arguments
abbrev pub Alike : Bool → ℕ → Body → Prototype → Type 0
Alike lines n b q = (arguments : List Value) → Same lines n q (start when_captured b arguments) (talk_start q arguments)

-- what is known of locals wherever code goes on. The locals without a name of the numeric `for`s around hold integers, and nothing captures them or
-- assigns to them; no local from one of the levels on is captured; and where none of the function may have a cell, none has one
pub record Hidden : Type 0 where
  pub integers : List ℕ
  pub free_from : List ℕ
  pub celled : Bool

abbrev pub UnderAll : ℕ → List ℕ → Type 0
UnderAll n [] = Unit {0}
UnderAll n (m ∷ ms) = (n < m) × UnderAll n ms

-- a function under way: its code, whether lines are known, and the arguments that `...` gives. Inner functions are alike through fewer than `bound` asks
pub record Setting : Type 0 where
  pub lines : Bool
  pub code : Prototype
  pub varargs : List Value
  pub bound : ℕ
  pub hidden : Hidden
  pub small : code.own.stack < 2 ^ 8
  pub short : length code.own.code ≤ 2 ^ 24

-- within a numeric `for` whose index, count and step are the locals from t on

abbrev pub with_loop : Hidden → (t : ℕ) → Hidden
with_loop h t = record { integers = t ∷ (t + 1) ∷ (t + 2) ∷ h.integers; free_from = h.free_from; celled = h.celled }

abbrev pub hiding : Setting → (t : ℕ) → Setting
hiding S t = record S { hidden = with_loop S.hidden t }

-- within a scope whose locals are those from a level on, where they may be captured or not

abbrev pub with_scope : Hidden → (captures : Bool) → (level : ℕ) → Hidden
with_scope h captures level = record { integers = h.integers; free_from = cond captures h.free_from (level ∷ h.free_from); celled = h.celled }

abbrev pub scoped : Setting → (captures : Bool) → (level : ℕ) → Setting
scoped S captures level = record S { hidden = with_scope S.hidden captures level }

-- the same of a whole function, where a scope of it is meant or all of it: then its locals have cells only where it makes functions

abbrev pub within_hidden : Hidden → (captures : Bool) → (level : ℕ) → (whole : Bool) → Hidden
within_hidden h captures level whole = record { integers = h.integers; free_from = cond captures h.free_from (level ∷ h.free_from); celled = cond whole captures h.celled }

abbrev pub inside : Setting → (captures : Bool) → (level : ℕ) → (whole : Bool) → Setting
inside S captures level whole = record S { hidden = within_hidden S.hidden captures level whole }

abbrev pub InnerAlike : Setting → ℕ → Body → Prototype → Type 0
InnerAlike S n b q = Alike S.lines n b q
