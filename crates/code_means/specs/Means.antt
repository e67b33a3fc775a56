-- What it is that code means a function's body: on any arguments and answers both make the same asks in the same order, and the inner
-- functions mean the inner bodies. Of a function whose lines are not known, an ask is taken without its line and without a variable's name.
use Rattle.std.specs.Prelude.{ℕ, zero, suc, Bool, List}
use Rattle.int_core.specs.Value.{Value}
use Rattle.int_core.specs.Ask.{runs, NextLike}
use Rattle.tree_core.specs.Tree.{Body}
use Rattle.tree_activation.specs.Work.{when_captured}
use Rattle.tree_activation.specs.Work as tree
use Rattle.tree_activation.specs.Activation.{start, step}
use Rattle.lua_meaning.specs.World.{as_known}
use Rattle.code_core.specs.Prototype.{Prototype}
use Rattle.machine_core.specs.Talk as code
use Rattle.machine_core.specs.Talk.{talk_start, talk_step}

-- the two talk alike through n asks
abbrev pub Same : (lines : Bool) → ℕ → Prototype → tree.State → code.State → Type 0
Same lines zero p s t = Unit {0}
Same lines (suc n) p s t =
    (i : ℕ) × (j : ℕ)
    × NextLike (λ b q. (arguments : List Value) → Same lines n q (start when_captured b arguments) (talk_start q arguments)) (Same lines n p)
    (as_known lines (runs step i s)) (runs (talk_step p) j t)

abbrev pub Means : (lines : Bool) → Prototype → Body → Type 0
Means lines p b = (n : ℕ) (arguments : List Value) → Same lines n p (start when_captured b arguments) (talk_start p arguments)
