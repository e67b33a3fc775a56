-- Whole runs of code, in the same worlds as those of trees: only what functions are made of, and the states of activations, differ.
use Rattle.std.specs.Prelude.{◌≡◌, ℕ, zero, suc, List, [], ◌∷◌, length, Option, Some, None}
use Rattle.int_core.specs.Value.{Value, nth}
use Rattle.code_core.specs.Prototype.{Prototype}
use Rattle.machine_core.specs.World.{Activation}
use Rattle.machine_core.specs.Text.{last_pending, done}
use Rattle.machine_core.specs.InstructionRows.{left_so}
use Rattle.machine_core.specs.Talk as code
use Rattle.machine_core.specs.Talk.{before, amid, talk_start, talk_step}
use Rattle.load_rows.specs.Loading.{Builds}
use Rattle.library_rows.specs.Library.{Entry}
use Rattle.lua_meaning.specs.World.{System, World}
use Rattle.lua_meaning.specs.Meaning.{Script, Meaning, Outcome, has_returned, has_failed, has_spent, is_suspended, is_broken, meaning}
use Rattle.lua_meaning.specs.Opening.{opening, primitives}

-- what code still closes where it is left: the pending registers are read from the last one on, each after what the closing before it changed

abbrev pub closed_of : Prototype → (count : ℕ) → Activation → List Value
closed_of p zero a = []
closed_of p (suc n) a = elim (last_pending 0 a.pending) [ None ↦ [] | Some r ↦ nth a.registers r ∷ closed_of p n (done left_so p [] a) ]

abbrev pub to_close : Prototype → code.State → List Value
to_close p (before a c) = closed_of p (length a.pending) a
to_close p (amid t env a c) = closed_of p (length a.pending) a

abbrev pub codes_run : System Prototype code.State
codes_run = record { starts = talk_start; steps = talk_step; pending = to_close }

-- how many outer variables a function names
abbrev pub outer_in : Prototype → ℕ
outer_in p = length p.own.upvalues

abbrev pub code_opening : (prelude : List (Entry Prototype)) → World Prototype code.State
code_opening prelude = opening outer_in prelude

abbrev pub code_meaning : Builds Prototype → (steps : ℕ) → (prelude : List (Entry Prototype)) → Script Prototype → List (List ℕ) → (budget : ℕ) → Option (Meaning Prototype code.State)
code_meaning builds steps prelude script input budget = meaning codes_run (primitives builds) steps (code_opening prelude) script input budget

-- two runs end alike, whatever the worlds are in which they are suspended
abbrev pub EndAlike : {A B S T : Type 0} → Outcome A S → Outcome B T → Type 0
EndAlike has_returned has_returned = Unit {0}
EndAlike has_failed has_failed = Unit {0}
EndAlike has_spent has_spent = Unit {0}
EndAlike (is_suspended W) (is_suspended V) = Unit {0}
EndAlike is_broken is_broken = Unit {0}
EndAlike _ _ = ⊥

-- they print the same and end alike
pub record RunAlike {A B S T : Type 0} (x : Meaning A S) (y : Meaning B T) : Type 0 where
  pub printed : x.printed ≡ y.printed
  pub outcome : EndAlike x.outcome y.outcome
