-- An instruction at its place in the code, and where it leads within its frame.
use Rattle.std.specs.Prelude.{◌≡◌, ℕ, List, Option, MatchOption}
use Rattle.code_core.specs.declared.opcode.Opcode.{Opcode}
use Rattle.machine_arms_numbers.specs.declared.site.Site.{Site}
use Rattle.machine_view.specs.View.{IsAt, Goes}
use Rattle.table_core.specs.declared.value.Value.{Value}

-- an instruction of this opcode stands there, in checked code whose frame has these registers
abbrev pub IsSite : Opcode → Site → (registers : List Value) → Type 0
IsSite op s r = IsAt op s.word s.words.now s.constants.now r s.pc

-- it leads to other registers and another place, whatever is left of the budget
abbrev pub Leads : Opcode → Site → (old new : List Value) → (to : ℕ) → Type 0
Leads op s old new to = (fuel : ℕ) → Goes op s.word s.words.now s.constants.now old s.pc fuel new to fuel

-- it does so where there is an answer, and else the registers are as they were
abbrev pub MayLead : Opcode → Site → (old new : List Value) → Option ℕ → Type 0
MayLead op s old new result = MatchOption result (new ≡ old) (Leads op s old new)

-- so it is with one that may take a unit of the budget
abbrev pub MayPay : Opcode → Site → (old new : List Value) → (fuel left : ℕ) → Option ℕ → Type 0
MayPay op s old new fuel left result = MatchOption result ((new ≡ old) × (left ≡ fuel)) (λ to. Goes op s.word s.words.now s.constants.now old s.pc fuel new to left)
