-- An instruction at its place in the code of the closure that runs, and where it leads.
use Rattle.std.specs.Prelude.{◌≡◌, ℕ, List, Option, MatchOption}
use Rattle.code_core.specs.declared.opcode.Opcode.{Opcode}
use Rattle.lua_heap.specs.declared.world.Cell.{Cell}
use Rattle.machine_arms_tables.specs.Frame.{Code, LeadsOn, code}
use Rattle.machine_arms_tables.specs.declared.site.Site.{Site}
use Rattle.machine_view.specs.View.{IsAt}
use Rattle.object_pool.specs.Pool.{Pool}
use Rattle.table_core.specs.Table.{Contents}
use Rattle.table_core.specs.declared.value.Value.{Value}

-- an instruction of this opcode stands there, in checked code whose frame has these registers
abbrev pub IsSite : Opcode → Site → (registers : List Value) → Type 0
IsSite op s r = IsAt op s.word s.closure.words.now s.closure.constants.now r s.pc

abbrev pub code_at : Site → Code
code_at s = code s.closure s.strings.now

-- it leads to other registers and another place, whatever is left of the budget
abbrev pub Gets : Opcode → Site → (tables : List Contents) → (cells : List Cell) → (old new : List Value) → (to : ℕ) → Type 0
Gets op s ts cs old new to = LeadsOn op s.word (code_at s) s.pc to ts ts cs cs old new

-- it does so where there is an answer, with these cells or whatever they are, and else the registers are as they were
abbrev pub MayGetAt : Opcode → Site → (tables : List Contents) → (cells : List Cell) → (old new : List Value) → Option ℕ → Type 0
MayGetAt op s ts cs old new result = MatchOption result (new ≡ old) (Gets op s ts cs old new)

abbrev pub MayGet : Opcode → Site → (tables : List Contents) → (old new : List Value) → Option ℕ → Type 0
MayGet op s ts old new result = MatchOption result (new ≡ old) (λ to. (cells : List Cell) → Gets op s ts cells old new to)

-- so it is with one that leads to other tables
abbrev pub MayPut : Opcode → Site → (old new : Pool Contents) → (cells : List Cell) → (registers : List Value) → Option ℕ → Type 0
MayPut op s old new cs r result = MatchOption result (new ≡ old) (λ to. LeadsOn op s.word (code_at s) s.pc to old.objects new.objects cs cs r r)
