-- A row and the waits agree: the text with which an operation goes on at once is what the instruction's wait says, and each call has a wait.
use Rattle.std.specs.Prelude.{◌≡◌, ℕ, true, List, [], ◌∷◌, nat_eq}
use Rattle.std.specs.List.{list_any}
use Rattle.code_core.specs.declared.opcode.Opcode.{Opcode}
use Rattle.code_core.specs.declared.instruction.Instruction.{Instruction}
use Rattle.code_core.specs.declared.proto.UpDesc.{UpDesc}
use Rattle.code_core.specs.Prototype.{Prototype}
use Rattle.int_core.specs.Value.{Shape}
use Rattle.machine_core.specs.World.{Wait, running}
use Rattle.machine_core.specs.Text.{Text, own, open_cell, quick, make_function, operate, call, close, closable}
use Rattle.machine_core.specs.InstructionRows.{rest, upvalues_of_inner}

abbrev pub IsWaiting : {V : Type 0} → Wait V → Type 0
IsWaiting running = ⊥
IsWaiting _ = Unit {0}

abbrev pub Fits : Prototype → ℕ → Opcode → Instruction → Text → Type 0
Fits p pc op w (own m k) = (n : ℕ) (s : Shape) → Fits p pc op w (k n s)
Fits p pc op w (open_cell r t) = Fits p pc op w t
Fits p pc op w (quick q k) = (n : ℕ) → Fits p pc op w (k n)
Fits p pc op w (operate operation xs wait prepared t) = (t ≡ rest wait p pc op w) × Fits p pc op w t
Fits p pc op w (call f slot wait prepared) = IsWaiting wait
Fits p pc op w (close v e wait prepared) = IsWaiting wait
Fits p pc op w (closable v name t) = Fits p pc op w t
Fits p pc op w _ = Unit {0}

-- A row makes a function at most once, and what this shares of the frame's own registers is opened in front of it, with nothing between

abbrev pub MakesNone : Text → Type 0
MakesNone (own m k) = (n : ℕ) (s : Shape) → MakesNone (k n s)
MakesNone (open_cell r t) = MakesNone t
MakesNone (quick (make_function n) k) = ⊥
MakesNone (quick q k) = (n : ℕ) → MakesNone (k n)
MakesNone (operate operation xs wait prepared t) = MakesNone t
MakesNone (closable v name t) = MakesNone t
MakesNone _ = Unit {0}

abbrev pub AreOpened : List ℕ → List UpDesc → Type 0
AreOpened opened [] = Unit {0}
AreOpened opened (u ∷ us) = (u.in_stack ≡ true → list_any (nat_eq u.index) opened ≡ true) × AreOpened opened us

-- `opened` are the registers that the text has opened so far
abbrev pub OpensFirst : Prototype → List ℕ → Text → Type 0
OpensFirst p opened (open_cell r t) = OpensFirst p (r ∷ opened) t
OpensFirst p opened (quick (make_function n) k) = AreOpened opened (upvalues_of_inner p n) × ((m : ℕ) → MakesNone (k m))
OpensFirst p opened t = MakesNone t
