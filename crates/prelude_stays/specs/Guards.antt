-- What of a function may hold the environment of the prelude, and what code with such places never does with them.
use Rattle.std.specs.Prelude.{◌≡◌, ◌≤◌, ℕ, Bool, true, false, cond, List, [], ◌∷◌, Some, slice_get, IsTrue}
use Rattle.int_core.specs.Value.{Value, Shape}
use Rattle.code_core.specs.declared.proto.UpDesc.{UpDesc}
use Rattle.code_core.specs.declared.instruction.Instruction.{Instruction}
use Rattle.code_core.specs.declared.opcode.Opcode.{Opcode}
use Rattle.code_core.specs.declared.opcode.Opcode.TheVariants.{GetUpval, GetTabUp, GetTable, GetField}
use Rattle.code_core.specs.Instruction.{opcode_of, a_of, c_of}
use Rattle.code_core.specs.Prototype.{Prototype, list_of}
use Rattle.code_core.specs.Check.{at}
use Rattle.prelude_guard.specs.Checks.{is_taken}
use Rattle.machine_core.specs.World.{Wait}
use Rattle.machine_core.specs.Text.{Own, read_register, read_registers, read_list, mark_pending, Quick, read_upvalue, write_upvalue, Text, own, open_cell, quick, operate, call, close, closable}
use Rattle.machine_core.specs.InstructionRows.{row_of, text_at, rest}
use Rattle.machine_sound.specs.Sound.{waits_at}

-- these upvalues and these registers of a function's frames may hold the environment, and nothing else of it does
pub record Guard : Type 0 where
  pub upvalues : ℕ → Bool
  pub registers : ℕ → Bool

-- that of a function with no such place
abbrev pub unguarded : Guard
unguarded = record { upvalues = λ u. false; registers = λ r. false }

-- that of code which takes such upvalues to registers
abbrev pub guard_with : (upvalues : ℕ → Bool) → List Instruction → Guard
guard_with upvalues code = record { upvalues = upvalues; registers = is_taken upvalues code }

-- no register that is read, or marked to be closed, may hold it
abbrev pub OwnReads : Guard → Own → Type 0
OwnReads g (read_register r) = g.registers r ≡ false
OwnReads g (read_registers from count) = (r : ℕ) → from ≤ r → g.registers r ≡ false
OwnReads g (read_list from) = (r : ℕ) → from ≤ r → g.registers r ≡ false
OwnReads g (mark_pending r) = g.registers r ≡ false
OwnReads g m = Unit {0}

abbrev pub AllRead : Guard → List Own → Type 0
AllRead g [] = Unit {0}
AllRead g (m ∷ ms) = OwnReads g m × AllRead g ms

-- nor any upvalue that is read or written
abbrev pub QuickReads : Guard → Quick → Type 0
QuickReads g (read_upvalue u) = g.upvalues u ≡ false
QuickReads g (write_upvalue u x) = g.upvalues u ≡ false
QuickReads g q = Unit {0}

-- a row that never has the environment at hand
abbrev pub Reads : Guard → Text → Type 0
Reads g (own m k) = OwnReads g m × ((n : ℕ) (s : Shape) → Reads g (k n s))
Reads g (open_cell r t) = Reads g t
Reads g (quick q k) = QuickReads g q × ((n : ℕ) → Reads g (k n))
Reads g (operate op xs wait prepared t) = AllRead g prepared × Reads g t
Reads g (call f slot wait prepared) = AllRead g prepared
Reads g (close v e wait prepared) = AllRead g prepared
Reads g (closable v name t) = Reads g t
Reads g t = Unit {0}

-- An instruction's row does not, or it is the row of one that takes the environment from an upvalue to a register for it, or that reads a variable of the
-- environment, which is in an upvalue or in a register
pub data Row (g : Guard) (p : Prototype) (pc : ℕ) (t : Text) : Type 0 where
  apart : Reads g t → Row g p pc t
  takes : (w : Instruction) → g.registers (a_of w) ≡ true → t ≡ row_of p pc GetUpval w → Row g p pc t
  from_upvalue : (w : Instruction) → t ≡ row_of p pc GetTabUp w → Row g p pc t
  from_register : (w : Instruction) → g.registers (c_of w) ≡ false → t ≡ row_of p pc GetTable w → Row g p pc t
  from_register_named : (w : Instruction) → t ≡ row_of p pc GetField w → Row g p pc t

-- nor does what is left of an instruction when the answer comes for which it waits
abbrev pub WaitsRead : Guard → Prototype → Type 0
WaitsRead g p = (wait : Wait Value) (pc : ℕ) (w : Instruction) (op : Opcode) → at p pc ≡ Some w → opcode_of w ≡ Some op → IsTrue (waits_at wait op w) → Reads g (rest wait p pc op w)

-- a function that is defined within another one shares a register that may hold the environment as such an upvalue, and none of the other's upvalues that may
abbrev pub Shares : (outer inner : Guard) → (number : ℕ) → UpDesc → Type 0
Shares outer inner n u = cond u.in_stack (inner.upvalues n ≡ false → outer.registers u.index ≡ false) (outer.upvalues u.index ≡ false)

-- Code that takes the environment only to such places, and from there only reads its variables: neither at an instruction nor when an answer comes has it the
-- environment at hand otherwise; and so for the functions that are defined in it. All code is so where no place may hold it
pub data IsGuarded : Guard → Prototype → Type 0 where
  free : (p : Prototype) → IsGuarded unguarded p
  kept : (g : Guard) (p : Prototype) → ((pc : ℕ) → Row g p pc (text_at p pc)) → WaitsRead g p → (inner : ℕ → Guard)
      → ((n : ℕ) (q : Prototype) → slice_get (list_of p.inner) n ≡ Some q → IsGuarded (inner n) q)
      → ((n : ℕ) (q : Prototype) → slice_get (list_of p.inner) n ≡ Some q → (i : ℕ) (u : UpDesc) → slice_get q.own.upvalues i ≡ Some u → Shares g (inner n) i u)
      → IsGuarded g p
