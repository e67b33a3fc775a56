-- Each instruction's row, and what is left of it by each wait, fit the waits.
use Rattle.std.proofs.Common.{ℕ, Bool, true, false, cond, List, [], ◌∷◌}
use Rattle.code_core.specs.declared.opcode.Opcode.{Opcode}
use Rattle.code_core.specs.declared.opcode.Opcode.TheVariants.{Closure}
use Rattle.code_core.specs.declared.instruction.Instruction.{Instruction}
use Rattle.code_core.specs.declared.proto.UpDesc.{UpDesc}
use Rattle.code_core.specs.Prototype.{Prototype}
use Rattle.code_core.specs.Instruction.{bx_of}
use Rattle.machine_core.specs.World.{Wait}
use Rattle.machine_core.specs.Text.{Text, own, open_cell, quick, make_function, operate, call, close, closable}
use Rattle.machine_core.specs.InstructionRows.{row_of, rest, opens, upvalues_of_inner}
use Rattle.machine_core.specs.RowFits.{Fits}
use Rattle.machine_core.proofs.RowsPlain.{IsPlain, rest_plain, row_plain}

plain_fits : (p : Prototype) (pc : ℕ) (op : Opcode) (w : Instruction) (t : Text) → IsPlain p pc op w t → Fits p pc op w t
plain_fits p pc op w (own m k) h = λ n s. plain_fits p pc op w (k n s) (h n s)
plain_fits p pc op w (open_cell r t) h = plain_fits p pc op w t h
plain_fits p pc op w (quick (make_function n) k) h = absurd h
plain_fits p pc op w (quick q k) h = λ n. plain_fits p pc op w (k n) (h n)
plain_fits p pc op w (operate operation xs wait prepared t) h = (h.0, plain_fits p pc op w t h.1)
plain_fits p pc op w (call f slot wait prepared) h = h
plain_fits p pc op w (close v e wait prepared) h = h
plain_fits p pc op w (closable v name t) h = plain_fits p pc op w t h
plain_fits p pc op w _ h = tt

-- what is left of an instruction by a wait fits the waits again
pub rest_fits : {V : Type 0} (wait : Wait V) (p : Prototype) (pc : ℕ) (op : Opcode) (w : Instruction) → Fits p pc op w (rest wait p pc op w)
rest_fits wait p pc op w = plain_fits p pc op w (rest wait p pc op w) (rest_plain wait p pc op w)

opens_fit : (p : Prototype) (pc : ℕ) (w : Instruction) (us : List UpDesc) (t : Text) → Fits p pc Closure w t → Fits p pc Closure w (opens us t)
opens_fit p pc w [] t h = h
opens_fit p pc w (u ∷ us) t h = by u.in_stack (opens_fit p pc w us t h)
  where
    by : (b : Bool) → Fits p pc Closure w (opens us t) → Fits p pc Closure w (cond b (open_cell u.index (opens us t)) (opens us t))
    by true f = f
    by false f = f

pub row_fits : (p : Prototype) (pc : ℕ) (op : Opcode) (w : Instruction) → Fits p pc op w (row_of p pc op w)
row_fits p pc Closure w = opens_fit p pc w (upvalues_of_inner p (bx_of w)) _ (λ _ _ _. tt)
row_fits p pc op w = plain_fits p pc op w (row_of p pc op w) (row_plain p pc op w)
