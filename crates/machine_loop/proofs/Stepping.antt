-- An instruction that the frame does by itself is a step, as is one that looks beyond a value.
use Rattle.std.proofs.Common.{◌≡◌, ℕ, List, Option, Some, None, sym}
use Rattle.std.specs.Prelude.{slice_get, IfSome}
use Rattle.std.proofs.lemmas.Option.{IfSome_then}
use Rattle.code_core.specs.Instruction.{opcode_of}
use Rattle.code_core.specs.declared.instruction.Instruction.{Instruction}
use Rattle.code_core.specs.declared.opcode.Opcode.{Opcode}
use Rattle.lua_heap.specs.declared.world.Cell.{Cell}
use Rattle.table_core.specs.Table.{Contents}
use Rattle.table_core.specs.declared.value.Value.{Value as Kept}
use Rattle.machine_arms_tables.specs.Frame.{Code, Moment, moment, Leads, LeadsOn, IsReadyAt}
use Rattle.machine_arms_tables.proofs.Steps.{at_opcode, stepped_by, steps_on}
use Rattle.machine_loop.specs.Around.{GoesBeyond}
use Rattle.machine_loop.specs.Running.{Running, StepsOnce}

pub step_once : (g : Running) (k : Code) (m : Moment) → IsReadyAt g.around g.string_metatable k m → (w : Instruction) (op : Opcode) (ts : List Contents) (cs : List Cell) (s : List Kept) (left : ℕ) (o : Option ℕ)
    → slice_get k.words m.pc ≡ Some w → Some op ≡ opcode_of w → IfSome o (λ to. Leads op w k m (moment ts cs s to left)) → IfSome o (λ to. StepsOnce g k m (moment ts cs s to left))
step_once g k m h w op ts cs s left None e f q = q
step_once g k m h w op ts cs s left (Some to) e f q =
    let a = at_opcode g.around g.string_metatable k m h w op e (sym f) in
    let n = moment ts cs s to left in
    record { steps = steps_on g.around g.string_metatable k m h n op w a q; one = record { is = λ rows. stepped_by g.around g.string_metatable k m h rows n op w a q } }

-- what looks beyond a value itself
pub beyond_so : (k : Code) {w : Instruction} {op : Opcode} (ts us : List Contents) (cs : List Cell) (r s : List Kept) (pc : ℕ) (o : Option ℕ) → slice_get k.words pc ≡ Some w → Some op ≡ opcode_of w
    → IfSome o (λ to. LeadsOn op w k pc to ts us cs cs r s) → IfSome o (λ to. GoesBeyond k ts us cs r s pc to)
beyond_so k {w = w} {op = op} ts us cs r s pc o e f q = IfSome_then o q (λ to x. record { op = op; word = w; at_pc = e; is_opcode = sym f; leads = x.leads })
