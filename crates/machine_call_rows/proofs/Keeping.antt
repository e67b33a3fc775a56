-- The registers that an instruction keeps for a call.
use Rattle.std.proofs.Common.{ℕ, ◌+◌, ◌-◌, ◌≤◌, Option, Some, None, subst, arith, Bool, false}
use Rattle.std.specs.Prelude.{IsTrue, nat_lt, slice_get}
use Rattle.std.specs.List.{list_all}
use Rattle.std.specs.Option.{option_map}
use Rattle.code_core.specs.declared.opcode.Opcode.{Opcode}
use Rattle.code_core.specs.declared.opcode.Opcode.TheVariants.{MmBin, MmBinI, MmBinK, Call as Calls, TForCall}
use Rattle.code_core.specs.declared.instruction.Instruction.{Instruction}
use Rattle.code_core.specs.Instruction.{a_of, b_of, c_of, k_of, sb_of}
use Rattle.code_core.specs.Fields.{registers}
use Rattle.instruction_forms.specs.Choice.{operators}
use Rattle.instruction_forms.specs.declared.operand.Operand.{Operand}
use Rattle.instruction_forms.specs.declared.operand.Operand.TheVariants.{Register, Constant, Integer}
use Rattle.instruction_forms.specs.declared.operand.Operands.TheVariants.{Two}
use Rattle.instruction_forms.specs.declared.operand.Operation.TheVariants.{Arithmetic as ByOperator}
use Rattle.instruction_forms.specs.declared.operand.Operator.{Operator}
use Rattle.instruction_forms.specs.declared.form.After.TheVariants.{ToRegisterBefore}
use Rattle.instruction_forms.specs.declared.form.Form.{Form}
use Rattle.instruction_forms.specs.declared.form.Form.TheVariants.{Call, Operate}
use Rattle.instruction_forms.specs.Waiting.{form_at, handled}
use Rattle.machine_sound.proofs.Rules.{rules_at}
use Rattle.machine_sound.proofs.Values.{both_of, lt_of}
use Rattle.move_laws.proofs.Sounds.{sound_top}
use Rattle.machine_call_rows.specs.Law.{CallsKeepRegisters}

abbrev KeepsWithin : ℕ → Form → Type 0
KeepsWithin size (Call function count keeps iterates) = keeps ≤ size
KeepsWithin size form = Unit {0}

-- of a form that is there
abbrev KeepsIfThere : ℕ → Option Form → Type 0
KeepsIfThere size None = Unit {0}
KeepsIfThere size (Some form) = KeepsWithin size form

mapped : (size : ℕ) (f : Operator → Form) (o : Option Operator) → ((x : Operator) → KeepsWithin size (f x)) → KeepsIfThere size (option_map f o)
mapped size f None h = tt
mapped size f (Some x) h = h x

by_handler : (size : ℕ) (second : Operand) (swapped : Bool) (i : Instruction) → KeepsIfThere size (handled second swapped i)
by_handler size second swapped i =
    mapped size (λ operator. Operate (ByOperator operator) (Two (Register (a_of i)) second swapped) None ToRegisterBefore) (slice_get operators (c_of i - 6)) (λ x. tt)

each : (size : ℕ) (op : Opcode) (i : Instruction) → IsTrue (list_all (λ r. nat_lt r size) (registers op i)) → KeepsIfThere size (form_at op i)
each size MmBin i h = by_handler size (Register (b_of i)) false i
each size MmBinI i h = by_handler size (Integer (sb_of i)) (k_of i) i
each size MmBinK i h = by_handler size (Constant (b_of i)) (k_of i) i
each size Calls i h = let a = lt_of (a_of i) size (both_of (nat_lt (a_of i) size) _ h).0 in omega (arith, a)
each size TForCall i h = let a = lt_of (a_of i + 6) size (both_of (nat_lt (a_of i + 6) size) _ h).0 in omega (arith, a)
each size op i h = tt

pub calls_keep_registers : CallsKeepRegisters
calls_keep_registers W place op i function count keeps iterates s e w there known form =
    let p = place.function.code in
    let rules = rules_at p place.top.own.pc i op (sound_top place s e).checked.code there known in
    record { place = place; is = e; running = w; within = subst (KeepsIfThere p.own.stack) form (each p.own.stack op i rules.registers_there) }
