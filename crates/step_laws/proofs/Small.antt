-- The numbers that forms name, by the fields of instructions.
use Rattle.std.proofs.Common.{ℕ, ◌+◌, ◌<◌, Option, Some, None, subst, arith, Bool, false}
use Rattle.std.specs.Prelude.{◌/◌, ◌^◌, ◌-◌, slice_get, IsTrue, nat_lt}
use Rattle.std.specs.List.{list_all}
use Rattle.std.specs.Option.{option_map}
use Rattle.std.proofs.Math.Nat.{mod-lt}
use Rattle.code_core.specs.declared.opcode.Opcode.{Opcode}
use Rattle.code_core.specs.declared.opcode.Opcode.TheVariants.{OpSelf, MmBin, MmBinI, MmBinK, Concat, Close as Closes, Tbc, Call as Calls, TailCall as TailCalls, Return as Returns, Return0, Return1, ForLoop, ForPrep, TForPrep, TForCall, TForLoop, SetList, Closure, VarArg}
use Rattle.code_core.specs.declared.instruction.Instruction.{Instruction}
use Rattle.code_core.specs.Instruction.{a_of, b_of, c_of, k_of, bx_of, sb_of}
use Rattle.code_core.specs.Fields.{registers}
use Rattle.machine_sound.proofs.Rules.{rules_at}
use Rattle.machine_sound.proofs.Values.{lt_of, both_of}
use Rattle.instruction_forms.specs.Choice.{operators}
use Rattle.instruction_forms.specs.declared.operand.Operand.{Operand}
use Rattle.instruction_forms.specs.declared.operand.Operand.TheVariants.{Register, Constant, Integer}
use Rattle.instruction_forms.specs.declared.operand.Operands.TheVariants.{Two}
use Rattle.instruction_forms.specs.declared.operand.Operation.TheVariants.{Arithmetic as ByOperator}
use Rattle.instruction_forms.specs.declared.operand.Operator.{Operator}
use Rattle.instruction_forms.specs.declared.form.After.TheVariants.{ToRegisterBefore}
use Rattle.instruction_forms.specs.declared.form.Form.{Form}
use Rattle.instruction_forms.specs.declared.form.Form.TheVariants.{Operate}
use Rattle.instruction_forms.specs.Waiting.{form_at}
use Rattle.step_laws.specs.Small.{IsSmall, FormsAreSmall, IsWithin, FormsAreWithin}

pub a_small : (i : Instruction) → a_of i < 256
a_small i = mod-lt (i.0 / 2 ^ 7) (omega arith)

pub b_small : (i : Instruction) → b_of i < 256
b_small i = mod-lt (i.0 / 2 ^ 16) (omega arith)

c_small : (i : Instruction) → c_of i < 256
c_small i = mod-lt (i.0 / 2 ^ 24) (omega arith)

bx_small : (i : Instruction) → bx_of i < 131072
bx_small i = mod-lt (i.0 / 2 ^ 15) (omega arith)

-- of a form that is there
abbrev SmallIfThere : Option Form → Type 0
SmallIfThere None = Unit {0}
SmallIfThere (Some form) = IsSmall form

abbrev by_handler : Operand → Bool → Instruction → Operator → Form
by_handler second swapped i operator = Operate (ByOperator operator) (Two (Register (a_of i)) second swapped) None ToRegisterBefore

handled_small : (second : Operand) (swapped : Bool) (i : Instruction) (o : Option Operator) → SmallIfThere (option_map (by_handler second swapped i) o)
handled_small second swapped i None = tt
handled_small second swapped i (Some x) = tt

each : (op : Opcode) (i : Instruction) → SmallIfThere (form_at op i)
each MmBin i = handled_small (Register (b_of i)) false i (slice_get operators (c_of i - 6))
each MmBinI i = handled_small (Integer (sb_of i)) (k_of i) i (slice_get operators (c_of i - 6))
each MmBinK i = handled_small (Constant (b_of i)) (k_of i) i (slice_get operators (c_of i - 6))
each Concat i = (a_small i, b_small i)
each Closes i = a_small i
each Tbc i = let a = a_small i in (omega (arith, a), omega arith)
each Calls i = let a = a_small i in (a, b_small i, omega (arith, a))
each TailCalls i = (a_small i, b_small i)
each Returns i = (a_small i, b_small i)
each Return0 i = (a_small i, omega arith)
each Return1 i = (a_small i, omega arith)
each ForLoop i = (a_small i, bx_small i)
each ForPrep i = (a_small i, bx_small i)
each TForPrep i = let a = a_small i in let b = bx_small i in (omega (arith, a), omega (arith, b))
each TForCall i = let a = a_small i in (a, omega arith, omega (arith, a))
each TForLoop i = (a_small i, bx_small i)
each SetList i = (a_small i, b_small i, c_small i)
each Closure i = bx_small i
each VarArg i = (a_small i, c_small i)
each op i = tt

pub forms_are_small : FormsAreSmall
forms_are_small op i form e = subst SmallIfThere e (each op i)

-- registers of checked code

abbrev WithinIfThere : (stack : ℕ) → Option Form → Type 0
WithinIfThere stack None = Unit {0}
WithinIfThere stack (Some form) = IsWithin stack form

handled_within : (stack : ℕ) (second : Operand) (swapped : Bool) (i : Instruction) (o : Option Operator) → WithinIfThere stack (option_map (by_handler second swapped i) o)
handled_within stack second swapped i None = tt
handled_within stack second swapped i (Some x) = tt

abbrev AreThere : (stack : ℕ) → Opcode → Instruction → Type 0
AreThere stack op i = IsTrue (list_all (λ r. nat_lt r stack) (registers op i))

each_within : (stack : ℕ) (op : Opcode) (i : Instruction) → AreThere stack op i → WithinIfThere stack (form_at op i)
each_within stack MmBin i h = handled_within stack (Register (b_of i)) false i (slice_get operators (c_of i - 6))
each_within stack MmBinI i h = handled_within stack (Integer (sb_of i)) (k_of i) i (slice_get operators (c_of i - 6))
each_within stack MmBinK i h = handled_within stack (Constant (b_of i)) (k_of i) i (slice_get operators (c_of i - 6))
each_within stack OpSelf i h = lt_of _ _ (both_of (nat_lt (a_of i + 1) stack) _ h).0
each_within stack Calls i h = let l = lt_of _ _ (both_of (nat_lt (a_of i) stack) _ h).0 in omega (arith, l)
each_within stack TForCall i h = let l = lt_of _ _ (both_of (nat_lt (a_of i + 6) stack) _ h).0 in omega (arith, l)
each_within stack Return0 i h = omega arith
each_within stack Return1 i h = let l = lt_of _ _ (both_of (nat_lt (a_of i) stack) _ h).0 in omega (arith, l)
each_within stack op i h = tt

pub forms_are_within : FormsAreWithin
forms_are_within W k form e =
    let p = k.place.function.code in
    let r = rules_at p k.place.top.own.pc k.instruction k.opcode k.checked.code k.at_pc k.is_opcode in
    subst (WithinIfThere p.own.stack) e (each_within p.own.stack k.opcode k.instruction r.registers_there)
