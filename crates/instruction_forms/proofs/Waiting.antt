-- What is left of an instruction that waits, by its form.
use Rattle.std.proofs.Common.{◌≡◌, ℕ, ◌-◌, Option, Some, None, refl, ap, sym, Bool, true, false}
use Rattle.std.specs.Prelude.{slice_get, IsTrue}
use Rattle.std.specs.Option.{option_map}
use Rattle.code_core.specs.declared.opcode.Opcode.{Opcode}
use Rattle.code_core.specs.declared.opcode.Opcode.TheVariants.{GetTabUp, GetTable, GetI, GetField, SetTabUp, SetTable, SetI, SetField, OpSelf, MmBin, MmBinI, MmBinK, Unm, BNot, Len, Concat, Close, Eq, Lt, Le, EqK, EqI, LtI, LeI, GtI, GeI, Call, Return, Return0, Return1, TForCall}
use Rattle.code_core.specs.declared.instruction.Instruction.{Instruction}
use Rattle.code_core.specs.Instruction.{a_of, b_of, c_of, k_of, sb_of}
use Rattle.code_core.specs.Prototype.{Prototype}
use Rattle.int_core.specs.Value.{Value}
use Rattle.machine_core.specs.World.{Wait, running, for_call, for_iterator, for_value, for_truth, dropped, for_concat, for_close, returning, leaving}
use Rattle.machine_core.specs.Text.{Text}
use Rattle.machine_core.specs.InstructionRows.{rest, to_register_before}
use Rattle.machine_sound.specs.Sound.{waits_at}
use Rattle.machine_sound.proofs.Lists.{some_is}
use Rattle.instruction_forms.specs.declared.operand.Operand.{Operand}
use Rattle.instruction_forms.specs.declared.operand.Operand.TheVariants.{Register, Constant, Integer}
use Rattle.instruction_forms.specs.declared.operand.Operator.{Operator}
use Rattle.instruction_forms.specs.declared.form.Form.{Form}
use Rattle.instruction_forms.specs.Choice.{operators}
use Rattle.instruction_forms.specs.Waiting.{handled, form_at, rest_of}
use Rattle.instruction_forms.proofs.Rows.{handler_form}

of_form : {a b : Form} (f : Form → Text) → Some a ≡ Some b → f b ≡ f a
of_form {a} f e = ap f (sym (some_is {o = Some a} refl e))

-- a handler's value goes to the register of the instruction in front
before : (p : Prototype) (pc : ℕ) (i : Instruction) (second : Operand) (swapped : Bool) (form : Form) → handled second swapped i ≡ Some form → rest_of for_value p pc i form ≡ to_register_before p pc
before p pc i second swapped form e = by (slice_get operators (c_of i - 6)) e
  where
    by : (o : Option Operator) → option_map (handler_form (a_of i) second swapped) o ≡ Some form → rest_of for_value p pc i form ≡ to_register_before p pc
    by None q = absurd (cc)
    by (Some operator) q = of_form (rest_of for_value p pc i) q

pub rest_has_form : (wait : Wait Value) (op : Opcode) (i : Instruction) (form : Form) (p : Prototype) (pc : ℕ) → form_at op i ≡ Some form → IsTrue (waits_at wait op i) → rest_of wait p pc i form ≡ rest wait p pc op i
rest_has_form for_call Call i form p pc e h = of_form (rest_of for_call p pc i) e
rest_has_form for_iterator TForCall i form p pc e h = of_form (rest_of for_iterator p pc i) e
rest_has_form for_value GetTabUp i form p pc e h = of_form (rest_of for_value p pc i) e
rest_has_form for_value GetTable i form p pc e h = of_form (rest_of for_value p pc i) e
rest_has_form for_value GetI i form p pc e h = of_form (rest_of for_value p pc i) e
rest_has_form for_value GetField i form p pc e h = of_form (rest_of for_value p pc i) e
rest_has_form for_value OpSelf i form p pc e h = of_form (rest_of for_value p pc i) e
rest_has_form for_value Unm i form p pc e h = of_form (rest_of for_value p pc i) e
rest_has_form for_value BNot i form p pc e h = of_form (rest_of for_value p pc i) e
rest_has_form for_value Len i form p pc e h = of_form (rest_of for_value p pc i) e
rest_has_form for_value MmBin i form p pc e h = before p pc i (Register (b_of i)) false form e
rest_has_form for_value MmBinI i form p pc e h = before p pc i (Integer (sb_of i)) (k_of i) form e
rest_has_form for_value MmBinK i form p pc e h = before p pc i (Constant (b_of i)) (k_of i) form e
rest_has_form for_truth Eq i form p pc e h = of_form (rest_of for_truth p pc i) e
rest_has_form for_truth Lt i form p pc e h = of_form (rest_of for_truth p pc i) e
rest_has_form for_truth Le i form p pc e h = of_form (rest_of for_truth p pc i) e
rest_has_form for_truth EqK i form p pc e h = of_form (rest_of for_truth p pc i) e
rest_has_form for_truth EqI i form p pc e h = of_form (rest_of for_truth p pc i) e
rest_has_form for_truth LtI i form p pc e h = of_form (rest_of for_truth p pc i) e
rest_has_form for_truth LeI i form p pc e h = of_form (rest_of for_truth p pc i) e
rest_has_form for_truth GtI i form p pc e h = of_form (rest_of for_truth p pc i) e
rest_has_form for_truth GeI i form p pc e h = of_form (rest_of for_truth p pc i) e
rest_has_form dropped SetTabUp i form p pc e h = of_form (rest_of dropped p pc i) e
rest_has_form dropped SetTable i form p pc e h = of_form (rest_of dropped p pc i) e
rest_has_form dropped SetI i form p pc e h = of_form (rest_of dropped p pc i) e
rest_has_form dropped SetField i form p pc e h = of_form (rest_of dropped p pc i) e
rest_has_form (for_concat left) Concat i form p pc e h = of_form (rest_of (for_concat left) p pc i) e
rest_has_form for_close Close i form p pc e h = of_form (rest_of for_close p pc i) e
rest_has_form (returning count) Return i form p pc e h = of_form (rest_of (returning count) p pc i) e
rest_has_form (returning count) Return0 i form p pc e h = of_form (rest_of (returning count) p pc i) e
rest_has_form (returning count) Return1 i form p pc e h = of_form (rest_of (returning count) p pc i) e
rest_has_form (leaving v) op i form p pc e h = refl
rest_has_form _ _ i form p pc e h = absurd (cc)
