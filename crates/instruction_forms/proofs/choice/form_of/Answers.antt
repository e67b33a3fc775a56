use Rattle.std.proofs.Common.{rules, ◌≡◌, false, ap, ap₂, sym, ◌∙◌}
use Rattle.code_core.specs.Instruction.{a_of, b_of, c_of, k_of, sb_of}
use Rattle.machine_core.specs.InstructionRows.{row_of, with_loop, goes_round}
use Rattle.instruction_forms.specs.Forms.{text_of}
use Rattle.instruction_forms.specs.Waiting.{form_at}
use Rattle.instruction_forms.specs.declared.operand.Operand.TheVariants.{Register, Constant, Upvalue, Integer}
use Rattle.instruction_forms.specs.declared.operand.Operation.TheVariants.{Equal, Less, LessEqual}
use Rattle.instruction_forms.proofs.Rows.{store_form, stores, comparison_has_form, handler_choice, handler_has_form, handler_has_none}
use Rattle.instruction_forms.proofs.choice.form_of.Goals as goal

pub returns-in-SetTabUp-clause-form : goal.returns-in-SetTabUp-clause-form
returns-in-SetTabUp-clause-form c =
    let i = c.args.i in
    let e : c.store.result ≡ store_form (Upvalue (a_of i)) (Constant (b_of i)) (k_of i) (c_of i) = search rules in
    λ p pc. ap (text_of p pc) e ∙ stores p pc (Upvalue (a_of i)) (Constant (b_of i)) (k_of i) (c_of i) ∙ ap (λ op. row_of p pc op c.args.i) (sym c.in-SetTabUp.is)

pub returns-in-SetTable-clause-form : goal.returns-in-SetTable-clause-form
returns-in-SetTable-clause-form c =
    let i = c.args.i in
    let e : c.store-in-SetTable.result ≡ store_form (Register (a_of i)) (Register (b_of i)) (k_of i) (c_of i) = search rules in
    λ p pc. ap (text_of p pc) e ∙ stores p pc (Register (a_of i)) (Register (b_of i)) (k_of i) (c_of i) ∙ ap (λ op. row_of p pc op c.args.i) (sym c.in-SetTable.is)

pub returns-in-SetField-clause-form : goal.returns-in-SetField-clause-form
returns-in-SetField-clause-form c =
    let i = c.args.i in
    let e : c.store-in-SetField.result ≡ store_form (Register (a_of i)) (Constant (b_of i)) (k_of i) (c_of i) = search rules in
    λ p pc. ap (text_of p pc) e ∙ stores p pc (Register (a_of i)) (Constant (b_of i)) (k_of i) (c_of i) ∙ ap (λ op. row_of p pc op c.args.i) (sym c.in-SetField.is)

pub returns-in-Eq-clause-form : goal.returns-in-Eq-clause-form
returns-in-Eq-clause-form c = comparison_has_form c.args.op c.args.i Equal (Register (b_of c.args.i)) c.compare.result (search rules) (λ p pc. ap (λ op. row_of p pc op c.args.i) (sym c.in-Eq.is))

pub returns-in-Lt-clause-form : goal.returns-in-Lt-clause-form
returns-in-Lt-clause-form c = comparison_has_form c.args.op c.args.i Less (Register (b_of c.args.i)) c.compare-in-Lt.result (search rules) (λ p pc. ap (λ op. row_of p pc op c.args.i) (sym c.in-Lt.is))

pub returns-in-Le-clause-form : goal.returns-in-Le-clause-form
returns-in-Le-clause-form c = comparison_has_form c.args.op c.args.i LessEqual (Register (b_of c.args.i)) c.compare-in-Le.result (search rules) (λ p pc. ap (λ op. row_of p pc op c.args.i) (sym c.in-Le.is))

pub returns-in-EqK-clause-form : goal.returns-in-EqK-clause-form
returns-in-EqK-clause-form c = comparison_has_form c.args.op c.args.i Equal (Constant (b_of c.args.i)) c.compare-in-EqK.result (search rules) (λ p pc. ap (λ op. row_of p pc op c.args.i) (sym c.in-EqK.is))

pub returns-in-ForLoop-clause-form : goal.returns-in-ForLoop-clause-form
returns-in-ForLoop-clause-form c = λ p pc. ap₂ (λ a bx. with_loop a (goes_round a bx)) c.a-in-ForLoop.ensures c.bx-in-ForLoop.ensures ∙ ap (λ op. row_of p pc op c.args.i) (sym c.in-ForLoop.is)

pub returns-in-MmBin-clause-form : goal.returns-in-MmBin-clause-form
returns-in-MmBin-clause-form c = handler_has_form c.args.op c.args.i (Register (b_of c.args.i)) false c.handled.result (search rules) (λ p pc. ap (λ op. row_of p pc op c.args.i) (sym c.in-MmBin.is))

pub returns-in-MmBin-clause-none : goal.returns-in-MmBin-clause-none
returns-in-MmBin-clause-none c = handler_has_none c.args.op c.args.i (Register (b_of c.args.i)) false c.handled.result (search rules) (λ p pc. ap (λ op. row_of p pc op c.args.i) (sym c.in-MmBin.is))

pub returns-in-MmBinI-clause-form : goal.returns-in-MmBinI-clause-form
returns-in-MmBinI-clause-form c = handler_has_form c.args.op c.args.i (Integer (sb_of c.args.i)) (k_of c.args.i) c.handled-in-MmBinI.result (search rules) (λ p pc. ap (λ op. row_of p pc op c.args.i) (sym c.in-MmBinI.is))

pub returns-in-MmBinI-clause-none : goal.returns-in-MmBinI-clause-none
returns-in-MmBinI-clause-none c = handler_has_none c.args.op c.args.i (Integer (sb_of c.args.i)) (k_of c.args.i) c.handled-in-MmBinI.result (search rules) (λ p pc. ap (λ op. row_of p pc op c.args.i) (sym c.in-MmBinI.is))

pub returns-in-MmBinI-clause-is : goal.returns-in-MmBinI-clause-is
returns-in-MmBinI-clause-is c =
    let e : c.handled-in-MmBinI.result ≡ handler_choice c.args.i (Integer (sb_of c.args.i)) (k_of c.args.i) = search rules in
    e ∙ ap (λ op. form_at op c.args.i) (sym c.in-MmBinI.is)

pub returns-in-MmBinK-clause-form : goal.returns-in-MmBinK-clause-form
returns-in-MmBinK-clause-form c = handler_has_form c.args.op c.args.i (Constant (b_of c.args.i)) (k_of c.args.i) c.handled-in-MmBinK.result (search rules) (λ p pc. ap (λ op. row_of p pc op c.args.i) (sym c.in-MmBinK.is))

pub returns-in-MmBinK-clause-none : goal.returns-in-MmBinK-clause-none
returns-in-MmBinK-clause-none c = handler_has_none c.args.op c.args.i (Constant (b_of c.args.i)) (k_of c.args.i) c.handled-in-MmBinK.result (search rules) (λ p pc. ap (λ op. row_of p pc op c.args.i) (sym c.in-MmBinK.is))
