-- Rows whose form hangs on a flag or a number of the instruction's word.
use Rattle.std.proofs.Common.{◌≡◌, ℕ, ◌-◌, List, ◌++◌, length, Option, Some, None, refl, ap, sym, subst, ◌∙◌, Bool, true, false, IfSome, IfNone}
use Rattle.std.specs.Prelude.{cond, slice_get}
use Rattle.std.specs.Option.{option_map}
use Rattle.std.proofs.lemmas.Option.{slice_get-map}
use Rattle.code_core.specs.declared.opcode.Opcode.{Opcode}
use Rattle.code_core.specs.declared.instruction.Instruction.{Instruction}
use Rattle.code_core.specs.Instruction.{a_of, c_of}
use Rattle.code_core.specs.Prototype.{Prototype}
use Rattle.int_core.specs.Operations.{Event}
use Rattle.int_core.specs.Value.{boolean, integer, Value}
use Rattle.machine_core.specs.World.{World}
use Rattle.machine_core.specs.Text.{Arg, read, written, read_register, read_constant, read_upvalue, Text, own, trap}
use Rattle.machine_core.specs.InstructionRows.{row_of, sets, event_numbered, handled, swapped}
use Rattle.machine_core.specs.FrameRows.{When, expand_by}
use Rattle.machine_core.specs.Moves.{Move, Told, Row, act, on_own, outside, Made, move, Outcome, trapped, run}
use Rattle.instruction_forms.specs.declared.operand.Operand.{Operand}
use Rattle.instruction_forms.specs.declared.operand.Operand.TheVariants.{Register, Constant, Upvalue, Integer, Truth}
use Rattle.instruction_forms.specs.declared.operand.Operands.TheVariants.{Two, Three}
use Rattle.instruction_forms.specs.declared.operand.Operator.{Operator}
use Rattle.instruction_forms.specs.declared.operand.Operation.{Operation}
use Rattle.instruction_forms.specs.declared.operand.Operation.TheVariants.{Store, Arithmetic as ByOperator}
use Rattle.instruction_forms.specs.declared.form.After.TheVariants.{ToRegisterBefore, Next as NoValue}
use Rattle.instruction_forms.specs.declared.form.Form.{Form}
use Rattle.instruction_forms.specs.declared.form.Form.TheVariants.{Operate}
use Rattle.instruction_forms.specs.Forms.{event_of, text_of, with_operand}
use Rattle.instruction_forms.specs.Choice.{IsNone, operators}
use Rattle.instruction_forms.specs.Waiting.{compares}

-- C is a constant with k

abbrev pub flagged : Bool → ℕ → Operand
flagged k c = cond k (Constant c) (Register c)

abbrev pub store_form : Operand → Operand → Bool → ℕ → Form
store_form x y k c = Operate Store (Three x y (flagged k c)) None NoValue

abbrev value_read : Bool → ℕ → Arg → Arg → Text
value_read k c o key = cond k (own (read_constant c) (λ v _. sets o key (read v))) (own (read_register c) (λ v _. sets o key (read v)))

pub stores : (p : Prototype) (pc : ℕ) (x y : Operand) (k : Bool) (c : ℕ) → text_of p pc (store_form x y k c) ≡ with_operand x (λ v. with_operand y (λ w. value_read k c v w))
stores p pc x y true c = refl
stores p pc x y false c = refl

-- a comparison of the register A
pub comparison_has_form : (op : Opcode) (w : Instruction) (operation : Operation) (second : Operand) (form : Form) → form ≡ compares operation (Register (a_of w)) second w
    → ((p : Prototype) (pc : ℕ) → text_of p pc (compares operation (Register (a_of w)) second w) ≡ row_of p pc op w) → (p : Prototype) (pc : ℕ) → text_of p pc form ≡ row_of p pc op w
comparison_has_form op w operation second form e row p pc = ap (text_of p pc) e ∙ row p pc

-- handlers by their numbers

abbrev event_at : ℕ → Option Event
event_at n = option_map event_of (slice_get operators (n - 6))

events : (n : ℕ) → event_numbered n ≡ event_at n
events n = slice_get-map event_of operators (n - 6)

abbrev handler_row : Prototype → ℕ → Instruction → Operand → Bool → Option Event → Text
handler_row p pc w second swap event = own (read_register (a_of w)) (λ x _. with_operand second (λ y. handled p pc w event (swapped swap (read x) y)))

abbrev pub handler_form : ℕ → Operand → Bool → Operator → Form
handler_form a second swap operator = Operate (ByOperator operator) (Two (Register a) second swap) None ToRegisterBefore

abbrev pub handler_choice : Instruction → Operand → Bool → Option Form
handler_choice w second swap = option_map (handler_form (a_of w) second swap) (slice_get operators (c_of w - 6))

act_traps : (m : Move) (k : ℕ → Told m → Row) (env : List Value) (W : World) → ((n : ℕ) (s : Told m) (env : List Value) (V : World) → run (k n s) env V ≡ trapped) → run (act m k) env W ≡ trapped
act_traps m k env W again = by (move m env W)
  where
    by : (o : Option (Made (Told m))) → elim o as (λ _. Outcome) [ None ↦ trapped | Some d ↦ run (k (length env) d.told) (env ++ d.values) d.world ] ≡ trapped
    by None = refl
    by (Some d) = again (length env) d.told (env ++ d.values) d.world

operand_traps : (when : When) (x : Operand) (k : Arg → Text) → ((v : Arg) (env : List Value) (W : World) → run (expand_by when (k v)) env W ≡ trapped)
    → (env : List Value) (W : World) → run (expand_by when (with_operand x k)) env W ≡ trapped
operand_traps when (Register r) k t env W = act_traps (on_own (read_register r)) (λ n _. expand_by when (k (read n))) env W (λ n s. t (read n))
operand_traps when (Constant c) k t env W = act_traps (on_own (read_constant c)) (λ n _. expand_by when (k (read n))) env W (λ n s. t (read n))
operand_traps when (Upvalue u) k t env W = act_traps (outside (read_upvalue u)) (λ n _. expand_by when (k (read n))) env W (λ n s. t (read n))
operand_traps when (Integer n) k t env W = t (written (integer n)) env W
operand_traps when (Truth b) k t env W = t (written (boolean b)) env W

-- the row is that of the operator's number
abbrev pub HandlerRow : Opcode → Instruction → Operand → Bool → Type 0
HandlerRow op w second swap = (p : Prototype) (pc : ℕ) → handler_row p pc w second swap (event_numbered (c_of w)) ≡ row_of p pc op w

pub handler_has_form : (op : Opcode) (w : Instruction) (second : Operand) (swap : Bool) (result : Option Form) → result ≡ handler_choice w second swap → HandlerRow op w second swap
    → IfSome result (λ form. (p : Prototype) (pc : ℕ) → text_of p pc form ≡ row_of p pc op w)
handler_has_form op w second swap result e row = subst (λ r. IfSome r (λ form. (p : Prototype) (pc : ℕ) → text_of p pc form ≡ row_of p pc op w)) (sym e) (by (slice_get operators (c_of w - 6)) refl)
  where
    by : (o : Option Operator) → slice_get operators (c_of w - 6) ≡ o → IfSome (option_map (handler_form (a_of w) second swap) o) (λ form. (p : Prototype) (pc : ℕ) → text_of p pc form ≡ row_of p pc op w)
    by None q = tt
    by (Some operator) q = λ p pc. ap (handler_row p pc w second swap) (sym (events (c_of w) ∙ ap (option_map event_of) q)) ∙ row p pc

pub handler_has_none : (op : Opcode) (w : Instruction) (second : Operand) (swap : Bool) (result : Option Form) → result ≡ handler_choice w second swap → HandlerRow op w second swap
    → IfNone result (IsNone op w)
handler_has_none op w second swap result e row = subst (λ r. IfNone r (IsNone op w)) (sym e) (by (slice_get operators (c_of w - 6)) refl)
  where
    by : (o : Option Operator) → slice_get operators (c_of w - 6) ≡ o → IfNone (option_map (handler_form (a_of w) second swap) o) (IsNone op w)
    by (Some operator) q = tt
    by None q = λ p pc when env W.
        ap (λ t. run (expand_by when t) env W) (sym (ap (handler_row p pc w second swap) (sym (events (c_of w) ∙ ap (option_map event_of) q)) ∙ row p pc))
        ∙ act_traps (on_own (read_register (a_of w))) (λ n _. expand_by when (with_operand second (λ y. trap))) env W (λ n s. operand_traps when second (λ y. trap) (λ v env W. refl))
