-- The form of each instruction as a table, and what is left of an instruction of a form when the answer comes for which its frame waits.
use Rattle.std.specs.Prelude.{◌≡◌, ℕ, ◌+◌, ◌-◌, pos, Bool, true, false, cond, Option, Some, None, slice_get, IsTrue}
use Rattle.std.specs.Option.{option_map}
use Rattle.code_core.specs.declared.opcode.Opcode.{Opcode}
use Rattle.code_core.specs.declared.opcode.Opcode.TheVariants.{Move, LoadI, LoadK, LoadKx, LoadFalse, LFalseSkip, LoadTrue, LoadNil, GetUpval, SetUpval, GetTabUp, GetTable, GetI, GetField, SetTabUp, SetTable, SetI, SetField, NewTable as MakesTable, OpSelf, AddI, AddK, SubK, MulK, ModK, IDivK, BAndK, BOrK, BXorK, ShrI, ShlI, Add, Sub, Mul, Mod, IDiv, BAnd, BOr, BXor, Shl, Shr, MmBin, MmBinI, MmBinK, Unm, BNot, Not, Len, Concat, Close as Closes, Tbc, Jmp, Eq, Lt, Le, EqK, EqI, LtI, LeI, GtI, GeI, Test as TestsTruth, TestSet as TestsAndSets, Call as Calls, TailCall as TailCalls, Return as Returns, Return0, Return1, ForLoop, ForPrep, TForPrep, TForCall, TForLoop, SetList, Closure, VarArg, VarArgPrep}
use Rattle.code_core.specs.declared.instruction.Instruction.{Instruction}
use Rattle.code_core.specs.Instruction.{a_of, b_of, c_of, k_of, bx_of, sbx_of, sj_of, sb_of, sc_of}
use Rattle.code_core.specs.Prototype.{Prototype}
use Rattle.int_core.specs.Value.{Value}
use Rattle.machine_core.specs.World.{Wait, running, for_call, for_iterator, for_value, for_truth, dropped, for_concat, for_close, returning, leaving}
use Rattle.machine_core.specs.Text.{read, Text, trap}
use Rattle.machine_core.specs.InstructionRows.{write_values, joins, closes, returns, fails, rest}
use Rattle.machine_sound.specs.Sound.{waits_at}
use Rattle.instruction_forms.specs.declared.operand.Operand.{Operand}
use Rattle.instruction_forms.specs.declared.operand.Operand.TheVariants.{Register, Constant, Upvalue, Integer, Truth}
use Rattle.instruction_forms.specs.declared.operand.Operands.{Operands}
use Rattle.instruction_forms.specs.declared.operand.Operands.TheVariants.{One, Twice, Two, Three}
use Rattle.instruction_forms.specs.declared.operand.Operator.{Operator}
use Rattle.instruction_forms.specs.declared.operand.Operator.TheVariants.{Add as Plus, Sub as Minus, Mul as Times, Mod as Modulo, IDiv as Over, BAnd as And, BOr as Or, BXor as Xor, Shl as Left, Shr as Right, Unm as Minus1, BNot as Not1}
use Rattle.instruction_forms.specs.declared.operand.Operation.{Operation}
use Rattle.instruction_forms.specs.declared.operand.Operation.TheVariants.{Index, Store, Arithmetic as ByOperator, Length, Equal, Less, LessEqual}
use Rattle.instruction_forms.specs.declared.form.After.{After}
use Rattle.instruction_forms.specs.declared.form.After.TheVariants.{ToRegister, ToRegisterBefore, Next as NoValue, Tests}
use Rattle.instruction_forms.specs.declared.form.Form.{Form}
use Rattle.instruction_forms.specs.declared.form.Form.TheVariants.{Next, Load, LoadFar, Clear, StoreUpvalue, Operate, Arithmetic, Negate, Concatenate, Close, Mark, Jump, Test, TestSet, StartLoop, Loop, LoopOver, Call, TailCall, Return, ReturnSome, NewTable, FillTable, NewFunction, ExtraArguments}
use Rattle.instruction_forms.specs.Choice.{operators}
use Rattle.instruction_forms.specs.Forms.{follows}

-- C is a constant with k
abbrev pub register_or_constant : Instruction → Operand
register_or_constant i = cond (k_of i) (Constant (c_of i)) (Register (c_of i))

abbrev pub gets : Operand → Operand → Instruction → Form
gets o key i = Operate Index (Two o key false) None (ToRegister (a_of i))

abbrev pub sets : Operand → Operand → Instruction → Form
sets o key i = Operate Store (Three o key (register_or_constant i)) None NoValue

abbrev pub on_one : Operation → Operands → Instruction → Form
on_one operation xs i = Operate operation xs None (ToRegister (a_of i))

abbrev pub compares : Operation → Operand → Operand → Instruction → Form
compares operation x y i = Operate operation (Two x y false) None (Tests (k_of i))

abbrev pub handled : Operand → Bool → Instruction → Option Form
handled second swapped i = option_map (λ operator. Operate (ByOperator operator) (Two (Register (a_of i)) second swapped) None ToRegisterBefore) (slice_get operators (c_of i - 6))

abbrev pub form_at : Opcode → Instruction → Option Form
form_at Move i = Some (Load (Register (b_of i)) (a_of i) false)
form_at LoadI i = Some (Load (Integer (sbx_of i)) (a_of i) false)
form_at LoadK i = Some (Load (Constant (bx_of i)) (a_of i) false)
form_at LoadKx i = Some (LoadFar (a_of i))
form_at LoadFalse i = Some (Load (Truth false) (a_of i) false)
form_at LFalseSkip i = Some (Load (Truth false) (a_of i) true)
form_at LoadTrue i = Some (Load (Truth true) (a_of i) false)
form_at LoadNil i = Some (Clear (a_of i) (b_of i + 1))
form_at GetUpval i = Some (Load (Upvalue (b_of i)) (a_of i) false)
form_at SetUpval i = Some (StoreUpvalue (a_of i) (b_of i))
form_at GetTabUp i = Some (gets (Upvalue (b_of i)) (Constant (c_of i)) i)
form_at GetTable i = Some (gets (Register (b_of i)) (Register (c_of i)) i)
form_at GetI i = Some (gets (Register (b_of i)) (Integer (pos (c_of i))) i)
form_at GetField i = Some (gets (Register (b_of i)) (Constant (c_of i)) i)
form_at SetTabUp i = Some (sets (Upvalue (a_of i)) (Constant (b_of i)) i)
form_at SetTable i = Some (sets (Register (a_of i)) (Register (b_of i)) i)
form_at SetI i = Some (sets (Register (a_of i)) (Integer (pos (b_of i))) i)
form_at SetField i = Some (sets (Register (a_of i)) (Constant (b_of i)) i)
form_at MakesTable i = Some (NewTable (a_of i))
form_at OpSelf i = Some (Operate Index (Two (Register (b_of i)) (register_or_constant i) false) (Some (a_of i + 1)) (ToRegister (a_of i)))
form_at AddI i = Some (Arithmetic Plus (Register (b_of i)) (Integer (sc_of i)) (a_of i))
form_at AddK i = Some (Arithmetic Plus (Register (b_of i)) (Constant (c_of i)) (a_of i))
form_at SubK i = Some (Arithmetic Minus (Register (b_of i)) (Constant (c_of i)) (a_of i))
form_at MulK i = Some (Arithmetic Times (Register (b_of i)) (Constant (c_of i)) (a_of i))
form_at ModK i = Some (Arithmetic Modulo (Register (b_of i)) (Constant (c_of i)) (a_of i))
form_at IDivK i = Some (Arithmetic Over (Register (b_of i)) (Constant (c_of i)) (a_of i))
form_at BAndK i = Some (Arithmetic And (Register (b_of i)) (Constant (c_of i)) (a_of i))
form_at BOrK i = Some (Arithmetic Or (Register (b_of i)) (Constant (c_of i)) (a_of i))
form_at BXorK i = Some (Arithmetic Xor (Register (b_of i)) (Constant (c_of i)) (a_of i))
form_at ShrI i = Some (Arithmetic Right (Register (b_of i)) (Integer (sc_of i)) (a_of i))
form_at ShlI i = Some (Arithmetic Left (Integer (sc_of i)) (Register (b_of i)) (a_of i))
form_at Add i = Some (Arithmetic Plus (Register (b_of i)) (Register (c_of i)) (a_of i))
form_at Sub i = Some (Arithmetic Minus (Register (b_of i)) (Register (c_of i)) (a_of i))
form_at Mul i = Some (Arithmetic Times (Register (b_of i)) (Register (c_of i)) (a_of i))
form_at Mod i = Some (Arithmetic Modulo (Register (b_of i)) (Register (c_of i)) (a_of i))
form_at IDiv i = Some (Arithmetic Over (Register (b_of i)) (Register (c_of i)) (a_of i))
form_at BAnd i = Some (Arithmetic And (Register (b_of i)) (Register (c_of i)) (a_of i))
form_at BOr i = Some (Arithmetic Or (Register (b_of i)) (Register (c_of i)) (a_of i))
form_at BXor i = Some (Arithmetic Xor (Register (b_of i)) (Register (c_of i)) (a_of i))
form_at Shl i = Some (Arithmetic Left (Register (b_of i)) (Register (c_of i)) (a_of i))
form_at Shr i = Some (Arithmetic Right (Register (b_of i)) (Register (c_of i)) (a_of i))
form_at MmBin i = handled (Register (b_of i)) false i
form_at MmBinI i = handled (Integer (sb_of i)) (k_of i) i
form_at MmBinK i = handled (Constant (b_of i)) (k_of i) i
form_at Unm i = Some (on_one (ByOperator Minus1) (Twice (Register (b_of i))) i)
form_at BNot i = Some (on_one (ByOperator Not1) (Twice (Register (b_of i))) i)
form_at Not i = Some (Negate (b_of i) (a_of i))
form_at Len i = Some (on_one Length (One (Register (b_of i))) i)
form_at Concat i = Some (Concatenate (a_of i) (b_of i))
form_at Closes i = Some (Close (a_of i))
form_at Tbc i = Some (Mark (a_of i) 1)
form_at Jmp i = Some (Jump (sj_of i))
form_at Eq i = Some (compares Equal (Register (a_of i)) (Register (b_of i)) i)
form_at Lt i = Some (compares Less (Register (a_of i)) (Register (b_of i)) i)
form_at Le i = Some (compares LessEqual (Register (a_of i)) (Register (b_of i)) i)
form_at EqK i = Some (compares Equal (Register (a_of i)) (Constant (b_of i)) i)
form_at EqI i = Some (compares Equal (Register (a_of i)) (Integer (sb_of i)) i)
form_at LtI i = Some (compares Less (Register (a_of i)) (Integer (sb_of i)) i)
form_at LeI i = Some (compares LessEqual (Register (a_of i)) (Integer (sb_of i)) i)
form_at GtI i = Some (compares Less (Integer (sb_of i)) (Register (a_of i)) i)
form_at GeI i = Some (compares LessEqual (Integer (sb_of i)) (Register (a_of i)) i)
form_at TestsTruth i = Some (Test (a_of i) (k_of i))
form_at TestsAndSets i = Some (TestSet (b_of i) (a_of i) (k_of i))
form_at Calls i = Some (Call (a_of i) (b_of i) (a_of i) false)
form_at TailCalls i = Some (TailCall (a_of i) (b_of i))
form_at Returns i = Some (Return (a_of i) (b_of i))
form_at Return0 i = Some (ReturnSome (a_of i) 0)
form_at Return1 i = Some (ReturnSome (a_of i) 1)
form_at ForLoop i = Some (Loop (a_of i) (bx_of i))
form_at ForPrep i = Some (StartLoop (a_of i) (bx_of i))
form_at TForPrep i = Some (Mark (a_of i + 3) (bx_of i + 1))
form_at TForCall i = Some (Call (a_of i) 3 (a_of i + 4) true)
form_at TForLoop i = Some (LoopOver (a_of i) (bx_of i))
form_at SetList i = Some (FillTable (a_of i) (b_of i) (c_of i) (k_of i))
form_at Closure i = Some (NewFunction (bx_of i) (a_of i))
form_at VarArg i = Some (ExtraArguments (a_of i) (c_of i))
form_at VarArgPrep i = Some Next
form_at _ i = None

-- how many results a call keeps stands in its word alone
abbrev pub rest_of : Wait Value → Prototype → ℕ → Instruction → Form → Text
rest_of for_call p pc i (Call function count keeps iterates) = write_values function (c_of i) 0
rest_of for_iterator p pc i (Call function count keeps iterates) = write_values keeps (c_of i + 1) 0
rest_of for_value p pc i (Operate operation xs also after) = follows p pc after
rest_of for_truth p pc i (Operate operation xs also after) = follows p pc after
rest_of dropped p pc i (Operate operation xs also after) = follows p pc after
rest_of (for_concat left) p pc i (Concatenate first count) = joins first left (read 0)
rest_of for_close p pc i (Close from) = closes from
rest_of (returning results) p pc i (Return from count) = returns from results
rest_of (returning results) p pc i (ReturnSome from count) = returns from results
rest_of (leaving e) p pc i form = fails
rest_of _ p pc i form = trap

-- it is what the machine does, where the instruction is one that waits so
abbrev pub RestsHaveForms : Type 0
RestsHaveForms = (op : Opcode) (i : Instruction) (form : Form) → form_at op i ≡ Some form
    → (wait : Wait Value) (p : Prototype) (pc : ℕ) → IsTrue (waits_at wait op i) → rest_of wait p pc i form ≡ rest wait p pc op i
