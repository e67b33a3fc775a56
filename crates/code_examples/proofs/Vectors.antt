-- Bodies whose code is written by hand, and that the code asks as the body does.
use Rattle.std.proofs.Common.{pos, true, false, [], ◌∷◌, refl}
use Rattle.std.specs.Int.{int_wrap}
use Rattle.code_core.specs.Opcode.{opcodes, number_of}
use Rattle.code_core.specs.declared.opcode.Opcode.TheVariants.{Move, LoadFalse, LoadTrue, LoadNil, SetUpval, GetUpval, IDivK, MmBinK, Add, MmBin, Close, Tbc, Test, Call, TailCall, Return, Closure, VarArg, VarArgPrep}
use Rattle.code_core.specs.Instruction.{abc, abx}
use Rattle.code_core.specs.declared.proto.Const.TheVariants.{Int as IntConst}
use Rattle.code_core.specs.Prototype.{Prototype}
use Rattle.int_core.specs.Value.{object, a_table}
use Rattle.int_core.specs.Ask.{values, left}
use Rattle.tree_core.specs.declared.operator.BinOp.TheVariants.{Idiv}
use Rattle.tree_core.specs.Tree.{Body, Vararg}
use Rattle.code_means.proofs.Traces.{number}
use Rattle.tree_terms.proofs.Forms.{declared, closed, of_local, loc, global, int, str, call, bin, block, returning, locals, does, fun, vararg_fun}
use Rattle.code_means.proofs.Forms.{text, variable, load_int, jump, jump_back, AskAlike, tree_asks, code_asks}
use Rattle.code_examples.proofs.Hand.{hand, Compiles, word}
use Rattle.code_means.proofs.Pairs.{one, changes_operand, last_value, closes_at_end}

-- print("hi"), by the words of its chunk
abbrev greets : Body
greets = vararg_fun [] (of_local "_ENV" 0 ∷ []) (block (does (call (global "print") (str "hi" ∷ [])) ∷ []))

greets_code : Compiles greets (hand 0 true 2 (text "print" ∷ text "hi" ∷ []) (("_ENV", 0) ∷ []) [] []
    (word 81 ∷ word 11 ∷ word 32899 ∷ word 16908356 ∷ word 16842822 ∷ []))
unfolding opcodes number_of
greets_code = refl

greeting : AskAlike 4 (tree_asks greets [] (one (number 1) ∷ values [] ∷ []))
    (code_asks (hand 0 true 2 (text "print" ∷ text "hi" ∷ []) (("_ENV", 0) ∷ []) [] [] (word 81 ∷ word 11 ∷ word 32899 ∷ word 16908356 ∷ word 16842822 ∷ [])) [] (one (number 1) ∷ values [] ∷ []))
unfolding opcodes number_of int_wrap
greeting = (refl, refl)

abbrev pub changes_operand_code : Prototype
changes_operand_code = hand 0 true 4 [] [] (variable "a" 2 9 ∷ variable "f" 3 9 ∷ []) (
    hand 0 false 3 [] (("a", 0) ∷ []) [] [] (load_int 2 10 ∷ abc SetUpval 2 0 0 false ∷ load_int 0 1 ∷ abc Return 0 2 0 false ∷ []) ∷ [])
    (abc VarArgPrep 0 0 0 false ∷ load_int 0 1 ∷ abx Closure 1 0
    ∷ abc Move 2 0 0 false ∷ abc Move 3 1 0 false ∷ abc Call 3 1 2 false ∷ abc Add 2 2 3 false ∷ abc MmBin 2 3 6 false ∷ abc Return 2 2 1 true ∷ [])

operand_code : Compiles changes_operand changes_operand_code
unfolding opcodes number_of
operand_code = refl

abbrev pub last_value_code : Prototype
last_value_code = hand 0 true 6 [] [] (variable "f" 2 15 ∷ variable "c" 3 15 ∷ variable "x" 6 11 ∷ [])
    (hand 0 false 1 [] (("x", 2) ∷ []) [] [] (abc GetUpval 0 0 0 false ∷ abc Return 0 2 0 false ∷ []) ∷ [])
    (abc VarArgPrep 0 0 0 false ∷ abc LoadNil 0 0 0 false ∷ abc LoadTrue 1 0 0 false ∷ abc Test 1 0 0 false ∷ jump 7
    ∷ load_int 2 0 ∷ abx Closure 5 0 ∷ abc Move 0 5 0 false ∷ load_int 2 5 ∷ abc LoadFalse 1 0 0 false
    ∷ abc Close 2 0 0 false ∷ jump_back 9 ∷ abc Move 2 0 0 false ∷ abc TailCall 2 1 1 true ∷ abc Return 2 0 1 true ∷ [])

last_code : Compiles last_value last_value_code
unfolding opcodes number_of
last_code = refl

-- function(...) local a,b=... return a,... end
abbrev spreads : Body
spreads = vararg_fun [] [] (returning (locals (declared "a" 0 ∷ declared "b" 1 ∷ []) (Vararg 1 ∷ []) ∷ []) (loc "a" 0 ∷ Vararg 1 ∷ []))

abbrev pub spreads_code : Prototype
spreads_code = hand 0 true 4 [] [] (variable "a" 2 5 ∷ variable "b" 2 5 ∷ []) []
    (abc VarArgPrep 0 0 0 false ∷ abc VarArg 0 0 3 false ∷ abc Move 2 0 0 false ∷ abc VarArg 3 0 0 false ∷ abc Return 2 0 1 true ∷ [])

varargs_code : Compiles spreads spreads_code
unfolding opcodes number_of
varargs_code = refl

varargs : AskAlike 1 (tree_asks spreads (number 1 ∷ number 2 ∷ number 3 ∷ []) []) (code_asks spreads_code (number 1 ∷ number 2 ∷ number 3 ∷ []) [])
unfolding opcodes number_of int_wrap
varargs = (refl, refl)

-- function(v) local x <close> = v return 1//0 end
abbrev faults : Body
faults = fun ("v" ∷ []) [] (returning (locals (closed "x" 1 ∷ []) (loc "v" 0 ∷ []) ∷ []) (bin Idiv (int 1) (int 0) ∷ []))

abbrev pub faults_code : Prototype
faults_code = hand 1 false 3 (IntConst (pos 0) ∷ []) [] (variable "v" 0 6 ∷ variable "x" 1 6 ∷ []) []
    (abc Move 1 0 0 false ∷ abc Tbc 1 0 0 false ∷ load_int 2 1 ∷ abc IDivK 2 2 0 false ∷ abc MmBinK 2 0 12 false ∷ abc Return 2 2 0 true ∷ [])

fault_code : Compiles faults faults_code
unfolding opcodes number_of
fault_code = refl

own_fault : AskAlike 4 (tree_asks faults (object a_table 3 ∷ []) (left (number 5) ∷ values [] ∷ []))
    (code_asks faults_code (object a_table 3 ∷ []) (left (number 5) ∷ values [] ∷ []))
unfolding opcodes number_of int_wrap
own_fault = (refl, refl)

abbrev pub closes_at_end_code : Prototype
closes_at_end_code = hand 2 false 6 [] [] (variable "f" 0 9 ∷ variable "v" 0 9 ∷ variable "x" 1 7 ∷ variable "y" 3 7 ∷ [])
    (hand 0 false 1 [] (("y", 3) ∷ []) [] [] (abc GetUpval 0 0 0 false ∷ abc Return 0 2 0 false ∷ []) ∷ [])
    (abc Move 2 1 0 false ∷ abc Tbc 2 0 0 false ∷ load_int 3 1 ∷ abc Move 4 0 0 false ∷ abx Closure 5 0 ∷ abc Call 4 2 1 false ∷ abc Close 2 0 0 false
    ∷ load_int 2 2 ∷ abc Return 2 2 0 true ∷ [])

closes_code : Compiles closes_at_end closes_at_end_code
unfolding opcodes number_of
closes_code = refl
