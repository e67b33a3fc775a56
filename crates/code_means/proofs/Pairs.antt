-- Trees and codes that are written by hand, and that they ask the same. Every operand has a register of its own.
use Rattle.std.proofs.Common.{true, false, [], ◌∷◌, refl}
use Rattle.std.specs.Prelude.{codes}
use Rattle.std.specs.Int.{int_wrap}
use Rattle.code_core.specs.Opcode.{opcodes, number_of}
use Rattle.code_core.specs.declared.opcode.Opcode.TheVariants.{Move, LoadK, LoadFalse, LoadTrue, LoadNil, GetUpval, SetUpval, GetTabUp, GetTable, SetTable, SetField, NewTable, OpSelf, Add, IDiv, MmBin, Not, Close, Tbc, Eq, Test, Call, TailCall, Return, Return0, Return1, ForLoop, ForPrep, TForPrep, TForCall, TForLoop, SetList, Closure, VarArg, VarArgPrep, ExtraArg}
use Rattle.code_core.specs.Instruction.{abc, abx, op_ax}
use Rattle.code_core.specs.Prototype.{Prototype}
use Rattle.int_core.specs.Value.{Value, known, nil, boolean, object, a_table}
use Rattle.int_core.specs.Ask.{Reply, values, faulted, left}
use Rattle.tree_core.specs.declared.name.Place.TheVariants.{Local as LocalPlace}
use Rattle.tree_core.specs.declared.operator.BinOp.TheVariants.{Add as Plus, Idiv, Eq as Equal}
use Rattle.tree_core.specs.declared.operator.UnOp.TheVariants.{Not as Negation}
use Rattle.tree_core.specs.Tree.{Body, Nil, True, False, Vararg, Table, Unary, And, Paren, Method, Item, Keyed, Do, While, Repeat, NumFor, GenFor, Label, Goto, Break, exps, fields}
use Rattle.code_means.proofs.Traces.{number}
use Rattle.tree_terms.proofs.Forms.{name, no_variable, declared, closed, of_local, loc, outer, global, int, str, call, bin, field, block, returning, locals, loc_is, assigns, assign, does, when, fun, vararg_fun, function}
use Rattle.code_means.proofs.Forms.{text, in_register, variable, code, load_int, jump, jump_back, AskAlike, tree_asks, code_asks}

abbrev pub one : Value → Reply
one v = values (v ∷ [])

-- local a=1 local function f() a=10 return 1 end return a+f()
abbrev pub changes_operand : Body
changes_operand = vararg_fun [] [] (returning (
    loc_is "a" 0 (int 1)
    ∷ Rattle.tree_core.specs.Tree.LocalFunction 1 (name "f" (LocalPlace 1)) (fun [] (of_local "a" 0 ∷ []) (returning (assign (outer "a" 0) (int 10) ∷ []) (int 1 ∷ []))) ∷ [])
    (bin Plus (loc "a" 0) (call (loc "f" 1) []) ∷ []))

abbrev pub changes_operand_code : Prototype
changes_operand_code = code 0 true [] [] [] (
    code 0 false [] (in_register 0 ∷ []) [] [] (load_int 0 10 ∷ abc SetUpval 0 0 0 false ∷ load_int 0 1 ∷ abc Return1 0 2 0 false ∷ []) ∷ [])
    (abc VarArgPrep 0 0 0 false ∷ load_int 0 1 ∷ abc LoadNil 1 0 0 false ∷ abx Closure 2 0 ∷ abc Move 1 2 0 false
    ∷ abc Move 2 0 0 false ∷ abc Move 3 1 0 false ∷ abc Call 3 1 2 false ∷ abc Add 2 2 3 false ∷ abc MmBin 2 3 6 false ∷ abc Return 2 2 0 false ∷ [])

pub operand_at_its_turn : AskAlike 4 (tree_asks changes_operand [] (one (number 4) ∷ []))
    (code_asks changes_operand_code [] (one (number 4) ∷ []))
unfolding opcodes number_of int_wrap
operand_at_its_turn = (refl, refl)

pub operand_not_integer : AskAlike 5 (tree_asks changes_operand [] (one (known nil) ∷ one (number 7) ∷ []))
    (code_asks changes_operand_code [] (one (known nil) ∷ one (number 7) ∷ []))
unfolding opcodes number_of int_wrap
operand_not_integer = (refl, refl)

inner_function : AskAlike 2 (tree_asks (fun [] (of_local "a" 0 ∷ []) (returning (assign (outer "a" 0) (int 10) ∷ []) (int 1 ∷ []))) [] [])
    (code_asks (code 0 false [] (in_register 0 ∷ []) [] [] (load_int 0 10 ∷ abc SetUpval 0 0 0 false ∷ load_int 0 1 ∷ abc Return1 0 2 0 false ∷ [])) [] [])
unfolding opcodes number_of int_wrap
inner_function = (refl, refl)

-- local f local c=true while c do local x=0 f=function() return x end x=5 c=false end return f()
abbrev pub last_value : Body
last_value = vararg_fun [] [] (returning (
    locals (declared "f" 0 ∷ []) [] ∷ loc_is "c" 1 (True 1)
    ∷ While 1 (loc "c" 1) (block (
    loc_is "x" 2 (int 0) ∷ assign (loc "f" 0) (function (fun [] (of_local "x" 2 ∷ []) (returning [] (outer "x" 0 ∷ []))))
    ∷ assign (loc "x" 2) (int 5) ∷ assign (loc "c" 1) (False 1) ∷ [])) ∷ [])
    (call (loc "f" 0) [] ∷ []))

abbrev pub last_value_code : Prototype
last_value_code = code 0 true [] [] [] (code 0 false [] (in_register 2 ∷ []) [] [] (abc GetUpval 0 0 0 false ∷ abc Return1 0 2 0 false ∷ []) ∷ [])
    (abc VarArgPrep 0 0 0 false ∷ abc LoadNil 0 0 0 false ∷ abc LoadTrue 1 0 0 false ∷ abc Test 1 0 0 false ∷ jump 9
    ∷ load_int 2 0 ∷ abx Closure 3 0 ∷ abc Move 0 3 0 false ∷ load_int 3 5 ∷ abc Move 2 3 0 false ∷ abc LoadFalse 3 0 0 false ∷ abc Move 1 3 0 false
    ∷ abc Close 2 0 0 false ∷ jump_back 11 ∷ abc Move 2 0 0 false ∷ abc TailCall 2 1 0 false ∷ abc Return 2 0 0 false ∷ [])

pub last_value_in_scope : AskAlike 4 (tree_asks last_value [] [])
    (code_asks last_value_code [] [])
unfolding opcodes number_of int_wrap
last_value_in_scope = (refl, refl)

-- function(it) for k in it,1,2 do local g=function() return k end if k==3 then break end end end
abbrev pub breaks_out : Body
breaks_out = fun ("it" ∷ []) [] (block (
    GenFor 1 (name "k" (LocalPlace 5) ∷ []) (exps (loc "it" 0 ∷ int 1 ∷ int 2 ∷ [])) (block (
    loc_is "g" 6 (function (fun [] (of_local "k" 5 ∷ []) (returning [] (outer "k" 0 ∷ []))))
    ∷ when (bin Equal (loc "k" 5) (int 3)) (Break 1 ∷ []) ∷ [])) ∷ []))

abbrev pub breaks_out_code : Prototype
breaks_out_code = code 1 false [] [] [] (code 0 false [] (in_register 5 ∷ []) [] [] (abc GetUpval 0 0 0 false ∷ abc Return1 0 2 0 false ∷ []) ∷ [])
    (abc Move 1 0 0 false ∷ load_int 2 1 ∷ load_int 3 2 ∷ abc LoadNil 4 0 0 false ∷ abx TForPrep 1 9
    ∷ abx Closure 7 0 ∷ abc Move 6 7 0 false ∷ abc Move 7 5 0 false ∷ load_int 8 3 ∷ abc Eq 7 8 0 false ∷ jump 2 ∷ abc Close 1 0 0 false ∷ jump 4
    ∷ abc Close 5 0 0 false ∷ abc TForCall 1 0 1 false ∷ abx TForLoop 1 11 ∷ abc Close 1 0 0 false ∷ abc Return0 0 1 0 false ∷ [])

pub break_of_generic_for : AskAlike 11 (tree_asks breaks_out (number 77 ∷ []) (one (number 8) ∷ one (known (boolean false)) ∷ one (number 3) ∷ one (known (boolean true)) ∷ []))
    (code_asks breaks_out_code (number 77 ∷ []) (one (number 8) ∷ one (known (boolean false)) ∷ one (number 3) ∷ one (known (boolean true)) ∷ []))
unfolding opcodes number_of int_wrap
break_of_generic_for = (refl, refl)

pub end_of_generic_for : AskAlike 7 (tree_asks breaks_out (number 77 ∷ []) (one (number 8) ∷ one (known (boolean false)) ∷ values [] ∷ []))
    (code_asks breaks_out_code (number 77 ∷ []) (one (number 8) ∷ one (known (boolean false)) ∷ values [] ∷ []))
unfolding opcodes number_of int_wrap
end_of_generic_for = (refl, refl)

-- function(f,v) do local x <close> = v local y=1 f(function() return y end) end return 2 end
abbrev pub closes_at_end : Body
closes_at_end = fun ("f" ∷ "v" ∷ []) [] (returning (
    Do 1 (block (
    locals (closed "x" 2 ∷ []) (loc "v" 1 ∷ []) ∷ loc_is "y" 3 (int 1)
    ∷ does (call (loc "f" 0) (function (fun [] (of_local "y" 3 ∷ []) (returning [] (outer "y" 0 ∷ []))) ∷ [])) ∷ [])) ∷ [])
    (int 2 ∷ []))

abbrev pub closes_at_end_code : Prototype
closes_at_end_code = code 2 false [] [] (variable "f" 0 9 ∷ variable "v" 0 9 ∷ variable "x" 1 7 ∷ variable "y" 3 7 ∷ [])
    (code 0 false [] (in_register 3 ∷ []) [] [] (abc GetUpval 0 0 0 false ∷ abc Return1 0 2 0 false ∷ []) ∷ [])
    (abc Move 2 1 0 false ∷ abc Tbc 2 0 0 false ∷ load_int 3 1 ∷ abc Move 4 0 0 false ∷ abx Closure 5 0 ∷ abc Call 4 2 1 false ∷ abc Close 2 0 0 false
    ∷ load_int 2 2 ∷ abc Return 2 2 0 false ∷ [])

pub closed_at_block_end : AskAlike 6 (tree_asks closes_at_end (number 1 ∷ object a_table 5 ∷ []) (values [] ∷ values [] ∷ []))
    (code_asks closes_at_end_code (number 1 ∷ object a_table 5 ∷ []) (values [] ∷ values [] ∷ []))
unfolding opcodes number_of int_wrap
closed_at_block_end = (refl, refl)

-- the call is left with an error; and the closing method too
pub closed_by_error : AskAlike 6 (tree_asks closes_at_end (number 1 ∷ object a_table 5 ∷ []) (left (number 6) ∷ left (number 7) ∷ []))
    (code_asks closes_at_end_code (number 1 ∷ object a_table 5 ∷ []) (left (number 6) ∷ left (number 7) ∷ []))
unfolding opcodes number_of int_wrap
closed_by_error = (refl, refl)

-- the callee cannot be called
pub faulted_call : AskAlike 7 (tree_asks closes_at_end (number 1 ∷ object a_table 5 ∷ []) (faulted (codes "no") ∷ left (number 6) ∷ values [] ∷ []))
    (code_asks closes_at_end_code (number 1 ∷ object a_table 5 ∷ []) (faulted (codes "no") ∷ left (number 6) ∷ values [] ∷ []))
unfolding opcodes number_of int_wrap
faulted_call = (refl, refl)

-- nil is not marked
not_marked : AskAlike 4 (tree_asks closes_at_end (number 1 ∷ known nil ∷ []) (values [] ∷ []))
    (code_asks closes_at_end_code (number 1 ∷ known nil ∷ []) (values [] ∷ []))
unfolding opcodes number_of int_wrap
not_marked = (refl, refl)

-- function(o) o.a,o.b=1,o:m(2) return {3,x=4,o.c} end
abbrev pub makes_tables : Body
makes_tables = fun ("o" ∷ []) [] (returning (
    assigns (field (loc "o" 0) "a" ∷ field (loc "o" 0) "b" ∷ []) (int 1 ∷ Method 1 (loc "o" 0) (no_variable "m") (exps (int 2 ∷ [])) ∷ []) ∷ [])
    (Table 1 (fields (Item (int 3) ∷ Keyed 1 (str "x") (int 4) ∷ Item (field (loc "o" 0) "c") ∷ [])) ∷ []))

abbrev pub makes_tables_code : Prototype
makes_tables_code = code 1 false (text "a" ∷ text "b" ∷ text "m" ∷ text "x" ∷ text "c" ∷ []) [] [] []
    (abc Move 1 0 0 false ∷ abx LoadK 2 0 ∷ abc Move 3 0 0 false ∷ abx LoadK 4 1 ∷ load_int 5 1
    ∷ abc Move 6 0 0 false ∷ abc OpSelf 6 6 2 true ∷ load_int 8 2 ∷ abc Call 6 3 2 false ∷ abc SetTable 3 4 6 false ∷ abc SetTable 1 2 5 false
    ∷ abc NewTable 1 0 0 false ∷ op_ax ExtraArg 0 ∷ load_int 2 3 ∷ abc SetList 1 1 0 false ∷ abx LoadK 2 3 ∷ load_int 3 4 ∷ abc SetTable 1 2 3 false
    ∷ abc Move 2 0 0 false ∷ abx LoadK 3 4 ∷ abc GetTable 2 2 3 false ∷ abc SetList 1 1 1 false ∷ abc Return 1 2 0 false ∷ [])

pub assigned_and_constructed : AskAlike 10 (tree_asks makes_tables (object a_table 9 ∷ []) (one (number 1) ∷ one (number 2) ∷ values [] ∷ values [] ∷ values [] ∷ one (number 3) ∷ []))
    (code_asks makes_tables_code (object a_table 9 ∷ []) (one (number 1) ∷ one (number 2) ∷ values [] ∷ values [] ∷ values [] ∷ one (number 3) ∷ []))
unfolding opcodes number_of int_wrap
assigned_and_constructed = (refl, refl)

-- function() for i=1,2 do local j=i if j==1 then goto continue end (function() i=i+j end)() ::continue:: end end
abbrev pub continues : Body
continues = fun [] [] (block (
    NumFor 1 (name "i" (LocalPlace 3)) (int 1) (int 2) (block (
    loc_is "j" 4 (loc "i" 3)
    ∷ when (bin Equal (loc "j" 4) (int 1)) (Goto 1 (no_variable "continue") ∷ [])
    ∷ does (call (Paren 1 (function (fun [] (of_local "i" 3 ∷ of_local "j" 4 ∷ []) (block (assign (outer "i" 0) (bin Plus (outer "i" 0) (outer "j" 1)) ∷ []))))) [])
    ∷ Label 1 (no_variable "continue") ∷ [])) ∷ []))

abbrev pub continues_code : Prototype
continues_code = code 0 false [] [] [] (code 0 false [] (in_register 3 ∷ in_register 4 ∷ []) [] []
    (abc GetUpval 0 0 0 false ∷ abc GetUpval 1 1 0 false ∷ abc Add 0 0 1 false ∷ abc MmBin 0 1 6 false ∷ abc SetUpval 0 0 0 false ∷ abc Return0 0 1 0 false ∷ []) ∷ [])
    (load_int 0 1 ∷ load_int 1 2 ∷ load_int 2 1 ∷ abx ForPrep 0 10
    ∷ abc Move 4 3 0 false ∷ abc Move 5 4 0 false ∷ load_int 6 1 ∷ abc Eq 5 6 0 false ∷ jump 2 ∷ abc Close 3 0 0 false ∷ jump 2
    ∷ abx Closure 5 0 ∷ abc Call 5 1 1 false ∷ abc Close 3 0 0 false ∷ abx ForLoop 0 11 ∷ abc Return0 0 1 0 false ∷ [])

pub goto_continue : AskAlike 8 (tree_asks continues [] (one (known (boolean true)) ∷ one (known (boolean false)) ∷ values [] ∷ []))
    (code_asks continues_code [] (one (known (boolean true)) ∷ one (known (boolean false)) ∷ values [] ∷ []))
unfolding opcodes number_of int_wrap
goto_continue = (refl, refl)

pub captured_in_rounds : AskAlike 12 (tree_asks continues [] (one (known (boolean false)) ∷ values [] ∷ one (known (boolean false)) ∷ values [] ∷ []))
    (code_asks continues_code [] (one (known (boolean false)) ∷ values [] ∷ one (known (boolean false)) ∷ values [] ∷ []))
unfolding opcodes number_of int_wrap
captured_in_rounds = (refl, refl)

-- function(f) repeat local x=f() local g=function() return x end until x and not f(g) end
abbrev pub repeats : Body
repeats = fun ("f" ∷ []) [] (block (
    Repeat 1 (block (
    loc_is "x" 1 (call (loc "f" 0) []) ∷ loc_is "g" 2 (function (fun [] (of_local "x" 1 ∷ []) (returning [] (outer "x" 0 ∷ [])))) ∷ []))
    (And 1 (loc "x" 1) (Unary 1 Negation (call (loc "f" 0) (loc "g" 2 ∷ [])))) ∷ []))

abbrev pub repeats_code : Prototype
repeats_code = code 1 false [] [] [] (code 0 false [] (in_register 1 ∷ []) [] [] (abc GetUpval 0 0 0 false ∷ abc Return1 0 2 0 false ∷ []) ∷ [])
    (abc Move 1 0 0 false ∷ abc Call 1 1 2 false ∷ abx Closure 3 0 ∷ abc Move 2 3 0 false
    ∷ abc Move 3 1 0 false ∷ abc Test 3 0 0 false ∷ jump 4 ∷ abc Move 3 0 0 false ∷ abc Move 4 2 0 false ∷ abc Call 3 2 2 false ∷ abc Not 3 3 0 false
    ∷ abc Test 3 0 0 false ∷ jump 2 ∷ abc Close 1 0 0 false ∷ jump 2 ∷ abc Close 1 0 0 false ∷ jump_back 17 ∷ abc Return0 0 1 0 false ∷ [])

pub repeat_rounds : AskAlike 14 (tree_asks repeats (number 1 ∷ []) (one (known nil) ∷ one (number 5) ∷ one (number 6) ∷ one (number 7) ∷ one (known nil) ∷ []))
    (code_asks repeats_code (number 1 ∷ []) (one (known nil) ∷ one (number 5) ∷ one (number 6) ∷ one (number 7) ∷ one (known nil) ∷ []))
unfolding opcodes number_of int_wrap
repeat_rounds = (refl, refl)

-- function(...) local a,b=... return a,... end
varargs : AskAlike 1 (tree_asks (vararg_fun [] [] (returning (locals (declared "a" 0 ∷ declared "b" 1 ∷ []) (Vararg 1 ∷ []) ∷ []) (loc "a" 0 ∷ Vararg 1 ∷ []))) (number 1 ∷ number 2 ∷ number 3 ∷ []) [])
    (code_asks (code 0 true [] [] [] [] (abc VarArgPrep 0 0 0 false ∷ abc VarArg 0 0 3 false ∷ abc Move 2 0 0 false ∷ abc VarArg 3 0 0 false ∷ abc Return 2 0 0 false ∷ []))
    (number 1 ∷ number 2 ∷ number 3 ∷ []) [])
unfolding opcodes number_of int_wrap
varargs = (refl, refl)

-- function(v) local x <close> = v return 1//0 end: a fault of the own step
own_fault : AskAlike 4 (tree_asks (fun ("v" ∷ []) [] (returning (locals (closed "x" 1 ∷ []) (loc "v" 0 ∷ []) ∷ []) (bin Idiv (int 1) (int 0) ∷ []))) (object a_table 3 ∷ []) (left (number 5) ∷ values [] ∷ []))
    (code_asks (code 1 false [] [] (variable "v" 0 7 ∷ variable "x" 1 7 ∷ []) []
    (abc Move 1 0 0 false ∷ abc Tbc 1 0 0 false ∷ load_int 2 1 ∷ load_int 3 0 ∷ abc IDiv 2 2 3 false ∷ abc MmBin 2 3 12 false ∷ abc Return 2 2 0 false ∷ []))
    (object a_table 3 ∷ []) (left (number 5) ∷ values [] ∷ []))
unfolding opcodes number_of int_wrap
own_fault = (refl, refl)

-- x=y return print(x), where _ENV is the first outer variable
globals : AskAlike 9 (tree_asks (vararg_fun [] [] (returning (assign (global "x") (global "y") ∷ []) (call (global "print") (global "x" ∷ []) ∷ []))) [] (one (number 1) ∷ values [] ∷ one (number 2) ∷ one (number 3) ∷ []))
    (code_asks (code 0 true (text "x" ∷ text "y" ∷ text "print" ∷ []) (in_register 0 ∷ []) [] []
    (abc VarArgPrep 0 0 0 false ∷ abc GetUpval 0 0 0 false ∷ abc GetTabUp 1 0 1 false ∷ abc SetField 0 0 1 false
    ∷ abc GetTabUp 0 0 2 false ∷ abc GetTabUp 1 0 0 false ∷ abc TailCall 0 2 0 false ∷ abc Return 0 0 0 false ∷ []))
    [] (one (number 1) ∷ values [] ∷ one (number 2) ∷ one (number 3) ∷ []))
unfolding opcodes number_of int_wrap
globals = (refl, refl)
