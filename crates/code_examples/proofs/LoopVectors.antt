-- Bodies with loops and jumps whose code is written by hand, and that the code asks as the body does.
use Rattle.std.proofs.Common.{true, false, [], ◌∷◌, refl}
use Rattle.std.specs.Prelude.{negsuc}
use Rattle.std.specs.Int.{int_wrap}
use Rattle.code_core.specs.Opcode.{opcodes, number_of}
use Rattle.code_core.specs.declared.opcode.Opcode.TheVariants.{Move, LoadNil, GetUpval, SetUpval, Add, MmBin, Close, Tbc, EqI, Test, Call, Return, ForLoop, ForPrep, TForPrep, TForCall, TForLoop, Closure}
use Rattle.code_core.specs.Instruction.{abc, abx}
use Rattle.code_core.specs.Prototype.{Prototype}
use Rattle.int_core.specs.Value.{known, nil, boolean, integer, object, a_table}
use Rattle.int_core.specs.Ask.{values, left}
use Rattle.tree_core.specs.declared.name.Place.TheVariants.{Local as LocalPlace}
use Rattle.tree_core.specs.declared.operator.BinOp.TheVariants.{Eq as Equal}
use Rattle.tree_core.specs.Tree.{Body, True, Do, Repeat, NumForStep, GenFor, Label, Goto, Break, exps}
use Rattle.code_means.proofs.Traces.{number}
use Rattle.tree_terms.proofs.Forms.{name, no_variable, closed, loc, int, call, bin, block, returning, locals, loc_is, does, when, fun}
use Rattle.code_means.proofs.Forms.{variable, hidden, load_int, jump, jump_back, AskAlike, tree_asks, code_asks}
use Rattle.code_examples.proofs.Hand.{hand, Compiles}
use Rattle.code_means.proofs.Pairs.{one, repeats, breaks_out, continues}

abbrev pub repeats_code : Prototype
repeats_code = hand 1 false 5 [] [] (variable "f" 0 14 ∷ variable "x" 2 13 ∷ variable "g" 3 13 ∷ [])
    (hand 0 false 1 [] (("x", 1) ∷ []) [] [] (abc GetUpval 0 0 0 false ∷ abc Return 0 2 0 false ∷ []) ∷ [])
    (abc Move 1 0 0 false ∷ abc Call 1 1 2 false ∷ abx Closure 2 0
    ∷ abc Test 1 0 0 false ∷ jump 5 ∷ abc Move 3 0 0 false ∷ abc Move 4 2 0 false ∷ abc Call 3 2 2 false
    ∷ abc Test 3 0 0 false ∷ jump 2 ∷ abc Close 1 0 0 false ∷ jump_back 12 ∷ abc Close 1 0 0 false ∷ abc Return 1 1 0 true ∷ [])

repeat_code : Compiles repeats repeats_code
unfolding opcodes number_of
repeat_code = refl

abbrev pub breaks_out_code : Prototype
breaks_out_code = hand 1 false 8 [] []
    (variable "it" 0 15 ∷ hidden 4 14 ∷ hidden 4 14 ∷ hidden 4 14 ∷ hidden 4 14 ∷ variable "k" 5 11 ∷ variable "g" 6 11 ∷ [])
    (hand 0 false 1 [] (("k", 5) ∷ []) [] [] (abc GetUpval 0 0 0 false ∷ abc Return 0 2 0 false ∷ []) ∷ [])
    (abc Move 1 0 0 false ∷ load_int 2 1 ∷ load_int 3 2 ∷ abc LoadNil 4 0 0 false ∷ abx TForPrep 1 6
    ∷ abx Closure 6 0 ∷ abc EqI 5 130 0 false ∷ jump 2 ∷ abc Close 1 0 0 false ∷ jump 4
    ∷ abc Close 5 0 0 false ∷ abc TForCall 1 0 1 false ∷ abx TForLoop 1 8 ∷ abc Close 1 0 0 false ∷ abc Return 1 1 0 true ∷ [])

generic_for_code : Compiles breaks_out breaks_out_code
unfolding opcodes number_of
generic_for_code = refl

-- function(it,v) for k in it,1,2,v do return it(k) end end: v is to be closed, so the call is none in the function's place
abbrev returns_from_for : Body
returns_from_for = fun ("it" ∷ "v" ∷ []) [] (block (
    GenFor 1 (name "k" (LocalPlace 6) ∷ []) (exps (loc "it" 0 ∷ int 1 ∷ int 2 ∷ loc "v" 1 ∷ [])) (returning [] (call (loc "it" 0) (loc "k" 6 ∷ []) ∷ [])) ∷ []))

abbrev pub returns_from_for_code : Prototype
returns_from_for_code = hand 2 false 9 [] []
    (variable "it" 0 13 ∷ variable "v" 0 13 ∷ hidden 4 12 ∷ hidden 4 12 ∷ hidden 4 12 ∷ hidden 4 12 ∷ variable "k" 5 9 ∷ []) []
    (abc Move 2 0 0 false ∷ load_int 3 1 ∷ load_int 4 2 ∷ abc Move 5 1 0 false ∷ abx TForPrep 2 4
    ∷ abc Move 7 0 0 false ∷ abc Move 8 6 0 false ∷ abc Call 7 2 0 false ∷ abc Return 7 0 0 true
    ∷ abc TForCall 2 0 1 false ∷ abx TForLoop 2 6 ∷ abc Close 2 0 0 false ∷ abc Return 2 1 0 true ∷ [])

return_code : Compiles returns_from_for returns_from_for_code
unfolding opcodes number_of
return_code = refl

return_in_generic_for : AskAlike 6 (tree_asks returns_from_for (number 1 ∷ object a_table 5 ∷ []) (one (number 8) ∷ values (number 3 ∷ number 4 ∷ []) ∷ values [] ∷ []))
    (code_asks returns_from_for_code (number 1 ∷ object a_table 5 ∷ []) (one (number 8) ∷ values (number 3 ∷ number 4 ∷ []) ∷ values [] ∷ []))
unfolding opcodes number_of int_wrap
return_in_generic_for = (refl, refl)

closed_after_generic_for : AskAlike 4 (tree_asks returns_from_for (number 1 ∷ object a_table 5 ∷ []) (values [] ∷ values [] ∷ []))
    (code_asks returns_from_for_code (number 1 ∷ object a_table 5 ∷ []) (values [] ∷ values [] ∷ []))
unfolding opcodes number_of int_wrap
closed_after_generic_for = (refl, refl)

abbrev pub continues_code : Prototype
continues_code = hand 0 false 6 [] [] (hidden 3 13 ∷ hidden 3 13 ∷ hidden 3 13 ∷ variable "i" 4 12 ∷ variable "j" 5 12 ∷ [])
    (hand 0 false 4 [] (("i", 3) ∷ ("j", 4) ∷ []) [] []
    (abc GetUpval 2 0 0 false ∷ abc GetUpval 3 1 0 false ∷ abc Add 2 2 3 false ∷ abc MmBin 2 3 6 false ∷ abc SetUpval 2 0 0 false ∷ abc Return 0 1 0 false ∷ []) ∷ [])
    (load_int 0 1 ∷ load_int 1 2 ∷ load_int 2 1 ∷ abx ForPrep 0 8
    ∷ abc Move 4 3 0 false ∷ abc EqI 4 128 0 false ∷ jump 2 ∷ abc Close 3 0 0 false ∷ jump 2
    ∷ abx Closure 5 0 ∷ abc Call 5 1 1 false ∷ abc Close 3 0 0 false ∷ abx ForLoop 0 9 ∷ abc Return 0 1 0 false ∷ [])

numeric_for_code : Compiles continues continues_code
unfolding opcodes number_of
numeric_for_code = refl

-- function(a) for i=3,1,a do goto test ::found:: do break end ::test:: if i==2 then goto found end end end
abbrev jumps_about : Body
jumps_about = fun ("a" ∷ []) [] (block (
    NumForStep 1 (name "i" (LocalPlace 4)) (int 3) (int 1) (loc "a" 0) (block (
    Goto 1 (no_variable "test") ∷ Label 1 (no_variable "found") ∷ Do 1 (block (Break 1 ∷ [])) ∷ Label 1 (no_variable "test")
    ∷ when (bin Equal (loc "i" 4) (int 2)) (Goto 1 (no_variable "found") ∷ []) ∷ [])) ∷ []))

abbrev pub jumps_about_code : Prototype
jumps_about_code = hand 1 false 5 [] [] (variable "a" 0 11 ∷ hidden 3 10 ∷ hidden 3 10 ∷ hidden 3 10 ∷ variable "i" 4 9 ∷ []) []
    (load_int 1 3 ∷ load_int 2 1 ∷ abc Move 3 0 0 false ∷ abx ForPrep 1 5 ∷ jump 1 ∷ jump 4
    ∷ abc EqI 4 129 0 false ∷ jump 1 ∷ jump_back 4 ∷ abx ForLoop 1 6 ∷ abc Return 1 1 0 true ∷ [])

jump_code : Compiles jumps_about jumps_about_code
unfolding opcodes number_of
jump_code = refl

ahead_and_back : AskAlike 5 (tree_asks jumps_about (known (integer (negsuc 0)) ∷ []) (one (known (boolean false)) ∷ one (known (boolean true)) ∷ []))
    (code_asks jumps_about_code (known (integer (negsuc 0)) ∷ []) (one (known (boolean false)) ∷ one (known (boolean true)) ∷ []))
unfolding opcodes number_of int_wrap
ahead_and_back = (refl, refl)

no_round : AskAlike 1 (tree_asks jumps_about (number 1 ∷ []) []) (code_asks jumps_about_code (number 1 ∷ []) [])
unfolding opcodes number_of int_wrap
no_round = (refl, refl)

no_step : AskAlike 2 (tree_asks jumps_about [] (left (number 5) ∷ [])) (code_asks jumps_about_code [] (left (number 5) ∷ []))
unfolding opcodes number_of int_wrap
no_step = (refl, refl)

-- function(f,v) ::again:: do local x <close> = v repeat local y=f() if y then goto again end goto done until true ::done:: end end
abbrev leaves_scopes : Body
leaves_scopes = fun ("f" ∷ "v" ∷ []) [] (block (
    Label 1 (no_variable "again")
    ∷ Do 1 (block (
    locals (closed "x" 2 ∷ []) (loc "v" 1 ∷ [])
    ∷ Repeat 1 (block (loc_is "y" 3 (call (loc "f" 0) []) ∷ when (loc "y" 3) (Goto 1 (no_variable "again") ∷ []) ∷ Goto 1 (no_variable "done") ∷ [])) (True 1)
    ∷ Label 1 (no_variable "done") ∷ [])) ∷ []))

abbrev pub leaves_scopes_code : Prototype
leaves_scopes_code = hand 2 false 4 [] [] (variable "f" 0 14 ∷ variable "v" 0 14 ∷ variable "x" 1 13 ∷ variable "y" 4 12 ∷ []) []
    (abc Move 2 1 0 false ∷ abc Tbc 2 0 0 false ∷ abc Move 3 0 0 false ∷ abc Call 3 1 2 false
    ∷ abc Test 3 0 0 false ∷ jump 2 ∷ abc Close 2 0 0 false ∷ jump_back 8 ∷ abc Close 2 0 0 false ∷ jump 2
    ∷ jump 1 ∷ jump_back 10
    ∷ abc Close 2 0 0 false ∷ abc Return 2 1 0 true ∷ [])

leaving_code : Compiles leaves_scopes leaves_scopes_code
unfolding opcodes number_of
leaving_code = refl

closed_by_goto : AskAlike 8 (tree_asks leaves_scopes (number 1 ∷ object a_table 5 ∷ []) (one (number 4) ∷ values [] ∷ values [] ∷ values [] ∷ []))
    (code_asks leaves_scopes_code (number 1 ∷ object a_table 5 ∷ []) (one (number 4) ∷ values [] ∷ values [] ∷ values [] ∷ []))
unfolding opcodes number_of int_wrap
closed_by_goto = (refl, refl)

-- function(f) repeat local x=f() goto test f() ::test:: until x end: the label stands in the scope of x
abbrev tests_at_once : Body
tests_at_once = fun ("f" ∷ []) [] (block (
    Repeat 1 (block (loc_is "x" 1 (call (loc "f" 0) []) ∷ Goto 1 (no_variable "test") ∷ does (call (loc "f" 0) []) ∷ Label 1 (no_variable "test") ∷ [])) (loc "x" 1) ∷ []))

abbrev pub tests_at_once_code : Prototype
tests_at_once_code = hand 1 false 3 [] [] (variable "f" 0 9 ∷ variable "x" 2 8 ∷ []) []
    (abc Move 1 0 0 false ∷ abc Call 1 1 2 false ∷ jump 2 ∷ abc Move 2 0 0 false ∷ abc Call 2 1 1 false
    ∷ abc Test 1 0 0 true ∷ jump 1 ∷ jump_back 8 ∷ abc Return 1 1 0 true ∷ [])

label_code : Compiles tests_at_once tests_at_once_code
unfolding opcodes number_of
label_code = refl

label_before_until : AskAlike 4 (tree_asks tests_at_once (number 1 ∷ []) (one (known nil) ∷ one (number 5) ∷ []))
    (code_asks tests_at_once_code (number 1 ∷ []) (one (known nil) ∷ one (number 5) ∷ []))
unfolding opcodes number_of int_wrap
label_before_until = (refl, refl)
