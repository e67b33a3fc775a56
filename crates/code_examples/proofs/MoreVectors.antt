-- Further bodies whose code is written by hand, and that the code asks as the body does.
use Rattle.std.proofs.Common.{true, false, [], ◌∷◌, refl}
use Rattle.std.specs.Prelude.{pos, negsuc}
use Rattle.std.specs.Int.{int_wrap}
use Rattle.code_core.specs.Opcode.{opcodes, number_of}
use Rattle.code_core.specs.declared.opcode.Opcode.TheVariants.{EqI, GtI, Move, LoadI, LoadK, LFalseSkip, LoadTrue, GetUpval, GetTabUp, GetField, SetTable, SetField, NewTable, OpSelf, Sub, MmBin, Unm, Not, Len, Concat, Lt, Le, Test, Call, TailCall, Return, SetList, VarArg, VarArgPrep, ExtraArg, SetI}
use Rattle.code_core.specs.declared.proto.Const.TheVariants.{Int as IntConst}
use Rattle.code_core.specs.Instruction.{abc, abx, op_ax}
use Rattle.code_core.specs.Prototype.{Prototype}
use Rattle.int_core.specs.Value.{known, boolean, object, a_table}
use Rattle.int_core.specs.Ask.{values}
use Rattle.tree_core.specs.declared.operator.BinOp.TheVariants.{Sub as Minus, Concat as Join, Le as AtMost, Lt as Less, Ne, Gt}
use Rattle.tree_core.specs.declared.operator.UnOp.TheVariants.{Not as Negation, Neg, Len as Length}
use Rattle.tree_core.specs.Tree.{Body, If, Int, Vararg, Unary, And, Or, Method, IfElse, arms, exps, Index, Table, fields, Item}
use Rattle.code_means.proofs.Traces.{number}
use Rattle.tree_terms.proofs.Forms.{no_variable, of_local, loc, global, int, call, bin, block, returning, assigns, assign, fun, vararg_fun, field}
use Rattle.code_means.proofs.Forms.{text, variable, load_int, jump, AskAlike, tree_asks, code_asks}
use Rattle.code_examples.proofs.Hand.{hand, Compiles}
use Rattle.code_means.proofs.Pairs.{one, makes_tables}

-- x=y return print(x), where _ENV is the first upvalue
abbrev globals : Body
globals = vararg_fun [] (of_local "_ENV" 0 ∷ []) (returning (assign (global "x") (global "y") ∷ []) (call (global "print") (global "x" ∷ []) ∷ []))

abbrev pub globals_code : Prototype
globals_code = hand 0 true 3 (text "x" ∷ text "y" ∷ text "print" ∷ []) (("_ENV", 0) ∷ []) [] []
    (abc VarArgPrep 0 0 0 false ∷ abc GetUpval 0 0 0 false ∷ abc GetTabUp 2 0 1 false ∷ abc SetField 0 0 2 false
    ∷ abc GetTabUp 0 0 2 false ∷ abc GetTabUp 1 0 0 false ∷ abc TailCall 0 2 1 false ∷ abc Return 0 0 1 false ∷ [])

global_names_code : Compiles globals globals_code
unfolding opcodes number_of
global_names_code = refl

global_names : AskAlike 9 (tree_asks globals [] (one (number 1) ∷ values [] ∷ one (number 2) ∷ one (number 3) ∷ []))
    (code_asks globals_code [] (one (number 1) ∷ values [] ∷ one (number 2) ∷ one (number 3) ∷ []))
unfolding opcodes number_of int_wrap
global_names = (refl, refl)

-- function(a,b) return a and not b or a<=b end
abbrev decides : Body
decides = fun ("a" ∷ "b" ∷ []) [] (returning [] (Or 1 (And 1 (loc "a" 0) (Unary 1 Negation (loc "b" 1))) (bin AtMost (loc "a" 0) (loc "b" 1)) ∷ []))

abbrev pub decides_code : Prototype
decides_code = hand 2 false 3 [] [] (variable "a" 0 11 ∷ variable "b" 0 11 ∷ []) []
    (abc Test 0 0 0 false ∷ jump 4 ∷ abc Test 1 0 0 true ∷ jump 2 ∷ abc LoadTrue 2 0 0 false ∷ jump 4
    ∷ abc Le 0 1 0 true ∷ jump 1 ∷ abc LFalseSkip 2 0 0 false ∷ abc LoadTrue 2 0 0 false ∷ abc Return 2 2 0 true ∷ [])

truth_code : Compiles decides decides_code
unfolding opcodes number_of
truth_code = refl

compared : AskAlike 2 (tree_asks decides (number 1 ∷ number 2 ∷ []) (one (known (boolean true)) ∷ [])) (code_asks decides_code (number 1 ∷ number 2 ∷ []) (one (known (boolean true)) ∷ []))
unfolding opcodes number_of int_wrap
compared = (refl, refl)

not_compared : AskAlike 1 (tree_asks decides (number 1 ∷ []) []) (code_asks decides_code (number 1 ∷ []) [])
unfolding opcodes number_of int_wrap
not_compared = (refl, refl)

-- function(a) if a>1 then return 1 elseif a then a=2 else a=3 end return a end
abbrev chooses : Body
chooses = fun ("a" ∷ []) [] (returning (
    IfElse 1 (arms ((bin Gt (loc "a" 0) (int 1), returning [] (int 1 ∷ [])) ∷ (loc "a" 0, block (assign (loc "a" 0) (int 2) ∷ [])) ∷ []))
    (block (assign (loc "a" 0) (int 3) ∷ [])) ∷ [])
    (loc "a" 0 ∷ []))

abbrev pub chooses_code : Prototype
chooses_code = hand 1 false 2 [] [] (variable "a" 0 11 ∷ []) []
    (abc GtI 0 128 0 false ∷ jump 3
    ∷ load_int 1 1 ∷ abc Return 1 2 0 true ∷ jump 5 ∷ abc Test 0 0 0 false ∷ jump 2 ∷ load_int 0 2 ∷ jump 1
    ∷ load_int 0 3 ∷ abc Return 0 2 0 true ∷ [])

arms_code : Compiles chooses chooses_code
unfolding opcodes number_of
arms_code = refl

first_arm : AskAlike 2 (tree_asks chooses (number 5 ∷ []) (one (number 0) ∷ [])) (code_asks chooses_code (number 5 ∷ []) (one (number 0) ∷ []))
unfolding opcodes number_of int_wrap
first_arm = (refl, refl)

second_arm : AskAlike 2 (tree_asks chooses (number 5 ∷ []) (values [] ∷ [])) (code_asks chooses_code (number 5 ∷ []) (values [] ∷ []))
unfolding opcodes number_of int_wrap
second_arm = (refl, refl)

no_arm : AskAlike 2 (tree_asks chooses [] (values [] ∷ [])) (code_asks chooses_code [] (values [] ∷ []))
unfolding opcodes number_of int_wrap
no_arm = (refl, refl)

-- function(a,b) if not a or a<b and b~=1 then return a end end
abbrev tests : Body
tests = fun ("a" ∷ "b" ∷ []) [] (block (
    If 1 (arms ((Or 1 (Unary 1 Negation (loc "a" 0)) (And 1 (bin Less (loc "a" 0) (loc "b" 1)) (bin Ne (loc "b" 1) (int 1))), returning [] (loc "a" 0 ∷ [])) ∷ [])) ∷ []))

abbrev pub tests_code : Prototype
tests_code = hand 2 false 2 [] [] (variable "a" 0 8 ∷ variable "b" 0 8 ∷ []) []
    (abc Test 0 0 0 false ∷ jump 4 ∷ abc Lt 0 1 0 false ∷ jump 3
    ∷ abc EqI 1 128 0 true ∷ jump 1 ∷ abc Return 0 2 0 true ∷ abc Return 2 1 0 true ∷ [])

conditions_code : Compiles tests tests_code
unfolding opcodes number_of
conditions_code = refl

first_decides : AskAlike 1 (tree_asks tests [] []) (code_asks tests_code [] [])
unfolding opcodes number_of int_wrap
first_decides = (refl, refl)

all_decide : AskAlike 3 (tree_asks tests (number 1 ∷ number 2 ∷ []) (one (known (boolean true)) ∷ one (known (boolean false)) ∷ []))
    (code_asks tests_code (number 1 ∷ number 2 ∷ []) (one (known (boolean true)) ∷ one (known (boolean false)) ∷ []))
unfolding opcodes number_of int_wrap
all_decide = (refl, refl)

-- function(o,...) return #o..-o, o:m(1,...) end
abbrev calls_method : Body
calls_method = vararg_fun ("o" ∷ []) [] (returning []
    (bin Join (Unary 1 Length (loc "o" 0)) (Unary 1 Neg (loc "o" 0)) ∷ Method 1 (loc "o" 0) (no_variable "m") (exps (int 1 ∷ Vararg 1 ∷ [])) ∷ []))

abbrev pub calls_method_code : Prototype
calls_method_code = hand 1 true 6 (text "m" ∷ []) [] (variable "o" 0 9 ∷ []) []
    (abc VarArgPrep 1 0 0 false ∷ abc Len 1 0 0 false ∷ abc Unm 2 0 0 false ∷ abc Concat 1 2 0 false
    ∷ abc OpSelf 2 0 0 true ∷ load_int 4 1 ∷ abc VarArg 5 0 0 false ∷ abc Call 2 0 0 false ∷ abc Return 1 0 2 true ∷ [])

method_code : Compiles calls_method calls_method_code
unfolding opcodes number_of
method_code = refl

open_lists : AskAlike 6 (tree_asks calls_method (object a_table 9 ∷ number 5 ∷ number 6 ∷ []) (one (number 1) ∷ one (number 2) ∷ one (number 3) ∷ one (number 4) ∷ values (number 7 ∷ number 8 ∷ []) ∷ []))
    (code_asks calls_method_code (object a_table 9 ∷ number 5 ∷ number 6 ∷ []) (one (number 1) ∷ one (number 2) ∷ one (number 3) ∷ one (number 4) ∷ values (number 7 ∷ number 8 ∷ []) ∷ []))
unfolding opcodes number_of int_wrap
open_lists = (refl, refl)

abbrev pub makes_tables_code : Prototype
makes_tables_code = hand 1 false 9 (text "a" ∷ text "b" ∷ text "m" ∷ text "x" ∷ IntConst (pos 4) ∷ text "c" ∷ []) [] (variable "o" 0 16 ∷ []) []
    (abc Move 1 0 0 false ∷ abc Move 3 0 0 false ∷ load_int 5 1
    ∷ abc OpSelf 6 0 2 true ∷ load_int 8 2 ∷ abc Call 6 3 2 false ∷ abc SetField 3 1 6 false ∷ abc SetField 1 0 5 false
    ∷ abc NewTable 1 0 0 false ∷ op_ax ExtraArg 0 ∷ load_int 2 3 ∷ abc SetList 1 1 0 false ∷ abc SetField 1 3 4 true
    ∷ abc GetField 2 0 5 false ∷ abc SetList 1 1 1 false ∷ abc Return 1 2 0 true ∷ [])

tables_code : Compiles makes_tables makes_tables_code
unfolding opcodes number_of
tables_code = refl

-- function(o) return {o,3,not o,o.c,o} end
abbrev holds_items : Body
holds_items = fun ("o" ∷ []) [] (returning [] (Table 1 (fields (Item (loc "o" 0) ∷ Item (int 3) ∷ Item (Unary 1 Negation (loc "o" 0)) ∷ Item (field (loc "o" 0) "c") ∷ Item (loc "o" 0) ∷ [])) ∷ []))

abbrev pub holds_items_code : Prototype
holds_items_code = hand 1 false 5 (text "c" ∷ []) [] (variable "o" 0 11 ∷ []) []
    (abc NewTable 1 0 0 false ∷ op_ax ExtraArg 0 ∷ abc Move 2 0 0 false ∷ load_int 3 3 ∷ abc Not 4 0 0 false ∷ abc SetList 1 3 0 false
    ∷ abc GetField 2 0 0 false ∷ abc SetList 1 1 3 false ∷ abc Move 2 0 0 false ∷ abc SetList 1 1 4 false ∷ abc Return 1 2 0 true ∷ [])

items_code : Compiles holds_items holds_items_code
unfolding opcodes number_of
items_code = refl

items_alike : AskAlike 8 (tree_asks holds_items (object a_table 9 ∷ []) (one (number 7) ∷ [])) (code_asks holds_items_code (object a_table 9 ∷ []) (one (number 7) ∷ []))
unfolding opcodes number_of int_wrap
items_alike = (refl, refl)

-- function(t,i) t.x,t[2],t[i]=i,t,i end
abbrev aims : Body
aims = fun ("t" ∷ "i" ∷ []) [] (block (
    assigns (field (loc "t" 0) "x" ∷ Index 1 (loc "t" 0) (int 2) ∷ Index 1 (loc "t" 0) (loc "i" 1) ∷ []) (loc "i" 1 ∷ loc "t" 0 ∷ loc "i" 1 ∷ []) ∷ []))

abbrev aims_code : Prototype
aims_code = hand 2 false 11 (text "x" ∷ []) [] (variable "t" 0 11 ∷ variable "i" 0 11 ∷ []) []
    (abc Move 2 0 0 false ∷ abc Move 4 0 0 false ∷ abc Move 6 0 0 false ∷ abc Move 7 1 0 false
    ∷ abc Move 8 1 0 false ∷ abc Move 9 0 0 false ∷ abc Move 10 1 0 false
    ∷ abc SetTable 6 7 10 false ∷ abc SetI 4 2 9 false ∷ abc SetField 2 0 8 false ∷ abc Return 2 1 0 true ∷ [])

aimed : Compiles aims aims_code
unfolding opcodes number_of
aimed = refl

-- function(a,b) a,b=b,a return a-b end
abbrev swaps : Body
swaps = fun ("a" ∷ "b" ∷ []) [] (returning (assigns (loc "a" 0 ∷ loc "b" 1 ∷ []) (loc "b" 1 ∷ loc "a" 0 ∷ []) ∷ []) (bin Minus (loc "a" 0) (loc "b" 1) ∷ []))

abbrev pub swaps_code : Prototype
swaps_code = hand 2 false 5 [] [] (variable "a" 0 6 ∷ variable "b" 0 6 ∷ []) []
    (abc Move 4 1 0 false ∷ abc Move 1 0 0 false ∷ abc Move 0 4 0 false ∷ abc Sub 2 0 1 false ∷ abc MmBin 0 1 7 false ∷ abc Return 2 2 0 true ∷ [])

swap_code : Compiles swaps swaps_code
unfolding opcodes number_of
swap_code = refl

swapped : AskAlike 1 (tree_asks swaps (number 1 ∷ number 5 ∷ []) []) (code_asks swaps_code (number 1 ∷ number 5 ∷ []) [])
unfolding opcodes number_of int_wrap
swapped = (refl, refl)

-- return 65536,65537,-65535,-65536: LOADI has 17 bits
abbrev numbers : Body
numbers = fun [] [] (returning [] (Int 1 (pos 65536) ∷ Int 1 (pos 65537) ∷ Int 1 (negsuc 65534) ∷ Int 1 (negsuc 65535) ∷ []))

abbrev pub numbers_code : Prototype
numbers_code = hand 0 false 4 (IntConst (pos 65537) ∷ IntConst (negsuc 65535) ∷ []) [] [] []
    (abx LoadI 0 131071 ∷ abx LoadK 1 0 ∷ abx LoadI 2 0 ∷ abx LoadK 3 1 ∷ abc Return 0 5 0 false ∷ [])

constants_code : Compiles numbers numbers_code
unfolding opcodes number_of
constants_code = refl

loaded : AskAlike 1 (tree_asks numbers [] []) (code_asks numbers_code [] [])
unfolding opcodes number_of int_wrap
loaded = (refl, refl)
