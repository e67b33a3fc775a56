-- Small sources whose code has, word for word, the instructions that Lua's own compiler makes of them: each list is that of `luac -l`, Lua 5.4.4.
use Rattle.std.proofs.Common.{◌≡◌, ℕ, true, false, List, [], ◌∷◌, length, take, Some, refl}
use Prim.Native.String.{String}
use Rattle.code_core.specs.Opcode.{opcodes, number_of}
use Rattle.code_core.specs.declared.opcode.Opcode.TheVariants.{Move, LoadFalse, LFalseSkip, LoadTrue, GetTabUp, GetTable, GetI, GetField, SetTable, SetI, SetField, Add, Mod, AddI, ShrI, MmBin, MmBinI, MulK, ModK, BOrK, MmBinK, EqK, Eq, Lt, Le, EqI, LeI, GtI, GeI, Test, TestSet, OpSelf, Unm, BNot, Not, Len, Concat, Call, Return, VarArg, VarArgPrep, LoadK, LoadNil, SetTabUp}
use Rattle.code_core.specs.declared.instruction.Instruction.{Instruction}
use Rattle.code_core.specs.Instruction.{abc, abx}
use Rattle.tree_core.specs.declared.operator.BinOp.TheVariants.{Add as Plus, Sub as Minus, Mul as Times, Mod as Modulo, Bor, Shr as ShiftRight, Concat as Join, Eq as Equal, Ne, Lt as Less, Le as AtMost, Gt, Ge, Shl as ShiftLeft}
use Rattle.tree_core.specs.declared.operator.UnOp.TheVariants.{Neg, BitNot, Not as Negation, Len as Length}
use Rattle.tree_core.specs.Tree.{Body, Stat, Exp, True, False, Vararg, Index, Method, Unary, And, Or, Paren, While, If, IfElse, arms, exps, Nil, Var}
use Rattle.tree_terms.proofs.Forms.{declared, no_variable, of_local, loc, global, int, field, call, bin, block, returning, locals, loc_is, assign, does, when, vararg_fun, str, name}
use Rattle.tree_core.specs.declared.name.Place.TheVariants.{GlobalIn}
use Rattle.code_means.proofs.Forms.{load_int, jump, jump_back}
use Rattle.code_of.specs.CodeOf.{code_of}
use Rattle.code_examples.proofs.Hand.{source, Lists}

abbrev pub calls : String → Exp
calls text = call (global text) []

abbrev pub chunk : List Stat → Body
chunk ss = vararg_fun [] (of_local "_ENV" 0 ∷ []) (block ss)

abbrev pub main : Stat → Body
main s = chunk (s ∷ [])

-- all but the last RETURN, whose field k Lua's own compiler sets where variables have to be closed, and we where locals are in scope
abbrev Begins : Body → List Instruction → Type 0
Begins b words = take (length words) (code_of (Some source) b).own.code ≡ words

-- while f() do g() end
waits : Lists (main (While 1 (calls "f") (block (does (calls "g") ∷ []))))
    (abc VarArgPrep 0 0 0 false ∷ abc GetTabUp 0 0 0 false ∷ abc Call 0 1 2 false ∷ abc Test 0 0 0 false ∷ jump 3 ∷ abc GetTabUp 0 0 1 false
    ∷ abc Call 0 1 1 false ∷ jump_back 7 ∷ abc Return 0 1 1 false ∷ [])
unfolding opcodes number_of
waits = refl

-- while true do f() end
ever : Lists (main (While 1 (True 1) (block (does (calls "f") ∷ []))))
    (abc VarArgPrep 0 0 0 false ∷ abc GetTabUp 0 0 0 false ∷ abc Call 0 1 1 false ∷ jump_back 3 ∷ abc Return 0 1 1 false ∷ [])
unfolding opcodes number_of
ever = refl

-- if not f() then g() else h() end
otherwise : Lists (main (IfElse 1 (arms ((Unary 1 Negation (calls "f"), block (does (calls "g") ∷ [])) ∷ [])) (block (does (calls "h") ∷ []))))
    (abc VarArgPrep 0 0 0 false ∷ abc GetTabUp 0 0 0 false ∷ abc Call 0 1 2 false ∷ abc Test 0 0 0 true ∷ jump 3 ∷ abc GetTabUp 0 0 1 false
    ∷ abc Call 0 1 1 false ∷ jump 2 ∷ abc GetTabUp 0 0 2 false ∷ abc Call 0 1 1 false ∷ abc Return 0 1 1 false ∷ [])
unfolding opcodes number_of
otherwise = refl

-- if f() and g() or h() then k() end
any_of : Lists (main (when (Or 1 (And 1 (calls "f") (calls "g")) (calls "h")) (does (calls "k") ∷ [])))
    (abc VarArgPrep 0 0 0 false ∷ abc GetTabUp 0 0 0 false ∷ abc Call 0 1 2 false ∷ abc Test 0 0 0 false ∷ jump 4 ∷ abc GetTabUp 0 0 1 false
    ∷ abc Call 0 1 2 false ∷ abc Test 0 0 0 true ∷ jump 4 ∷ abc GetTabUp 0 0 2 false ∷ abc Call 0 1 2 false ∷ abc Test 0 0 0 false ∷ jump 2
    ∷ abc GetTabUp 0 0 3 false ∷ abc Call 0 1 1 false ∷ abc Return 0 1 1 false ∷ [])
unfolding opcodes number_of
any_of = refl

-- if (f() or g()) and h() then k() end
all_of : Lists (main (when (And 1 (Paren 1 (Or 1 (calls "f") (calls "g"))) (calls "h")) (does (calls "k") ∷ [])))
    (abc VarArgPrep 0 0 0 false ∷ abc GetTabUp 0 0 0 false ∷ abc Call 0 1 2 false ∷ abc Test 0 0 0 true ∷ jump 4 ∷ abc GetTabUp 0 0 1 false
    ∷ abc Call 0 1 2 false ∷ abc Test 0 0 0 false ∷ jump 6 ∷ abc GetTabUp 0 0 2 false ∷ abc Call 0 1 2 false ∷ abc Test 0 0 0 false ∷ jump 2
    ∷ abc GetTabUp 0 0 3 false ∷ abc Call 0 1 1 false ∷ abc Return 0 1 1 false ∷ [])
unfolding opcodes number_of
all_of = refl

-- while not (f() and (g() or h())) do k() end
none_of : Lists (main (While 1 (Unary 1 Negation (Paren 1 (And 1 (calls "f") (Paren 1 (Or 1 (calls "g") (calls "h")))))) (block (does (calls "k") ∷ []))))
    (abc VarArgPrep 0 0 0 false ∷ abc GetTabUp 0 0 0 false ∷ abc Call 0 1 2 false ∷ abc Test 0 0 0 false ∷ jump 8 ∷ abc GetTabUp 0 0 1 false
    ∷ abc Call 0 1 2 false ∷ abc Test 0 0 0 true ∷ jump 7 ∷ abc GetTabUp 0 0 2 false ∷ abc Call 0 1 2 false ∷ abc Test 0 0 0 true ∷ jump 3
    ∷ abc GetTabUp 0 0 3 false ∷ abc Call 0 1 1 false ∷ jump_back 15 ∷ abc Return 0 1 1 false ∷ [])
unfolding opcodes number_of
none_of = refl

-- if f() < g() then h() elseif f() >= g() then k() else f() end
orders : Lists (main (IfElse 1 (arms ((bin Less (calls "f") (calls "g"), block (does (calls "h") ∷ [])) ∷ (bin Ge (calls "f") (calls "g"), block (does (calls "k") ∷ [])) ∷ []))
    (block (does (calls "f") ∷ []))))
    (abc VarArgPrep 0 0 0 false ∷ abc GetTabUp 0 0 0 false ∷ abc Call 0 1 2 false ∷ abc GetTabUp 1 0 1 false ∷ abc Call 1 1 2 false
    ∷ abc Lt 0 1 0 false ∷ jump 3 ∷ abc GetTabUp 0 0 2 false ∷ abc Call 0 1 1 false ∷ jump 11 ∷ abc GetTabUp 0 0 0 false ∷ abc Call 0 1 2 false
    ∷ abc GetTabUp 1 0 1 false ∷ abc Call 1 1 2 false ∷ abc Le 1 0 0 false ∷ jump 3 ∷ abc GetTabUp 0 0 3 false ∷ abc Call 0 1 1 false ∷ jump 2
    ∷ abc GetTabUp 0 0 0 false ∷ abc Call 0 1 1 false ∷ abc Return 0 1 1 false ∷ [])
unfolding opcodes number_of
orders = refl

-- if f() <= g() and not (f() > g()) then h() end
ranges : Lists (main (when (And 1 (bin AtMost (calls "f") (calls "g")) (Unary 1 Negation (Paren 1 (bin Gt (calls "f") (calls "g"))))) (does (calls "h") ∷ [])))
    (abc VarArgPrep 0 0 0 false ∷ abc GetTabUp 0 0 0 false ∷ abc Call 0 1 2 false ∷ abc GetTabUp 1 0 1 false ∷ abc Call 1 1 2 false
    ∷ abc Le 0 1 0 false ∷ jump 8 ∷ abc GetTabUp 0 0 0 false ∷ abc Call 0 1 2 false ∷ abc GetTabUp 1 0 1 false ∷ abc Call 1 1 2 false
    ∷ abc Lt 1 0 0 true ∷ jump 2 ∷ abc GetTabUp 0 0 2 false ∷ abc Call 0 1 1 false ∷ abc Return 0 1 1 false ∷ [])
unfolding opcodes number_of
ranges = refl

-- while f() == g() or f() ~= g() do h() end
equals : Lists (main (While 1 (Or 1 (bin Equal (calls "f") (calls "g")) (bin Ne (calls "f") (calls "g"))) (block (does (calls "h") ∷ []))))
    (abc VarArgPrep 0 0 0 false ∷ abc GetTabUp 0 0 0 false ∷ abc Call 0 1 2 false ∷ abc GetTabUp 1 0 1 false ∷ abc Call 1 1 2 false
    ∷ abc Eq 0 1 0 true ∷ jump 6 ∷ abc GetTabUp 0 0 0 false ∷ abc Call 0 1 2 false ∷ abc GetTabUp 1 0 1 false ∷ abc Call 1 1 2 false
    ∷ abc Eq 0 1 0 true ∷ jump 3 ∷ abc GetTabUp 0 0 2 false ∷ abc Call 0 1 1 false ∷ jump_back 15 ∷ abc Return 0 1 1 false ∷ [])
unfolding opcodes number_of
equals = refl

-- if false then f() end
never : Lists (main (when (False 1) (does (calls "f") ∷ [])))
    (abc VarArgPrep 0 0 0 false ∷ abc LoadFalse 0 0 0 false ∷ abc Test 0 0 0 false ∷ jump 2 ∷ abc GetTabUp 0 0 0 false ∷ abc Call 0 1 1 false
    ∷ abc Return 0 1 1 false ∷ [])
unfolding opcodes number_of
never = refl

-- if ... then return a elseif not b then return b end
returns : Lists (main (If 1 (arms ((Vararg 1, returning [] (global "a" ∷ [])) ∷ (Unary 1 Negation (global "b"), returning [] (global "b" ∷ [])) ∷ []))))
    (abc VarArgPrep 0 0 0 false ∷ abc VarArg 0 0 2 false ∷ abc Test 0 0 0 false ∷ jump 3 ∷ abc GetTabUp 0 0 0 false ∷ abc Return 0 2 1 false
    ∷ jump 5 ∷ abc GetTabUp 0 0 1 false ∷ abc Test 0 0 0 true ∷ jump 2 ∷ abc GetTabUp 0 0 1 false ∷ abc Return 0 2 1 false
    ∷ abc Return 0 1 1 false ∷ [])
unfolding opcodes number_of
returns = refl

-- operands that are locals and numerals

abbrev two : (m n : ℕ) → Stat
two m n = locals (declared "a" 0 ∷ declared "b" 1 ∷ []) (int m ∷ int n ∷ [])

-- local a,b = 1,2 if not (a == 1 or b ~= 2) then print(a) end
in_place : Begins (chunk (two 1 2 ∷ when (Unary 1 Negation (Paren 1 (Or 1 (bin Equal (loc "a" 0) (int 1)) (bin Ne (loc "b" 1) (int 2))))) (does (call (global "print") (loc "a" 0 ∷ [])) ∷ []) ∷ []))
    (abc VarArgPrep 0 0 0 false ∷ load_int 0 1 ∷ load_int 1 2 ∷ abc EqI 0 128 0 true ∷ jump 5 ∷ abc EqI 1 129 0 false ∷ jump 3 ∷ abc GetTabUp 2 0 0 false
    ∷ abc Move 3 0 0 false ∷ abc Call 2 2 1 false ∷ [])
unfolding opcodes number_of
in_place = refl

-- local a,b = 1,2 local c,d,e = a + b,a - 1,(b) >> 2 local f = a < b
sums : Begins (chunk (two 1 2
    ∷ locals (declared "c" 2 ∷ declared "d" 3 ∷ declared "e" 4 ∷ []) (bin Plus (loc "a" 0) (loc "b" 1) ∷ bin Minus (loc "a" 0) (int 1) ∷ bin ShiftRight (Paren 1 (loc "b" 1)) (int 2) ∷ [])
    ∷ loc_is "f" 5 (bin Less (loc "a" 0) (loc "b" 1)) ∷ []))
    (abc VarArgPrep 0 0 0 false ∷ load_int 0 1 ∷ load_int 1 2 ∷ abc Add 2 0 1 false ∷ abc MmBin 0 1 6 false ∷ abc AddI 3 0 126 false ∷ abc MmBinI 0 128 7 false
    ∷ abc ShrI 4 1 129 false ∷ abc MmBinI 1 129 17 false ∷ abc Lt 0 1 0 true ∷ jump 1 ∷ abc LFalseSkip 5 0 0 false ∷ abc LoadTrue 5 0 0 false ∷ [])
unfolding opcodes number_of
sums = refl

-- local a,b = 0,10 while a < b and b >= 3 do f(a + 1,b % a) end
counts : Begins (chunk (two 0 10
    ∷ While 1 (And 1 (bin Less (loc "a" 0) (loc "b" 1)) (bin Ge (loc "b" 1) (int 3))) (block (does (call (global "f") (bin Plus (loc "a" 0) (int 1) ∷ bin Modulo (loc "b" 1) (loc "a" 0) ∷ [])) ∷ [])) ∷ []))
    (abc VarArgPrep 0 0 0 false ∷ load_int 0 0 ∷ load_int 1 10 ∷ abc Lt 0 1 0 false ∷ jump 9 ∷ abc GeI 1 130 0 false ∷ jump 7 ∷ abc GetTabUp 2 0 0 false
    ∷ abc AddI 3 0 128 false ∷ abc MmBinI 0 128 6 false ∷ abc Mod 4 1 0 false ∷ abc MmBin 1 0 9 false ∷ abc Call 2 3 1 false ∷ jump_back 11 ∷ [])
unfolding opcodes number_of
counts = refl

-- local a,b = 1,2 local c,d,e = a > 5,b <= 128,a == b
truths : Begins (chunk (two 1 2
    ∷ locals (declared "c" 2 ∷ declared "d" 3 ∷ declared "e" 4 ∷ []) (bin Gt (loc "a" 0) (int 5) ∷ bin AtMost (loc "b" 1) (int 128) ∷ bin Equal (loc "a" 0) (loc "b" 1) ∷ []) ∷ []))
    (abc VarArgPrep 0 0 0 false ∷ load_int 0 1 ∷ load_int 1 2 ∷ abc GtI 0 132 0 true ∷ jump 1 ∷ abc LFalseSkip 2 0 0 false ∷ abc LoadTrue 2 0 0 false
    ∷ abc LeI 1 255 0 true ∷ jump 1 ∷ abc LFalseSkip 3 0 0 false ∷ abc LoadTrue 3 0 0 false ∷ abc Eq 0 1 0 true ∷ jump 1 ∷ abc LFalseSkip 4 0 0 false
    ∷ abc LoadTrue 4 0 0 false ∷ [])
unfolding opcodes number_of
truths = refl

-- local o = f() o:m(-o,#(o),~o) if o then g(not o) end
stays : Begins (chunk (loc_is "o" 0 (calls "f")
    ∷ does (Method 1 (loc "o" 0) (no_variable "m") (exps (Unary 1 Neg (loc "o" 0) ∷ Unary 1 Length (Paren 1 (loc "o" 0)) ∷ Unary 1 BitNot (loc "o" 0) ∷ [])))
    ∷ when (loc "o" 0) (does (call (global "g") (Unary 1 Negation (loc "o" 0) ∷ [])) ∷ []) ∷ []))
    (abc VarArgPrep 0 0 0 false ∷ abc GetTabUp 0 0 0 false ∷ abc Call 0 1 2 false ∷ abc OpSelf 1 0 1 true ∷ abc Unm 3 0 0 false ∷ abc Len 4 0 0 false ∷ abc BNot 5 0 0 false
    ∷ abc Call 1 5 1 false ∷ abc Test 0 0 0 false ∷ jump 3 ∷ abc GetTabUp 1 0 2 false ∷ abc Not 2 0 0 false ∷ abc Call 1 2 1 false ∷ [])
unfolding opcodes number_of
stays = refl

-- local t,i = f() local a,b,c = t[i],t[1],(t)[255]
fields : Begins (chunk (locals (declared "t" 0 ∷ declared "i" 1 ∷ []) (calls "f" ∷ [])
    ∷ locals (declared "a" 2 ∷ declared "b" 3 ∷ declared "c" 4 ∷ []) (Index 1 (loc "t" 0) (loc "i" 1) ∷ Index 1 (loc "t" 0) (int 1) ∷ Index 1 (Paren 1 (loc "t" 0)) (int 255) ∷ []) ∷ []))
    (abc VarArgPrep 0 0 0 false ∷ abc GetTabUp 0 0 0 false ∷ abc Call 0 1 3 false ∷ abc GetTable 2 0 1 false ∷ abc GetI 3 0 1 false ∷ abc GetI 4 0 255 false ∷ [])
unfolding opcodes number_of
fields = refl

-- local a = 1 a = a + 1 print(a)
grows : Begins (chunk (loc_is "a" 0 (int 1) ∷ assign (loc "a" 0) (bin Plus (loc "a" 0) (int 1)) ∷ does (call (global "print") (loc "a" 0 ∷ [])) ∷ []))
    (abc VarArgPrep 0 0 0 false ∷ load_int 0 1 ∷ abc AddI 0 0 128 false ∷ abc MmBinI 0 128 6 false ∷ abc GetTabUp 1 0 0 false ∷ abc Move 2 0 0 false ∷ abc Call 1 2 1 false ∷ [])
unfolding opcodes number_of
grows = refl

-- local a,b = f() a = b << 13
moves_up : Begins (chunk (locals (declared "a" 0 ∷ declared "b" 1 ∷ []) (calls "f" ∷ []) ∷ assign (loc "a" 0) (bin ShiftLeft (loc "b" 1) (int 13)) ∷ []))
    (abc VarArgPrep 0 0 0 false ∷ abc GetTabUp 0 0 0 false ∷ abc Call 0 1 3 false ∷ abc ShrI 0 1 114 false ∷ abc MmBinI 1 140 16 false ∷ [])
unfolding opcodes number_of
moves_up = refl

-- local a,t = 1,f() a = t[a] a = g() + a
straight : Begins (chunk (locals (declared "a" 0 ∷ declared "t" 1 ∷ []) (int 1 ∷ calls "f" ∷ [])
    ∷ assign (loc "a" 0) (Index 1 (loc "t" 1) (loc "a" 0)) ∷ assign (loc "a" 0) (bin Plus (calls "g") (loc "a" 0)) ∷ []))
    (abc VarArgPrep 0 0 0 false ∷ load_int 0 1 ∷ abc GetTabUp 1 0 0 false ∷ abc Call 1 1 2 false ∷ abc GetTable 0 1 0 false ∷ abc GetTabUp 2 0 1 false ∷ abc Call 2 1 2 false
    ∷ abc Add 0 2 0 false ∷ abc MmBin 2 0 6 false ∷ [])
unfolding opcodes number_of
straight = refl

-- local a,b = f() a = b * 3 b = a % 1000 if a == "x" or b ~= nil then g(a | 7,b == 200) end
constants : Begins (chunk (locals (declared "a" 0 ∷ declared "b" 1 ∷ []) (calls "f" ∷ [])
    ∷ assign (loc "a" 0) (bin Times (loc "b" 1) (int 3)) ∷ assign (loc "b" 1) (bin Modulo (loc "a" 0) (int 1000))
    ∷ when (Or 1 (bin Equal (loc "a" 0) (str "x")) (bin Ne (loc "b" 1) (Nil 1))) (does (call (global "g") (bin Bor (loc "a" 0) (int 7) ∷ bin Equal (loc "b" 1) (int 200) ∷ [])) ∷ []) ∷ []))
    (abc VarArgPrep 0 0 0 false ∷ abc GetTabUp 0 0 0 false ∷ abc Call 0 1 3 false ∷ abc MulK 0 1 1 false ∷ abc MmBinK 1 1 8 false ∷ abc ModK 1 0 2 false ∷ abc MmBinK 0 2 9 false
    ∷ abc EqK 0 3 0 true ∷ jump 2 ∷ abc EqK 1 4 0 true ∷ jump 8 ∷ abc GetTabUp 2 0 5 false ∷ abc BOrK 3 0 6 false ∷ abc MmBinK 0 6 14 false
    ∷ abc EqK 1 7 0 true ∷ jump 1 ∷ abc LFalseSkip 4 0 0 false ∷ abc LoadTrue 4 0 0 false ∷ abc Call 2 3 1 false ∷ [])
unfolding opcodes number_of
constants = refl

-- local t,i = f() t.x = i t[1] = t t[i] = i g.x = i
stores : Begins (chunk (locals (declared "t" 0 ∷ declared "i" 1 ∷ []) (calls "f" ∷ [])
    ∷ assign (field (loc "t" 0) "x") (loc "i" 1) ∷ assign (Index 1 (loc "t" 0) (int 1)) (loc "t" 0) ∷ assign (Index 1 (loc "t" 0) (loc "i" 1)) (loc "i" 1) ∷ assign (field (global "g") "x") (loc "i" 1) ∷ []))
    (abc VarArgPrep 0 0 0 false ∷ abc GetTabUp 0 0 0 false ∷ abc Call 0 1 3 false ∷ abc SetField 0 1 1 false ∷ abc SetI 0 1 0 false ∷ abc SetTable 0 1 1 false
    ∷ abc GetTabUp 2 0 2 false ∷ abc SetField 2 1 1 false ∷ [])
unfolding opcodes number_of
stores = refl

-- local t = f() local a,b = t.x,t.y.z a = t.x g(g.x,t["y"])
names : Begins (chunk (loc_is "t" 0 (calls "f")
    ∷ locals (declared "a" 1 ∷ declared "b" 2 ∷ []) (field (loc "t" 0) "x" ∷ field (field (loc "t" 0) "y") "z" ∷ []) ∷ assign (loc "a" 1) (field (loc "t" 0) "x")
    ∷ does (call (global "g") (field (global "g") "x" ∷ field (loc "t" 0) "y" ∷ [])) ∷ []))
    (abc VarArgPrep 0 0 0 false ∷ abc GetTabUp 0 0 0 false ∷ abc Call 0 1 2 false ∷ abc GetField 1 0 1 false ∷ abc GetField 2 0 2 false ∷ abc GetField 2 2 3 false ∷ abc GetField 1 0 1 false
    ∷ abc GetTabUp 3 0 4 false ∷ abc GetTabUp 4 0 4 false ∷ abc GetField 4 4 1 false ∷ abc GetField 5 0 2 false ∷ abc Call 3 3 1 false ∷ [])
unfolding opcodes number_of
names = refl

-- local t,i = f() t = i i = 5 t = "x" i = g t = true i = nil t = (i)
stands : Begins (chunk (locals (declared "t" 0 ∷ declared "i" 1 ∷ []) (calls "f" ∷ [])
    ∷ assign (loc "t" 0) (loc "i" 1) ∷ assign (loc "i" 1) (int 5) ∷ assign (loc "t" 0) (str "x") ∷ assign (loc "i" 1) (global "g") ∷ assign (loc "t" 0) (True 1)
    ∷ assign (loc "i" 1) (Nil 1) ∷ assign (loc "t" 0) (Paren 1 (loc "i" 1)) ∷ []))
    (abc VarArgPrep 0 0 0 false ∷ abc GetTabUp 0 0 0 false ∷ abc Call 0 1 3 false ∷ abc Move 0 1 0 false ∷ load_int 1 5 ∷ abx LoadK 0 1 ∷ abc GetTabUp 1 0 2 false
    ∷ abc LoadTrue 0 0 0 false ∷ abc LoadNil 1 0 0 false ∷ abc Move 0 1 0 false ∷ [])
unfolding opcodes number_of
stands = refl

-- local t,i = f() t = -i i = #t t = not t i = ~(i)
prefixed : Begins (chunk (locals (declared "t" 0 ∷ declared "i" 1 ∷ []) (calls "f" ∷ [])
    ∷ assign (loc "t" 0) (Unary 1 Neg (loc "i" 1)) ∷ assign (loc "i" 1) (Unary 1 Length (loc "t" 0)) ∷ assign (loc "t" 0) (Unary 1 Negation (loc "t" 0))
    ∷ assign (loc "i" 1) (Unary 1 BitNot (Paren 1 (loc "i" 1))) ∷ []))
    (abc VarArgPrep 0 0 0 false ∷ abc GetTabUp 0 0 0 false ∷ abc Call 0 1 3 false ∷ abc Unm 0 1 0 false ∷ abc Len 1 0 0 false ∷ abc Not 0 0 0 false ∷ abc BNot 1 1 0 false ∷ [])
unfolding opcodes number_of
prefixed = refl

-- local _ENV = f() g(x)
environment : Begins (chunk (loc_is "_ENV" 0 (calls "f") ∷ does (call (Var 1 (name "g" (GlobalIn 0))) (Var 1 (name "x" (GlobalIn 0)) ∷ [])) ∷ []))
    (abc VarArgPrep 0 0 0 false ∷ abc GetTabUp 0 0 0 false ∷ abc Call 0 1 2 false ∷ abc GetField 1 0 1 false ∷ abc GetField 2 0 2 false ∷ abc Call 1 2 1 false ∷ [])
unfolding opcodes number_of
environment = refl

-- local t = f() g = t
sets : Begins (chunk (loc_is "t" 0 (calls "f") ∷ assign (global "g") (loc "t" 0) ∷ []))
    (abc VarArgPrep 0 0 0 false ∷ abc GetTabUp 0 0 0 false ∷ abc Call 0 1 2 false ∷ abc SetTabUp 0 1 0 false ∷ [])
unfolding opcodes number_of
sets = refl

-- local _ENV = f() g = _ENV
environment_sets : Begins (chunk (loc_is "_ENV" 0 (calls "f") ∷ assign (Var 1 (name "g" (GlobalIn 0))) (loc "_ENV" 0) ∷ []))
    (abc VarArgPrep 0 0 0 false ∷ abc GetTabUp 0 0 0 false ∷ abc Call 0 1 2 false ∷ abc SetField 0 1 0 false ∷ [])
unfolding opcodes number_of
environment_sets = refl

-- local t = f() t.x = 1 t[1] = true t[t] = nil g = "x"
keeps : Begins (chunk (loc_is "t" 0 (calls "f")
    ∷ assign (field (loc "t" 0) "x") (int 1) ∷ assign (Index 1 (loc "t" 0) (int 1)) (True 1) ∷ assign (Index 1 (loc "t" 0) (loc "t" 0)) (Nil 1) ∷ assign (global "g") (str "x") ∷ []))
    (abc VarArgPrep 0 0 0 false ∷ abc GetTabUp 0 0 0 false ∷ abc Call 0 1 2 false ∷ abc SetField 0 1 2 true ∷ abc SetI 0 1 3 true ∷ abc SetTable 0 0 4 true ∷ abc SetTabUp 0 5 1 true ∷ [])
unfolding opcodes number_of
keeps = refl

-- local _ENV = f() g = 5
environment_keeps : Begins (chunk (loc_is "_ENV" 0 (calls "f") ∷ assign (Var 1 (name "g" (GlobalIn 0))) (int 5) ∷ []))
    (abc VarArgPrep 0 0 0 false ∷ abc GetTabUp 0 0 0 false ∷ abc Call 0 1 2 false ∷ abc SetField 0 1 2 true ∷ [])
unfolding opcodes number_of
environment_keeps = refl

-- local a,b,c = f() local x = a and b local y = a or (b and c) local z = a == b and c or a local u = (a or b) and c g(a and b,c)
values_decide : Begins (chunk (locals (declared "a" 0 ∷ declared "b" 1 ∷ declared "c" 2 ∷ []) (calls "f" ∷ [])
    ∷ loc_is "x" 3 (And 1 (loc "a" 0) (loc "b" 1)) ∷ loc_is "y" 4 (Or 1 (loc "a" 0) (Paren 1 (And 1 (loc "b" 1) (loc "c" 2))))
    ∷ loc_is "z" 5 (Or 1 (And 1 (bin Equal (loc "a" 0) (loc "b" 1)) (loc "c" 2)) (loc "a" 0)) ∷ loc_is "u" 6 (And 1 (Paren 1 (Or 1 (loc "a" 0) (loc "b" 1))) (loc "c" 2))
    ∷ does (call (global "g") (And 1 (loc "a" 0) (loc "b" 1) ∷ loc "c" 2 ∷ [])) ∷ []))
    (abc VarArgPrep 0 0 0 false ∷ abc GetTabUp 0 0 0 false ∷ abc Call 0 1 4 false ∷ abc TestSet 3 0 0 false ∷ jump 1 ∷ abc Move 3 1 0 false
    ∷ abc TestSet 4 0 0 true ∷ jump 3 ∷ abc TestSet 4 1 0 false ∷ jump 1 ∷ abc Move 4 2 0 false
    ∷ abc Eq 0 1 0 false ∷ jump 2 ∷ abc TestSet 5 2 0 true ∷ jump 1 ∷ abc Move 5 0 0 false
    ∷ abc Test 0 0 0 true ∷ jump 2 ∷ abc TestSet 6 1 0 false ∷ jump 1 ∷ abc Move 6 2 0 false
    ∷ abc GetTabUp 7 0 1 false ∷ abc TestSet 8 0 0 false ∷ jump 1 ∷ abc Move 8 1 0 false ∷ abc Move 9 2 0 false ∷ abc Call 7 3 1 false ∷ [])
unfolding opcodes number_of
values_decide = refl

-- local a,b = f() g(a .. b .. "x" .. 5, a .. b)
chained : Begins (chunk (locals (declared "a" 0 ∷ declared "b" 1 ∷ []) (calls "f" ∷ [])
    ∷ does (call (global "g") (bin Join (loc "a" 0) (bin Join (loc "b" 1) (bin Join (str "x") (int 5))) ∷ bin Join (loc "a" 0) (loc "b" 1) ∷ [])) ∷ []))
    (abc VarArgPrep 0 0 0 false ∷ abc GetTabUp 0 0 0 false ∷ abc Call 0 1 3 false ∷ abc GetTabUp 2 0 1 false ∷ abc Move 3 0 0 false ∷ abc Move 4 1 0 false ∷ abx LoadK 5 2 ∷ load_int 6 5
    ∷ abc Concat 3 4 0 false ∷ abc Move 4 0 0 false ∷ abc Move 5 1 0 false ∷ abc Concat 4 2 0 false ∷ abc Call 2 3 1 false ∷ [])
unfolding opcodes number_of
chained = refl
