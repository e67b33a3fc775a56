-- Functions, calls and the order of evaluation, by runs of scripts. What is expected is what the Lua 5.4 manual says.
use Rattle.std.proofs.Common.{◌≡◌, ℕ, List, [], ◌∷◌, refl}
use Rattle.std.specs.Int.{int_wrap}
use Rattle.std.specs.Fmt.{digits}
use Rattle.int_core.specs.Heap.{raw_set}
use Rattle.tree_core.specs.declared.operator.BinOp.TheVariants.{Add, Sub, Mul, Mod, Idiv, Band, Bor, Bxor, Shl, Shr, Concat, Lt, Le, Gt, Ge, Eq, Ne}
use Rattle.tree_core.specs.declared.operator.UnOp.TheVariants.{Neg, BitNot, Not, Len}
use Rattle.tree_core.specs.Tree.{Body, Stat, Exp, Nil, True, False, Table, Unary, And, Or, Paren, Index, If, Item, Keyed, fields, arms}
use Rattle.tree_terms.proofs.Forms.{declared, of_local, loc, outer, global, int, str, bin, call, field, function, block, returning, locals, loc_is, assigns, does, fun, vararg_fun}
use Rattle.lua_meaning.specs.Libraries.{primitive_values, constant_values, library_table, environment}
use Rattle.lua_meaning.specs.Step.{row}
use Rattle.lua_meaning.proofs.Scripts.{dots, method, assign, local_function, chunk, run, ran, prints, usual}

abbrev neg : ℕ → Exp
neg n = Unary 1 Neg (int n)

-- print(7//-2, 7%-2, -7//2)
floors : run 2000 (chunk (block (prints (bin Idiv (int 7) (neg 2) ∷ bin Mod (int 7) (neg 2) ∷ bin Idiv (neg 7) (int 2) ∷ []) ∷ []))) [] usual ≡ ran "-4\t-1\t-4\nreturn\n" 0
unfolding int_wrap digits row primitive_values constant_values library_table environment
floors = refl

-- return 6&3, 6|3, 6~3, 1<<4, 256>>4, ~0, "10"+5, 3 .."x", #"abc"
operators : run 300 (chunk (returning [] (
    bin Band (int 6) (int 3) ∷ bin Bor (int 6) (int 3) ∷ bin Bxor (int 6) (int 3) ∷ bin Shl (int 1) (int 4) ∷ bin Shr (int 256) (int 4) ∷ Unary 1 BitNot (int 0)
    ∷ bin Add (str "10") (int 5) ∷ bin Concat (int 3) (str "x") ∷ Unary 1 Len (str "abc") ∷ []))) [] usual ≡ ran "return\t2\t7\t5\t16\t16\t-1\t15\t3x\t3\n" 0
unfolding int_wrap digits row primitive_values constant_values library_table environment
operators = refl

-- return 1<2, 2<=2, 1>2, 2>=3, 1==1, 1~=1, "a"<"b", (1<2)==true, not nil
comparisons : run 300 (chunk (returning [] (
    bin Lt (int 1) (int 2) ∷ bin Le (int 2) (int 2) ∷ bin Gt (int 1) (int 2) ∷ bin Ge (int 2) (int 3) ∷ bin Eq (int 1) (int 1) ∷ bin Ne (int 1) (int 1)
    ∷ bin Lt (str "a") (str "b") ∷ bin Eq (Paren 1 (bin Lt (int 1) (int 2))) (True 1) ∷ Unary 1 Not (Nil 1) ∷ []))) [] usual
    ≡ ran "return\ttrue\ttrue\tfalse\tfalse\ttrue\tfalse\ttrue\ttrue\ttrue\n" 0
unfolding row primitive_values constant_values library_table environment
comparisons = refl

-- local function f(...) return ... end return nil and f(1), false or f(1,2), 1 and f(), (f(1,2)): each gives one value
and_or : run 300 (chunk (returning (local_function "f" 0 (vararg_fun [] [] (returning [] (dots ∷ []))) ∷ []) (
    And 1 (Nil 1) (call (loc "f" 0) (int 1 ∷ [])) ∷ Or 1 (False 1) (call (loc "f" 0) (int 1 ∷ int 2 ∷ []))
    ∷ And 1 (int 1) (call (loc "f" 0) []) ∷ Paren 1 (call (loc "f" 0) (int 1 ∷ int 2 ∷ [])) ∷ []))) [] usual ≡ ran "return\tnil\t1\tnil\t1\n" 0
unfolding digits row primitive_values constant_values library_table environment
and_or = refl

-- local function fact(n) if n<2 then return 1 end return n*fact(n-1) end print(fact(20))
recursion : run 3000 (chunk (block (
    local_function "fact" 0 (fun ("n" ∷ []) (of_local "fact" 0 ∷ []) (returning (
    If 1 (arms ((bin Lt (loc "n" 0) (int 2), returning [] (int 1 ∷ [])) ∷ [])) ∷ [])
    (bin Mul (loc "n" 0) (call (outer "fact" 0) (bin Sub (loc "n" 0) (int 1) ∷ [])) ∷ [])))
    ∷ prints (call (loc "fact" 0) (int 20 ∷ []) ∷ []) ∷ []))) [] usual ≡ ran "2432902008176640000\nreturn\n" 0
unfolding int_wrap digits row primitive_values constant_values library_table environment
recursion = refl

-- local function two(...) return ... end print((two(1,2)),two(3,4))
varargs : run 3000 (chunk (block (
    local_function "two" 0 (vararg_fun [] [] (returning [] (dots ∷ [])))
    ∷ prints (Paren 1 (call (loc "two" 0) (int 1 ∷ int 2 ∷ [])) ∷ call (loc "two" 0) (int 3 ∷ int 4 ∷ []) ∷ []) ∷ []))) [] usual ≡ ran "1\t3\t4\nreturn\n" 0
unfolding int_wrap digits row primitive_values constant_values library_table environment
varargs = refl

-- local function f(a,b,...) return b,a,... end return f(1), f(1,2,3,4): parameters without arguments are nil
parameters : run 300 (chunk (returning (
    local_function "f" 0 (vararg_fun ("a" ∷ "b" ∷ []) [] (returning [] (loc "b" 1 ∷ loc "a" 0 ∷ dots ∷ []))) ∷ [])
    (call (loc "f" 0) (int 1 ∷ []) ∷ call (loc "f" 0) (int 1 ∷ int 2 ∷ int 3 ∷ int 4 ∷ []) ∷ []))) [] usual ≡ ran "return\tnil\t2\t1\t3\t4\n" 0
unfolding digits row primitive_values constant_values library_table environment
parameters = refl

-- local function mk() local n=0 return function() n=n+1 return n end,function() return n end end local a,b=mk() a() a() print(b())
shared_variable : run 3000 (chunk (block (
    local_function "mk" 0 (fun [] [] (returning (loc_is "n" 0 (int 0) ∷ []) (
    function (fun [] (of_local "n" 0 ∷ []) (returning (assign (outer "n" 0) (bin Add (outer "n" 0) (int 1)) ∷ []) (outer "n" 0 ∷ [])))
    ∷ function (fun [] (of_local "n" 0 ∷ []) (returning [] (outer "n" 0 ∷ []))) ∷ [])))
    ∷ locals (declared "a" 1 ∷ declared "b" 2 ∷ []) (call (loc "mk" 0) [] ∷ [])
    ∷ does (call (loc "a" 1) []) ∷ does (call (loc "a" 1) [])
    ∷ prints (call (loc "b" 2) [] ∷ []) ∷ []))) [] usual ≡ ran "2\nreturn\n" 0
unfolding int_wrap digits row primitive_values constant_values library_table environment
shared_variable = refl

-- local a=1 local function f() a=10 return 1 end print(a+f()): an operand's value is read at its turn
abbrev changes_operand : Stat → Body
changes_operand then_prints = chunk (block (
    loc_is "a" 0 (int 1) ∷ local_function "f" 1 (fun [] (of_local "a" 0 ∷ []) (returning (assign (outer "a" 0) (int 10) ∷ []) (int 1 ∷ []))) ∷ then_prints ∷ []))

left_operand_first : run 2000 (changes_operand (prints (bin Add (loc "a" 0) (call (loc "f" 1) []) ∷ []))) [] usual ≡ ran "2\nreturn\n" 0
unfolding int_wrap digits row primitive_values constant_values library_table environment
left_operand_first = refl

-- print(f()+a)
right_operand_second : run 2000 (changes_operand (prints (bin Add (call (loc "f" 1) []) (loc "a" 0) ∷ []))) [] usual ≡ ran "11\nreturn\n" 0
unfolding int_wrap digits row primitive_values constant_values library_table environment
right_operand_second = refl

-- print(a>f()): the left operand of `>` is evaluated first
greater_from_left : run 2000 (changes_operand (prints (bin Gt (loc "a" 0) (call (loc "f" 1) []) ∷ []))) [] usual ≡ ran "false\nreturn\n" 0
unfolding int_wrap digits row primitive_values constant_values library_table environment
greater_from_left = refl

-- a function that writes its argument's place in a text: local s="" local function w(x) s=s..x return x end
abbrev traced : List Stat → List Exp → Body
traced ss es = chunk (returning (
    loc_is "s" 0 (str "")
    ∷ local_function "w" 1 (fun ("x" ∷ []) (of_local "s" 0 ∷ []) (returning (assign (outer "s" 0) (bin Concat (outer "s" 0) (loc "x" 0)) ∷ []) (loc "x" 0 ∷ [])))
    ∷ ss) es)

abbrev w : ℕ → Exp
w n = call (loc "w" 1) (int n ∷ [])

-- local t={} t[w(1)],t[w(2)]=w(3),w(4) return s,t[1],t[2]: tables and keys, and then the values
assignment_order : run 600 (traced (
    loc_is "t" 2 (Table 1 (fields []))
    ∷ assigns (Index 1 (loc "t" 2) (w 1) ∷ Index 1 (loc "t" 2) (w 2) ∷ []) (w 3 ∷ w 4 ∷ []) ∷ [])
    (loc "s" 0 ∷ Index 1 (loc "t" 2) (int 1) ∷ Index 1 (loc "t" 2) (int 2) ∷ [])) [] usual ≡ ran "return\t1234\t3\t4\n" 0
unfolding digits raw_set row primitive_values constant_values library_table environment
assignment_order = refl

-- local t={} t[1],t[1]=5,6 return t[1]: stored from right to left
stores_from_right : run 300 (chunk (returning (
    loc_is "t" 0 (Table 1 (fields []))
    ∷ assigns (Index 1 (loc "t" 0) (int 1) ∷ Index 1 (loc "t" 0) (int 1) ∷ []) (int 5 ∷ int 6 ∷ []) ∷ [])
    (Index 1 (loc "t" 0) (int 1) ∷ []))) [] usual ≡ ran "return\t5\n" 0
unfolding digits raw_set row primitive_values constant_values library_table environment
stores_from_right = refl

-- local i,a=3,{} i,a[i]=i+1,20 return i,a[3],a[4]: as in the manual
manual_assignment : run 300 (chunk (returning (
    locals (declared "i" 0 ∷ declared "a" 1 ∷ []) (int 3 ∷ Table 1 (fields []) ∷ [])
    ∷ assigns (loc "i" 0 ∷ Index 1 (loc "a" 1) (loc "i" 0) ∷ []) (bin Add (loc "i" 0) (int 1) ∷ int 20 ∷ []) ∷ [])
    (loc "i" 0 ∷ Index 1 (loc "a" 1) (int 3) ∷ Index 1 (loc "a" 1) (int 4) ∷ []))) [] usual ≡ ran "return\t4\t20\tnil\n" 0
unfolding int_wrap digits raw_set row primitive_values constant_values library_table environment
manual_assignment = refl

-- local x,y=1,2 x,y=y,x return x,y
swaps : run 300 (chunk (returning (
    locals (declared "x" 0 ∷ declared "y" 1 ∷ []) (int 1 ∷ int 2 ∷ []) ∷ assigns (loc "x" 0 ∷ loc "y" 1 ∷ []) (loc "y" 1 ∷ loc "x" 0 ∷ []) ∷ [])
    (loc "x" 0 ∷ loc "y" 1 ∷ []))) [] usual ≡ ran "return\t2\t1\n" 0
unfolding digits row primitive_values constant_values library_table environment
swaps = refl

-- x,y=1 return x,y,_G.x: globals; a value that is missing is nil
globals : run 300 (chunk (returning (
    assigns (global "x" ∷ global "y" ∷ []) (int 1 ∷ []) ∷ [])
    (global "x" ∷ global "y" ∷ field (global "_G") "x" ∷ []))) [] usual ≡ ran "return\t1\tnil\t1\n" 0
unfolding digits raw_set row primitive_values constant_values library_table environment
globals = refl

-- local t={w(1),[w(2)]=w(3),x=w(4),w(5)} return s,#t,t[2],t.x: fields in their order; the second item takes the place of [2]
constructor_order : run 600 (traced (
    loc_is "t" 2 (Table 1 (fields (Item (w 1) ∷ Keyed 1 (w 2) (w 3) ∷ Keyed 1 (str "x") (w 4) ∷ Item (w 5) ∷ []))) ∷ [])
    (loc "s" 0 ∷ Unary 1 Len (loc "t" 2) ∷ Index 1 (loc "t" 2) (int 2) ∷ field (loc "t" 2) "x" ∷ [])) [] usual ≡ ran "return\t12345\t2\t5\t4\n" 0
unfolding int_wrap digits raw_set row primitive_values constant_values library_table environment
constructor_order = refl

-- local function f() return 7,8,9 end return #{f(),f()}, ({f(),f()})[4], #{(f())}: all values of the last item are stored
constructor_takes_all : run 900 (chunk (returning (
    local_function "f" 0 (fun [] [] (returning [] (int 7 ∷ int 8 ∷ int 9 ∷ []))) ∷ [])
    (Unary 1 Len (Table 1 (fields (Item (call (loc "f" 0) []) ∷ Item (call (loc "f" 0) []) ∷ [])))
    ∷ Index 1 (Paren 1 (Table 1 (fields (Item (call (loc "f" 0) []) ∷ Item (call (loc "f" 0) []) ∷ [])))) (int 4)
    ∷ Unary 1 Len (Table 1 (fields (Item (Paren 1 (call (loc "f" 0) [])) ∷ []))) ∷ []))) [] usual ≡ ran "return\t4\t9\t1\n" 0
unfolding int_wrap digits raw_set row primitive_values constant_values library_table environment
constructor_takes_all = refl

-- local o={n=40} function o.m(self,x) return self.n+x end return o:m(2): the object is the first argument
method_call : run 300 (chunk (returning (
    loc_is "o" 0 (Table 1 (fields (Keyed 1 (str "n") (int 40) ∷ [])))
    ∷ assign (field (loc "o" 0) "m") (function (fun ("self" ∷ "x" ∷ []) [] (returning [] (bin Add (field (loc "self" 0) "n") (loc "x" 1) ∷ [])))) ∷ [])
    (method (loc "o" 0) "m" (int 2 ∷ []) ∷ []))) [] usual ≡ ran "return\t42\n" 0
unfolding int_wrap digits raw_set row primitive_values constant_values library_table environment
method_call = refl

-- local o={} function o.m(self,x) return s..x end return o:m((function() function o.m() return "late" end return w(1) end)()):
-- the method is looked up before the arguments are evaluated
method_before_arguments : run 900 (traced (
    loc_is "o" 2 (Table 1 (fields []))
    ∷ assign (field (loc "o" 2) "m") (function (fun ("self" ∷ "x" ∷ []) (of_local "s" 0 ∷ []) (returning [] (bin Concat (outer "s" 0) (loc "x" 1) ∷ [])))) ∷ [])
    (method (loc "o" 2) "m" (call (Paren 1 (function (fun [] (of_local "o" 2 ∷ of_local "w" 1 ∷ []) (returning (
    assign (field (outer "o" 0) "m") (function (fun [] [] (returning [] (str "late" ∷ [])))) ∷ []) (call (outer "w" 1) (int 1 ∷ []) ∷ []))))) [] ∷ []) ∷ []))
    [] usual ≡ ran "return\t11\n" 0
unfolding digits raw_set row primitive_values constant_values library_table environment
method_before_arguments = refl

-- local function f(n) if n==0 then return 5 end return f(n-1) end return f(3): tail calls
tail_calls : run 300 (chunk (returning (
    local_function "f" 0 (fun ("n" ∷ []) (of_local "f" 0 ∷ []) (returning (
    If 1 (arms ((bin Eq (loc "n" 0) (int 0), returning [] (int 5 ∷ [])) ∷ [])) ∷ [])
    (call (outer "f" 0) (bin Sub (loc "n" 0) (int 1) ∷ []) ∷ []))) ∷ [])
    (call (loc "f" 0) (int 3 ∷ []) ∷ []))) [] 4 ≡ ran "return\t5\n" 0
unfolding int_wrap digits row primitive_values constant_values library_table environment
tail_calls = refl

-- local _ENV={x=3} return x: a local of that name is where globals are looked up
local_environment : run 300 (chunk (returning (
    loc_is "_ENV" 0 (Table 1 (fields (Keyed 1 (str "x") (int 3) ∷ []))) ∷ [])
    (Rattle.tree_core.specs.Tree.Var 1 (Rattle.tree_terms.proofs.Forms.name "x" (Rattle.tree_core.specs.declared.name.Place.TheVariants.GlobalIn 0)) ∷ []))) [] usual ≡ ran "return\t3\n" 0
unfolding digits raw_set row primitive_values constant_values library_table environment
local_environment = refl

-- return function() return x end, where x is to be a local and none is in scope, which stands in no placed tree
misplaced : run 300 (chunk (returning [] (function (fun [] (of_local "x" 0 ∷ []) (returning [] (outer "x" 0 ∷ []))) ∷ []))) [] usual ≡ ran "" 99
unfolding row primitive_values constant_values library_table environment
misplaced = refl
