-- Loops, jumps and budgets, by runs of scripts. What is expected is what the Lua 5.4 manual says.
use Rattle.std.proofs.Common.{◌≡◌, ℕ, [], ◌∷◌, refl}
use Rattle.std.specs.Int.{int_wrap}
use Rattle.std.specs.Fmt.{digits}
use Rattle.int_core.specs.Heap.{raw_set}
use Rattle.tree_core.specs.declared.operator.BinOp.TheVariants.{Add, Mul, Mod, Lt, Ge, Eq}
use Rattle.tree_core.specs.declared.operator.UnOp.TheVariants.{Neg, Len}
use Rattle.tree_core.specs.Tree.{Body, Nil, True, Table, Unary, Index, Do, While, Repeat, If, IfElse, NumFor, NumForStep, GenFor, Label, Goto, Break, Keyed, exps, fields, arms}
use Rattle.tree_core.specs.declared.name.Place.TheVariants.{Local as LocalPlace}
use Rattle.tree_terms.proofs.Forms.{name, no_variable, declared, of_local, loc, outer, global, int, str, bin, call, function, block, returning, locals, loc_is, does, when, fun}
use Rattle.lua_meaning.specs.Libraries.{primitive_values, constant_values, library_table, environment}
use Rattle.lua_meaning.specs.Step.{row}
use Rattle.lua_meaning.proofs.Scripts.{assign, local_function, chunk, run, ran, prints, usual}

abbrev neg : ℕ → Rattle.tree_core.specs.Tree.Exp
neg n = Unary 1 Neg (int n)

empty : run 10 (chunk (block [])) [] usual ≡ ran "return\n" 0
unfolding row primitive_values constant_values library_table environment
empty = refl

-- local n=0 ::top:: n=n+1 if n<3 then goto top end return n
abbrev counts_by_goto : Body
counts_by_goto = chunk (returning (
    loc_is "n" 0 (int 0)
    ∷ Label 1 (no_variable "top")
    ∷ assign (loc "n" 0) (bin Add (loc "n" 0) (int 1))
    ∷ when (bin Lt (loc "n" 0) (int 3)) (Goto 1 (no_variable "top") ∷ []) ∷ [])
    (loc "n" 0 ∷ []))

goto_back : run 100 counts_by_goto [] 2 ≡ ran "return\t3\n" 0
unfolding int_wrap digits row primitive_values constant_values library_table environment
goto_back = refl

goto_back_unpaid : run 100 counts_by_goto [] 1 ≡ ran "" 4
unfolding int_wrap digits row primitive_values constant_values library_table environment
goto_back_unpaid = refl

-- while true do end
while_forever : run 100 (chunk (block (While 1 (True 1) (block []) ∷ []))) [] 3 ≡ ran "" 4
unfolding row primitive_values constant_values library_table environment
while_forever = refl

-- for i=1,LIMIT do end
abbrev rounds : ℕ → Body
rounds limit = chunk (block (NumFor 1 (name "i" (LocalPlace 3)) (int 1) (int limit) (block []) ∷ []))

-- each further round costs a unit
for_paid : run 100 (rounds 4) [] 3 ≡ ran "return\n" 0
unfolding int_wrap row primitive_values constant_values library_table environment
for_paid = refl

for_unpaid : run 100 (rounds 5) [] 3 ≡ ran "" 4
unfolding int_wrap row primitive_values constant_values library_table environment
for_unpaid = refl

-- local s=0 for i=1,4 do if i%2==0 then s=s+i end end return s
sum_of_even : run 300 (chunk (returning (
    loc_is "s" 0 (int 0)
    ∷ NumFor 1 (name "i" (LocalPlace 4)) (int 1) (int 4) (block (
    when (bin Eq (bin Mod (loc "i" 4) (int 2)) (int 0)) (assign (loc "s" 0) (bin Add (loc "s" 0) (loc "i" 4)) ∷ []) ∷ [])) ∷ [])
    (loc "s" 0 ∷ []))) [] usual ≡ ran "return\t6\n" 0
unfolding int_wrap digits row primitive_values constant_values library_table environment
sum_of_even = refl

-- local s=0 for i=7,1,-3 do s=s*10+i end return s
counts_down : run 300 (chunk (returning (
    loc_is "s" 0 (int 0)
    ∷ NumForStep 1 (name "i" (LocalPlace 4)) (int 7) (int 1) (neg 3) (block (
    assign (loc "s" 0) (bin Add (bin Mul (loc "s" 0) (int 10)) (loc "i" 4)) ∷ [])) ∷ [])
    (loc "s" 0 ∷ []))) [] usual ≡ ran "return\t741\n" 0
unfolding int_wrap digits row primitive_values constant_values library_table environment
counts_down = refl

-- for i=FIRST,LIMIT,STEP do end, where one of them is no integer, or the step is 0: looked at in the order limit, step, initial value
abbrev stepped : (first limit step : Rattle.tree_core.specs.Tree.Exp) → Body
stepped first limit step = chunk (block (NumForStep 1 (name "i" (LocalPlace 3)) first limit step (block []) ∷ []))

no_limit : run 100 (stepped (Nil 1) (Nil 1) (Nil 1)) [] usual ≡ ran "error\ts.lua:1: 'for' limit must be a number\n" 1
unfolding digits row primitive_values constant_values library_table environment
no_limit = refl

no_step : run 100 (stepped (Nil 1) (int 1) (str "1")) [] usual ≡ ran "error\ts.lua:1: 'for' step must be a number\n" 1
unfolding digits row primitive_values constant_values library_table environment
no_step = refl

no_first : run 100 (stepped (Nil 1) (int 1) (int 0)) [] usual ≡ ran "error\ts.lua:1: 'for' initial value must be a number\n" 1
unfolding digits row primitive_values constant_values library_table environment
no_first = refl

zero_step : run 100 (stepped (int 1) (int 1) (int 0)) [] usual ≡ ran "error\ts.lua:1: 'for' step is zero\n" 1
unfolding digits row primitive_values constant_values library_table environment
zero_step = refl

-- for i=9223372036854775806,9223372036854775807 do n=n+1 end: the index does not wrap around
no_wrap : run 300 (chunk (returning (
    loc_is "n" 0 (int 0)
    ∷ NumFor 1 (name "i" (LocalPlace 4)) (int 9223372036854775806) (int 9223372036854775807) (block (
    assign (loc "n" 0) (bin Add (loc "n" 0) (int 1)) ∷ [])) ∷ [])
    (loc "n" 0 ∷ []))) [] usual ≡ ran "return\t2\n" 0
unfolding int_wrap digits row primitive_values constant_values library_table environment
no_wrap = refl

-- local n=0 repeat local m=n n=n+1 until m>=2 return n: the test sees the block's locals
repeat_sees_locals : run 300 (chunk (returning (
    loc_is "n" 0 (int 0)
    ∷ Repeat 1 (block (loc_is "m" 1 (loc "n" 0) ∷ assign (loc "n" 0) (bin Add (loc "n" 0) (int 1)) ∷ [])) (bin Ge (loc "m" 1) (int 2)) ∷ [])
    (loc "n" 0 ∷ []))) [] 2 ≡ ran "return\t3\n" 0
unfolding int_wrap digits row primitive_values constant_values library_table environment
repeat_sees_locals = refl

-- local n=0 while true do n=n+1 if n==3 then break elseif n==9 then return 9 else n=n+0 end end return n
break_leaves : run 300 (chunk (returning (
    loc_is "n" 0 (int 0)
    ∷ While 1 (True 1) (block (
    assign (loc "n" 0) (bin Add (loc "n" 0) (int 1))
    ∷ IfElse 1 (arms ((bin Eq (loc "n" 0) (int 3), block (Break 1 ∷ [])) ∷ (bin Eq (loc "n" 0) (int 9), returning [] (int 9 ∷ [])) ∷ []))
    (block (assign (loc "n" 0) (bin Add (loc "n" 0) (int 0)) ∷ [])) ∷ [])) ∷ [])
    (loc "n" 0 ∷ []))) [] 2 ≡ ran "return\t3\n" 0
unfolding int_wrap digits row primitive_values constant_values library_table environment
break_leaves = refl

-- local f={} for i=1,3 do if i==2 then goto continue end f[#f+1]=function() i=i+1 return i end ::continue:: end
-- print(f[1](),f[1](),f[2]()): each round has a variable of its own
fresh_each_round : run 3000 (chunk (block (
    loc_is "f" 0 (Table 1 (fields []))
    ∷ NumFor 1 (name "i" (LocalPlace 4)) (int 1) (int 3) (block (
    when (bin Eq (loc "i" 4) (int 2)) (Goto 1 (no_variable "continue") ∷ [])
    ∷ assign (Index 1 (loc "f" 0) (bin Add (Unary 1 Len (loc "f" 0)) (int 1)))
    (function (fun [] (of_local "i" 4 ∷ []) (returning (assign (outer "i" 0) (bin Add (outer "i" 0) (int 1)) ∷ []) (outer "i" 0 ∷ []))))
    ∷ Label 1 (no_variable "continue") ∷ []))
    ∷ prints (call (Index 1 (loc "f" 0) (int 1)) [] ∷ call (Index 1 (loc "f" 0) (int 1)) [] ∷ call (Index 1 (loc "f" 0) (int 2)) [] ∷ []) ∷ []))) [] usual
    ≡ ran "2\t3\t4\nreturn\n" 0
unfolding int_wrap digits raw_set row primitive_values constant_values library_table environment
fresh_each_round = refl

-- local f local c=true while c do local x=0 f=function() return x end x=5 c=false end return f(): the last value before the scope's end
last_value_in_scope : run 300 (chunk (returning (
    locals (declared "f" 0 ∷ []) [] ∷ loc_is "c" 1 (True 1)
    ∷ While 1 (loc "c" 1) (block (
    loc_is "x" 2 (int 0)
    ∷ assign (loc "f" 0) (function (fun [] (of_local "x" 2 ∷ []) (returning [] (outer "x" 0 ∷ []))))
    ∷ assign (loc "x" 2) (int 5)
    ∷ assign (loc "c" 1) (Rattle.tree_core.specs.Tree.False 1) ∷ [])) ∷ [])
    (call (loc "f" 0) [] ∷ []))) [] usual ≡ ran "return\t5\n" 0
unfolding digits row primitive_values constant_values library_table environment
last_value_in_scope = refl

-- local a,b local n=0 ::top:: local x=n n=n+1 if n==1 then a=function() return x end goto top end b=function() return x end x=7
-- return a(),b(): a jump back reaches the declaration again, and the variable is a new one
fresh_after_goto : run 500 (chunk (returning (
    locals (declared "a" 0 ∷ declared "b" 1 ∷ []) [] ∷ loc_is "n" 2 (int 0)
    ∷ Label 1 (no_variable "top")
    ∷ loc_is "x" 3 (loc "n" 2)
    ∷ assign (loc "n" 2) (bin Add (loc "n" 2) (int 1))
    ∷ when (bin Eq (loc "n" 2) (int 1)) (
    assign (loc "a" 0) (function (fun [] (of_local "x" 3 ∷ []) (returning [] (outer "x" 0 ∷ [])))) ∷ Goto 1 (no_variable "top") ∷ [])
    ∷ assign (loc "b" 1) (function (fun [] (of_local "x" 3 ∷ []) (returning [] (outer "x" 0 ∷ []))))
    ∷ assign (loc "x" 3) (int 7) ∷ [])
    (call (loc "a" 0) [] ∷ call (loc "b" 1) [] ∷ []))) [] usual ≡ ran "return\t0\t7\n" 0
unfolding int_wrap digits row primitive_values constant_values library_table environment
fresh_after_goto = refl

-- local n=0 goto b ::a:: n=n+1 do goto c end ::b:: n=n+10 goto a ::c:: return n: out of a block, ahead and back
goto_both_ways : run 500 (chunk (returning (
    loc_is "n" 0 (int 0)
    ∷ Goto 1 (no_variable "b")
    ∷ Label 1 (no_variable "a")
    ∷ assign (loc "n" 0) (bin Add (loc "n" 0) (int 1))
    ∷ Do 1 (block (Goto 1 (no_variable "c") ∷ []))
    ∷ Label 1 (no_variable "b")
    ∷ assign (loc "n" 0) (bin Add (loc "n" 0) (int 10))
    ∷ Goto 1 (no_variable "a")
    ∷ Label 1 (no_variable "c") ∷ [])
    (loc "n" 0 ∷ []))) [] 1 ≡ ran "return\t11\n" 0
unfolding int_wrap digits row primitive_values constant_values library_table environment
goto_both_ways = refl

-- local function it(s,c) if c<s then return c+1 end end for i in it,3,0 do print(i) end
generic_for : run 3000 (chunk (block (
    local_function "it" 0 (fun ("s" ∷ "c" ∷ []) [] (block (
    If 1 (arms ((bin Lt (loc "c" 1) (loc "s" 0), returning [] (bin Add (loc "c" 1) (int 1) ∷ [])) ∷ [])) ∷ [])))
    ∷ GenFor 1 (name "i" (LocalPlace 5) ∷ []) (exps (loc "it" 0 ∷ int 3 ∷ int 0 ∷ [])) (block (prints (loc "i" 5 ∷ []) ∷ [])) ∷ []))) [] usual
    ≡ ran "1\n2\n3\nreturn\n" 0
unfolding int_wrap digits row primitive_values constant_values library_table environment
generic_for = refl

-- for k in pairs({a=1}) do end: pairs and its look at the metatable, the iterator twice, and the round
abbrev one_pair : Body
one_pair = chunk (block (
    GenFor 1 (name "k" (LocalPlace 4) ∷ []) (exps (call (global "pairs") (Table 1 (fields (Keyed 1 (str "a") (int 1) ∷ [])) ∷ []) ∷ [])) (block []) ∷ []))

pairs_paid : run 1000 one_pair [] 5 ≡ ran "return\n" 0
unfolding raw_set row primitive_values constant_values library_table environment
pairs_paid = refl

pairs_unpaid : run 1000 one_pair [] 4 ≡ ran "" 4
unfolding raw_set row primitive_values constant_values library_table environment
pairs_unpaid = refl

-- local function f() end f() f()
abbrev two_calls : Body
two_calls = chunk (block (local_function "f" 0 (fun [] [] (block [])) ∷ does (call (loc "f" 0) []) ∷ does (call (loc "f" 0) []) ∷ []))

calls_paid : run 100 two_calls [] 2 ≡ ran "return\n" 0
unfolding row primitive_values constant_values library_table environment
calls_paid = refl

calls_unpaid : run 100 two_calls [] 1 ≡ ran "" 4
unfolding row primitive_values constant_values library_table environment
calls_unpaid = refl
