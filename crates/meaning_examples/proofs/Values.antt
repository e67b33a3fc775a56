-- Scripts on values and lines of input. What is expected is what `lua5.4` prints; report lines and statuses are this project's.
use Rattle.std.proofs.Common.{◌≡◌, [], ◌∷◌, refl}
use Rattle.std.specs.Prelude.{codes}
use Rattle.std.specs.Int.{int_wrap}
use Rattle.std.specs.Fmt.{digits}
use Rattle.tree_core.specs.Tree.{Body}
use Rattle.int_core.specs.Heap.{raw_set}
use Rattle.library_rows.specs.Look.{put_metatable}
use Rattle.lua_meaning.specs.Libraries.{primitive_values, constant_values, library_table, environment}
use Rattle.lua_meaning.specs.Step.{row}
use Rattle.tree_core.specs.declared.name.Place.TheVariants.{Local as LocalPlace}
use Rattle.tree_core.specs.declared.operator.BinOp.TheVariants.{Add, Sub, Mul, Concat, Eq}
use Rattle.tree_core.specs.declared.operator.UnOp.TheVariants.{Neg, Len}
use Rattle.tree_core.specs.Tree.{Nil, True, Unary, Paren, Index, Table, Do, While, GenFor, Keyed, Item, exps, fields}
use Rattle.tree_terms.proofs.Forms.{name, loc, global, int, str, bin, call, field, block, returning, loc_is, assign, does, fun}
use Rattle.lua_meaning.proofs.Scripts.{local_function, chunk, prints, usual}
use Rattle.meaning_examples.proofs.Scripts.{run, ran}

-- print(9223372036854775807+1)
sum_wraps : run 6000 (
    chunk (block (prints (bin Add (int 9223372036854775807) (int 1) ∷ []) ∷ []))) [] usual
    ≡ ran "-9223372036854775808\nreturn\n" 0
unfolding int_wrap digits raw_set put_metatable row primitive_values constant_values library_table environment
sum_wraps = refl

-- local x = 6 local y = x * 7 print(y - x)
straight : run 6000 (
    chunk (block (loc_is "x" 0 (int 6) ∷ loc_is "y" 1 (bin Mul (loc "x" 0) (int 7)) ∷ prints (bin Sub (loc "y" 1) (loc "x" 0) ∷ []) ∷ []))) [] usual
    ≡ ran "36\nreturn\n" 0
unfolding int_wrap digits raw_set put_metatable row primitive_values constant_values library_table environment
straight = refl

-- print("10"+5,3 .."x",#"abc",({4,5,6})[2])
converts : run 6000 (
    chunk (block (
    prints (bin Add (str "10") (int 5) ∷ bin Concat (int 3) (str "x") ∷ Unary 1 Len (str "abc") ∷ Index 1 (Paren 1 (Table 1 (fields (Item (int 4) ∷ Item (int 5)
    ∷ Item (int 6) ∷ [])))) (int 2) ∷ []) ∷ []))) [] usual
    ≡ ran "15\t3x\t3\t5\nreturn\n" 0
unfolding int_wrap digits raw_set put_metatable row primitive_values constant_values library_table environment
converts = refl

-- print(tostring(setmetatable({},{__name="room"})),select(-1,1,2,3),tonumber("ff",16))
-- of a value with a `__name` stock Lua prints the address
named : run 6000 (
    chunk (block (
    prints (call (global "tostring") (call (global "setmetatable") (Table 1 (fields []) ∷ Table 1 (fields (Keyed 1 (str "__name") (str "room") ∷ [])) ∷ []) ∷ [])
    ∷ call (global "select") (Unary 1 Neg (int 1) ∷ int 1 ∷ int 2 ∷ int 3 ∷ []) ∷ call (global "tonumber") (str "ff" ∷ int 16 ∷ []) ∷ []) ∷ []))) [] usual
    ≡ ran "room: object\t3\t255\nreturn\n" 0
unfolding int_wrap digits raw_set put_metatable row primitive_values constant_values library_table environment
named = refl

-- local s=0 while true do local l=coroutine.yield(s) s=#l end
abbrev yields_lengths : Body
yields_lengths =
    chunk (block (
    loc_is "s" 0 (int 0)
    ∷ While 1 (True 1) (block (loc_is "l" 1 (call (field (global "coroutine") "yield") (loc "s" 0 ∷ [])) ∷ assign (loc "s" 0) (Unary 1 Len (loc "l" 1)) ∷ [])) ∷ []))

lengths : run 6000 yields_lengths (codes "ab" ∷ codes "" ∷ codes "z" ∷ []) usual ≡ ran "yield\t0\nyield\t2\nyield\t0\nyield\t1\n" 3
unfolding int_wrap digits raw_set put_metatable row primitive_values constant_values library_table environment
lengths = refl

-- local t={} t[t]=t coroutine.yield() print(t[t]==t)
own_key : run 6000 (
    chunk (block (
    loc_is "t" 0 (Table 1 (fields []))
    ∷ assign (Index 1 (loc "t" 0) (loc "t" 0)) (loc "t" 0)
    ∷ does (call (field (global "coroutine") "yield") [])
    ∷ prints (bin Eq (Index 1 (loc "t" 0) (loc "t" 0)) (loc "t" 0) ∷ []) ∷ []))) (codes "x" ∷ []) usual
    ≡ ran "yield\ntrue\nreturn\n" 0
unfolding int_wrap digits raw_set put_metatable row primitive_values constant_values library_table environment
own_key = refl

-- local t={a=1,b=2,c=3} for k in pairs(t) do t[k]=nil coroutine.yield(k) end
clears_while_walking : run 6000 (
    chunk (block (
    loc_is "t" 0 (Table 1 (fields (Keyed 1 (str "a") (int 1) ∷ Keyed 1 (str "b") (int 2) ∷ Keyed 1 (str "c") (int 3) ∷ [])))
    ∷ GenFor 1 (name "k" (LocalPlace 5) ∷ []) (exps (call (global "pairs") (loc "t" 0 ∷ []) ∷ [])) (block (assign (Index 1 (loc "t" 0) (loc "k" 5)) (Nil 1)
    ∷ does (call (field (global "coroutine") "yield") (loc "k" 5 ∷ [])) ∷ [])) ∷ []))) (codes "x" ∷ codes "x" ∷ codes "x" ∷ []) usual
    ≡ ran "yield\ta\nyield\tb\nyield\tc\nreturn\n" 0
unfolding int_wrap digits raw_set put_metatable row primitive_values constant_values library_table environment
clears_while_walking = refl

-- local s=0
-- do local function f(x) return x+1 end s=f(s) end
-- do local function f(x) return x+2 end s=f(s) end
-- do local function f(x) return x+3 end s=f(s) end
-- print(s)
work_of_three : run 6000 (
    chunk (block (
    loc_is "s" 0 (int 0)
    ∷ Do 1 (block (
    local_function "f" 1 (fun ("x" ∷ []) [] (returning [] (bin Add (loc "x" 0) (int 1) ∷ [])))
    ∷ assign (loc "s" 0) (call (loc "f" 1) (loc "s" 0 ∷ [])) ∷ []))
    ∷ Do 1 (block (
    local_function "f" 1 (fun ("x" ∷ []) [] (returning [] (bin Add (loc "x" 0) (int 2) ∷ [])))
    ∷ assign (loc "s" 0) (call (loc "f" 1) (loc "s" 0 ∷ [])) ∷ []))
    ∷ Do 1 (block (
    local_function "f" 1 (fun ("x" ∷ []) [] (returning [] (bin Add (loc "x" 0) (int 3) ∷ [])))
    ∷ assign (loc "s" 0) (call (loc "f" 1) (loc "s" 0 ∷ [])) ∷ []))
    ∷ prints (loc "s" 0 ∷ []) ∷ []))) [] usual
    ≡ ran "6\nreturn\n" 0
unfolding int_wrap digits raw_set put_metatable row primitive_values constant_values library_table environment
work_of_three = refl
