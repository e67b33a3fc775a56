-- Calls of the functions of the libraries that are Lua text. What is expected is what `lua5.4` gives; texts of errors and their places are this project's.
use Rattle.std.proofs.Common.{◌≡◌, ℕ, List, [], ◌∷◌, Option, refl}
use Prim.Native.String.{String}
use Rattle.std.specs.Int.{int_wrap}
use Rattle.std.specs.Fmt.{digits}
use Rattle.int_core.specs.Heap.{raw_set}
use Rattle.library_rows.specs.Look.{put_metatable}
use Rattle.lua_meaning.specs.Libraries.{primitive_values, constant_values, library_table, environment}
use Rattle.lua_meaning.specs.Step.{row}
use Rattle.tree_core.specs.declared.name.Place.TheVariants.{Local as LocalPlace}
use Rattle.tree_core.specs.declared.operator.BinOp.TheVariants.{Add, Mul, Concat, Lt}
use Rattle.tree_core.specs.declared.operator.UnOp.TheVariants.{Neg, Len}
use Rattle.tree_core.specs.Tree.{Exp, Nil, True, Unary, Table, If, GenFor, Keyed, Item, exps, fields, arms}
use Rattle.tree_terms.proofs.Forms.{name, declared, loc, global, int, str, bin, call, field, function, block, returning, locals, loc_is, assign, does, fun}
use Rattle.lua_meaning.proofs.Scripts.{env, chunk, usual}
use Rattle.meaning_examples.proofs.Scripts.{run, ran}

-- setmetatable({},{key=value})
abbrev with_meta : (key : String) → Exp → Exp
with_meta key value = call (global "setmetatable") (Table 1 (fields []) ∷ Table 1 (fields (Keyed 1 (str key) value ∷ [])) ∷ [])

-- return table.concat({1,2,3},"-",2,3),table.concat({}),table.concat({"a"},",")
joins_a_part : run 6000 (
    chunk (returning [] (call (field (global "table") "concat") (Table 1 (fields (Item (int 1) ∷ Item (int 2) ∷ Item (int 3) ∷ [])) ∷ str "-" ∷ int 2 ∷ int 3 ∷ [])
    ∷ call (field (global "table") "concat") (Table 1 (fields []) ∷ []) ∷ call (field (global "table") "concat") (Table 1 (fields (Item (str "a") ∷ [])) ∷ str "," ∷ []) ∷ []))) [] usual
    ≡ ran "return\t2-3\t\ta\n" 0
unfolding int_wrap digits raw_set put_metatable row primitive_values constant_values library_table environment
joins_a_part = refl

-- return pcall(table.concat,{1,{},3})
joins_no_table : run 6000 (
    chunk (returning [] (call (global "pcall") (field (global "table") "concat" ∷ Table 1 (fields (Item (int 1) ∷ Item (Table 1 (fields [])) ∷ Item (int 3) ∷ [])) ∷ []) ∷ []))) [] usual
    ≡ ran "return\tfalse\tinvalid value (at index 2) in table for 'concat'\n" 0
unfolding int_wrap digits raw_set put_metatable row primitive_values constant_values library_table environment
joins_no_table = refl

-- return table.unpack({1,2,3},2),select("#",table.unpack({},1,3)),table.unpack({1,2,3},-1,1)
unpacks_a_part : run 6000 (
    chunk (returning [] (call (field (global "table") "unpack") (Table 1 (fields (Item (int 1) ∷ Item (int 2) ∷ Item (int 3) ∷ [])) ∷ int 2 ∷ [])
    ∷ call (global "select") (str "#" ∷ call (field (global "table") "unpack") (Table 1 (fields []) ∷ int 1 ∷ int 3 ∷ []) ∷ [])
    ∷ call (field (global "table") "unpack") (Table 1 (fields (Item (int 1) ∷ Item (int 2) ∷ Item (int 3) ∷ [])) ∷ Unary 1 Neg (int 1) ∷ int 1 ∷ []) ∷ []))) [] usual
    ≡ ran "return\t2\t3\tnil\tnil\t1\n" 0
unfolding int_wrap digits raw_set put_metatable row primitive_values constant_values library_table environment
unpacks_a_part = refl

-- local t={7} return table.remove(t),table.remove(t),#t,table.remove({},0)
removes_at_the_end : run 6000 (
    chunk (returning (loc_is "t" 0 (Table 1 (fields (Item (int 7) ∷ []))) ∷ []) (call (field (global "table") "remove") (loc "t" 0 ∷ [])
    ∷ call (field (global "table") "remove") (loc "t" 0 ∷ []) ∷ Unary 1 Len (loc "t" 0) ∷ call (field (global "table") "remove") (Table 1 (fields []) ∷ int 0 ∷ []) ∷ []))) [] usual
    ≡ ran "return\t7\tnil\t0\tnil\n" 0
unfolding int_wrap digits raw_set put_metatable row primitive_values constant_values library_table environment
removes_at_the_end = refl

-- return pcall(table.insert,{1},5,2)
inserts_out_of_bounds : run 6000 (
    chunk (returning [] (call (global "pcall") (field (global "table") "insert" ∷ Table 1 (fields (Item (int 1) ∷ [])) ∷ int 5 ∷ int 2 ∷ []) ∷ []))) [] usual
    ≡ ran "return\tfalse\tbad argument #2 to 'insert' (position out of bounds)\n" 0
unfolding int_wrap digits raw_set put_metatable row primitive_values constant_values library_table environment
inserts_out_of_bounds = refl

-- local t={1,2,3,4} table.move(t,2,4,1) return table.unpack(t)
moves_down : run 6000 (
    chunk (returning (
    loc_is "t" 0 (Table 1 (fields (Item (int 1) ∷ Item (int 2) ∷ Item (int 3) ∷ Item (int 4) ∷ [])))
    ∷ does (call (field (global "table") "move") (loc "t" 0 ∷ int 2 ∷ int 4 ∷ int 1 ∷ [])) ∷ []) (call (field (global "table") "unpack") (loc "t" 0 ∷ []) ∷ []))) [] usual
    ≡ ran "return\t2\t3\t4\t4\n" 0
unfolding int_wrap digits raw_set put_metatable row primitive_values constant_values library_table environment
moves_down = refl

-- return tostring(nil),tostring(true),tostring(-12),tostring("x")
texts_of_values : run 6000 (
    chunk (returning [] (call (global "tostring") (Nil 1 ∷ []) ∷ call (global "tostring") (True 1 ∷ []) ∷ call (global "tostring") (Unary 1 Neg (int 12) ∷ [])
    ∷ call (global "tostring") (str "x" ∷ []) ∷ []))) [] usual
    ≡ ran "return\tnil\ttrue\t-12\tx\n" 0
unfolding int_wrap digits raw_set put_metatable row primitive_values constant_values library_table environment
texts_of_values = refl

-- local v=setmetatable({},{__tostring=function() return {} end}) return pcall(tostring,v)
text_by_handler : run 6000 (
    chunk (returning (
    loc_is "v" 0 (with_meta "__tostring" (function (fun [] [] (returning [] (Table 1 (fields []) ∷ []))))) ∷ []) (call (global "pcall") (global "tostring" ∷ loc "v" 0 ∷ []) ∷ []))) [] usual
    ≡ ran "return\tfalse\t'__tostring' must return a string\n" 0
unfolding int_wrap digits raw_set put_metatable row primitive_values constant_values library_table environment
text_by_handler = refl

-- local s="" for first,second in values do s=s..added end return s
abbrev gathers : (first second : String) → Exp → (added : Exp) → Option (List ℕ × ℕ)
gathers first second values added = run 6000 (
    chunk (returning (
    loc_is "s" 0 (str "")
    ∷ GenFor 1 (name first (LocalPlace 5) ∷ name second (LocalPlace 6) ∷ []) (exps (values ∷ [])) (block (assign (loc "s" 0) (bin Concat (loc "s" 0) added) ∷ [])) ∷ []) (loc "s" 0 ∷ []))) [] usual

-- local s="" for k,v in pairs(setmetatable({},{__pairs=function(t) return function(t,k) if k<3 then return k+1,k end end,t,0 end})) do s=s..k..v end return s
walks_by_handler : gathers "k" "v" (call (global "pairs") (with_meta "__pairs" (function (fun ("t" ∷ []) [] (returning [] (
    function (fun ("t" ∷ "k" ∷ []) [] (block (If 1 (arms ((bin Lt (loc "k" 1) (int 3), returning [] (bin Add (loc "k" 1) (int 1) ∷ loc "k" 1 ∷ [])) ∷ [])) ∷ [])))
    ∷ loc "t" 0 ∷ int 0 ∷ [])))) ∷ [])) (bin Concat (loc "k" 5) (loc "v" 6))
    ≡ ran "return\t102132\n" 0
unfolding int_wrap digits raw_set put_metatable row primitive_values constant_values library_table environment
walks_by_handler = refl

-- local s="" for i,v in ipairs(setmetatable({},{__index=function(t,i) if i<3 then return i*10 end end})) do s=s..v.."," end return s
walks_past_rows : gathers "i" "v" (call (global "ipairs") (with_meta "__index" (function (fun ("t" ∷ "i" ∷ []) [] (block (
    If 1 (arms ((bin Lt (loc "i" 1) (int 3), returning [] (bin Mul (loc "i" 1) (int 10) ∷ [])) ∷ [])) ∷ [])))) ∷ [])) (bin Concat (loc "v" 6) (str ","))
    ≡ ran "return\t10,20,\n" 0
unfolding int_wrap digits raw_set put_metatable row primitive_values constant_values library_table environment
walks_past_rows = refl

-- return string.format("%q %s %s","a\n1",setmetatable({},{__tostring=function() return "T" end}),nil)
formats_quoted : run 6000 (
    chunk (returning [] (call (field (global "string") "format") (str "%q %s %s" ∷ str "a\n1" ∷ with_meta "__tostring" (function (fun [] [] (returning [] (str "T" ∷ [])))) ∷ Nil 1 ∷ []) ∷ []))) [] usual
    ≡ ran "return\t\"a\\\n1\" T nil\n" 0
unfolding int_wrap digits raw_set put_metatable row primitive_values constant_values library_table environment
formats_quoted = refl

-- return pcall(string.rep,"x",8388609,"y")
copies_beyond_the_limit : run 6000 (
    chunk (returning [] (call (global "pcall") (field (global "string") "rep" ∷ str "x" ∷ int 8388609 ∷ str "y" ∷ []) ∷ []))) [] usual
    ≡ ran "return\tfalse\tresulting string too large\n" 0
unfolding int_wrap digits raw_set put_metatable row primitive_values constant_values library_table environment
copies_beyond_the_limit = refl

-- return pcall(coroutine.wrap,5)
wrap_of_no_function : run 6000 (
    chunk (returning [] (call (global "pcall") (field (global "coroutine") "wrap" ∷ int 5 ∷ []) ∷ []))) [] usual
    ≡ ran "return\tfalse\tbad argument #1 to 'create' (function expected, got number)\n" 0
unfolding int_wrap digits raw_set put_metatable row primitive_values constant_values library_table environment
wrap_of_no_function = refl

-- local f=coroutine.wrap(function(a) local b,c=coroutine.yield(a+1) return b,c end) return f(1),f(2,3)
wrap_hands_values_on : run 6000 (
    chunk (returning (
    loc_is "f" 0 (call (field (global "coroutine") "wrap") (function (fun ("a" ∷ []) (env ∷ []) (returning (
    locals (declared "b" 1 ∷ declared "c" 2 ∷ []) (call (field (global "coroutine") "yield") (bin Add (loc "a" 0) (int 1) ∷ []) ∷ []) ∷ []) (loc "b" 1
    ∷ loc "c" 2 ∷ []))) ∷ [])) ∷ []) (call (loc "f" 0) (int 1 ∷ []) ∷ call (loc "f" 0) (int 2 ∷ int 3 ∷ []) ∷ []))) [] usual
    ≡ ran "return\t2\t2\t3\n" 0
unfolding int_wrap digits raw_set put_metatable row primitive_values constant_values library_table environment
wrap_hands_values_on = refl
