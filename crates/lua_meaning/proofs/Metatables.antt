-- Handlers in metatables and the primitives on tables, by runs of scripts. What is expected is what the Lua 5.4 manual says.
use Rattle.std.proofs.Common.{◌≡◌, List, [], ◌∷◌, refl}
use Prim.Native.String.{String}
use Rattle.std.specs.Int.{int_wrap}
use Rattle.std.specs.Fmt.{digits}
use Rattle.int_core.specs.Heap.{raw_set}
use Rattle.tree_core.specs.declared.operator.BinOp.TheVariants.{Add, Mul, Concat, Lt, Le, Gt, Eq, Ne}
use Rattle.tree_core.specs.declared.operator.UnOp.TheVariants.{Neg, Len}
use Rattle.tree_core.specs.Tree.{Stat, Exp, Nil, Table, Unary, Index, Keyed, Item, Field, fields}
use Rattle.library_rows.specs.Look.{put_metatable}
use Rattle.tree_terms.proofs.Forms.{loc, global, int, str, bin, call, field, function, block, returning, loc_is, does, fun}
use Rattle.lua_meaning.specs.Libraries.{primitive_values, constant_values, library_table, environment}
use Rattle.lua_meaning.specs.Step.{row}
use Rattle.lua_meaning.proofs.Scripts.{method, assign, env, chunk, run, ran, prints, usual}

abbrev keyed : String → Exp → Field
keyed text e = Keyed 1 (str text) e

-- local v=setmetatable({FIELDS},{HANDLERS})
abbrev with_handlers : List Field → List Field → Stat
with_handlers fs handlers = loc_is "v" 0 (call (global "setmetatable") (Table 1 (fields fs) ∷ Table 1 (fields handlers) ∷ []))

abbrev v : Exp
v = loc "v" 0

abbrev returns_of : List (String) → Exp → Exp
returns_of texts e = function (fun texts [] (returning [] (e ∷ [])))

-- local v=setmetatable({x=1},{__add=function(a,b) return a.x+b.x end,__index=function(t,k) return k.."!" end,__call=function(s,n) return n*2 end})
-- print(v+v,v.y,v(21))
three_handlers : run 4000 (chunk (block (
    with_handlers (keyed "x" (int 1) ∷ []) (
    keyed "__add" (returns_of ("a" ∷ "b" ∷ []) (bin Add (field (loc "a" 0) "x") (field (loc "b" 1) "x")))
    ∷ keyed "__index" (returns_of ("t" ∷ "k" ∷ []) (bin Concat (loc "k" 1) (str "!")))
    ∷ keyed "__call" (returns_of ("s" ∷ "n" ∷ []) (bin Mul (loc "n" 1) (int 2))) ∷ [])
    ∷ prints (bin Add v v ∷ field v "y" ∷ call v (int 21 ∷ []) ∷ []) ∷ []))) [] usual ≡ ran "2\ty!\t42\nreturn\n" 0
unfolding int_wrap digits raw_set put_metatable row primitive_values constant_values library_table environment
three_handlers = refl

-- the handlers of the other operators; the truth of a comparison's result counts
more_handlers : run 4000 (chunk (returning (
    with_handlers [] (
    keyed "__concat" (returns_of ("a" ∷ "b" ∷ []) (str "c")) ∷ keyed "__len" (returns_of ("a" ∷ []) (int 7)) ∷ keyed "__unm" (returns_of ("a" ∷ "b" ∷ []) (str "u"))
    ∷ keyed "__lt" (returns_of ("a" ∷ "b" ∷ []) (Nil 1)) ∷ keyed "__le" (returns_of ("a" ∷ "b" ∷ []) (int 0)) ∷ keyed "__eq" (returns_of ("a" ∷ "b" ∷ []) (int 1)) ∷ []) ∷ [])
    (bin Concat (int 1) v ∷ Unary 1 Len v ∷ Unary 1 Neg v ∷ bin Lt v (int 1) ∷ bin Gt (int 1) v ∷ bin Le v v ∷ bin Eq v (Table 1 (fields [])) ∷ bin Ne v (Table 1 (fields []))
    ∷ bin Eq v (int 1) ∷ []))) [] usual ≡ ran "return\tc\t7\tu\tfalse\tfalse\ttrue\ttrue\tfalse\tfalse\n" 0
unfolding digits raw_set put_metatable row primitive_values constant_values library_table environment
more_handlers = refl

-- local v=setmetatable({},{__index={a=1},__newindex=function(t,k,x) rawset(t,k,x+1) end}) v.b=5 return v.a,v.b,rawget(v,"a")
index_and_store : run 2000 (chunk (returning (
    with_handlers [] (
    keyed "__index" (Table 1 (fields (keyed "a" (int 1) ∷ [])))
    ∷ keyed "__newindex" (function (fun ("t" ∷ "k" ∷ "x" ∷ []) (env ∷ []) (block (
    does (call (global "rawset") (loc "t" 0 ∷ loc "k" 1 ∷ bin Add (loc "x" 2) (int 1) ∷ [])) ∷ [])))) ∷ [])
    ∷ assign (field v "b") (int 5) ∷ [])
    (field v "a" ∷ field v "b" ∷ call (global "rawget") (v ∷ str "a" ∷ []) ∷ []))) [] usual ≡ ran "return\t1\t6\tnil\n" 0
unfolding int_wrap digits raw_set put_metatable row primitive_values constant_values library_table environment
index_and_store = refl

-- local t={} setmetatable(t,{__index=t}) print(t.k)
endless_chain : run 900 (chunk (block (
    loc_is "t" 0 (Table 1 (fields []))
    ∷ does (call (global "setmetatable") (loc "t" 0 ∷ Table 1 (fields (keyed "__index" (loc "t" 0) ∷ [])) ∷ []))
    ∷ prints (field (loc "t" 0) "k" ∷ []) ∷ []))) [] usual ≡ ran "error\ts.lua:1: '__index' chain too long; possibly a loop\n" 1
unfolding digits raw_set put_metatable row primitive_values constant_values library_table environment
endless_chain = refl

-- local t={1,2,nil,4} print(#t,next({}))
border_and_next : run 3000 (chunk (block (
    loc_is "t" 0 (Table 1 (fields (Item (int 1) ∷ Item (int 2) ∷ Item (Nil 1) ∷ Item (int 4) ∷ [])))
    ∷ prints (Unary 1 Len (loc "t" 0) ∷ call (global "next") (Table 1 (fields []) ∷ []) ∷ []) ∷ []))) [] usual ≡ ran "2\tnil\nreturn\n" 0
unfolding int_wrap digits raw_set row primitive_values constant_values library_table environment
border_and_next = refl

-- return select("#",nil,nil),select(2,7,8,9),select(-1,7,8),type(nil),type(print),rawlen("abc"),rawequal(1,1)
base_functions : run 2000 (chunk (returning [] (
    call (global "select") (str "#" ∷ Nil 1 ∷ Nil 1 ∷ []) ∷ call (global "select") (int 2 ∷ int 7 ∷ int 8 ∷ int 9 ∷ [])
    ∷ call (global "select") (Unary 1 Neg (int 1) ∷ int 7 ∷ int 8 ∷ []) ∷ call (global "type") (Nil 1 ∷ []) ∷ call (global "type") (global "print" ∷ [])
    ∷ call (global "rawlen") (str "abc" ∷ []) ∷ call (global "rawequal") (int 1 ∷ int 1 ∷ []) ∷ []))) [] usual ≡ ran "return\t2\t8\t8\tnil\tfunction\t3\ttrue\n" 0
unfolding int_wrap digits row primitive_values constant_values library_table environment
base_functions = refl

-- local v=setmetatable({},{__metatable="m"}) return getmetatable(v),pcall(setmetatable,v,nil)
protected_metatable : run 2000 (chunk (returning (with_handlers [] (keyed "__metatable" (str "m") ∷ []) ∷ [])
    (call (global "getmetatable") (v ∷ []) ∷ call (global "pcall") (global "setmetatable" ∷ v ∷ Nil 1 ∷ []) ∷ []))) [] usual
    ≡ ran "return\tm\tfalse\ts.lua:1: cannot change a protected metatable\n" 0
unfolding digits raw_set put_metatable row primitive_values constant_values library_table environment
protected_metatable = refl

-- print(setmetatable({},{__tostring=function() return "T" end}),setmetatable({},{__name="N"}),{},print)
texts : run 9000 (chunk (block (prints (
    call (global "setmetatable") (Table 1 (fields []) ∷ Table 1 (fields (keyed "__tostring" (returns_of [] (str "T")) ∷ [])) ∷ [])
    ∷ call (global "setmetatable") (Table 1 (fields []) ∷ Table 1 (fields (keyed "__name" (str "N") ∷ [])) ∷ [])
    ∷ Table 1 (fields []) ∷ global "print" ∷ []) ∷ []))) [] usual ≡ ran "T\tN: object\ttable: object\tfunction: object\nreturn\n" 0
unfolding int_wrap digits raw_set put_metatable row primitive_values constant_values library_table environment
texts = refl

-- local t={} t[nil]=1
nil_index : run 300 (chunk (block (loc_is "t" 0 (Table 1 (fields [])) ∷ assign (Index 1 (loc "t" 0) (Nil 1)) (int 1) ∷ []))) [] usual
    ≡ ran "error\ts.lua:1: table index is nil\n" 1
unfolding digits row primitive_values constant_values library_table environment
nil_index = refl

-- return ("ab"):rep(3),("ab"):upper(),pcall(string.rep): a string has the functions of its library as methods
methods_of_strings : run 2000 (chunk (returning [] (
    method (str "ab") "rep" (int 3 ∷ []) ∷ method (str "ab") "upper" [] ∷ call (global "pcall") (field (global "string") "rep" ∷ []) ∷ []))) [] usual
    ≡ ran "return\tababab\tAB\tfalse\ts.lua:1: bad argument #1 to 'rep' (string expected, got nil)\n" 0
unfolding digits row primitive_values constant_values library_table environment
methods_of_strings = refl

-- return select(2,pcall(assert,nil,7)),table.pack(5,6).n: an error's value may be of any kind
raised_values : run 3000 (chunk (returning [] (
    call (global "select") (int 2 ∷ call (global "pcall") (global "assert" ∷ Nil 1 ∷ int 7 ∷ []) ∷ []) ∷ field (call (field (global "table") "pack") (int 5 ∷ int 6 ∷ [])) "n" ∷ []))) [] usual
    ≡ ran "return\t7\t2\n" 0
unfolding int_wrap digits raw_set row primitive_values constant_values library_table environment
raised_values = refl
