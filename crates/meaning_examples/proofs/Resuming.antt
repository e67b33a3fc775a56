-- Coroutines that resume each other: through `pcall`, through `wrap`, and from closing methods. What is expected is what `lua5.4` prints.
use Rattle.std.proofs.Common.{◌≡◌, [], ◌∷◌, refl}
use Prim.Native.String.{String}
use Rattle.std.specs.Int.{int_wrap}
use Rattle.std.specs.Fmt.{digits}
use Rattle.tree_core.specs.Tree.{Body}
use Rattle.int_core.specs.Heap.{raw_set}
use Rattle.library_rows.specs.Look.{put_metatable}
use Rattle.lua_meaning.specs.Libraries.{primitive_values, constant_values, library_table, environment}
use Rattle.lua_meaning.specs.Step.{row}
use Rattle.tree_core.specs.declared.operator.BinOp.TheVariants.{Add, Mul, Concat, Gt, Eq}
use Rattle.tree_core.specs.declared.name.Place.TheVariants.{GlobalOf}
use Rattle.tree_core.specs.Tree.{True, False, Var, Index, Table, Do, While, Keyed, Item, fields}
use Rattle.tree_terms.proofs.Forms.{name, declared, closed, of_local, loc, outer, global, int, str, bin, call, field, function, block, returning, locals, loc_is, assigns, assign, does, when, fun}
use Rattle.lua_meaning.proofs.Scripts.{local_function, env, of_outer, chunk, prints, usual}
use Rattle.meaning_examples.proofs.Scripts.{run, ran}

-- local a,b
-- a=coroutine.create(function(x)
-- local ok,e=pcall(function() local _,y=coroutine.resume(b,x+1) print("a",y) local z=coroutine.yield(y*2) error("stop "..z,0) end)
-- print("caught",ok,e) return coroutine.resume(b,10) end)
-- b=coroutine.create(function(x) local y=coroutine.yield(x*10) print("b",y,coroutine.status(a)) print("b",coroutine.resume(a,0)) return y+1 end)
-- print(coroutine.resume(a,1)) print(coroutine.resume(a,"now")) print(coroutine.status(a),coroutine.status(b))
abbrev pub hands_to_and_fro : Body
hands_to_and_fro =
    chunk (block (
    locals (declared "a" 0 ∷ declared "b" 1 ∷ []) []
    ∷ assign (loc "a" 0) (call (field (global "coroutine") "create") (function (fun ("x" ∷ []) (env ∷ of_local "b" 1 ∷ []) (returning (
    locals (declared "ok" 1 ∷ declared "e" 2 ∷ []) (call (global "pcall") (function (fun [] (env ∷ of_outer "b" 1 ∷ of_local "x" 0 ∷ []) (block (
    locals (declared "_" 0 ∷ declared "y" 1 ∷ []) (call (field (global "coroutine") "resume") (outer "b" 1 ∷ bin Add (outer "x" 2) (int 1) ∷ []) ∷ [])
    ∷ prints (str "a" ∷ loc "y" 1 ∷ [])
    ∷ loc_is "z" 2 (call (field (global "coroutine") "yield") (bin Mul (loc "y" 1) (int 2) ∷ []))
    ∷ does (call (global "error") (bin Concat (str "stop ") (loc "z" 2) ∷ int 0 ∷ [])) ∷ []))) ∷ []) ∷ [])
    ∷ prints (str "caught" ∷ loc "ok" 1 ∷ loc "e" 2 ∷ []) ∷ []) (call (field (global "coroutine") "resume") (outer "b" 1 ∷ int 10 ∷ []) ∷ []))) ∷ []))
    ∷ assign (loc "b" 1) (call (field (global "coroutine") "create") (function (fun ("x" ∷ []) (env ∷ of_local "a" 0 ∷ []) (returning (
    loc_is "y" 1 (call (field (global "coroutine") "yield") (bin Mul (loc "x" 0) (int 10) ∷ []))
    ∷ prints (str "b" ∷ loc "y" 1 ∷ call (field (global "coroutine") "status") (outer "a" 1 ∷ []) ∷ [])
    ∷ prints (str "b" ∷ call (field (global "coroutine") "resume") (outer "a" 1 ∷ int 0 ∷ []) ∷ []) ∷ []) (bin Add (loc "y" 1) (int 1) ∷ []))) ∷ []))
    ∷ prints (call (field (global "coroutine") "resume") (loc "a" 0 ∷ int 1 ∷ []) ∷ [])
    ∷ prints (call (field (global "coroutine") "resume") (loc "a" 0 ∷ str "now" ∷ []) ∷ [])
    ∷ prints (call (field (global "coroutine") "status") (loc "a" 0 ∷ []) ∷ call (field (global "coroutine") "status") (loc "b" 1 ∷ []) ∷ []) ∷ []))

abbrev pub printed_to_and_fro : String
printed_to_and_fro = "a\t20\ntrue\t40\ncaught\tfalse\tstop now\nb\t10\tnormal\nb\tfalse\tcannot resume non-suspended coroutine\ntrue\ttrue\t11\ndead\tdead\nreturn\n"

-- local inner=coroutine.wrap(function(x) while true do x=coroutine.yield(x*2) if x>5 then error({x}) end end end)
-- local outer=coroutine.wrap(function(x) while true do x=coroutine.yield(inner(x)+1) end end)
-- print(outer(1),outer(2)) local ok,e=pcall(outer,6) print(ok,e[1]) print(pcall(outer,7)==false,pcall(inner,1)==false)
abbrev pub wraps_twice : Body
wraps_twice =
    chunk (block (
    loc_is "inner" 0 (call (field (global "coroutine") "wrap") (function (fun ("x" ∷ []) (env ∷ []) (block (
    While 1 (True 1) (block (
    assign (loc "x" 0) (call (field (global "coroutine") "yield") (bin Mul (loc "x" 0) (int 2) ∷ []))
    ∷ when (bin Gt (loc "x" 0) (int 5)) (does (call (global "error") (Table 1 (fields (Item (loc "x" 0) ∷ [])) ∷ [])) ∷ []) ∷ [])) ∷ []))) ∷ []))
    ∷ loc_is "outer" 1 (call (field (global "coroutine") "wrap") (function (fun ("x" ∷ []) (env ∷ of_local "inner" 0 ∷ []) (block (
    While 1 (True 1) (block (
    assign (loc "x" 0) (call (field (global "coroutine") "yield") (bin Add (call (outer "inner" 1) (loc "x" 0 ∷ [])) (int 1) ∷ [])) ∷ [])) ∷ []))) ∷ []))
    ∷ prints (call (loc "outer" 1) (int 1 ∷ []) ∷ call (loc "outer" 1) (int 2 ∷ []) ∷ [])
    ∷ locals (declared "ok" 2 ∷ declared "e" 3 ∷ []) (call (global "pcall") (loc "outer" 1 ∷ int 6 ∷ []) ∷ [])
    ∷ prints (loc "ok" 2 ∷ Index 1 (loc "e" 3) (int 1) ∷ [])
    ∷ prints (bin Eq (call (global "pcall") (loc "outer" 1 ∷ int 7 ∷ [])) (False 1) ∷ bin Eq (call (global "pcall") (loc "inner" 0 ∷ int 1 ∷ [])) (False 1) ∷ []) ∷ []))

abbrev pub printed_by_wraps : String
printed_by_wraps = "3\t5\nfalse\t6\ntrue\ttrue\nreturn\n"

-- local log=coroutine.wrap(function(a,b) while true do print("log",a,b) a,b=coroutine.yield() end end)
-- local function closing(n) return setmetatable({},{__close=function(v,e) log(n,e) end}) end
-- local co=coroutine.create(function() do local a <close> = setmetatable({},{__close=function() print("in",coroutine.yield("closing")) end}) end
-- local b <close> = closing("b") print(pcall(function() local c <close> = closing("c") error(7) end)) coroutine.yield("body") end)
-- print(coroutine.resume(co)) print(coroutine.resume(co,5)) print(coroutine.close(co)) print(coroutine.status(co))
abbrev pub logs_closing : Body
logs_closing =
    chunk (block (
    loc_is "log" 0 (call (field (global "coroutine") "wrap") (function (fun ("a" ∷ "b" ∷ []) (env ∷ []) (block (
    While 1 (True 1) (block (
    prints (str "log" ∷ loc "a" 0 ∷ loc "b" 1 ∷ [])
    ∷ assigns (loc "a" 0 ∷ loc "b" 1 ∷ []) (call (field (global "coroutine") "yield") [] ∷ []) ∷ [])) ∷ []))) ∷ []))
    ∷ local_function "closing" 1 (fun ("n" ∷ []) (env ∷ of_local "log" 0 ∷ []) (returning [] (call (global "setmetatable") (Table 1 (fields [])
    ∷ Table 1 (fields (Keyed 1 (str "__close") (function (fun ("v" ∷ "e" ∷ []) (of_outer "log" 1 ∷ of_local "n" 0 ∷ []) (block (does (call (outer "log" 0) (outer "n" 1
    ∷ loc "e" 1 ∷ [])) ∷ [])))) ∷ [])) ∷ []) ∷ [])))
    ∷ loc_is "co" 2 (call (field (global "coroutine") "create") (function (fun [] (env ∷ of_local "closing" 1 ∷ []) (block (
    Do 1 (block (
    locals (closed "a" 0 ∷ []) (call (global "setmetatable") (Table 1 (fields [])
    ∷ Table 1 (fields (Keyed 1 (str "__close") (function (fun [] (env ∷ []) (block (prints (str "in"
    ∷ call (field (global "coroutine") "yield") (str "closing" ∷ []) ∷ []) ∷ [])))) ∷ [])) ∷ []) ∷ []) ∷ []))
    ∷ locals (closed "b" 0 ∷ []) (call (outer "closing" 1) (str "b" ∷ []) ∷ [])
    ∷ prints (call (global "pcall") (function (fun [] (of_outer "closing" 1 ∷ env ∷ []) (block (
    locals (closed "c" 0 ∷ []) (call (outer "closing" 0) (str "c" ∷ []) ∷ [])
    ∷ does (call (Var 1 (name "error" (GlobalOf 1))) (int 7 ∷ [])) ∷ []))) ∷ []) ∷ [])
    ∷ does (call (field (global "coroutine") "yield") (str "body" ∷ [])) ∷ []))) ∷ []))
    ∷ prints (call (field (global "coroutine") "resume") (loc "co" 2 ∷ []) ∷ [])
    ∷ prints (call (field (global "coroutine") "resume") (loc "co" 2 ∷ int 5 ∷ []) ∷ [])
    ∷ prints (call (field (global "coroutine") "close") (loc "co" 2 ∷ []) ∷ [])
    ∷ prints (call (field (global "coroutine") "status") (loc "co" 2 ∷ []) ∷ []) ∷ []))

abbrev pub printed_while_closing : String
printed_while_closing = "true\tclosing\nin\t5\nlog\tc\t7\nfalse\t7\ntrue\tbody\nlog\tb\tnil\ntrue\ndead\nreturn\n"

through_pcall : run 20000 hands_to_and_fro [] usual ≡ ran printed_to_and_fro 0
unfolding int_wrap digits raw_set put_metatable row primitive_values constant_values library_table environment
through_pcall = refl

through_wrap : run 20000 wraps_twice [] usual ≡ ran printed_by_wraps 0
unfolding int_wrap digits raw_set put_metatable row primitive_values constant_values library_table environment
through_wrap = refl

from_closing_methods : run 20000 logs_closing [] usual ≡ ran printed_while_closing 0
unfolding int_wrap digits raw_set put_metatable row primitive_values constant_values library_table environment
from_closing_methods = refl
