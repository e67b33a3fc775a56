-- Coroutines, input lines, and scripts that are suspended, by runs of scripts. What is expected is what the Lua 5.4 manual says.
use Rattle.std.proofs.Common.{◌≡◌, ℕ, List, [], ◌∷◌, Option, Some, None, refl}
use Prim.Native.String.{String}
use Rattle.std.specs.Int.{int_wrap}
use Rattle.std.specs.Fmt.{digits}
use Rattle.std.specs.Prelude.{codes, option_map}
use Rattle.int_core.specs.Heap.{raw_set}
use Rattle.tree_core.specs.declared.operator.BinOp.TheVariants.{Add, Mul, Concat}
use Rattle.tree_core.specs.declared.name.Place.TheVariants.{Local as LocalPlace, GlobalOf}
use Rattle.tree_core.specs.Tree.{Body, Exp, True, Table, Var, While, NumFor, Keyed, fields}
use Rattle.tree_activation.specs.Work.{State, when_captured}
use Rattle.library_rows.specs.Look.{put_metatable}
use Rattle.lua_meaning.specs.Meaning.{Meaning, is_suspended, lines}
use Rattle.lua_meaning.specs.TreeMeaning.{tree_meaning, tree_onward}
use Rattle.tree_terms.proofs.Forms.{name, closed, of_local, loc, outer, global, int, str, bin, call, field, function, block, returning, locals, loc_is, does, fun}
use Rattle.lua_meaning.specs.Libraries.{primitive_values, constant_values, library_table, environment}
use Rattle.lua_meaning.specs.Step.{row}
use Rattle.lua_meaning.proofs.Scripts.{assign, local_function, env, chunk, prelude, nothing_built, summary, run, ran, prints, co, usual}

-- the lines of an input
input_lines : lines (codes "ab\n\nz") ≡ codes "ab" ∷ codes "" ∷ codes "z" ∷ []
input_lines = refl

no_line_behind_the_last : lines (codes "a\n") ≡ codes "a" ∷ []
no_line_behind_the_last = refl

-- a global name, where _ENV is another outer variable
abbrev global_at : ℕ → String → Exp
global_at n text = Var 1 (name text (GlobalOf n))

-- local n=0 local function bump() n=n+1 return n end
-- local a=coroutine.wrap(function() while true do coroutine.yield(bump()) end end)
-- while true do coroutine.yield(a(),n) end
abbrev bumps : Body
bumps = chunk (block (
    loc_is "n" 0 (int 0)
    ∷ local_function "bump" 1 (fun [] (of_local "n" 0 ∷ []) (returning (assign (outer "n" 0) (bin Add (outer "n" 0) (int 1)) ∷ []) (outer "n" 0 ∷ [])))
    ∷ loc_is "a" 2 (call (co "wrap") (function (fun [] (env ∷ of_local "bump" 1 ∷ []) (block (
    While 1 (True 1) (block (does (call (co "yield") (call (outer "bump" 1) [] ∷ [])) ∷ [])) ∷ []))) ∷ []))
    ∷ While 1 (True 1) (block (does (call (co "yield") (call (loc "a" 2) [] ∷ loc "n" 0 ∷ [])) ∷ [])) ∷ []))

one_line : run 3000 bumps (codes "x" ∷ []) usual ≡ ran "yield\t1\t1\nyield\t2\t2\n" 3
unfolding int_wrap digits raw_set row primitive_values constant_values library_table environment
one_line = refl

-- the same script cut between the lines
abbrev goes_on : Option (Meaning Body State) → List (List ℕ) → Option (Meaning Body State)
goes_on None input = None
goes_on (Some m) input = elim m.outcome [ is_suspended W ↦ tree_onward when_captured nothing_built 3000 W input usual | _ ↦ None ]

abbrev begins : Body → List (List ℕ) → Option (Meaning Body State)
begins main input = tree_meaning when_captured nothing_built 3000 prelude (record { main = main; name = codes "@s.lua"; has_lines = Rattle.std.specs.Prelude.true }) input usual

second_session : option_map summary (goes_on (begins bumps (codes "x" ∷ [])) (codes "y" ∷ [])) ≡ Some (codes "yield\t3\t3\n", 3)
unfolding int_wrap digits raw_set row primitive_values constant_values library_table environment
second_session = refl

-- print(pcall(function() local c <close> = setmetatable({},{__close=function(v,e) print("closed",e) end}) coroutine.yield("in") error("stop",0) end))
closes_after_yield : run 3000 (chunk (block (prints (call (global "pcall") (function (fun [] (env ∷ []) (block (
    locals (closed "c" 0 ∷ []) (call (global "setmetatable") (Table 1 (fields []) ∷ Table 1 (fields (Keyed 1 (str "__close")
    (function (fun ("v" ∷ "e" ∷ []) (env ∷ []) (block (prints (str "closed" ∷ loc "e" 1 ∷ []) ∷ [])))) ∷ [])) ∷ []) ∷ [])
    ∷ does (call (co "yield") (str "in" ∷ []))
    ∷ does (call (global "error") (str "stop" ∷ int 0 ∷ [])) ∷ []))) ∷ []) ∷ []) ∷ []))) (codes "x" ∷ []) usual
    ≡ ran "yield\tin\nclosed\tstop\nfalse\tstop\nreturn\n" 0
unfolding int_wrap digits raw_set put_metatable row primitive_values constant_values library_table environment
closes_after_yield = refl

-- local t=setmetatable({},{__index=function(t,k) return coroutine.yield(k) end}) print(t.color)
handler_yields : run 3000 (chunk (block (
    loc_is "t" 0 (call (global "setmetatable") (Table 1 (fields []) ∷ Table 1 (fields (Keyed 1 (str "__index")
    (function (fun ("t" ∷ "k" ∷ []) (env ∷ []) (returning [] (call (co "yield") (loc "k" 1 ∷ []) ∷ [])))) ∷ [])) ∷ []))
    ∷ prints (field (loc "t" 0) "color" ∷ []) ∷ []))) (codes "red" ∷ []) usual ≡ ran "yield\tcolor\nred\nreturn\n" 0
unfolding int_wrap digits raw_set put_metatable row primitive_values constant_values library_table environment
handler_yields = refl

-- local co=coroutine.create(function() local c <close> = setmetatable({},{__close=function() print("c") end}) coroutine.yield() end)
-- coroutine.resume(co) print(coroutine.close(co),coroutine.status(co))
closes_suspended : run 5000 (chunk (block (
    loc_is "co" 0 (call (co "create") (function (fun [] (env ∷ []) (block (
    locals (closed "c" 0 ∷ []) (call (global "setmetatable") (Table 1 (fields []) ∷ Table 1 (fields (Keyed 1 (str "__close")
    (function (fun [] (env ∷ []) (block (prints (str "c" ∷ []) ∷ [])))) ∷ [])) ∷ []) ∷ [])
    ∷ does (call (co "yield") []) ∷ []))) ∷ []))
    ∷ does (call (co "resume") (loc "co" 0 ∷ []))
    ∷ prints (call (co "close") (loc "co" 0 ∷ []) ∷ call (co "status") (loc "co" 0 ∷ []) ∷ []) ∷ []))) [] usual ≡ ran "c\ntrue\tdead\nreturn\n" 0
unfolding int_wrap digits raw_set put_metatable row primitive_values constant_values library_table environment
closes_suspended = refl

-- local co=coroutine.create(function(a) local b=coroutine.yield(a+1) error("e"..b,0) end)
-- print(coroutine.resume(co,1)) print(coroutine.resume(co,2)) print(coroutine.status(co))
resumes : run 5000 (chunk (block (
    loc_is "co" 0 (call (co "create") (function (fun ("a" ∷ []) (env ∷ []) (block (
    loc_is "b" 1 (call (co "yield") (bin Add (loc "a" 0) (int 1) ∷ []))
    ∷ does (call (global "error") (bin Concat (str "e") (loc "b" 1) ∷ int 0 ∷ [])) ∷ []))) ∷ []))
    ∷ prints (call (co "resume") (loc "co" 0 ∷ int 1 ∷ []) ∷ [])
    ∷ prints (call (co "resume") (loc "co" 0 ∷ int 2 ∷ []) ∷ [])
    ∷ prints (call (co "status") (loc "co" 0 ∷ []) ∷ []) ∷ []))) [] usual ≡ ran "true\t2\nfalse\te2\ndead\nreturn\n" 0
unfolding int_wrap digits raw_set row primitive_values constant_values library_table environment
resumes = refl

-- while true do coroutine.yield() for i=1,3 do end end
abbrev yields_and_counts : Body
yields_and_counts = chunk (block (While 1 (True 1) (block (does (call (co "yield") []) ∷ NumFor 1 (name "i" (LocalPlace 3)) (int 1) (int 3) (block []) ∷ [])) ∷ []))

-- each turn has the whole budget
budget_for_each_turn : run 3000 yields_and_counts (codes "a" ∷ codes "b" ∷ []) 4 ≡ ran "yield\nyield\nyield\n" 3
unfolding int_wrap digits raw_set row primitive_values constant_values library_table environment
budget_for_each_turn = refl

second_turn_unpaid : run 3000 yields_and_counts (codes "a" ∷ codes "b" ∷ []) 3 ≡ ran "yield\n" 4
unfolding int_wrap digits raw_set row primitive_values constant_values library_table environment
second_turn_unpaid = refl

-- return coroutine.resume(coroutine.create(function() return coroutine.yield(1) end)): nothing is left of a coroutine but its results
yield_in_tail_call : run 3000 (chunk (returning (
    loc_is "co" 0 (call (co "create") (function (fun [] (env ∷ []) (returning [] (call (co "yield") (int 1 ∷ []) ∷ []))) ∷ [])) ∷ [])
    (call (co "resume") (loc "co" 0 ∷ []) ∷ call (co "resume") (loc "co" 0 ∷ int 7 ∷ int 8 ∷ []) ∷ []))) [] usual ≡ ran "return\ttrue\ttrue\t7\t8\n" 0
unfolding int_wrap digits raw_set row primitive_values constant_values library_table environment
yield_in_tail_call = refl

-- local c=(what `running` gives) return coroutine.resume(c), and of a dead one; isyieldable
refusals : run 5000 (chunk (returning (
    loc_is "d" 0 (call (co "create") (function (fun [] [] (block [])) ∷ []))
    ∷ does (call (co "resume") (loc "d" 0 ∷ [])) ∷ [])
    (call (global "select") (int 2 ∷ call (co "resume") (call (co "running") [] ∷ []) ∷ [])
    ∷ call (global "select") (int 2 ∷ call (co "resume") (loc "d" 0 ∷ []) ∷ []) ∷ call (co "isyieldable") [] ∷ call (co "close") (loc "d" 0 ∷ []) ∷ []))) [] usual
    ≡ ran "return\tcannot resume non-suspended coroutine\tcannot resume dead coroutine\ttrue\ttrue\n" 0
unfolding int_wrap digits raw_set row primitive_values constant_values library_table environment
refusals = refl

-- local co=coroutine.create(function() local c <close> = (prints "c") error("e",0) end) return select(2,coroutine.resume(co)),coroutine.close(co)
-- a coroutine that failed keeps its variables to be closed until it is closed
failed_is_closed : run 5000 (chunk (returning (
    loc_is "co" 0 (call (co "create") (function (fun [] (env ∷ []) (block (
    locals (closed "c" 0 ∷ []) (call (global "setmetatable") (Table 1 (fields []) ∷ Table 1 (fields (Keyed 1 (str "__close")
    (function (fun ("v" ∷ "e" ∷ []) (env ∷ []) (block (prints (str "c" ∷ loc "e" 1 ∷ []) ∷ [])))) ∷ [])) ∷ []) ∷ [])
    ∷ does (call (global "error") (str "e" ∷ int 0 ∷ [])) ∷ []))) ∷ []))
    ∷ prints (call (co "resume") (loc "co" 0 ∷ []) ∷ []) ∷ [])
    (call (co "close") (loc "co" 0 ∷ []) ∷ call (co "close") (loc "co" 0 ∷ []) ∷ []))) [] usual ≡ ran "false\te\nc\te\nreturn\tfalse\ttrue\n" 0
unfolding int_wrap digits raw_set put_metatable row primitive_values constant_values library_table environment
failed_is_closed = refl

-- local a=coroutine.wrap(function() local n=0 local function bump() n=n+1 end while true do bump() n=n*2 coroutine.yield(n) bump() end end)
-- return a(),a(),a(): a local of the coroutine that a function shares, across yields
shared_across_yields : run 3000 (chunk (returning (
    loc_is "a" 0 (call (co "wrap") (function (fun [] (env ∷ []) (block (
    loc_is "n" 0 (int 0)
    ∷ local_function "bump" 1 (fun [] (of_local "n" 0 ∷ []) (block (assign (outer "n" 0) (bin Add (outer "n" 0) (int 1)) ∷ [])))
    ∷ While 1 (True 1) (block (
    does (call (loc "bump" 1) []) ∷ assign (loc "n" 0) (bin Mul (loc "n" 0) (int 2)) ∷ does (call (co "yield") (loc "n" 0 ∷ [])) ∷ does (call (loc "bump" 1) []) ∷ [])) ∷ []))) ∷ [])) ∷ [])
    (call (loc "a" 0) [] ∷ call (loc "a" 0) [] ∷ call (loc "a" 0) [] ∷ []))) [] usual ≡ ran "return\t2\t8\t20\n" 0
unfolding int_wrap digits raw_set row primitive_values constant_values library_table environment
shared_across_yields = refl
