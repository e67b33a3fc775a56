-- Errors, protected calls and variables to be closed, by runs of scripts. What is expected is what the Lua 5.4 manual says; the texts are
-- this project's.
use Rattle.std.proofs.Common.{◌≡◌, ℕ, false, List, [], ◌∷◌, Some, refl}
use Prim.Native.String.{String}
use Rattle.std.specs.Int.{int_wrap}
use Rattle.std.specs.Fmt.{digits}
use Rattle.std.specs.Prelude.{codes, option_map}
use Rattle.int_core.specs.Heap.{raw_set}
use Rattle.tree_core.specs.declared.operator.BinOp.TheVariants.{Add, Concat, Idiv, Lt, Eq}
use Rattle.tree_core.specs.declared.name.Place.TheVariants.{Local as LocalPlace}
use Rattle.tree_core.specs.Tree.{Body, Stat, Exp, Nil, True, False, Call, Table, Do, While, Repeat, GenFor, Label, Goto, Break, Keyed, exps, fields}
use Rattle.tree_activation.specs.Work.{when_captured}
use Rattle.library_rows.specs.Look.{put_metatable}
use Rattle.lua_meaning.specs.TreeMeaning.{tree_meaning}
use Rattle.tree_terms.proofs.Forms.{name, no_variable, closed, of_local, loc, outer, global, int, str, bin, call, function, block, returning, locals, loc_is, does, fun, vararg_fun}
use Rattle.lua_meaning.specs.Libraries.{primitive_values, constant_values, library_table, environment}
use Rattle.lua_meaning.specs.Step.{row}
use Rattle.lua_meaning.proofs.Scripts.{dots, assign, local_function, env, of_outer, chunk, prelude, nothing_built, summary, run, ran, prints, usual}

-- FUNCTION(ARGUMENTS) on another line
abbrev call_at : ℕ → Exp → List Exp → Exp
call_at line f es = Call line f (exps es)

-- local NAME <close> = setmetatable({},{__close=FUNCTION})
abbrev closes : String → ℕ → Body → Stat
closes text n body = locals (closed text n ∷ []) (call (global "setmetatable") (Table 1 (fields []) ∷ Table 1 (fields (Keyed 1 (str "__close") (function body) ∷ [])) ∷ []) ∷ [])

-- function(v,e) print(TEXT,e) end
abbrev says : String → Body
says text = fun ("v" ∷ "e" ∷ []) (env ∷ []) (block (prints (str text ∷ loc "e" 1 ∷ []) ∷ []))

abbrev protected : Body → Exp
protected body = call (global "pcall") (function body ∷ [])

abbrev raises : Exp → Stat
raises e = does (call (global "error") (e ∷ int 0 ∷ []))

-- local x = nil + 1
of_nil : run 300 (chunk (block (loc_is "x" 0 (bin Add (Nil 1) (int 1)) ∷ []))) [] usual ≡ ran "error\ts.lua:1: attempt to perform arithmetic on a nil value\n" 1
unfolding digits row primitive_values constant_values library_table environment
of_nil = refl

-- print(1//0)
by_zero : run 300 (chunk (block (prints (bin Idiv (int 1) (int 0) ∷ []) ∷ []))) [] usual ≡ ran "error\ts.lua:1: attempt to perform 'n//0'\n" 1
unfolding digits row primitive_values constant_values library_table environment
by_zero = refl

-- local x = nil + 1, of a script whose lines are not known
without_lines :
    option_map summary (tree_meaning when_captured nothing_built 300 prelude
    (record { main = chunk (block (loc_is "x" 0 (bin Add (Nil 1) (int 1)) ∷ [])); name = codes "@s.lua"; has_lines = false }) [] usual)
    ≡ Some (codes "error\tattempt to perform arithmetic on a nil value\n", 1)
without_lines = refl

-- return pcall(function() return {}<{} end), nil .. "x", #nil, nil.x and nil() behind pcall
faults : run 900 (chunk (returning [] (
    call (global "select") (int 2 ∷ protected (fun [] [] (returning [] (bin Lt (Table 1 (fields [])) (Table 1 (fields [])) ∷ []))) ∷ []) ∷ []))) [] usual
    ≡ ran "return\ts.lua:1: attempt to compare two table values\n" 0
unfolding digits row primitive_values constant_values library_table environment
faults = refl

fault_of_callee : run 900 (chunk (returning [] (protected (fun [] [] (block (does (call (Nil 1) []) ∷ []))) ∷ []))) [] usual
    ≡ ran "return\tfalse\ts.lua:1: attempt to call a nil value\n" 0
unfolding digits row primitive_values constant_values library_table environment
fault_of_callee = refl

-- print(pcall(error,"x",0))
by_pcall : run 2000 (chunk (block (prints (call (global "pcall") (global "error" ∷ str "x" ∷ int 0 ∷ []) ∷ []) ∷ []))) [] usual ≡ ran "false\tx\nreturn\n" 0
unfolding int_wrap row primitive_values constant_values library_table environment
by_pcall = refl

-- return pcall(), pcall(function(...) return ... end,1,2): nil is called; results stand behind true
pcall_results : run 900 (chunk (returning [] (
    call (global "pcall") [] ∷ call (global "pcall") (function (vararg_fun [] [] (returning [] (dots ∷ []))) ∷ int 1 ∷ int 2 ∷ []) ∷ []))) [] usual
    ≡ ran "return\tfalse\ttrue\t1\t2\n" 0
unfolding digits row primitive_values constant_values library_table environment
pcall_results = refl

-- print(xpcall(function() error("a",0) end,function(m) return m.."b" end))
by_xpcall : run 2000 (chunk (block (prints (call (global "xpcall") (
    function (fun [] (env ∷ []) (block (raises (str "a") ∷ [])))
    ∷ function (fun ("m" ∷ []) [] (returning [] (bin Concat (loc "m" 0) (str "b") ∷ []))) ∷ []) ∷ []) ∷ []))) [] usual ≡ ran "false\tab\nreturn\n" 0
unfolding int_wrap row primitive_values constant_values library_table environment
by_xpcall = refl

-- return xpcall(function() error("a",0) end,function(m) error("b",0) end): an error in a message handler
in_handler : run 900 (chunk (returning [] (call (global "xpcall") (
    function (fun [] (env ∷ []) (block (raises (str "a") ∷ [])))
    ∷ function (fun ("m" ∷ []) (env ∷ []) (block (raises (str "b") ∷ []))) ∷ []) ∷ []))) [] usual ≡ ran "return\tfalse\terror in error handling\n" 0
unfolding row primitive_values constant_values library_table environment
in_handler = refl

-- the message handler runs before the variables are closed:
-- return xpcall(function() local c <close> = .. error("x",0) end,function(m) print("handler",m) return m end)
handler_before_closing : run 4000 (chunk (returning [] (call (global "xpcall") (
    function (fun [] (env ∷ []) (block (closes "c" 0 (says "closed") ∷ raises (str "x") ∷ [])))
    ∷ function (fun ("m" ∷ []) (env ∷ []) (returning (prints (str "handler" ∷ loc "m" 0 ∷ []) ∷ []) (loc "m" 0 ∷ []))) ∷ []) ∷ []))) [] usual
    ≡ ran "handler\tx\nclosed\tx\nreturn\tfalse\tx\n" 0
unfolding int_wrap put_metatable raw_set row primitive_values constant_values library_table environment
handler_before_closing = refl

-- print(pcall(function() local a <close> = (prints "a") local b <close> = (raises "two") error("one",0) end)):
-- an error in a closing method replaces the error
closing_replaces : run 4000 (chunk (block (prints (protected (fun [] (env ∷ []) (block (
    closes "a" 0 (says "a") ∷ closes "b" 1 (fun [] (env ∷ []) (block (raises (str "two") ∷ []))) ∷ raises (str "one") ∷ []))) ∷ []) ∷ []))) [] usual
    ≡ ran "a\ttwo\nfalse\ttwo\nreturn\n" 0
unfolding int_wrap put_metatable raw_set row primitive_values constant_values library_table environment
closing_replaces = refl

-- do local a <close> = .. local b <close> = .. end print("end"): the last one first, with nil for no error
closes_block : run 4000 (chunk (block (Do 1 (block (closes "a" 0 (says "a") ∷ closes "b" 1 (says "b") ∷ [])) ∷ prints (str "end" ∷ []) ∷ []))) [] usual
    ≡ ran "b\tnil\na\tnil\nend\nreturn\n" 0
unfolding int_wrap put_metatable raw_set row primitive_values constant_values library_table environment
closes_block = refl

-- while true do local a <close> = .. break end
closes_at_break : run 4000 (chunk (block (While 1 (True 1) (block (closes "a" 0 (says "a") ∷ Break 1 ∷ [])) ∷ prints (str "end" ∷ []) ∷ []))) [] usual
    ≡ ran "a\tnil\nend\nreturn\n" 0
unfolding int_wrap put_metatable raw_set row primitive_values constant_values library_table environment
closes_at_break = refl

-- do local a <close> = .. goto out print("not") ::out:: end print("end"): a label at a block's end stands outside the scope
closes_at_goto : run 4000 (chunk (block (
    Do 1 (block (closes "a" 0 (says "a") ∷ Goto 1 (no_variable "out") ∷ prints (str "not" ∷ []) ∷ Label 1 (no_variable "out") ∷ [])) ∷ prints (str "end" ∷ []) ∷ []))) [] usual
    ≡ ran "a\tnil\nend\nreturn\n" 0
unfolding int_wrap put_metatable raw_set row primitive_values constant_values library_table environment
closes_at_goto = refl

-- local n=0 repeat local a <close> = .. n=n+1 until n==2: closed in each round, once the test is known
closes_in_repeat : run 4000 (chunk (block (
    loc_is "n" 0 (int 0)
    ∷ Repeat 1 (block (closes "a" 1 (says "a") ∷ assign (loc "n" 0) (bin Add (loc "n" 0) (int 1)) ∷ [])) (bin Eq (loc "n" 0) (int 2)) ∷ []))) [] usual
    ≡ ran "a\tnil\na\tnil\nreturn\n" 0
unfolding int_wrap put_metatable raw_set row primitive_values constant_values library_table environment
closes_in_repeat = refl

-- local x=1 local function f() local c <close> = (sets x to 2) return x end return f(),x: results are known before variables are closed
results_before_closing : run 900 (chunk (returning (
    loc_is "x" 0 (int 1)
    ∷ local_function "f" 1 (fun [] (of_local "x" 0 ∷ of_outer "_ENV" 0 ∷ []) (returning (
    locals (closed "c" 0 ∷ []) (call (Rattle.tree_core.specs.Tree.Var 1 (name "setmetatable" (Rattle.tree_core.specs.declared.name.Place.TheVariants.GlobalOf 1)))
    (Table 1 (fields []) ∷ Table 1 (fields (Keyed 1 (str "__close") (function (fun [] (of_outer "x" 0 ∷ []) (block (assign (outer "x" 0) (int 2) ∷ [])))) ∷ [])) ∷ []) ∷ []) ∷ [])
    (outer "x" 0 ∷ []))) ∷ [])
    (call (loc "f" 1) [] ∷ loc "x" 0 ∷ []))) [] usual ≡ ran "return\t1\t2\n" 0
unfolding digits put_metatable raw_set row primitive_values constant_values library_table environment
results_before_closing = refl

-- the main script's error closes its variables
main_closes : run 4000 (chunk (block (closes "a" 0 (says "a") ∷ raises (str "x") ∷ []))) [] usual ≡ ran "a\tx\nerror\tx\n" 1
unfolding int_wrap put_metatable raw_set row primitive_values constant_values library_table environment
main_closes = refl

-- local x <close> = 5
not_closable : run 300 (chunk (block (locals (closed "x" 0 ∷ []) (int 5 ∷ []) ∷ []))) [] usual ≡ ran "error\ts.lua:1: variable 'x' got a non-closable value\n" 1
unfolding digits row primitive_values constant_values library_table environment
not_closable = refl

-- local x <close> = nil local y <close> = false
nothing_to_close : run 300 (chunk (block (locals (closed "x" 0 ∷ []) (Nil 1 ∷ []) ∷ locals (closed "y" 1 ∷ []) (False 1 ∷ []) ∷ []))) [] 0 ≡ ran "return\n" 0
unfolding row primitive_values constant_values library_table environment
nothing_to_close = refl

-- for i in FUNCTION,nil,nil,CLOSES do break end: the fourth value is closed as the loop is left
closes_iterator : run 4000 (chunk (block (
    GenFor 1 (name "i" (LocalPlace 4) ∷ []) (exps (function (fun [] [] (returning [] (int 1 ∷ []))) ∷ Nil 1 ∷ Nil 1
    ∷ call (global "setmetatable") (Table 1 (fields []) ∷ Table 1 (fields (Keyed 1 (str "__close") (function (says "it")) ∷ [])) ∷ []) ∷ []))
    (block (Break 1 ∷ []))
    ∷ prints (str "end" ∷ []) ∷ []))) [] usual ≡ ran "it\tnil\nend\nreturn\n" 0
unfolding int_wrap put_metatable raw_set row primitive_values constant_values library_table environment
closes_iterator = refl

-- a fourth value that cannot be closed
iterator_not_closable : run 900 (chunk (block (
    GenFor 1 (name "i" (LocalPlace 4) ∷ []) (exps (Nil 1 ∷ Nil 1 ∷ Nil 1 ∷ int 1 ∷ [])) (block []) ∷ []))) [] usual
    ≡ ran "error\ts.lua:1: variable '?' got a non-closable value\n" 1
unfolding digits row primitive_values constant_values library_table environment
iterator_not_closable = refl

-- positions: line 1 has f, which raises the position of its caller; line 2 has g, which calls f; line 3 calls g

abbrev blames_caller : Stat
blames_caller = local_function "f" 0 (fun [] (env ∷ []) (block (does (call (global "error") (str "e" ∷ int 2 ∷ [])) ∷ [])))

-- local function g() return f() end: a tail call leaves no frame
tail_call_leaves_no_frame : run 900 (chunk (block (
    blames_caller
    ∷ local_function "g" 1 (fun [] (of_local "f" 0 ∷ []) (returning [] (call_at 2 (outer "f" 0) [] ∷ [])))
    ∷ does (call_at 3 (loc "g" 1) []) ∷ []))) [] usual ≡ ran "error\ts.lua:3: e\n" 1
unfolding digits row primitive_values constant_values library_table environment
tail_call_leaves_no_frame = refl

-- local function g() local c <close> = nil return f() end: no tail call, since a variable to be closed is in scope
no_tail_call_in_scope_of_close : run 900 (chunk (block (
    blames_caller
    ∷ local_function "g" 1 (fun [] (of_local "f" 0 ∷ []) (returning (locals (closed "c" 0 ∷ []) (Nil 1 ∷ []) ∷ []) (call_at 2 (outer "f" 0) [] ∷ [])))
    ∷ does (call_at 3 (loc "g" 1) []) ∷ []))) [] usual ≡ ran "error\ts.lua:2: e\n" 1
unfolding digits row primitive_values constant_values library_table environment
no_tail_call_in_scope_of_close = refl

-- local function g() for i in next,{1} do return f() end end: nor in a generic `for`
no_tail_call_in_generic_for : run 900 (chunk (block (
    blames_caller
    ∷ local_function "g" 1 (fun [] (of_local "f" 0 ∷ of_outer "_ENV" 0 ∷ []) (block (
    GenFor 2 (name "i" (LocalPlace 4) ∷ [])
    (exps (Rattle.tree_core.specs.Tree.Var 2 (name "next" (Rattle.tree_core.specs.declared.name.Place.TheVariants.GlobalOf 1))
    ∷ Table 2 (fields (Rattle.tree_core.specs.Tree.Item (int 1) ∷ [])) ∷ []))
    (returning [] (call_at 2 (outer "f" 0) [] ∷ [])) ∷ [])))
    ∷ does (call_at 3 (loc "g" 1) []) ∷ []))) [] usual ≡ ran "error\ts.lua:2: e\n" 1
unfolding digits raw_set row primitive_values constant_values library_table environment
no_tail_call_in_generic_for = refl
