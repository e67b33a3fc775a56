-- Short forms for trees that are written by hand, two functions of the prelude, and runs of scripts.
use Rattle.std.specs.Prelude.{ℕ, true, false, List, [], ◌∷◌, Option, Some, None, option_map, codes}
use Prim.Native.String.{String}
use Rattle.tree_core.specs.declared.name.UpName.{UpName}
use Rattle.tree_core.specs.declared.name.Place.TheVariants.{GlobalIn}
use Rattle.tree_core.specs.declared.name.Place.TheVariants.{Local as LocalPlace}
use Rattle.tree_core.specs.declared.operator.BinOp.TheVariants.{Gt, Eq, Ne}
use Rattle.tree_core.specs.declared.operator.UnOp.TheVariants.{Not}
use Rattle.tree_core.specs.Tree.{Block, Body, BodyOf, Stat, LocalFunction, Assign, If, NumFor, Exp, Nil, Vararg, Var, Method, Unary, Paren, exps, arms}
use Rattle.tree_activation.specs.Work.{Celling, when_captured, when_declared, State}
use Rattle.library_rows.specs.Library.{of_globals, of_coroutine, of_prelude, Entry, entry}
use Rattle.load_rows.specs.Loading.{refused_at, Builds}
use Rattle.lua_meaning.specs.Meaning.{Meaning, Outcome, has_returned, has_failed, has_spent, is_suspended, is_broken}
use Rattle.lua_meaning.specs.TreeMeaning.{tree_meaning}
use Rattle.tree_terms.proofs.Forms.{name, no_variable, declared, of_local, loc, outer, global, int, str, call, bin, field, function, block, returning, locals, loc_is, does, when, fun, vararg_fun}

-- names

abbrev pub of_outer : String → ℕ → UpName
of_outer text n = record { text = codes text; in_stack = false; index = n }

-- expressions

abbrev pub dots : Exp
dots = Vararg 1

abbrev pub method : Exp → String → List Exp → Exp
method o text es = Method 1 o (no_variable text) (exps es)

-- statements

abbrev pub assign : Exp → Exp → Stat
assign target e = Assign 1 (exps (target ∷ [])) (exps (e ∷ []))

abbrev pub local_function : String → ℕ → Body → Stat
local_function text n body = LocalFunction 1 (name text (LocalPlace n)) body

-- functions: `function(params) .. end`, with `...` behind the parameters where said

abbrev pub env : UpName
env = of_outer "_ENV" 0

-- a script's main function
abbrev pub chunk : Block → Body
chunk inner = BodyOf [] true inner (of_local "_ENV" 0 ∷ []) 1

-- the prelude

-- for i=1,select("#",...) do if i>1 then out("\t") end out(tostring((select(i,...)))) end out("\n")
abbrev pub print_body : Body
print_body = vararg_fun [] (env ∷ []) (block (
    NumFor 1 (name "i" (LocalPlace 3)) (int 1) (call (global "select") (str "#" ∷ dots ∷ [])) (block (
    when (bin Gt (loc "i" 3) (int 1)) (does (call (global "out") (str "\t" ∷ [])) ∷ [])
    ∷ does (call (global "out") (call (global "tostring") (Paren 1 (call (global "select") (loc "i" 3 ∷ dots ∷ [])) ∷ []) ∷ [])) ∷ []))
    ∷ does (call (global "out") (str "\n" ∷ [])) ∷ []))

-- local h=meta(v,"__tostring") if h==nil then return text(v) end local s=h(v) local k=type(s) if k=="number" then return text(s) end
-- if k~="string" then error("'__tostring' must return a string") end return s
abbrev pub tostring_body : Body
tostring_body = fun ("v" ∷ []) (env ∷ []) (returning (
    loc_is "h" 1 (call (global "meta") (loc "v" 0 ∷ str "__tostring" ∷ []))
    ∷ If 1 (arms ((bin Eq (loc "h" 1) (Nil 1), returning [] (call (global "text") (loc "v" 0 ∷ []) ∷ [])) ∷ []))
    ∷ loc_is "s" 2 (call (loc "h" 1) (loc "v" 0 ∷ []))
    ∷ loc_is "k" 3 (call (global "type") (loc "s" 2 ∷ []))
    ∷ If 1 (arms ((bin Eq (loc "k" 3) (str "number"), returning [] (call (global "text") (loc "s" 2 ∷ []) ∷ [])) ∷ []))
    ∷ when (bin Ne (loc "k" 3) (str "string")) (does (call (global "error") (str "'__tostring' must return a string" ∷ [])) ∷ []) ∷ [])
    (loc "s" 2 ∷ []))

-- local h=meta(t,"__pairs") if h==nil then return next,t,nil end local a,b,c=h(t) return a,b,c
abbrev pub pairs_body : Body
pairs_body = fun ("t" ∷ []) (env ∷ []) (returning (
    loc_is "h" 1 (call (global "meta") (loc "t" 0 ∷ str "__pairs" ∷ []))
    ∷ If 1 (arms ((bin Eq (loc "h" 1) (Nil 1), returning [] (global "next" ∷ loc "t" 0 ∷ Nil 1 ∷ [])) ∷ []))
    ∷ locals (declared "a" 2 ∷ declared "b" 3 ∷ declared "c" 4 ∷ []) (call (loc "h" 1) (loc "t" 0 ∷ []) ∷ []) ∷ [])
    (loc "a" 2 ∷ loc "b" 3 ∷ loc "c" 4 ∷ []))

-- function after(c,ok,...) if ok then return ... end local e=...
--  if status(c)=="dead" then local o,x=close(c) if not o then e=x end end error(e,0) end
abbrev pub after_body : Body
after_body = vararg_fun ("c" ∷ "ok" ∷ []) (env ∷ []) (block (
    If 1 (arms ((loc "ok" 1, returning [] (dots ∷ [])) ∷ []))
    ∷ loc_is "e" 2 dots
    ∷ when (bin Eq (call (global "status") (loc "c" 0 ∷ [])) (str "dead")) (
    locals (declared "o" 3 ∷ declared "x" 4 ∷ []) (call (global "close") (loc "c" 0 ∷ []) ∷ [])
    ∷ when (Unary 1 Not (loc "o" 3)) (assign (loc "e" 2) (loc "x" 4) ∷ []) ∷ [])
    ∷ does (call (global "error") (loc "e" 2 ∷ int 0 ∷ [])) ∷ []))

-- function wrap(f) local _ENV=_ENV local c=create(f) return function(...) return after(c,resume(c,...)) end end
abbrev pub wrap_body : Body
wrap_body = fun ("f" ∷ []) (env ∷ []) (returning (
    loc_is "_ENV" 1 (outer "_ENV" 0)
    ∷ loc_is "c" 2 (call (Var 1 (name "create" (GlobalIn 1))) (loc "f" 0 ∷ [])) ∷ [])
    (function (vararg_fun [] (of_local "_ENV" 1 ∷ of_local "c" 2 ∷ []) (returning []
    (call (global "after") (outer "c" 1 ∷ call (global "resume") (outer "c" 1 ∷ dots ∷ []) ∷ []) ∷ []))) ∷ []))

abbrev pub prelude : List (Entry Body)
prelude =
    entry of_globals (codes "tostring") tostring_body ∷ entry of_globals (codes "print") print_body ∷ entry of_globals (codes "pairs") pairs_body
    ∷ entry of_prelude (codes "after") after_body ∷ entry of_coroutine (codes "wrap") wrap_body ∷ []

-- these scripts load nothing
abbrev pub nothing_built : {F : Type 0} → Builds F
nothing_built name source = refused_at 1 None

-- runs

abbrev pub status : Outcome Body State → ℕ
status has_returned = 0
status has_failed = 1
status (is_suspended W) = 3
status has_spent = 4
status is_broken = 99

abbrev pub summary : Meaning Body State → List ℕ × ℕ
summary m = (m.printed, status m.outcome)

-- what a script prints, and the status of its ending
abbrev pub run_with : Celling → (steps : ℕ) → Body → List (List ℕ) → (budget : ℕ) → Option (List ℕ × ℕ)
run_with celling steps main input budget =
    option_map summary (tree_meaning celling nothing_built steps prelude (record { main = main; name = codes "@s.lua"; has_lines = true }) input budget)

-- in both forms of cells
abbrev pub run : (steps : ℕ) → Body → List (List ℕ) → (budget : ℕ) → Option (List ℕ × ℕ) × Option (List ℕ × ℕ)
run steps main input budget = (run_with when_captured steps main input budget, run_with when_declared steps main input budget)

abbrev pub ran : String → ℕ → Option (List ℕ × ℕ) × Option (List ℕ × ℕ)
ran text n = (Some (codes text, n), Some (codes text, n))

abbrev pub prints : List Exp → Stat
prints es = does (call (global "print") es)

-- coroutine.NAME
abbrev pub co : String → Exp
co text = field (global "coroutine") text

-- the budget that a run has where none is said
abbrev pub usual : ℕ
usual = 10000000
