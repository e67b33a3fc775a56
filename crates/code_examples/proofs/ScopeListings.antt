-- Scopes whose locals no function can capture end without an instruction, as Lua's own compiler leaves them (lparser.c of Lua 5.4, `leaveblock`), and a
-- local function is written to its register once: the whole code of small sources.
use Rattle.std.proofs.Common.{true, false, [], ◌∷◌, refl}
use Rattle.code_core.specs.Opcode.{opcodes, number_of}
use Rattle.code_core.specs.declared.opcode.Opcode.TheVariants.{Move, LoadNil, GetTabUp, Test, Call, Return, ForLoop, ForPrep, Closure, VarArgPrep}
use Rattle.code_core.specs.Instruction.{abc, abx}
use Rattle.tree_core.specs.declared.name.Place.TheVariants.{Local as LocalPlace}
use Rattle.tree_core.specs.Tree.{LocalFunction, Do, While, NumFor}
use Rattle.tree_terms.proofs.Forms.{name, loc, outer, global, int, call, block, returning, loc_is, does, fun, of_local}
use Rattle.code_means.proofs.Forms.{load_int, jump, jump_back}
use Rattle.code_examples.proofs.Hand.{Lists}
use Rattle.code_examples.proofs.LuacListings.{calls, main}

-- do local x = f() g(x) end
within : Lists (main (Do 1 (block (loc_is "x" 0 (calls "f") ∷ does (call (global "g") (loc "x" 0 ∷ [])) ∷ []))))
    (abc VarArgPrep 0 0 0 false ∷ abc GetTabUp 0 0 0 false ∷ abc Call 0 1 2 false ∷ abc GetTabUp 1 0 1 false ∷ abc Move 2 0 0 false ∷ abc Call 1 2 1 false
    ∷ abc Return 0 1 1 false ∷ [])
unfolding opcodes number_of
within = refl

-- while f() do local x = g() h(x) end
each_time : Lists (main (While 1 (calls "f") (block (loc_is "x" 0 (calls "g") ∷ does (call (global "h") (loc "x" 0 ∷ [])) ∷ []))))
    (abc VarArgPrep 0 0 0 false ∷ abc GetTabUp 0 0 0 false ∷ abc Call 0 1 2 false ∷ abc Test 0 0 0 false ∷ jump 6 ∷ abc GetTabUp 0 0 1 false
    ∷ abc Call 0 1 2 false ∷ abc GetTabUp 1 0 2 false ∷ abc Move 2 0 0 false ∷ abc Call 1 2 1 false ∷ jump_back 10 ∷ abc Return 0 1 1 false ∷ [])
unfolding opcodes number_of
each_time = refl

-- for i = 1,10 do local x = i f(x) end
each_round : Lists (main (NumFor 1 (name "i" (LocalPlace 3)) (int 1) (int 10) (block (loc_is "x" 4 (loc "i" 3) ∷ does (call (global "f") (loc "x" 4 ∷ [])) ∷ []))))
    (abc VarArgPrep 0 0 0 false ∷ load_int 0 1 ∷ load_int 1 10 ∷ load_int 2 1 ∷ abx ForPrep 0 4 ∷ abc Move 4 3 0 false ∷ abc GetTabUp 5 0 0 false
    ∷ abc Move 6 4 0 false ∷ abc Call 5 2 1 false ∷ abx ForLoop 0 5 ∷ abc Return 0 1 1 false ∷ [])
unfolding opcodes number_of
each_round = refl

-- local function f() end
made_once : Lists (main (LocalFunction 1 (name "f" (LocalPlace 0)) (fun [] [] (block [])))) (abc VarArgPrep 0 0 0 false ∷ abx Closure 0 0 ∷ abc Return 1 1 1 true ∷ [])
unfolding opcodes number_of
made_once = refl

-- local function f() return f end: here the variable is nil while its cell is made, which Lua's own compiler leaves to chance
has_itself : Lists (main (LocalFunction 1 (name "f" (LocalPlace 0)) (fun [] (of_local "f" 0 ∷ []) (returning [] (outer "f" 0 ∷ [])))))
    (abc VarArgPrep 0 0 0 false ∷ abc LoadNil 0 0 0 false ∷ abx Closure 0 0 ∷ abc Return 1 1 1 true ∷ [])
unfolding opcodes number_of
has_itself = refl
