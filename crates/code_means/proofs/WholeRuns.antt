-- Trees and codes that are written by hand, run in the same worlds: both print the same and end alike.
use Rattle.std.proofs.Common.{◌≡◌, ℕ, true, false, List, [], ◌∷◌, Option, Some, None, refl}
use Prim.Native.String.{String}
use Rattle.std.specs.Prelude.{codes, option_map}
use Rattle.std.specs.Fmt.{digits}
use Rattle.std.specs.Int.{int_wrap}
use Rattle.tree_core.specs.Tree.{Body}
use Rattle.tree_activation.specs.Work.{when_captured}
use Rattle.code_core.specs.Opcode.{opcodes, number_of}
use Rattle.code_core.specs.Prototype.{Prototype}
use Rattle.lua_meaning.specs.Libraries.{primitive_values, constant_values, library_table}
use Rattle.lua_meaning.specs.Meaning.{Meaning, Outcome, has_returned, has_failed, has_spent, is_suspended, is_broken}
use Rattle.load_rows.specs.Loading.{refused_at, Builds}
use Rattle.lua_meaning.specs.TreeMeaning.{tree_meaning}
use Rattle.code_means.specs.Runs.{code_meaning}
use Rattle.code_core.specs.declared.opcode.Opcode.TheVariants.{LoadK, GetTabUp, GetField, IDiv, MmBin, Call, TailCall, Return, VarArgPrep}
use Rattle.code_core.specs.Instruction.{abc, abx}
use Rattle.tree_core.specs.declared.operator.BinOp.TheVariants.{Idiv}
use Rattle.tree_terms.proofs.Forms.{of_local, global, int, str, call, bin, field, returning, vararg_fun}
use Rattle.code_means.proofs.Forms.{text, in_register, code, load_int}
use Rattle.code_means.proofs.Pairs.{changes_operand, changes_operand_code, last_value, last_value_code}

abbrev status : {F S : Type 0} → Outcome F S → ℕ
status has_returned = 0
status has_failed = 1
status (is_suspended W) = 3
status has_spent = 4
status is_broken = 99

abbrev summary : {F S : Type 0} → Meaning F S → List ℕ × ℕ
summary m = (m.printed, status m.outcome)

-- these runs load nothing
abbrev nothing_built : {F : Type 0} → Builds F
nothing_built name source = refused_at 1 None

abbrev tree_run : Body → List (List ℕ) → (budget : ℕ) → Option (List ℕ × ℕ)
tree_run b input budget = option_map summary (tree_meaning when_captured nothing_built 900 [] (record { main = b; name = codes "@s.lua"; has_lines = true }) input budget)

abbrev code_run : Prototype → List (List ℕ) → (budget : ℕ) → Option (List ℕ × ℕ)
code_run p input budget = option_map summary (code_meaning nothing_built 900 [] (record { main = p; name = codes "@s.lua"; has_lines = true }) input budget)

abbrev ran : String → ℕ → Option (List ℕ × ℕ) × Option (List ℕ × ℕ)
ran text n = (Some (codes text, n), Some (codes text, n))

-- local a=1 local function f() a=10 return 1 end return a+f()
operand_at_its_turn : (tree_run changes_operand [] 1, code_run changes_operand_code [] 1) ≡ ran "return\t2\n" 0
unfolding opcodes number_of int_wrap digits
operand_at_its_turn = refl

not_paid : (tree_run changes_operand [] 0, code_run changes_operand_code [] 0) ≡ ran "" 4
unfolding opcodes number_of int_wrap digits
not_paid = refl

-- local f local c=true while c do local x=0 f=function() return x end x=5 c=false end return f()
last_value_in_scope : (tree_run last_value [] 2, code_run last_value_code [] 2) ≡ ran "return\t5\n" 0
unfolding opcodes number_of int_wrap digits
last_value_in_scope = refl

-- return pcall(error,"x",0)
abbrev protects : Body
protects = vararg_fun [] (of_local "_ENV" 0 ∷ []) (returning [] (call (global "pcall") (global "error" ∷ str "x" ∷ int 0 ∷ []) ∷ []))

abbrev protects_code : Prototype
protects_code = code 0 true (text "pcall" ∷ text "error" ∷ text "x" ∷ []) (in_register 0 ∷ []) [] []
    (abc VarArgPrep 0 0 0 false ∷ abc GetTabUp 0 0 0 false ∷ abc GetTabUp 1 0 1 false ∷ abx LoadK 2 2 ∷ load_int 3 0 ∷ abc TailCall 0 4 0 false ∷ abc Return 0 0 0 false ∷ [])

by_pcall : (tree_run protects [] 2, code_run protects_code [] 2) ≡ ran "return\tfalse\tx\n" 0
unfolding opcodes number_of int_wrap digits primitive_values constant_values library_table
by_pcall = refl

-- return 1//0: an error of the own step, with its position
abbrev divides : Body
divides = vararg_fun [] [] (returning [] (bin Idiv (int 1) (int 0) ∷ []))

abbrev divides_code : Prototype
divides_code = code 0 true [] [] [] [] (abc VarArgPrep 0 0 0 false ∷ load_int 0 1 ∷ load_int 1 0 ∷ abc IDiv 0 0 1 false ∷ abc MmBin 0 1 12 false ∷ abc Return 0 2 0 false ∷ [])

by_zero : (tree_run divides [] 0, code_run divides_code [] 0) ≡ ran "error\ts.lua:1: attempt to perform 'n//0'\n" 1
unfolding opcodes number_of int_wrap digits
by_zero = refl

-- return 7,coroutine.yield(5): suspended, and handed a line
abbrev yields : Body
yields = vararg_fun [] (of_local "_ENV" 0 ∷ []) (returning [] (int 7 ∷ call (field (global "coroutine") "yield") (int 5 ∷ []) ∷ []))

abbrev yields_code : Prototype
yields_code = code 0 true (text "coroutine" ∷ text "yield" ∷ []) (in_register 0 ∷ []) [] []
    (abc VarArgPrep 0 0 0 false ∷ load_int 0 7 ∷ abc GetTabUp 1 0 0 false ∷ abc GetField 1 1 1 false ∷ load_int 2 5 ∷ abc Call 1 2 0 false ∷ abc Return 0 0 0 false ∷ [])

suspended : (tree_run yields [] 1, code_run yields_code [] 1) ≡ ran "yield\t5\n" 3
unfolding opcodes number_of int_wrap digits primitive_values constant_values library_table
suspended = refl

handed_a_line : (tree_run yields (codes "x" ∷ []) 1, code_run yields_code (codes "x" ∷ []) 1) ≡ ran "yield\t5\nreturn\t7\tx\n" 0
unfolding opcodes number_of int_wrap digits primitive_values constant_values library_table
handed_a_line = refl
