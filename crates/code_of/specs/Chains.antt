-- A chain of `..` (Lua 5.4 manual, 3.4.6): `a .. b .. c` is `a .. (b .. c)`. Where all of its operators stand on one line, the values of its operands go to registers that follow
-- each other, and one CONCAT joins them, from the right (lvm.c, luaV_concat). An operator on another line has an instruction of its own, since errors name its line.
use Rattle.std.specs.Prelude.{ℕ, suc, Bool, true, false, cond, ◌&&◌, nat_eq, List, [], ◌∷◌, ◌++◌}
use Rattle.int_core.specs.Value.{without_last}
use Rattle.tree_core.specs.Tree.{Exp, Binary}
use Rattle.code_core.specs.declared.opcode.Opcode.TheVariants.{Concat}
use Rattle.code_of.specs.Coded.{Coded, with_abc}
use Rattle.code_of.specs.Operands.{joins}

-- whether the right operand of a `..` is a `..` on the same line; in brackets it is none
abbrev pub continues : (line : ℕ) → Exp → Bool
continues line (Binary own op e d) = joins op && nat_eq own line
continues line _ = false

-- how many registers the right operand takes: one for each operand of the chain that it goes on with
abbrev pub links : (line : ℕ) → Exp → ℕ
links line (Binary own op e d) = cond (joins op && nat_eq own line) (suc (links line d)) 1
links line _ = 1

-- the code of a right operand that goes on with the chain ends by its own CONCAT, which is left out
abbrev pub unjoined : (more : Bool) → List Coded → List Coded
unjoined true code = without_last code
unjoined false code = code

-- the code of both operands is given; the values stand in the registers from t on, and the result goes to t
abbrev pub chain_code : (line : ℕ) → (right : Exp) → (first second : List Coded) → (t : ℕ) → List Coded
chain_code line right first second t = first ++ (unjoined (continues line right) second ++ with_abc Concat t (suc (links line right)) 0 line ∷ [])
