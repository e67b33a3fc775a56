-- A variable to be closed that functions share may be changed by an answer that fits, though no script can. Whether it needs closing is settled
-- where it is declared, by a tree as by its code.
use Rattle.std.proofs.Common.{◌≡◌, [], ◌∷◌, length, refl}
use Rattle.std.specs.Prelude.{codes, Some}
use Rattle.std.specs.Int.{int_wrap}
use Rattle.code_core.specs.Opcode.{opcodes, number_of}
use Rattle.int_core.specs.Ask.{values}
use Rattle.tree_core.specs.Tree.{Body, Nil}
use Rattle.code_means.proofs.Traces.{number}
use Rattle.tree_terms.proofs.Forms.{closed, of_local, loc, outer, call, block, returning, locals, does, fun, function}
use Rattle.code_means.proofs.Forms.{tree_asks, code_asks}
use Rattle.code_of.specs.CodeOf.{code_of}

-- function(f) local x <close> = nil f(function() return x end) end
abbrev shares_closed : Body
shares_closed = fun ("f" ∷ []) [] (block (
    locals (closed "x" 1 ∷ []) (Nil 1 ∷ [])
    ∷ does (call (loc "f" 0) (function (fun [] (of_local "x" 1 ∷ []) (returning [] (outer "x" 0 ∷ []))) ∷ [])) ∷ []))

-- the call's answer brings a number for x
tree_passes_over : length (tree_asks shares_closed (number 1 ∷ []) (values [] ∷ values [] ∷ [])) ≡ 4
unfolding int_wrap
tree_passes_over = refl

code_passes_over : length (code_asks (code_of (Some (codes "@s.lua")) shares_closed) (number 1 ∷ []) (values [] ∷ values [] ∷ [])) ≡ 4
unfolding opcodes number_of int_wrap
code_passes_over = refl
