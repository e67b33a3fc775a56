-- The code of a function's whole body is short.
use Rattle.std.proofs.Common.{ℕ, ◌+◌, ◌*◌, ◌≤◌, Bool, true, false, List, [], ◌∷◌, length, None, arith, length-append}
use Rattle.tree_core.specs.Tree.{Block, Falls, Returns, Body, BodyOf}
use Rattle.code_core.specs.declared.opcode.Opcode.TheVariants.{Return}
use Rattle.code_core.specs.declared.proto.Const.{Const}
use Rattle.code_of.specs.declared.leaving.Leaving.{Leaving}
use Rattle.code_of.specs.CodeOf.{leaving_of, opening, body_code}
use Rattle.code_of.specs.Coded.{leaving_by}
use Rattle.code_of.specs.Constants.{of_block}
use Rattle.code_of.specs.Jumps.{Reach}
use Rattle.tree_terms.specs.Levels.{levels_after}
use Rattle.code_of.specs.Statements.{stats_code, whole_code}
use Rattle.tree_terms.specs.Weight.{weight_of_block, weight_of_body}
use Rattle.code_of.proofs.Sizes.{stats_sized, block_sized}
use Rattle.code_bounds.proofs.ShortStatements.{stats_short, block_short}

opening_short : (vararg : Bool) (params line : ℕ) → length (opening vararg params line) ≤ 1
opening_short true params line = omega arith
opening_short false params line = omega arith

whole_short : (cs : List Const) (back : Leaving) (block : Block) (params pc : ℕ) → length (whole_code cs back block params pc) ≤ 6 * weight_of_block block + 1
whole_short cs back (Falls ss tokens line) params pc =
    let nowhere : Reach = record { labels = []; exit = None } in
    let code = stats_code cs back ss true false 0 params 0 pc [] nowhere in
    let last = leaving_by Return (levels_after ss params) 1 back.back line ∷ [] in
    omega (arith, stats_sized cs back ss true false 0 params 0 pc [] nowhere, stats_short cs back ss false params 0, length-append code last)
whole_short cs back (Returns ss es tokens line) params pc =
    let nowhere : Reach = record { labels = []; exit = None } in
    omega (arith, block_sized cs back (Returns ss es tokens line) false 0 params 0 pc nowhere, block_short cs back (Returns ss es tokens line) false 0 params 0)

pub body_short : (body : Body) → length (body_code body) ≤ 6 * weight_of_body body
body_short (BodyOf params vararg inner ups line) =
    let begin = opening vararg (length params) line in
    let cs = of_block inner [] in
    let back = leaving_of vararg (length params) inner in
    let rest = whole_code cs back inner (length params) (length begin) in
    omega (arith, opening_short vararg (length params) line, whole_short cs back inner (length params) (length begin), length-append begin rest)
