-- The code of a whole function, whose jumps lead nowhere but into it.
use Rattle.std.specs.Prelude.{ℕ, true, false, List, [], ◌∷◌, ◌++◌, length, None}
use Rattle.tree_core.specs.Tree.{Block, Falls, Returns, Body, BodyOf}
use Rattle.code_core.specs.declared.opcode.Opcode.TheVariants.{Return}
use Rattle.code_core.specs.declared.proto.Const.{Const}
use Rattle.code_core.specs.declared.proto.LocVar.{LocVar}
use Rattle.code_of.specs.declared.leaving.Leaving.{Leaving}
use Rattle.code_of.specs.Coded.{Coded, leaving_by}
use Rattle.code_of.specs.CodeOf.{leaving_of, opening}
use Rattle.code_of.specs.Jumps.{Reach}
use Rattle.code_of.specs.Levels.{made_in_block}
use Rattle.tree_terms.specs.Levels.{levels_after}
use Rattle.code_of.specs.Statements.{stats_code, block_code, whole_code}
use Rattle.code_of.specs.Variables.{variables, within_whole}
use Rattle.code_emitter.specs.Listing.{Listing}
use Rattle.code_stat.specs.declared.jumps.Jump.{Jump}
use Rattle.code_stat.specs.Drafts.{arrives, or_nowhere, put_jump, fill}

abbrev pub nowhere : Reach
nowhere = record { labels = []; exit = None }

-- one jump is put in its place, and all are
abbrev pub led : Listing → Jump → Listing
led s j = record { constants = s.constants; steps = put_jump j.closes (or_nowhere (arrives nowhere j)) j.place j.line s.steps; made = s.made }

abbrev pub filled : Listing → List Jump → Listing
filled s js = record { constants = s.constants; steps = fill (arrives nowhere) js s.steps; made = s.made }

-- the block of a function, in front of which it has made some functions
abbrev pub whole_from : List Const → (back : Leaving) → Block → (params j pc : ℕ) → Reach → List Coded
whole_from constants back (Falls ss tokens line) params j pc reach =
    stats_code constants back ss true false 0 params j pc [] reach ++ leaving_by Return (levels_after ss params) 1 back.back line ∷ []
whole_from constants back (Returns ss es tokens line) params j pc reach = block_code constants back (Returns ss es tokens line) false 0 params j pc reach

-- a function's code, where these are its constants
abbrev pub function_of : List Const → Body → List Coded
function_of constants (BodyOf params vararg inner ups line) =
    let begin = opening vararg (length params) line in
    begin ++ whole_code constants (leaving_of vararg (length params) inner) inner (length params) (length begin)

abbrev pub made_in_body : Body → ℕ
made_in_body (BodyOf params vararg inner ups line) = made_in_block inner

-- and its local variables
abbrev pub variables_in : List Const → Body → List LocVar
variables_in constants (BodyOf params vararg inner ups line) =
    variables params 0 (length (function_of constants (BodyOf params vararg inner ups line)))
    ++ within_whole constants (leaving_of vararg (length params) inner) inner (length params) 0 (length (opening vararg (length params) line))
