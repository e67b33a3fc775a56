-- A body that keeps the limits has code with registers enough.
use Rattle.std.proofs.Common.{ℕ, ◌≤◌, Bool, true, false, List, [], length, refl, arith}
use Rattle.tree_core.specs.declared.name.Name.{Name}
use Rattle.tree_core.specs.declared.name.UpName.{UpName}
use Rattle.tree_core.specs.Tree.{Block, BodyOf}
use Rattle.code_core.specs.declared.opcode.Opcode.TheVariants.{VarArgPrep}
use Rattle.code_of.specs.Coded.{words}
use Rattle.code_of.specs.Constants.{of_block}
use Rattle.code_of.specs.Statements.{whole_code}
use Rattle.code_of.specs.CodeOf.{leaving_of, opening, body_code, room}
use Rattle.scope_laws.specs.Finding.{BlockFinds}
use Rattle.scope_laws.specs.Keeping.{BlockKeeps}
use Rattle.code_bounds.specs.Registers.{BlockHasRoom, RegistersAreEnough}
use Rattle.code_bounds.proofs.Tops.{top, room_max, abc_is}
use Rattle.code_bounds.proofs.Room.{HasRoom, room_append, room_as, room_of_top}
use Rattle.code_bounds.proofs.Statements.{whole_room}

opening_top : (vararg : Bool) (params line : ℕ) → top (opening vararg params line) ≤ 250
opening_top true params line = let e = abc_is VarArgPrep params 0 0 false [] refl in omega (arith, e)
opening_top false params line = omega arith

body_room : (stack : ℕ) (params : List Name) (vararg : Bool) (inner : Block) (ups : List UpName) (line : ℕ) → length ups ≤ 255 → BlockFinds inner [] (length params) (length ups) → length params ≤ 200 → BlockKeeps inner true vararg (length params) [] false →
    HasRoom stack (body_code (BodyOf params vararg inner ups line)) (length params ≤ stack → BlockHasRoom (of_block inner []) stack inner (length params))
body_room stack params vararg inner ups line few_ups known few keeps =
    let begin = opening vararg (length params) line in
    let back = leaving_of vararg (length params) inner in
    room_as
    (room_append begin (whole_code (of_block inner []) back inner (length params) (length begin)) (room_of_top begin (opening_top vararg (length params) line))
    (whole_room (of_block inner []) stack back (length ups) few_ups vararg inner (length params) (length begin) known few keeps))
    (λ all within. all.1 within)

pub enough : RegistersAreEnough
enough source (BodyOf params vararg inner ups line) known keeps =
    let code = body_code (BodyOf params vararg inner ups line) in
    let stack = room (words code) (length params) in
    let h = body_room stack params vararg inner ups line keeps.0 known keeps.1.0 keeps.1.1 in
    let below = h.below in
    let most = room_max (words code) (length params) in
    let few = keeps.1.0 in
    (omega (arith, most, below, few), h.gives (omega (arith, most)) (omega (arith, most)))
