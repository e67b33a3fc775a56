use Rattle.std.proofs.Common.{◌≡◌, [], ◌∷◌, map, subst}
use Rattle.int_core.specs.Value.{shape}
use Rattle.library_arguments.specs.Shapes.{shapes_of}
use Rattle.library_rows.specs.Searches.{seeks}
use Rattle.lib_string.specs.Searches.{IsSought}
use Rattle.lua_heap.specs.Reading.{value}
use Rattle.lib_base.proofs.SeekRows.{seeks_first}
use Rattle.lib_base.proofs.seeking.sought.Goals as goal

pub returns-clause-row : goal.returns-clause-row
returns-clause-row c =
    let vs = map (value c.args.world.now.strings) c.args.arguments.now in
    let a = c.argument_shape.result in
    let b = c.argument_shape-2.result in
    let d = c.argument_shape-3.result in
    let e = c.argument_shape-4.result in
    let f = c.argument_shape-5.result in
    let all : seeks (shapes_of (a ∷ b ∷ d ∷ e ∷ f ∷ [])) ≡ seeks (map shape vs)
    = seeks_first vs _ _ _ _ _ c.argument_shape.ensures c.argument_shape-2.ensures c.argument_shape-3.ensures c.argument_shape-4.ensures c.argument_shape-5.ensures in
    subst (IsSought c.seek.result) all c.seek.ensures.row
