use Rattle.std.proofs.Common.{[], ◌∷◌, ap, ap₂, refl, sym, ◌∙◌, map}
use Rattle.library_rows.specs.Look.{done}
use Rattle.lua_heap.specs.Reading.{value}
use Rattle.pure_functions.specs.Answers.{heap_of}
use Rattle.lib_base.proofs.ListRows.{item_read, spread_is}
use Rattle.lib_base.proofs.lists.spread.Goals as goal

pub returns-then-many-eq1 : goal.returns-then-many-eq1
returns-then-many-eq1 c =
    let W = c.args.world.now in
    let all = spread_is (map (value W.strings) c.args.arguments.now) (heap_of W) c.in_ok-id.id c.in_ok-id.ensures c.argument_shape.ensures c.in_ok-many.ensures c.if-many-eq1.true in
    all ∙ ap (λ v. done (heap_of W) (v ∷ [])) (item_read W c.in_ok-id.id 1 c.read_field-item.result c.read_field-item.ensures)

pub returns-then-many-eq2 : goal.returns-then-many-eq2
returns-then-many-eq2 c =
    let W = c.args.world.now in
    let all = spread_is (map (value W.strings) c.args.arguments.now) (heap_of W) c.in_ok-id.id c.in_ok-id.ensures c.argument_shape.ensures c.in_ok-many.ensures c.if-many-eq2.true in
    let first = item_read W c.in_ok-id.id 1 c.read_field-first.result c.read_field-first.ensures in
    let second = item_read W c.in_ok-id.id 2 c.read_field-second.result c.read_field-second.ensures in
    all ∙ ap₂ (λ v w. done (heap_of W) (v ∷ w ∷ [])) first second

pub returns : goal.returns
returns c =
    let W = c.args.world.now in
    spread_is (map (value W.strings) c.args.arguments.now) (heap_of W) c.in_ok-id.id c.in_ok-id.ensures c.argument_shape.ensures c.in_ok-many.ensures refl ∙ ap (done (heap_of W)) (sym c.in_ok-items.ensures)
