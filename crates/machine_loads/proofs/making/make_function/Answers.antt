use Rattle.std.proofs.Common.{rules, ◌≡◌, [], ◌∷◌, ◌++◌, length, refl, ap, ◌∙◌}
use Rattle.std.specs.Prelude.{map}
use Rattle.table_core.specs.declared.value.CellId.{CellId}
use Rattle.lua_heap.specs.declared.world.Cell.TheVariants.{Closed}
use Rattle.lua_heap.specs.declared.world.Func.{Func}
use Rattle.lua_heap.specs.declared.world.World.{World as Memory}
use Rattle.lua_heap.specs.Cells.{open_cells_in}
use Rattle.move_laws.specs.Memory.{ReadsSame}
use Rattle.lua_heap.proofs.Added.{code_there}
use Rattle.machine_loads.proofs.Loaded.{made_from, made_is, order_made, reads_same, room_made}
use Rattle.machine_loads.proofs.making.make_function.Goals as goal

pub returns-clause-made : goal.returns-clause-made
returns-clause-made c =
    let W = c.args.world.now in
    let ready : Memory = record W { cells = c.reserve.new.self; funcs = c.reserve-2.new.self } in
    let M = c.add_code.new.self in
    let F : Func = record { code = c.in_ok-code.code; cells = c.push_reserved.new.self } in
    let new : Memory = record M { cells = c.place-cell.new.self; funcs = c.place-function.new.self } in
    let a = c.in_ok-code.ensures.added in
    let same : ReadsSame W M = reads_same c.requires (room_made W c.reserve.new.self c.reserve-2.new.self c.reserve.ensures.objects c.reserve-2.ensures.objects) a.plain in
    let one : c.push_reserved.new.self.items ≡ record { 0 = c.place-cell.result } ∷ [] = search rules in
    let ids : map (λ (c : CellId). c.0) c.push_reserved.new.self.items ≡ length M.cells.objects ∷ [] = ap (map (λ (c : CellId). c.0)) one ∙ ap (λ n. n ∷ []) c.place-cell.ensures.place in
    made_from W M new c.args.code c.place-function.result same c.place-function.ensures.place (ap (λ (M : Memory). M.funcs.objects) a.rest ∙ c.reserve-2.ensures.objects)
    (λ fuel. made_is M new c.args.code F c.environment-environment.result fuel refl c.place-cell.ensures.appended.objects c.place-function.ensures.appended.objects
    (code_there ready M c.args.code c.in_ok-code.code.0 a c.in_ok-code.ensures.id) ids (c.environment-environment.ensures fuel))

pub returns-clause-order : goal.returns-clause-order
returns-clause-order c =
    let W = c.args.world.now in
    let M = c.add_code.new.self in
    let v = c.environment-environment.result in
    let a = c.in_ok-code.ensures.added in
    let before : M.cells.objects ≡ W.cells.objects = ap (λ (M : Memory). M.cells.objects) a.rest ∙ c.reserve.ensures.objects in
    order_made W M c.place-cell.new.self c.place-function.new.self v a.codes (ap (λ (M : Memory). M.coros) a.rest) (c.place-cell.ensures.appended.objects ∙ ap (λ cells. cells ++ Closed v ∷ []) before)
    ((c.cells_stay_listed.ensures W.cells.objects (map open_cells_in W.coros.objects) c.requires.order.listed).cell v)
