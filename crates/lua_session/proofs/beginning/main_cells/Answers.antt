use Rattle.std.proofs.Common.{◌≡◌, ◌+◌, suc, [], ◌∷◌, ◌++◌, length, ap, sym, subst, ◌∙◌, arith}
use Rattle.std.specs.Prelude.{map}
use Rattle.std.proofs.lemmas.List.{map-append}
use Rattle.machine_runs.specs.Opening.{numbers}
use Rattle.table_core.specs.declared.value.CellId.{CellId}
use Rattle.lua_heap.specs.declared.world.Cell.TheVariants.{Closed}
use Rattle.lua_heap.specs.declared.world.World.{World as Memory}
use Rattle.lua_heap.specs.Cells.{AreListed, open_cells_in}
use Rattle.lua_session.specs.Beginning.{kept_cells}
use Rattle.lua_session.proofs.Cells.{numbers_more, kept_length}
use Rattle.lua_session.proofs.beginning.main_cells.Goals as goal

pub cells-preserved : goal.cells-preserved
cells-preserved c =
    let W = c.args.world.now in
    let V = c.cells.world in
    let N = c.add_cell.new.self in
    let a = c.in_ok-cell.ensures.added in
    let i = c.cells.invariant in
    let next : suc c.cells.place ≡ c.cells.place + 1 = omega arith in
    let number : c.in_ok-cell.cell.0 ≡ length W.cells.objects + c.cells.place = c.in_ok-cell.ensures.id ∙ ap length i.cells ∙ kept_length W.cells.objects W.globals c.cells.place in
    record {
      cells = a.objects ∙ ap (λ cells. cells ++ Closed c.outer_value.result ∷ []) i.cells
          ∙ ap (λ v. kept_cells W.cells.objects W.globals c.cells.place ++ Closed v ∷ []) c.outer_value.ensures ∙ ap (kept_cells W.cells.objects W.globals) next;
      ids = ap (map (λ (id : CellId). id.0)) c.in_ok-push.ensures.items ∙ map-append (λ (id : CellId). id.0) c.cells.ids.items (c.in_ok-cell.cell ∷ [])
          ∙ ap (λ l. l ++ c.in_ok-cell.cell.0 ∷ []) i.ids ∙ ap (λ n. numbers (length W.cells.objects) c.cells.place ++ n ∷ []) number ∙ numbers_more (length W.cells.objects) c.cells.place
          ∙ ap (numbers (length W.cells.objects)) next;
      listed = subst (λ cells. AreListed cells (map open_cells_in N.coros.objects)) (sym a.objects)
          (subst (AreListed (V.cells.objects ++ Closed c.outer_value.result ∷ [])) (sym (ap (λ (W : Memory). map open_cells_in W.coros.objects) a.rest))
          ((c.cells_stay_listed.ensures V.cells.objects (map open_cells_in V.coros.objects) i.listed).cell c.outer_value.result));
      rest = a.rest ∙ ap (λ (W : Memory). record W { cells = N.cells }) i.rest;
    }
