use Rattle.std.proofs.Common.{◌≡◌, ap, sym, subst, ◌∙◌}
use Rattle.std.specs.Prelude.{map, slice_get}
use Rattle.int_core.specs.Value.{last}
use Rattle.machine_sound.proofs.Lists.{some_is}
use Rattle.table_core.specs.declared.value.CoroId.{CoroId}
use Rattle.lua_heap.specs.declared.world.World.{World as Memory}
use Rattle.lua_heap.specs.Cells.{AreListed, open_cells_in}
use Rattle.move_laws.proofs.Running.{has_stack}
use Rattle.machine_calls.proofs.Left.{closed_is, still_there, drops_so}
use Rattle.machine_calls.proofs.leaving.drop_frame.Goals as goal

pub running-co-requires : goal.running-co-requires
running-co-requires c = has_stack c.args.world.now c.requires.frame.place c.requires.frame.is

pub pop_closed-requires : goal.pop_closed-requires
pop_closed-requires c =
    let W = c.args.world.now in
    let B = c.close_cells.new.self in
    let p = c.requires.frame.place in
    let r = c.running-co.ensures in
    record {
      place = p;
      is = still_there W B p c.requires.frame.is (closed_is W B c.running-co.result r.stack p 0 r.runs c.requires.frame.is (c.close_cells.ensures.closed 0));
      none = λ co s q.
          let same : co ≡ c.running-co.result = some_is q.chain (ap (λ (W : Memory). last W.chain.items) c.close_cells.ensures.rest ∙ r.runs.chain) in
          c.close_cells.ensures.none s (ap (λ (co : CoroId). slice_get B.coros.objects co.0) (sym same) ∙ q.there);
    }

pub returns-clause-drops : goal.returns-clause-drops
returns-clause-drops c =
    let W = c.args.world.now in
    let B = c.close_cells.new.self in
    let C = c.pop_closed.new.world in
    let r = c.running-co.ensures in
    record {
      is = λ at e fuel. drops_so W B C at e (λ fuel. closed_is W B c.running-co.result r.stack at fuel r.runs e (c.close_cells.ensures.closed fuel)) c.pop_closed.ensures.makes fuel;
    }

pub returns-clause-listed : goal.returns-clause-listed
returns-clause-listed c =
    let B = c.close_cells.new.self in
    subst (λ cells. AreListed cells (map open_cells_in c.pop_closed.new.world.coros.objects)) (sym (ap (λ (W : Memory). W.cells.objects) c.pop_closed.ensures.rest))
    (subst (λ lists. AreListed B.cells.objects lists) (sym c.pop_closed.ensures.listed) c.close_cells.ensures.listed)
