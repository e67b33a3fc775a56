use Rattle.std.proofs.Common.{rules, ◌≡◌, [], ap, subst, ◌∙◌}
use Rattle.std.specs.Prelude.{map}
use Rattle.lua_heap.specs.declared.world.World.{World as Memory}
use Rattle.lua_heap.specs.Plain.{plain}
use Rattle.lua_heap.specs.Reading.{value as meant}
use Rattle.machine_core.specs.InstructionRows.{fails}
use Rattle.machine_core.specs.FrameRows.{goes_on_by}
use Rattle.move_laws.specs.Memory.{Leads}
use Rattle.move_laws.proofs.Rows.{first}
use Rattle.machine_moves.specs.Ending.{ending_of}
use Rattle.machine_returns.proofs.Woken.{moved, still_framed}
use Rattle.machine_returns.proofs.Tops.{taken_solid}
use Rattle.machine_returns.proofs.failing.unwind_function.Goals as goal

pub fail_with-requires : goal.fail_with-requires
fail_with-requires c =
    record {
      solid = taken_solid c.args.world.now c.take_moving-moved.new.world _ (c.take_moving-moved.ensures.makes []) c.take_moving-moved.ensures.rest c.requires.solid;
      frame = still_framed (c.take_moving-moved.ensures.makes []) c.requires.frame;
    }

pub returns-in-Ok-clause-leads : goal.returns-in-Ok-clause-leads
returns-in-Ok-clause-leads c =
    let W = c.args.world.now in
    let taken = c.take_moving-moved.new.world in
    let came = c.take_moving-moved.result.items in
    let texts : taken.strings ≡ W.strings = ap (λ (W : Memory). W.strings) c.take_moving-moved.ensures.rest in
    let items : c.deref.result.now ≡ came = search rules in
    let same = ap (λ texts. map (meant texts) c.deref.result.now) texts ∙ ap (map (meant W.strings)) items in
    first (λ _ _. goes_on_by fails) (c.take_moving-moved.ensures.makes []) (subst (λ env. Leads (goes_on_by fails) env taken c.fail_with.new.world (ending_of c.in-Ok.ending)) same c.in-Ok.ensures.leads)

pub returns-in-Err-clause-err : goal.returns-in-Err-clause-err
returns-in-Err-clause-err c =
    let W = c.args.world.now in
    let back = c.take_moving-moved.result in
    record {
      is = λ fuel.
          ap (λ (V : Memory). plain (record V { moving = back }) fuel) (c.in-Err.ensures.err ∙ c.take_moving-moved.ensures.rest)
          ∙ ap (λ items. moved (plain W fuel) (map (meant W.strings) items)) c.take_moving-moved.ensures.values;
    }
