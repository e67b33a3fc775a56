use Rattle.std.proofs.Common.{◌≡◌, ap, sym, subst, ◌∙◌}
use Rattle.std.specs.Prelude.{map}
use Rattle.machine_core.specs.Moves.{take_moving}
use Rattle.lua_heap.specs.declared.world.World.{World as Memory}
use Rattle.lua_heap.specs.Cells.{CellsAreListed}
use Rattle.lua_heap.specs.Reading.{value}
use Rattle.move_laws.specs.Memory.{Makes}
use Rattle.machine_errors.proofs.Answering.{still_runs}
use Rattle.machine_errors.proofs.protected.answer_with.Goals as goal

pub hand_over-requires : goal.hand_over-requires
hand_over-requires c = still_runs c.pop_frame.new.world c.give_values.ensures.rest c.pop_frame.ensures.running

pub returns-clause-answers : goal.returns-clause-answers
returns-clause-answers c =
    let old = c.args.world.now in
    let taken = c.take_moving.new.world in
    let left = c.pop_frame.new.world in
    let same : left.strings ≡ old.strings = ap (λ (W : Memory). W.strings) c.pop_frame.ensures.rest ∙ ap (λ (W : Memory). W.strings) c.take_moving.ensures.rest in
    record {
      taken = taken;
      left = left;
      takes = λ env. subst (λ items. Makes old taken take_moving env (map (value old.strings) items) tt) c.take_moving.ensures.values (c.take_moving.ensures.makes env);
      leaves = c.pop_frame.ensures.makes;
      gives = λ env xs e. c.give_values.ensures.all env xs (e ∙ ap (λ texts. map (value texts) c.args.answer.items) (sym same));
      gives_more = λ env xs slot e. c.give_values.ensures.more env xs slot (e ∙ ap (λ texts. map (value texts) c.args.answer.items) (sym same));
      hands = c.hand_over.ensures;
    }

pub returns-clause-listed : goal.returns-clause-listed
returns-clause-listed c = λ l.
    subst CellsAreListed (sym c.give_values.ensures.rest) (c.pop_frame.ensures.listed (subst CellsAreListed (sym c.take_moving.ensures.rest) l))
