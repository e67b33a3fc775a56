use Rattle.std.proofs.Common.{◌∙◌, length, refl, subst}
use Rattle.library_rows.specs.Library.{all_entries}
use Rattle.io_edge.specs.Content.{GrowsByFront}
use Rattle.lua_stack.proofs.Called.{on_err}
use Rattle.machine_moves.specs.Ending.{ending_of}
use Rattle.loaded_code.specs.Laws.{library}
use Rattle.source_builds.proofs.Knowing.{read_all, read_map}
use Rattle.lua_feed.proofs.Fed.{front_of_turn, front_unwritten, only_front, only_same}
use Rattle.lua_feed.proofs.Texts.{moving_have_texts}
use Rattle.lua_feed.proofs.writing.write_turn.Goals as goal

pub text_of_turn-requires : goal.text_of_turn-requires
text_of_turn-requires g c = moving_have_texts c.strings_are_there.ensures (length all_entries) c.turn.new.world c.in_ok-ending.ensures.sound

pub returns-in_err-ending-clause-front : goal.returns-in_err-ending-clause-front
returns-in_err-ending-clause-front g c = on_err _ c.from_residual.result (read_all (λ builds are. front_unwritten (library builds) c.args.budget c.args.world.now _ _ refl))

pub returns-in_err-ending-clause-grows : goal.returns-in_err-ending-clause-grows
returns-in_err-ending-clause-grows g c = on_err _ c.from_residual.result (only_same (g.K.Sink.written c.args.out.now) _ refl)

pub returns-in_err-text-clause-front : goal.returns-in_err-text-clause-front
returns-in_err-text-clause-front g c = on_err _ c.from_residual-in_err-text.result (read_all (λ builds are. front_unwritten (library builds) c.args.budget c.args.world.now _ _ refl))

pub returns-in_err-text-clause-grows : goal.returns-in_err-text-clause-grows
returns-in_err-text-clause-grows g c = on_err _ c.from_residual-in_err-text.result (only_same (g.K.Sink.written c.args.out.now) _ refl)

pub returns-in_err-write_all-clause-front : goal.returns-in_err-write_all-clause-front
returns-in_err-write_all-clause-front g c =
    let before = g.K.Sink.written c.args.out.now in
    let after = g.K.Sink.written c.write_all.new.out in
    on_err _ c.from_residual-in_err-write_all.result
    (read_map (λ builds are t. front_of_turn (library builds) c.args.budget c.args.world.now c.turn.new.world before after (ending_of c.in_ok-ending.ending) t c.in_ok-ending.ensures.ends
    (subst (λ text. GrowsByFront text before after) (c.as_slice.ensures.value ∙ c.in_ok-text.ensures) c.in_err-write_all.ensures.front)) c.in_ok-ending.ensures.turns)

pub returns-in_err-write_all-clause-grows : goal.returns-in_err-write_all-clause-grows
returns-in_err-write_all-clause-grows g c =
    on_err _ c.from_residual-in_err-write_all.result (only_front c.as_slice.result.now (g.K.Sink.written c.args.out.now) (g.K.Sink.written c.write_all.new.out) c.in_err-write_all.ensures.front)

pub returns-clause-waits : goal.returns-clause-waits
returns-clause-waits g c = λ yielded. record { sound = c.in_ok-ending.ensures.sound; order = c.in_ok-ending.ensures.order; may = c.in_ok-ending.ensures.waits yielded }
