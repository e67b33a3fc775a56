use Rattle.std.proofs.Common.{rules, ◌≡◌, [], ◌++◌, ap, ◌∙◌}
use Rattle.std.specs.Prelude.{map}
use Rattle.int_core.specs.Value.{nth}
use Rattle.lua_heap.specs.Reading.{value}
use Rattle.machine_core.specs.FrameRows.{closing_row, then}
use Rattle.machine_core.specs.Moves.{set_error}
use Rattle.machine_core.specs.Text.{read}
use Rattle.move_laws.proofs.Rows.{first}
use Rattle.machine_coroutines.proofs.Closed.{still_closing}
use Rattle.machine_coroutines.proofs.Handed.{error_read}
use Rattle.machine_coroutines.proofs.finishing.close_on_error.Goals as goal

pub set_error-requires : goal.set_error-requires
set_error-requires c = still_closing c.take_moving.ensures.rest c.requires.closing

pub returns-clause-leads : goal.returns-clause-leads
returns-clause-leads c =
    let W = c.args.world.now in
    let f = value W.strings in
    let vs = map f c.take_moving.result.items in
    let moved : c.deref.result.now ≡ W.moving.items = search rules in
    let error : nth vs 0 ≡ f c.first_of-error.result = error_read f W.moving.items c.take_moving.result.items c.first_of-error.result c.take_moving.ensures.values (c.first_of-error.ensures W.strings ∙ ap (λ l. nth (map f l) 0) moved) in
    let taken : W.strings ≡ c.take_moving.new.world.strings = search rules in
    first (λ e _. then (set_error (read e)) closing_row) (c.take_moving.ensures.makes [])
    (first (λ _ _. closing_row) (c.set_error.ensures.makes vs (read 0) (error ∙ ap (λ texts. value texts c.first_of-error.result) taken)) (c.close_next.ensures.leads (vs ++ [])))
