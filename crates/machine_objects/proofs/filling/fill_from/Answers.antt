use Rattle.std.proofs.Common.{◌≡◌, [], ◌∷◌, ◌++◌, map, ap, refl, sym, rules}
use Rattle.std.specs.Prelude.{pos}
use Rattle.int_core.specs.Value.{object, a_table}
use Rattle.lua_heap.specs.Reading.{value as meant}
use Rattle.machine_core.specs.Text.{read, end_list, go_by}
use Rattle.machine_core.specs.InstructionRows.{then}
use Rattle.machine_core.specs.FrameRows.{expand}
use Rattle.machine_core.specs.Moves.{go}
use Rattle.move_laws.proofs.Kept.{order_kept, order_with_tables}
use Rattle.move_laws.proofs.Rows.{first, safe_after}
use Rattle.move_laws.proofs.Sounds.{sound_top}
use Rattle.machine_rows.proofs.Going.{goes_on, may_go}
use Rattle.machine_objects.specs.Filling.{puts}
use Rattle.machine_objects.proofs.Filled.{safe_listed, safe_filled, leads_listed, table_there, can_end, still_at}
use Rattle.machine_objects.proofs.filling.fill_from.Goals as goal

pub code_on_top-requires : goal.code_on_top-requires
code_on_top-requires c = let at = c.requires.stands.at in record { codes = c.requires.stands.sound.order.codes; frame = record { place = at.place; is = at.is; checked = (sound_top at.place c.requires.stands.sound at.is).checked } }

pub listed_values-requires-clause-safe : goal.listed_values-requires-clause-safe
listed_values-requires-clause-safe c = record { rest = λ v _. puts c.args.list.last (pos c.args.list.ahead) v; env = object a_table c.args.id.0 ∷ []; safe = c.requires.safe }

pub fill-requires-clause-frame : goal.fill-requires-clause-frame
fill-requires-clause-frame c = record { place = c.requires.stands.at.place; is = c.requires.stands.at.is }

pub fill-requires-clause-there : goal.fill-requires-clause-there
fill-requires-clause-there c =
    let W = c.args.world.now in
    let vs = c.listed_values.result.now in
    table_there W c.args.id.0 c.args.list.last (pos c.args.list.ahead) 1 (object a_table c.args.id.0 ∷ map (meant W.strings) vs) (record { place = c.requires.stands.at.place; is = c.requires.stands.at.is })
    (safe_listed W c.args.id.0 c.args.from c.args.list.count c.args.list.last c.args.list.ahead vs c.listed_values.ensures c.requires.safe) refl

pub end_list-requires : goal.end_list-requires
end_list-requires c =
    let size : c.from-size.result ≡ c.code_on_top.result.now.stack = search rules in
    can_end c.args.world.now c.fill.new.world c.code_on_top.result.now c.from-size.result c.requires.stands.sound c.requires.runs c.code_on_top.ensures size c.fill.ensures.rest

pub go_to-requires : goal.go_to-requires
go_to-requires c =
    let W = c.args.world.now in
    let vs = c.listed_values.result.now in
    let same : c.deref.result.now ≡ vs = search rules in
    let env = object a_table c.args.id.0 ∷ map (meant W.strings) vs in
    let m = c.in_ok-fill.ensures.makes env (read 0) 1 refl (ap (map (meant W.strings)) (sym same)) in
    let s = safe_filled W c.args.id.0 c.args.from c.args.list.count c.args.list.last c.args.list.ahead vs c.listed_values.ensures c.requires.safe c.fill.new.world m in
    may_go c.args.list.ahead (c.end_list.ensures.stays.at c.args.pc (still_at W c.fill.new.world c.args.pc c.fill.ensures.rest c.requires.stands.at)) refl (safe_after (λ _ _. expand (go_by (pos c.args.list.ahead))) s (c.end_list.ensures.makes (env ++ [])))

pub returns-clause-leads : goal.returns-clause-leads
returns-clause-leads c =
    let W = c.args.world.now in
    let vs = c.listed_values.result.now in
    let same : c.deref.result.now ≡ vs = search rules in
    let env = object a_table c.args.id.0 ∷ map (meant W.strings) vs in
    let m = c.in_ok-fill.ensures.makes env (read 0) 1 refl (ap (map (meant W.strings)) (sym same)) in
    leads_listed W c.go_to.new.world c.args.id.0 c.args.from c.args.list.count c.args.list.last c.args.list.ahead vs go c.listed_values.ensures
    (first (λ n _. expand (then end_list (go_by (pos c.args.list.ahead)))) m
    (first (λ _ _. expand (go_by (pos c.args.list.ahead))) (c.end_list.ensures.makes (env ++ []))
    (goes_on c.args.list.ahead (c.end_list.ensures.stays.at c.args.pc (still_at W c.fill.new.world c.args.pc c.fill.ensures.rest c.requires.stands.at)) refl c.go_to.ensures.makes _)))

pub returns-clause-order : goal.returns-clause-order
returns-clause-order c = order_kept (order_kept (order_with_tables c.requires.stands.sound.order c.fill.ensures.rest) c.end_list.ensures.stays.rest c.end_list.ensures.stays.listed) c.go_to.ensures.rest c.go_to.ensures.listed

pub returns-in_err-fill-clause-order : goal.returns-in_err-fill-clause-order
returns-in_err-fill-clause-order c = order_with_tables c.requires.stands.sound.order c.fill.ensures.rest
