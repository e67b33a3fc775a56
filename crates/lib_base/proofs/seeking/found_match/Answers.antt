use Rattle.std.proofs.Common.{rules, ◌≡◌, ◌<◌, [], ◌∷◌, ap, sym, ◌∙◌, length, map, arith, subst}
use Rattle.std.proofs.lemmas.List.{length-map}
use Rattle.int_core.specs.Value.{known}
use Rattle.library_arguments.specs.Shapes.{known_of}
use Rattle.library_rows.specs.Look.{done, looked}
use Rattle.lib_string.specs.Searches.{gives_values}
use Rattle.table_core.specs.declared.value.Value.TheVariants.{Int, Table}
use Rattle.lua_heap.specs.Reading.{row, value}
use Rattle.pure_functions.specs.Answers.{MeanAll, OnlyStrings, heap_of}
use Rattle.lib_base.specs.Numbering.{numbered_rows}
use Rattle.pure_functions.proofs.Interning.{changes_both, changes_strings, same_heap, same_world, then_strings, whatever}
use Rattle.lib_base.proofs.SeekRows.{match_told}
use Rattle.lib_base.proofs.seeking.found_match.Goals as goal

pub returns-clause-changes : goal.returns-clause-changes
returns-clause-changes c =
    let W = c.args.world.now in
    let k = then_strings W c.values_of.new.world c.string.new.world c.args.arguments.now c.values_of.ensures.kept c.string.ensures.kept in
    changes_both W c.string.new.world c.add_table.new.self c.args.arguments.now k c.in_ok-id.ensures.added.rest

pub returns-clause-answers : goal.returns-clause-answers
returns-clause-answers c env =
    let W = c.args.world.now in
    let mid = c.string.new.world in
    let new = c.add_table.new.self in
    let found = c.args.found.now in
    let ps = map known_of found.values.items in
    let values = c.in_ok-values.values.items in
    let k : OnlyStrings W mid c.args.arguments.now = then_strings W c.values_of.new.world mid c.args.arguments.now c.values_of.ensures.kept c.string.ensures.kept in
    let mean : MeanAll c.values_of.new.world.strings values ps = search rules in
    let m : map (value mid.strings) values ≡ map known ps = ap (λ texts. map (value texts) values) c.string.ensures.kept.grown ∙ mean.means c.string.ensures.kept.more in
    let r : map (row mid.strings) c.in_ok-table.table.rows ≡ numbered_rows 0 (map (value mid.strings) values) = search rules in
    let n = length-map found.values.items known_of in
    let some = c.requires.some in
    let l : 0 < length ps = omega (arith, n, some) in
    let items : c.push_reserved-3.new.self.items ≡ Int found.start ∷ Int found.next ∷ Table c.in_ok-id.id ∷ [] = search rules in
    ap (λ H. looked (gives_values found.start found.next ps) env H) (same_heap W mid c.args.arguments.now k)
    ∙ match_told mid new c.in_ok-table.table c.in_ok-id.id found.start found.next ps l c.in_ok-id.ensures.added c.in_ok-id.ensures.id (r ∙ ap (numbered_rows 0) m) c.in_ok-table.ensures.metatable env
    ∙ ap (λ vs. done (heap_of new) (map (value new.strings) vs)) (sym items)

pub returns-in_err-values-clause-changes : goal.returns-in_err-values-clause-changes
returns-in_err-values-clause-changes c = changes_strings c.args.world.now c.values_of.new.world c.args.arguments.now c.values_of.ensures.kept

pub returns-in_err-name-clause-changes : goal.returns-in_err-name-clause-changes
returns-in_err-name-clause-changes c = changes_strings c.args.world.now c.string.new.world c.args.arguments.now (then_strings c.args.world.now c.values_of.new.world c.string.new.world c.args.arguments.now c.values_of.ensures.kept c.string.ensures.kept)

pub returns-in_err-name-clause-err : goal.returns-in_err-name-clause-err
returns-in_err-name-clause-err c = whatever c.from_residual-in_err-name.result (then_strings c.args.world.now c.values_of.new.world c.string.new.world c.args.arguments.now c.values_of.ensures.kept c.string.ensures.kept)

pub returns-in_err-table-clause-changes : goal.returns-in_err-table-clause-changes
returns-in_err-table-clause-changes c = changes_strings c.args.world.now c.string.new.world c.args.arguments.now (then_strings c.args.world.now c.values_of.new.world c.string.new.world c.args.arguments.now c.values_of.ensures.kept c.string.ensures.kept)

pub returns-in_err-table-clause-err : goal.returns-in_err-table-clause-err
returns-in_err-table-clause-err c = whatever c.from_residual-in_err-table.result (then_strings c.args.world.now c.values_of.new.world c.string.new.world c.args.arguments.now c.values_of.ensures.kept c.string.ensures.kept)

pub returns-in_err-results-clause-changes : goal.returns-in_err-results-clause-changes
returns-in_err-results-clause-changes c = changes_strings c.args.world.now c.string.new.world c.args.arguments.now (then_strings c.args.world.now c.values_of.new.world c.string.new.world c.args.arguments.now c.values_of.ensures.kept c.string.ensures.kept)

pub returns-in_err-results-clause-err : goal.returns-in_err-results-clause-err
returns-in_err-results-clause-err c = whatever c.from_residual-in_err-results.result (then_strings c.args.world.now c.values_of.new.world c.string.new.world c.args.arguments.now c.values_of.ensures.kept c.string.ensures.kept)

pub returns-in_err-id-clause-changes : goal.returns-in_err-id-clause-changes
returns-in_err-id-clause-changes c =
    let e : c.add_table.new.self ≡ c.string.new.world = search rules in
    changes_both c.args.world.now c.string.new.world c.add_table.new.self c.args.arguments.now (then_strings c.args.world.now c.values_of.new.world c.string.new.world c.args.arguments.now c.values_of.ensures.kept c.string.ensures.kept) (same_world c.string.new.world c.add_table.new.self e)

pub returns-in_err-id-clause-err : goal.returns-in_err-id-clause-err
returns-in_err-id-clause-err c =
    let e : c.add_table.new.self ≡ c.string.new.world = search rules in
    whatever c.from_residual-in_err-id.result (subst (λ V. OnlyStrings c.args.world.now V c.args.arguments.now) (sym e) (then_strings c.args.world.now c.values_of.new.world c.string.new.world c.args.arguments.now c.values_of.ensures.kept c.string.ensures.kept))
