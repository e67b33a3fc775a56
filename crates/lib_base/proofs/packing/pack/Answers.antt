use Rattle.std.proofs.Common.{rules, ◌≡◌, ◌∙◌, map}
use Rattle.library_rows.specs.Base.{packs}
use Rattle.lua_heap.specs.Reading.{value}
use Rattle.pure_functions.proofs.Interning.{as_before, changes_both, changes_strings, same_world}
use Rattle.lib_base.proofs.PackRows.{packed_told}
use Rattle.lib_base.proofs.packing.pack.Goals as goal

pub returns-in_err-name-clause-changes : goal.returns-in_err-name-clause-changes
returns-in_err-name-clause-changes c = changes_strings c.args.world.now c.string.new.world c.args.arguments.now c.string.ensures.kept

pub returns-in_err-table-clause-changes : goal.returns-in_err-table-clause-changes
returns-in_err-table-clause-changes c = changes_strings c.args.world.now c.string.new.world c.args.arguments.now c.string.ensures.kept

pub returns-in_err-id-clause-changes : goal.returns-in_err-id-clause-changes
returns-in_err-id-clause-changes c =
    let e : c.add_table.new.self ≡ c.string.new.world = search rules in
    changes_both c.args.world.now c.string.new.world c.add_table.new.self c.args.arguments.now c.string.ensures.kept (same_world c.string.new.world c.add_table.new.self e)

pub returns-clause-changes : goal.returns-clause-changes
returns-clause-changes c = changes_both c.args.world.now c.string.new.world c.add_table.new.self c.args.arguments.now c.string.ensures.kept c.in_ok-id.ensures.added.rest

pub returns-clause-answers : goal.returns-clause-answers
returns-clause-answers c =
    let mid = c.string.new.world in
    let new = c.add_table.new.self in
    let vs = map (value mid.strings) c.args.arguments.now in
    as_before packs c.args.world.now mid c.args.arguments.now c.string.ensures.kept
    ∙ packed_told mid new c.in_ok-table.table c.in_ok-id.id vs c.in_ok-id.ensures.added c.in_ok-id.ensures.id c.in_ok-table.ensures.rows c.in_ok-table.ensures.metatable
