use Rattle.std.proofs.Common.{take, refl, sym, subst, ◌∙◌}
use Rattle.library_rows.specs.Library.{of_globals, of_coroutine, of_string, of_table, of_math, of_utf8}
use Rattle.lua_meaning.specs.Libraries.{constant_values, primitive_values}
use Rattle.lua_meaning.specs.Opening.{prelude_of}
use Rattle.lua_opening.specs.Opened.{AreTables, tables_of}
use Rattle.lua_opening.proofs.Filling.{begins_on, one_more, tables_are}
use Rattle.lua_opening.proofs.Names.{library_is}
use Rattle.lua_opening.proofs.Surroundings.{environment_written}
use Rattle.lua_opening.proofs.tables.add_tables.Goals as goal

pub returns-clause-strings : goal.returns-clause-strings
returns-clause-strings c =
    begins_on _ _ _ (begins_on _ _ _ (begins_on _ _ _ (begins_on _ _ _ (begins_on _ _ _ (begins_on _ _ _ (begins_on _ _ _ c.in_ok-add_table.ensures.added.strings c.in_ok-add_table-2.ensures.added.strings) c.in_ok-add_table-3.ensures.added.strings) c.in_ok-add_table-4.ensures.added.strings) c.in_ok-add_table-5.ensures.added.strings) c.in_ok-add_table-6.ensures.added.strings) c.in_ok-add_table-7.ensures.added.strings) c.in_ok-add_table-8.ensures.added.strings

pub returns-clause-tables : goal.returns-clause-tables
unfolding constant_values primitive_values
returns-clause-tables c codes h =
    let all = tables_of (prelude_of codes) in
    let none = subst (λ ts. AreTables c.args.strings.now ts (take 0 all)) (sym (c.in_ok-reserve.ensures.objects ∙ c.requires)) tt in
    let globals = one_more (take 0 all) none c.in_ok-add_table.ensures.added (library_is of_globals codes h ∙ refl) in
    let env = one_more (take 1 all) globals c.in_ok-add_table-2.ensures.added (environment_written codes h) in
    let coroutines = one_more (take 2 all) env c.in_ok-add_table-3.ensures.added (library_is of_coroutine codes h ∙ refl) in
    let strings = one_more (take 3 all) coroutines c.in_ok-add_table-4.ensures.added (library_is of_string codes h ∙ refl) in
    let tables = one_more (take 4 all) strings c.in_ok-add_table-5.ensures.added (library_is of_table codes h ∙ refl) in
    let integers = one_more (take 5 all) tables c.in_ok-add_table-6.ensures.added (library_is of_math codes h ∙ refl) in
    let characters = one_more (take 6 all) integers c.in_ok-add_table-7.ensures.added (library_is of_utf8 codes h ∙ refl) in
    let meta = one_more (take 7 all) characters c.in_ok-add_table-8.ensures.added (refl) in
    tables_are c.tables_are_read.ensures c.add_table-8.new.strings c.len.ensures.apart c.len.ensures.short c.add_table-8.new.tables.objects all meta
