use Rattle.std.proofs.Common.{refl, sym, ◌∙◌}
use Rattle.lua_meaning.specs.Libraries.{primitive_values}
use Rattle.lua_opening.proofs.Told.{told, with_none}
use Rattle.lua_opening.proofs.tables.is_environment.Goals as goal

pub returns-in-Some : goal.returns-in-Some
returns-in-Some c = λ codes h. (λ e. absurd (cc), λ e. absurd (with_none c.args.strings.now c.args.held.now (sym c.metatable.ensures ∙ c.in-Some.is) codes h e))

pub has_rows-requires : goal.has_rows-requires
has_rows-requires c = refl

pub returns-in-None : goal.returns-in-None
unfolding primitive_values
returns-in-None c = told c.args.strings.now c.args.held.now c.has_rows.result (sym c.metatable.ensures ∙ c.in-None.is) c.has_rows.ensures refl
