use Rattle.std.proofs.Common.{refl, ap, sym, subst, ◌∙◌, arith}
use Rattle.code_core.specs.Prototype.{list_of}
use Rattle.lua_heap.specs.declared.world.World.{World as Memory}
use Rattle.lua_heap.specs.Codes.{AreCodes}
use Rattle.lua_opening.specs.Functions.{AddsFunctions}
use Rattle.lua_opening.proofs.Constants.{codes_still}
use Rattle.lua_opening.proofs.Worlds.{opening_is, listed_is, no_functions, no_names, no_cell}
use Rattle.lua_opening.proofs.opening.furnish.Goals as goal

pub add_functions-requires : goal.add_functions-requires
add_functions-requires c =
    let first : Memory = c.args.world.now in
    let same = c.in_ok-environment.ensures.added.rest in
    record {
      codes = subst (λ (W : Memory). AreCodes W.strings W.codes) (sym same) c.requires.codes;
      few = let n = c.requires.prelude in omega (arith, n);
      none = ap (λ (W : Memory). W.funcs.objects) same ∙ no_functions first c.requires.opened;
      unnamed = ap (λ (W : Memory). W.prelude.funcs.items) same ∙ no_names first c.requires.opened;
    }

added : (c : goal.After-world-1) → AddsFunctions c.add_cell.new.self c.add_functions.new.world 0 (list_of c.args.prelude.inner)
added c = subst (λ n. AddsFunctions c.add_cell.new.self c.add_functions.new.world n (list_of c.args.prelude.inner)) (c.in_ok-environment.ensures.id ∙ no_cell c.args.world.now c.requires.opened) c.in_ok-add_functions.ensures

pub returns-clause-plain : goal.returns-clause-plain
returns-clause-plain c fuel =
    opening_is c.args.world.now c.add_cell.new.self c.add_functions.new.world (list_of c.args.prelude.inner) c.library_tables.new.strings c.in_ok-world.field-0 (record { 0 = 7 }) c.requires.opened
    c.in_ok-environment.ensures.added (added c) c.in_ok-world.ensures.strings c.requires.prelude refl (c.in_ok-world.ensures.tables (list_of c.args.prelude.inner) c.requires.prelude) fuel

pub returns-clause-codes : goal.returns-clause-codes
returns-clause-codes c =
    let b = c.in_ok-world.ensures.strings in
    subst (λ texts. AreCodes texts c.add_functions.new.world.codes) (sym b.is) (codes_still c.add_functions.new.world.strings b.more c.add_functions.new.world.codes (added c).extends.codes)

pub returns-clause-listed : goal.returns-clause-listed
returns-clause-listed c =
    listed_is c.args.world.now c.add_cell.new.self c.add_functions.new.world (list_of c.args.prelude.inner) c.library_tables.new.strings c.in_ok-world.field-0 (record { 0 = 7 }) c.requires.opened
    c.in_ok-environment.ensures.added (added c) c.in_ok-world.ensures.strings
