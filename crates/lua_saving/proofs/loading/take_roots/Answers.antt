use Rattle.std.proofs.Common.{rules, ◌≡◌, length, to_z, of_z, w64, Some, true, false, arith}
use Rattle.std.specs.Prelude.{slice_get}
use Rattle.table_core.specs.declared.value.Value.TheVariants.{Nil}
use Rattle.lua_saving.specs.Roots.{has_yielded}
use Rattle.lua_saving.proofs.Taken.{roots_among, main_there, none_waits, takes}
use Rattle.lua_saving.proofs.loading.take_roots.Goals as goal

pub get-requires : goal.get-requires
get-requires c =
    let vs = c.args.values.now in
    let five : length vs ≡ 5 = omega (arith, c.in-len5.len_at_least, c.in-len5.len_below) in
    let roots : roots_among vs Nil ≡ Some c.in-Some.roots = search rules in
    main_there c.args.world.now vs Nil c.in-Some.roots five roots c.requires.there

pub returns-then-not-has_yielded-clause-none : goal.returns-then-not-has_yielded-clause-none
returns-then-not-has_yielded-clause-none c = λ _.
    let vs = c.args.values.now in
    let five : length vs ≡ 5 = omega (arith, c.in-len5.len_at_least, c.in-len5.len_below) in
    let roots : roots_among vs Nil ≡ Some c.in-Some.roots = search rules in
    let there : slice_get c.args.world.now.coros.objects c.in-Some.roots.main.0 ≡ Some c.get.result.now = search rules in
    let no : has_yielded c.get.result.now ≡ false = search rules in
    none_waits c.args.world.now vs Nil c.in-Some.roots c.get.result.now five roots there no

pub returns-clause-taken : goal.returns-clause-taken
returns-clause-taken c = λ _.
    let vs = c.args.values.now in
    let five : length vs ≡ 5 = omega (arith, c.in-len5.len_at_least, c.in-len5.len_below) in
    let roots : roots_among vs Nil ≡ Some c.in-Some.roots = search rules in
    let there : slice_get c.args.world.now.coros.objects c.in-Some.roots.main.0 ≡ Some c.get.result.now = search rules in
    let yes : has_yielded c.get.result.now ≡ true = search rules in
    let depth : to_z w64 (of_z w64 c.in-Some.roots.maxrec) ≡ c.in-Some.roots.maxrec = search rules in
    takes c.args.world.now vs Nil c.in-Some.roots c.get.result.now (to_z w64 (of_z w64 c.in-Some.roots.maxrec)) depth five roots there yes
