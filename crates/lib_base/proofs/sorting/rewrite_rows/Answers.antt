use Rattle.std.proofs.Common.{rules, ◌≡◌, ◌+◌, ◌<◌, ◌≤◌, get_or, drop, length, ap, sym, subst, ◌∙◌}
use Rattle.std.specs.Prelude.{pos}
use Rattle.std.proofs.lemmas.List.{drop_all}
use Rattle.int_core.specs.Rows.{set}
use Rattle.table_core.specs.Value.{lua_values}
use Rattle.table_core.specs.declared.value.Value.TheVariants.{Int, Nil}
use Rattle.lib_base.specs.Sorting.{HasPlaces, rows_put}
use Rattle.lib_base.proofs.Rewriting.{one_put, places_after}
use Rattle.lib_base.proofs.sorting.rewrite_rows.Goals as goal

pub loop-at-preserved : goal.loop-at-preserved
loop-at-preserved c =
    let at = c.loop-at.at in
    let values = c.args.values.now in
    let v = get_or values at Nil in
    let i = c.loop-at.invariant in
    let h : at < length values = search rules in
    let there = i.0 at h in
    let f : c.set_integer.new.self.rows ≡ set lua_values c.loop-at.table.rows (Int (pos (at + 1))) v = search rules in (
      subst (λ rows. HasPlaces rows (length values)) (sym f) (places_after c.loop-at.table.rows (length values) at v i.0 h),
      ap (λ rows. rows_put rows (at + 1 + 1) (drop (at + 1) values)) f ∙ one_put c.loop-at.table.rows at values v h (search rules) ∙ i.1,
      c.set_integer.ensures.metatable ∙ i.2,
    )

pub returns-clause-rows : goal.returns-clause-rows
returns-clause-rows c =
    let h : length c.args.values.now ≤ c.loop-at.at = search rules in
    sym (ap (rows_put c.loop-at.table.rows (c.loop-at.at + 1)) (drop_all c.loop-at.at c.args.values.now h)) ∙ c.loop-at.invariant.1
