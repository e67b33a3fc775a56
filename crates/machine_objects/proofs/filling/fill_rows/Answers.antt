use Rattle.std.proofs.Common.{◌≡◌, ◌∙◌, ◌+◌, ◌<◌, ℕ, List, [], arith, ap, drop, length, refl, rules, sym}
use Rattle.std.proofs.lemmas.List.{drop_all}
use Rattle.std.proofs.lemmas.Option.{slice_get-get_or}
use Rattle.std.specs.Prelude.{get_or}
use Rattle.table_core.specs.declared.value.Value.{Value as Kept}
use Rattle.table_core.specs.declared.value.Value.TheVariants.{Nil}
use Rattle.machine_objects.specs.Filling.{filled_rows}
use Rattle.machine_objects.proofs.Filled.{filled_one}
use Rattle.machine_objects.proofs.filling.fill_rows.Goals as goal

pub loop-v-init : goal.loop-v-init
loop-v-init c = record { at = omega arith; rows = refl; metatable = refl }

pub loop-v-preserved : goal.loop-v-preserved
loop-v-preserved c =
    let i : ℕ = c.loop-v.v-index in
    let vs = c.args.values.now in
    let within : i < length vs = search rules in
    let n : c.in_ok-index.index ≡ c.loop-v.index + 1 = search rules in
    let a = c.loop-v.invariant.at in
    record {
      at = omega (arith, n, a);
      rows = filled_one c.loop-v.index c.in_ok-index.index vs i (get_or vs i Nil) c.in_ok-key.key c.loop-v.table.rows c.set.new.self.rows _ n (slice_get-get_or vs i Nil within) c.in_ok-key.ensures c.in_ok-set.ensures.ok c.loop-v.invariant.rows;
      metatable = c.set.ensures.metatable ∙ c.loop-v.invariant.metatable;
    }

pub returns-clause-rows : goal.returns-clause-rows
returns-clause-rows c =
    let i : ℕ = c.loop-v.v-index in
    let vs = c.args.values.now in
    let none : drop i vs ≡ [] = drop_all i vs c.loop-v-test.false in
    sym (ap (λ (l : List Kept). filled_rows c.loop-v.index l c.loop-v.table.rows) none) ∙ c.loop-v.invariant.rows

pub returns-clause-metatable : goal.returns-clause-metatable
returns-clause-metatable c = c.loop-v.invariant.metatable

pub returns-in_err-index-clause-metatable : goal.returns-in_err-index-clause-metatable
returns-in_err-index-clause-metatable c = c.loop-v.invariant.metatable

pub returns-in_err-key-clause-metatable : goal.returns-in_err-key-clause-metatable
returns-in_err-key-clause-metatable c = c.loop-v.invariant.metatable

pub returns-in_err-set-clause-metatable : goal.returns-in_err-set-clause-metatable
returns-in_err-set-clause-metatable c = c.set.ensures.metatable ∙ c.loop-v.invariant.metatable
