use Rattle.std.proofs.Common.{rules, ◌≡◌, ℕ, List, true, false, map, length, sym, subst, ◌∙◌, true≢false}
use Rattle.machine_runs.specs.Opening.{numbers}
use Rattle.table_core.specs.declared.value.FuncId.{FuncId}
use Rattle.lua_saving.proofs.Made.{counted, made, other_number, other_names, other_table, other_cell, not_apart}
use Rattle.lua_saving.proofs.prelude.has_prelude.Goals as goal

pub returns-then-world-ne-ENVIRONMENT-clause-touched : goal.returns-then-world-ne-ENVIRONMENT-clause-touched
returns-then-world-ne-ENVIRONMENT-clause-touched c = λ _.
    let count : ℕ = length c.functions-count.result.now in
    other_number c.args.world.now count (counted c.functions-count.result.now c.functions-count.ensures) c.if-world-ne-ENVIRONMENT.true

pub returns-then-not-are_numbered-clause-touched : goal.returns-then-not-are_numbered-clause-touched
returns-then-not-are_numbered-clause-touched c = λ _.
    let count : ℕ = length c.functions-count.result.now in
    let other : c.are_numbered.result ≡ false = search rules in
    other_names c.args.world.now count (counted c.functions-count.result.now c.functions-count.ensures)
    (λ e. true≢false (sym (c.are_numbered.ensures.1 (subst (λ (ids : List FuncId). map (λ (f : FuncId). f.0) ids ≡ numbers 0 count) (sym c.as_slice.ensures.value) e)) ∙ other))

pub returns-then-not-has_environment-clause-touched : goal.returns-then-not-has_environment-clause-touched
returns-then-not-has_environment-clause-touched c = λ _.
    let count : ℕ = length c.functions-count.result.now in
    let other : c.has_environment.result ≡ false = search rules in
    other_table c.args.world.now count (counted c.functions-count.result.now c.functions-count.ensures) (λ codes n e. true≢false (sym ((c.has_environment.ensures codes n).1 e) ∙ other))

pub returns-then-not-has_cell-clause-touched : goal.returns-then-not-has_cell-clause-touched
returns-then-not-has_cell-clause-touched c = λ _.
    let count : ℕ = length c.functions-count.result.now in
    let other : c.has_cell.result ≡ false = search rules in
    other_cell c.args.world.now count (counted c.functions-count.result.now c.functions-count.ensures) (λ e. true≢false (sym (c.has_cell.ensures.1 e) ∙ other))

pub returns-clause-touched : goal.returns-clause-touched
returns-clause-touched c = λ h.
    let count : ℕ = length c.functions-count.result.now in
    not_apart c.args.world.now count (counted c.functions-count.result.now c.functions-count.ensures) (sym c.are_apart.ensures ∙ h)

pub returns-clause-made : goal.returns-clause-made
returns-clause-made c = λ h.
    let count : ℕ = length c.functions-count.result.now in
    let numbered : c.are_numbered.result ≡ true = search rules in
    let table : c.has_environment.result ≡ true = search rules in
    let cell : c.has_cell.result ≡ true = search rules in
    made c.args.world.now count (counted c.functions-count.result.now c.functions-count.ensures) c.if-world-ne-ENVIRONMENT.false
    (subst (λ (ids : List FuncId). map (λ (f : FuncId). f.0) ids ≡ numbers 0 count) c.as_slice.ensures.value (c.are_numbered.ensures.0 numbered))
    (λ codes n. (c.has_environment.ensures codes n).0 table) (c.has_cell.ensures.0 cell) (sym c.are_apart.ensures ∙ h)
