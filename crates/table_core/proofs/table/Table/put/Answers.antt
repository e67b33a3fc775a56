use Rattle.std.proofs.Common.{◌∙◌, sym, ap, is_some}
use Rattle.std.proofs.lemmas.Map.Made.{is_some-lookup}
use Rattle.table_core.specs.Value.{value_eq}
use Rattle.table_core.proofs.BorderLemmas.{beside-replaced, border-few, get-replaced}
use Rattle.table_core.proofs.TableLemmas.{IsKept-set_value, tally-le, absent-by_lookup, set-present}
use Rattle.table_core.proofs.table.Table.put.Goals as goal

pub overflow_sub-self : goal.overflow_sub-self
overflow_sub-self c =
    let found = sym c.in-Some.ensures.was in
    rw c.nil_count.ensures (tally-le c.self.inside.rows c.self.inside.cleared (value_eq c.args.key) c.in-Some.was c.self.invariant.0 found)

pub mended-self-inside-requires : goal.mended-self-inside-requires
mended-self-inside-requires c =
    record {
      beside = beside-replaced c.self.inside.rows c.replace.new.self c.args.key c.args.value c.self.inside.border c.self.invariant.1 c.in-Some.ensures.now;
      small = border-few c.self.inside.rows c.self.inside.border c.self.invariant.1 c.self.invariant.0.few;
      written = get-replaced c.self.inside.rows c.replace.new.self c.args.key c.in-Some.was c.args.value (sym c.in-Some.ensures.was) c.in-Some.ensures.now;
    }

pub invariant_of-self : goal.invariant_of-self
invariant_of-self c =
    let found = sym c.in-Some.ensures.was in
    rw (c.in-Some.ensures.now, c.nil_count.ensures, c.nil_count-in-Some.ensures)
    (IsKept-set_value c.self.inside.rows c.self.inside.cleared (value_eq c.args.key) c.in-Some.was c.args.value c.self.invariant.0 found, rw c.in-Some.ensures.now at c.mended-self-inside.ensures)

pub returns-in-Some-clause-there : goal.returns-in-Some-clause-there
returns-in-Some-clause-there c =
    rw (← c.self.view_is) (ap is_some c.in-Some.ensures.was ∙ is_some-lookup (value_eq c.args.key) c.self.inside.rows)

pub returns-in-Some-clause-set : goal.returns-in-Some-clause-set
returns-in-Some-clause-set c = λ yes.
    rw (← c.self.view_is) (c.in-Some.ensures.now ∙ sym (set-present c.self.inside.rows c.args.key c.in-Some.was c.args.value (sym c.in-Some.ensures.was)))

pub returns-in-None-clause-there : goal.returns-in-None-clause-there
returns-in-None-clause-there c =
    rw (← c.self.view_is) (sym (absent-by_lookup c.self.inside.rows c.args.key (sym c.in-None.ensures.was)))
