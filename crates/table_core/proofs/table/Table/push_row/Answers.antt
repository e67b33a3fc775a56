use Rattle.std.proofs.Common.{sym, ◌∙◌}
use Rattle.table_core.proofs.BorderLemmas.{beside-grown, border-few, get-grown}
use Rattle.table_core.proofs.table.Table.push_row.Goals as goal

pub mended-self-inside-requires : goal.mended-self-inside-requires
mended-self-inside-requires c =
    record {
      beside = beside-grown c.self.inside.rows c.insert_last.new.self c.value-key.result c.args.value c.self.inside.border c.self.invariant.1 c.in_ok-insert_last.ensures.added;
      small = border-few c.self.inside.rows c.self.inside.border c.self.invariant.1 c.self.invariant.0.few;
      written = get-grown c.self.inside.rows c.insert_last.new.self c.value-key.result c.args.value (sym c.holds.ensures ∙ c.if-holds.false) c.in_ok-insert_last.ensures.added;
    }
