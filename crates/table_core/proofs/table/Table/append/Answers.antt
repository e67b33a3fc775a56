use Rattle.std.proofs.Common.{◌≡◌, false, filter, ◌-◌, ◌<◌, ◌≤◌, length, ◌∙◌, ap, ◌++◌, ◌∷◌, [], sym, arith}
use Rattle.int_core.specs.Rows.{has_row, is_filled, kept}
use Rattle.table_core.specs.Value.{lua_values}
use Rattle.table_core.proofs.BorderLemmas.{beside-grown, border-few, get-grown}
use Rattle.table_core.proofs.TableLemmas.{kept-crowded, kept-roomy}
use Rattle.table_core.proofs.table.Table.append.Goals as goal

pub mended-self-inside-requires : goal.mended-self-inside-requires
mended-self-inside-requires c =
    let absent : has_row lua_values c.self.inside.rows c.args.key ≡ false = rw (← c.self.view_is) at c.requires.absent in
    record {
      beside = beside-grown c.self.inside.rows c.insert_last.new.self c.args.key c.args.value c.self.inside.border c.self.invariant.1 c.in_ok-insert_last.ensures.added;
      small = border-few c.self.inside.rows c.self.inside.border c.self.invariant.1 c.self.invariant.0.few;
      written = get-grown c.self.inside.rows c.insert_last.new.self c.args.key c.args.value absent c.in_ok-insert_last.ensures.added;
    }

pub returns-then-len-self-clause-ok : goal.returns-then-len-self-clause-ok
returns-then-len-self-clause-ok c =
    let rows = c.self.inside.rows in
    let crowded : length rows - c.self.inside.cleared < c.self.inside.cleared = omega (arith, c.len.ensures.len, c.if-len-self.true) in
    let is : kept lua_values c.args.self.now.rows ≡ filter (is_filled lua_values) c.args.self.now.rows = rw (← c.self.view_is) (kept-crowded rows c.self.inside.cleared c.self.invariant.0 crowded) in
    rw is c.append_dropping.ensures.ok

pub returns-clause-ok : goal.returns-clause-ok
returns-clause-ok c =
    let rows = c.self.inside.rows in
    let roomy : c.self.inside.cleared ≤ length rows - c.self.inside.cleared = omega (arith, c.len.ensures.len, c.if-len-self.false) in
    rw (← c.self.view_is)
    (c.in_ok-insert_last.ensures.added ∙ ap (λ rs. rs ++ (c.args.key, c.args.value) ∷ []) (sym (kept-roomy rows c.self.inside.cleared c.self.invariant.0 roomy)))
