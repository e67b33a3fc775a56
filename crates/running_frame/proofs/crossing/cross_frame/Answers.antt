use Rattle.std.proofs.Common.{sym, ap, ◌∙◌}
use Rattle.lua_heap.specs.Reading.{value}
use Rattle.running_frame.specs.Here.{is_none}
use Rattle.running_frame.proofs.Advanced.{advances_none}
use Rattle.running_frame.proofs.Places.{none_is}
use Rattle.running_frame.proofs.crossing.cross_frame.Goals as goal

pub returns-then-not-runs : goal.returns-then-not-runs
returns-then-not-runs g c = advances_none g.g c.args.stack.now c.args.tables.now.objects c.args.cells.now.objects c.args.budget.now

pub run_and_cross-requires : goal.run_and_cross-requires
run_and_cross-requires g c =
    let m = c.requires.0 in
    let v = value g.g.around.texts in
    let below = g.g.around.context.below in
    let runs = none_is m.top.wait (sym (c.is_none-runs.ensures g.g.around.texts ∙ ap is_none (c.wait.ensures v below m.top m.is)) ∙ c.if-not-runs.false) in (
      record { may = m; runs = runs; at_pc = sym (c.pc-start.ensures v below m.top m.is) },
      c.requires.1,
    )
