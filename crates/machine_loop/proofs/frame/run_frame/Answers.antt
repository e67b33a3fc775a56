use Rattle.std.proofs.Common.{◌∙◌, refl}
use Rattle.machine_arms_tables.specs.Frame.{moment}
use Rattle.machine_loop.proofs.Nearer.{nearer}
use Rattle.machine_loop.proofs.Recalled.{still_hold}
use Rattle.machine_loop.proofs.frame.run_frame.Goals as goal

pub rounds-init : goal.rounds-init
rounds-init g c = record { ready = c.requires.0; opened = refl; runs = (0, refl) }

pub go_on-requires : goal.go_on-requires
go_on-requires g c =
    (c.rounds.invariant.ready, still_hold g.g.around c.args.closure.upvalues.now c.args.cells.now.objects c.rounds.cells.objects c.rounds.invariant.opened c.args.memo.now c.requires.1)

pub rounds-smaller : goal.rounds-smaller
rounds-smaller g c =
    nearer c.steps_fall.ensures g.g (moment c.rounds.tables.objects c.rounds.cells.objects c.rounds.registers c.rounds.pc c.rounds.fuel) _ c.in-Some.ensures.once.one

pub rounds-preserved : goal.rounds-preserved
rounds-preserved g c =
    let s = c.in-Some.ensures.once.steps in
    record {
      ready = s.ready;
      opened = c.rounds.invariant.opened ∙ s.opened;
      runs = s.runs (moment c.args.tables.now.objects c.args.cells.now.objects c.args.registers.now c.args.start c.args.fuel.now) c.rounds.invariant.runs;
    }
