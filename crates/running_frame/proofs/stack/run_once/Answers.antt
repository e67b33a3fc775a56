use Rattle.std.proofs.Common.{◌≡◌, rules, sym}
use Rattle.lua_heap.specs.Reading.{value}
use Rattle.running_frame.proofs.OnStack.{loop_ready, round_reaches, round_runs, stays_so}
use Rattle.running_frame.proofs.stack.run_once.Goals as goal

pub run_frame-pc-requires : goal.run_frame-pc-requires
run_frame-pc-requires g c =
    let x = c.requires.0 in
    let m = x.may in
    let v = value g.g.around.texts in
    let below = g.g.around.context.below in (
      rw (c.closure_of-closure.ensures.words, c.closure_of-closure.ensures.constants, c.closure_of-closure.ensures.upvalues)
          (loop_ready g.g _ _ _ _ _ m c.registers_mut-registers.result.now c.args.start x.runs (sym x.at_pc) (c.registers_mut-registers.ensures.registers v below m.top m.is)),
      rw c.closure_of-closure.ensures.upvalues c.requires.1,
    )

pub set_pc-requires : goal.set_pc-requires
set_pc-requires g c = stays_so c.requires.0 c.registers_mut-registers.result.now c.run_frame-pc.new.registers c.registers_mut-registers.ensures.registers c.run_frame-pc.auto.registers

pub returns-clause-goes : goal.returns-clause-goes
returns-clause-goes g c =
    let listed : c.set_pc.new.self.open_cells ≡ c.args.stack.now.open_cells = search rules in
    record {
      reaches =
          round_reaches c.requires.0 c.registers_mut-registers.result.now c.run_frame-pc.new.registers c.registers_mut-registers.ensures.registers c.run_frame-pc.auto.registers
          c.set_pc.new.self c.run_frame-pc.new.tables.objects c.run_frame-pc.new.cells.objects c.run_frame-pc.result c.run_frame-pc.new.fuel c.set_pc.ensures c.run_frame-pc.ensures.runs;
      opened = c.run_frame-pc.ensures.opened;
      listed = listed;
    }

pub returns-clause-runs : goal.returns-clause-runs
returns-clause-runs g c =
    round_runs c.requires.0 c.registers_mut-registers.result.now c.run_frame-pc.new.registers c.registers_mut-registers.ensures.registers c.run_frame-pc.auto.registers
    c.set_pc.new.self c.run_frame-pc.new.tables.objects c.run_frame-pc.new.cells.objects c.run_frame-pc.result c.run_frame-pc.new.fuel c.set_pc.ensures
    (rw (c.closure_of-closure.ensures.words, c.closure_of-closure.ensures.constants, c.closure_of-closure.ensures.upvalues) at c.run_frame-pc.ensures.ready) c.run_frame-pc.ensures.opened
