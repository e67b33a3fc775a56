use Rattle.std.proofs.Common.{ap, sym, subst, ◌∙◌}
use Rattle.lua_heap.specs.declared.world.Cell.{Cell}
use Rattle.machine_view.specs.Law.{HasInstruction}
use Rattle.machine_view.proofs.Here.{ready_is_at}
use Rattle.object_pool.specs.Pool.{Pool}
use Rattle.table_core.specs.Table.{Contents}
use Rattle.machine_arms_tables.specs.Frame.{code, moment}
use Rattle.machine_loop.proofs.Alike.{none_then}
use Rattle.machine_loop.proofs.Recalled.{once_then}
use Rattle.machine_loop.proofs.frame.go_on.Goals as goal

pub step_frame-requires : goal.step_frame-requires
step_frame-requires g c = c.requires.0

pub returns-in-Some-clause-once : goal.returns-in-Some-clause-once
returns-in-Some-clause-once g c = c.in-Some.ensures.once

pub go_around-requires : goal.go_around-requires
go_around-requires g c =
    subst (λ r. HasInstruction c.args.closure.words.now c.args.closure.constants.now r c.args.pc) (sym c.in-None.ensures.registers) (ready_is_at g.g.around _ _ _ _ _ _ _ c.requires.0.ready)

pub returns-in-None-clause-once : goal.returns-in-None-clause-once
returns-in-None-clause-once g c =
    let same = c.in-None.ensures in
    let t = ap (λ (p : Pool Contents). p.objects) same.tables in
    let s = ap (λ (p : Pool Cell). p.objects) same.cells in
    once_then g.g (code c.args.closure c.args.strings.now) (moment c.args.tables.now.objects c.args.cells.now.objects c.args.registers.now c.args.pc c.args.fuel.now) c.requires.0 c.args.memo.now c.requires.1 c.go_around.result
    c.step_frame.new.tables.objects c.go_around.new.tables.objects c.step_frame.new.cells.objects c.step_frame.new.registers c.go_around.new.registers c.step_frame.new.fuel t s same.registers same.unpaid c.go_around.ensures.goes

pub returns-in-None-clause-tables : goal.returns-in-None-clause-tables
returns-in-None-clause-tables g c = none_then c.go_around.result (λ same. same ∙ c.in-None.ensures.tables) c.go_around.ensures.tables

pub returns-in-None-clause-cells : goal.returns-in-None-clause-cells
returns-in-None-clause-cells g c = none_then c.go_around.result (λ _. c.in-None.ensures.cells) c.go_around.ensures.registers

pub returns-in-None-clause-registers : goal.returns-in-None-clause-registers
returns-in-None-clause-registers g c = none_then c.go_around.result (λ same. same ∙ c.in-None.ensures.registers) c.go_around.ensures.registers

pub returns-in-None-clause-unpaid : goal.returns-in-None-clause-unpaid
returns-in-None-clause-unpaid g c = none_then c.go_around.result (λ _. c.in-None.ensures.unpaid) c.go_around.ensures.registers
