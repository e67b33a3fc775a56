use Rattle.std.proofs.Common.{ap, subst, length}
use Rattle.lua_heap.specs.declared.world.World.{World as Memory}
use Rattle.machine_core.specs.FrameRows.{raises}
use Rattle.move_laws.specs.Memory.{Leads}
use Rattle.machine_moves.specs.Ending.{ending_of}
use Rattle.machine_errors.proofs.Texts.{texts_in_order, texts_read_same}
use Rattle.machine_calls.proofs.Blamed.{prepared_after, raises_over}
use Rattle.machine_calls.proofs.waiting.raise_over.Goals as goal

pub make_ready-requires : goal.make_ready-requires
make_ready-requires c =
    let a = c.in_ok-error.ensures.added in
    record { order = texts_in_order c.requires.sound.order c.in_ok-error.ensures.added; ready = prepared_after c.args.prepared a (texts_read_same c.requires.sound a) c.requires.ready }

pub begin_leaving_with-requires-clause-one : goal.begin_leaving_with-requires-clause-one
begin_leaving_with-requires-clause-one c = ap length c.in_ok-error.ensures.blamed.one

pub returns-clause-raises : goal.returns-clause-raises
returns-clause-raises c =
    let a = c.in_ok-error.ensures.added in
    raises_over c.args.world.now c.blamed_text.new.world c.make_ready.new.world c.begin_leaving_with.new.world c.args.wait c.args.prepared c.args.text.now c.in_ok-error.error.items
    a (texts_read_same c.requires.sound a) c.requires.held_wait c.requires.held c.make_ready.ensures.ready c.in_ok-error.ensures.blamed (ap (λ (W : Memory). W.strings) c.make_ready.ensures.rest)
    (λ text b env. subst (λ e. Leads (raises text) env c.make_ready.new.world c.begin_leaving_with.new.world (ending_of e)) c.begin_leaving_with.ensures.raised (c.begin_leaving_with.ensures.leads text b env))
