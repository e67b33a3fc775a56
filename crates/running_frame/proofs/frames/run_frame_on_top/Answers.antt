use Rattle.std.proofs.Common.{◌≡◌, refl, sym, subst, ◌∙◌}
use Rattle.std.specs.Prelude.{IfNone}
use Rattle.std.proofs.lemmas.Option.{IfSome_then}
use Rattle.lua_heap.specs.Reading.{value}
use Rattle.lua_stack.specs.Frames.{KeptStack}
use Rattle.machine_arms_tables.specs.Frame.{code}
use Rattle.running_frame.specs.Functions.{code_in}
use Rattle.frame_calls.specs.Standing.{RunsAt}
use Rattle.frame_calls.specs.Calling.{program_of}
use Rattle.running_frame.proofs.Advanced.{advances_then}
use Rattle.frame_calls.proofs.CrossedOver.{crossed_over_or_not}
use Rattle.frame_calls.proofs.Takers.{still_may}
use Rattle.running_frame.specs.Apart.{IsHereIn}
use Rattle.running_frame.specs.Asking.{ReadSame}
use Rattle.running_frame.specs.Inheriting.{metatable_number}
use Rattle.running_frame.specs.Upvalues.{ListsOpen}
use Rattle.running_frame.proofs.FilledOne.{written_or_not}
use Rattle.running_frame.proofs.Handlers.{here_still}
use Rattle.running_frame.proofs.OpenRead.{lists_open}
use Rattle.running_frame.proofs.Places.{runs_where}
use Rattle.running_frame.proofs.frames.run_frame_on_top.Goals as goal

pub run_stack-halt-requires : goal.run_stack-halt-requires
run_stack-halt-requires g c = (c.requires.0, (c.requires.1.own, c.requires.1.meta))

pub cross-requires : goal.cross-requires
cross-requires g c =
    let k = c.run_stack-halt.ensures.here in
    record { top = record { value = value g.g.around.texts; below = g.g.around.context.below; top = k.top; is = k.is }; codes = c.requires.1.functions.have; closed = c.run_stack-halt.ensures.closed }

pub returns-in-Some-clause-goes : goal.returns-in-Some-clause-goes
returns-in-Some-clause-goes g c =
    let h = c.run_stack-halt in
    let r : RunsAt g.g (code c.closure_of-closure.result c.args.around.strings.now) h.new.stack h.new.tables.objects h.new.cells.objects h.new.budget h.result.here.pc =
    rw (c.closure_of-closure.ensures.words, c.closure_of-closure.ensures.constants, c.closure_of-closure.ensures.upvalues) (h.ensures.runs (runs_where h.result.here.runs c.if-not-halt.false)) in
    advances_then h.ensures.goes (record {
      reaches =
          crossed_over_or_not g.g (code c.closure_of-closure.result c.args.around.strings.now) h.new.stack h.new.tables.objects h.new.cells.objects h.new.budget h.result.here.pc r
          c.cross.new.stack c.args.function.proto.now.stack (program_of c.args.around.functions) h.result.here.word c.cross.new.budget c.requires.1.functions c.requires.1.wants (rw c.closure_of-closure.ensures.words h.ensures.here.word)
          c.cross.result c.cross.ensures.crosses c.cross.ensures.kept;
      opened = refl;
      listed = c.cross.ensures.listed;
    })

pub write-done-requires-clause-may : goal.write-done-requires-clause-may
write-done-requires-clause-may g c =
    let h = c.run_stack-halt in
    let kept = subst (λ o. IfNone o ((c.cross.new.stack ≡ h.new.stack) × (c.cross.new.budget ≡ h.new.budget))) c.in-None.is c.cross.ensures.kept in
    let k = h.ensures.here in
    still_may kept.0 (record { top = record { value = value g.g.around.texts; below = g.g.around.context.below; top = k.top; is = k.is }; codes = c.requires.1.functions.have; closed = h.ensures.closed })

pub write-done-requires-clause-cells : goal.write-done-requires-clause-cells
write-done-requires-clause-cells g c =
    let h = c.run_stack-halt in
    let kept = subst (λ o. IfNone o ((c.cross.new.stack ≡ h.new.stack) × (c.cross.new.budget ≡ h.new.budget))) c.in-None.is c.cross.ensures.kept in
    let r = h.ensures.runs (runs_where h.result.here.runs c.if-not-halt.false) in
    subst (λ (s : KeptStack). ListsOpen c.args.around.co.0 s h.new.cells.objects) (sym kept.0) (lists_open c.args.around.co.0 c.requires.1.own r)

pub returns-in-None-clause-goes : goal.returns-in-None-clause-goes
returns-in-None-clause-goes g c =
    let h = c.run_stack-halt in
    let x = c.requires.1 in
    let kept = subst (λ o. IfNone o ((c.cross.new.stack ≡ h.new.stack) × (c.cross.new.budget ≡ h.new.budget))) c.in-None.is c.cross.ensures.kept in
    let r : RunsAt g.g (code c.closure_of-closure.result c.args.around.strings.now) h.new.stack h.new.tables.objects h.new.cells.objects h.new.budget h.result.here.pc =
    rw (c.closure_of-closure.ensures.words, c.closure_of-closure.ensures.constants, c.closure_of-closure.ensures.upvalues) (h.ensures.runs (runs_where h.result.here.runs c.if-not-halt.false)) in
    advances_then h.ensures.goes (record {
      reaches =
          written_or_not g.g (code c.closure_of-closure.result c.args.around.strings.now) h.new.stack h.new.tables.objects h.new.cells.objects h.new.budget h.result.here.pc r
          c.cross.new.stack c.write-done.new.stack c.write-done.new.tables.objects (metatable_number c.args.around.string_meta) (program_of c.args.around.functions) c.cross.new.budget c.write-done.new.budget c.args.around.co.0 c.args.function.proto.now.stack h.result.here.word
          x.functions kept.0 kept.1 x.meta x.own x.wants (rw c.closure_of-closure.ensures.words h.ensures.here.word) c.write-done.result c.write-done.ensures.writes c.write-done.ensures.kept;
      opened = refl;
      listed = c.write-done.ensures.listed ∙ c.cross.ensures.listed;
    })

pub returns-in-None-clause-here : goal.returns-in-None-clause-here
returns-in-None-clause-here g c =
    let h = c.run_stack-halt in
    let kept = subst (λ o. IfNone o ((c.cross.new.stack ≡ h.new.stack) × (c.cross.new.budget ≡ h.new.budget))) c.in-None.is c.cross.ensures.kept in
    IfSome_then c.stays_unless.result c.stays_unless.ensures
    (λ at e.
    let same = subst (λ o. IfNone o (ReadSame c.cross.new.stack c.write-done.new.stack × (c.write-done.new.budget ≡ c.cross.new.budget) × (c.write-done.new.tables.objects ≡ h.new.tables.objects))) e.1 c.write-done.ensures.kept in
    subst (λ here. IsHereIn g.g (code_in c.args.function.object.now c.args.function.proto.now c.args.around.strings.now) c.write-done.new.stack here) (sym e.0)
    (here_still g.g (code_in c.args.function.object.now c.args.function.proto.now c.args.around.strings.now) h.new.stack c.cross.new.stack c.write-done.new.stack h.result.here h.ensures.here (runs_where h.result.here.runs c.if-not-halt.false) kept.0 same.0))
