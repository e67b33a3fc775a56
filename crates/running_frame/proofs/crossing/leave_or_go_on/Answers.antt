use Rattle.std.proofs.Common.{◌≡◌, ℕ, refl, sym, subst}
use Rattle.std.specs.Prelude.{IfNone}
use Rattle.lua_heap.specs.Reading.{value}
use Rattle.lua_stack.specs.Frames.{KeptStack}
use Rattle.machine_arms_tables.specs.Frame.{code}
use Rattle.frame_calls.specs.Calling.{program_of}
use Rattle.frame_calls.specs.Standing.{RunsAt}
use Rattle.running_frame.specs.Advancing.{Advances}
use Rattle.running_frame.specs.Functions.{code_in}
use Rattle.running_frame.proofs.Left.{left_or_not}
use Rattle.running_frame.proofs.OnStack.{place_within}
use Rattle.running_frame.proofs.OpenRead.{lists_open}
use Rattle.running_frame.proofs.crossing.leave_or_go_on.Goals as goal

pub fetch-word-requires : goal.fetch-word-requires
fetch-word-requires g c = rw c.closure_of-closure.ensures.words (place_within c.requires.0)

pub leave_frame-requires-clause-may : goal.leave_frame-requires-clause-may
leave_frame-requires-clause-may g c =
    let m = c.requires.0.may in
    record { top = record { value = value g.g.around.texts; below = g.g.around.context.below; top = m.top; is = m.is }; codes = c.requires.1.functions.have; closed = tt }

pub leave_frame-requires-clause-cells : goal.leave_frame-requires-clause-cells
leave_frame-requires-clause-cells g c = lists_open c.args.around.co.0 c.requires.1.own c.requires.0

pub returns-in-Some : goal.returns-in-Some
returns-in-Some g c =
    let k = code c.closure_of-closure.result c.args.around.strings.now in
    let r : RunsAt g.g k c.args.stack.now c.args.tables.now.objects c.args.cells.now.objects c.args.budget.now c.args.pc =
    rw (c.closure_of-closure.ensures.words, c.closure_of-closure.ensures.constants, c.closure_of-closure.ensures.upvalues) c.requires.0 in
    record {
      reaches =
          left_or_not g.g k c.args.stack.now c.args.tables.now.objects c.args.cells.now.objects c.args.budget.now c.args.pc r
          c.leave_frame.new.stack c.args.function.proto.now.stack (program_of c.args.around.functions) c.fetch-word.result c.leave_frame.new.budget c.args.around.co.0 c.requires.1.functions c.requires.1.wants c.requires.1.own c.fetch-word.ensures
          c.leave_frame.result c.leave_frame.ensures.leaves c.leave_frame.ensures.kept;
      opened = refl;
      listed = c.leave_frame.ensures.listed;
    }

pub read_or_ask-requires : goal.read_or_ask-requires
read_or_ask-requires g c =
    let kept = subst (λ o. IfNone o ((c.leave_frame.new.stack ≡ c.args.stack.now) × (c.leave_frame.new.budget ≡ c.args.budget.now))) c.in-None.is c.leave_frame.ensures.kept in
    let k = code_in c.args.function.object.now c.args.function.proto.now c.args.around.strings.now in
    let ts = c.args.tables.now.objects in
    let cs = c.args.cells.now.objects in (
      rw (c.body_of-body.ensures.words, c.body_of-body.ensures.constants, c.body_of-body.ensures.upvalues)
          (subst (λ (s : KeptStack). RunsAt g.g k s ts cs c.leave_frame.new.budget c.args.pc) (sym kept.0)
          (subst (λ (n : ℕ). RunsAt g.g k c.args.stack.now ts cs n c.args.pc) (sym kept.1) c.requires.0)),
      rw c.body_of-body.ensures.size c.requires.1,
    )

pub returns-in-None : goal.returns-in-None
returns-in-None g c =
    let kept = subst (λ o. IfNone o ((c.leave_frame.new.stack ≡ c.args.stack.now) × (c.leave_frame.new.budget ≡ c.args.budget.now))) c.in-None.is c.leave_frame.ensures.kept in
    let cs = c.args.cells.now.objects in
    subst (λ (s : KeptStack). Advances g.g s c.read_or_ask.new.stack c.args.tables.now.objects c.read_or_ask.new.tables.objects cs cs c.args.budget.now c.read_or_ask.new.budget) kept.0
    (subst (λ (n : ℕ). Advances g.g c.leave_frame.new.stack c.read_or_ask.new.stack c.args.tables.now.objects c.read_or_ask.new.tables.objects cs cs n c.read_or_ask.new.budget) kept.1 c.read_or_ask.ensures)
