use Rattle.std.proofs.Common.{refl, ◌∙◌}
use Rattle.int_core.specs.Value.{without_last}
use Rattle.machine_core.specs.Text.{blanked, is_pending}
use Rattle.lua_stack.specs.Frames.{with_opened, with_registers}
use Rattle.lua_heap.specs.Reading.{value}
use Rattle.move_laws.proofs.Running.{has_stack, shown, top_put}
use Rattle.machine_moves.specs.Lending.{with_running}
use Rattle.machine_moves.proofs.OnRunning.{changes_on, listed_on, registers_on}
use Rattle.machine_errors.specs.Raising.{left_with}
use Rattle.machine_errors.proofs.raising.wait_to_leave.Goals as goal

pub running_stack_mut-stack-requires : goal.running_stack_mut-stack-requires
running_stack_mut-stack-requires c = has_stack c.args.world.now c.requires.place c.requires.is

pub keep_pending-requires-clause-there : goal.keep_pending-requires-clause-there
keep_pending-requires-clause-there c = registers_on c.running_stack_mut-stack.ensures.runs c.requires.place c.args.stack_size c.requires.is c.requires.room

pub set_wait-requires : goal.set_wait-requires
set_wait-requires c =
    let W = c.args.world.now in
    let r = c.running_stack_mut-stack.ensures.runs.runs in
    let h = shown W c.running_stack_mut-stack.ensures.runs.co c.running_stack_mut-stack.result.now c.requires.place r c.requires.is in
    let below = without_last c.requires.place.stack.frames in
    let t = c.requires.place.top in
    record {
      value = value W.strings;
      below = below;
      top = with_opened 0 (with_registers (blanked (is_pending t.own.pending) 0 c.args.stack_size t.own.registers) t);
      is = c.keep_pending.ensures.top (value W.strings) refl below t h.frames_are;
    }

pub returns-clause-leaves : goal.returns-clause-leaves
returns-clause-leaves c =
    let W = c.args.world.now in
    let r = c.running_stack_mut-stack.ensures.runs.runs in
    record {
      is = λ at e fuel. top_put W (with_running W c.set_wait.new.self) c.running_stack_mut-stack.ensures.runs.co c.running_stack_mut-stack.result.now c.set_wait.new.self at (λ f t. left_with c.args.stack_size (f c.args.error) t) fuel r e (changes_on c.running_stack_mut-stack.ensures.runs c.set_wait.new.self)
          (record { top = λ f z below t h. c.set_wait.ensures.top f z below _ (c.keep_pending.ensures.top f z below t h); cells = c.set_wait.ensures.cells ∙ c.keep_pending.ensures.cells });
    }

pub returns-clause-listed : goal.returns-clause-listed
returns-clause-listed c = listed_on c.running_stack_mut-stack.ensures.runs c.set_wait.new.self (c.set_wait.ensures.cells ∙ c.keep_pending.ensures.cells)
