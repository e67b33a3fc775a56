use Rattle.std.proofs.Common.{◌≡◌, ap, ◌∙◌}
use Rattle.lua_stack.specs.Frames.{wait_of}
use Rattle.move_laws.proofs.Running.{of_top}
use Rattle.running_frame.specs.Here.{is_none}
use Rattle.running_frame.proofs.place.is_running.Goals as goal

pub returns : goal.returns
returns c =
    let on = c.stack_of_frame.ensures.runs in
    record {
      is = λ p e.
          c.is_none.ensures c.args.world.now.strings
          ∙ ap is_none (of_top c.args.world.now on.co c.stack_of_frame.result.now p (λ f t. wait_of f c.wait.result ≡ t.wait) on.runs e c.wait.ensures);
    }
