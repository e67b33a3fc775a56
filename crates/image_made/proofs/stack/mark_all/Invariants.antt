use Rattle.std.proofs.Common.{◌++◌, take}
use Rattle.lua_stack.specs.Frames.{TopBecomes, with_pending}
use Rattle.image_made.specs.Stacks.{HasFrame}
use Rattle.image_made.proofs.stack.mark_all.Given as goal

abbrev pub invariant-loop-at : goal.invariant-loop-at
invariant-loop-at l = record {
  marked : TopBecomes l.initial.stack l.stack (λ f t. with_pending (t.own.pending ++ take l.at l.pending) t);
  room : HasFrame l.stack l.size;
}
