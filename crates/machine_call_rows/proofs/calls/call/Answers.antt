use Rattle.std.proofs.Common.{ℕ, IfOk, sym, subst}
use Rattle.lua_heap.specs.declared.world.World.{World as Memory}
use Rattle.machine_moves.specs.Ending.{ending_of}
use Rattle.machine_call_rows.specs.Rows.{CallSteps, MayDoCall}
use Rattle.machine_call_rows.proofs.calls.call.Goals as goal

pub returns-then-branch-clause-steps : goal.returns-then-branch-clause-steps
returns-then-branch-clause-steps c = c.in_ok-call_function.ensures.steps c.if-branch.true

pub call_apart-requires : goal.call_apart-requires
call_apart-requires c = subst (λ (W : Memory). MayDoCall W c.args.at) (sym (c.in_ok-call_function.ensures.kept c.if-branch.false).0) c.requires

pub returns-clause-steps : goal.returns-clause-steps
returns-clause-steps c =
    let k = c.in_ok-call_function.ensures.kept c.if-branch.false in
    let result = c.call_apart.result in
    let V = c.call_apart.new.world in
    let left = c.call_apart.new.budget in
    subst (λ (fuel : ℕ). IfOk result (λ ending. CallSteps c.args.at c.args.world.now fuel V left (ending_of ending))) k.1
    (subst (λ (W : Memory). IfOk result (λ ending. CallSteps c.args.at W c.call_function.new.budget V left (ending_of ending))) k.0 c.call_apart.ensures.steps)
