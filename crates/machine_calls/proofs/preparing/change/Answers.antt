use Rattle.std.proofs.Common.{◌+◌, arith, sym, subst}
use Rattle.lua_stack.specs.Frames.{TopBecomes}
use Rattle.machine_calls.specs.Preparing.{CanChange, changed}
use Rattle.machine_calls.proofs.Readied.{lua_top_of, registers_of}
use Rattle.machine_calls.proofs.preparing.change.Goals as goal

pub set-requires : goal.set-requires
set-requires c = registers_of (c.in-Copied.register + 1) (omega arith) (subst (λ p. CanChange c.args.stack.now p c.args.stack_size) c.in-Copied.is c.requires)

pub give_up-requires : goal.give_up-requires
give_up-requires c =
    let k = subst (λ p. CanChange c.args.stack.now p c.args.stack_size) c.in-GivenUp.is c.requires in
    record { top = k.0; within = k.1; closed = k.2 }

pub leave_so-requires : goal.leave_so-requires
leave_so-requires c =
    let k = subst (λ p. CanChange c.args.stack.now p c.args.stack_size) c.in-LeftSo.is c.requires in
    record { top = k.0; closed = k.1 }

pub return_so-requires : goal.return_so-requires
return_so-requires c =
    let k = subst (λ p. CanChange c.args.stack.now p c.args.stack_size) c.in-ReturnedSo.is c.requires in
    record { top = k.0; closed = k.1 }

pub take_pending-requires : goal.take_pending-requires
take_pending-requires c = lua_top_of (subst (λ p. CanChange c.args.stack.now p c.args.stack_size) c.in-Closed.is c.requires)

pub returns-in-GivenUp : goal.returns-in-GivenUp
returns-in-GivenUp c = subst (λ p. TopBecomes c.args.stack.now c.give_up.new.stack (λ f t. changed f p c.args.stack_size t)) (sym c.in-GivenUp.is) c.give_up.ensures

pub returns-in-LeftSo : goal.returns-in-LeftSo
returns-in-LeftSo c = subst (λ p. TopBecomes c.args.stack.now c.leave_so.new.stack (λ f t. changed f p c.args.stack_size t)) (sym c.in-LeftSo.is) c.leave_so.ensures

pub returns-in-ReturnedSo : goal.returns-in-ReturnedSo
returns-in-ReturnedSo c = subst (λ p. TopBecomes c.args.stack.now c.return_so.new.stack (λ f t. changed f p c.args.stack_size t)) (sym c.in-ReturnedSo.is) c.return_so.ensures

pub returns-in-Closed : goal.returns-in-Closed
returns-in-Closed c = subst (λ p. TopBecomes c.args.stack.now c.take_pending.new.self (λ f t. changed f p c.args.stack_size t)) (sym c.in-Closed.is) c.take_pending.ensures
