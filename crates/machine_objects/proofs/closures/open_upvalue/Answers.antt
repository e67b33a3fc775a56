use Rattle.std.proofs.Common.{◌≡◌, ◌+◌, [], drop, true, false, sym, subst, rules}
use Rattle.machine_core.specs.Moves.{open_register}
use Rattle.move_laws.specs.Memory.{Makes}
use Rattle.machine_moves.specs.Moves.{CanOpen}
use Rattle.machine_objects.specs.Opening.{MayOpen, Opens, upvalues_at}
use Rattle.machine_objects.proofs.Opened.{can_open, opens_own, opens_outer, split_at}
use Rattle.machine_objects.proofs.closures.open_upvalue.Goals as goal

pub open_register-requires-clause-there : goal.open_register-requires-clause-there
open_register-requires-clause-there c =
    let W = c.args.world.now in
    let us = upvalues_at W c.args.code in
    let u = c.upvalue-up.result in
    let m = subst (MayOpen W) (split_at us c.args.at u c.upvalue-up.ensures) c.requires.safe in
    let own : u.in_stack ≡ true = search rules in
    let n : u.index ≡ c.from.result = search rules in
    subst (CanOpen W) n (can_open W u (drop (c.args.at + 1) us) m own)

pub returns-in_ok-open_register-clause-opens : goal.returns-in_ok-open_register-clause-opens
returns-in_ok-open_register-clause-opens c =
    let W = c.args.world.now in
    let V = c.open_register.new.world in
    let us = upvalues_at W c.args.code in
    let u = c.upvalue-up.result in
    let rest = drop (c.args.at + 1) us in
    let split = split_at us c.args.at u c.upvalue-up.ensures in
    let m = subst (MayOpen W) split c.requires.safe in
    let own : u.in_stack ≡ true = search rules in
    let n : u.index ≡ c.from.result = search rules in
    let makes = subst (λ r. Makes W V (open_register r) [] [] tt) (sym n) (c.in_ok-open_register.ensures.makes []) in
    subst (λ xs. Opens W V xs rest) (sym split) (opens_own W V u rest own (can_open W u rest m own) makes)

pub returns-else-up-clause-opens : goal.returns-else-up-clause-opens
returns-else-up-clause-opens c =
    let W = c.args.world.now in
    let us = upvalues_at W c.args.code in
    let u = c.upvalue-up.result in
    let rest = drop (c.args.at + 1) us in
    let own : u.in_stack ≡ false = search rules in
    subst (λ xs. Opens W W xs rest) (sym (split_at us c.args.at u c.upvalue-up.ensures)) (opens_outer W u rest own)
