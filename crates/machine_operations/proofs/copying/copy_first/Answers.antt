use Rattle.std.proofs.Common.{sym, subst}
use Rattle.move_laws.proofs.Kept.{order_kept}
use Rattle.machine_operations.specs.Copying.{CanCopy, Copies}
use Rattle.machine_operations.proofs.Written.{can_write, none_copied, written_copies, written_whole}
use Rattle.machine_operations.proofs.copying.copy_first.Goals as goal

pub write_register-requires : goal.write_register-requires
write_register-requires c = can_write c.requires.whole (subst (CanCopy c.args.world.now) c.in-Some.is c.requires.there)

pub returns-in-Some-clause-copies : goal.returns-in-Some-clause-copies
returns-in-Some-clause-copies c =
    let W = c.args.world.now in
    let V = c.write_register.new.world in
    subst (λ also. Copies W V also c.args.first) (sym c.in-Some.is) (written_copies W V c.in-Some.register c.args.first c.write_register.ensures.makes c.requires.whole)

pub returns-in-Some-clause-whole : goal.returns-in-Some-clause-whole
returns-in-Some-clause-whole c = written_whole c.args.world.now c.write_register.new.world c.in-Some.register c.args.first c.write_register.ensures.makes c.requires.whole

pub returns-in-Some-clause-at : goal.returns-in-Some-clause-at
returns-in-Some-clause-at c = c.write_register.ensures.stays.at

pub returns-in-Some-clause-order : goal.returns-in-Some-clause-order
returns-in-Some-clause-order c = order_kept c.requires.order c.write_register.ensures.stays.rest c.write_register.ensures.stays.listed

pub returns-in-Some-clause-rest : goal.returns-in-Some-clause-rest
returns-in-Some-clause-rest c = c.write_register.ensures.stays.rest

pub returns-in-None-clause-copies : goal.returns-in-None-clause-copies
returns-in-None-clause-copies c =
    let W = c.args.world.now in
    subst (λ also. Copies W W also c.args.first) (sym c.in-None.is) none_copied
