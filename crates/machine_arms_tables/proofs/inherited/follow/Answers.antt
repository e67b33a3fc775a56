use Rattle.std.proofs.Common.{arith}
use Rattle.machine_arms_tables.proofs.Inheriting.{looked_first, looked_above, settles_above}
use Rattle.machine_arms_tables.proofs.inherited.follow.Goals as goal

pub loop-link-init : goal.loop-link-init
loop-link-init c = looked_first c.args.strings.now c.args.tables.now.objects c.args.object c.args.key c.requires.absent

pub returns-then-is_found : goal.returns-then-is_found
returns-then-is_found c =
    settles_above c.tables_are_read.ensures c.args.strings.now c.args.tables.now.objects c.args.name c.requires.named c.args.object c.args.key c.loop-link.at c.loop-link._link c.loop-link.invariant
    c.in_ok-handler.handler c.in_ok-handler.ensures c.field-own.result c.field-own.ensures.field (omega (arith, c.loop-link-test.true))

pub loop-link-preserved : goal.loop-link-preserved
loop-link-preserved c =
    looked_above c.tables_are_read.ensures c.args.strings.now c.args.tables.now.objects c.args.name c.requires.named c.args.object c.args.key c.loop-link.at c.loop-link._link c.loop-link.invariant
    c.in_ok-handler.handler c.in_ok-handler.ensures c.field-own.result c.is_found.result c.field-own.ensures.field c.is_found.ensures c.if-is_found.false
