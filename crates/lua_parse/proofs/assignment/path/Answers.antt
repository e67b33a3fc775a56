use Rattle.std.proofs.Common.{◌≡◌, Err, refl, sym, arith, rules}
use Rattle.tree_making.specs.Made.{plain_boxed}
use Rattle.lua_parse.specs.Moves.{path}
use Rattle.lua_parse.proofs.Steps.{starts, picked, holds, fails, found, failed, ended_as, into}
use Rattle.lua_parse.proofs.assignment.path.Goals as goal

pub loop-alloc-init : goal.loop-alloc-init
loop-alloc-init c =
    record { leads = (starts (path (plain_boxed c.args.first.node) c.args.first.height) c.args.room.max c.args.cursor.now); low = c.requires.fits; kept = omega arith }

pub returns-in_err-left-clause-reads : goal.returns-in_err-left-clause-reads
returns-in_err-left-clause-reads c =
    let l1 = picked c.loop-alloc.invariant.leads c.loop-alloc-test.ensures.more in
    let l2 = holds _ l1 (sym c.loop-alloc-test.ensures.is) in
    let r : c.from_residual.result ≡ Err c.in_err-left.field-0.0 = search rules in rw r (failed l2 _ c.in_err-left.ensures.reads)

pub loop-alloc-preserved : goal.loop-alloc-preserved
loop-alloc-preserved c =
    let l1 = picked c.loop-alloc.invariant.leads c.loop-alloc-test.ensures.more in
    let l2 = holds _ l1 (sym c.loop-alloc-test.ensures.is) in
    let l3 = found l2 (c.in_ok-left.ensures.reads.tells) in
    record { leads = into l3; low = c.in_ok-left.ensures.bound.0; kept = omega (arith, c.loop-alloc.invariant.kept, c.in_ok-left.ensures.bound.1) }

pub returns-clause-reads : goal.returns-clause-reads
returns-clause-reads c =
    let l1 = picked c.loop-alloc.invariant.leads c.loop-alloc-test.ensures.more in
    let l2 = fails _ l1 (sym c.loop-alloc-test.ensures.is) in
    record { tells = ended_as l2 (refl) (refl) }
