use Rattle.std.proofs.Common.{◌≡◌, false, Err, refl, sym, ap, arith, rules}
use Rattle.lua_parse.specs.Moves.{some_params, params, more_params}
use Rattle.lua_parse.proofs.Steps.{starts, picked, passed, holds, fails, placed, found, failed, ended_as, into, one_less}
use Rattle.lua_parse.proofs.function.params.Goals as goal

pub returns-then-is-clause-reads : goal.returns-then-is-clause-reads
returns-then-is-clause-reads c =
    let l1 = picked (starts (params c.args.own.items) 0 c.args.cursor.now) c.if-is.ensures.more in
    let l2 = holds _ l1 (sym c.if-is.ensures.is) in
    record { tells = ended_as l2 (refl) (refl) }

pub loop-cursor-init : goal.loop-cursor-init
loop-cursor-init c =
    let l1 = picked (starts (params c.args.own.items) 0 c.args.cursor.now) c.if-is.ensures.more in
    let l2 = fails _ l1 (sym c.if-is.ensures.is) in
    record { leads = into l2; kept = omega arith }

pub returns-in_err-name-clause-reads : goal.returns-in_err-name-clause-reads
returns-in_err-name-clause-reads c =
    let l1 = picked c.loop-cursor.invariant.leads c.loop-cursor-test.ensures.more in
    let l2 = fails _ l1 (sym c.loop-cursor-test.ensures.is) in
    let r : c.from_residual.result ≡ Err c.in_err-name.field-0.0 = search rules in rw r (failed l2 _ c.in_err-name.ensures.reads)

pub returns-then-not-is-clause-reads : goal.returns-then-not-is-clause-reads
returns-then-not-is-clause-reads c =
    let l1 = picked c.loop-cursor.invariant.leads c.loop-cursor-test.ensures.more in
    let l2 = fails _ l1 (sym c.loop-cursor-test.ensures.is) in
    let l3 = found l2 (c.in_ok-name.ensures.reads.tells) in
    let l4 = picked l3 c.if-not-is.ensures.more in
    let l5 = fails _ l4 (sym c.if-not-is.ensures.is) in
    record { tells = ended_as l5 (ap (λ xs. some_params xs false) c.in_ok-push.ensures.items) (refl) }

pub loop-cursor-preserved : goal.loop-cursor-preserved
loop-cursor-preserved c =
    let l1 = picked c.loop-cursor.invariant.leads c.loop-cursor-test.ensures.more in
    let l2 = fails _ l1 (sym c.loop-cursor-test.ensures.is) in
    let l3 = found l2 (c.in_ok-name.ensures.reads.tells) in
    let l4 = picked l3 c.if-not-is.ensures.more in
    let l5 = holds _ l4 (sym c.if-not-is.ensures.is) in
    let l6 = passed l5 c.if-not-is.ensures.more (c.skip.ensures) in
    record { leads = placed {height = 0} {height' = 0} 0 (λ xs n. more_params xs) (into l6) c.in_ok-push.ensures.items refl; kept = omega (arith, c.loop-cursor.invariant.kept, c.in_ok-name.ensures.taken, one_less c.if-not-is.ensures.more c.skip.ensures) }

pub returns-clause-reads : goal.returns-clause-reads
returns-clause-reads c =
    let l1 = picked c.loop-cursor.invariant.leads c.loop-cursor-test.ensures.more in
    let l2 = holds _ l1 (sym c.loop-cursor-test.ensures.is) in
    let l3 = passed l2 c.loop-cursor-test.ensures.more (c.skip-2.ensures) in
    record { tells = ended_as l3 (refl) (refl) }
