use Rattle.std.proofs.Common.{◌≡◌, [], ◌∷◌, Err, refl, sym, ap, ◌∙◌, ◌++◌, arith, rules}
use Rattle.lua_parse.specs.Moves.{more_declared}
use Rattle.lua_parse.proofs.Steps.{starts, picked, passed, holds, fails, placed, found, failed, ended_as, into, one_less}
use Rattle.lua_parse.proofs.assignment.more_declared.Goals as goal

pub loop-cursor-init : goal.loop-cursor-init
loop-cursor-init c =
    record { leads = placed {height = 0} {height' = 0} 0 (λ xs n. more_declared xs) (starts (more_declared (c.args.first ∷ [])) 0 c.args.cursor.now) (c.in_ok-push.ensures.items ∙ ap (λ xs. xs ++ c.args.first ∷ []) c.new-names.ensures.items) refl; kept = omega arith }

pub returns-in_err-next-clause-reads : goal.returns-in_err-next-clause-reads
returns-in_err-next-clause-reads c =
    let l1 = picked c.loop-cursor.invariant.leads c.loop-cursor-test.ensures.more in
    let l2 = holds _ l1 (sym c.loop-cursor-test.ensures.is) in
    let l3 = passed l2 c.loop-cursor-test.ensures.more (c.skip.ensures) in
    let r : c.from_residual-in_err-next.result ≡ Err c.in_err-next.field-0.0 = search rules in rw r (failed l3 _ c.in_err-next.ensures.reads)

pub loop-cursor-preserved : goal.loop-cursor-preserved
loop-cursor-preserved c =
    let l1 = picked c.loop-cursor.invariant.leads c.loop-cursor-test.ensures.more in
    let l2 = holds _ l1 (sym c.loop-cursor-test.ensures.is) in
    let l3 = passed l2 c.loop-cursor-test.ensures.more (c.skip.ensures) in
    let l4 = found l3 (c.in_ok-next.ensures.reads.tells) in
    record { leads = placed {height = 0} {height' = 0} 0 (λ xs n. more_declared xs) (into l4) c.in_ok-push-2.ensures.items refl; kept = omega (arith, c.loop-cursor.invariant.kept, c.in_ok-next.ensures.taken, one_less c.loop-cursor-test.ensures.more c.skip.ensures) }

pub returns-clause-reads : goal.returns-clause-reads
returns-clause-reads c =
    let l1 = picked c.loop-cursor.invariant.leads c.loop-cursor-test.ensures.more in
    let l2 = fails _ l1 (sym c.loop-cursor-test.ensures.is) in
    record { tells = ended_as l2 (refl) (refl) }
