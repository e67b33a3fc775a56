use Rattle.std.proofs.Common.{rules, ◌≡◌, ◌+◌, ◌-◌, ◌∙◌, ap, sym, refl, true, false, arith}
use Rattle.machine_view.proofs.Places.{next_there}
use Rattle.machine_arms_numbers.specs.Numbers.{leads_back, distance_of}
use Rattle.machine_arms_numbers.proofs.LoopRows.{jump_fits, back_fits, forward_does, back_does}
use Rattle.machine_arms_numbers.proofs.jumps.jump.Goals as goal

pub behind-requires : goal.behind-requires
behind-requires c =
    let z : leads_back c.sj-by.result ≡ false = search rules in
    let e : c.distance_of-distance.result ≡ distance_of c.sj-by.result = search rules in
    let l = jump_fits c.sj-by.result c.requires (sym c.sj-by.ensures) z in omega (arith, l, e)

pub returns-then-not-leads_back-clause-goes : goal.returns-then-not-leads_back-clause-goes
returns-then-not-leads_back-clause-goes c =
    let z : leads_back c.sj-by.result ≡ false = search rules in
    let e : c.distance_of-distance.result ≡ distance_of c.sj-by.result = search rules in
    forward_does c.sj-by.result c.requires (sym c.sj-by.ensures) z (c.behind.ensures ∙ ap (λ d. c.args.site.pc + (d + 1)) e)

pub back-requires : goal.back-requires
back-requires c =
    let z : leads_back c.sj-by.result ≡ true = search rules in
    let e : c.distance_of-distance.result ≡ distance_of c.sj-by.result = search rules in
    let l = back_fits c.sj-by.result c.requires (sym c.sj-by.ensures) z in
    record { there = next_there c.requires refl; near = omega (arith, l, e) }

pub returns-clause-goes : goal.returns-clause-goes
returns-clause-goes c =
    let z : leads_back c.sj-by.result ≡ true = search rules in
    let e : c.distance_of-distance.result ≡ distance_of c.sj-by.result = search rules in
    back_does c.sj-by.result c.requires (sym c.sj-by.ensures) z (c.back.ensures ∙ ap (λ d. c.args.site.pc + 1 - d) e) c.in_ok-pay.ensures.paid
