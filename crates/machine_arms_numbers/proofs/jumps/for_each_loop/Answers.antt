use Rattle.std.proofs.Common.{◌≡◌, ◌+◌, ◌-◌, ◌∙◌, ap, sym, refl, Some, arith}
use Rattle.machine_view.proofs.Places.{next_there}
use Rattle.table_core.specs.declared.value.Value.TheVariants.{Nil}
use Rattle.machine_arms_numbers.proofs.LoopRows.{each_back, each_value, each_ends, each_goes}
use Rattle.machine_arms_numbers.proofs.LoopRows.{nil_is}
use Rattle.machine_arms_numbers.proofs.jumps.for_each_loop.Goals as goal

pub get_above-v-requires : goal.get_above-v-requires
get_above-v-requires c = each_value c.requires 4 (omega arith)

pub behind-requires : goal.behind-requires
behind-requires c = next_there c.requires refl

pub returns-then-eq : goal.returns-then-eq
returns-then-eq c =
    let v : c.get_above-v.result ≡ Nil = nil_is c.get_above-v.result (sym c.eq.ensures ∙ c.if-eq.true) in
    each_ends c.requires (c.get_above-v.ensures ∙ ap Some v) c.behind.ensures

pub set_above-requires : goal.set_above-requires
set_above-requires c = each_value c.requires 2 (omega arith)

pub back-requires : goal.back-requires
back-requires c = let l = each_back c.requires in let m = l.0 in let e = c.bx.ensures in record { there = next_there c.requires refl; near = omega (arith, m, e) }

pub returns : goal.returns
returns c = each_goes c.get_above-v.result c.requires c.get_above-v.ensures (sym c.eq.ensures ∙ c.if-eq.false) c.in_ok-pay.ensures.paid c.set_above.ensures (c.back.ensures ∙ ap (λ d. c.args.site.pc + 1 - d) c.bx.ensures)
