use Rattle.std.proofs.Common.{rules, arith, ◌≡◌, ◌+◌, ◌-◌, ◌<◌, refl, subst, ap, ◌∙◌, length, drop}
use Rattle.std.specs.Prelude.{slice_index_or}
use Rattle.code_stat.specs.Whole.{filled}
use Rattle.code_stat.proofs.Filling.{next_led, none_led_yet}
use Rattle.code_stat.proofs.writer.Writer.lead_all.Goals as goal

pub loop-left-init : goal.loop-left-init
loop-left-init c =
    let size : c.len-left.result ≡ length c.args.self.now.jumps.items = search rules in (
      omega (arith, size),
      refl,
      refl,
      none_led_yet c.args.self.now.jumps.items c.len-left.result c.args.self.now.emitter (omega (arith, size)),
    )

pub loop-left-preserved : goal.loop-left-preserved
loop-left-preserved c =
    let inside : c.loop-left.left - 1 < length c.loop-left.self.jumps.items = omega (arith, c.loop-left.invariant.0, c.loop-left-test.true) in
    let is : c.index.result.now ≡ slice_index_or c.loop-left.self.jumps.items (c.loop-left.left - 1) c.index.result.now = search rules in
    let one : c.loop-left.left ≡ c.loop-left.left - 1 + 1 = omega (arith, c.loop-left-test.true) in (
      omega (arith, c.loop-left.invariant.0),
      c.loop-left.invariant.1,
      c.loop-left.invariant.2,
      next_led c.loop-left.self.jumps.items (c.loop-left.left - 1) c.index.result.now c.args.self.now.emitter c.loop-left.self.emitter c.lead.new.emitter inside is
          (subst (λ n. c.loop-left.self.emitter ≡ filled c.args.self.now.emitter (drop n c.loop-left.self.jumps.items)) one c.loop-left.invariant.3) c.in_ok-lead.ensures,
    )

pub returns-clause-code : goal.returns-clause-code
returns-clause-code c =
    let none : c.loop-left.left ≡ 0 = omega (arith, c.loop-left-test.false) in
    c.loop-left.invariant.3 ∙ ap (λ n. filled c.args.self.now.emitter (drop n c.loop-left.self.jumps.items)) none ∙ ap (λ js. filled c.args.self.now.emitter js.items) c.loop-left.invariant.1

pub returns-clause-variables : goal.returns-clause-variables
returns-clause-variables c = c.loop-left.invariant.2
