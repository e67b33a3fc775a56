use Rattle.std.proofs.Common.{◌+◌, ◌∙◌, ap, refl, arith}
use Rattle.code_core.specs.Instruction.{a_of}
use Rattle.machine_view.proofs.Places.{next_there}
use Rattle.machine_arms_numbers.specs.Numbers.{cleared}
use Rattle.machine_arms_numbers.proofs.LoadRows.{nil_fits, nil_does}
use Rattle.machine_arms_numbers.proofs.loads.load_nil.Goals as goal

pub clear-requires : goal.clear-requires
clear-requires c = let l = nil_fits c.requires in let a = c.a.ensures in let b = c.b.ensures in omega (arith, l, a, b)

pub behind-requires : goal.behind-requires
behind-requires c = next_there c.requires refl

pub returns : goal.returns
returns c = nil_does c.requires (c.clear.ensures ∙ ap (λ a. cleared a (c.b.result + 1) c.args.registers.now) c.a.ensures ∙ ap (λ b. cleared (a_of c.args.site.word) (b + 1) c.args.registers.now) c.b.ensures) c.behind.ensures
