use Rattle.std.proofs.Common.{◌+◌, ◌∙◌, ap, sym, refl, arith}
use Rattle.code_core.specs.Instruction.{a_of}
use Rattle.machine_view.proofs.Places.{register_there}
use Rattle.machine_arms_numbers.proofs.LoopRows.{each_place, each_begins}
use Rattle.machine_arms_numbers.proofs.jumps.for_each_prep.Goals as goal

pub get_above-requires : goal.get_above-requires
get_above-requires c = register_there c.requires 0 (a_of c.args.site.word + 3) refl

pub behind-requires : goal.behind-requires
behind-requires c = let l = each_place c.requires in let e = c.bx.ensures in omega (arith, l, e)

pub returns : goal.returns
returns c = each_begins c.get_above.result c.requires c.get_above.ensures (sym c.truthy.ensures ∙ c.if-truthy.false) (c.behind.ensures ∙ ap (λ n. c.args.site.pc + (n + 1)) c.bx.ensures)
