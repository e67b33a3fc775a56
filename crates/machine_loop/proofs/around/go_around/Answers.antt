use Rattle.std.proofs.Common.{inl, inr, refl, sym, subst, ◌∙◌}
use Rattle.std.proofs.lemmas.Option.{IfSome_then}
use Rattle.machine_arms_tables.specs.Frame.{code}
use Rattle.machine_view.specs.Law.{HasInstruction}
use Rattle.machine_loop.specs.Around.{GoesBeyond}
use Rattle.machine_loop.proofs.Alike.{none_then}
use Rattle.machine_loop.proofs.around.go_around.Goals as goal

pub fetch-i-requires : goal.fetch-i-requires
fetch-i-requires c = c.requires.there

pub returns-in-Some-clause-goes : goal.returns-in-Some-clause-goes
returns-in-Some-clause-goes c = inl (c.in-Some.ensures.reads, refl)

pub go_beyond-requires : goal.go_beyond-requires
go_beyond-requires c = subst (λ r. HasInstruction c.args.closure.words.now c.args.closure.constants.now r c.args.pc) (sym c.in-None.ensures.kept) c.requires

pub returns-in-None-clause-goes : goal.returns-in-None-clause-goes
returns-in-None-clause-goes c =
    IfSome_then c.go_beyond.result c.go_beyond.ensures.goes
    (λ to x. inr (subst (λ r. GoesBeyond (code c.args.closure c.args.strings.now) c.args.tables.now.objects c.go_beyond.new.tables.objects c.args.cells.now.objects r c.go_beyond.new.registers c.args.pc to) c.in-None.ensures.kept x))

pub returns-in-None-clause-registers : goal.returns-in-None-clause-registers
returns-in-None-clause-registers c = none_then c.go_beyond.result (λ same. same ∙ c.in-None.ensures.kept) c.go_beyond.ensures.registers
