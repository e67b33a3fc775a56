use Rattle.std.proofs.Common.{◌∙◌, ap}
use Rattle.std.specs.Prelude.{slice_set}
use Rattle.machine_arms_tables.proofs.Leading.{below}
use Rattle.machine_arms_tables.proofs.site.Site.store.Goals as goal

pub set_register-requires : goal.set_register-requires
set_register-requires c = below c.a.ensures c.requires.there

pub returns-clause-registers : goal.returns-clause-registers
returns-clause-registers c = c.set_register.ensures ∙ ap (λ a. slice_set c.args.registers.now a c.args.v) c.a.ensures
