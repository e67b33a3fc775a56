use Rattle.std.proofs.Common.{[]}
use Rattle.int_core.specs.Value.{holds}
use Rattle.machine_core.specs.Text.{read_register}
use Rattle.machine_core.specs.InstructionRows.{tested}
use Rattle.machine_core.specs.FrameRows.{expand}
use Rattle.move_laws.proofs.Rows.{first, can_do, safe_after}
use Rattle.machine_rows.proofs.truths.test.Goals as goal

pub read_register-v-requires : goal.read_register-v-requires
read_register-v-requires c = can_do (read_register c.args.register) (λ _ s. expand (tested (holds s) c.args.wanted)) (c.requires.safe c.requires.at.place.function.code)

pub test_value-requires-clause-safe : goal.test_value-requires-clause-safe
test_value-requires-clause-safe c = safe_after (λ _ s. expand (tested (holds s) c.args.wanted)) (c.requires.safe c.requires.at.place.function.code) (c.read_register-v.ensures [])

pub returns-clause-leads : goal.returns-clause-leads
returns-clause-leads c = λ p. first (λ _ s. expand (tested (holds s) c.args.wanted)) (c.read_register-v.ensures []) c.test_value.ensures.leads
