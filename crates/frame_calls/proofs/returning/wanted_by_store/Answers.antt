use Rattle.std.proofs.Common.{refl, sym}
use Rattle.frame_calls.specs.Returning.{by_store}
use Rattle.frame_calls.proofs.returning.wanted_by_store.Goals as goal

pub returns : goal.returns
returns c = ((λ words pc. by_store c.in_ok-opcode.opcode (sym c.in_ok-opcode.ensures) refl), refl)
