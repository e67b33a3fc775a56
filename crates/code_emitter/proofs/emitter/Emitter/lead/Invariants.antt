-- The jumps that are left lead on to what all of them come to.
use Rattle.std.proofs.Common.{◌≡◌, drop}
use Rattle.code_emitter.specs.Leading.{led_on}
use Rattle.code_emitter.proofs.emitter.Emitter.lead.Given as goal

abbrev pub invariant-loop-place : goal.invariant-loop-place
invariant-loop-place l = led_on l.self (drop l.place-index l.place-items) l.to ≡ led_on l.fn.self l.places.items l.to
