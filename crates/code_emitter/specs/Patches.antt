-- Instructions that take the place of others.
use Rattle.std.specs.Prelude.{ℕ, ◌+◌, ◌-◌, cond, nat_le, slice_set}
use Rattle.code_of.specs.Coded.{Coded, jump_over, jump_back}
use Rattle.code_emitter.specs.declared.emitter.Step.{Step}
use Rattle.code_emitter.specs.Listing.{Listing, step}

abbrev pub set : Listing → ℕ → Step → Listing
set before place x = record { constants = before.constants; steps = slice_set before.steps place x; made = before.made }

abbrev pub replaced : Listing → ℕ → Coded → Listing
replaced before place x = set before place (step x)

-- the jump at a place that leads to another
abbrev pub jump_to : (place to line : ℕ) → Coded
jump_to place to line = cond (nat_le (place + 1) to) (jump_over (to - (place + 1)) line) (jump_back (place + 1 - to) line)
