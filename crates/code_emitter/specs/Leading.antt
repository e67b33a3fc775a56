-- Jumps that lead past code which is not written yet: their places, and what the code is once they are led somewhere.
use Rattle.std.specs.Prelude.{◌≡◌, ℕ, ◌+◌, ◌-◌, List, [], ◌∷◌, ◌++◌, length, slice_set, slice_index_or}
use Rattle.code_core.specs.declared.opcode.Opcode.TheVariants.{Jmp}
use Rattle.code_core.specs.Instruction.{op_ax}
use Rattle.code_of.specs.Coded.{Coded}
use Rattle.code_emitter.specs.declared.emitter.Step.{Step}
use Rattle.code_emitter.specs.Listing.{Listing, low, steps}

-- no step has this place
abbrev pub no_step : Step
no_step = record { instruction = record { 0 = 0 }; line = 0 }

-- the jump at a place leads to another one further on
abbrev pub led : (place to : ℕ) → List Step → List Step
led place to xs = slice_set xs place (record { instruction = low (op_ax Jmp (16777215 + (to - (place + 1)))); line = (slice_index_or xs place no_step).line })

abbrev pub all_led : List ℕ → (to : ℕ) → List Step → List Step
all_led [] to xs = xs
all_led (p ∷ ps) to xs = all_led ps to (led p to xs)

abbrev pub led_on : Listing → List ℕ → (to : ℕ) → Listing
led_on s places to = record { constants = s.constants; steps = all_led places to s.steps; made = s.made }

-- between two listings stands code whose jumps at these places lead some way past its end: for each distance, what it is once they do
pub record Opened (before after : Listing) (code : (ahead : ℕ) → List Coded) (made : ℕ) (places : List ℕ) : Type 0 where
  pub draft : List Step
  pub constants_is : after.constants ≡ before.constants
  pub made_is : after.made ≡ before.made + made
  pub steps_is : after.steps ≡ before.steps ++ draft
  pub size : (ahead : ℕ) → length draft ≡ length (code ahead)
  pub leads : (front rest : List Step) (ahead : ℕ) → length front ≡ length before.steps
      → all_led places (length front + length draft + ahead) (front ++ (draft ++ rest)) ≡ front ++ (steps (code ahead) ++ rest)
