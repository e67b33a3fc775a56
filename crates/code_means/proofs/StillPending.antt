-- What code still closes where it is left is what its pending registers hold then, and not what they held as they were marked.
use Rattle.std.proofs.Common.{◌≡◌, false, List, [], ◌∷◌, refl}
use Rattle.std.specs.Prelude.{map}
use Rattle.std.specs.Fmt.{digits}
use Rattle.std.specs.Int.{int_wrap}
use Rattle.int_core.specs.Value.{nil, Value, known}
use Rattle.int_core.specs.Ask.{Reply, values, left, Next, says, runs}
use Rattle.code_core.specs.Opcode.{opcodes, number_of}
use Rattle.code_core.specs.Prototype.{Prototype}
use Rattle.code_core.specs.declared.opcode.Opcode.TheVariants.{Tbc, Call, Return}
use Rattle.code_core.specs.Instruction.{abc}
use Rattle.machine_core.specs.Talk.{State, talk_start, talk_step}
use Rattle.code_means.specs.Runs.{codes_run}
use Rattle.code_means.proofs.Forms.{code, load_int}
use Rattle.code_means.proofs.Traces.{number}

-- a parameter is marked, then its register is written, and then another activation is called
abbrev marks_and_writes : Prototype
marks_and_writes = code 1 false [] [] [] [] (abc Tbc 0 0 0 false ∷ load_int 0 7 ∷ abc Call 1 1 1 false ∷ abc Return 0 1 0 false ∷ [])

-- after its first asks are answered so
abbrev answered : List Reply → Next Prototype State → List Value
answered (reply ∷ []) (says q line shared k) = codes_run.pending marks_and_writes (k (record { reply = reply; shared = map (λ s. s.1) shared; cell = 0 }))
answered (reply ∷ replies) (says q line shared k) = answered replies (runs (talk_step marks_and_writes) 9 (k (record { reply = reply; shared = map (λ s. s.1) shared; cell = 0 })))
answered _ _ = number 99 ∷ []

written_is_closed : answered (values [] ∷ left (known nil) ∷ []) (runs (talk_step marks_and_writes) 9 (talk_start marks_and_writes (number 3 ∷ []))) ≡ number 7 ∷ []
unfolding opcodes number_of int_wrap digits
written_is_closed = refl

-- and before it is written
marked_is_closed : answered (values [] ∷ []) (runs (talk_step marks_and_writes) 9 (talk_start marks_and_writes (number 3 ∷ []))) ≡ []
unfolding opcodes number_of int_wrap digits
marked_is_closed = refl
