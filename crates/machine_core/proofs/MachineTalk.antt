-- What activations of short codes ask, by the first reading of the same texts.
use Rattle.std.proofs.Common.{◌≡◌, ℕ, false, List, [], ◌∷◌, refl}
use Rattle.std.specs.Prelude.{codes}
use Rattle.std.specs.Int.{int_wrap}
use Rattle.code_core.specs.Opcode.{opcodes, number_of}
use Rattle.code_core.specs.declared.opcode.Opcode.TheVariants.{NewTable, Return1, SetList, ExtraArg}
use Rattle.code_core.specs.Instruction.{abc, op_ax}
use Rattle.code_core.specs.Prototype.{Prototype}
use Rattle.int_core.specs.Value.{nil, primitive, a_table, Value, known, object}
use Rattle.int_core.specs.Operations.{of_add, arithmetic}
use Rattle.int_core.specs.Ask.{Reply, values, faulted, left, Ask, reads_upvalue, makes_table, fills_table, makes_function, opens, operates, calls, marks, closes, raises, leaves, returns, throws, of_local, Answer}
use Rattle.machine_core.specs.Talk.{asked, talk_start, talk_step}
use Rattle.machine_core.proofs.Machine.{code, load, int, fails, faults, counted, counts, body, sets}

abbrev answered : Reply → Answer
answered r = record { reply = r; shared = []; cell = 0 }

abbrev one : Value → Answer
one v = answered (values (v ∷ []))

abbrev none : Answer
none = answered (values [])

abbrev asks : Prototype → List Answer → List (Ask Prototype × List (ℕ × Value))
asks p answers = asked 90 p (talk_step p (talk_start p [])) answers

abbrev first : List (Ask Prototype × List (ℕ × Value)) → List (Ask Prototype)
first [] = []
first (a ∷ rest) = a.0 ∷ first rest

abbrev to_close : Value
to_close = object a_table 0

-- a fault of the own step is told of before anything is closed, and the answer is the error with which the variables are closed
own_fault : first (asks faults (one to_close ∷ none ∷ one to_close ∷ none ∷ answered (faulted (codes "no")) ∷ answered (left (int 5)) ∷ none ∷ none ∷ [])) ≡
    reads_upvalue 1 ∷ marks to_close (codes "?") ∷ reads_upvalue 1 ∷ marks to_close (codes "?")
    ∷ operates (arithmetic of_add) (known nil ∷ int 1 ∷ []) ∷ raises (codes "no") ∷ closes to_close (int 5) ∷ closes to_close (int 5) ∷ leaves (throws (int 5)) ∷ []
unfolding opcodes number_of int_wrap
own_fault = refl

-- an activation that is left from above while it waits for a call asks for no handler; an error of a closing method replaces the error
left_from_above : first (asks fails (one to_close ∷ none ∷ one to_close ∷ none ∷ one (known (primitive 2)) ∷ answered (left (int 5)) ∷ answered (left (int 6)) ∷ none ∷ [])) ≡
    reads_upvalue 1 ∷ marks to_close (codes "?") ∷ reads_upvalue 1 ∷ marks to_close (codes "?") ∷ reads_upvalue 2
    ∷ calls (known (primitive 2)) (int 42 ∷ []) ∷ closes to_close (int 5) ∷ closes to_close (int 6) ∷ leaves (throws (int 6)) ∷ []
unfolding opcodes number_of int_wrap
left_from_above = refl

-- a closing method that is not callable is a fault of the own step
not_callable : first (asks fails (one to_close ∷ none ∷ one to_close ∷ none ∷ one (known (primitive 2)) ∷ answered (left (int 5)) ∷ answered (faulted (codes "no")) ∷ answered (left (int 7)) ∷ none ∷ [])) ≡
    reads_upvalue 1 ∷ marks to_close (codes "?") ∷ reads_upvalue 1 ∷ marks to_close (codes "?") ∷ reads_upvalue 2
    ∷ calls (known (primitive 2)) (int 42 ∷ []) ∷ closes to_close (int 5) ∷ raises (codes "no") ∷ closes to_close (int 7) ∷ leaves (throws (int 7)) ∷ []
unfolding opcodes number_of int_wrap
not_callable = refl

-- a captured local gets cell 3 by an ask of its own, and goes with each ask from then on; the call brings 8
shared_local : asks counted (record { reply = values []; shared = []; cell = 3 } ∷ record { reply = values (int 4 ∷ []); shared = int 5 ∷ []; cell = 0 } ∷ record { reply = values (int 8 ∷ []); shared = int 8 ∷ []; cell = 0 } ∷ []) ≡
    (opens (int 5), []) ∷ (makes_function counts (of_local 3 ∷ []), (3, int 5) ∷ []) ∷ (calls (int 4) [], (3, int 7) ∷ [])
    ∷ (leaves (returns (int 8 ∷ int 8 ∷ int 7 ∷ int 8 ∷ [])), (3, int 8) ∷ []) ∷ []
unfolding opcodes number_of int_wrap
shared_local = refl

-- another function writes the captured local while the activation waits: the answer brings the value that it returns
written_while_waiting : asks body (record { reply = values []; shared = []; cell = 3 } ∷ record { reply = values (int 4 ∷ []); shared = int 1 ∷ []; cell = 0 } ∷ record { reply = values (known (primitive 4) ∷ []); shared = int 1 ∷ []; cell = 0 } ∷ record { reply = values []; shared = int 9 ∷ []; cell = 0 } ∷ []) ≡
    (opens (int 1), []) ∷ (makes_function sets (of_local 3 ∷ []), (3, int 1) ∷ []) ∷ (reads_upvalue 0, (3, int 1) ∷ [])
    ∷ (calls (known (primitive 4)) (int 4 ∷ []), (3, int 1) ∷ []) ∷ (leaves (returns (int 9 ∷ [])), (3, int 9) ∷ []) ∷ []
unfolding opcodes number_of int_wrap
written_while_waiting = refl

-- an instruction that stores two values asks once for each
abbrev stores_two : Prototype
stores_two = code 0 false 3 [] [] [] (abc NewTable 0 0 0 false ∷ op_ax ExtraArg 0 ∷ load 1 5 ∷ load 2 6 ∷ abc SetList 0 2 3 false ∷ abc Return1 0 0 0 false ∷ [])

one_by_one : first (asks stores_two (one (object a_table 8) ∷ none ∷ none ∷ [])) ≡
    makes_table ∷ fills_table (object a_table 8) 3 (int 5 ∷ []) ∷ fills_table (object a_table 8) 4 (int 6 ∷ []) ∷ leaves (returns (object a_table 8 ∷ [])) ∷ []
unfolding opcodes number_of int_wrap
one_by_one = refl
