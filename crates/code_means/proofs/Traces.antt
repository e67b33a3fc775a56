-- What an activation asks where each ask is answered by a rule, so that a tree and its code can be compared by computing.
use Rattle.std.specs.Prelude.{ℕ, zero, suc, ◌+◌, ◌*◌, pos, List, [], ◌∷◌, map}
use Rattle.int_core.specs.Value.{Value, known, object, integer, a_table, a_function}
use Rattle.int_core.specs.Ask.{Ask, reads_upvalue, makes_table, makes_function, operates, calls, calls_last, closes, raises, leaves, Reply, values, Answer, Next, goes_on, says, stuck, runs}
use Rattle.code_means.specs.Asks.{Said, shown}

abbrev pub number : ℕ → Value
number n = known (integer (pos n))

-- an answer at once: the shared values are as they were
abbrev quiet : ℕ → List Value → List (ℕ × Value) → Answer
quiet i vs shared = record { reply = values vs; shared = map (λ s. s.1) shared; cell = 50 + i }

abbrev renewed : ℕ → List (ℕ × Value) → List Value
renewed n [] = []
renewed n (s ∷ shared) = number n ∷ renewed (suc n) shared

-- an answer after other activations ran: each shared cell has a new value
abbrev after_others : ℕ → Reply → List (ℕ × Value) → Answer
after_others i reply shared = record { reply = reply; shared = renewed (900 + 10 * i) shared; cell = 0 }

pub data Turn : Type 0 where
  at_once : Answer → Turn
  by_reply : Turn
  at_an_end : Turn

abbrev pub turn_of : {F : Type 0} → ℕ → Ask F → List (ℕ × Value) → Turn
turn_of i (reads_upvalue u) shared = at_once (quiet i (number (100 + u) ∷ []) shared)
turn_of i makes_table shared = at_once (quiet i (object a_table i ∷ []) shared)
turn_of i (makes_function f cells) shared = at_once (quiet i (object a_function i ∷ []) shared)
turn_of i (operates op vs) shared = by_reply
turn_of i (calls f vs) shared = by_reply
turn_of i (calls_last f vs) shared = by_reply
turn_of i (closes v e) shared = by_reply
turn_of i (raises text) shared = by_reply
turn_of i (leaves l) shared = at_an_end
turn_of i q shared = at_once (quiet i [] shared)

-- at most `own` steps between two asks, and at most n asks; the replies are given to operations, calls, closings and errors in turn
module _ {F S : Type 0} (step : S → Next F S) (own : ℕ) where
  abbrev pub trace : (n i : ℕ) → Next F S → List Reply → List Said
  trace zero i next replies = []
  trace (suc n) i (goes_on s) replies = []
  trace (suc n) i stuck replies = []
  trace (suc n) i (says q line shared k) replies = record { ask = shown q; line = line; shared = shared } ∷ elim (turn_of i q shared) [
    | at_once x ↦ trace n (suc i) (runs step own (k x)) replies
    | by_reply ↦ elim replies [ [] ↦ [] | r ∷ rs ↦ trace n (suc i) (runs step own (k (after_others i r shared))) rs ]
    | at_an_end ↦ []
  ]
