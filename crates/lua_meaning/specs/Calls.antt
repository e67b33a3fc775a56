-- Calls and what follows them: results that reach a frame, errors, closing methods, and the moves between coroutines
-- (Lua 5.4 manual, 2.3, 2.6 and 3.3.8).
use Rattle.std.specs.Prelude.{ℕ, zero, suc, Bool, true, false, cond, List, [], ◌∷◌, ◌++◌, length, Option, Some, None, nat_lt, slice_get, slice_set, codes}
use Rattle.int_core.specs.Value.{nil, boolean, string, primitive, a_function, Value, known, object, nth, error_or_nil}
use Rattle.int_core.specs.Limits.{greatest_resumes, stack_overflow}
use Rattle.int_core.specs.Operations.{Callee, callee, not_callable, callee_of, greatest_chain, handler_in, of_close}
use Rattle.int_core.specs.Ask.{values, left}
use Rattle.lua_meaning.specs.World.{System, Function, Asker, Frame, talking, waiting, raising, protected, handled_by, handling, closing, Coroutine, fresh, suspended, running, normal, dead, failed, yielded, returned, failed_with, spent, talks, gives_back, unwinds, calls_primitive, ends, World, now_in, breaks, has_room, on_frames, runs_main, raises_text, shared_out, answered}

abbrev pub text : List ℕ → Value
text bytes = known (string bytes)

abbrev pub truth : Bool → Value
truth b = known (boolean b)

-- coroutines

abbrev pub put_coroutine : {F S : Type 0} → World F S → ℕ → Coroutine S → World F S
put_coroutine W co c = record W { coroutines = slice_set W.coroutines co c }

abbrev pub frames_in : {S : Type 0} → Option (Coroutine S) → List (Frame S)
frames_in (Some (suspended frames)) = frames
frames_in (Some (normal frames)) = frames
frames_in _ = []

-- the running coroutine is left as `c`, and the one that resumed it goes on with these values
abbrev pub back_to : {F S : Type 0} → World F S → Coroutine S → List Value → List ℕ → World F S
back_to W c vs (co ∷ by ∷ chain) =
    record W {
      coroutines = slice_set (slice_set W.coroutines co c) by running;
      chain = by ∷ chain;
      frames = frames_in (slice_get W.coroutines by);
      now = gives_back vs;
    }
back_to W c vs _ = breaks W

abbrev pub leaves_coroutine : {F S : Type 0} → World F S → Coroutine S → List Value → World F S
leaves_coroutine W c vs = back_to W c vs W.chain

-- an activation is told that it is left, with the present values of the cells that it shares
abbrev pub left_now : {S : Type 0} → (cells : List Value) → Asker S → S
left_now cells asker = asker.goes (record { reply = left (known nil); shared = shared_out asker.shared cells; cell = 0 })

-- the coroutine comes to its end
abbrev pub returns_all : {F S : Type 0} → World F S → List Value → World F S
returns_all W vs = cond (runs_main W) (now_in W (ends (returned vs))) (leaves_coroutine W dead (truth true ∷ vs))

abbrev pub error_in_handler : Value
error_in_handler = text (codes "error in error handling")

-- what `coroutine.close` gives, with the last error of the closing methods
abbrev pub all_closed : {F S : Type 0} → World F S → Option Value → World F S
all_closed W None = now_in W (gives_back (truth true ∷ []))
all_closed W (Some e) = now_in W (gives_back (truth false ∷ e ∷ []))

abbrev pub refuses : {F S : Type 0} → World F S → List ℕ → World F S
refuses W why = now_in W (gives_back (truth false ∷ text why ∷ []))

-- the running coroutine waits, and `co` runs in its place
abbrev pub goes_along : {F S : Type 0} → World F S → ℕ → List (Frame S) → (chain : List ℕ) → World F S
goes_along W co frames [] = breaks W
goes_along W co frames (by ∷ chain) =
    record W {
      coroutines = slice_set (slice_set W.coroutines by (normal W.frames)) co running;
      chain = co ∷ by ∷ chain;
      frames = frames;
    }

abbrev pub goes_into : {F S : Type 0} → World F S → ℕ → List (Frame S) → World F S
goes_into W co frames = goes_along W co frames W.chain

-- a yield of the main coroutine ends the turn
abbrev pub yields : {F S : Type 0} → World F S → List Value → World F S
yields W vs = cond (runs_main W) (now_in W (ends (yielded vs))) (leaves_coroutine W (suspended W.frames) (truth true ∷ vs))

module _ {F S : Type 0} (system : System F S) where
  -- what frames still have to close is asked of their activations, as if they were left

  abbrev pub pending_of : World F S → Asker S → List Value
  pending_of W asker = elim (slice_get W.functions asker.function) [ None ↦ [] | Some g ↦ system.pending g.made_of (left_now W.cells asker) ]

  abbrev pub pending_in : World F S → Frame S → List Value
  pending_in W (waiting asker) = pending_of W asker
  pending_in W (raising asker) = pending_of W asker
  pending_in W _ = []

  -- the values to be closed in all frames, in the order in which they are closed
  abbrev pub all_pending : World F S → List (Frame S) → List Value
  all_pending W [] = []
  all_pending W (f ∷ frames) = pending_in W f ++ all_pending W frames

  abbrev pub fails_all : World F S → Value → World F S
  fails_all W e = cond (runs_main W) (now_in W (ends (failed_with e))) (leaves_coroutine W (failed e (all_pending W W.frames)) (truth false ∷ e ∷ []))

  -- calls

  -- a function is entered; a call beyond the depth is refused
  abbrev pub enters_function : World F S → (number : ℕ) → Option (Function F) → List Value → (refused : List ℕ → World F S → World F S) → World F S
  enters_function W n None arguments refused = breaks W
  enters_function W n (Some f) arguments refused =
      cond (has_room W) (record W { frames = talking n (system.starts f.made_of arguments) ∷ W.frames; now = talks }) (refused stack_overflow W)

  abbrev pub enters : World F S → Value → List Value → (refused : List ℕ → World F S → World F S) → World F S
  enters W (known (primitive n)) arguments refused = now_in W (calls_primitive n arguments)
  enters W (object a_function n) arguments refused = enters_function W n (slice_get W.functions n) arguments refused
  enters W _ arguments refused = breaks W

  -- a call costs a unit; where none is left, the turn is spent
  abbrev pub pays_with : (fuel : ℕ) → World F S → Value → List Value → (refused : List ℕ → World F S → World F S) → World F S
  pays_with zero W f arguments refused = now_in W (ends spent)
  pays_with (suc fuel) W f arguments refused = enters (record W { fuel = fuel }) f arguments refused

  abbrev pub pays_for : World F S → Callee → (refused : List ℕ → World F S → World F S) → World F S
  pays_for W (not_callable why) refused = refused why W
  pays_for W (callee f arguments) refused = pays_with W.fuel W f arguments refused

  abbrev pub calls_value : World F S → Value → List Value → (refused : List ℕ → World F S → World F S) → World F S
  calls_value W f arguments refused = pays_for W (callee_of greatest_chain W.heap f arguments) refused

  -- a call by a frame that is pushed for it: the error of a callee that cannot be called is raised above that frame
  abbrev pub calls_over : World F S → Frame S → Value → List Value → World F S
  calls_over W frame f arguments =
      cond (has_room W) (calls_value (on_frames W (frame ∷ W.frames)) f arguments (λ why V. raises_text V why)) (raises_text W stack_overflow)

  -- the closing of a coroutine's variables, the last one first, each with the error so far or nil

  abbrev pub closes_on : World F S → Option Value → List Value → List (Frame S) → World F S
  closes_on W e [] below = all_closed (on_frames W below) e
  closes_on W e (v ∷ vs) below =
      calls_value (on_frames W (closing e vs ∷ below)) (handler_in W.heap of_close v) (v ∷ error_or_nil e ∷ []) (λ why V. raises_text V why)

  -- results reach the frame on top
  abbrev pub handed : World F S → List Value → List (Frame S) → World F S
  handed W vs [] = returns_all W vs
  handed W vs (talking f s ∷ below) = breaks W
  handed W vs (waiting asker ∷ below) = answered W asker (values vs) below
  handed W vs (raising asker ∷ below) = breaks W
  handed W vs (protected ∷ below) = now_in (on_frames W below) (gives_back (truth true ∷ vs))
  handed W vs (handled_by h ∷ below) = now_in (on_frames W below) (gives_back (truth true ∷ vs))
  handed W vs (handling ∷ below) = now_in (on_frames W below) (unwinds (nth vs 0))
  handed W vs (closing e vs_left ∷ below) = closes_on W e vs_left below

  -- errors

  -- an error was raised: the nearest frame that is no activation's decides. An `xpcall` calls its message handler on top of all frames,
  -- before any of them is left
  abbrev pub raised_to : World F S → Value → List (Frame S) → World F S
  raised_to W e [] = cond (runs_main W) (now_in W (unwinds e)) (fails_all W e)
  raised_to W e (talking f s ∷ frames) = raised_to W e frames
  raised_to W e (waiting asker ∷ frames) = raised_to W e frames
  raised_to W e (raising asker ∷ frames) = raised_to W e frames
  raised_to W e (handled_by h ∷ frames) =
      cond (has_room W)
      (calls_value (on_frames W (handling ∷ W.frames)) h (e ∷ []) (λ why V. now_in V (unwinds error_in_handler)))
      (now_in W (unwinds error_in_handler))
  raised_to W e (protected ∷ frames) = now_in W (unwinds e)
  raised_to W e (handling ∷ frames) = now_in W (unwinds e)
  raised_to W e (closing error vs_left ∷ frames) = now_in W (unwinds e)

  -- an error reaches the frame on top
  abbrev pub unwound : World F S → Value → List (Frame S) → World F S
  unwound W e [] = fails_all W e
  unwound W e (talking f s ∷ below) = breaks W
  unwound W e (waiting asker ∷ below) = answered W asker (left e) below
  unwound W e (raising asker ∷ below) = answered W asker (left e) below
  unwound W e (protected ∷ below) = now_in (on_frames W below) (gives_back (truth false ∷ e ∷ []))
  unwound W e (handled_by h ∷ below) = now_in (on_frames W below) (gives_back (truth false ∷ e ∷ []))
  unwound W e (handling ∷ below) = now_in (on_frames W below) (unwinds error_in_handler)
  unwound W e (closing error vs_left ∷ below) = closes_on W (Some e) vs_left below

  -- moves between coroutines

  abbrev pub resumes : World F S → ℕ → Coroutine S → List Value → World F S
  resumes W co (fresh body) vs =
      cond (nat_lt greatest_resumes (length W.chain)) (refuses W (codes "too many nested resumes")) (enters (goes_into W co []) body vs (λ why V. raises_text V why))
  resumes W co (suspended frames) vs =
      cond (nat_lt greatest_resumes (length W.chain)) (refuses W (codes "too many nested resumes")) (now_in (goes_into W co frames) (gives_back vs))
  resumes W co running vs = refuses W (codes "cannot resume non-suspended coroutine")
  resumes W co (normal frames) vs = refuses W (codes "cannot resume non-suspended coroutine")
  resumes W co dead vs = refuses W (codes "cannot resume dead coroutine")
  resumes W co (failed e pending) vs = refuses W (codes "cannot resume dead coroutine")

  -- the coroutine is dead from here on, and its variables are closed in the coroutine that runs
  abbrev pub closes_in : World F S → ℕ → Option Value → List Value → World F S
  closes_in W co e vs = cond (has_room W) (closes_on (put_coroutine W co dead) e vs W.frames) (raises_text W stack_overflow)

  abbrev pub closes_coroutine : World F S → ℕ → Coroutine S → World F S
  closes_coroutine W co (fresh body) = closes_in W co None []
  closes_coroutine W co (suspended frames) = closes_in W co None (all_pending W frames)
  closes_coroutine W co (failed e pending) = closes_in W co (Some e) pending
  closes_coroutine W co dead = closes_in W co None []
  closes_coroutine W co running = raises_text W (codes "cannot close a running coroutine")
  closes_coroutine W co (normal frames) = raises_text W (codes "cannot close a normal coroutine")
