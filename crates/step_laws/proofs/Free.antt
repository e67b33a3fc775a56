-- Rows that cost nothing never end because the budget is spent.
use Rattle.std.proofs.Common.{◌≡◌, ℕ, zero, suc, ◌+◌, List, [], ◌∷◌, ◌++◌, length, drop, Option, Some, None, ap, sym, subst, Bool, true, false, cond}
use Rattle.std.specs.Prelude.{codes}
use Rattle.code_core.specs.declared.opcode.Opcode.{Opcode}
use Rattle.code_core.specs.declared.opcode.Opcode.TheVariants.{MmBin, MmBinI, MmBinK}
use Rattle.code_core.specs.declared.instruction.Instruction.{Instruction}
use Rattle.code_core.specs.Instruction.{opcode_of, a_of, c_of}
use Rattle.code_core.specs.Prototype.{Prototype}
use Rattle.code_core.specs.Check.{at, in_front}
use Rattle.int_core.specs.Value.{Value, Shape}
use Rattle.machine_core.specs.World.{World, Wait, running, for_call, for_iterator, for_value, for_truth, dropped, for_concat, for_close, returning, leaving}
use Rattle.machine_core.specs.Text.{Arg, read, Own, Text, trap, raise, own, open_cell, quick, read_upvalue, write_upvalue, make_table, make_function, fill_table, pay, go_by, operate, call, tail_call, close, closable, leave, results, thrown}
use Rattle.machine_core.specs.InstructionRows.{value_comes, rest, rest_by, rest_at, is_true, joins, write_values, to_register, to_register_before, closes, returns, fails}
use Rattle.machine_core.specs.FrameRows.{When, at_once, by_asking, expand_by, goes_on_by, prepares, handed, handed_to, unwound, raises, closing_by, raised_row, raised_to, coroutine_fails, then, gives_up}
use Rattle.machine_core.specs.Moves.{Move, Told, move, give_with, Made, Ending, go, asks, SettledShape, is_found, is_asked, is_fault, TopShape, lua_top, pcall_top, xpcall_top, handler_top, closing_top, no_top, ClosingShape, one_left, all_closed, closed_with_error, Row, traps, stop, only, act, Outcome, trapped, ends, run}
use Rattle.move_laws.proofs.Order.{is_spent}

abbrev pub NeverSpends : Row → Type 0
NeverSpends traps = Unit {0}
NeverSpends (stop e) = is_spent e → ⊥
NeverSpends (only slot r) = NeverSpends r
NeverSpends (act m k) = (n : ℕ) (t : Told m) → NeverSpends (k n t)

abbrev ending_in : Outcome → Ending
ending_in trapped = go
ending_in (ends e W) = e

by_move : (e : Ending) (m : Move) (k : ℕ → Told m → Row) (env : List Value) (V : World) → ((t : Told m) (vs : List Value) (U : World) → run (k (length env) t) (env ++ vs) U ≡ ends e V → ⊥)
    → (o : Option (Made (Told m))) → elim o as (λ _. Outcome) [ None ↦ trapped | Some d ↦ run (k (length env) d.told) (env ++ d.values) d.world ] ≡ ends e V → ⊥
by_move e m k env V f None q = absurd (cc)
by_move e m k env V f (Some d) q = f d.told d.values d.world q

pub never_spent : (r : Row) (env : List Value) (W V : World) (e : Ending) → NeverSpends r → run r env W ≡ ends e V → is_spent e → ⊥
never_spent traps env W V e h q s = absurd (cc)
never_spent (stop d) env W V e h q s = h (subst is_spent (sym (ap ending_in q)) s)
never_spent (only slot r) env W V e h q s = never_spent r (drop slot env) W V e h q s
never_spent (act m k) env W V e h q s = by_move e m k env V (λ t vs U q. never_spent (k (length env) t) (env ++ vs) U V e (h (length env) t) q s) (move m env W) q

-- texts that pay for nothing, and end no frame by a call; where calls are done at once they ask for none

abbrev pub IfAsked : When → Type 0 → Type 0
IfAsked at_once A = ⊥
IfAsked by_asking A = A

abbrev pub PaysNone : When → Text → Type 0
PaysNone when (own m k) = (n : ℕ) (s : Shape) → PaysNone when (k n s)
PaysNone when (open_cell r t) = PaysNone when t
PaysNone when (quick pay k) = ⊥
PaysNone when (quick q k) = (n : ℕ) → PaysNone when (k n)
PaysNone when (operate op xs wait prepared t) = IfAsked when (PaysNone when t)
PaysNone when (call f slot wait prepared) = IfAsked when (Unit {0})
PaysNone when (tail_call f slot) = ⊥
PaysNone when (close v e wait prepared) = IfAsked when (Unit {0})
PaysNone when (closable v name t) = PaysNone when t
PaysNone when _ = Unit {0}

abbrev pub IsFree : Text → Type 0
IsFree t = PaysNone by_asking t

prepares_never : (ms : List Own) (r : Row) → NeverSpends r → NeverSpends (prepares ms r)
prepares_never [] r h = h
prepares_never (m ∷ ms) r h = λ n t. prepares_never ms r h

pub handed_never : (top : TopShape) → NeverSpends (handed top)
handed_never lua_top = λ s. s
handed_never _ = λ s. s

pub raises_never : (text : List ℕ) → NeverSpends (raises text)
raises_never text = λ n t s. s

settled_never : (t : Text) (wait : Wait Arg) (prepared : List Own) → NeverSpends (goes_on_by t) → (n : ℕ) (s : SettledShape) → NeverSpends (elim s as (λ _. Row) [
  | is_found ↦ prepares prepared (only n (goes_on_by t))
  | is_asked ↦ goes_on_by (call (read n) (suc n) wait prepared)
  | is_fault text ↦ prepares prepared (raises text)
])
settled_never t wait prepared h n is_found = prepares_never prepared (only n (goes_on_by t)) h
settled_never t wait prepared h n is_asked = λ m u s. s
settled_never t wait prepared h n (is_fault text) = prepares_never prepared (raises text) (raises_never text)

closable_never : (r : Row) (name : List ℕ) → NeverSpends r → (n : ℕ) (b : Bool) → NeverSpends (cond b r (raises (codes "variable '" ++ name ++ codes "' got a non-closable value")))
closable_never r name h n true = h
closable_never r name h n false = raises_never (codes "variable '" ++ name ++ codes "' got a non-closable value")

pub none_paid : (when : When) (t : Text) → PaysNone when t → NeverSpends (expand_by when t)
none_paid when (go_by z) h = λ n t s. s
none_paid when (own m k) h = λ n s. none_paid when (k n s) (h n s)
none_paid when (open_cell r t) h = λ n s. none_paid when t h
none_paid when (quick (read_upvalue u) k) h = λ n b. none_paid when (k n) (h n)
none_paid when (quick (write_upvalue u x) k) h = λ n b. none_paid when (k n) (h n)
none_paid when (quick make_table k) h = λ n b. none_paid when (k n) (h n)
none_paid when (quick (make_function m) k) h = λ n b. none_paid when (k n) (h n)
none_paid when (quick (fill_table x last slot) k) h = λ n b. none_paid when (k n) (h n)
none_paid when (quick pay k) h = absurd h
none_paid by_asking (operate op xs wait prepared t) h = settled_never t wait prepared (none_paid by_asking t h)
none_paid by_asking (call f slot wait prepared) h = λ n t s. s
none_paid when (tail_call f slot) h = absurd h
none_paid by_asking (close v e wait prepared) h = λ n t m u s. s
none_paid when (closable v name t) h = closable_never (expand_by when t) name (none_paid when t h)
none_paid when (raise text) h = raises_never text
none_paid when (leave (results slot)) h = λ n top. handed_never top
none_paid when (leave (thrown x)) h = λ n top s. s
none_paid when trap h = tt
none_paid at_once _ h = absurd h

-- what is left of an instruction

cond_free : (b : Bool) (t u : Text) → IsFree t → IsFree u → IsFree (cond b t u)
cond_free true t u f g = f
cond_free false t u f g = g

write_free : (r n slot : ℕ) → IsFree (write_values r n slot)
write_free r zero slot = λ _ _. tt
write_free r (suc n) slot = λ _ _. tt

before_free : (p : Prototype) (pc : ℕ) → IsFree (to_register_before p pc)
before_free p pc = by (in_front p pc)
  where
    by : (x : Option Instruction) → IsFree (elim x [ None ↦ trap | Some v ↦ to_register (a_of v) (read 0) ])
    by None = tt
    by (Some v) = λ _ _. tt

value_free : (p : Prototype) (pc : ℕ) (op : Opcode) (w : Instruction) → IsFree (value_comes p pc op w)
value_free p pc MmBin w = before_free p pc
value_free p pc MmBinI w = before_free p pc
value_free p pc MmBinK w = before_free p pc
value_free p pc op w = λ _ _. tt

joins_free : (r i : ℕ) (x : Arg) → IsFree (joins r i x)
joins_free r zero x = λ _ _. tt
joins_free r (suc i) x = λ u s. joins_free r i (read 0)

closes_free : (r : ℕ) → IsFree (closes r)
closes_free r = λ v s. cond_free (is_true s) _ _ tt (λ _ _. tt)

returns_free : (from count : ℕ) → IsFree (returns from count)
returns_free from count = λ v s. cond_free (is_true s) _ _ tt (λ _ _. tt)

pub fails_free : IsFree fails
fails_free = λ v s. cond_free (is_true s) _ _ tt tt

rest_free : (wait : Wait Value) (p : Prototype) (pc : ℕ) (op : Opcode) (w : Instruction) → IsFree (rest wait p pc op w)
rest_free running p pc op w = tt
rest_free for_call p pc op w = write_free (a_of w) (c_of w) 0
rest_free for_iterator p pc op w = write_free (a_of w + 4) (c_of w + 1) 0
rest_free for_value p pc op w = value_free p pc op w
rest_free for_truth p pc op w = λ _ _. tt
rest_free dropped p pc op w = tt
rest_free (for_concat left) p pc op w = joins_free (a_of w) left (read 0)
rest_free for_close p pc op w = closes_free (a_of w)
rest_free (returning count) p pc op w = returns_free (a_of w) count
rest_free (leaving e) p pc op w = fails_free

pub rest_at_free : (wait : Wait Value) (p : Prototype) (pc : ℕ) → IsFree (rest_at wait p pc)
rest_at_free wait p pc = there (at p pc)
  where
    known : (w : Instruction) (op : Option Opcode) → IsFree (rest_by wait p pc w op)
    known w None = tt
    known w (Some op) = rest_free wait p pc op w

    there : (o : Option Instruction) → IsFree (elim o [ None ↦ trap | Some w ↦ rest_by wait p pc w (opcode_of w) ])
    there None = tt
    there (Some w) = known w (opcode_of w)

-- rows of results and errors that reach a frame

hand_over_never : (n : ℕ) (top : TopShape) → NeverSpends (handed top)
hand_over_never n top = handed_never top

closing_never : (s : ClosingShape) (v : ℕ) → NeverSpends (closing_by s v)
closing_never one_left v = λ n t m u s. s
closing_never all_closed v = λ n t m u. hand_over_never
closing_never closed_with_error v = λ n t m u. hand_over_never

pub handed_to_never : (top : TopShape) → NeverSpends (handed_to top)
handed_to_never lua_top = λ s. s
handed_to_never handler_top = λ v t n u m w s. s
handed_to_never closing_top = λ v t n s. closing_never s n
handed_to_never (no_top true) = λ n t s. s
handed_to_never _ = λ v t n u m w. hand_over_never

coroutine_fails_never : NeverSpends coroutine_fails
coroutine_fails_never = λ e t n u m w. hand_over_never

pub unwound_never : (top : TopShape) → NeverSpends (unwound top)
unwound_never lua_top = λ n t. none_paid by_asking fails fails_free
unwound_never pcall_top = λ e t n u m w. hand_over_never
unwound_never xpcall_top = λ e t n u m w. hand_over_never
unwound_never handler_top = λ n t m u s. s
unwound_never closing_top = λ e t n u m s. closing_never s m
unwound_never (no_top true) = λ e t n u m w s. s
unwound_never (no_top false) = coroutine_fails_never

pub raised_never : NeverSpends raised_row
raised_never = λ h top. by top h
  where
    room_never : (h e n : ℕ) (room : Bool) → NeverSpends (cond room (then (give_with (read h ∷ []) e) (stop asks)) gives_up)
    room_never h e n true = λ m u s. s
    room_never h e n false = λ m u s. s

    by : (top : TopShape) (h : ℕ) → NeverSpends (raised_to top h)
    by lua_top h = λ s. s
    by pcall_top h = λ s. s
    by xpcall_top h = λ e t n room. room_never h e n room
    by handler_top h = λ s. s
    by closing_top h = λ s. s
    by (no_top true) h = λ s. s
    by (no_top false) h = coroutine_fails_never
