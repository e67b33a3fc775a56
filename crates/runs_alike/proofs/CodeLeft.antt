-- An activation of code that is left from above while it waits goes on by closing what it has pending, and leaves.
use Rattle.std.proofs.Common.{◌≡◌, ℕ, Bool, true, false, cond, List, [], ◌∷◌, ◌++◌, length, Option, Some, None, refl, ◌∙◌, ap}
use Rattle.std.specs.Prelude.{slice_get}
use Rattle.int_core.specs.Value.{Value, nth, bind}
use Rattle.int_core.specs.Ask.{CellName, Ask, makes_function, closes, leaves, throws, left, Reply, IsReplyTo, Next, goes_on, says, stuck, Captured, cell_held, held_below, brought}
use Rattle.code_core.specs.Prototype.{Prototype, list_of}
use Rattle.code_core.specs.Check.{at}
use Rattle.code_core.specs.Instruction.{opcode_of}
use Rattle.code_core.specs.declared.instruction.Instruction.{Instruction}
use Rattle.code_core.specs.declared.opcode.Opcode.{Opcode}
use Rattle.machine_core.specs.World.{Wait, running, leaving, Activation}
use Rattle.machine_core.specs.Text.{last_pending, value_if, is_there, fits, done, Quick, make_function, Text, go_by, own, open_cell, quick, operate, call, close, raise, leave, trap, read, thrown}
use Rattle.machine_core.specs.InstructionRows.{text_at, told_values, left_so, fails, rest_at, rest_by}
use Rattle.machine_core.specs.Moves.{place_from, named}
use Rattle.machine_core.specs.Talk.{State, before, amid, names_of, captured_done, says_so, heard, talk, talk_step}

-- the state of an activation that is left
pub record IsLeaving (t : State) : Type 0 where
  pub error : Value
  pub activation : Activation
  pub captured : Captured
  pub is : t ≡ amid fails (error ∷ []) activation captured

-- where an ask is answered so that the activation is left, it goes on so
abbrev pub LeavesSo : Next Prototype State → Type 0
LeavesSo (goes_on t) = Unit {0}
LeavesSo (says q line shared k) = (e : Value) (vs : List Value) (cell : ℕ) → IsReplyTo q (left e) → IsLeaving (k (record { reply = left e; shared = vs; cell = cell }))
LeavesSo stuck = Unit {0}

told_left : (wait : Wait Value) (e : Value) → told_values wait (left e) ≡ e ∷ []
told_left running e = refl
told_left _ e = refl

heard_left : (wait : Wait Value) (p : Prototype) (e : Value) (vs : List Value) (cell : ℕ) (a : Activation) (c : Captured) → IsLeaving (heard wait p (record { reply = left e; shared = vs; cell = cell }) a c)
heard_left wait p e vs cell a c = record { error = e; activation = a; captured = c; is = ap (λ env. amid fails env a c) (told_left wait e) }

either : (b : Bool) (x y : Next Prototype State) → LeavesSo x → LeavesSo y → LeavesSo (cond b x y)
either true x y one two = one
either false x y one two = two

-- the asks that are answered at once

abbrev asks_quick : Option (Ask Prototype) → Prototype → (ℕ → Text) → List Value → Activation → Captured → Next Prototype State
asks_quick o p k env a c = elim o [
  | None ↦ stuck
  | Some ask ↦ says_so ask p a c (λ x b d. amid (k (length env)) (env ++ Rattle.int_core.specs.Ask.values_in x.reply) b d)
]

makes_quick : (o : Option Prototype) (p : Prototype) (k : ℕ → Text) (env : List Value) (a : Activation) (c : Captured)
    → LeavesSo (asks_quick (bind o (λ q. bind (names_of q.own.upvalues c.held) (λ names. Some (makes_function q names)))) p k env a c)
makes_quick None p k env a c = tt
makes_quick (Some q) p k env a c = by (names_of q.own.upvalues c.held) where
  by : (o : Option (List CellName)) → LeavesSo (asks_quick (bind o (λ names. Some (makes_function q names))) p k env a c)
  by None = tt
  by (Some names) = λ e vs cell fits. absurd fits

quick_left : (q : Quick) (p : Prototype) (k : ℕ → Text) (env : List Value) (a : Activation) (c : Captured) → LeavesSo (talk p (quick q k) env a c)
quick_left (make_function n) p k env a c = makes_quick (slice_get (list_of p.inner) n) p k env a c
quick_left _ p k env a c = λ e vs cell fits. absurd fits

talk_left : (p : Prototype) (t : Text) (env : List Value) (a : Activation) (c : Captured) → LeavesSo (talk p t env a c)
talk_left p (go_by z) env a c = by (bind (place_from a.pc z) (λ pc. bind (at p pc) (λ _. Some pc))) where
  by : (o : Option ℕ) → LeavesSo (elim o as (λ _. Next Prototype State) [ None ↦ stuck | Some pc ↦ goes_on (before (record a { pc = pc }) c) ])
  by None = tt
  by (Some pc) = tt
talk_left p (own m k) env a c = either (fits m p a) _ _ (talk_left p (k _ _) _ _ _) tt
talk_left p (open_cell r t) env a c = by (cell_held r c.held) (talk_left p t env a c) where
  by : (o : Option ℕ) → LeavesSo (talk p t env a c)
      → LeavesSo (elim o as (λ _. Next Prototype State) [
        | Some _ ↦ talk p t env a c
        | None ↦ says_so (Rattle.int_core.specs.Ask.opens (nth a.registers r)) p a c (λ x b d. amid t env b (record d { held = (r, x.cell) ∷ d.held }))
      ])
  by None more = λ e vs cell fits. absurd fits
  by (Some cell) more = more
talk_left p (quick q k) env a c = quick_left q p k env a c
talk_left p (operate op xs wait prepared t) env a c = λ e vs cell fits. heard_left (named env wait) p e vs cell _ _
talk_left p (call f slot wait prepared) env a c = λ e vs cell fits. heard_left (named env wait) p e vs cell _ _
talk_left p (close v x wait prepared) env a c = λ e vs cell fits. heard_left (named env wait) p e vs cell _ _
talk_left p (raise text) env a c = λ e vs cell fits. heard_left (leaving (Rattle.int_core.specs.Value.known Rattle.int_core.specs.Value.nil)) p e vs cell _ _
talk_left p trap env a c = tt
talk_left p _ env a c = λ e vs cell fits. absurd fits

pub code_left : (p : Prototype) (t : State) → LeavesSo (talk_step p t)
code_left p (before a c) = talk_left p (text_at p a.pc) [] a c
code_left p (amid t env a c) = talk_left p t env a c

-- what is closed next

abbrev closing_text : (there : Option ℕ) → Text
closing_text there = cond (is_there there) (close (read 1) (read 0) (leaving (read 0)) left_so) (leave (thrown (read 0)))

pub leaves_last : (p : Prototype) (e : Value) (a : Activation) (c : Captured) → last_pending 0 a.pending ≡ None
    → talk_step p (amid fails (e ∷ []) a c) ≡ says_so (leaves (throws e)) p a c (λ x b d. amid trap [] b d)
leaves_last p e a c is = ap (λ o. talk p (closing_text o) (e ∷ value_if a.registers o) a c) is

pub closes_next : (p : Prototype) (e : Value) (q : ℕ) (a : Activation) (c : Captured) → last_pending 0 a.pending ≡ Some q
    → talk_step p (amid fails (e ∷ []) a c)
    ≡ says_so (closes (nth a.registers q) e) p (done left_so p [] a) (captured_done left_so p [] a c) (λ x b d. heard (leaving e) p x b d)
closes_next p e q a c is = ap (λ o. talk p (closing_text o) (e ∷ value_if a.registers o) a c) is

-- an activation that waits to be left goes on by leaving, or the code breaks a rule
pub data Rests (e : Value) (p : Prototype) (pc : ℕ) : Type 0 where
  goes_so : rest_at {V = Value} (leaving e) p pc ≡ fails → Rests e p pc
  breaks_rule : rest_at {V = Value} (leaving e) p pc ≡ trap → Rests e p pc

pub rests : (e : Value) (p : Prototype) (pc : ℕ) → Rests e p pc
rests e p pc = by (at p pc) refl where
  by_opcode : (w : Instruction) → at p pc ≡ Some w → (o : Option Opcode) → opcode_of w ≡ o → Rests e p pc
  by_opcode w there None is =
      breaks_rule (ap (λ o. elim o as (λ _. Text) [ None ↦ trap | Some v ↦ rest_by {V = Value} (leaving e) p pc v (opcode_of v) ]) there ∙ ap (rest_by {V = Value} (leaving e) p pc w) is)
  by_opcode w there (Some op) is =
      goes_so (ap (λ o. elim o as (λ _. Text) [ None ↦ trap | Some v ↦ rest_by {V = Value} (leaving e) p pc v (opcode_of v) ]) there ∙ ap (rest_by {V = Value} (leaving e) p pc w) is)

  by : (o : Option Instruction) → at p pc ≡ o → Rests e p pc
  by None there = breaks_rule (ap (λ o. elim o as (λ _. Text) [ None ↦ trap | Some v ↦ rest_by {V = Value} (leaving e) p pc v (opcode_of v) ]) there)
  by (Some w) there = by_opcode w there (opcode_of w) refl
