-- Joined operands in the row of a concatenation, and the value that came for one that goes on.
use Rattle.std.proofs.Common.{◌≡◌, ℕ, zero, suc, ◌+◌, ◌-◌, List, [], ◌∷◌, refl, ap, sym, subst, ◌∙◌, arith}
use Rattle.std.specs.Prelude.{map, pos}
use Rattle.code_core.specs.Prototype.{Prototype}
use Rattle.instruction_forms.specs.Forms.{text_of}
use Rattle.instruction_forms.specs.declared.form.Form.TheVariants.{Concatenate}
use Rattle.int_core.specs.Value.{Value, known, nil, shape, nth}
use Rattle.machine_core.specs.World.{for_concat, place_of}
use Rattle.machine_core.specs.Text.{read, read_register, go_by, own}
use Rattle.machine_core.specs.InstructionRows.{joins}
use Rattle.machine_core.specs.FrameRows.{When, at_once, by_asking, expand, expand_by, raises}
use Rattle.machine_core.specs.Moves.{on_own, Ending, go, Row, run}
use Rattle.table_core.specs.declared.value.Value.{Value as Kept}
use Rattle.table_core.specs.declared.value.Value.TheVariants.{Nil}
use Rattle.lua_stack.specs.declared.frame.Wait.TheVariants.{ForConcat}
use Rattle.lua_heap.specs.declared.world.World.{World as Memory}
use Rattle.lua_heap.specs.Plain.{plain}
use Rattle.lua_heap.specs.Reading.{value}
use Rattle.meta_ops.specs.declared.fault.Fault.{Fault}
use Rattle.meta_ops.specs.Heap.{IsIn}
use Rattle.meta_ops.specs.Law.{OperandsAreThere}
use Rattle.meta_ops.specs.Outcome.{fault_text}
use Rattle.move_laws.specs.Memory.{CanDo, HasFrame, IsSafe, Leads, Makes, ReadsSame, StandsAt, Steps}
use Rattle.move_laws.proofs.Order.{steps_of}
use Rattle.move_laws.proofs.Rows.{act_is, can_do}
use Rattle.machine_errors.specs.Raising.{CanLeave}
use Rattle.machine_moves.specs.Ending.{ending_of}
use Rattle.machine_moves.specs.declared.ending.Ending.{Ending as KeptEnding}
use Rattle.machine_moves.specs.declared.ending.Ending.TheVariants.{Raised}
use Rattle.machine_calls.specs.declared.preparing.Prepared.TheVariants.{Nothing}
use Rattle.machine_calls.specs.Preparing.{CanPrepare}
use Rattle.machine_calls.specs.Waiting.{AsksSo, CallsSo, IsNamed as IsCalled, MayCall}
use Rattle.machine_operations.specs.declared.joining.Joined.{Joined}
use Rattle.machine_operations.specs.declared.joining.Asked.{Asked}
use Rattle.machine_operations.specs.declared.joining.Joined.TheVariants.{Whole, Asks, Fails}
use Rattle.machine_operations.specs.Following.{Keeps, MayGo, MayKeep}
use Rattle.machine_operations.specs.Joining.{AreValid, first_or_nil, IsNamed, Joins, MayJoin, Names, rest_row, row_of, told_for}
use Rattle.machine_operations.proofs.Joins.{names_first}
use Rattle.machine_operations.proofs.Settled.{steps_from}

-- a row that comes to what joining operands came to
pub record ComesFrom (when : When) (W V : Memory) (r : Row) (env : List Value) (first : ℕ) (joined : Joined) : Type 0 where
  pub more : List Value
  pub slot : ℕ
  pub named : IsNamed V.strings more slot joined
  pub is : (fuel : ℕ) → run r env (plain W fuel) ≡ run (row_of when V.strings first slot joined) more (plain V fuel)

pub from_joins : (when : When) (W V : Memory) (first left : ℕ) (last : Kept) (env : List Value) (joined : Joined) → Joins W V first left last joined → Names W first left env last
    → ComesFrom when W V (expand_by when (joins first left (read 0))) env first joined
from_joins when W V first left last env joined j n = let c = j.comes when env n in record { more = c.more; slot = c.slot; named = c.named; is = c.is }

-- the last operand is in a register

abbrev pub from_last : (first n : ℕ) → Row
from_last first n = expand (own (read_register (first + n)) (λ v _. joins first n (read v)))

module _ (W : Memory) (first n : ℕ) where
  pub can_last : IsSafe (from_last first n) [] W → CanDo W (read_register (first + n))
  can_last s = can_do (read_register (first + n)) (λ v _. expand (joins first n (read v))) s

  module _ (last : Kept) (reads : (env : List Value) → Makes W W (on_own (read_register (first + n))) env (value W.strings last ∷ []) (shape (value W.strings last))) where
    last_is : (fuel : ℕ) → run (from_last first n) [] (plain W fuel) ≡ run (expand (joins first n (read 0))) (value W.strings last ∷ []) (plain W fuel)
    last_is fuel = act_is (on_own (read_register (first + n))) (λ v _. expand (joins first n (read v))) [] (plain W fuel) (plain W fuel) (value W.strings last ∷ []) (shape (value W.strings last)) ((reads []).is fuel)

    pub may_join : IsSafe (from_last first n) [] W → MayJoin W first n last
    may_join s = record { when = at_once; env = value W.strings last ∷ []; named = names_first W first n last []; safe = record { never = λ fuel e. s.never fuel (last_is fuel ∙ e) } }

    pub last_comes : (V : Memory) (joined : Joined) → Joins W V first n last joined → ComesFrom at_once W V (from_last first n) [] first joined
    last_comes V joined j =
        let c = j.comes at_once (value W.strings last ∷ []) (names_first W first n last []) in
        record { more = c.more; slot = c.slot; named = c.named; is = λ fuel. last_is fuel ∙ c.is fuel }

-- the row of so many registers is that

abbrev pub row_for : Prototype → (pc first count : ℕ) → Row
row_for p pc first count = expand (text_of p pc (Concatenate first count))

some_left : (count : ℕ) → (count ≡ 0 → ⊥) → count ≡ suc (count - 1)
some_left zero e = absurd (e refl)
some_left (suc n) e = omega arith

pub safe_last : (W : Memory) (p : Prototype) (pc first count : ℕ) → (count ≡ 0 → ⊥) → IsSafe (row_for p pc first count) [] W → IsSafe (from_last first (count - 1)) [] W
safe_last W p pc first count e s = subst (λ n. IsSafe (row_for p pc first n) [] W) (some_left count e) s

pub last_steps : (W V : Memory) (fuel left : ℕ) (ending : Ending) (p : Prototype) (pc first count : ℕ) → (count ≡ 0 → ⊥) → Steps (from_last first (count - 1)) [] W fuel V left ending → Steps (row_for p pc first count) [] W fuel V left ending
last_steps W V fuel left ending p pc first count e s = subst (λ n. Steps (row_for p pc first n) [] W fuel V left ending) (sym (some_left count e)) s

-- and that of none only goes on

pub none_may : (W : Memory) (p : Prototype) (pc first count : ℕ) → count ≡ 0 → IsSafe (row_for p pc first count) [] W → MayGo W 1
none_may W p pc first count e s = record { env = []; safe = subst (λ n. IsSafe (row_for p pc first n) [] W) e s }

pub none_steps : (W V : Memory) (fuel : ℕ) (p : Prototype) (pc first count : ℕ) → count ≡ 0 → Leads (expand (go_by (pos 1))) [] W V go → Steps (row_for p pc first count) [] W fuel V fuel go
none_steps W V fuel p pc first count e l = subst (λ n. Steps (row_for p pc first n) [] W fuel V fuel go) (sym e) (steps_of fuel (λ n. n) l)

-- what is then done

module _ {when : When} {W V : Memory} {r : Row} {env : List Value} {first : ℕ} where
  pub whole_may : {v : Kept} → ComesFrom when W V r env first (Whole v) → IsSafe r env W → MayKeep V first v
  whole_may c s = record { env = c.more; named = c.named; safe = record { never = λ fuel e. s.never fuel (c.is fuel ∙ e) } }

  pub whole_leads : {v : Kept} {new : Memory} → ComesFrom when W V r env first (Whole v) → Keeps V new first v → Leads r env W new go
  whole_leads c k = record { is = λ fuel. c.is fuel ∙ (k.leads c.more c.named).is fuel }

  pub fails_leads : {cause : Fault} {new : Memory} {text : List ℕ} {ending : Ending} → ComesFrom when W V r env first (Fails cause) → text ≡ fault_text V.strings cause
      → ((env : List Value) → Leads (raises text) env V new ending) → Leads r env W new ending
  fails_leads {cause} {new} {text} {ending} c t l =
      let m = subst (λ text. Leads (raises text) c.more V new ending) t (l c.more) in
      record { is = λ fuel. c.is fuel ∙ m.is fuel }

  asks_names : {a : Asked} (c : ComesFrom when W V r env first (Asks a))
      → IsCalled V c.more (read c.slot) (suc c.slot) (for_concat a.below) (read 0) a.handler (a.left ∷ a.right ∷ []) (ForConcat a.below) Nothing
  asks_names c = record { calls = c.named.0; gives = c.named.1; waits = refl; copies = tt }

module _ {W V : Memory} {r : Row} {env : List Value} {first : ℕ} {a : Asked} where
  pub calls_may : ComesFrom at_once W V r env first (Asks a) → IsSafe r env W → MayCall V a.handler (a.left ∷ a.right ∷ []) (ForConcat a.below) Nothing
  calls_may c s = record {
    env = c.more;
    f = read c.slot;
    slot = suc c.slot;
    w = for_concat a.below;
    x = read 0;
    names = asks_names c;
    safe = record { never = λ fuel e. s.never fuel (c.is fuel ∙ e) };
    held_wait = tt;
    held = tt;
  }

  pub calls_steps : {new : Memory} {fuel rest : ℕ} {ending : Ending} → ComesFrom at_once W V r env first (Asks a) → ReadsSame W V
      → CallsSo V new fuel rest a.handler (a.left ∷ a.right ∷ []) (ForConcat a.below) Nothing ending → Steps r env W fuel new rest ending
  calls_steps {fuel = fuel} c same k = steps_from same (c.is fuel) (k.steps c.more (read c.slot) (suc c.slot) (for_concat a.below) (read 0) (asks_names c))

  pub asks_leads : {new : Memory} {ending : Ending} → ComesFrom by_asking W V r env first (Asks a) → AsksSo V new a.handler (a.left ∷ a.right ∷ []) (ForConcat a.below) Nothing ending → Leads r env W new ending
  asks_leads c k =
      let l = k.leads c.more (read c.slot) (suc c.slot) (for_concat a.below) (read 0) (asks_names c) in
      record { is = λ fuel. c.is fuel ∙ l.is fuel }

-- an error is raised at no cost
pub raised_steps : {W new : Memory} {r : Row} {env : List Value} {ending : KeptEnding} (fuel : ℕ) → ending ≡ Raised → Leads r env W new (ending_of ending) → Steps r env W fuel new fuel (ending_of ending)
raised_steps {W} {new} {r} {env} {ending} fuel e l =
    subst (λ ending. Steps r env W fuel new fuel (ending_of ending)) (sym e) (steps_of fuel (λ n. n) (subst (λ ending. Leads r env W new (ending_of ending)) e l))

-- the world in which it is done

pub printed_kept : (old : Memory) {new : Memory} → new ≡ record old { strings = new.strings } → new.printed ≡ old.printed
printed_kept old e = ap (λ (W : Memory). W.printed) e

pub stands_same : {old new : Memory} {pc : ℕ} → ReadsSame old new → StandsAt old pc → StandsAt new pc
stands_same r s = record { place = s.place; is = ap place_of (r.is 0) ∙ s.is; at = s.at }

pub can_prepare : {W : Memory} → CanLeave W → CanPrepare W Nothing
can_prepare h = record { place = h.place; is = h.is; checked = h.checked; room = h.room; there = tt }

pub frame_at : {W : Memory} {pc : ℕ} → StandsAt W pc → HasFrame W
frame_at s = record { place = s.place; is = s.is }

-- the value that came

pub first_told : (f : Kept → Value) → f Nil ≡ known nil → (came : List Kept) → nth (map f came) 0 ≡ f (first_or_nil came)
first_told f nil_is [] = sym nil_is
first_told f nil_is (v ∷ vs) = refl

pub first_named : (texts : List (List ℕ)) (came : List Kept) (v : Kept) → v ≡ first_or_nil came → nth (map (value texts) came) 0 ≡ value texts v
first_named texts came v e = first_told (value texts) refl came ∙ ap (value texts) (sym e)

pub names_came : (W : Memory) (first left : ℕ) (came : List Kept) → Names W first left (told_for left (map (value W.strings) came)) (first_or_nil came)
names_came W first zero came = first_told (value W.strings) refl came
names_came W first (suc left) came = λ u s k. first_told (value W.strings) refl came

pub first_there : OperandsAreThere → (W : Memory) (came : List Kept) → AreValid W came → IsIn W.strings W.tables.objects (first_or_nil came)
first_there law W [] h = tt
first_there law W (v ∷ vs) h = law h.sizes W.strings W.tables.objects v h.tables (h.valid 0 (value W.strings v) refl)

-- what joining the operands that are left comes to

module _ (W : Memory) (first left : ℕ) (came : List Kept) (last : Kept) (is : last ≡ first_or_nil came) where
  came_named : Names W first left (told_for left (map (value W.strings) came)) last
  came_named = subst (λ v. Names W first left (told_for left (map (value W.strings) came)) v) (sym is) (names_came W first left came)

  pub came_may : IsSafe (rest_row first left) (told_for left (map (value W.strings) came)) W → MayJoin W first left last
  came_may s = record { when = by_asking; env = told_for left (map (value W.strings) came); named = came_named; safe = s }

  pub came_comes : (V : Memory) (joined : Joined) → Joins W V first left last joined → ComesFrom by_asking W V (rest_row first left) (told_for left (map (value W.strings) came)) first joined
  came_comes V joined j = from_joins by_asking W V first left last (told_for left (map (value W.strings) came)) joined j came_named
