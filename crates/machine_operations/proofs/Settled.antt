-- An operation that is settled in the row of its instruction.
use Rattle.std.proofs.Common.{◌≡◌, ℕ, suc, List, [], ◌∷◌, ◌++◌, length, Option, Some, None, refl, ap, sym, subst, ◌∙◌, append-nil, Bool, true, false}
use Rattle.std.specs.Prelude.{map}
use Rattle.code_core.specs.Prototype.{Prototype}
use Rattle.int_core.specs.Heap.{Heap}
use Rattle.int_core.specs.Operations.{Settled, found, ask, fault, cannot_arise, does}
use Rattle.int_core.specs.Value.{Value, nth}
use Rattle.machine_core.specs.World.{World, Place, place_of}
use Rattle.machine_core.specs.Text.{Arg, read, arg, args_of, operate}
use Rattle.machine_core.specs.FrameRows.{at_once, expand, calls_row, call_row, prepares, raises}
use Rattle.machine_core.specs.MachineStep.{from_world}
use Rattle.machine_core.specs.Moves.{Made, made, named, settle, settled as settled_in, SettledShape, is_found, is_asked, is_fault, Ending, go, raised, Row, act, only, Outcome, trapped, run}
use Rattle.machine_sound.specs.Sound.{Each, Sizes, Valid}
use Rattle.machine_sound.proofs.Lists.{bind_at}
use Rattle.table_core.specs.Table.{Contents}
use Rattle.table_core.specs.declared.value.Value.{Value as Kept}
use Rattle.table_core.specs.declared.value.Value.TheVariants.{Nil, Str}
use Rattle.lua_stack.specs.Frames.{wait_of}
use Rattle.lua_heap.specs.Errors.{HasText}
use Rattle.lua_heap.specs.declared.world.World.{World as Memory}
use Rattle.lua_heap.specs.Plain.{plain}
use Rattle.lua_heap.specs.Reading.{value}
use Rattle.instruction_forms.specs.declared.form.After.{After}
use Rattle.instruction_forms.specs.declared.form.After.TheVariants.{ToRegister, ToRegisterBefore, Next as NoValue, Tests}
use Rattle.instruction_forms.specs.declared.form.Form.TheVariants.{Operate}
use Rattle.instruction_forms.specs.declared.operand.Operands.{Operands}
use Rattle.instruction_forms.specs.declared.operand.Operation.{Operation as Named}
use Rattle.instruction_forms.specs.declared.operand.Operation.TheVariants.{Index as NamedIndex, Store as NamedStore, Arithmetic as NamedArithmetic, Length as NamedLength, Equal as NamedEqual, Less as NamedLess, LessEqual as NamedLessEqual}
use Rattle.instruction_forms.specs.Forms.{operation_of, wait_for, follows, also_to, text_of}
use Rattle.meta_ops.specs.declared.fault.Fault.{Fault as Cause}
use Rattle.meta_ops.specs.declared.operation.Operation.{Operation}
use Rattle.meta_ops.specs.declared.operation.Operation.TheVariants.{Index, Store, Arithmetic, Concat, Length, Equal, Less, LessEqual}
use Rattle.meta_ops.specs.declared.outcome.Outcome.{Outcome as Came}
use Rattle.meta_ops.specs.declared.outcome.Outcome.TheVariants.{Found, Done, Ask, Fault}
use Rattle.meta_ops.specs.Heap.{IsIn}
use Rattle.meta_ops.specs.Law.{OperandsAreThere}
use Rattle.meta_ops.specs.Operation.{kind_of, operands_of, more_of, AreIn}
use Rattle.meta_ops.specs.Outcome.{fault_text}
use Rattle.move_laws.specs.Memory.{HasFrame, IsSafe, Leads, Makes, ReadsSame, Steps}
use Rattle.move_laws.proofs.Rows.{act_is}
use Rattle.machine_moves.specs.Operations.{Settles, values_of, told_of}
use Rattle.machine_errors.proofs.Leaving.{world_made}
use Rattle.machine_calls.specs.Preparing.{IsCopy, prepared_of}
use Rattle.machine_calls.specs.Waiting.{IsNamed, IsHeld, IsHeldWait, MayCall, CallsSo}
use Rattle.machine_operations.specs.declared.operands.Values.{Values}
use Rattle.machine_operations.specs.declared.operands.Values.TheVariants.{One, Two, Three}
use Rattle.machine_operations.specs.Copying.{moves_for, prepared_by}
use Rattle.machine_operations.specs.Operands.{ReadsAll, first_value, list_of, takes}
use Rattle.machine_operations.specs.Operating.{AreNamed, EndsSo, FailsSo, MayEnd, wait_kept}
use Rattle.list_laws.proofs.Values.{nth_mid, drop_mid}
use Rattle.machine_sound.proofs.RowEnds.{drop_front}

-- an operation that is settled has as many operands as it takes

takes_none : (op : Named) (vs : Values) (f : Kept → Value) (H : Heap) → takes op vs ≡ false → does (operation_of op) (map f (list_of vs)) H ≡ cannot_arise
takes_none NamedIndex (One v) f H e = refl
takes_none NamedIndex (Two v w) f H e = absurd (cc)
takes_none NamedIndex (Three v w u) f H e = refl
takes_none NamedStore (One v) f H e = refl
takes_none NamedStore (Two v w) f H e = refl
takes_none NamedStore (Three v w u) f H e = absurd (cc)
takes_none (NamedArithmetic operator) (One v) f H e = refl
takes_none (NamedArithmetic operator) (Two v w) f H e = absurd (cc)
takes_none (NamedArithmetic operator) (Three v w u) f H e = refl
takes_none NamedLength (One v) f H e = absurd (cc)
takes_none NamedLength (Two v w) f H e = refl
takes_none NamedLength (Three v w u) f H e = refl
takes_none NamedEqual (One v) f H e = refl
takes_none NamedEqual (Two v w) f H e = absurd (cc)
takes_none NamedEqual (Three v w u) f H e = refl
takes_none NamedLess (One v) f H e = refl
takes_none NamedLess (Two v w) f H e = absurd (cc)
takes_none NamedLess (Three v w u) f H e = refl
takes_none NamedLessEqual (One v) f H e = refl
takes_none NamedLessEqual (Two v w) f H e = absurd (cc)
takes_none NamedLessEqual (Three v w u) f H e = refl

takes_there : {W : Memory} {env : List Value} (op : Named) (xs : List Arg) (vs : Values) (k : ℕ → SettledShape → Row) → HasFrame W → args_of env xs ≡ map (value W.strings) (list_of vs)
    → IsSafe (act (settle (operation_of op) xs) k) env W → takes op vs ≡ true
takes_there {W} {env} op xs vs k h n s = by (takes op vs) refl
  where
    by : (b : Bool) → takes op vs ≡ b → b ≡ true
    by true e = refl
    by false e = absurd (s.never 0 (ap (λ (o : Option (Made SettledShape)). elim o as (λ _. Outcome) [ None ↦ trapped | Some d ↦ run (k (length env) d.told) (env ++ d.values) d.world ])
        (bind_at (λ p. settled_in (plain W 0) p (does (operation_of op) (args_of env xs) (plain W 0).heap)) (place_of (plain W 0)) h.place h.is
        ∙ ap (λ vs. settled_in (plain W 0) h.place (does (operation_of op) vs (plain W 0).heap)) n
        ∙ ap (settled_in (plain W 0) h.place) (takes_none op vs (value W.strings) (plain W 0).heap e))))

-- valid operands are there
pub are_in : OperandsAreThere → (z : Sizes) (texts : List (List ℕ)) (tables : List Contents) → z.tables ≡ length tables → (op : Operation) → Each (Valid z) (operands_of texts op) → AreIn texts tables op
are_in law z texts tables e (Index o key) h = tt
are_in law z texts tables e (Store o key v) h = tt
are_in law z texts tables e (Arithmetic event l r) h = (law z texts tables l e (h 0 (value texts l) refl), law z texts tables r e (h 1 (value texts r) refl))
are_in law z texts tables e (Concat l r) h = (law z texts tables l e (h 0 (value texts l) refl), law z texts tables r e (h 1 (value texts r) refl))
are_in law z texts tables e (Length v) h = law z texts tables v e (h 0 (value texts v) refl)
are_in law z texts tables e (Equal l r) h = tt
are_in law z texts tables e (Less l r) h = (law z texts tables l e (h 0 (value texts l) refl), law z texts tables r e (h 1 (value texts r) refl))
are_in law z texts tables e (LessEqual l r) h = (law z texts tables l e (h 0 (value texts l) refl), law z texts tables r e (h 1 (value texts r) refl))

pub has_text : (texts : List (List ℕ)) (tables : List Contents) (v : Kept) → IsIn texts tables v → HasText texts v
has_text texts tables (Str id) h = h
has_text texts tables _ h = tt

-- where nothing is found, nothing is changed

told_made : {V W : World} {vs ws : List Value} {t u : SettledShape} → made V vs t ≡ made W ws u → t ≡ u
told_made {t = t} e = ap (λ (o : Option (Made SettledShape)). elim o as (λ _. SettledShape) [ Some d ↦ d.told | _ ↦ t ]) e

unchanged : (V : World) (p : Place) (s : Settled) (U : World) (vs : List Value) (t : SettledShape) → (is_found ≡ t → ⊥) → settled_in V p s ≡ made U vs t → U ≡ V
unchanged V p (found H ws) U vs t n e = absurd (n (told_made e))
unchanged V p (ask h ws) U vs t n e = sym (world_made e)
unchanged V p (fault text) U vs t n e = sym (world_made e)
unchanged V p cannot_arise U vs t n e = absurd (cc)

-- the names of operands

abbrev head_of : List Arg → Arg
head_of [] = read 0
head_of (x ∷ xs) = x

first_named : (f : Kept → Value) (env : List Value) (xs : List Arg) (vs : Values) → args_of env xs ≡ map f (list_of vs) → arg env (head_of xs) ≡ f (first_value vs)
first_named f env [] (One v) e = absurd (cc)
first_named f env [] (Two v w) e = absurd (cc)
first_named f env [] (Three v w u) e = absurd (cc)
first_named f env (x ∷ xs) (One v) e = ap (λ vs. nth vs 0) e
first_named f env (x ∷ xs) (Two v w) e = ap (λ vs. nth vs 0) e
first_named f env (x ∷ xs) (Three v w u) e = ap (λ vs. nth vs 0) e

moves_named : (f : Kept → Value) (env : List Value) (also : Option ℕ) (xs : List Arg) (vs : Values) → args_of env xs ≡ map f (list_of vs) → also_to also xs ≡ moves_for also (head_of xs)
moves_named f env None xs vs e = refl
moves_named f env (Some r) (x ∷ xs) vs e = refl
moves_named f env (Some r) [] (One v) e = absurd (cc)
moves_named f env (Some r) [] (Two v w) e = absurd (cc)
moves_named f env (Some r) [] (Three v w u) e = absurd (cc)

prepared_named : (also : Option ℕ) (x : Arg) (first : Kept) → prepared_of x (prepared_by also first) ≡ moves_for also x
prepared_named None x first = refl
prepared_named (Some r) x first = refl

copy_named : (f : Kept → Value) (env : List Value) (x : Arg) (also : Option ℕ) (first : Kept) → arg env x ≡ f first → IsCopy f env x (prepared_by also first)
copy_named f env x None first e = tt
copy_named f env x (Some r) first e = e

copy_held : (texts : List (List ℕ)) (also : Option ℕ) (first : Kept) → HasText texts first → IsHeld texts (prepared_by also first)
copy_held texts None first h = tt
copy_held texts (Some r) first h = h

waits_named : (f : Kept → Value) (env : List Value) (after : After) → named env (wait_for after) ≡ wait_of f (wait_kept after)
waits_named f env (ToRegister r) = refl
waits_named f env ToRegisterBefore = refl
waits_named f env NoValue = refl
waits_named f env (Tests wanted) = refl

waits_held : (texts : List (List ℕ)) (after : After) → IsHeldWait texts (wait_kept after)
waits_held texts (ToRegister r) = tt
waits_held texts ToRegisterBefore = tt
waits_held texts NoValue = tt
waits_held texts (Tests wanted) = tt

-- a row that comes to another one in a world that stands for the same
pub steps_from : {W V last : Memory} {r q : Row} {env more : List Value} {fuel left : ℕ} {ending : Ending} → ReadsSame W V → run r env (plain W fuel) ≡ run q more (plain V fuel) → Steps q more V fuel last left ending
    → Steps r env W fuel last left ending
steps_from {W} {V} {last} {r} {q} {env} {more} {fuel} same e s = record {
  is = ap (from_world (plain W fuel)) e ∙ ap (λ P. from_world P (run q more (plain V fuel))) (sym (same.is fuel)) ∙ s.is;
}

module _ (W : Memory) (op : Named) (xs : Operands) (also : Option ℕ) (after : After) (pc : ℕ) (vs : Values) (h : HasFrame W) (r : ReadsAll W xs vs) where
  abbrev n : ℕ
  n = length r.values

  abbrev x : Arg
  x = head_of r.named

  abbrev first : Kept
  first = first_value vs

  abbrev row : Place → Row
  row place = expand (text_of place.function.code pc (Operate op xs also after))

  abbrev goes_by : Prototype → ℕ → SettledShape → Row
  goes_by p n s = elim s [
    | is_found ↦ prepares (also_to also r.named) (only n (expand (follows p pc after)))
    | is_asked ↦ calls_row at_once (read n) (suc n) (wait_for after) (also_to also r.named)
    | is_fault text ↦ prepares (also_to also r.named) (raises text)
  ]

  here : args_of r.values r.named ≡ map (value W.strings) (list_of vs)
  here = ap (λ env. args_of env r.named) (sym (append-nil r.values)) ∙ r.are []

  moves : also_to also r.named ≡ moves_for also x
  moves = moves_named (value W.strings) r.values also r.named vs here

  copied : (behind : List Value) → arg (r.values ++ behind) x ≡ value W.strings first
  copied behind = first_named (value W.strings) (r.values ++ behind) r.named vs (r.are behind)

  pub may_take : (place : Place) → IsSafe (row place) [] W → takes op vs ≡ true
  may_take place s =
      takes_there op r.named vs (goes_by place.function.code) h here
      (record {
        never = λ fuel e.
            s.never fuel (r.goes (λ vs. operate (operation_of op) vs (wait_for after) (also_to also vs) (follows place.function.code pc after)) fuel ∙ e);
      })

  module _ (asked : Operation) (kind : kind_of asked ≡ operation_of op) (ops : (texts : List (List ℕ)) → operands_of texts asked ≡ map (value texts) (list_of vs)) where
    module _ (settled : Memory) (o : Came) (s : Settles W settled asked o) where
      abbrev came : List Value
      came = values_of W.strings (more_of W.strings asked) o

      abbrev told : SettledShape
      told = told_of W.strings o

      makes : Makes W settled (settle (operation_of op) r.named) r.values came told
      makes = subst (λ k. Makes W settled (settle k r.named) r.values came told) kind (s.makes r.values r.named (here ∙ sym (ops W.strings)))

      goes : (place : Place) (fuel : ℕ) → run (row place) [] (plain W fuel) ≡ run (goes_by place.function.code n told) (r.values ++ came) (plain settled fuel)
      goes place fuel =
          r.goes (λ vs. operate (operation_of op) vs (wait_for after) (also_to also vs) (follows place.function.code pc after)) fuel
          ∙ act_is (settle (operation_of op) r.named) (goes_by place.function.code) r.values (plain W fuel) (plain settled fuel) came told (makes.is fuel)

      safe : (place : Place) → IsSafe (row place) [] W → IsSafe (goes_by place.function.code n told) (r.values ++ came) settled
      safe place k = record { never = λ fuel e. k.never fuel (goes place fuel ∙ e) }

      pub same_world : (is_found ≡ told → ⊥) → ReadsSame W settled
      same_world k = record {
        is = λ fuel.
            let V = plain W fuel in
            unchanged V h.place (does (operation_of op) (args_of r.values r.named) V.heap) (plain settled fuel) came told k
            (sym (bind_at (λ p. settled_in V p (does (operation_of op) (args_of r.values r.named) V.heap)) (place_of V) h.place h.is) ∙ makes.is fuel);
      }

    module _ (settled : Memory) (texts : settled.strings ≡ W.strings) (places : place_of (plain settled 0) ≡ place_of (plain W 0)) where
      abbrev end_row : Prototype → Arg → Row
      end_row p x = prepares (moves_for also x) (only n (expand (follows p pc after)))

      here_too : (v : Kept) → value W.strings v ≡ value settled.strings v
      here_too v = ap (λ texts. value texts v) (sym texts)

      -- a value was found

      found_names : (v : Kept) → AreNamed settled (r.values ++ value W.strings v ∷ []) x n first v
      found_names v = record {
        copied = copied (value W.strings v ∷ []) ∙ here_too first;
        found = ap (λ env. nth env 0) (drop_front r.values (value W.strings v ∷ [])) ∙ here_too v;
      }

      pub found_may : (v : Kept) → Settles W settled asked (Found v) → (place : Place) → place_of (plain W 0) ≡ Some place → IsSafe (row place) [] W → MayEnd settled pc also first after v
      found_may v s place is k = record {
        place = place;
        is = places ∙ is;
        env = r.values ++ value W.strings v ∷ [];
        x = x;
        slot = n;
        names = found_names v;
        safe = subst (λ ms. IsSafe (prepares ms (only n (expand (follows place.function.code pc after)))) (r.values ++ value W.strings v ∷ []) settled) moves (safe settled (Found v) s place k);
      }

      pub found_leads : (v : Kept) → Settles W settled asked (Found v) → (last : Memory) → EndsSo settled last pc also first after v go → (place : Place) → place_of (plain W 0) ≡ Some place → Leads (row place) [] W last go
      found_leads v s last e place is =
          let env = r.values ++ value W.strings v ∷ [] in
          let l = subst (λ ms. Leads (prepares ms (only n (expand (follows place.function.code pc after)))) env settled last go) (sym moves) (e.leads place (places ∙ is) env x n (found_names v)) in
          record { is = λ fuel. goes settled (Found v) s place fuel ∙ l.is fuel }

      -- a value was stored

      done_names : AreNamed settled (r.values ++ []) x n first Nil
      done_names = record { copied = copied [] ∙ here_too first; found = ap (λ env. nth env 0) (drop_front r.values []) }

      pub done_may : Settles W settled asked Done → (place : Place) → place_of (plain W 0) ≡ Some place → IsSafe (row place) [] W → MayEnd settled pc also first after Nil
      done_may s place is k = record {
        place = place;
        is = places ∙ is;
        env = r.values ++ [];
        x = x;
        slot = n;
        names = done_names;
        safe = subst (λ ms. IsSafe (prepares ms (only n (expand (follows place.function.code pc after)))) (r.values ++ []) settled) moves (safe settled Done s place k);
      }

      pub done_leads : Settles W settled asked Done → (last : Memory) → EndsSo settled last pc also first after Nil go → (place : Place) → place_of (plain W 0) ≡ Some place → Leads (row place) [] W last go
      done_leads s last e place is =
          let l = subst (λ ms. Leads (prepares ms (only n (expand (follows place.function.code pc after)))) (r.values ++ []) settled last go) (sym moves) (e.leads place (places ∙ is) (r.values ++ []) x n done_names) in
          record { is = λ fuel. goes settled Done s place fuel ∙ l.is fuel }

      -- the frame is at fault
      pub fault_leads : (cause : Cause) → Settles W settled asked (Fault cause) → (last : Memory) → FailsSo settled last also first cause raised → (place : Place) → Leads (row place) [] W last raised
      fault_leads cause s last f place =
          let env = r.values ++ [] in
          let l = f.leads env x (copied [] ∙ here_too first) in
          let m = subst (λ texts. Leads (prepares (moves_for also x) (raises (fault_text texts cause))) env settled last raised) texts l in
          let k = subst (λ ms. Leads (prepares ms (raises (fault_text W.strings cause))) env settled last raised) (sym moves) m in
          record { is = λ fuel. goes settled (Fault cause) s place fuel ∙ k.is fuel }

      -- a handler is asked for

      module _ (handler object : Kept) (s : Settles W settled asked (Ask handler object)) (arguments : List Kept) (are : (texts : List (List ℕ)) → map (value texts) arguments ≡ value texts object ∷ more_of texts asked) where
        abbrev asked_env : List Value
        asked_env = r.values ++ (value W.strings handler ∷ value W.strings object ∷ more_of W.strings asked)

        ask_names : IsNamed settled asked_env (read n) (suc n) (wait_for after) x handler arguments (wait_kept after) (prepared_by also first)
        ask_names = record {
          calls = nth_mid r.values (value W.strings object ∷ more_of W.strings asked) (value W.strings handler) ∙ here_too handler;
          gives = drop_mid r.values (value W.strings object ∷ more_of W.strings asked) (value W.strings handler) ∙ sym (are W.strings) ∙ ap (λ texts. map (value texts) arguments) (sym texts);
          waits = waits_named (value settled.strings) asked_env after;
          copies = copy_named (value settled.strings) asked_env x also first (copied (value W.strings handler ∷ value W.strings object ∷ more_of W.strings asked) ∙ here_too first);
        }

        ask_moves : also_to also r.named ≡ prepared_of x (prepared_by also first)
        ask_moves = moves ∙ sym (prepared_named also x first)

        pub ask_may : (place : Place) → IsSafe (row place) [] W → HasText settled.strings first → MayCall settled handler arguments (wait_kept after) (prepared_by also first)
        ask_may place k t = record {
          env = asked_env;
          f = read n;
          slot = suc n;
          w = wait_for after;
          x = x;
          names = ask_names;
          safe = subst (λ ms. IsSafe (call_row (read n) (suc n) (wait_for after) ms) asked_env settled) ask_moves (safe settled (Ask handler object) s place k);
          held_wait = waits_held settled.strings after;
          held = copy_held settled.strings also first t;
        }

        pub ask_steps : (last : Memory) (fuel left : ℕ) (ending : Ending) → CallsSo settled last fuel left handler arguments (wait_kept after) (prepared_by also first) ending → (place : Place) → Steps (row place) [] W fuel last left ending
        ask_steps last fuel left ending c place =
            let l = subst (λ ms. Steps (call_row (read n) (suc n) (wait_for after) ms) asked_env settled fuel last left ending) (sym ask_moves) (c.steps asked_env (read n) (suc n) (wait_for after) x ask_names) in
            steps_from (same_world settled (Ask handler object) s (λ e. absurd (cc))) (goes settled (Ask handler object) s place fuel) l
