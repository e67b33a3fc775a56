-- What `error` raises.
use Rattle.std.proofs.Common.{◌≡◌, ◌++◌, ℕ, zero, suc, List, [], ◌∷◌, length, Option, Some, None, refl, ap, sym, ◌∙◌, append-nil}
use Rattle.std.specs.Prelude.{drop, map, ℤ, pos, negsuc, codes}
use Rattle.int_core.specs.Limits.{limited}
use Rattle.int_core.specs.Value.{string, Value, known, Shape, shape, nth}
use Rattle.machine_core.specs.World.{World}
use Rattle.machine_core.specs.Text.{Arg, read, args_of}
use Rattle.machine_core.specs.FrameRows.{then, blames}
use Rattle.machine_core.specs.Moves.{placed, Row, act, stop, Ending, raised, run, ends, look, give}
use Rattle.machine_core.specs.MachineStep.{errs_at, error_row, level_in, wrong_type}
use Rattle.machine_sound.specs.Sound.{Sizes, Each, Valid}
use Rattle.table_core.specs.declared.value.Value.{Value as Kept}
use Rattle.lua_heap.specs.declared.world.World.{World as Memory}
use Rattle.lua_heap.specs.Plain.{plain}
use Rattle.lua_heap.specs.Reading.{value}
use Rattle.move_laws.specs.Memory.{Leads, Makes, ReadsSame}
use Rattle.move_laws.proofs.Rows.{act_is}
use Rattle.machine_errors.specs.Protected.{first_of}
use Rattle.machine_errors.specs.Asking.{taken}
use Rattle.machine_errors.specs.declared.throwing.Level.{Level}
use Rattle.machine_errors.specs.declared.throwing.Level.TheVariants.{Of, Nowhere, Wrong}
use Rattle.machine_errors.specs.Throwing.{level_of, Sends}
use Rattle.machine_errors.proofs.Leaving.{with_moving, world_made}
use Rattle.machine_errors.proofs.Handled.{takes_first}
use Rattle.machine_errors.proofs.Calls.{blames_taken, next_behind, nth_behind, nth_first, nth_second, where_same}

pub first_valid : (z : Sizes) (texts : List (List ℕ)) (vs : List Kept) → Each (Valid z) (map (value texts) vs) → Valid z (value texts (first_of vs))
first_valid z texts [] e = tt
first_valid z texts (v ∷ vs) e = e 0 (value texts v) refl

pub second_valid : (z : Sizes) (texts : List (List ℕ)) (vs : List Kept) → Each (Valid z) (map (value texts) vs) → Valid z (value texts (first_of (drop 1 vs)))
second_valid z texts [] e = tt
second_valid z texts (v ∷ vs) e = first_valid z texts vs (λ i x h. e (suc i) x h)

-- a place in front does not hang on what moves
placed_same : (W : World) (vs : List Value) (level : ℕ) (v : Value) → placed (with_moving W vs) level v ≡ placed W level v
placed_same W vs level (known (string text)) = ap (λ place. limited (place ++ text)) (where_same W vs level)
placed_same W vs level _ = refl

-- levels

is_wrong : (o : Option ℤ) → level_of o ≡ Wrong → o ≡ None
is_wrong None e = refl
is_wrong (Some (pos zero)) e = absurd (cc)
is_wrong (Some (pos (suc n))) e = absurd (cc)
is_wrong (Some (negsuc n)) e = absurd (cc)

is_level : (o : Option ℤ) (level : ℕ) → level_of o ≡ Of level → o ≡ Some (pos (suc level))
is_level None level e = absurd (cc)
is_level (Some (pos zero)) level e = absurd (cc)
is_level (Some (pos (suc n))) level e = ap (λ n. Some (pos (suc n))) (ap (λ l. elim l as (λ _. ℕ) [ Of k ↦ k | _ ↦ 0 ]) e)
is_level (Some (negsuc n)) level e = absurd (cc)

bare : (at : ℕ) (s : Shape) (o : Option ℤ) → level_of o ≡ Nowhere → errs_at at s o ≡ then (give (read at ∷ [])) (stop raised)
bare at s None e = absurd (cc)
bare at s (Some (pos zero)) e = refl
bare at s (Some (pos (suc n))) e = absurd (cc)
bare at s (Some (negsuc n)) e = refl

-- the row

module _ (old : Memory) where
  abbrev read_by : Kept → Value
  read_by v = value old.strings v

  abbrev moved : List Value
  moved = map read_by old.moving.items

  abbrev seen : Shape
  seen = shape (read_by (first_of (drop 1 old.moving.items)))

  abbrev row_at : ℕ → Shape → Row
  row_at at s = errs_at at s (level_in s)

  looked : (env : List Value) (fuel : ℕ) → run error_row env (plain old fuel) ≡ run (row_at (length env) seen) (env ++ moved) (taken old fuel)
  looked env fuel =
      let E = env ++ moved in
      let s : shape (nth E (suc (length env))) ≡ seen = ap shape (next_behind env moved ∙ nth_second read_by old.moving.items refl) in
      takes_first old (λ e _. act (look (read (suc e))) (λ _ s. row_at e s)) env fuel
      ∙ act_is (look (read (suc (length env)))) (λ _ s. row_at (length env) s) E (taken old fuel) (taken old fuel) [] (shape (nth E (suc (length env)))) refl
      ∙ ap (λ E'. run (row_at (length env) (shape (nth E (suc (length env))))) E' (taken old fuel)) (append-nil E)
      ∙ ap (λ s. run (row_at (length env) s) E (taken old fuel)) s

  message_is : (env : List Value) → nth (env ++ moved) (length env) ≡ read_by (first_of old.moving.items)
  message_is env = nth_behind env moved ∙ nth_first read_by old.moving.items refl

  pub throws : (new : Memory) (env : List Value) → level_of (level_in seen) ≡ Nowhere → Sends old new (λ fuel. read_by (first_of old.moving.items)) → Leads error_row env old new raised
  throws new env e s = record {
    is = λ fuel.
        looked env fuel
        ∙ ap (λ r. run r (env ++ moved) (taken old fuel)) (bare (length env) seen (level_in seen) e)
        ∙ ap (λ v. ends raised (with_moving (plain old fuel) (v ∷ []))) (message_is env)
        ∙ ap (ends raised) (sym (s.is fuel));
  }

  pub throws_placed : (new : Memory) (level : ℕ) (env : List Value) → level_of (level_in seen) ≡ Of level
      → Sends old new (λ fuel. placed (plain old fuel) level (read_by (first_of old.moving.items))) → Leads error_row env old new raised
  throws_placed new level env e s = record {
    is = λ fuel.
        let E = env ++ moved in
        let v = placed (taken old fuel) level (nth E (length env)) in
        looked env fuel
        ∙ ap (λ o. run (errs_at (length env) seen o) E (taken old fuel)) (is_level (level_in seen) level e)
        ∙ ap (λ v. ends raised (with_moving (plain old fuel) (v ∷ []))) (
        nth_behind E (v ∷ [])
        ∙ ap (placed (taken old fuel) level) (message_is env)
        ∙ placed_same (plain old fuel) [] level (read_by (first_of old.moving.items)))
        ∙ ap (ends raised) (sym (s.is fuel));
  }

  pub refuses : (new : Memory) (ending : Ending) (env : List Value) → level_of (level_in seen) ≡ Wrong
      → ((env : List Value) → Leads (blames (wrong_type 2 (codes "error") (codes "number") seen)) env old new ending) → Leads error_row env old new ending
  refuses new ending env e b = record {
    is = λ fuel.
        looked env fuel
        ∙ ap (λ o. run (errs_at (length env) seen o) (env ++ moved) (taken old fuel)) (is_wrong (level_in seen) e)
        ∙ blames_taken old (wrong_type 2 (codes "error") (codes "number") seen) (env ++ moved) fuel
        ∙ (b (env ++ moved)).is fuel;
  }

-- one value is given
pub sent : (old new : Memory) (items : List Kept) (v : Kept) → items ≡ v ∷ []
    → ((env : List Value) (xs : List Arg) → args_of env xs ≡ map (value old.strings) items → Makes old new (give xs) env [] tt) → Sends old new (λ fuel. value old.strings v)
sent old new items v e g = record { is = λ fuel. sym (world_made ((g (value old.strings v ∷ []) (read 0 ∷ []) (sym (ap (map (value old.strings)) e))).is fuel)) }

pub sent_from : {old named new : Memory} {v w : ℕ → Value} → ReadsSame old named → Sends named new v → ((fuel : ℕ) → v fuel ≡ w fuel) → Sends old new w
sent_from {old} {named} {new} {v} {w} r s e = record {
  is = λ fuel.
      s.is fuel
      ∙ ap (λ W. with_moving W (v fuel ∷ [])) (r.is fuel)
      ∙ ap (λ x. with_moving (plain old fuel) (x ∷ [])) (e fuel);
}

-- what the level is, of the value that was read for it
pub level_is : (texts : List (List ℕ)) {v w : Kept} {told level : Level} → v ≡ w → told ≡ level_of (level_in (shape (value texts v))) → told ≡ level → level_of (level_in (shape (value texts w))) ≡ level
level_is texts e h l = ap (λ v. level_of (level_in (shape (value texts v)))) (sym e) ∙ sym h ∙ l
