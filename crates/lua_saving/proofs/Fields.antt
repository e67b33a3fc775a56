-- Nothing that a session's image names is refused.
use Rattle.std.proofs.Common.{arith, ℕ, zero, suc, ◌+◌, ◌<◌, ◌≤◌, ◌≡◌, List, [], ◌∷◌, ◌++◌, Option, Some, None, refl, subst, sym, ap, ◌∙◌, length, Bool, true, false, cond, map}
use Rattle.std.specs.Prelude.{slice_get, flat_map, option_map, nat_eq, ◌||◌}
use Rattle.std.specs.List.{list_any}
use Rattle.int_core.specs.Value.{integer, primitive, a_function, a_coroutine, Value, known, object}
use Rattle.code_core.specs.Writable.{signed_fits}
use Rattle.list_laws.proofs.Tests.{eq_refl, eq_true}
use Rattle.library_rows.specs.Library.{all_entries, key_of as key_of_entry}
use Rattle.library_rows.specs.PreludeText.{function_keys}
use Rattle.machine_core.specs.World.{Coroutine, fresh, suspended, in_progress, normal, dead, failed, World}
use Rattle.machine_sound.specs.Sound.{sizes, Valid, Solid, apart, standing}
use Rattle.machine_runs.specs.Opening.{numbers}
use Rattle.image_core.specs.Image.{PermKey, Item, permanent, text_key}
use Rattle.image_core.specs.Records.{Field, of_value, of_cell, of_coroutine, fields, is_reached, parts_in_order, key_of}
use Rattle.image_core.proofs.Lists.{Every, every_at, every_both, every_in_flat}
use Rattle.image_sound.proofs.Savable.{FieldOk, values_ok, fields_ok}
use Rattle.image_load.specs.Session.{session_roots}
use Rattle.session_images.specs.Permanents.{by_keys, primitive_value, function_value, base_permanents}
use Rattle.session_images.specs.Saved.{session_name}
use Rattle.session_images.proofs.Keys.{unnamed_function}
use Rattle.session_images.proofs.Resuming.{idle_apart, roots_valid}
use Rattle.eris_write.specs.declared.fault.Refusal.{Refusal}
use Rattle.eris_write.specs.declared.fault.Refusal.TheVariants.{LibraryFunction}
use Rattle.eris_write.specs.Refusals.{Cause, refused, beyond, active, if_found, coroutine_refusal, unnamed_refusal, unless_item, or_else, field_refusal, first_refusal, all_fields}

-- each primitive has a key

primitive_keyed : (n : ℕ) (keys : List (List ℕ)) (more : _) (m : ℕ) → n ≤ m → m < n + length keys → (key : PermKey) × (key_of (by_keys primitive_value n keys ++ more) (known (primitive m)) ≡ Some key)
primitive_keyed n [] more m low high = absurd (omega (arith, low, high))
primitive_keyed n (key ∷ keys) more m low high = by (nat_eq n m) refl (λ other. primitive_keyed (suc n) keys more m other (omega (arith, high)))
  where
    differ : nat_eq n m ≡ false → n ≡ m → ⊥
    differ f same = let t = subst (λ m. nat_eq n m ≡ true) same (eq_refl n) in cc

    by : (b : Bool) → nat_eq n m ≡ b → (suc n ≤ m → (key : PermKey) × (key_of (by_keys primitive_value (suc n) keys ++ more) (known (primitive m)) ≡ Some key))
        → (found : PermKey) × (cond b (Some (text_key key)) (key_of (by_keys primitive_value (suc n) keys ++ more) (known (primitive m))) ≡ Some found)
    by true h f = (text_key key, refl)
    by false h f = f (let d = differ h in omega (arith, low, d))

base_keyed : (m : ℕ) → m < length all_entries → (key : PermKey) × (key_of base_permanents (known (primitive m)) ≡ Some key)
unfolding base_permanents
base_keyed m h =
    let same : length (map key_of_entry all_entries) ≡ length all_entries = refl in
    primitive_keyed 0 (map key_of_entry all_entries) (by_keys function_value 0 function_keys) m (omega arith) (omega (arith, h, same))

number_in : (from count m : ℕ) → list_any (nat_eq m) (numbers from count) ≡ true → m < from + count
number_in from zero m h = absurd (cc)
number_in from (suc count) m h = by (nat_eq m from) refl (number_in (suc from) count m) h
  where
    by : (b : Bool) → nat_eq m from ≡ b → (list_any (nat_eq m) (numbers (suc from) count) ≡ true → m < suc from + count) → (b || list_any (nat_eq m) (numbers (suc from) count)) ≡ true → m < from + suc count
    by true e f k = let same = eq_true m from e in omega (arith, same)
    by false e f k = let l = f k in omega (arith, l)

-- no field is refused: at most an integer is beyond what memory holds

abbrev IsFine : Option Cause → Type 0
IsFine None = Unit {0}
IsFine (Some beyond) = Unit {0}
IsFine (Some (refused r)) = ⊥

first_fine : (a b : Option Cause) → IsFine a → IsFine b → IsFine (or_else a b)
first_fine None b h k = k
first_fine (Some beyond) b h k = tt
first_fine (Some (refused r)) b h k = absurd h

module _ (W : World) (s : Solid (length all_entries) W) (idle : W.chain ≡ []) (names : W.prelude_functions ≡ numbers 0 (length function_keys)) where
  coroutine_fine : (co : ℕ) → IsFine (coroutine_refusal W co)
  coroutine_fine co = by (slice_get W.coroutines co) refl
    where
      working : (c : Coroutine) → standing c ≡ apart → IsFine (active c)
      working (in_progress fs) e = absurd (cc)
      working (normal fs) e = absurd (cc)
      working (fresh b) e = tt
      working (suspended fs) e = tt
      working dead e = tt
      working (failed e' vs) e = tt

      by : (o : Option Coroutine) → slice_get W.coroutines co ≡ o → IsFine (if_found active o)
      by None e = tt
      by (Some c) e = working c (idle_apart (length all_entries) W s idle co c e)

  integer_fine : (b : Bool) → IsFine (cond b None (Some beyond))
  integer_fine true = tt
  integer_fine false = tt

  function_fine : (m : ℕ) (b : Bool) → list_any (nat_eq m) W.prelude_functions ≡ b → session_name W (object a_function m) ≡ None → IsFine (cond b (Some (refused LibraryFunction)) None)
  function_fine m false g e = tt
  function_fine m true g e = absurd (let low = number_in 0 (length function_keys) m (subst (λ l. list_any (nat_eq m) l ≡ true) names g) in let high = unnamed_function W m e in omega (arith, low, high))

  unnamed_fine : (v : Value) → Valid (sizes (length all_entries) W) v → session_name W v ≡ None → IsFine (unnamed_refusal W v)
  unnamed_fine (known (integer i)) h e = integer_fine (signed_fits 63 i)
  unnamed_fine (known (primitive m)) h e = let k = base_keyed m h in absurd (let f = sym (ap (option_map (permanent a_function)) k.1) ∙ e in cc)
  unnamed_fine (object a_function m) h e = function_fine m (list_any (nat_eq m) W.prelude_functions) refl e
  unnamed_fine (object a_coroutine m) h e = coroutine_fine m
  unnamed_fine _ h e = tt

  value_fine : (v : Value) → Valid (sizes (length all_entries) W) v → IsFine (unless_item (session_name W v) (unnamed_refusal W v))
  value_fine v h = by (session_name W v) refl
    where
      by : (o : Option Item) → session_name W v ≡ o → IsFine (unless_item o (unnamed_refusal W v))
      by None e = unnamed_fine v h e
      by (Some i) e = tt

  field_fine : (inside : ℕ → Bool) (f : Field) → FieldOk (length all_entries) W s f → IsFine (field_refusal W (session_name W) f)
  field_fine inside (of_value v) h = value_fine v h
  field_fine inside (of_cell c) h = tt
  field_fine inside (of_coroutine co) h = coroutine_fine co

  all_fine : (inside : ℕ → Bool) (fs : List Field) → Every (FieldOk (length all_entries) W s) fs → IsFine (first_refusal W (session_name W) fs)
  all_fine inside [] h = tt
  all_fine inside (f ∷ fs) h = first_fine (field_refusal W (session_name W) f) (first_refusal W (session_name W) fs) (field_fine inside f h.0) (all_fine inside fs h.1)

  session_fine : IsFine (first_refusal W (session_name W) (all_fields W (session_name W) (session_roots W)))
  session_fine =
      let inside = is_reached W (session_name W) (session_roots W) in
      let order = parts_in_order W (session_name W) (session_roots W) in
      all_fine inside (all_fields W (session_name W) (session_roots W))
      (every_both (FieldOk (length all_entries) W s) (map of_value (session_roots W)) (flat_map (fields W inside) order)
      (values_ok (length all_entries) W s (session_roots W) (roots_valid (length all_entries) W s))
      (every_in_flat (FieldOk (length all_entries) W s) (fields W inside) order (every_at (λ o. Every (FieldOk (length all_entries) W s) (fields W inside o)) order (λ j o e. fields_ok (length all_entries) W s inside o))))

  pub none_refused : (r : Refusal) → first_refusal W (session_name W) (all_fields W (session_name W) (session_roots W)) ≡ Some (refused r) → ⊥
  none_refused r e = subst IsFine e session_fine
