-- Where nothing is refused, no coroutine that is met runs or resumed another, so all that is met has its record.
use Rattle.std.proofs.Common.{◌≡◌, ℕ, suc, List, [], ◌∷◌, Option, Some, None, map, refl, sym, ap, ◌∙◌}
use Rattle.std.specs.Prelude.{flat_map, slice_get}
use Rattle.int_core.specs.Value.{a_table, a_function, a_coroutine, Value, known, object}
use Rattle.machine_core.specs.World.{Coroutine, in_progress, normal, World}
use Rattle.machine_sound.specs.Sound.{Each, sizes, Valid, Solid, apart, standing}
use Rattle.image_core.specs.Visit.{IsMet, greatest_count}
use Rattle.image_core.specs.Image.{Item}
use Rattle.image_core.specs.Records.{Part, Field, of_value, of_cell, of_coroutine, an_object, same_part, value_parts, unless_named, field_parts, fields, parts, is_reached, parts_in_order}
use Rattle.image_core.proofs.Lists.{Every, every_get, every_front, every_both, every_flat, every_in_flat, every_on, place_met, place_get, order_within}
use Rattle.image_core.proofs.Parts.{part_tells, part_self}
use Rattle.image_core.proofs.Visits.{order_closed, order_roots}
use Rattle.image_sound.specs.Savable.{Savable}
use Rattle.eris_write.specs.Refusals.{Cause, active, if_found, coroutine_refusal, unnamed_refusal, unless_item, field_refusal, or_else, first_refusal, all_fields}

module _ (W : World) (name : Value → Option Item) where
  abbrev Faultless : Field → Type 0
  Faultless f = field_refusal W name f ≡ None

  first_none : (r q : Option Cause) → or_else r q ≡ None → (r ≡ None) × (q ≡ None)
  first_none None q h = (refl, h)
  first_none (Some r) q h = absurd (cc)

  none_refused : (fs : List Field) → first_refusal W name fs ≡ None → Every Faultless fs
  none_refused [] h = tt
  none_refused (f ∷ fs) h = let k = first_none (field_refusal W name f) (first_refusal W name fs) h in (k.0, none_refused fs k.1)

  abbrev Idle : Part → Type 0
  Idle (an_object a_coroutine n) = (c : Coroutine) → slice_get W.coroutines n ≡ Some c → standing c ≡ apart
  Idle _ = Unit {0}

  idle_coroutine : (c : Coroutine) → active c ≡ None → standing c ≡ apart
  idle_coroutine (in_progress fs) h = absurd (cc)
  idle_coroutine (normal fs) h = absurd (cc)
  idle_coroutine _ h = refl

  idle_at : (n : ℕ) → coroutine_refusal W n ≡ None → Idle (an_object a_coroutine n)
  idle_at n h c g = idle_coroutine c (sym (ap (if_found active) g) ∙ h)

  idle_value : (v : Value) → unnamed_refusal W v ≡ None → Every Idle (value_parts v)
  idle_value (known p) h = tt
  idle_value (object a_table n) h = (tt, tt)
  idle_value (object a_function n) h = (tt, tt)
  idle_value (object a_coroutine n) h = (idle_at n h, tt)

  idle_field : (f : Field) → Faultless f → Every Idle (field_parts name f)
  idle_field (of_value v) h = go (name v) h
    where
      go : (o : Option Item) → unless_item o (unnamed_refusal W v) ≡ None → Every Idle (unless_named o (value_parts v))
      go None h = idle_value v h
      go (Some i) h = tt
  idle_field (of_cell n) h = (tt, tt)
  idle_field (of_coroutine n) h = (idle_at n h, tt)

  idle_fields : (fs : List Field) → Every Faultless fs → Every Idle (flat_map (field_parts name) fs)
  idle_fields fs h = every_in_flat Idle (field_parts name) fs (every_on Faultless (λ f. Every Idle (field_parts name f)) idle_field fs h)

  module _ (roots : List Value) (few : slice_get (parts_in_order W name roots) greatest_count ≡ None) (allowed : first_refusal W name (all_fields W name roots) ≡ None) where
    abbrev Order : List Part
    Order = parts_in_order W name roots

    abbrev Inner : Part → List Part
    Inner = parts W name (is_reached W name roots)

    all_faultless : Every Faultless (map of_value roots) × Every Faultless (flat_map (fields W (is_reached W name roots)) Order)
    all_faultless = every_front Faultless (map of_value roots) (flat_map (fields W (is_reached W name roots)) Order) (none_refused (all_fields W name roots) allowed)

    abbrev IsIdle : Part → Type 0
    IsIdle o = IsMet same_part Order o × Idle o

    record_idle : (o : Part) → IsMet same_part Order o → Every Idle (Inner o)
    record_idle o m =
        let r = place_met same_part part_tells Order o m in
        let each = every_flat Faultless (fields W (is_reached W name roots)) Order all_faultless.1 in
        idle_fields (fields W (is_reached W name roots) o) (every_get (λ o. Every Faultless (fields W (is_reached W name roots) o)) Order r.0 o each (place_get same_part part_tells Order o r.0 r.1))

    inner_met : (o : Part) → IsMet same_part Order o → (j : ℕ) (q : Part) → slice_get (Inner o) j ≡ Some q → IsMet same_part Order q
    inner_met o m j q g =
        let r = place_met same_part part_tells Order o m in
        order_closed same_part part_self Inner greatest_count (flat_map (λ v. field_parts name (of_value v)) roots) few r.0 o q j (place_get same_part part_tells Order o r.0 r.1) g

    both_hold : (ps : List Part) → ((j : ℕ) (q : Part) → slice_get ps j ≡ Some q → IsMet same_part Order q) → Every Idle ps → Every IsIdle ps
    both_hold [] m h = tt
    both_hold (p ∷ ps) m h = ((m 0 p refl, h.0), both_hold ps (λ j q g. m (suc j) q g) h.1)

    roots_idle : (vs : List Value) → Every Faultless (map of_value vs) → Every Idle (flat_map (λ v. field_parts name (of_value v)) vs)
    roots_idle [] h = tt
    roots_idle (v ∷ vs) h = every_both Idle (field_parts name (of_value v)) (flat_map (λ v. field_parts name (of_value v)) vs) (idle_field (of_value v) h.0) (roots_idle vs h.1)

    all_idle : Every IsIdle Order
    all_idle =
        order_within same_part part_tells part_self IsIdle Inner (λ o p. both_hold (Inner o) (inner_met o p.0) (record_idle o p.0)) greatest_count (flat_map (λ v. field_parts name (of_value v)) roots)
        (both_hold (flat_map (λ v. field_parts name (of_value v)) roots) (order_roots same_part part_self Inner greatest_count (flat_map (λ v. field_parts name (of_value v)) roots)) (roots_idle roots all_faultless.0))

    met_idle : (n : ℕ) (c : Coroutine) → IsMet same_part Order (an_object a_coroutine n) → slice_get W.coroutines n ≡ Some c → standing c ≡ apart
    met_idle n c m g =
        let r = place_met same_part part_tells Order (an_object a_coroutine n) m in
        (every_get IsIdle Order r.0 (an_object a_coroutine n) all_idle (place_get same_part part_tells Order (an_object a_coroutine n) r.0 r.1)).1 c g

pub allowed_savable : (primitives : ℕ) (W : World) (name : Value → Option Item) (roots : List Value) → Solid primitives W → Each (Valid (sizes primitives W)) roots → slice_get (parts_in_order W name roots) greatest_count ≡ None
    → first_refusal W name (all_fields W name roots) ≡ None → Savable primitives W name roots
allowed_savable primitives W name roots s r few a = record { solid = s; roots_there = r; idle = λ n c m g. met_idle W name roots few a n c m g }
