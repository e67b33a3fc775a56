-- The premises of loading, of a session's image.
use Rattle.std.proofs.Common.{arith, ℕ, zero, suc, ◌+◌, ◌≡◌, ◌<◌, ◌≤◌, Bool, true, false, cond, List, [], ◌∷◌, ◌++◌, Option, Some, None, refl, subst, sym, ◌∙◌, ap, length, map}
use Rattle.std.specs.Prelude.{slice_get, flat_map}
use Rattle.std.specs.List.{AllZip}
use Rattle.int_core.specs.Value.{Kind, a_table, a_function, a_coroutine, Value, known, object}
use Rattle.int_core.specs.Heap.{Table}
use Rattle.code_core.specs.Prototype.{Prototype}
use Rattle.list_laws.proofs.Tests.{eq_not}
use Rattle.library_rows.specs.Library.{Entry, all_entries}
use Rattle.library_rows.specs.PreludeText.{function_keys}
use Rattle.lua_meaning.specs.Libraries.{environment_table}
use Rattle.machine_core.specs.World.{Function, Cell, closed, open_at, Wait, leaving, Frame, lua, pcall, xpcall, handler, closing, Coroutine, fresh, suspended, in_progress, normal, dead, failed, World}
use Rattle.machine_alike.specs.Agree.{SameNumber, SameCellNumber}
use Rattle.machine_sound.specs.Sound.{Each, sizes, Valid, OptionOk, Solid, Sound, Standing, runs, resumed_another, apart, standing}
use Rattle.machine_sound.proofs.Lists.{get_map, map_get}
use Rattle.machine_runs.specs.Laws.{PreludeOk, MayTurn}
use Rattle.machine_runs.specs.Opening.{numbers, opening}
use Rattle.machine_runs.proofs.Opening.{opening_solid, opening_idle}
use Rattle.image_core.specs.Visit.{IsMet, greatest_count}
use Rattle.image_core.specs.Image.{Item}
use Rattle.image_core.specs.Records.{Part, an_object, a_cell, same_part, Field, of_value, of_cell, of_coroutine, row_fields, metatable_value, table_fields, wait_fields, error_fields, frame_fields, coroutine_fields, present, cell_fields, if_there, fields, value_parts, unless_named, field_parts, parts, is_reached, parts_in_order}
use Rattle.image_core.proofs.Lists.{Every, every_at, every_get, every_both, every_in_flat, place_met, place_get, order_within, none_some}
use Rattle.image_core.proofs.Parts.{part_tells, part_self}
use Rattle.image_load.specs.Session.{main_value, session_roots, CanResume}
use Rattle.image_sound.specs.Savable.{Savable}
use Rattle.image_saved.specs.Saved.{IsSaved, SavedCanLoad}
use Rattle.session_images.specs.Permanents.{base_permanents}
use Rattle.session_images.specs.Prelude.{environment_cell, HasPrelude}
use Rattle.session_images.specs.Saved.{session_name, session_target, only, below, prelude_pairs, IsSmall}
use Rattle.session_images.specs.Laws.{IsLibrary, SavedCanResume}
use Rattle.session_images.proofs.Prelude.{opening_has_prelude}
use Rattle.session_images.proofs.Same.{only_is, below_is, below_so, prelude_same}
use Rattle.session_images.proofs.Keys.{coroutine_unnamed, unnamed_function, unnamed_table, base_inverse}
use Rattle.image_saved.proofs.Names.{some_so}

-- what is met has no name, and is not the cell of the prelude's environment

module _ (prelude : List (Entry Prototype)) (library : IsLibrary prelude) (W : World) (h : HasPrelude prelude W) where
  abbrev name : Value → Option Item
  name = session_name W

  abbrev Apart : Part → Type 0
  Apart (an_object kind n) = name (object kind n) ≡ None
  Apart (a_cell n) = n ≡ environment_cell → ⊥

  abbrev FieldApart : Field → Type 0
  FieldApart (of_cell n) = n ≡ environment_cell → ⊥
  FieldApart _ = Unit {0}

  parts_apart : (f : Field) → FieldApart f → Every Apart (field_parts name f)
  parts_apart (of_cell n) k = (k, tt)
  parts_apart (of_coroutine n) k = (coroutine_unnamed W n, tt)
  parts_apart (of_value (known p)) k = by (name (known p))
    where
      by : (o : Option Item) → Every Apart (unless_named o (value_parts (known p)))
      by None = tt
      by (Some i) = tt
  parts_apart (of_value (object kind n)) k = by (name (object kind n)) refl
    where
      by : (o : Option Item) → name (object kind n) ≡ o → Every Apart (unless_named o (value_parts (object kind n)))
      by None e = (e, tt)
      by (Some i) e = tt

  values_apart : (vs : List Value) → Every FieldApart (map of_value vs)
  values_apart [] = tt
  values_apart (v ∷ vs) = (tt, values_apart vs)

  rows_apart : (rows : List (Value × Value)) → Every FieldApart (flat_map row_fields rows)
  rows_apart [] = tt
  rows_apart (row ∷ rows) = (tt, (tt, rows_apart rows))

  table_apart : (t : Table) → Every FieldApart (table_fields t)
  table_apart t = every_both FieldApart (flat_map row_fields t.rows) (of_value (metatable_value t.metatable) ∷ []) (rows_apart t.rows) (tt, tt)

  wait_apart : (w : Wait Value) → Every FieldApart (wait_fields w)
  wait_apart (leaving e) = (tt, tt)
  wait_apart _ = tt

  error_apart : (e : Option Value) → Every FieldApart (error_fields e)
  error_apart None = tt
  error_apart (Some e) = (tt, tt)

  frame_apart : (f : Frame) → Every FieldApart (frame_fields f)
  frame_apart (lua f) = (
    tt,
    every_both FieldApart (map of_value f.own.varargs) (map of_value f.own.registers ++ wait_fields f.wait) (values_apart f.own.varargs)
        (every_both FieldApart (map of_value f.own.registers) (wait_fields f.wait) (values_apart f.own.registers) (wait_apart f.wait)),
  )
  frame_apart pcall = tt
  frame_apart (xpcall v) = (tt, tt)
  frame_apart handler = tt
  frame_apart (closing e left) = every_both FieldApart (error_fields e) (map of_value left) (error_apart e) (values_apart left)

  frames_apart : (fs : List Frame) → Every FieldApart (flat_map frame_fields fs)
  frames_apart [] = tt
  frames_apart (f ∷ fs) = every_both FieldApart (frame_fields f) (flat_map frame_fields fs) (frame_apart f) (frames_apart fs)

  coroutine_apart : (c : Coroutine) → Every FieldApart (coroutine_fields c)
  coroutine_apart (fresh v) = (tt, tt)
  coroutine_apart (suspended fs) = frames_apart fs
  coroutine_apart (in_progress fs) = tt
  coroutine_apart (normal fs) = tt
  coroutine_apart dead = tt
  coroutine_apart (failed e vs) = (tt, values_apart vs)

  cell_apart : (inside : ℕ → Bool) (c : Cell) → Every FieldApart (cell_fields W inside c)
  cell_apart inside (closed v) = (tt, tt)
  cell_apart inside (open_at co frame register) = by (inside co)
    where
      by : (b : Bool) → Every FieldApart (cond b (of_coroutine co ∷ []) (of_value (present W (open_at co frame register)) ∷ []))
      by true = (tt, tt)
      by false = (tt, tt)

  function_apart : (n : ℕ) (f : Function) → name (object a_function n) ≡ None → slice_get W.functions n ≡ Some f → Every FieldApart (map of_cell f.cells)
  function_apart n f unnamed there = every_at FieldApart (map of_cell f.cells) (λ j x e. let m = map_get of_cell f.cells j x e in
      subst FieldApart m.2 (λ is. h.untouched.apart n f (let past = unnamed_function W n unnamed in let same = library.count in omega (arith, past, same)) there j (m.1 ∙ ap Some is)))

  fields_apart : (inside : ℕ → Bool) (o : Part) → Apart o → Every FieldApart (fields W inside o)
  fields_apart inside (an_object a_table n) k = by (slice_get W.heap.tables n)
    where
      by : (o : Option Table) → Every FieldApart (if_there table_fields o)
      by None = tt
      by (Some t) = table_apart t
  fields_apart inside (an_object a_function n) k = by (slice_get W.functions n) refl
    where
      by : (o : Option Function) → slice_get W.functions n ≡ o → Every FieldApart (if_there (λ f. map of_cell f.cells) o)
      by None e = tt
      by (Some f) e = function_apart n f k e
  fields_apart inside (an_object a_coroutine n) k = by (slice_get W.coroutines n)
    where
      by : (o : Option Coroutine) → Every FieldApart (if_there coroutine_fields o)
      by None = tt
      by (Some c) = coroutine_apart c
  fields_apart inside (a_cell n) k = by (slice_get W.cells n)
    where
      by : (o : Option Cell) → Every FieldApart (if_there (cell_fields W inside) o)
      by None = tt
      by (Some c) = cell_apart inside c

  all_apart : (fs : List Field) → Every FieldApart fs → Every (λ f. Every Apart (field_parts name f)) fs
  all_apart [] k = tt
  all_apart (f ∷ fs) k = (parts_apart f k.0, all_apart fs k.1)

  abbrev written : List Part
  written = parts_in_order W name (session_roots W)

  roots_apart : (vs : List Value) → Every Apart (flat_map (λ v. field_parts name (of_value v)) vs)
  roots_apart [] = tt
  roots_apart (v ∷ vs) = every_both Apart (field_parts name (of_value v)) (flat_map (λ v. field_parts name (of_value v)) vs) (parts_apart (of_value v) tt) (roots_apart vs)

  written_apart : Every Apart written
  written_apart =
      order_within same_part part_tells part_self Apart (parts W name (is_reached W name (session_roots W)))
      (λ o k. every_in_flat Apart (field_parts name) (fields W (is_reached W name (session_roots W)) o) (all_apart (fields W (is_reached W name (session_roots W)) o) (fields_apart (is_reached W name (session_roots W)) o k)))
      greatest_count (flat_map (λ v. field_parts name (of_value v)) (session_roots W)) (roots_apart (session_roots W))

  met_apart : (o : Part) → IsMet same_part written o → Apart o
  met_apart o m = let p = place_met same_part part_tells written o m in every_get Apart written p.0 o written_apart (place_get same_part part_tells written o p.0 p.1)

  new_objects : (kind : Kind) (n : ℕ) → name (object kind n) ≡ None → (prelude_pairs (length prelude)).objects kind n ≡ None
  new_objects a_table n k = ap (λ b. cond b (Some n) None) (eq_not environment_table n (λ is. unnamed_table W n k (h.known.number ∙ is)))
  new_objects a_function n k = by (below (length prelude) n) refl
    where
      by : (o : Option ℕ) → below (length prelude) n ≡ o → o ≡ None
      by None e = refl
      by (Some m) e = absurd (let b = (below_is (length prelude) n m e).0 in let past = unnamed_function W n k in let same = library.count in omega (arith, b, past, same))
  new_objects a_coroutine n k = refl

-- no coroutine runs or resumed another where the chain is empty
pub idle_apart : (primitives : ℕ) (W : World) → Solid primitives W → W.chain ≡ [] → (co : ℕ) (c : Coroutine) → slice_get W.coroutines co ≡ Some c → standing c ≡ apart
idle_apart primitives W s idle co c e = by (standing c) (get_map standing W.coroutines co c e)
  where
    none : (i : ℕ) → slice_get W.chain i ≡ Some co → ⊥
    none i k = none_some co (subst (λ (chain : List ℕ). slice_get chain i ≡ Some co) idle k)

    by : (x : Standing) → slice_get (map standing W.coroutines) co ≡ Some x → x ≡ apart
    by runs k = let i = s.chain.running_in co k in absurd (none i.0 i.1)
    by resumed_another k = let i = s.chain.normal_in co k in absurd (none i.0 i.1)
    by apart k = refl

pub roots_valid : (primitives : ℕ) (W : World) → Solid primitives W → Each (Valid (sizes primitives W)) (session_roots W)
roots_valid primitives W s zero v e = by W.main s.roots.main e
  where
    by : (m : Option ℕ) → OptionOk (λ co. co < length W.coroutines) m → Some (main_value m) ≡ Some v → Valid (sizes primitives W) v
    by None k e = subst (Valid (sizes primitives W)) (some_so e) tt
    by (Some co) k e = subst (Valid (sizes primitives W)) (some_so e) k
roots_valid primitives W s (suc zero) v e = subst (Valid (sizes primitives W)) (some_so e) s.roots.globals
roots_valid primitives W s (suc (suc zero)) v e = by W.heap.string_metatable s.roots.string_metatable e
  where
    by : (m : Option ℕ) → OptionOk (λ m. m < length W.heap.tables) m → Some (metatable_value m) ≡ Some v → Valid (sizes primitives W) v
    by None k e = subst (Valid (sizes primitives W)) (some_so e) tt
    by (Some m) k e = subst (Valid (sizes primitives W)) (some_so e) k
roots_valid primitives W s (suc (suc (suc zero))) v e = subst (Valid (sizes primitives W)) (some_so e) s.roots.special_key
roots_valid primitives W s (suc (suc (suc (suc zero)))) v e = subst (Valid (sizes primitives W)) (some_so e) tt
roots_valid primitives W s (suc (suc (suc (suc (suc i))))) v e = absurd (none_some v e)

functions_paired : (from count total : ℕ) → from + count ≤ total → AllZip (SameNumber (prelude_pairs total) a_function) (numbers from count) (numbers from count)
functions_paired from zero total k = tt
functions_paired from (suc count) total k = (below_so total from (omega (arith, k)), functions_paired (suc from) count total (omega (arith, k)))

module _ (can : SavedCanLoad) (prelude : List (Entry Prototype)) (library : IsLibrary prelude) (W : World) (sound : Sound (length all_entries) W) (may : MayTurn W) (h : HasPrelude prelude W) (small : IsSmall W) where
  abbrev V : World
  V = opening prelude

  other : HasPrelude prelude V
  other = opening_has_prelude prelude

  solid : Solid (length all_entries) V
  solid = opening_solid prelude library.ok

  environments : SameNumber (prelude_pairs (length prelude)) a_table W.prelude_environment V.prelude_environment
  environments = subst (λ n. only environment_table n ≡ Some V.prelude_environment) (sym h.known.number) (ap Some (sym other.known.number))

  saved : IsSaved (length all_entries) (prelude_pairs (length prelude)) W V (session_target V) base_permanents base_permanents (session_roots W)
  saved = record {
    savable = record {
      solid = sound.solid;
      roots_there = roots_valid (length all_entries) W sound.solid;
      idle = λ co c m e. idle_apart (length all_entries) W sound.solid may.idle co c e;
    };
    solid = solid;
    target = record { tables = refl; functions = refl; coroutines = refl; cells = refl; environment = refl };
    inverse = base_inverse (length prelude) (let same = library.count in omega (arith, same));
    reads = record { named = λ kind key. refl; environments = environments };
    base_same = prelude_same prelude W V h other sound.solid.one_each solid.one_each;
    few_reached = small.reached;
    few_written = small.written;
    new_objects = λ kind n m. new_objects prelude library W h kind n (met_apart prelude library W h (an_object kind n) m);
    new_cells = λ n m. ap (λ b. cond b (Some n) None) (eq_not environment_cell n (λ is. met_apart prelude library W h (a_cell n) m (sym is)));
    old_apart = λ i j co frame register s e m. closed_there i co frame register (only_is environment_cell i j s).0 e;
    new_apart = λ n co frame register m e. refl;
  }
    where
      closed_there : (i co frame register : ℕ) → environment_cell ≡ i → slice_get W.cells i ≡ Some (open_at co frame register) → ⊥
      closed_there i co frame register is e = let c = h.untouched.cell in let k = subst (λ n. slice_get W.cells n ≡ Some (open_at co frame register)) (sym is) e in cc

  pub resumes : CanResume (prelude_pairs (length prelude)) W V (session_target V) (session_name W)
  resumes = record {
    can_load = can (length all_entries) (prelude_pairs (length prelude)) W V (session_target V) base_permanents base_permanents (session_roots W) saved;
    main = may.main;
    is_main = may.is_main;
    main_unnamed = coroutine_unnamed W may.main;
    left_idle = may.idle;
    right_idle = opening_idle prelude;
    environments = environments;
    functions = rw (h.known.names, other.known.names) (functions_paired 0 (length prelude) (length prelude) (omega arith));
  }

pub saved_can_resume : SavedCanLoad → SavedCanResume
saved_can_resume can prelude library W sound may h small = resumes can prelude library W sound may h small
