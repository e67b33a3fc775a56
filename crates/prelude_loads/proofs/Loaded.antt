-- The session of an image: the environment of the prelude is out of reach where it was.
use Rattle.std.proofs.Common.{ℕ, ◌≡◌, ◌<◌, ◌≤◌, ◌⊎◌, ⊎_elim, inl, inr, List, [], ◌∷◌, Option, Some, None, refl, subst, sym, ap, ◌∙◌, length, map, arith}
use Rattle.std.specs.Prelude.{ℤ, slice_get, option_map}
use Rattle.std.proofs.lemmas.Bool.{cases_lt}
use Rattle.std.proofs.lemmas.List.{length-map}
use Rattle.int_core.specs.Value.{nil, string, integer, a_table, a_function, a_coroutine, Value, known, object}
use Rattle.int_core.specs.Heap.{Table}
use Rattle.code_core.specs.Prototype.{Prototype}
use Rattle.library_rows.specs.Library.{Entry, all_entries}
use Rattle.machine_core.specs.World.{Function, Coroutine, World}
use Rattle.machine_alike.specs.Agree.{Pairs, SameNumber, SameFunction, Agree}
use Rattle.machine_alike.proofs.Pairwise.{both_split}
use Rattle.machine_sound.specs.Sound.{Each, Sound}
use Rattle.machine_sound.proofs.Lists.{each_none, get_within, get_there, some_is}
use Rattle.machine_runs.specs.Laws.{MayTurn}
use Rattle.machine_runs.specs.Opening.{prelude_function, opening}
use Rattle.image_core.specs.Visit.{place}
use Rattle.image_core.specs.Image.{Image}
use Rattle.image_core.specs.Records.{an_object, same_part, parts_in_order}
use Rattle.image_core.specs.Loading.{Target, new_number, value_made, loaded, or_number, loading}
use Rattle.image_load.specs.Session.{with_roots, session_roots, CanResume, SessionAgrees}
use Rattle.session_images.specs.Prelude.{HasPrelude}
use Rattle.session_images.specs.Saved.{session_image, session_of, session_name, session_target, below, prelude_pairs, IsSmall}
use Rattle.session_images.specs.Laws.{IsLibrary, SessionHasPrelude, SavedCanResume}
use Rattle.session_images.proofs.Same.{below_so}
use Rattle.prelude_stays.specs.Guards.{Guard}
use Rattle.prelude_stays.specs.Kept.{Home, Apart, TableOk}
use Rattle.prelude_stays.specs.Laws.{home_of, PreludeGuarded, Stays, OpeningStays}
use Rattle.prelude_loads.specs.Law.{LoadedStays}
use Rattle.prelude_loads.proofs.Lists.{list_by}
use Rattle.prelude_loads.proofs.Paired.{paired_keeps}
use Rattle.prelude_loads.proofs.Covered.{function_paired, table_paired, coroutine_paired}

some_so : {A : Type 0} {a b : A} → Some a ≡ Some b → a ≡ b
some_so e = cc

-- roots change none of these

record IsRooted (Y X : World) : Type 0 where
  tables : X.heap.tables ≡ Y.heap.tables
  functions : X.functions ≡ Y.functions
  coroutines : X.coroutines ≡ Y.coroutines
  moving : X.moving ≡ Y.moving

rooted_by : (Y : World) (co g : ℕ) (m : Option ℕ) (key : List ℕ) (n : ℤ) → IsRooted Y (record Y { main = Some co; globals = g; heap = record Y.heap { string_metatable = m }; special_key = key; max_depth = n })
rooted_by Y co g m key n = record { tables = refl; functions = refl; coroutines = refl; moving = refl }

rooted : (vs : List Value) (Y X : World) → with_roots vs Y ≡ Some X → IsRooted Y X
rooted (object a_coroutine co ∷ object a_table g ∷ known nil ∷ known (string key) ∷ known (integer n) ∷ []) Y X e = subst (IsRooted Y) (some_so e) (rooted_by Y co g None key n)
rooted (object a_coroutine co ∷ object a_table g ∷ object a_table m ∷ known (string key) ∷ known (integer n) ∷ []) Y X e = subst (IsRooted Y) (some_so e) (rooted_by Y co g (Some m) key n)
rooted _ Y X e = absurd (cc)

-- the world before a script

opening_count : (prelude : List (Entry Prototype)) → length (opening prelude).functions ≡ length prelude
unfolding opening
opening_count prelude = length-map prelude prelude_function

no_coroutines : (prelude : List (Entry Prototype)) → (opening prelude).coroutines ≡ []
unfolding opening
no_coroutines prelude = refl

none_moves : (prelude : List (Entry Prototype)) → (opening prelude).moving ≡ []
unfolding opening
none_moves prelude = refl

none_there : {A : Type 0} (xs : List A) (j : ℕ) (x : A) → xs ≡ [] → slice_get xs j ≡ Some x → ⊥
none_there [] j x e h = cc
none_there (y ∷ xs) j x e h = cc

-- the prelude's functions have their numbers
same_below : (count n : ℕ) (more : Option ℕ) → n < count → or_number (below count n) more ≡ Some n
same_below count n more l = ap (λ o. or_number o more) (below_so count n l)

module _ (can : SavedCanResume) (agrees : SessionAgrees) (opens : OpeningStays) (has : SessionHasPrelude) (prelude : List (Entry Prototype)) (library : IsLibrary prelude) (guarded : PreludeGuarded prelude)
    (W X : World) (sound : Sound (length all_entries) W) (may : MayTurn W) (there : HasPrelude prelude W) (small : IsSmall W) (stays : Stays (home_of prelude) W) (is : session_of prelude (session_image W) ≡ Some X) where
  abbrev V : World
  V = opening prelude

  abbrev T : Target
  T = session_target V

  abbrev I : Image
  I = session_image W

  abbrev y : Home
  y = home_of prelude

  abbrev q : Pairs
  q = loading (prelude_pairs (length prelude)) T (parts_in_order W (session_name W) (session_roots W)) I.records

  resumes : CanResume (prelude_pairs (length prelude)) W V T (session_name W)
  resumes = can prelude library W sound may there small

  agree : Agree q W X
  agree = let r = agrees (prelude_pairs (length prelude)) W V T (session_name W) resumes in subst (Agree q W) (some_so (sym r.is ∙ is)) r.agree

  from : IsRooted (loaded T I.records V) X
  from = rooted (map (value_made T I.records) I.roots) (loaded T I.records V) X is

  here : HasPrelude prelude X
  here = has prelude I X is

  same_function : (n : ℕ) → n < length prelude → SameNumber q a_function n n
  same_function n l = same_below (length prelude) n (option_map (new_number T I.records a_function) (place same_part (parts_in_order W (session_name W) (session_roots W)) (an_object a_function n))) l

  functions : (j : ℕ) (f : Function) → slice_get X.functions j ≡ Some f → (i : ℕ) × SameNumber q a_function i j
  functions j f e = ⊎_elim (λ k. let l = get_within V.functions j f k in let n = opening_count prelude in (j, same_function j (omega (arith, l, n)))) (λ k. k)
      (function_paired (prelude_pairs (length prelude)) W V T (session_name W) (session_roots W) resumes.can_load j f (subst (λ (fs : List Function). slice_get fs j ≡ Some f) from.functions e))

  coroutines : (j : ℕ) (c : Coroutine) → slice_get X.coroutines j ≡ Some c → (i : ℕ) × SameNumber q a_coroutine i j
  coroutines j c e = ⊎_elim (λ k. absurd (none_there V.coroutines j c (no_coroutines prelude) k)) (λ k. k)
      (coroutine_paired (prelude_pairs (length prelude)) W V T (session_name W) (session_roots W) resumes.can_load j c (subst (λ (cs : List Coroutine). slice_get cs j ≡ Some c) from.coroutines e))

  past : (i j : ℕ) → SameNumber q a_function i j → length prelude ≤ j → length prelude ≤ i
  past i j s l = ⊎_elim (λ k. let e : i ≡ j = some_so (sym (same_function i k) ∙ s) in absurd (omega (arith, e, k, l))) (λ k. k) (cases_lt i (length prelude))

  -- each function has the guard of the one that it is paired with

  abbrev HasGuard : ℕ → Guard → Type 0
  HasGuard j g = (i : ℕ) × SameNumber q a_function i j × (slice_get stays.0 i ≡ Some g)

  one : (j : ℕ) → j < length X.functions → (g : Guard) × HasGuard j g
  one j l =
      let f = get_there X.functions j l in
      let n = functions j f.0 f.1 in
      let b = both_split (SameFunction q) (slice_get W.functions n.0) (slice_get X.functions j) (agree.objects.functions n.0 j n.1) in
      let k = stays.1.functions n.0 b.0 b.2 in
      (k.guard, (n.0, n.1, k.there))

  guards : (gs : List Guard) × (length gs ≡ length X.functions) × ((j : ℕ) (g : Guard) → slice_get gs j ≡ Some g → HasGuard j g)
  guards = list_by (length X.functions) HasGuard one

  fits : (i j : ℕ) (g : Guard) → SameNumber q a_function i j → slice_get stays.0 i ≡ Some g → slice_get guards.0 j ≡ Some g
  fits i j g s e =
      let b = both_split (SameFunction q) (slice_get W.functions i) (slice_get X.functions j) (agree.objects.functions i j s) in
      let l : j < length X.functions = get_within X.functions j b.1 b.3 in
      let count = guards.1 in
      let k = get_there guards.0 j (omega (arith, l, count)) in
      let h = guards.2 j k.0 k.1 in
      let same : h.0 ≡ i = agree.objects.one_to_one.objects a_function h.0 i j h.1 s in
      let own : k.0 ≡ g = some_is h.2 (ap (slice_get stays.0) same ∙ e) in
      k.1 ∙ ap Some own

  tables : (j : ℕ) (t : Table) → slice_get X.heap.tables j ≡ Some t → TableOk y.table t ⊎ ((i : ℕ) × SameNumber q a_table i j)
  tables j t e = ⊎_elim (λ k. inl ((opens prelude guarded).1.heap.tables j t k)) inr
      (table_paired (prelude_pairs (length prelude)) W V T (session_name W) (session_roots W) resumes.can_load j t (subst (λ (ts : List Table). slice_get ts j ≡ Some t) from.tables e))

  moving : Each (Apart y.table) X.moving
  moving = subst (Each (Apart y.table)) (sym (from.moving ∙ none_moves prelude)) (each_none (Apart y.table))

  pub loaded_keeps : Stays y X
  loaded_keeps = (
    guards.0,
    paired_keeps q W X agree.objects y refl stays.0 guards.0 fits stays.1 coroutines refl past guards.1 agree.roots moving here.untouched.table here.untouched.cell functions tables,
  )

pub loaded_stays : SavedCanResume → SessionAgrees → OpeningStays → SessionHasPrelude → LoadedStays
loaded_stays can agrees opens has prelude library guarded W X sound may there small stays is = loaded_keeps can agrees opens has prelude library guarded W X sound may there small stays is
