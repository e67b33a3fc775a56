-- A sound session that waits for a line is loaded from what it was saved as.
use Rattle.std.proofs.Common.{◌≡◌, ◌≤◌, ℕ, List, [], ◌∷◌, Option, Some, None, length, map, refl, subst, ap, ◌∙◌, arith}
use Rattle.std.proofs.lemmas.List.{length-map}
use Rattle.std.specs.List.{AllZip}
use Rattle.std.specs.Prelude.{slice_get}
use Rattle.code_core.specs.Prototype.{Prototype}
use Rattle.int_core.specs.Value.{a_coroutine}
use Rattle.library_rows.specs.Library.{Entry, all_entries}
use Rattle.library_rows.specs.PreludeText.{function_keys}
use Rattle.list_laws.proofs.Items.{some_same}
use Rattle.machine_core.specs.World.{Frame, Coroutine, suspended, World}
use Rattle.machine_alike.specs.Agree.{Pairs, SameNumber, Both, Each as EachOf, SameCoroutine, same_suspended}
use Rattle.machine_sound.specs.Sound.{Each, sizes, Valid, Solid, Sound}
use Rattle.machine_runs.specs.Laws.{MayTurn}
use Rattle.machine_runs.specs.Opening.{opening, prelude_function}
use Rattle.machine_runs.proofs.Opening.{opening_solid, opening_idle}
use Rattle.image_core.specs.Image.{Perm, Image}
use Rattle.image_core.specs.Loading.{value_made, loaded, loading}
use Rattle.image_core.specs.Records.{parts_in_order}
use Rattle.image_core.proofs.Lists.{every_get}
use Rattle.image_bytes.specs.Format.{read}
use Rattle.image_bytes.specs.Bytes.{image_format}
use Rattle.image_sound.specs.Fitting.{reads}
use Rattle.image_load.specs.Session.{session_roots, Resumed, SessionAgrees}
use Rattle.image_reading.specs.Reader.{reader}
use Rattle.session_images.specs.Laws.{IsLibrary, SavedCanResume}
use Rattle.session_images.specs.Permanents.{base_permanents}
use Rattle.session_images.specs.Prelude.{HasFunctions}
use Rattle.session_images.specs.Saved.{session_image, session_name, session_target, prelude_pairs}
use Rattle.session_images.specs.Stored.{root_count}
use Rattle.images_stand.specs.Sessions.{KnowsLibraries, KnowsPrelude, SessionsAccepted}
use Rattle.eris_read.specs.Unpersist.{AreThere, reads_for}
use Rattle.eris_read.proofs.Given.{solid_loaded, roots_loaded}
use Rattle.lua_saving.specs.Saving.{session_reader, session_codes, HasYielded}
use Rattle.lua_saving.proofs.Resumed.{base_there, opening_functions, opening_environment}
use Rattle.lua_saving.proofs.Rooted.{rooted_sound}
use Rattle.sessions_join.specs.Sessions.{IsSaved}
use Rattle.sessions_load.specs.Law.{IsLoadable}

-- the main coroutine of a world that agrees with one in which it has yielded

suspended_so : (p : Pairs) (fs : List Frame) (c d : Coroutine) → c ≡ suspended fs → SameCoroutine p c d → (gs : List Frame) × (d ≡ suspended gs)
suspended_so p fs _ _ e (same_suspended xs gs s) = (gs, refl)
suspended_so p fs _ _ e _ = absurd (cc)

coroutine_so : (p : Pairs) (fs : List Frame) (a b : Option Coroutine) → a ≡ Some (suspended fs) → Both (SameCoroutine p) a b → (gs : List Frame) × (b ≡ Some (suspended gs))
coroutine_so p fs None b e s = absurd s
coroutine_so p fs (Some c) None e s = absurd s
coroutine_so p fs (Some c) (Some d) e s = let k = suspended_so p fs c d (some_same c (suspended fs) e) s in (k.0, ap Some k.1)

main_so : (p : Pairs) (m : ℕ) (a b : Option ℕ) → a ≡ Some m → EachOf (SameNumber p a_coroutine) a b → (n : ℕ) × (b ≡ Some n) × SameNumber p a_coroutine m n
main_so p m None None e s = absurd (cc)
main_so p m None (Some n) e s = absurd s
main_so p m (Some k) None e s = absurd s
main_so p m (Some k) (Some n) e s = (n, refl, subst (λ i. SameNumber p a_coroutine i n) (some_same k m e) s)

none_zipped : {A : Type 0} (R : A → A → Type 0) (xs ys : List A) → xs ≡ [] → AllZip R xs ys → ys ≡ []
none_zipped R [] [] e z = refl
none_zipped R [] (y ∷ ys) e z = absurd z
none_zipped R (x ∷ xs) ys e z = absurd (cc)

-- the permanents of every session are there in a new world of the libraries
base_in_opening : (prelude : List (Entry Prototype)) → length prelude ≡ length function_keys → AreThere (length all_entries) (opening prelude) base_permanents
base_in_opening prelude count = record {
  each = λ i p e. every_get (λ (p : Perm). Valid (sizes (length all_entries) (opening prelude)) p.object) base_permanents i p
      (base_there (sizes (length all_entries) (opening prelude)) refl
      (let f = ap length (opening_functions prelude) in let m = length-map prelude prelude_function in omega (arith, count, f, m))) e;
}

module _
    (accept : SessionsAccepted) (can : SavedCanResume) (agrees : SessionAgrees) (knows : KnowsLibraries session_reader) (prelude : List (Entry Prototype)) (codes : KnowsPrelude prelude (session_codes prelude)) (library : IsLibrary prelude)
    (W : World) (sound : Sound (length all_entries) W) (may : MayTurn W) (yielded : HasYielded W) (known : HasFunctions prelude W) (bytes : List ℕ) (saved : IsSaved prelude W bytes)
  where
    abbrev V : World
    V = opening prelude

    abbrev I : Image
    I = session_image W

    spelled : bytes ≡ (image_format session_reader root_count).spell I
    spelled = saved.written.spells session_reader

    accepted : (met : ℕ) × (reads session_reader (session_codes prelude) root_count bytes ≡ read I met [])
    accepted =
        let k = accept prelude W session_reader (session_codes prelude) library sound may known saved.written.small saved.kept knows codes (subst (λ (b : List ℕ). length b ≤ 2147483647) spelled saved.size) in
        (k.0, ap (reads session_reader (session_codes prelude) root_count) spelled ∙ k.1)

    resumed : Resumed (loading (prelude_pairs (length prelude)) (session_target V) (parts_in_order W (session_name W) (session_roots W)) I.records) W I (session_target V) V
    resumed = agrees (prelude_pairs (length prelude)) W V (session_target V) (session_name W) (can prelude library W sound may (record { known = known; untouched = saved.written.untouched }) saved.written.small)

    abbrev X : World
    X = resumed.world

    -- it is sound

    read_for : reads_for V base_permanents root_count bytes ≡ read I accepted.0 []
    read_for = ap (λ env. reads (reader base_permanents env) (session_codes prelude) root_count bytes) (opening_environment prelude) ∙ accepted.1

    solid : Solid (length all_entries) (loaded (session_target V) I.records V)
    solid = solid_loaded (length all_entries) V base_permanents I root_count accepted.0 bytes (opening_solid prelude library.ok) (base_in_opening prelude library.count) read_for

    roots_there : Each (Valid (sizes (length all_entries) (loaded (session_target V) I.records V))) (map (value_made (session_target V) I.records) I.roots)
    roots_there = roots_loaded (length all_entries) V base_permanents I root_count accepted.0 bytes (opening_solid prelude library.ok) (base_in_opening prelude library.count) read_for

    loaded_sound : Sound (length all_entries) X
    loaded_sound = rooted_sound (length all_entries) (loaded (session_target V) I.records V) solid (opening_idle prelude) (map (value_made (session_target V) I.records) I.roots) X roots_there resumed.is

    -- and waits as the one that was saved

    loaded_yielded : HasYielded X
    loaded_yielded =
        let p = loading (prelude_pairs (length prelude)) (session_target V) (parts_in_order W (session_name W) (session_roots W)) I.records in
        let m = main_so p yielded.main W.main X.main yielded.is_main resumed.agree.roots.main in
        let k = coroutine_so p yielded.frames (slice_get W.coroutines yielded.main) (slice_get X.coroutines m.0) yielded.yielded (resumed.agree.objects.coroutines yielded.main m.0 m.2) in
        record { main = m.0; is_main = m.1; frames = k.0; yielded = k.1 }

    loaded_may : MayTurn X
    loaded_may =
        let p = loading (prelude_pairs (length prelude)) (session_target V) (parts_in_order W (session_name W) (session_roots W)) I.records in
        record {
          idle = none_zipped (SameNumber p a_coroutine) W.chain X.chain may.idle resumed.agree.roots.chain;
          main = loaded_yielded.main;
          is_main = loaded_yielded.is_main;
          coroutine = suspended loaded_yielded.frames;
          there = loaded_yielded.yielded;
          waits = refl;
        }

    pub loadable : IsLoadable prelude bytes
    loadable = record {
      session = X;
      holds = record { image = I; met = accepted.0; accepted = accepted.1; session = resumed.is; sound = loaded_sound; waits = loaded_may };
      waits = loaded_yielded;
    }
