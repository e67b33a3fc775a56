-- A session that is loaded into the world of the libraries.
use Rattle.std.proofs.Common.{ℕ, suc, ◌+◌, ◌≡◌, ◌≤◌, List, [], ◌∷◌, refl, sym, subst, ap, ◌∙◌, length, map, arith}
use Rattle.code_core.specs.Prototype.{Prototype, list_of}
use Rattle.code_core.specs.Check.{IsChecked}
use Rattle.library_rows.specs.Library.{Library, Entry, all_entries, key_of as key_of_entry}
use Rattle.library_rows.specs.PreludeText.{prelude_functions, function_keys}
use Rattle.lua_meaning.specs.Libraries.{environment_table}
use Rattle.lua_meaning.specs.Opening.{entries_of, prelude_of}
use Rattle.machine_core.specs.World.{suspended, World}
use Rattle.machine_sound.specs.Sound.{Sizes, sizes, Valid, Sound}
use Rattle.machine_runs.specs.Laws.{MayTurn, OpeningIsSound, OpeningIsIdle}
use Rattle.machine_runs.specs.Opening.{opening, prelude_function}
use Rattle.table_core.specs.declared.value.Value.{Value as Kept}
use Rattle.lua_heap.specs.declared.world.World.{World as Memory}
use Rattle.lua_heap.specs.Plain.{plain}
use Rattle.lua_heap.specs.Reading.{value}
use Rattle.move_laws.specs.Memory.{InOrder}
use Rattle.step_laws.specs.Turns.{MayGoOn}
use Rattle.lua_opening.proofs.SoundOpening.{IsOpened, opened_sound, opened_idle}
use Rattle.image_core.specs.Image.{Perm}
use Rattle.image_core.specs.Loading.{value_made, loaded}
use Rattle.image_core.proofs.Lists.{Every, every_get, every_both}
use Rattle.image_bytes.specs.Format.{read}
use Rattle.image_sound.specs.Fitting.{reads}
use Rattle.image_load.specs.Session.{with_roots}
use Rattle.image_reading.specs.Reader.{reader}
use Rattle.image_reading.specs.declared.fault.ReadFault.{ReadFault}
use Rattle.image_reading.specs.declared.fault.ReadFault.TheVariants.{Refused, Memory as NoMemory}
use Rattle.image_reading.specs.declared.fault.Refusal.TheVariants.{OutOfPlace}
use Rattle.image_saved.specs.Permanents.{target}
use Rattle.eris_read.specs.Unpersist.{reads_for, CanRead, AreThere as PermanentsAreThere, Loads, IsCause}
use Rattle.session_images.specs.Permanents.{by_keys, primitive_value, function_value, base_permanents}
use Rattle.session_images.specs.Saved.{session_of}
use Rattle.session_images.specs.Stored.{root_count}
use Rattle.lua_saving.specs.Saving.{session_reader, session_codes, IsSession, IsRefused, by_bytes, by_roots, no_memory, AreThere, TakesRoots, IsNoSession}
use Rattle.lua_saving.proofs.Rooted.{rooted_sound}

pub memory_refused : (prelude : List (Entry Prototype)) (bytes : List ℕ) (f : ReadFault) → f ≡ NoMemory → IsRefused prelude bytes f
memory_refused prelude bytes f e = subst (IsRefused prelude bytes) (sym e) no_memory

-- the permanents of every session are there

primitives_there : (z : Sizes) (from : ℕ) (keys : List (List ℕ)) → from + length keys ≤ z.primitives → Every (λ (p : Perm). Valid z p.object) (by_keys primitive_value from keys)
primitives_there z from [] h = tt
primitives_there z from (key ∷ keys) h = (omega (arith, h), primitives_there z (suc from) keys (omega (arith, h)))

functions_there : (z : Sizes) (from : ℕ) (keys : List (List ℕ)) → from + length keys ≤ length z.functions → Every (λ (p : Perm). Valid z p.object) (by_keys function_value from keys)
functions_there z from [] h = tt
functions_there z from (key ∷ keys) h = (omega (arith, h), functions_there z (suc from) keys (omega (arith, h)))

pub base_there : (z : Sizes) → z.primitives ≡ length all_entries → length function_keys ≤ length z.functions → Every (λ (p : Perm). Valid z p.object) base_permanents
unfolding base_permanents
base_there z e h =
    let same : length (map key_of_entry all_entries) ≡ length all_entries = refl in
    every_both (λ (p : Perm). Valid z p.object) (by_keys primitive_value 0 (map key_of_entry all_entries)) (by_keys function_value 0 function_keys)
    (primitives_there z 0 (map key_of_entry all_entries) (omega (arith, e, same))) (functions_there z 0 function_keys (omega (arith, h)))

functions_count : (fs : List (List ℕ × Library)) (ps : List Prototype) → length ps ≡ length fs → length (map prelude_function (entries_of fs ps)) ≡ length fs
functions_count [] ps h = refl
functions_count (f ∷ fs) [] h = absurd (omega (arith, h))
functions_count (f ∷ fs) (p ∷ ps) h = ap suc (functions_count fs ps (omega (arith, h)))

pub opening_functions : (es : List (Entry Prototype)) → (opening es).functions ≡ map prelude_function es
unfolding opening
opening_functions es = refl

pub opening_environment : (es : List (Entry Prototype)) → (opening es).prelude_environment ≡ environment_table
unfolding opening
opening_environment es = refl

module _ (prelude : Prototype) (W : Memory) (o : IsOpened prelude W) (count : length (list_of prelude.inner) ≡ length prelude_functions) where
  abbrev es : List (Entry Prototype)
  es = prelude_of (list_of prelude.inner)

  base_in_world : PermanentsAreThere (length all_entries) (plain W 0) base_permanents
  base_in_world = record {
    each = λ i p e. every_get (λ (p : Perm). Valid (sizes (length all_entries) (plain W 0)) p.object) base_permanents i p
        (base_there (sizes (length all_entries) (plain W 0)) refl
        (let n = functions_count prelude_functions (list_of prelude.inner) count in
        let f = ap length (ap (λ (V : World). V.functions) o.is ∙ opening_functions es) in
        let k : length prelude_functions ≡ length function_keys = refl in
        omega (arith, n, f, k))) e;
  }

  module _ (perms : List Perm) (base : perms ≡ base_permanents) (opens : OpeningIsSound) (idle : OpeningIsIdle) (checked : IsChecked prelude) where
    perms_in_world : PermanentsAreThere (length all_entries) (plain W 0) perms
    perms_in_world = subst (PermanentsAreThere (length all_entries) (plain W 0)) (sym base) base_in_world

    pub may_read : CanRead W perms
    may_read = record {
      primitives = length all_entries;
      few = omega arith;
      sound = opened_sound opens prelude W checked o;
      order = record { codes = o.codes; listed = o.listed };
      there = perms_in_world;
    }

    -- what is read for this world is what is read for each world of the libraries
    reads_so : (bytes : List ℕ) → reads_for (plain W 0) perms root_count bytes ≡ reads session_reader (session_codes es) root_count bytes
    reads_so bytes =
        ap (λ ps. reads_for (plain W 0) ps root_count bytes) base
        ∙ (ap (λ (V : World). reads_for V base_permanents root_count bytes) o.is
        ∙ ap (λ env. reads (reader base_permanents env) (session_codes es) root_count bytes) (opening_environment es))

    pub refusal : (bytes : List ℕ) (f : ReadFault) → IsCause W perms root_count bytes f → IsRefused es bytes f
    refusal bytes (Refused why) h = by_bytes why (sym (reads_so bytes) ∙ h)
    refusal bytes NoMemory h = no_memory

    -- what is loaded

    module _ (V : Memory) (bytes : List ℕ) (values : List Kept) (l : Loads W V perms root_count bytes values) where
      accepted : reads session_reader (session_codes es) root_count bytes ≡ read l.image l.met []
      accepted = sym (reads_so bytes) ∙ l.is_read

      abbrev Made : (perms : List Perm) (U : World) → Type 0
      Made perms U = with_roots (map (value V.strings) values) (plain V 0) ≡ with_roots (map (value_made (target U perms) l.image.records) l.image.roots) (loaded (target U perms) l.image.records U)

      -- its session is the world with the values as roots
      session_is : session_of es l.image ≡ with_roots (map (value V.strings) values) (plain V 0)
      session_is = sym (subst (Made base_permanents) o.is (subst (λ ps. Made ps (plain W 0)) base
          (ap (λ vs. with_roots vs (plain V 0)) l.roots_made ∙ ap (with_roots (map (value_made (target (plain W 0) perms) l.image.records) l.image.roots)) (l.world 0))))

      pub roots_there : AreThere V values
      roots_there =
          let s = opened_sound opens prelude W checked o in
          record {
            solid = l.solid (length all_entries) s.solid perms_in_world;
            each = l.roots_there (length all_entries) s.solid perms_in_world;
          }

      still_idle : (plain V 0).chain ≡ []
      still_idle = ap (λ (U : World). U.chain) (l.world 0) ∙ opened_idle idle prelude W o

      pub no_session : IsNoSession V values → IsRefused es bytes (Refused OutOfPlace)
      no_session h = by_roots (record { image = l.image; met = l.met; accepted = accepted; none = λ X is y. h.none X (sym session_is ∙ is) y })

      module _ (U : Memory) (t : TakesRoots V U values) where
        sound : Sound (length all_entries) (plain U 0)
        sound = rooted_sound (length all_entries) (plain V 0) roots_there.solid still_idle (map (value V.strings) values) (plain U 0) roots_there.each (t.is 0)

        may : MayTurn (plain U 0)
        may = record {
          idle = ap (λ (M : Memory). map (λ co. co.0) M.chain.items) t.rest ∙ still_idle;
          main = t.waits.main;
          is_main = t.waits.is_main;
          coroutine = suspended t.waits.frames;
          there = t.waits.yielded;
          waits = refl;
        }

        pub goes_on : MayGoOn U
        goes_on = record {
          sound = sound;
          order = subst InOrder (sym t.rest) (record { codes = l.order.codes; listed = l.order.listed });
          may = may;
        }

        pub session : IsSession es bytes (plain U 0)
        session = record { image = l.image; met = l.met; accepted = accepted; session = session_is ∙ t.is 0; sound = sound; waits = may }
