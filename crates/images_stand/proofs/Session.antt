-- The image of a session may stand.
use Rattle.std.proofs.Common.{arith, ℕ, suc, ◌+◌, ◌<◌, ◌≤◌, ◌≡◌, Bool, true, false, cond, List, [], ◌∷◌, Option, Some, None, refl, subst, sym, ap, ◌∙◌, ⊎_elim, length, map}
use Rattle.std.specs.Prelude.{nat_eq, nat_le}
use Rattle.std.specs.List.{list_all}
use Rattle.std.proofs.lemmas.Bool.{and_parts}
use Rattle.code_core.specs.Prototype.{Prototype}
use Rattle.int_core.specs.Value.{Kind, a_function, Value, object, greatest_string}
use Rattle.list_laws.proofs.Tests.{split}
use Rattle.library_rows.specs.Library as library
use Rattle.library_rows.specs.Library.{Entry, all_entries}
use Rattle.library_rows.specs.PreludeText.{function_keys}
use Rattle.machine_core.specs.World.{Function, World}
use Rattle.machine_sound.specs.Sound.{Sound}
use Rattle.machine_sound.proofs.Lists.{get_there}
use Rattle.machine_runs.specs.Laws.{MayTurn}
use Rattle.image_core.specs.Image.{PermKey, text_key, Perm, permanent}
use Rattle.image_core.specs.Records.{key_of}
use Rattle.image_core.proofs.Lists.{Every, every_get, every_both, map_some, none_some}
use Rattle.image_bytes.specs.Bytes.{Reader}
use Rattle.image_bytes.specs.ReadBack.{ImagesReadBack}
use Rattle.image_load.specs.Session.{session_roots}
use Rattle.image_same.specs.Same.{ImagesInOrder}
use Rattle.session_images.specs.Permanents.{by_keys, primitive_value, function_value, base_permanents}
use Rattle.session_images.specs.Laws.{IsLibrary}
use Rattle.session_images.specs.Prelude.{HasFunctions}
use Rattle.session_images.specs.Saved.{IsSmall}
use Rattle.session_images.proofs.Keys.{after_unkeyed, base_inverse, primitives_unkeyed}
use Rattle.session_images.proofs.Resuming.{idle_apart, roots_valid}
use Rattle.images_stand.specs.Standing.{IsObject, KeyFits, ArePermanents, IsHeldWhole, Knows, KnowsCode}
use Rattle.images_stand.specs.Sessions.{IsKept, KnowsLibraries, KnowsPrelude, SessionsStand, SessionsAccepted}
use Rattle.images_stand.proofs.Stand.{written_images_stand, written_images_accepted}
use Rattle.image_bytes.proofs.Back.{equal_true}

abbrev IsRight : Perm → Type 0
IsRight p = IsObject p.object × KeyFits p.key

within : (s : List ℕ) → nat_le (length s) greatest_string ≡ true → length s ≤ greatest_string
within s h = search (arith, h)

abbrev are_short : List (List ℕ) → Bool
are_short keys = list_all (λ key. nat_le (length key) greatest_string) keys

all_right : (value_at : ℕ → Value) → ((n : ℕ) → IsObject (value_at n)) → (n : ℕ) (keys : List (List ℕ)) → are_short keys ≡ true → Every IsRight (by_keys value_at n keys)
all_right value_at objects n [] h = tt
all_right value_at objects n (key ∷ keys) h = let k = and_parts (nat_le (length key) greatest_string) (are_short keys) h in ((objects n, within key k.0), all_right value_at objects (suc n) keys k.1)

short_primitives : are_short (map library.key_of all_entries) ≡ true
short_primitives = refl

short_functions : are_short function_keys ≡ true
short_functions = refl

base_right : Every IsRight base_permanents
unfolding base_permanents
base_right =
    every_both IsRight (by_keys primitive_value 0 (map library.key_of all_entries)) (by_keys function_value 0 function_keys)
    (all_right primitive_value (λ n. tt) 0 (map library.key_of all_entries) short_primitives) (all_right function_value (λ n. tt) 0 function_keys short_functions)

pub base_are : ArePermanents base_permanents
base_are = record {
  once = (base_inverse (length function_keys) (omega arith)).once;
  objects = λ i p e. (every_get IsRight base_permanents i p base_right e).0;
  keys = λ i p e. (every_get IsRight base_permanents i p base_right e).1;
}

-- of functions the prelude's alone have keys

function_unkeyed : (n : ℕ) (keys : List (List ℕ)) (m : ℕ) → n + length keys ≤ m → key_of (by_keys function_value n keys) (object a_function m) ≡ None
function_unkeyed n [] m h = refl
function_unkeyed n (key ∷ keys) m h = by (nat_eq n m) refl (function_unkeyed (suc n) keys m (omega (arith, h)))
  where
    by : (b : Bool) → nat_eq n m ≡ b → key_of (by_keys function_value (suc n) keys) (object a_function m) ≡ None → cond b (Some (text_key key)) (key_of (by_keys function_value (suc n) keys) (object a_function m)) ≡ None
    by false e again = again
    by true e again = let same = equal_true n m e in absurd (omega (arith, same, h))

base_unkeyed : (m : ℕ) → length function_keys ≤ m → key_of base_permanents (object a_function m) ≡ None
unfolding base_permanents
base_unkeyed m h =
    after_unkeyed (by_keys primitive_value 0 (map library.key_of all_entries)) (by_keys function_value 0 function_keys) (object a_function m) (primitives_unkeyed 0 (map library.key_of all_entries) a_function m)
    ∙ function_unkeyed 0 function_keys m (omega (arith, h))

base_function : (m : ℕ) (key : PermKey) → key_of base_permanents (object a_function m) ≡ Some key → m < length function_keys
base_function m key e = ⊎_elim (λ low. low) (λ past. absurd (none_some key (sym (base_unkeyed m past) ∙ e))) (split m (length function_keys))

module _ (prelude : List (Entry Prototype)) (W : World) (R : Reader) (sound : Sound (length all_entries) W) (may : MayTurn W) (known : HasFunctions prelude W) (small : IsSmall W) (kept : IsKept W) (knows : KnowsLibraries R) where
  abbrev whole : IsHeldWhole W base_permanents (session_roots W) (length all_entries)
  whole = record {
    savable = record {
      solid = sound.solid;
      roots_there = roots_valid (length all_entries) W sound.solid;
      idle = λ co c m e. idle_apart (length all_entries) W sound.solid may.idle co c e;
    };
    few = small.written;
    held = kept.held;
    rows = kept.rows;
  }

  knows_here : Knows W.prelude_environment base_permanents R
  knows_here = subst (λ n. Knows n base_permanents R) (sym known.number) knows

  code_there : (library : IsLibrary prelude) (code_named : PermKey → Option Prototype) → KnowsPrelude prelude code_named → KnowsCode W base_permanents code_named
  code_there library code_named codes = record {
    codes = λ n f key e there.
        let k = map_some (permanent a_function) (key_of base_permanents (object a_function n)) (permanent a_function key) e in
        let keyed : key_of base_permanents (object a_function n) ≡ Some key = k.1 ∙ ap Some (key_so k.0 key k.2) in
        let low = base_function n key keyed in
        let count = library.count in
        let p = get_there prelude n (omega (arith, low, count)) in
        codes.codes n p.0 key p.1 keyed ∙ ap Some (ap (λ (g : Function). g.code) (function_so (sym (known.functions n p.0 p.1) ∙ there)));
  }
    where
      key_so : (a b : PermKey) → permanent a_function a ≡ permanent a_function b → a ≡ b
      key_so a b e = cc

      function_so : {f g : Function} → Some f ≡ Some g → f ≡ g
      function_so e = cc

pub sessions_stand : ImagesInOrder → SessionsStand
sessions_stand ordered prelude W R sound may known small kept knows size =
    written_images_stand ordered (length all_entries) W base_permanents (session_roots W) R base_are (whole prelude W R sound may known small kept knows) (knows_here prelude W R sound may known small kept knows) size

pub sessions_accepted : ImagesInOrder → ImagesReadBack → SessionsAccepted
sessions_accepted ordered back prelude W R code_named library sound may known small kept knows codes size =
    written_images_accepted ordered back (length all_entries) W base_permanents (session_roots W) R code_named base_are (whole prelude W R sound may known small kept knows) (knows_here prelude W R sound may known small kept knows)
    (code_there prelude W R sound may known small kept knows library code_named codes) size
