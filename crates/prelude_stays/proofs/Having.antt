-- A run has the prelude at its end as it was made.
use Rattle.std.proofs.Common.{◌≡◌, ℕ, zero, suc, List, [], ◌∷◌, Option, Some, refl, ap, length}
use Rattle.std.specs.Prelude.{slice_get, option_map}
use Rattle.code_core.specs.Prototype.{Prototype, list_of}
use Rattle.library_rows.specs.Library.{Library, Entry, all_entries}
use Rattle.library_rows.specs.PreludeText.{prelude_functions}
use Rattle.lua_meaning.specs.Opening.{entries_of}
use Rattle.machine_core.specs.World.{World}
use Rattle.machine_sound.proofs.Values.{all_get}
use Rattle.machine_runs.specs.Opening.{opening, begun}
use Rattle.machine_runs.proofs.Opening.{opening_idle, opening_sound, begun_sound, begun_may_turn}
use Rattle.functions_stay.specs.Laws.{RunsKeep}
use Rattle.session_images.specs.Prelude.{IsUntouched}
use Rattle.session_images.specs.Laws.{OpeningHasPrelude, BegunHasPrelude, FunctionsAreKept}
use Rattle.prelude_guard.specs.Checks.{is_guarded}
use Rattle.prelude_stays.specs.Laws.{home_of, Stays, library, RunsHavePrelude, GuardedCode}
use Rattle.prelude_stays.proofs.Runs.{opening_stays, begun_stays, runs_stay}

pub untouched : (prelude : List (Entry Prototype)) (W : World) → Stays (home_of prelude) W → IsUntouched prelude W
untouched prelude W k = record { table = k.1.heap.made; cell = k.1.cell; apart = λ n f l e i x. (k.1.functions n f e).apart l i 0 x refl }

pub runs_have_prelude : RunsKeep → OpeningHasPrelude → BegunHasPrelude → FunctionsAreKept → RunsHavePrelude
runs_have_prelude keeps opens begins kept builds safe prelude ok g main checked input budget r l c =
    let W = begun (opening prelude) main in
    let sound = begun_sound (length all_entries) (opening prelude) main (opening_sound prelude ok) (opening_idle prelude) checked in
    let turns = begun_may_turn (opening prelude) main (opening_idle prelude) in
    let there = begins prelude (opening prelude) main (opens prelude) in
    let stays = runs_stay builds (home_of prelude) safe W input budget r sound turns l (begun_stays (home_of prelude) (opening prelude) main (opening_stays prelude g)) c in
    record { known = kept prelude W r.last there.known (keeps (library builds) W input budget r c); untouched = untouched prelude r.last stays }

-- the entries of a prelude have the functions of its code

entry_there : (names : List (List ℕ × Library)) (fs : List Prototype) (n : ℕ) (e : Entry Prototype) → slice_get (entries_of names fs) n ≡ Some e → slice_get fs n ≡ Some e.entry
entry_there [] fs n e x = absurd (cc)
entry_there (name ∷ names) [] n e x = absurd (cc)
entry_there (name ∷ names) (f ∷ fs) zero e x = ap (λ (o : Option (Entry Prototype)). option_map (λ (e : Entry Prototype). e.entry) o) x
entry_there (name ∷ names) (f ∷ fs) (suc n) e x = entry_there names fs n e x

pub guarded_code : GuardedCode
guarded_code prelude h n e x = all_get is_guarded (list_of prelude.inner) h n e.entry (entry_there prelude_functions (list_of prelude.inner) n e x)
