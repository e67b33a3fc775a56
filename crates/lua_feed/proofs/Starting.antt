-- A script that begins in the world of the libraries may go on.
use Rattle.std.proofs.Common.{◌≡◌, ◌∙◌, ℕ, List, [], Option, Some, None, length, ap, sym, subst}
use Rattle.code_core.specs.Prototype.{Prototype}
use Rattle.code_core.specs.Check.{IsChecked}
use Rattle.library_rows.specs.Library.{all_entries}
use Rattle.machine_core.specs.World.{World}
use Rattle.machine_sound.specs.Sound.{Sound}
use Rattle.machine_runs.specs.Laws.{OpeningIsSound, OpeningIsIdle, BegunIsSound, BegunMayTurn, MayTurn}
use Rattle.machine_runs.specs.Opening.{begun}
use Rattle.machine_runs.specs.Runs.{Run}
use Rattle.lua_heap.specs.declared.world.World.{World as Memory}
use Rattle.lua_heap.specs.Plain.{plain}
use Rattle.move_laws.specs.Memory.{InOrder, IsSound}
use Rattle.step_laws.specs.Turns.{MayGoOn}
use Rattle.lua_opening.proofs.SoundOpening.{IsOpened, opened_idle, opened_sound}
use Rattle.lua_feed.specs.Feeding.{IsFedFront}
use Rattle.lua_feed.specs.Running.{started}
use Rattle.lua_feed.proofs.Fed.{front_none}

pub is_sound : OpeningIsSound → (prelude : Prototype) (W : Memory) → IsChecked prelude → IsOpened prelude W → IsSound W
is_sound law prelude W h o = record { primitives = length all_entries; sound = opened_sound law prelude W h o; order = record { codes = o.codes; listed = o.listed } }

-- a script has begun in it
pub begun_there : (prelude code : Prototype) (W V : Memory) → IsOpened prelude W → ((fuel : ℕ) → plain V fuel ≡ begun (plain W fuel) code) → plain V 0 ≡ started prelude code
begun_there prelude code W V o e = e 0 ∙ ap (λ (U : World). begun U code) o.is

pub may_go_on : OpeningIsSound → OpeningIsIdle → BegunIsSound → BegunMayTurn → (prelude code : Prototype) (W V : Memory) → IsChecked prelude → IsChecked code → IsOpened prelude W
    → ((fuel : ℕ) → plain V fuel ≡ begun (plain W fuel) code) → InOrder V → MayGoOn V
may_go_on sound idle begins turns prelude code W V p q o e order =
    let still : (plain W 0).chain ≡ [] = opened_idle idle prelude W o in
    record {
      sound = subst (Sound (length all_entries)) (sym (e 0)) (begins (length all_entries) (plain W 0) code (opened_sound sound prelude W p o) still q);
      order = order;
      may = subst MayTurn (sym (e 0)) (turns (plain W 0) code still);
    }

-- where nothing was written, that is a prefix
pub unfed_front : (Runs : List (List ℕ) → Run → Type 0) (taken : ℕ) (text before after : Option (List ℕ)) → after ≡ before → IsFedFront Runs taken text before after
unfed_front Runs taken None before after e = record { is = tt }
unfed_front Runs taken (Some b) before after e = record { is = λ r x. front_none r.printed before after e }
