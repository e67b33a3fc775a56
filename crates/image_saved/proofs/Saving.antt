-- The premises of loading, of what a sound world saves.
use Rattle.std.proofs.Common.{ℕ, ◌≡◌, ◌<◌, List, length, Option, Some, None, refl}
use Rattle.std.specs.Prelude.{slice_get}
use Rattle.std.proofs.lemmas.Option.{slice_get_within}
use Rattle.int_core.specs.Value.{Value, bind}
use Rattle.machine_core.specs.World.{Coroutine, frames_of, lua_frame, register_at}
use Rattle.image_core.specs.Records.{named}
use Rattle.image_core.proofs.Lists.{none_some}
use Rattle.image_sound.proofs.Savable.{savable_is_written, open_cells_there}
use Rattle.image_saved.specs.Saved.{SavedCanLoad}
use Rattle.image_saved.proofs.Names.{names_are_read}

-- a register that is there is in a coroutine that is there
coroutine_there : (coroutines : List Coroutine) (co frame register : ℕ) (v : Value) → register_at coroutines co frame register ≡ Some v → co < length coroutines
coroutine_there coroutines co frame register v e = by (slice_get coroutines co) refl e
  where
    by : (o : Option Coroutine) → slice_get coroutines co ≡ o
        → bind (bind o frames_of) (λ frames. bind (bind (slice_get frames frame) lua_frame) (λ f. slice_get f.own.registers register)) ≡ Some v → co < length coroutines
    by None h e = absurd (none_some v e)
    by (Some c) h e = slice_get_within coroutines co c h

pub saved_can_load : SavedCanLoad
saved_can_load primitives base W V T forth back roots s = record {
  base_same = s.base_same;
  tables = s.target.tables;
  functions = s.target.functions;
  coroutines = s.target.coroutines;
  cells = s.target.cells;
  names = names_are_read base W.prelude_environment T forth back s.inverse s.reads;
  few_reached = s.few_reached;
  few_written = s.few_written;
  written = savable_is_written primitives W (named W.prelude_environment forth) roots s.savable;
  new_objects = s.new_objects;
  new_cells = s.new_cells;
  old_apart = s.old_apart;
  new_apart = s.new_apart;
  left_there = λ n co frame register e. let there = open_cells_there primitives W s.savable.solid n co frame register e in (there.0, there.1);
  right_there = λ n co frame register e. let there = open_cells_there primitives V s.solid n co frame register e in coroutine_there V.coroutines co frame register there.0 there.1;
}
