use Rattle.std.proofs.Common.{length}
use Rattle.library_rows.specs.Library.{all_entries}
use Rattle.step_laws.proofs.Ready.{go_has_frame, ready_is_sound}
use Rattle.running_frame.proofs.Places.{has_word}
use Rattle.running_frame.proofs.place.find_here.Goals as goal

pub place_on_top-pc-requires : goal.place_on_top-pc-requires
place_on_top-pc-requires c = go_has_frame (length all_entries) c.args.world.now c.requires.ready

pub word_at-requires : goal.word_at-requires
word_at-requires c = record { codes = c.requires.ready.order.codes; there = has_word (ready_is_sound (length all_entries) _ c.args.world.now c.requires.ready) c.place_on_top-pc.ensures }

pub is_running-requires : goal.is_running-requires
is_running-requires c = go_has_frame (length all_entries) c.args.world.now c.requires.ready
