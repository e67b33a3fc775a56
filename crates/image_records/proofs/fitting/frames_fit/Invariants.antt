use Rattle.std.proofs.Common.{◌≡◌, map, drop}
use Rattle.std.specs.List.{list_all}
use Rattle.image_sound.specs.Fitting.{frame_fits}
use Rattle.image_records.specs.Names.{code_of}
use Rattle.image_records.specs.Views.{frame, record_read}
use Rattle.image_records.proofs.fitting.frames_fit.Given as goal

abbrev pub invariant-loop-frame : goal.invariant-loop-frame
invariant-loop-frame l =
    list_all (frame_fits (code_of l.known) (map record_read l.records)) (map frame (drop l.frame-index l.frames))
    ≡ list_all (frame_fits (code_of l.known) (map record_read l.records)) (map frame l.frames)
