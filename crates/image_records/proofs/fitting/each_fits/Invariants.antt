use Rattle.std.proofs.Common.{◌≡◌, map, drop}
use Rattle.std.specs.List.{list_all}
use Rattle.image_sound.specs.Fitting.{record_fits}
use Rattle.image_records.specs.Names.{code_of}
use Rattle.image_records.specs.Views.{record_read}
use Rattle.image_records.proofs.fitting.each_fits.Given as goal

abbrev pub invariant-loop-record : goal.invariant-loop-record
invariant-loop-record l =
    list_all (record_fits (code_of l.known) (map record_read l.records)) (map record_read (drop l.record-index l.records))
    ≡ list_all (record_fits (code_of l.known) (map record_read l.records)) (map record_read l.records)
