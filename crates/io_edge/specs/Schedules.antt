-- The devices in memory: which of their calls are to fail, and what they hold.
use Rattle.std.specs.Prelude.{◌≡◌, ◌+◌, ◌-◌, ◌^◌, ◌==◌, ℕ, Bool, List, min, drop}
use Rattle.std.specs.List.{list_any}
use Rattle.std.specs.Option.{option_map}
use Rattle.std.specs.BTreeMap.{get_by_text}
use Rattle.io_edge.specs.Content.{FileMap}
use Rattle.io_edge.specs.declared.schedule.Schedule.{Schedule}
use Rattle.io_edge.specs.declared.mem_source.MemSource.{MemSource}
use Rattle.io_edge.specs.declared.mem_sink.MemSink.{MemSink}
use Rattle.io_edge.specs.declared.mem_files.MemFiles.{MemFiles}

-- no call has been made, and these numbers are to fail
abbrev pub untouched : List ℕ → Schedule
untouched failing = record { failing = failing; calls = 0; faults = 0 }

-- the next call, whose number is the count of the calls before it, is to fail
abbrev pub is_listed : Schedule → Bool
is_listed schedule = list_any (λ number. number == schedule.calls) schedule.failing

-- one call more, whose count stops at 2^64 - 1, and the same numbers are to fail
pub record Counted (before now : Schedule) : Type 0 where
  pub calls : now.calls ≡ min (before.calls + 1) (2 ^ 64 - 1)
  pub failing : now.failing ≡ before.failing

-- which calls of a source in memory are to fail, and its counts
abbrev pub source_schedule : MemSource → Schedule
source_schedule source = source.schedule

-- the bytes that a source in memory has not given yet
abbrev pub bytes_left : MemSource → List ℕ
bytes_left source = drop source.next source.bytes

-- which calls of a sink in memory are to fail, and its counts
abbrev pub sink_schedule : MemSink → Schedule
sink_schedule sink = sink.schedule

-- the bytes that a sink in memory was given
abbrev pub bytes_written : MemSink → List ℕ
bytes_written sink = sink.written.items

-- which calls of files in memory are to fail, and their counts
abbrev pub files_schedule : MemFiles → Schedule
files_schedule files = files.schedule

-- the files in memory, by the bytes of their names
abbrev pub files_held : MemFiles → FileMap
files_held files name = option_map (λ file. file.items) (get_by_text files.files name)
