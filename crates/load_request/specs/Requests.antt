-- What a request comes to, as the row of `build` has it.
use Rattle.std.specs.Prelude.{◌≡◌, List, ◌++◌, Result, Ok, Err, codes}
use Rattle.int_core.specs.Value.{Shape}
use Rattle.code_core.specs.Prototype.{Prototype}
use Rattle.load_rows.specs.Loading.{Builds, Loaded, wrong, not_loaded, fitted, after_building, load_of}
use Rattle.library_arguments.specs.declared.refusal.Refusal.{Refusal}
use Rattle.library_arguments.specs.Refusals.{refusal_text}
use Rattle.library_arguments.specs.Shapes.{bytes_in}
use Rattle.load_request.specs.declared.requests.Request.{Request}
use Rattle.load_request.specs.declared.requests.Request.TheVariants.{Build, Mode, Binary}

abbrev pub loaded_as : Builds Prototype → Request → Loaded Prototype
loaded_as builds (Build name source) = after_building (fitted (bytes_in name)) (builds (fitted (bytes_in name)) (bytes_in source))
loaded_as builds (Mode mode) = not_loaded (fitted (codes "attempt to load a text chunk (mode is '" ++ bytes_in mode ++ codes "')"))
loaded_as builds Binary = not_loaded (codes "binary chunks are not loaded")

abbrev pub loaded_by : Builds Prototype → Result Request Refusal → Loaded Prototype
loaded_by builds (Ok request) = loaded_as builds request
loaded_by builds (Err why) = wrong (refusal_text why)

-- whatever sources are built to, `load` comes to this with arguments of these shapes
abbrev pub IsRequest : Result Request Refusal → (chunk name mode : Shape) → Type 0
IsRequest result chunk name mode = (builds : Builds Prototype) → load_of builds chunk name mode ≡ loaded_by builds result
