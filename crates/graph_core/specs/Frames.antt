-- What the frames of a stack in memory name.
use Rattle.std.specs.Prelude.{ℕ, List, [], Some, None, slice_get}
use Rattle.lua_stack.specs.Frames.{KeptFrame, frame_of}
use Rattle.image_core.specs.Records.{Field, frame_fields}
use Rattle.lua_heap.specs.Reading.{value}

abbrev pub fields_of : List (List ℕ) → KeptFrame → List Field
fields_of texts f = frame_fields (frame_of (value texts) f)

-- what a frame names, if it is there
abbrev pub fields_at : List (List ℕ) → List KeptFrame → ℕ → List Field
fields_at texts frames n = elim (slice_get frames n) [ None ↦ [] | Some f ↦ fields_of texts f ]
