-- What the contracts of the readers say.
use Rattle.std.specs.Prelude.{ℕ, ◌≡◌, List, Option, Some, None, Result, Ok, Err}
use Rattle.std.specs.declared.vec.Vec.{Vec}
use Rattle.std.specs.declared.alloc.Global.{Global}
use Rattle.code_core.specs.Prototype.{Prototype}
use Rattle.code_core.specs.declared.proto.Proto.{Proto}
use Rattle.chunk_format.specs.declared.fault.ChunkFault.{ChunkFault}
use Rattle.chunk_format.specs.declared.fault.ChunkFault.TheVariants.{Refused, Memory}
use Rattle.chunk_format.specs.Reading.{Got, read, refused, and_then, read_number, read_functions}

-- as `Says`, with the number of functions that may still come
abbrev pub SaysLeft : Got (Prototype × ℕ) → Result Proto ChunkFault → ℕ → List ℕ → Type 0
SaysLeft got (Ok proto) left rest = got ≡ read (proto, left) rest
SaysLeft got (Err (Refused kind)) left rest = got ≡ refused kind
SaysLeft got (Err Memory) left rest = Unit {0}

abbrev pub SaysAllLeft : (ℕ → List ℕ → Got (Prototype × ℕ)) → ℕ → List ℕ → Result (Vec Prototype Global) ChunkFault → ℕ → List ℕ → Type 0
SaysAllLeft function before bytes (Ok protos) left rest = and_then (read_number bytes) (λ n behind. read_functions function n before behind) ≡ read (protos.items, left) rest
SaysAllLeft function before bytes (Err (Refused kind)) left rest = and_then (read_number bytes) (λ n behind. read_functions function n before behind) ≡ refused kind
SaysAllLeft function before bytes (Err Memory) left rest = Unit {0}

-- what a reading answers: a value that was read, or the kind of the first fault; want of memory says nothing
abbrev pub KindIs : {A : Type 0} → Option ℕ → Result A ChunkFault → Type 0
KindIs kind (Ok x) = kind ≡ None
KindIs kind (Err (Refused k)) = kind ≡ Some k
KindIs kind (Err Memory) = Unit {0}

-- this value, or want of memory
abbrev pub Answers : {A : Type 0} → A → Result A ChunkFault → Type 0
Answers x (Ok y) = y ≡ x
Answers x (Err (Refused kind)) = ⊥
Answers x (Err Memory) = Unit {0}
