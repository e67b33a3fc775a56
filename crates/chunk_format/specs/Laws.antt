-- What the spellings of chunks are worth to a reader that knows nothing of where one ends.
use Rattle.std.specs.Prelude.{◌≡◌, ℕ, List, [], ◌++◌}
use Rattle.code_core.specs.Prototype.{Prototype}
use Rattle.code_core.specs.Writable.{Writable}
use Rattle.chunk_format.specs.Spelling.{chunk}

-- no chunk that is written is the front of another one
abbrev pub NoneGoesOn : Type 0
NoneGoesOn = (p q : Prototype) (rest : List ℕ) → Writable p → Writable q → chunk p ++ rest ≡ chunk q → (p ≡ q) × (rest ≡ [])
