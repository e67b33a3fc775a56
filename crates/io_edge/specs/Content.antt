-- What a device that tells its content holds after a call.
use Rattle.std.specs.Prelude.{◌≡◌, ◌≢◌, ◌++◌, ℕ, List, Option, Some, IfSome, take}
use Rattle.std.specs.Str.{bytes_eq}
use Rattle.std.specs.Map.{update}

-- a device that tells after the call told the same before it
abbrev pub MayEndTelling : {T : Type 0} → Option T → Option T → Type 0
MayEndTelling before now = IfSome now (λ content. before ≡ Some content)

-- where it tells after the call, a sink grew by a front of these bytes
abbrev pub GrowsByFront : List ℕ → Option (List ℕ) → Option (List ℕ) → Type 0
GrowsByFront bytes before now = IfSome now (λ after. (text : List ℕ) × (count : ℕ) × (before ≡ Some text) × (after ≡ text ++ take count bytes))

-- the bytes of each file, by the bytes of its name
abbrev pub FileMap : Type 0
FileMap = List ℕ → Option (List ℕ)

-- the files with one of them replaced, and all others as before
abbrev pub with_file : FileMap → List ℕ → List ℕ → FileMap
with_file files name bytes = update bytes_eq files name (Some bytes)

-- where they tell after the call, all files but that one are as before
abbrev pub KeepsOtherFiles : List ℕ → Option FileMap → Option FileMap → Type 0
KeepsOtherFiles name before now = IfSome now (λ after. (files : FileMap) × (before ≡ Some files) × ((other : List ℕ) → other ≢ name → after other ≡ files other))
