-- The devices of a call: what they told before it, and what they tell after it.
use Rattle.std.specs.Prelude.{◌≡◌, ℕ, ◌<◌, List, Option, Some, None, IfSome}
use Rattle.io_edge.specs.Causes.{Rose}
use Rattle.io_edge.specs.Content.{FileMap, KeepsOtherFiles, MayEndTelling}

-- one device before and after the call: its count of faults, and its content where it tells that
pub record Device (T : Type 0) : Type 0 where
  pub faults : ℕ
  pub faults' : ℕ
  pub content : Option T
  pub content' : Option T

abbrev pub RoseIn : {T : Type 0} → Device T → Type 0
RoseIn device = Rose device.faults device.faults'

abbrev pub GrewIn : {T : Type 0} → Device T → Type 0
GrewIn device = device.faults < device.faults'

-- the files tell that there is no file of the name
abbrev pub Lacks : Option FileMap → List ℕ → Type 0
Lacks (Some files) name = files name ≡ None
Lacks None name = ⊥

-- the files tell that the file of the name has these bytes
abbrev pub Holds : Option FileMap → List ℕ → List ℕ → Type 0
Holds (Some files) name content = files name ≡ Some content
Holds None name content = ⊥

-- where the files tell their contents, the file of the name has these bytes
abbrev pub Has : Device FileMap → (name content : List ℕ) → Type 0
Has files name content = IfSome files.content (λ held. held name ≡ Some content)

-- nothing is read or written, and no call of the device failed
pub record IsUntouched {T : Type 0} (device : Device T) : Type 0 where
  pub no_fault : device.faults' ≡ device.faults
  pub unwritten : device.content' ≡ device.content

-- where a file is named to be written, the others stay as they are; else all do, but that the files may end to tell
abbrev pub KeepsOthers : Option (List ℕ) → Device FileMap → Type 0
KeepsOthers (Some name) files = KeepsOtherFiles name files.content files.content'
KeepsOthers None files = MayEndTelling files.content files.content'
