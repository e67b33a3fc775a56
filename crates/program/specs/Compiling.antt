-- What `compile` does with a file (Lua's `luac`).
use Rattle.std.specs.Prelude.{◌≡◌, ◌≢◌, ℕ, List, ◌∷◌, Bool, None, IfSome}
use Rattle.std.specs.Option.{option_map}
use Rattle.tree_core.specs.Tree.{Block}
use Rattle.io_edge.specs.Content.{FileMap, KeepsOtherFiles, MayEndTelling, with_file}
use Rattle.compile_text.specs.Source.{IsSource}
use Rattle.compile_chunk.specs.Chunk.{IsChunkOf, script_in}
use Rattle.program.specs.Devices.{Device, RoseIn, GrewIn, Lacks, Holds, Has, IsUntouched}

-- the name of a script's source in its chunk: `@` and the file's name
abbrev pub source_name : List ℕ → List ℕ
source_name file = 64 ∷ file

-- these are the bytes of the chunk of the script in a file with this content
abbrev pub Compiles : (script : List ℕ) → (strip : Bool) → (content bytes : List ℕ) → Type 0
Compiles script strip content bytes = IsChunkOf (source_name script) (script_in content) strip bytes

-- the content holds no script
abbrev pub HoldsNoScript : List ℕ → Type 0
HoldsNoScript content = (tree : Block) → IsSource (script_in content) tree → ⊥

-- why a script is answered so: its chunk is put into the other file, there is no file or no script in it, a device failed, or there is no memory
pub data IsCause (script chunk : List ℕ) (strip : Bool) (files : Device FileMap) : (status : ℕ) → Type 0 where
  put : (content bytes : List ℕ) → Has files script content → Compiles script strip content bytes → files.faults' ≡ files.faults → files.content' ≡ option_map (λ held. with_file held chunk bytes) files.content → IsCause script chunk strip files 0
  no_script : (content : List ℕ) → Has files script content → HoldsNoScript content → IsUntouched files → IsCause script chunk strip files 5
  unread : RoseIn files → MayEndTelling files.content files.content' → IsCause script chunk strip files 6
  unput : (content bytes : List ℕ) → Has files script content → Compiles script strip content bytes → RoseIn files → KeepsOtherFiles chunk files.content files.content' → IsCause script chunk strip files 6
  no_memory : IsUntouched files → IsCause script chunk strip files 9
  absent : IfSome files.content (λ held. held script ≡ None) → IsUntouched files → IsCause script chunk strip files 11

-- What compiling does to the files, and what it answers: 0 done, 5 source refused, 6 device fault, 9 out of memory, 11 no such file.
pub record IsCompilation (script chunk : List ℕ) (strip : Bool) (files : Device FileMap) (status : ℕ) : Type 0 where
  -- each status has its cause
  pub cause : IsCause script chunk strip files status
  -- and the cause gives the status, unless memory runs out
  pub absent : Lacks files.content script → ¬ (RoseIn files) → status ≡ 11
  pub refused : (content : List ℕ) → Holds files.content script content → HoldsNoScript content → ¬ (RoseIn files) → status ≢ 9 → status ≡ 5
  pub done : (content bytes : List ℕ) → Holds files.content script content → Compiles script strip content bytes → ¬ (RoseIn files) → status ≢ 9 → (status ≡ 0) × (files.content' ≡ option_map (λ held. with_file held chunk bytes) files.content)
  pub fault : GrewIn files → status ≡ 6
  -- whatever the status is; where there is no file of the name, and where it holds no script, the file of the chunk is as before too
  pub others_kept : KeepsOtherFiles chunk files.content files.content'
  pub none_lacking : Lacks files.content script → MayEndTelling files.content files.content'
  pub none_refused : (content : List ℕ) → Holds files.content script content → HoldsNoScript content → MayEndTelling files.content files.content'
  pub files_same : status ≢ 0 → status ≢ 6 → files.content' ≡ files.content
