-- What `check` does with a file: which bytes are a chunk that may run, and what is written of one.
use Rattle.std.specs.Prelude.{◌≡◌, ◌≢◌, ◌⊎◌, ℕ, List, [], ◌∷◌, ◌++◌, Bool, false, nat_eq, None, IfSome, codes, decimal}
use Rattle.std.specs.Option.{option_map}
use Rattle.code_core.specs.Prototype.{Prototype, function_count, instruction_count}
use Rattle.code_core.specs.Check.{IsChecked}
use Rattle.chunk_format.specs.Grammar.{BeginsWith, ChunkOf}
use Rattle.io_edge.specs.Content.{FileMap, GrowsByFront, MayEndTelling}
use Rattle.program.specs.Devices.{Device, RoseIn, GrewIn, Lacks, Holds, Has, IsUntouched}
use Rattle.lua_feed.specs.Feeding.{OnlyGrows}

-- the first byte is that of a chunk
abbrev pub begins_chunk : List ℕ → Bool
begins_chunk [] = false
begins_chunk (byte ∷ bytes) = nat_eq byte 27

-- the bytes begin with the chunk of a function that meets the rules on code
pub record IsAccepted (bytes : List ℕ) (function : Prototype) : Type 0 where
  pub taken : ℕ
  pub begins : BeginsWith ChunkOf function taken bytes
  pub checked : IsChecked function

abbrev pub HoldsNoChunk : List ℕ → Type 0
HoldsNoChunk content = (function : Prototype) → IsAccepted content function → ⊥

-- `ok`, how many functions there are and how many instructions all of them have
abbrev pub report_of : Prototype → List ℕ
report_of function = codes "ok " ++ (decimal (function_count function) ++ (codes " " ++ (decimal (instruction_count function) ++ codes "\n")))

-- what is written of a file's bytes
abbrev pub Reports : (content text : List ℕ) → Type 0
Reports content text = (function : Prototype) × IsAccepted content function × (text ≡ report_of function)

-- why a file is answered so: its counts are written, there is no file or no chunk in it, a device failed, or there is no memory
pub data IsCause (name : List ℕ) (files : Device FileMap) (out : Device (List ℕ)) : (status : ℕ) → Type 0 where
  counted : (content text : List ℕ) → Has files name content → Reports content text → out.content' ≡ option_map (λ before. before ++ text) out.content → IsCause name files out 0
  unread : RoseIn files → IsUntouched out → IsCause name files out 6
  unwritten : (content text : List ℕ) → Has files name content → Reports content text → RoseIn out → GrowsByFront text out.content out.content' → IsCause name files out 6
  no_chunk : (content : List ℕ) → Has files name content → HoldsNoChunk content → IsUntouched out → IsCause name files out 8
  no_memory : IsUntouched out → IsCause name files out 9
  absent : IfSome files.content (λ held. held name ≡ None) → IsUntouched out → IsCause name files out 11

-- What checking does to the files and the output, and what it answers: 0 done, 6 device fault, 8 chunk refused, 9 out of memory, 11 no such file.
pub record IsCheck (name : List ℕ) (files : Device FileMap) (out : Device (List ℕ)) (status : ℕ) : Type 0 where
  -- each status has its cause
  pub cause : IsCause name files out status
  -- and the cause gives the status, unless memory runs out
  pub absent : Lacks files.content name → ¬ (RoseIn files) → status ≡ 11
  pub refused : (content : List ℕ) → Holds files.content name content → HoldsNoChunk content → ¬ (RoseIn files) → status ≢ 9 → status ≡ 8
  pub done : (content text : List ℕ) → Holds files.content name content → Reports content text → ¬ (RoseIn files) → ¬ (RoseIn out) → status ≢ 9 → (status ≡ 0) × (out.content' ≡ option_map (λ before. before ++ text) out.content)
  pub fault : GrewIn files ⊎ GrewIn out → status ≡ 6
  -- whatever the status is
  pub front : (content text : List ℕ) → Holds files.content name content → Reports content text → GrowsByFront text out.content out.content'
  pub grows : OnlyGrows out.content out.content'
  -- nothing is written where there is no file of the name, and where it holds no chunk, a device fault or not
  pub none_lacking : Lacks files.content name → out.content' ≡ out.content
  pub none_refused : (content : List ℕ) → Holds files.content name content → HoldsNoChunk content → out.content' ≡ out.content
  pub files_kept : MayEndTelling files.content files.content'
  pub files_same : status ≢ 6 → files.content' ≡ files.content
