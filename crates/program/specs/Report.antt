-- The line on standard error for each status.
use Rattle.std.specs.Prelude.{◌≡◌, ℕ, ◌+◌, ◌≤◌, List, [], ◌++◌, Bool, true, false, ◌||◌, nat_eq, Option, Some, None, IfSome, codes, decimal}
use Rattle.std.specs.Bool.{MatchBool}
use Rattle.std.specs.Option.{option_map}
use Rattle.io_edge.specs.Content.{FileMap, GrowsByFront}
use Rattle.code_core.specs.Prototype.{Prototype}
use Rattle.std.specs.Fmt.{signed_decimal}
use Rattle.chunk_format.specs.Grammar.{BeginsWith, ChunkOf}
use Rattle.chunk_format.specs.Reading.{chunk_kind}
use Rattle.chunk_check.specs.Faults.{first_fault}
use Rattle.compile_text.specs.Source.{IsRefused}
use Rattle.compile_text.specs.declared.fault.TextFault.TheVariants as text
use Rattle.compile_chunk.specs.Chunk.{script_in}
use Rattle.work_script.specs.Script.{work_script}
use Rattle.prelude_code.specs.Prelude.{IsPreludeCode}
use Rattle.graph_core.specs.Permanents.{key_read}
use Rattle.graph_core.specs.declared.permanents.PermanentKey.{PermanentKey}
use Rattle.graph_core.specs.declared.permanents.PermanentKey.TheVariants.{Number, Text}
use Rattle.image_bytes.specs.Format.{Fault as Refusal, of_kind, refused as refused_for}
use Rattle.image_sound.specs.Fitting.{reads}
use Rattle.session_images.specs.Stored.{root_count}
use Rattle.lua_feed.specs.Limits.{passes_limits}
use Rattle.lua_saving.specs.Saving.{session_reader, session_codes, HasNoSession}
use Rattle.program.specs.declared.fault.Fault.{Fault}
use Rattle.program.specs.declared.fault.Fault.TheVariants as fault
use Rattle.command_words.specs.Words.{Command, run, resume, check, compile, work}
use Rattle.program.specs.Devices.{Device, RoseIn, Holds}
use Rattle.program.specs.Checking.{begins_chunk}
use Rattle.program.specs.Sessions.{functions_of}

abbrev pub status_of_fault : Fault → ℕ
status_of_fault fault.Words = 2
status_of_fault fault.Spent = 4
status_of_fault (fault.Refused line) = 5
status_of_fault (fault.Rule rule line) = 5
status_of_fault fault.Device = 6
status_of_fault fault.InputLimit = 7
status_of_fault fault.TooLarge = 7
status_of_fault (fault.NoChunk kind) = 8
status_of_fault (fault.BrokenRule number pc rule) = 8
status_of_fault (fault.NoImage kind) = 8
status_of_fault (fault.NoPermanent kind key) = 8
status_of_fault fault.Memory = 9
status_of_fault fault.Absent = 11
status_of_fault fault.Prelude = 12

abbrev pub key_text : PermanentKey → List ℕ
key_text (Number n) = signed_decimal n
key_text (Text text) = text.items

abbrev pub line_of_fault : Fault → List ℕ
line_of_fault fault.Words = codes "luaris: wrong words\n"
line_of_fault fault.Spent = codes "luaris: budget spent\n"
line_of_fault (fault.Refused line) = codes "luaris: source refused at line " ++ (decimal line ++ codes "\n")
line_of_fault (fault.Rule rule line) = codes "luaris: source refused by rule " ++ (decimal rule ++ (codes " at line " ++ (decimal line ++ codes "\n")))
line_of_fault fault.Device = codes "luaris: device fault\n"
line_of_fault fault.InputLimit = codes "luaris: input limit\n"
line_of_fault fault.TooLarge = codes "luaris: image too large\n"
line_of_fault (fault.NoChunk kind) = codes "luaris: chunk refused: kind " ++ (decimal kind ++ codes "\n")
line_of_fault (fault.BrokenRule number pc rule) =
    codes "luaris: chunk refused: rule " ++ (decimal rule ++ (codes " at function " ++ (decimal number ++ (codes " pc " ++ (decimal pc ++ codes "\n")))))
line_of_fault (fault.NoImage kind) = codes "luaris: image refused: kind " ++ (decimal kind ++ codes "\n")
line_of_fault (fault.NoPermanent kind key) = codes "luaris: image refused: kind " ++ (decimal kind ++ (codes " key " ++ (key_text key ++ codes "\n")))
line_of_fault fault.Memory = codes "luaris: out of memory\n"
line_of_fault fault.Absent = codes "luaris: no such file\n"
line_of_fault fault.Prelude = codes "luaris: prelude refused\n"

-- a script that returned, failed or is suspended has no line, and nor has a file that was checked or compiled
abbrev pub is_quiet : (status : ℕ) → Bool
is_quiet status = nat_eq status 0 || nat_eq status 1 || nat_eq status 3

-- bytes that begin with the chunk of a function of which this is the first rule that is broken
pub record IsBroken (bytes : List ℕ) (number pc rule : ℕ) : Type 0 where
  pub function : Prototype
  pub taken : ℕ
  pub begins : BeginsWith ChunkOf function taken bytes
  pub first : first_fault function ≡ Some (record { function = number; pc = pc; rule = rule })

-- Bytes that are refused as an image, whose first fault is this one. Where nothing else is refused, roots that are no session's that waits for a line are of
-- the kind of a value that may not stand in its place
pub data IsRefusedFor (prelude : Prototype) (bytes : List ℕ) : Refusal → Type 0 where
  by_bytes : (why : Refusal) → reads session_reader (session_codes (functions_of prelude)) root_count bytes ≡ refused_for why → IsRefusedFor prelude bytes why
  by_roots : HasNoSession (functions_of prelude) bytes → IsRefusedFor prelude bytes (of_kind 5)

pub record IsNoImage (bytes : List ℕ) (why : Refusal) : Type 0 where
  pub prelude : Prototype
  pub is_prelude : IsPreludeCode prelude
  pub refused : IsRefusedFor prelude bytes why

-- a fault that refuses no bytes
abbrev pub RefusesNone : Fault → Type 0
RefusesNone (fault.Refused line) = ⊥
RefusesNone (fault.Rule rule line) = ⊥
RefusesNone (fault.NoChunk kind) = ⊥
RefusesNone (fault.BrokenRule number pc rule) = ⊥
RefusesNone (fault.NoImage kind) = ⊥
RefusesNone (fault.NoPermanent kind key) = ⊥
RefusesNone _ = Unit {0}

-- what a fault tells of bytes: of a script, of a chunk, and of an image

abbrev pub ScriptFits : List ℕ → Fault → Type 0
ScriptFits content (fault.Refused line) = IsRefused (script_in content) (text.Source line)
ScriptFits content (fault.Rule rule line) = IsRefused (script_in content) (text.Rule rule line)
ScriptFits content reason = RefusesNone reason

abbrev pub ChunkFits : List ℕ → Fault → Type 0
ChunkFits content (fault.NoChunk kind) = chunk_kind content ≡ Some kind
ChunkFits content (fault.BrokenRule number pc rule) = IsBroken content number pc rule
ChunkFits content reason = RefusesNone reason

abbrev pub ImageFits : List ℕ → Fault → Type 0
ImageFits content (fault.NoImage kind) = IsNoImage content (of_kind kind)
ImageFits content (fault.NoPermanent kind key) = IsNoImage content (record { kind = kind; key = Some (key_read key) })
ImageFits content reason = RefusesNone reason

abbrev pub CodeFits : List ℕ → Fault → Type 0
CodeFits content reason = MatchBool (begins_chunk content) (ChunkFits content reason) (ScriptFits content reason)

-- what a fault tells of the bytes that the files hold for a command, or of those of the script that is made for it
abbrev pub FitsFor : Option Command → Option FileMap → Fault → Type 0
FitsFor (Some (run file budget save)) files reason = (content : List ℕ) → Holds files file content → CodeFits content reason
FitsFor (Some (resume image budget save)) files reason = (content : List ℕ) → Holds files image content → ImageFits content reason
FitsFor (Some (check file)) files reason = (content : List ℕ) → Holds files file content → ChunkFits content reason
FitsFor (Some (compile script chunk strip)) files reason = (content : List ℕ) → Holds files script content → ScriptFits content reason
FitsFor (Some (work count)) files reason = ScriptFits (work_script count) reason
FitsFor None files reason = Unit {0}

-- what the line of a 7 tells of an input that tells its bytes: a line of it is past the limits, or none is, and so it is the image that is too large

abbrev pub LimitFits : Option (List ℕ) → Fault → Type 0
LimitFits left fault.InputLimit = IfSome left (λ text. passes_limits 0 text ≡ true)
LimitFits left fault.TooLarge = IfSome left (λ text. passes_limits 0 text ≡ false)
LimitFits left _ = Unit {0}

-- only `run` and `resume` answer 7
abbrev pub LimitFitsFor : Option Command → Option (List ℕ) → Fault → Type 0
LimitFitsFor (Some (run file budget save)) left reason = LimitFits left reason
LimitFitsFor (Some (resume image budget save)) left reason = LimitFits left reason
LimitFitsFor (Some (check file)) left reason = Unit {0}
LimitFitsFor (Some (compile script chunk strip)) left reason = Unit {0}
LimitFitsFor (Some (work count)) left reason = Unit {0}
LimitFitsFor None left reason = Unit {0}

-- the line of a status, which tells what the file's bytes give where the files tell them, and what the input's do where it tells them
pub data IsErrorLine (command : Option Command) (files : Option FileMap) (left : Option (List ℕ)) : ℕ → List ℕ → Type 0 where
  none : (status : ℕ) → is_quiet status ≡ true → IsErrorLine command files left status []
  of_fault : (reason : Fault) → FitsFor command files reason → LimitFitsFor command left reason → IsErrorLine command files left (status_of_fault reason) (line_of_fault reason)

-- standard error grows by exactly the line of the status where no write to it fails, and else by a prefix of it; and no write follows one that failed
pub record IsReported (command : Option Command) (files : Option FileMap) (left : Option (List ℕ)) (err : Device (List ℕ)) (status : ℕ) : Type 0 where
  pub line : List ℕ
  pub line_is : IsErrorLine command files left status line
  pub written : ¬ (RoseIn err) → err.content' ≡ option_map (λ text. text ++ line) err.content
  pub front : GrowsByFront line err.content err.content'
  pub once : err.faults' ≤ err.faults + 1
