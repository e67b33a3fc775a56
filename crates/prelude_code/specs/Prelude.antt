-- The code of the prelude's text (Lua 5.4 manual, 6).
use Rattle.std.specs.Prelude.{◌≡◌, false, [], length, IsTrue}
use Rattle.code_core.specs.Prototype.{Prototype, list_of}
use Rattle.compile_text.specs.declared.fault.TextFault.{TextFault}
use Rattle.compile_text.specs.declared.fault.TextFault.TheVariants.{Source, Rule, Memory}
use Rattle.compile_chunk.specs.Chunk.{IsCodeOf}
use Rattle.library_rows.specs.PreludeText.{prelude_text, prelude_functions}
use Rattle.prelude_guard.specs.Checks.{all_guarded}
use Rattle.prelude_code.specs.declared.fault.PreludeFault.{PreludeFault}
use Rattle.prelude_code.specs.declared.fault.PreludeFault.TheVariants.{Refused, Memory as NoMemory}

abbrev pub fault_of : TextFault → PreludeFault
fault_of (Source line) = Refused
fault_of (Rule rule line) = Refused
fault_of Memory = NoMemory

-- the code of the text, without lines, in which a function is defined for each name, and each keeps its environment to itself
pub record IsPreludeCode (code : Prototype) : Type 0 where
  pub compiled : IsCodeOf [] prelude_text false code
  pub functions : length (list_of code.inner) ≡ length prelude_functions
  pub guarded : IsTrue (all_guarded code)

-- no code of the text is so; of want of memory nothing is said
abbrev pub IsNoPrelude : PreludeFault → Type 0
IsNoPrelude Refused = (code : Prototype) → IsPreludeCode code → ⊥
IsNoPrelude NoMemory = Unit {0}
