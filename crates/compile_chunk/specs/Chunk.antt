-- The chunk that a source file is compiled to (Lua 5.4's `luac`).
use Rattle.std.specs.Prelude.{◌≡◌, ℕ, Bool, false, cond, not, ◌&&◌, List, [], ◌∷◌, nat_eq, drop}
use Rattle.std.specs.List.{prefix_len}
use Rattle.tree_core.specs.Tree.{Block}
use Rattle.scope_core.specs.Places.{placed}
use Rattle.code_core.specs.Prototype.{Prototype}
use Rattle.code_core.specs.Check.{IsChecked}
use Rattle.code_of.specs.CodeOf.{code_of}
use Rattle.code_means.specs.Means.{Means}
use Rattle.compiler.specs.Source.{name_where}
use Rattle.chunk_format.specs.Grammar.{ChunkOf}
use Rattle.chunk_format.specs.Spelling as spelled
use Rattle.compile_text.specs.Source.{IsSource}

abbrev pub begins_with_hash : List ℕ → Bool
begins_with_hash [] = false
begins_with_hash (byte ∷ bytes) = nat_eq byte 35

abbrev pub is_in_line : ℕ → Bool
is_in_line byte = not (nat_eq byte 10) && not (nat_eq byte 13)

-- a first line that begins with `#` is no part of the script, but for its end
abbrev pub script_in : List ℕ → List ℕ
script_in content = cond (begins_with_hash content) (drop (prefix_len is_in_line content) content) content

-- The code of a source means the source's tree. With lines it has the source's name and the lines of its instructions, else none
pub record IsCodeOf (name source : List ℕ) (lines : Bool) (code : Prototype) : Type 0 where
  pub tree : Block
  pub is_source : IsSource source tree
  pub code_is : code ≡ code_of (name_where lines name) (placed tree)
  pub means : Means lines code (placed tree)

-- The bytes spell the code of the source, which is checked and means the source's tree. With lines it has the source's name and the lines of
-- its instructions; stripped it has none
pub record IsChunkOf (name source : List ℕ) (strip : Bool) (bytes : List ℕ) : Type 0 where
  pub tree : Block
  pub is_source : IsSource source tree
  pub code : Prototype
  pub code_is : code ≡ code_of (name_where (not strip) name) (placed tree)
  pub means : Means (not strip) code (placed tree)
  pub checked : IsChecked code
  pub spelled : bytes ≡ spelled.chunk code
  pub in_grammar : ChunkOf code bytes
