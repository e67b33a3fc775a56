-- The law that the code of a source fits the fields of instructions.
use Rattle.std.specs.Prelude.{◌≡◌, ℕ, ◌+◌, ◌≤◌, ◌<◌, ◌^◌, Bool, List, [], length}
use Rattle.tree_core.specs.Tree.{Block, Body, BodyOf}
use Rattle.token_cursor.specs.Words.{Lexeme}
use Rattle.lua_lex.specs.Lexical.{TokensOf}
use Rattle.lua_parse.specs.Reading.{Derives}
use Rattle.scope_core.specs.Places.{placed}
use Rattle.scope_core.specs.Rules.{violations}
use Rattle.code_core.specs.declared.proto.Const.{Const}
use Rattle.code_of.specs.declared.leaving.Leaving.{Leaving}
use Rattle.code_of.specs.CodeOf.{body_code}
use Rattle.code_of.specs.Constants.{of_block}
use Rattle.code_of.specs.Levels.{made_in_block}
use Rattle.code_of.specs.Sizes.{block_size}
use Rattle.grammar_laws.specs.Each.{InBody}

-- a jump reaches 2 ^ 24 places, EXTRAARG has 25 bits for the number of a constant, and CLOSURE 17 bits for that of a function
pub record CodeFits (body : Body) (inner : Block) : Type 0 where
  pub code : length (body_code body) ≤ 2 ^ 24
  pub constants : length (of_block inner []) < 2 ^ 25
  pub functions : made_in_block inner ≤ 2 ^ 17

abbrev pub FunctionFits : Body → Type 0
FunctionFits (BodyOf params vararg inner ups line) = CodeFits (BodyOf params vararg inner ups line) inner

-- the jumps of a `for` have 17 bits, and lead over its block and two instructions more
abbrev pub LoopFits : Block → Type 0
LoopFits block = (constants : List Const) (back : Leaving) (closing : Bool) (outer t j : ℕ) → block_size constants back block closing outer t j + 2 < 2 ^ 17

-- of a source that keeps the static rules, among them the limit on the tokens in the block of a `for`
abbrev pub CodeFitsItsFields : Type 0
CodeFitsItsFields =
    (source : List ℕ) (tokens : List Lexeme) (tree : Block) → length source ≤ 1048576 → TokensOf source tokens → Derives tokens tree → violations tree ≡ []
    → InBody FunctionFits LoopFits (placed tree)
