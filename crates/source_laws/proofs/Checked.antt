-- The tree of each source is near, and so its code is checked.
use Rattle.std.proofs.Common.{◌≡◌, ℕ, ◌+◌, ◌≤◌, List, [], length, Option, IsTrue, arith}
use Rattle.tree_core.specs.Tree.{Block}
use Rattle.token_cursor.specs.Words.{Lexeme}
use Rattle.lua_lex.specs.Lexical.{TokensOf}
use Rattle.lua_parse.specs.Reading.{Derives}
use Rattle.scope_core.specs.Places.{placed}
use Rattle.scope_core.specs.Rules.{violations}
use Rattle.code_core.specs.Check.{IsChecked}
use Rattle.code_core.specs.Writable.{name_fits}
use Rattle.code_of.specs.CodeOf.{code_of}
use Rattle.scope_laws.proofs.Main.{names_fit}
use Rattle.grammar_laws.proofs.FormReadings.{tree_formed}
use Rattle.grammar_laws.proofs.PlacedForms.{placed_formed}
use Rattle.grammar_laws.proofs.WholeSizes.{lines}
use Rattle.source_laws.proofs.Fields.{fits}
use Rattle.source_laws.proofs.Meaning.{source_light, source_functions, source_fits}
use Rattle.source_laws.proofs.Nearing.{near_body}
use Rattle.code_checked.proofs.Keeping.{code_is_checked}
use Rattle.source_laws.proofs.Joining.{body_written}
use Rattle.source_laws.proofs.Within.{many_body}
use Rattle.source_laws.proofs.Limits.{texts_fit, shallow}

pub source_checked : (source : List ℕ) (tokens : List Lexeme) (tree : Block) → length source ≤ 1048576 → TokensOf source tokens → Derives tokens tree → violations tree ≡ []
    → (name : Option (List ℕ)) → IsTrue (name_fits name) → IsChecked (code_of name (placed tree))
source_checked source tokens tree small t d keeps name named =
    let names = names_fit tree keeps in
    let light = source_light source tokens tree small t d keeps name in
    let few = source_functions source tokens tree small t d keeps name in
    let formed = placed_formed tree (tree_formed tokens tree d) in
    let fitting = source_fits source tokens tree small t d keeps name in
    let many = many_body name (placed tree) in
    code_is_checked name (placed tree) (record {
      name = named;
      near = near_body name (placed tree) names.0 names.1 formed fitting (fits source tokens tree small t d keeps) light;
      written = body_written (length source + 1) (omega (arith, small)) (placed tree) (lines source tokens tree t d).as_placed (texts_fit source tokens tree small t d);
      depth = shallow tokens tree d name;
      functions = omega (arith, few, many);
    })
