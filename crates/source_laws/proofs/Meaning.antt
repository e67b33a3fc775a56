-- The body of each source fits, and so its code means it.
use Rattle.std.proofs.Common.{◌≡◌, ℕ, ◌≤◌, ◌^◌, List, [], length, Option, arith}
use Rattle.tree_core.specs.Tree.{Block}
use Rattle.token_cursor.specs.Words.{Lexeme}
use Rattle.lua_lex.specs.Lexical.{TokensOf}
use Rattle.lua_parse.specs.Reading.{Derives}
use Rattle.scope_core.specs.Places.{placed}
use Rattle.scope_core.specs.Rules.{violations}
use Rattle.code_means.specs.Means.{Means}
use Rattle.code_of.specs.CodeOf.{code_of}
use Rattle.tree_terms.specs.FunctionCount.{functions_in_body}
use Rattle.tree_terms.specs.Weight.{weight_of_body}
use Rattle.stat_laws.specs.Fits.{is_known, BodyFits}
use Rattle.stat_laws.proofs.Whole.{means}
use Rattle.scope_laws.proofs.Main.{names_fit}
use Rattle.grammar_laws.proofs.FormReadings.{tree_formed}
use Rattle.grammar_laws.proofs.PlacedForms.{placed_formed}
use Rattle.grammar_laws.proofs.WholeSizes.{weighs, takes, weighs_alike}
use Rattle.source_laws.proofs.Fitting.{body_fits}

module _ (source : List ℕ) (tokens : List Lexeme) (tree : Block) (small : length source ≤ 1048576) (t : TokensOf source tokens) (d : Derives tokens tree) (keeps : violations tree ≡ []) (name : Option (List ℕ)) where
  pub source_light : weight_of_body (placed tree) ≤ 2 ^ 21
  source_light =
      let whole = (weighs tokens tree d).whole in
      let same = (weighs_alike tree).weight in
      let few = (takes source tokens tree t d).tokens_count in
      omega (arith, small, whole, same, few)

  pub source_functions : functions_in_body (placed tree) ≤ 2 ^ 17
  source_functions =
      let same = (weighs_alike tree).functions in
      let few = (takes source tokens tree t d).functions_count in
      omega (arith, small, same, few)

  pub source_fits : BodyFits name (placed tree)
  source_fits =
      let names = names_fit tree keeps in
      let blocks = (weighs_alike tree).blocks (weighs tokens tree d).blocks in
      body_fits name (placed tree) names.0 names.1 (placed_formed tree (tree_formed tokens tree d)) blocks source_light source_functions

  pub source_means : Means (is_known name) (code_of name (placed tree)) (placed tree)
  source_means = means name (placed tree) source_fits
