-- The code of a loaded source means its tree.
use Rattle.std.proofs.Common.{◌≡◌, ℕ, List, Some, refl, sym, subst}
use Rattle.tree_core.specs.Tree.{Body}
use Rattle.load_rows.specs.Loading.{Built, built, refused_at}
use Rattle.code_of.specs.CodeOf.{code_of}
use Rattle.runs_alike.specs.Alike.{BuiltAlike, IsMeantBy}
use Rattle.source_laws.proofs.Meaning.{source_means}
use Rattle.source_builds.specs.Builds.{IsBuiltTo, code_built}
use Rattle.source_runs.specs.Law.{LoadedCodeIsAlike}

one_alike : (name source : List ℕ) (b : Built Body) → ((body : Body) → b ≡ built body → IsBuiltTo source body) → BuiltAlike IsMeantBy b (code_built name b)
one_alike name source (refused_at line rule) k = (refl, refl)
one_alike name source (built body) k =
    let is = k body refl in
    subst (λ b. BuiltAlike IsMeantBy (built b) (built (code_of (Some name) b))) (sym is.placed_is) (source_means source is.tokens is.tree is.limited is.lexed is.derived is.lawful (Some name))

pub loaded_alike : LoadedCodeIsAlike
loaded_alike builds are name source = one_alike name source (builds name source) (are name source)
