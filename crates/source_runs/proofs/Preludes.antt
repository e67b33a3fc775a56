-- Preludes of functions that fit.
use Rattle.std.proofs.Common.{◌≡◌, ℕ, List, [], ◌∷◌, None, refl, sym}
use Rattle.std.specs.Prelude.{map}
use Rattle.std.proofs.lemmas.List.{length-map}
use Rattle.tree_core.specs.Tree.{Body, BodyOf}
use Rattle.library_rows.specs.Library.{Library, Entry, entry}
use Rattle.lua_meaning.specs.TreeMeaning.{outer_of}
use Rattle.code_of.specs.CodeOf.{upvalue, code_of}
use Rattle.code_means.specs.Runs.{outer_in}
use Rattle.runs_alike.specs.Alike.{EntryAlike, EntriesAlike}
use Rattle.stat_laws.specs.Fits.{BodyFits}
use Rattle.stat_laws.proofs.Whole.{means}
use Rattle.source_runs.specs.Law.{compiled_entry, EntriesFit}

same_outer : (b : Body) → outer_of b ≡ outer_in (code_of None b)
same_outer (BodyOf params vararg inner ups line) = sym (length-map ups upvalue)

pub entry_alike : (library : Library) (name : List ℕ) (b : Body) → BodyFits None b → EntryAlike (entry library name b) (entry library name (code_of None b))
entry_alike library name b fits = record { library = refl; name = refl; outer = same_outer b; meant = means None b fits }

pub preludes_alike : (prelude : List (Entry Body)) → EntriesFit prelude → EntriesAlike prelude (map compiled_entry prelude)
preludes_alike [] fits = tt
preludes_alike (x ∷ xs) fits = (entry_alike x.library x.name x.entry fits.0, preludes_alike xs fits.1)
