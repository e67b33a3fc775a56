-- Both worlds of the libraries.
use Rattle.std.proofs.Common.{zero, suc, ◌≡◌, List, [], ◌∷◌, length, refl, ap}
use Rattle.std.specs.Prelude.{map}
use Rattle.code_core.specs.declared.proto.UpDesc.{UpDesc}
use Rattle.code_core.specs.Prototype.{Prototype}
use Rattle.library_rows.specs.Library.{Entry}
use Rattle.lua_meaning.specs.Opening as meaning
use Rattle.lua_meaning.specs.Opening.{environment_cells}
use Rattle.code_means.specs.Runs.{outer_in}
use Rattle.machine_sound.specs.Sound.{Each}
use Rattle.machine_sound.proofs.Lists.{each_tail}
use Rattle.machine_runs.specs.Opening.{environment_cell, prelude_function, opening}
use Rattle.machine_means.specs.Joined.{FunctionsPair}
use Rattle.means_runs.specs.Runs.{IsBare, OpensAlike}

cells_same : (ups : List UpDesc) → environment_cells (length ups) ≡ map environment_cell ups
cells_same [] = refl
cells_same (u ∷ ups) = ap (λ cells. 0 ∷ cells) (cells_same ups)

pairs : (prelude : List (Entry Prototype)) → Each IsBare prelude → FunctionsPair (map prelude_function prelude) (map (meaning.prelude_function outer_in) prelude)
pairs [] bare n = tt
pairs (e ∷ es) bare zero = record { code = refl; cells = cells_same e.entry.own.upvalues; named = bare zero e refl }
pairs (e ∷ es) bare (suc n) = pairs es (each_tail IsBare e es bare) n

pub opens_alike : OpensAlike
unfolding opening
opens_alike prelude bare = record { heap = refl; globals = refl; functions = pairs prelude bare; cells = refl; idle = refl; none = refl; chain = refl; main = refl }
