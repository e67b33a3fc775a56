-- Rows that hang on what sources are built to, and those that do not.
use Rattle.std.proofs.Common.{◌≡◌, ℕ, [], None, ap, sym, subst, ◌∙◌}
use Rattle.tree_core.specs.Tree.{Body}
use Rattle.load_rows.specs.Loading.{refused_at, Builds}
use Rattle.source_builds.specs.Builds.{BuildsSources}
use Rattle.source_builds.specs.Readings.{AsRead}
use Rattle.source_builds.proofs.Knowing.{read_all, read_map}
use Rattle.loaded_code.specs.Laws.{library}
use Rattle.machine_core.specs.Moves.{Ending, Row, traps, run}
use Rattle.lua_heap.specs.declared.world.World.{World as Memory}
use Rattle.lua_heap.specs.Plain.{plain}
use Rattle.move_laws.specs.Memory.{IsSafe, Leads, Steps}
use Rattle.move_laws.proofs.Order.{steps_of}
use Rattle.machine_primitives.specs.declared.primitives.Called.{Called}
use Rattle.machine_primitives.specs.Primitives.{row_by}
use Rattle.machine_primitives.proofs.Unspent.{called_unspent}

-- all sources may be refused

pub nothing : Builds Body
nothing name source = refused_at 0 None

pub nothing_built : BuildsSources nothing
unfolding nothing
nothing_built name source body e = absurd (cc)

pub safe_known : {W : Memory} (called known : Called) (row : Row) → called ≡ known → ((builds : Builds Body) → row_by builds known ≡ row)
    → ((builds : Builds Body) → BuildsSources builds → IsSafe (row_by builds called) [] W) → IsSafe row [] W
safe_known {W} called known row e r s = subst (λ row. IsSafe row [] W) (ap (row_by nothing) e ∙ r nothing) (s nothing nothing_built)

pub safe_by : {W : Memory} (number : ℕ) (called : Called) → ((builds : Builds Body) → library builds number ≡ row_by builds called)
    → ((builds : Builds Body) → BuildsSources builds → IsSafe (library builds number) [] W) → (builds : Builds Body) → BuildsSources builds → IsSafe (row_by builds called) [] W
safe_by {W} number called some s builds are = subst (λ row. IsSafe row [] W) (some builds) (s builds are)

pub no_row : {W : Memory} (number : ℕ) → ((builds : Builds Body) → library builds number ≡ traps) → ((builds : Builds Body) → BuildsSources builds → IsSafe (library builds number) [] W) → ⊥
no_row {W} number none s = (s nothing nothing_built).never 0 (ap (λ row. run row [] (plain W 0)) (none nothing))

pub read_leads : {old new : Memory} {ending : Ending} (called known : Called) → called ≡ known → AsRead (λ builds. Leads (row_by builds known) [] old new ending)
    → AsRead (λ builds. Leads (row_by builds called) [] old new ending)
read_leads {old} {new} {ending} called known e r = subst (λ c. AsRead (λ builds. Leads (row_by builds c) [] old new ending)) (sym e) r

pub always_leads : {old new : Memory} {ending : Ending} (called known : Called) (row : Row) → called ≡ known → ((builds : Builds Body) → row_by builds known ≡ row) → Leads row [] old new ending
    → AsRead (λ builds. Leads (row_by builds called) [] old new ending)
always_leads {old} {new} {ending} called known row e r l =
    read_leads called known e (read_all (λ builds are. subst (λ row. Leads row [] old new ending) (sym (r builds)) l))

pub steps_read : {old new : Memory} (number : ℕ) (called : Called) (ending : Ending) → ((builds : Builds Body) → library builds number ≡ row_by builds called)
    → AsRead (λ builds. Leads (row_by builds called) [] old new ending) → AsRead (λ builds. (fuel : ℕ) → Steps (library builds number) [] old fuel new fuel ending)
steps_read {old} {new} number called ending some r =
    read_map (λ builds are l fuel. steps_of fuel (called_unspent builds called ending l) (subst (λ row. Leads row [] old new ending) (sym (some builds)) l)) r
