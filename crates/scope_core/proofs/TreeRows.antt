-- Rows of trees by the items of their vectors, and walks over them.
use Rattle.std.proofs.Common.{◌≡◌, ℕ, Bool, List, [], ◌∷◌, map, Option, Vec, Global, refl, ap, ◌∙◌}
use Rattle.std.specs.Option.{option_map}
use Rattle.tree_core.specs.declared.tree.Block.{Block}
use Rattle.tree_core.specs.declared.tree.Stat.{Stat}
use Rattle.tree_core.specs.declared.tree.Block as blocks
use Rattle.tree_core.specs.declared.tree.Body as bodies
use Rattle.tree_core.specs.declared.name.Name.{Name}
use Rattle.tree_core.specs.declared.name.UpName.{UpName}
use Rattle.tree_core.specs.declared.tree.Exp.{Exp}
use Rattle.tree_core.specs.Tree as tree
use Rattle.tree_core.specs.Plain.{plain_exps, plain_stat, plain_block, plain_body, block_of}
use Rattle.tree_core.proofs.Rows.{plain-block, plain-body}
use Rattle.scope_core.specs.Scopes.{Frame}
use Rattle.scope_core.specs.Walked.{after_exp, after_exps, after_field, after_fields, after_stat, after_stats, after_arms, settled_exp, settled_exps, settled_field, settled_fields, settled_stat, settled_stats, settled_arms, after_arm, settled_arm}
use Rattle.scope_core.proofs.Going.{after_all, settled_all, WalksRow}

abbrev pub rows_of : Vec Stat Global → Option (Vec Exp Global) → ℕ → ℕ → tree.Block
rows_of ss r tokens line = block_of (map plain_stat ss.items) (option_map (λ es. plain_exps es.items) r) tokens line

pub rolled_rows : (ss : Vec Stat Global) (r : Option (Vec Exp Global)) (tokens line : ℕ) → plain_block (blocks.roll-Block (record { stats = ss; result = r; tokens = tokens; line = line })) ≡ rows_of ss r tokens line
rolled_rows ss r tokens line =
    rw (blocks.out-roll-Block (record { stats = ss; result = r; tokens = tokens; line = line })) at (plain-block (blocks.roll-Block (record { stats = ss; result = r; tokens = tokens; line = line })))

pub rolled_body : (params : Vec Name Global) (vararg : Bool) (block : Block) (upvalues : Vec UpName Global) (line : ℕ) → plain_body (bodies.roll-Body (record { params = params; vararg = vararg; block = block; upvalues = upvalues; line = line })) ≡ tree.BodyOf params.items vararg (plain_block block) upvalues.items line
rolled_body params vararg block upvalues line =
    rw (bodies.out-roll-Body (record { params = params; vararg = vararg; block = block; upvalues = upvalues; line = line })) at (plain-body (bodies.roll-Body (record { params = params; vararg = vararg; block = block; upvalues = upvalues; line = line })))

-- a walk over a row is one over its list: from what it does at no item and at the first one

walks_row : {Y R : Type 0} (row : List Y → R) (after : List Frame → Y → List Frame) (settled : List Frame → Y → Y) (after_row : List Frame → R → List Frame) (settled_row : List Frame → R → R) (more : Y → R → R)
    → ((fs : List Frame) → after_row fs (row []) ≡ fs) → ((fs : List Frame) → settled_row fs (row []) ≡ row [])
    → ((fs : List Frame) (y : Y) (ys : List Y) → after_row fs (row (y ∷ ys)) ≡ after_row (after fs y) (row ys))
    → ((fs : List Frame) (y : Y) (ys : List Y) → settled_row fs (row (y ∷ ys)) ≡ more (settled fs y) (settled_row (after fs y) (row ys)))
    → ((y : Y) (ys : List Y) → more y (row ys) ≡ row (y ∷ ys))
    → WalksRow row after settled after_row settled_row
walks_row {Y} row after settled after_row settled_row more none none' first first' joined = record { leads = leads; gives = gives }
  where
    leads : (frames : List Frame) (ys : List Y) → after_row frames (row ys) ≡ after_all after frames ys
    leads frames [] = none frames
    leads frames (y ∷ ys) = first frames y ys ∙ leads (after frames y) ys

    gives : (frames : List Frame) (ys : List Y) → settled_row frames (row ys) ≡ row (settled_all after settled frames ys)
    gives frames [] = none' frames
    gives frames (y ∷ ys) =
        first' frames y ys ∙ ap (more (settled frames y)) (gives (after frames y) ys) ∙ joined (settled frames y) (settled_all after settled (after frames y) ys)

pub exps_walk : WalksRow tree.exps after_exp settled_exp after_exps settled_exps
exps_walk = walks_row tree.exps after_exp settled_exp after_exps settled_exps tree.MoreExps (λ fs. refl) (λ fs. refl) (λ fs e es. refl) (λ fs e es. refl) (λ e es. refl)

pub fields_walk : WalksRow tree.fields after_field settled_field after_fields settled_fields
fields_walk = walks_row tree.fields after_field settled_field after_fields settled_fields tree.MoreFields (λ fs. refl) (λ fs. refl) (λ fs e es. refl) (λ fs e es. refl) (λ e es. refl)

pub stats_walk : WalksRow tree.stats after_stat settled_stat after_stats settled_stats
stats_walk = walks_row tree.stats after_stat settled_stat after_stats settled_stats tree.MoreStats (λ fs. refl) (λ fs. refl) (λ fs e es. refl) (λ fs e es. refl) (λ e es. refl)

pub arms_walk : WalksRow tree.arms after_arm settled_arm after_arms settled_arms
arms_walk = walks_row tree.arms after_arm settled_arm after_arms settled_arms (λ a as'. tree.MoreArms a.0 a.1 as') (λ fs. refl) (λ fs. refl) (λ fs a as'. refl) (λ fs a as'. refl) (λ a as'. refl)
