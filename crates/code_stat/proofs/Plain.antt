-- Plain trees of blocks, arms and some statements, by their parts.
use Rattle.std.proofs.Common.{ℕ, ◌+◌, ◌≡◌, ◌<◌, List, length, drop, map, Option, Some, None, Box, Vec, Global, false, refl, sym, ap, ap₂, ◌∙◌}
use Rattle.std.specs.Prelude.{slice_index_or}
use Rattle.std.specs.Option.{option_map}
use Rattle.tree_core.specs.declared.name.Name.{Name}
use Rattle.tree_core.specs.declared.tree.Exp.{Exp}
use Rattle.tree_core.specs.declared.tree.Stat.{Stat}
use Rattle.tree_core.specs.declared.tree.StatNode.{If, NumFor, GenFor}
use Rattle.tree_core.specs.declared.tree.Arm.{Arm, is-Arm', out-Arm}
use Rattle.tree_core.specs.declared.tree.Block.{Block, out-Block}
use Rattle.tree_core.specs.Tree as tree
use Rattle.tree_core.specs.Plain.{plain_exp, plain_exps, plain_stat, plain_stat_node, plain_arm, plain_block, block_of, if_of, num_for_of}
use Rattle.tree_core.proofs.Rows.{plain-block, plain-if, plain-num_for, plain-gen_for}
use Rattle.tree_activation.specs.Activation.{line_of_end}
use Rattle.code_of.specs.Levels.{closings_after, marked_in_block}
use Rattle.code_stat.specs.Forms.{choice}
use Rattle.code_stat.proofs.Going.{front}

result_of : (b : Block) (r : Option (Vec Exp Global)) → (out-Block b).result ≡ r → plain_block b ≡ block_of (map plain_stat (out-Block b).stats.items) (option_map (λ es. plain_exps es.items) r) (out-Block b).tokens (out-Block b).line
result_of b r e = plain-block b ∙ ap (λ o. block_of (map plain_stat (out-Block b).stats.items) (option_map (λ es. plain_exps es.items) o) (out-Block b).tokens (out-Block b).line) e

pub ends_at : (b : Block) → (out-Block b).line ≡ line_of_end (plain_block b)
ends_at b = by (out-Block b).result refl
  where
    by : (r : Option (Vec Exp Global)) → (out-Block b).result ≡ r → (out-Block b).line ≡ line_of_end (plain_block b)
    by None e = sym (ap line_of_end (result_of b None e))
    by (Some es) e = sym (ap line_of_end (result_of b (Some es) e))

pub marks_at : (b : Block) → closings_after (tree.stats (map plain_stat (out-Block b).stats.items)) false ≡ marked_in_block (plain_block b)
marks_at b = by (out-Block b).result refl
  where
    by : (r : Option (Vec Exp Global)) → (out-Block b).result ≡ r → closings_after (tree.stats (map plain_stat (out-Block b).stats.items)) false ≡ marked_in_block (plain_block b)
    by None e = sym (ap marked_in_block (result_of b None e))
    by (Some es) e = sym (ap marked_in_block (result_of b (Some es) e))

pub arm_of : (a : Arm) → plain_arm a ≡ (plain_exp (out-Arm a).test, plain_block (out-Arm a).block)
arm_of a = ap plain_arm (is-Arm' a)

pub chosen_of : (line : ℕ) (as' : List (tree.Exp × tree.Block)) (o : Option tree.Block) → if_of line as' o ≡ choice line (tree.arms as') o
chosen_of line as' None = refl
chosen_of line as' (Some b) = refl

-- statements by their forms, some of whose parts are given as others

pub choice_plain : (s : Stat) (list : Vec Arm Global) (otherwise : Option (Box Block Global)) → s.node ≡ If list otherwise
    → plain_stat s ≡ choice s.line (tree.arms (map plain_arm list.items)) (option_map (λ b. plain_block b.value) otherwise)
choice_plain s list otherwise is =
    ap (λ n. plain_stat_node n s.line) is ∙ plain-if s.line list otherwise ∙ chosen_of s.line (map plain_arm list.items) (option_map (λ b. plain_block b.value) otherwise)

pub num_for_plain : (s : Stat) (name : Name) (from limit : Box Exp Global) (step : Option (Box Exp Global)) (block : Box Block Global) (e d : Exp) (b : Block) → s.node ≡ NumFor name from limit step block
    → e ≡ from.value → d ≡ limit.value → b ≡ block.value → plain_stat s ≡ num_for_of s.line name (plain_exp e) (plain_exp d) (option_map (λ x. plain_exp x.value) step) (plain_block b)
num_for_plain s name from limit step block e d b is first last inner =
    let by = option_map (λ x. plain_exp x.value) step in
    ap (λ n. plain_stat_node n s.line) is ∙ plain-num_for s.line name from limit step block
    ∙ ap₂ (λ x y. num_for_of s.line name (plain_exp x) (plain_exp y) by (plain_block block.value)) (sym first) (sym last)
    ∙ ap (λ x. num_for_of s.line name (plain_exp e) (plain_exp d) by (plain_block x)) (sym inner)

pub gen_for_plain : (s : Stat) (names : Vec Name Global) (values : Vec Exp Global) (block : Box Block Global) (b : Block) → s.node ≡ GenFor names values block → b ≡ block.value
    → plain_stat s ≡ tree.GenFor s.line names.items (tree.exps (plain_exps values.items)) (plain_block b)
gen_for_plain s names values block b is inner =
    ap (λ n. plain_stat_node n s.line) is ∙ plain-gen_for s.line names values block ∙ ap (λ x. tree.GenFor s.line names.items (tree.exps (plain_exps values.items)) (plain_block x)) (sym inner)

pub arms_front : (items : List Arm) (i : ℕ) (x : Arm) → i < length items → x ≡ slice_index_or items i x
    → tree.arms (map plain_arm (drop i items)) ≡ tree.MoreArms (plain_exp (out-Arm x).test) (plain_block (out-Arm x).block) (tree.arms (map plain_arm (drop (i + 1) items)))
arms_front items i x inside is =
    ap (λ l. tree.arms (map plain_arm l)) (front items i x inside is) ∙ ap (λ a. tree.MoreArms a.0 a.1 (tree.arms (map plain_arm (drop (i + 1) items)))) (arm_of x)
