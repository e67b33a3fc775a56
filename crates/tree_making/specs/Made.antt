-- What is made of parts, as plain trees with their heights. A height is the number of levels within a tree.
use Rattle.std.specs.Prelude.{◌≡◌, ℕ, ◌+◌, max, List, map, Option}
use Rattle.std.specs.Option.{option_map}
use Rattle.std.specs.declared.boxed.Box.{Box}
use Rattle.std.specs.declared.vec.Vec.{Vec}
use Rattle.std.specs.declared.alloc.Global.{Global}
use Rattle.tree_core.specs.declared.name.Name.{Name}
use Rattle.tree_core.specs.declared.tree.Exp.{Exp}
use Rattle.tree_core.specs.declared.tree.Field.{Field}
use Rattle.tree_core.specs.declared.tree.Arm.{Arm}
use Rattle.tree_core.specs.declared.tree.Stat.{Stat}
use Rattle.tree_core.specs.Tree as tree
use Rattle.tree_core.specs.Plain.{plain_exp, plain_exps, plain_field, plain_arm, plain_stat}
use Rattle.tree_making.specs.declared.operator.Infix.{Infix}
use Rattle.tree_making.specs.declared.operator.Infix.TheVariants as joining
use Rattle.tree_making.specs.declared.part.Found.{Found}
use Rattle.tree_making.specs.declared.part.Items.{Items}

-- what is made is this, seen by `plain`, and has this height
pub record IsMade {A B : Type 0} (plain : A → B) (made : Found A) (value : B) (height : ℕ) : Type 0 where
  pub node : plain made.node ≡ value
  pub levels : made.height ≡ height

-- a level over two parts
abbrev pub above : ℕ → ℕ → ℕ
above x y = max x y + 1

-- the name as a key
abbrev pub key_of : Name → tree.Exp
key_of x = tree.Str x.line x.text

-- the tree of an operator on this line
abbrev pub joined : Infix → ℕ → tree.Exp → tree.Exp → tree.Exp
joined joining.Or line a b = tree.Or line a b
joined joining.And line a b = tree.And line a b
joined (joining.Binary op) line a b = tree.Binary line op a b

-- the expression in a box
abbrev pub plain_boxed : Box Exp Global → tree.Exp
plain_boxed b = plain_exp b.value

-- the items of vectors

abbrev pub all_plain : Vec Exp Global → List tree.Exp
all_plain es = plain_exps es.items

abbrev pub all_fields : Vec Field Global → List tree.Field
all_fields fs = map plain_field fs.items

abbrev pub all_stats : Vec Stat Global → List tree.Stat
all_stats ss = map plain_stat ss.items

abbrev pub all_arms : Vec Arm Global → List (tree.Exp × tree.Block)
all_arms as' = map plain_arm as'.items

-- the block whose tokens were not counted yet
abbrev pub plain_items : Items → List tree.Stat × Option (List tree.Exp) × ℕ
plain_items i = (map plain_stat i.stats.items, option_map (λ es. plain_exps es.items) i.result, i.line)
