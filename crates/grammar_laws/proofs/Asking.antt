-- What is asked of every part of a tree: what it says of a piece that is read and of what stands before a part, and that lists keep it that grow.
use Rattle.std.proofs.Common.{List, [], ◌∷◌, ◌++◌, Option}
use Rattle.std.specs.Prelude.{IfSome}
use Rattle.tree_core.specs.Tree as tree
use Rattle.tree_terms.specs.Asked.{Asked, ExpMeets, ExpsMeet, FieldsMeet, FieldMeets, StatMeets, ArmsMeet, StatsMeet, BlockMeets, BodyMeets}
use Rattle.lua_parse.specs.Moves.{Piece, an_exp, maybe_exp, some_exps, a_field, some_fields, a_target, an_arm, some_arms, some_items, a_stat, a_block, maybe_block, a_body, Part, items}
use Rattle.grammar_laws.proofs.Fronts.{front}

module _ (asked : Asked) where
  abbrev pub MaybeMeets : Option tree.Exp → Type 0
  MaybeMeets e = IfSome e (ExpMeets asked)

  abbrev pub ElseMeets : Option tree.Block → Type 0
  ElseMeets b = IfSome b (BlockMeets asked)

  abbrev pub ValuesMeet : Option (List tree.Exp) → Type 0
  ValuesMeet es = IfSome es (λ xs. ExpsMeet asked (tree.exps xs))

  abbrev pub PieceMeets : Piece → Type 0
  PieceMeets (an_exp e) = ExpMeets asked e
  PieceMeets (maybe_exp e) = MaybeMeets e
  PieceMeets (some_exps es) = ExpsMeet asked (tree.exps es)
  PieceMeets (a_field f) = FieldMeets asked f
  PieceMeets (some_fields fs) = FieldsMeet asked (tree.fields fs)
  PieceMeets (a_target e own) = ExpMeets asked e
  PieceMeets (an_arm e b) = ExpMeets asked e × BlockMeets asked b
  PieceMeets (some_arms as') = ArmsMeet asked (tree.arms as')
  PieceMeets (some_items ss es line) = StatsMeet asked (tree.stats ss) × ValuesMeet es
  PieceMeets (a_stat s) = StatMeets asked s
  PieceMeets (a_block b) = BlockMeets asked b
  PieceMeets (maybe_block b) = ElseMeets b
  PieceMeets (a_body b) = BodyMeets asked b
  PieceMeets _ = Unit {0}

  -- what stands before a part
  abbrev pub FrontMeets : Part → Type 0
  FrontMeets (items ss height) = StatsMeet asked (tree.stats ss)
  FrontMeets part = IfSome (front part) PieceMeets

  pub exps_more : (es : List tree.Exp) (e : tree.Exp) → ExpsMeet asked (tree.exps es) → ExpMeets asked e → ExpsMeet asked (tree.exps (es ++ e ∷ []))
  exps_more [] e h k = (k, tt)
  exps_more (d ∷ es) e h k = (h.0, exps_more es e h.1 k)

  pub fields_more : (fs : List tree.Field) (f : tree.Field) → FieldsMeet asked (tree.fields fs) → FieldMeets asked f → FieldsMeet asked (tree.fields (fs ++ f ∷ []))
  fields_more [] f h k = (k, tt)
  fields_more (g ∷ fs) f h k = (h.0, fields_more fs f h.1 k)

  pub stats_more : (ss : List tree.Stat) (s : tree.Stat) → StatsMeet asked (tree.stats ss) → StatMeets asked s → StatsMeet asked (tree.stats (ss ++ s ∷ []))
  stats_more [] s h k = (k, tt)
  stats_more (r ∷ ss) s h k = (h.0, stats_more ss s h.1 k)

  pub arms_more : (as' : List (tree.Exp × tree.Block)) (e : tree.Exp) (b : tree.Block) → ArmsMeet asked (tree.arms as') → ExpMeets asked e → BlockMeets asked b
      → ArmsMeet asked (tree.arms (as' ++ (e, b) ∷ []))
  arms_more [] e b h k l = (k, (l, tt))
  arms_more (a ∷ as') e b h k l = (h.0, (h.1.0, arms_more as' e b h.1.1 k l))
