-- That each constant that a piece of tree names is among the constants of its function, at its number.
use Rattle.std.specs.Prelude.{◌≡◌, ℕ, false, List, [], Some, slice_get}
use Rattle.tree_core.specs.declared.name.Place.{Place}
use Rattle.tree_core.specs.declared.name.Place.TheVariants.{GlobalIn, GlobalOf}
use Rattle.tree_core.specs.Tree.{Block, Stat, LocalFunction, Exp, Int, Str, Function, Var}
use Rattle.tree_terms.specs.Asked.{Asked, nothing_asked, BlockMeets}
use Rattle.code_core.specs.declared.proto.Const.{Const}
use Rattle.code_core.specs.declared.proto.Const.TheVariants.{Int as IntConst, Str as StrConst}
use Rattle.code_of.specs.Constants.{is_small, number_in, of_block}

-- a constant stands in a list at its number
abbrev pub Has : List Const → Const → Type 0
Has cs x = slice_get cs (number_in cs x) ≡ Some x

-- of each piece: the list has its constants

abbrev pub NameHas : List Const → Place → List ℕ → Type 0
NameHas cs (GlobalIn n) text = Has cs (StrConst text)
NameHas cs (GlobalOf u) text = Has cs (StrConst text)
NameHas cs _ text = Unit {0}

abbrev pub exp_constants : List Const → Exp → Type 0 → Type 0
exp_constants cs (Int line z) parts = is_small z ≡ false → Has cs (IntConst z)
exp_constants cs (Str line bytes) parts = Has cs (StrConst bytes)
exp_constants cs (Function line body) parts = Unit {0}
exp_constants cs (Var line name) parts = NameHas cs name.place name.text
exp_constants cs _ parts = parts

abbrev pub stat_constants : Stat → Type 0 → Type 0
stat_constants (LocalFunction line name body) parts = Unit {0}
stat_constants _ parts = parts

module _ (cs : List Const) where
  abbrev pub all_constants : Asked
  all_constants = record nothing_asked { exp = exp_constants cs; name = λ x parts. Has cs (StrConst x.text) × parts; stat = stat_constants }

  abbrev pub BlockHas : Block → Type 0
  BlockHas block = BlockMeets all_constants block

-- the constants that are collected from a function's block are all that it names
abbrev pub ConstantsAreNumbered : Type 0
ConstantsAreNumbered = (block : Block) → BlockHas (of_block block []) block
