-- What a tree writes fits, besides its lines: its integers have 64 bits, and its strings and names have at most 16,777,216 bytes.
use Rattle.std.specs.Prelude.{List, [], ◌∷◌, IsTrue}
use Rattle.tree_core.specs.declared.name.Declared.{Declared}
use Rattle.tree_core.specs.Tree.{Block, Body, BodyOf, Stat, Local, LocalFunction, NumFor, NumForStep, GenFor, Exp, Int, Str, Var}
use Rattle.tree_terms.specs.Asked.{Asked, nothing_asked, BlockMeets, BodyMeets}
use Rattle.code_core.specs.Writable.{signed_fits}
use Rattle.code_checked.specs.Written.{TextFits, NamesFit, UpvaluesFit}

abbrev pub DeclaredTextsFit : List Declared → Type 0
DeclaredTextsFit [] = Unit {0}
DeclaredTextsFit (d ∷ names) = TextFits d.name.text × DeclaredTextsFit names

abbrev pub exp_texts : Exp → Type 0 → Type 0
exp_texts (Int line z) parts = IsTrue (signed_fits 63 z)
exp_texts (Str line bytes) parts = TextFits bytes
exp_texts (Var line name) parts = TextFits name.text
exp_texts _ parts = parts

abbrev pub stat_texts : Stat → Type 0 → Type 0
stat_texts (Local line names es) parts = DeclaredTextsFit names × parts
stat_texts (LocalFunction line name body) parts = TextFits name.text × parts
stat_texts (NumFor line name from limit block) parts = TextFits name.text × parts
stat_texts (NumForStep line name from limit step block) parts = TextFits name.text × parts
stat_texts (GenFor line names es block) parts = NamesFit names × parts
stat_texts _ parts = parts

abbrev pub body_texts : Body → Type 0 → Type 0
body_texts (BodyOf params vararg inner ups line) parts = NamesFit params × (UpvaluesFit ups × parts)

abbrev pub all_texts : Asked
all_texts = record nothing_asked { exp = exp_texts; name = λ x parts. TextFits x.text × parts; stat = stat_texts; body = body_texts }

abbrev pub BlockTextsFit : Block → Type 0
BlockTextsFit block = BlockMeets all_texts block

abbrev pub BodyTextsFit : Body → Type 0
BodyTextsFit body = BodyMeets all_texts body
