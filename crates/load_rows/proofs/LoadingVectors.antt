-- Vectors of `load`: its modes, names and refusals, where it is known what some sources are built to. The errors of arguments are those of `lua5.4` for
-- arguments of these types; the texts of refusals are this project's own.
use Rattle.std.proofs.Common.{◌≡◌, ℕ, List, [], ◌∷◌, Some, None, refl}
use Rattle.std.specs.Prelude.{codes, pos, true}
use Rattle.std.specs.Fmt.{digits}
use Rattle.int_core.specs.Value.{nil, boolean, integer, string, a_table, Shape, is_known, is_object}
use Rattle.load_rows.specs.Loading.{Built, built, refused_at, Builds, Loaded, wrong, not_loaded, loaded, load_of}

-- a source is built to its first byte, but for an empty one, which breaks a rule, and one of one byte, which is refused
abbrev builds_first : Builds ℕ
builds_first name source = elim source [
  | [] ↦ refused_at 1 (Some 13)
  | byte ∷ bytes ↦ elim bytes [ [] ↦ refused_at 2 None | _ ∷ _ ↦ built byte ]
]

abbrev text : List ℕ → Shape
text bytes = is_known (string bytes)

abbrev absent : Shape
absent = is_known nil

abbrev call : Shape → Shape → Shape → Loaded ℕ
call chunk name mode = load_of builds_first chunk name mode

under_its_default_name : call (text (codes "ab")) absent absent ≡ loaded (codes "[string]") 97
unfolding digits
under_its_default_name = refl

under_a_name : call (text (codes "ab")) (text (codes "=n")) (text (codes "t")) ≡ loaded (codes "=n") 97
unfolding digits
under_a_name = refl

an_integer_is_its_text : call (is_known (integer (pos 57))) absent absent ≡ loaded (codes "[string]") 53
unfolding digits
an_integer_is_its_text = refl

refused_in_its_line : call (text (codes "a")) absent absent ≡ not_loaded (codes "[string]:2: source refused")
unfolding digits
refused_in_its_line = refl

refused_by_a_rule : call (text []) (text (codes "@f.lua")) absent ≡ not_loaded (codes "f.lua:1: source refused by rule 13")
unfolding digits
refused_by_a_rule = refl

a_mode_without_sources : call (text (codes "ab")) absent (text (codes "b")) ≡ not_loaded (codes "attempt to load a text chunk (mode is 'b')")
unfolding digits
a_mode_without_sources = refl

no_binary_chunks : call (text (27 ∷ codes "Lua")) absent absent ≡ not_loaded (codes "binary chunks are not loaded")
unfolding digits
no_binary_chunks = refl

not_nil : call absent absent absent ≡ wrong (codes "bad argument #1 to 'load' (string expected, got nil)")
unfolding digits
not_nil = refl

not_a_table : call (is_object a_table) absent absent ≡ wrong (codes "bad argument #1 to 'load' (string expected, got table)")
unfolding digits
not_a_table = refl

not_a_boolean_as_name : call (text (codes "ab")) (is_known (boolean true)) absent ≡ wrong (codes "bad argument #2 to 'load' (string expected, got boolean)")
unfolding digits
not_a_boolean_as_name = refl

not_a_table_as_mode : call (text (codes "ab")) absent (is_object a_table) ≡ wrong (codes "bad argument #3 to 'load' (string expected, got table)")
unfolding digits
not_a_table_as_mode = refl
