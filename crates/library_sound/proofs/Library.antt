-- All functions of the library, by their rows.
use Rattle.machine_core.specs.PrimitiveRows.{load_row}
use Rattle.std.proofs.Common.{ℕ, ◌≡◌, List, [], ◌∷◌, Option, Some, None, refl, ap, ◌∙◌, map, length, true, false}
use Rattle.std.specs.Prelude.{pos, codes}
use Rattle.int_core.specs.Heap.{Heap}
use Rattle.int_core.specs.Value.{nil, boolean, integer, string, primitive, a_table, a_function, a_coroutine, Value, known, object, Shape, is_known, is_object, shape, nth, same}
use Rattle.library_rows.specs.Look.{Look, Done, done, looked, border_in, border_told}
use Rattle.library_rows.specs.Plainly.{Outcome as Rows, error, done_as, plainly, PlainRowsAreFunctions}
use Rattle.library_rows.specs.Arguments.{wrong_type, plain_of, one}
use Rattle.library_rows.specs.Base
use Rattle.library_rows.specs.Codepoints
use Rattle.library_rows.specs.Formats
use Rattle.library_rows.specs.Integers
use Rattle.library_rows.specs.Searches
use Rattle.library_rows.specs.Strings
use Rattle.library_rows.specs.Library.{Primitive, all_entries, row_of, walk_number, walk_lax_number}
use Rattle.library_rows.specs.Library as library
use Rattle.machine_core.specs.MachineStep.{look_row}
use Rattle.machine_sound.specs.Safe.{LookOk}
use Rattle.machine_sound.specs.Laws.{LoadRowSafe, PrimitiveGood, LookRowsSafe, SafeIsGood, LibrarySafe}
use Rattle.machine_sound.proofs.Lists.{each_one, some_is}
use Rattle.machine_sound.proofs.Values.{le_of}
use Rattle.library_sound.specs.Laws.{LibraryThatLoadsIsSafe, LibraryIsSafe}
use Rattle.library_sound.proofs.Plain as plain
use Rattle.library_sound.proofs.Plain.{IsThere, AllThere}
use Rattle.library_sound.proofs.Looks as looks
use Rattle.library_sound.proofs.Steady.{steady_good}

abbrev count : ℕ
count = length all_entries

-- comparing and measuring give what the heap tells

abbrev equal_row : List Value → Heap → Rows
equal_row vs H = one (boolean (same (nth vs 0) (nth vs 1)))

equal_good : PrimitiveGood count (look_row Base.raw_equal)
equal_good = steady_good count Base.raw_equal equal_row (λ vs H. refl) (λ vs H. each_one (IsThere count) (boolean (same (nth vs 0) (nth vs 1))) tt)

abbrev border_row : Option ℕ → Rows
border_row None = one nil
border_row (Some n) = one (integer (pos n))

abbrev length_of : Heap → Value → Rows
length_of H (object a_table n) = border_row (border_in H (object a_table n))
length_of H (object a_function n) = error (wrong_type 1 (codes "rawlen") (codes "table or string") (is_object a_function))
length_of H (object a_coroutine n) = error (wrong_type 1 (codes "rawlen") (codes "table or string") (is_object a_coroutine))
length_of H (known (string s)) = one (integer (pos (length s)))
length_of H (known nil) = error (wrong_type 1 (codes "rawlen") (codes "table or string") (is_known nil))
length_of H (known (boolean b)) = error (wrong_type 1 (codes "rawlen") (codes "table or string") (is_known (boolean b)))
length_of H (known (integer n)) = error (wrong_type 1 (codes "rawlen") (codes "table or string") (is_known (integer n)))
length_of H (known (primitive n)) = error (wrong_type 1 (codes "rawlen") (codes "table or string") (is_known (primitive n)))

abbrev told : Heap → Option ℕ → Done
told H o = done H (known (plain_of (border_told o)) ∷ [])

border_is : (H : Heap) (o : Option ℕ) → told H o ≡ done_as H (border_row o)
border_is H None = refl
border_is H (Some n) = refl

length_is : (vs : List Value) (H : Heap) (v : Value) → nth vs 0 ≡ v → looked (Base.size_of (shape v)) vs H ≡ done_as H (length_of H v)
length_is vs H (object a_table n) e = ap (λ u. told H (border_in H u)) e ∙ border_is H (border_in H (object a_table n))
length_is vs H (known (primitive n)) e = refl
length_is vs H _ e = refl

border_there : (o : Option ℕ) → AllThere count (border_row o)
border_there None = each_one (IsThere count) nil tt
border_there (Some n) = each_one (IsThere count) (integer (pos n)) tt

length_there : (H : Heap) (v : Value) → AllThere count (length_of H v)
length_there H (object a_table n) = border_there (border_in H (object a_table n))
length_there H (known (string s)) = each_one (IsThere count) (integer (pos (length s))) tt
length_there H _ = tt

length_good : PrimitiveGood count (look_row Base.raw_length)
length_good = steady_good count Base.raw_length (λ vs H. length_of H (nth vs 0)) (λ vs H. length_is vs H (nth vs 0) refl) (λ vs H. length_there H (nth vs 0))

module _ (functions : PlainRowsAreFunctions) (safe : LookRowsSafe) (good : SafeIsGood) where
  plain_good : (f : List Shape → Rows) → ((ss : List Shape) → AllThere count (f ss)) → PrimitiveGood count (look_row (plainly f))
  plain_good f h = steady_good count (plainly f) (λ vs H. f (map shape vs)) (functions f) (λ vs H. h (map shape vs))

  look_good : (l : Look) → LookOk l → PrimitiveGood count (look_row l)
  look_good l k = good count (look_row l) (safe l k)

  is_good : (l m : Look) → PrimitiveGood count (look_row l) → Some l ≡ Some m → PrimitiveGood count (look_row m)
  is_good l m g e = Rattle.std.proofs.Common.subst (λ l. PrimitiveGood count (look_row l)) (some_is {o = Some l} refl e) g

  by_row : (p : Primitive) (m : Look) → row_of p ≡ Some m → PrimitiveGood count (look_row m)
  by_row library.base_assert m e = is_good Base.asserts m (look_good Base.asserts looks.asserts_ok) e
  by_row library.base_collectgarbage m e = is_good Base.collects_garbage m (look_good Base.collects_garbage looks.collects_ok) e
  by_row library.base_getmetatable m e = is_good Base.gets_metatable m (look_good Base.gets_metatable looks.gets_metatable_ok) e
  by_row library.base_next m e = is_good Base.next_of m (look_good Base.next_of looks.next_ok) e
  by_row library.base_rawequal m e = is_good Base.raw_equal m equal_good e
  by_row library.base_rawget m e = is_good Base.raw_get m (look_good Base.raw_get looks.raw_get_ok) e
  by_row library.base_rawlen m e = is_good Base.raw_length m length_good e
  by_row library.base_rawset m e = is_good Base.raw_set m (look_good Base.raw_set looks.raw_set_ok) e
  by_row library.base_select m e = is_good Base.selects m (look_good Base.selects looks.selects_ok) e
  by_row library.base_setmetatable m e = is_good Base.sets_metatable m (look_good Base.sets_metatable looks.sets_metatable_ok) e
  by_row library.base_tonumber m e = is_good (plainly Strings.tonumber_row) m (plain_good Strings.tonumber_row (plain.tonumber_there count)) e
  by_row library.base_type m e = is_good Base.types m (look_good Base.types looks.types_ok) e
  by_row library.string_byte m e = is_good (plainly Strings.byte_row) m (plain_good Strings.byte_row (plain.byte_there count)) e
  by_row library.string_char m e = is_good (plainly Strings.char_row) m (plain_good Strings.char_row (plain.char_there count)) e
  by_row library.string_find m e = is_good (plainly Searches.find_row) m (plain_good Searches.find_row (plain.find_there count)) e
  by_row library.string_len m e = is_good (plainly Strings.len_row) m (plain_good Strings.len_row (plain.len_there count)) e
  by_row library.string_lower m e = is_good (plainly Strings.lower_row) m (plain_good Strings.lower_row (plain.lower_there count)) e
  by_row library.string_match m e = is_good (plainly Searches.match_row) m (plain_good Searches.match_row (plain.match_there count)) e
  by_row library.string_rep m e = is_good (plainly Strings.rep_row) m (plain_good Strings.rep_row (plain.rep_there count)) e
  by_row library.string_reverse m e = is_good (plainly Strings.reverse_row) m (plain_good Strings.reverse_row (plain.reverse_there count)) e
  by_row library.string_sub m e = is_good (plainly Strings.sub_row) m (plain_good Strings.sub_row (plain.sub_there count)) e
  by_row library.string_upper m e = is_good (plainly Strings.upper_row) m (plain_good Strings.upper_row (plain.upper_there count)) e
  by_row library.table_pack m e = is_good Base.packs m (look_good Base.packs looks.packs_ok) e
  by_row library.table_sort m e = is_good Base.sorts m (look_good Base.sorts looks.sorts_ok) e
  by_row library.math_abs m e = is_good (plainly Integers.math_abs_row) m (plain_good Integers.math_abs_row (plain.abs_there count)) e
  by_row library.math_fmod m e = is_good (plainly Integers.math_fmod_row) m (plain_good Integers.math_fmod_row (plain.fmod_there count)) e
  by_row library.math_max m e = is_good (plainly Integers.math_max_row) m (plain_good Integers.math_max_row (plain.max_there count)) e
  by_row library.math_min m e = is_good (plainly Integers.math_min_row) m (plain_good Integers.math_min_row (plain.min_there count)) e
  by_row library.math_tointeger m e = is_good (plainly Integers.math_tointeger_row) m (plain_good Integers.math_tointeger_row (plain.tointeger_there count)) e
  by_row library.math_type m e = is_good (plainly Integers.math_type_row) m (plain_good Integers.math_type_row (plain.type_there count)) e
  by_row library.math_ult m e = is_good (plainly Integers.math_ult_row) m (plain_good Integers.math_ult_row (plain.ult_there count)) e
  by_row library.utf8_char m e = is_good (plainly Codepoints.utf8_char_row) m (plain_good Codepoints.utf8_char_row (plain.utf8_char_there count)) e
  by_row library.utf8_codepoint m e = is_good (plainly Codepoints.utf8_codepoint_row) m (plain_good Codepoints.utf8_codepoint_row (plain.codepoint_there count)) e
  by_row library.utf8_codes m e = is_good (plainly (Codepoints.utf8_codes_row walk_number walk_lax_number)) m
      (plain_good (Codepoints.utf8_codes_row walk_number walk_lax_number) (plain.utf8_codes_there count walk_number walk_lax_number (le_of _ count refl) (le_of _ count refl))) e
  by_row library.utf8_len m e = is_good (plainly Codepoints.utf8_len_row) m (plain_good Codepoints.utf8_len_row (plain.utf8_len_there count)) e
  by_row library.utf8_offset m e = is_good (plainly Codepoints.utf8_offset_row) m (plain_good Codepoints.utf8_offset_row (plain.offset_there count)) e
  by_row library.prelude_expand m e = is_good Base.expand m (look_good Base.expand looks.expand_ok) e
  by_row library.prelude_from m e = is_good (plainly Strings.from_row) m (plain_good Strings.from_row (plain.from_there count)) e
  by_row library.prelude_join m e = is_good Base.joins m (look_good Base.joins looks.joins_ok) e
  by_row library.prelude_kinds m e = is_good (plainly Formats.kinds_row) m (plain_good Formats.kinds_row (plain.kinds_there count)) e
  by_row library.prelude_layout m e = is_good (plainly Formats.layout_row) m (plain_good Formats.layout_row (plain.layout_there count)) e
  by_row library.prelude_meta m e = is_good Base.meta_field m (look_good Base.meta_field looks.meta_field_ok) e
  by_row library.prelude_seek m e = is_good Base.seek m (look_good Base.seek looks.seek_ok) e
  by_row library.prelude_spread m e = is_good Base.spreads m (look_good Base.spreads looks.spreads_ok) e
  by_row library.prelude_text m e = is_good Base.texts m (look_good Base.texts looks.texts_ok) e
  by_row library.prelude_toint m e = is_good (plainly Strings.toint_row) m (plain_good Strings.toint_row (plain.toint_there count)) e
  by_row library.prelude_walk m e = is_good (plainly (Codepoints.walks false)) m (plain_good (Codepoints.walks false) (plain.walks_there count false)) e
  by_row library.prelude_walk_lax m e = is_good (plainly (Codepoints.walks true)) m (plain_good (Codepoints.walks true) (plain.walks_there count true)) e
  by_row p m e = absurd (cc)

pub library_is_safe : PlainRowsAreFunctions → LookRowsSafe → SafeIsGood → LibrarySafe → LibraryIsSafe
library_is_safe functions safe good all build b = all build b (by_row functions safe good)

pub that_loads : SafeIsGood → LoadRowSafe → LibraryIsSafe → LibraryThatLoadsIsSafe
that_loads good load all builds ok = all (load_row builds) (good (length all_entries) (load_row builds) (load builds ok))
