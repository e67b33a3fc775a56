-- The functions of the libraries that look at values and tables alone write at no nil.
use Rattle.std.proofs.Common.{ℕ, zero, suc, ◌-◌, List, [], ◌∷◌, ◌++◌, refl, ◌≡◌, map, length, Option, Some, None, Bool, true, false, Result, Ok, Err}
use Rattle.std.specs.Prelude.{ℤ, pos, negsuc, cond, nat_lt, codes}
use Rattle.std.specs.List.{list_all}
use Rattle.int_core.specs.Value.{Plain, nil, boolean, integer, string, primitive, a_table, Value, known, Shape, is_known, is_object, shape, holds, nth}
use Rattle.library_rows.specs.Look.{read, written, look, write_field, Look, gives, gives_all, refuses, raises, count, does, looked}
use Rattle.library_rows.specs.Plainly.{Outcome, results, error, too_large, fits_length, told_as, sees, plainly}
use Rattle.library_rows.specs.Arguments.{argument, bad_argument, wrong_type, plain_of, is_absent, is_table, integer_argument, text_argument, with_look, one}
use Rattle.library_rows.specs.Base
use Rattle.library_rows.specs.Searches
use Rattle.library_rows.specs.Strings
use Rattle.library_rows.specs.Integers
use Rattle.library_rows.specs.Formats
use Rattle.library_rows.specs.Codepoints
use Rattle.library_rows.specs.Library.{Primitive, row_of, walk_number, walk_lax_number}
use Rattle.library_rows.specs.Library as library
use Rattle.tables_stay.specs.Laws.{TablesWhenDone, LookKeeps}
use Rattle.tables_stay.proofs.Heaps.{NotNil}
use Rattle.tables_stay.proofs.Looks.{write_kept, PlainKey, Writes, writes_keep}

-- rows of parts

pick : (b : Bool) (x y : Look) → Writes x → Writes y → Writes (elim b as (λ _. Look) [ true ↦ x | false ↦ y ])
pick true x y p q = p
pick false x y p q = q

told_writes : (o : Outcome) → Writes (told_as o)
told_writes (error text) = tt
told_writes (results ps) = by (list_all fits_length ps)
  where
    by : (b : Bool) → Writes (cond b (gives (map written ps)) (refuses too_large))
    by true = tt
    by false = tt

sees_writes : (many at : ℕ) (k : List Shape → Look) → ((ss : List Shape) → Writes (k ss)) → Writes (sees many at k)
sees_writes zero at k h = h []
sees_writes (suc many) at k h = λ s. sees_writes many (suc at) (λ ss. k (s ∷ ss)) (λ ss. h (s ∷ ss))

plainly_writes : (f : List Shape → Outcome) → Writes (plainly f)
plainly_writes f = λ many. sees_writes many 0 (λ ss. told_as (f ss)) (λ ss. told_writes (f ss))

with_writes : {A : Type 0} (r : Result A (List ℕ)) (k : A → Look) → ((x : A) → Writes (k x)) → Writes (with_look r k)
with_writes (Ok x) k h = h x
with_writes (Err text) k h = tt

table_writes : (f : List ℕ) (k : Look) → Writes k → Writes (Base.on_table f k)
table_writes f k h = λ s. pick (is_table s) k (refuses (wrong_type 1 f (codes "table") s)) h tt

number_writes : (f : List ℕ) (k : ℕ → Look) → ((n : ℕ) → Writes (k n)) → Writes (Base.with_number f k)
number_writes f k h = table_writes f _ (λ s. with_writes (integer_argument f 2 s) (λ many. k (Searches.natural many)) (λ m. h (Searches.natural m)))

reads_writes : (many i slot : ℕ) (k : Look) → Writes k → Writes (Base.reads many i slot k)
reads_writes zero i slot k h = h
reads_writes (suc many) i slot k h = λ _. reads_writes many (suc i) (suc slot) k h

shapes_writes : (many i slot : ℕ) (k : List Shape → Look) → ((ss : List Shape) → Writes (k ss)) → Writes (Base.reads_shapes many i slot k)
shapes_writes zero i slot k h = h []
shapes_writes (suc many) i slot k h = λ _. λ s. shapes_writes many (suc i) (suc slot) (λ ss. k (s ∷ ss)) (λ ss. h (s ∷ ss))

abbrev KeysIn : List (Plain × Plain) → Type 0
KeysIn [] = Unit {0}
KeysIn (row ∷ rows) = PlainKey row.0 × KeysIn rows

rows_write : (rows : List (Plain × Plain)) (k : Look) → KeysIn rows → Writes k → Writes (Searches.writes rows k)
rows_write [] k r h = h
rows_write (row ∷ rows) k r h = (r.0, λ _. rows_write rows k r.1 h)

-- the base library and tables

asserts_write : Writes Base.asserts
asserts_write = λ s. pick (holds s) (gives_all [] 0) _ tt (λ m. pick (is_absent m) (raises (written (string (codes "assertion failed!")))) (raises (read 1)) tt tt)

gets_metatable_writes : Writes Base.gets_metatable
gets_metatable_writes = λ _. λ _. λ s. pick (is_absent s) (gives (read 1 ∷ [])) (gives (read 0 ∷ [])) tt tt

sets_metatable_writes : Writes Base.sets_metatable
sets_metatable_writes = table_writes (codes "setmetatable") _
    (λ m. pick (Base.is_table_or_nil m) _ (refuses (wrong_type 2 (codes "setmetatable") (codes "nil or table") m))
    (λ _. λ _. λ s. pick (is_absent s) _ (refuses (codes "cannot change a protected metatable")) (λ _. tt) tt) tt)

next_writes : Writes Base.next_of
next_writes = table_writes (codes "next") _ by
  where
    by : (s : Shape) → Writes (Base.next_row s)
    by (is_known (boolean false)) = tt
    by _ = tt

length_writes : Writes Base.raw_length
length_writes = by
  where
    by : (s : Shape) → Writes (Base.size_of s)
    by (is_object a_table) = λ border. tt
    by (is_known (primitive n)) = tt
    by _ = tt

selects_write : Writes Base.selects
selects_write = λ s. pick (Base.is_count s) (count 1 (λ many. gives (written (integer (pos many)) ∷ []))) (with_look (integer_argument (codes "select") 1 s) Base.selected) (λ many. tt)
    (with_writes (integer_argument (codes "select") 1 s) Base.selected by)
  where
    by : (z : ℤ) → Writes (Base.selected z)
    by (pos zero) = tt
    by (pos (suc n)) = tt
    by (negsuc n) = λ many. pick (nat_lt n many) (gives_all [] (many - n)) Base.out_of_range tt tt

packs_from_writes : (i many : ℕ) (k : Look) → Writes k → Writes (Base.packs_from i many k)
packs_from_writes i zero k h = h
packs_from_writes i (suc many) k h = (tt, λ _. packs_from_writes (suc i) many k h)

packs_write : Writes Base.packs
packs_write = λ many. λ _. packs_from_writes 1 many _ (rows_write ((string (codes "n"), integer (pos many)) ∷ []) (gives (read 0 ∷ [])) (tt, tt) tt)

sorted_write : (slot i : ℕ) (ps : List Plain) → Writes (Base.writes_sorted slot i ps)
sorted_write slot i [] = tt
sorted_write slot i (p ∷ ps) = (tt, λ _. sorted_write slot (suc i) ps)

if_fit_writes : (ps : List Plain) (k : Look) → Writes k → Writes (Searches.if_fit ps k)
if_fit_writes ps k h = pick (list_all fits_length ps) k (refuses too_large) h tt

sorts_shapes_write : (ss : List Shape) → Writes (Base.sorts_shapes ss)
sorts_shapes_write ss = by (Base.can_be_sorted ss)
  where
    by : (b : Bool) → Writes (elim b as (λ _. Look) [
      | false ↦ refuses (bad_argument 1 (codes "sort") (codes "sort takes only integers or only strings"))
      | true ↦ Searches.if_fit (map plain_of ss) (Base.writes_sorted (length ss) 1 (Base.sorted (map plain_of ss)))
    ])
    by false = tt
    by true = if_fit_writes (map plain_of ss) _ (sorted_write (length ss) 1 (Base.sorted (map plain_of ss)))

sorts_write : Writes Base.sorts
sorts_write = table_writes (codes "sort") _
    (λ f. pick (is_absent f) _ (refuses (bad_argument 2 (codes "sort") (codes "comparator not supported")))
    (λ border. shapes_writes (Base.told_number border) 1 0 Base.sorts_shapes sorts_shapes_write) tt)

-- the prelude's own

texts_write : Writes Base.texts
texts_write = by
  where
    by : (s : Shape) → Writes (Base.text_of_shape s)
    by (is_known p) = told_writes (one (string (Base.plain_text p)))
    by (is_object kind) = λ _. λ _. λ name. told_writes (one (string (Base.kind_text (is_object kind) name)))

spreads_write : Writes Base.spreads
spreads_write = number_writes (codes "spread") _ (λ many. reads_writes many 1 0 (gives (Base.newest many)) tt)

joins_write : Writes Base.joins
joins_write = number_writes (codes "join") _ (λ many. shapes_writes many 1 0 (λ ss. told_as (Base.joined ss)) (λ ss. told_writes (Base.joined ss)))

numbered_keys : (i : ℕ) (ps : List Plain) (more : List (Plain × Plain)) → KeysIn more → KeysIn (Searches.numbered i ps ++ more)
numbered_keys i [] more k = k
numbered_keys i (p ∷ ps) more k = (tt, numbered_keys (suc i) ps more k)

hit_writes : (s : List ℕ) (r : Result (Option Searches.Hit) (List ℕ)) → Writes (Searches.gives_hit s r)
hit_writes s (Err text) = tt
hit_writes s (Ok None) = tt
hit_writes s (Ok (Some hit)) =
    let ps = Searches.captured_or_whole s hit in
    if_fit_writes (Searches.whole s hit ∷ ps) _ (λ _.
    rows_write (Searches.match_rows (Searches.whole s hit) ps) _ (tt, numbered_keys 1 ps ((string (codes "n"), integer (pos (length ps))) ∷ []) (tt, tt)) tt)

seek_writes : Writes Base.seek
seek_writes = sees_writes 5 0 Searches.seeks (λ ss.
    with_writes (text_argument (codes "seek") 1 (argument ss 1)) _ (λ s. with_writes (text_argument (codes "seek") 2 (argument ss 2)) _ (λ p.
    with_writes (integer_argument (codes "seek") 3 (argument ss 3)) _ (λ at. with_writes (integer_argument (codes "seek") 4 (argument ss 4)) _ (λ last.
    hit_writes s (Searches.next_hit s p (Searches.natural at - 1) (Searches.natural last) (holds (argument ss 5))))))))

expand_writes : Writes Base.expand
expand_writes = λ r. with_writes (text_argument (codes "expand") 1 r) _ (λ text.
    λ c. pick (is_table c) (Base.reads_shapes 10 0 1 (λ ss. told_as (Searches.expansion text ss))) (refuses (wrong_type 2 (codes "expand") (codes "table") c))
    (shapes_writes 10 0 1 (λ ss. told_as (Searches.expansion text ss)) (λ ss. told_writes (Searches.expansion text ss))) tt)

-- `rawset` writes at a key that it was given, once it has seen that this is no nil

not_absent : (v : Value) → is_absent (shape v) ≡ false → NotNil v
not_absent (known nil) e = absurd (cc)
not_absent _ e = refl

raw_set_keeps : LookKeeps Base.raw_set
raw_set_keeps env H h = by (is_table (shape (nth env 0)))
  where
    keyed : (b : Bool) → is_absent (shape (nth env 1)) ≡ b → TablesWhenDone (looked (elim b as (λ _. Look) [
      | true ↦ refuses (codes "table index is nil")
      | false ↦ does write_field (read 0 ∷ read 1 ∷ read 2 ∷ []) (λ _. gives (read 0 ∷ []))
    ]) env H)
    keyed true e = tt
    keyed false e = write_kept H h (nth env 0) (nth env 1) (nth env 2) (not_absent (nth env 1) e)

    by : (b : Bool) → TablesWhenDone (looked (elim b as (λ _. Look) [
      | true ↦ does look (read 1 ∷ []) (λ key. elim (is_absent key) as (λ _. Look) [
        | true ↦ refuses (codes "table index is nil")
        | false ↦ does write_field (read 0 ∷ read 1 ∷ read 2 ∷ []) (λ _. gives (read 0 ∷ []))
      ])
      | false ↦ refuses (wrong_type 1 (codes "rawset") (codes "table") (shape (nth env 0)))
    ]) env H)
    by true = keyed (is_absent (shape (nth env 1))) refl
    by false = tt

plain_keeps : (f : List Shape → Outcome) → LookKeeps (plainly f)
plain_keeps f = writes_keep (plainly f) (plainly_writes f)

-- all of them

abbrev pub RowOfKeeps : Option Look → Type 0
RowOfKeeps None = Unit {0}
RowOfKeeps (Some l) = LookKeeps l

pub row_of_keeps : (p : Primitive) → RowOfKeeps (row_of p)
row_of_keeps library.base_assert = writes_keep Base.asserts asserts_write
row_of_keeps library.base_collectgarbage = writes_keep Base.collects_garbage tt
row_of_keeps library.base_getmetatable = writes_keep Base.gets_metatable gets_metatable_writes
row_of_keeps library.base_next = writes_keep Base.next_of next_writes
row_of_keeps library.base_rawequal = writes_keep Base.raw_equal (λ s. tt)
row_of_keeps library.base_rawget = writes_keep Base.raw_get (table_writes (codes "rawget") _ (λ _. tt))
row_of_keeps library.base_rawlen = writes_keep Base.raw_length length_writes
row_of_keeps library.base_rawset = raw_set_keeps
row_of_keeps library.base_select = writes_keep Base.selects selects_write
row_of_keeps library.base_setmetatable = writes_keep Base.sets_metatable sets_metatable_writes
row_of_keeps library.base_type = writes_keep Base.types (λ s. tt)
row_of_keeps library.table_pack = writes_keep Base.packs packs_write
row_of_keeps library.table_sort = writes_keep Base.sorts sorts_write
row_of_keeps library.prelude_expand = writes_keep Base.expand expand_writes
row_of_keeps library.prelude_join = writes_keep Base.joins joins_write
row_of_keeps library.prelude_meta = writes_keep Base.meta_field (λ _. λ _. tt)
row_of_keeps library.prelude_seek = writes_keep Base.seek seek_writes
row_of_keeps library.prelude_spread = writes_keep Base.spreads spreads_write
row_of_keeps library.prelude_text = writes_keep Base.texts texts_write
row_of_keeps library.base_tonumber = plain_keeps Strings.tonumber_row
row_of_keeps library.string_byte = plain_keeps Strings.byte_row
row_of_keeps library.string_char = plain_keeps Strings.char_row
row_of_keeps library.string_find = plain_keeps Searches.find_row
row_of_keeps library.string_len = plain_keeps Strings.len_row
row_of_keeps library.string_lower = plain_keeps Strings.lower_row
row_of_keeps library.string_match = plain_keeps Searches.match_row
row_of_keeps library.string_rep = plain_keeps Strings.rep_row
row_of_keeps library.string_reverse = plain_keeps Strings.reverse_row
row_of_keeps library.string_sub = plain_keeps Strings.sub_row
row_of_keeps library.string_upper = plain_keeps Strings.upper_row
row_of_keeps library.math_abs = plain_keeps Integers.math_abs_row
row_of_keeps library.math_fmod = plain_keeps Integers.math_fmod_row
row_of_keeps library.math_max = plain_keeps Integers.math_max_row
row_of_keeps library.math_min = plain_keeps Integers.math_min_row
row_of_keeps library.math_tointeger = plain_keeps Integers.math_tointeger_row
row_of_keeps library.math_type = plain_keeps Integers.math_type_row
row_of_keeps library.math_ult = plain_keeps Integers.math_ult_row
row_of_keeps library.utf8_char = plain_keeps Codepoints.utf8_char_row
row_of_keeps library.utf8_codepoint = plain_keeps Codepoints.utf8_codepoint_row
row_of_keeps library.utf8_codes = plain_keeps (Codepoints.utf8_codes_row walk_number walk_lax_number)
row_of_keeps library.utf8_len = plain_keeps Codepoints.utf8_len_row
row_of_keeps library.utf8_offset = plain_keeps Codepoints.utf8_offset_row
row_of_keeps library.prelude_from = plain_keeps Strings.from_row
row_of_keeps library.prelude_kinds = plain_keeps Formats.kinds_row
row_of_keeps library.prelude_layout = plain_keeps Formats.layout_row
row_of_keeps library.prelude_toint = plain_keeps Strings.toint_row
row_of_keeps library.prelude_walk = plain_keeps (Codepoints.walks false)
row_of_keeps library.prelude_walk_lax = plain_keeps (Codepoints.walks true)
row_of_keeps p = tt
