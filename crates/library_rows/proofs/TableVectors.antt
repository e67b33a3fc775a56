-- Vectors of the functions on values and tables. What is expected is what the Lua 5.4 manual says, or what `lua5.4` gives.
use Rattle.std.proofs.Common.{◌≡◌, [], ◌∷◌, Some, refl}
use Rattle.std.specs.Prelude.{false}
use Rattle.std.specs.Fmt.{digits}
use Rattle.int_core.specs.Heap.{Heap, raw_set}
use Rattle.library_rows.specs.Look.{done, raised}
use Rattle.library_rows.specs.Library.{base_assert, base_next, base_rawlen, base_rawset, base_select, base_setmetatable, table_pack, table_sort, prelude_expand, prelude_join, prelude_spread, prelude_text, prelude_walk, prelude_walk_lax, primitive_at, walk_number, walk_lax_number}
use Rattle.library_rows.proofs.Cases.{no_tables, str, int, minus, nil_value, truth, table, tables, first, runs, call, values, fails}

select_from_the_end : call base_select (minus 2 ∷ int 7 ∷ int 8 ∷ int 9 ∷ []) ≡ values (int 8 ∷ int 9 ∷ [])
select_from_the_end = refl

select_second : call base_select (int 2 ∷ int 7 ∷ int 8 ∷ int 9 ∷ []) ≡ values (int 8 ∷ int 9 ∷ [])
select_second = refl

select_counts : call base_select (str "#" ∷ nil_value ∷ nil_value ∷ []) ≡ values (int 2 ∷ [])
select_counts = refl

select_zero : call base_select (int 0 ∷ []) ≡ fails "bad argument #1 to 'select' (index out of range)"
unfolding digits
select_zero = refl

select_before_the_first : call base_select (minus 5 ∷ int 1 ∷ []) ≡ fails "bad argument #1 to 'select' (index out of range)"
unfolding digits
select_before_the_first = refl

assert_gives_all : call base_assert (int 1 ∷ nil_value ∷ int 3 ∷ []) ≡ values (int 1 ∷ nil_value ∷ int 3 ∷ [])
assert_gives_all = refl

assert_raises : call base_assert (truth false ∷ int 7 ∷ []) ≡ raised no_tables (int 7)
assert_raises = refl

assert_without_message : call base_assert (nil_value ∷ []) ≡ raised no_tables (str "assertion failed!")
assert_without_message = refl

-- {1 = nil, 2 = 5}, whose first row is cleared
cleared : Heap
cleared = tables (table ((int 1, nil_value) ∷ (int 2, int 5) ∷ []) ∷ [])

next_passes_a_cleared_row : runs base_next (first ∷ []) cleared ≡ done cleared (int 2 ∷ int 5 ∷ [])
unfolding cleared
next_passes_a_cleared_row = refl

next_goes_on_from_a_cleared_row : runs base_next (first ∷ int 1 ∷ []) cleared ≡ done cleared (int 2 ∷ int 5 ∷ [])
unfolding cleared
next_goes_on_from_a_cleared_row = refl

next_at_the_last_row : runs base_next (first ∷ int 2 ∷ []) cleared ≡ done cleared (nil_value ∷ [])
unfolding cleared
next_at_the_last_row = refl

next_of_an_unknown_key : runs base_next (first ∷ int 3 ∷ []) cleared ≡ fails "invalid key to 'next'"
unfolding cleared
next_of_an_unknown_key = refl

raw_length_of_a_string : call base_rawlen (str "abc" ∷ []) ≡ values (int 3 ∷ [])
raw_length_of_a_string = refl

raw_length_of_a_number : call base_rawlen (int 5 ∷ []) ≡ fails "bad argument #1 to 'rawlen' (table or string expected, got number)"
unfolding digits
raw_length_of_a_number = refl

raw_set_of_nil : runs base_rawset (first ∷ nil_value ∷ int 1 ∷ []) cleared ≡ fails "table index is nil"
unfolding cleared
raw_set_of_nil = refl

no_metatable : runs base_setmetatable (first ∷ int 1 ∷ []) cleared ≡ fails "bad argument #2 to 'setmetatable' (nil or table expected, got number)"
unfolding cleared digits
no_metatable = refl

-- a sort of equal values keeps all of them
sort_of_equal_values :
    runs table_sort (first ∷ []) (tables (table ((int 1, int 3) ∷ (int 2, int 1) ∷ (int 3, int 2) ∷ (int 4, int 1) ∷ []) ∷ []))
    ≡ done (tables (table ((int 1, int 1) ∷ (int 2, int 1) ∷ (int 3, int 2) ∷ (int 4, int 3) ∷ []) ∷ [])) []
unfolding raw_set
sort_of_equal_values = refl

sort_of_strings :
    runs table_sort (first ∷ []) (tables (table ((int 1, str "b") ∷ (int 2, str "a") ∷ (int 3, str "B") ∷ (int 4, str "ab") ∷ []) ∷ []))
    ≡ done (tables (table ((int 1, str "B") ∷ (int 2, str "a") ∷ (int 3, str "ab") ∷ (int 4, str "b") ∷ []) ∷ [])) []
unfolding raw_set
sort_of_strings = refl

pack_keeps_the_number : call table_pack (int 7 ∷ nil_value ∷ int 9 ∷ [])
    ≡ done (tables (table ((int 1, int 7) ∷ (int 3, int 9) ∷ (str "n", int 3) ∷ []) ∷ [])) (first ∷ [])
unfolding raw_set
pack_keeps_the_number = refl

three : Heap
three = tables (table ((int 1, str "a") ∷ (int 2, int 7) ∷ (int 3, str "c") ∷ []) ∷ [])

join_has_the_last : runs prelude_join (first ∷ int 3 ∷ []) three ≡ done three (str "a7c" ∷ [])
unfolding three digits
join_has_the_last = refl

spread_in_order : runs prelude_spread (first ∷ int 3 ∷ []) three ≡ done three (str "a" ∷ int 7 ∷ str "c" ∷ [])
unfolding three
spread_in_order = refl

-- the captures of one match: the whole is `oo`, the first capture `o`
captures : Heap
captures = tables (table ((int 0, str "oo") ∷ (int 1, str "o") ∷ (str "n", int 1) ∷ []) ∷ [])

replacement : runs prelude_expand (str "[%1%0%%]" ∷ first ∷ []) captures ≡ done captures (str "[ooo%]" ∷ [])
unfolding captures
replacement = refl

replacement_without_capture : runs prelude_expand (str "%2" ∷ first ∷ []) captures ≡ fails "invalid capture index in replacement string"
unfolding captures
replacement_without_capture = refl

text_of_a_table : runs prelude_text (first ∷ []) cleared ≡ done cleared (str "table: object" ∷ [])
unfolding cleared
text_of_a_table = refl

walks_are_numbered : primitive_at walk_number ≡ Some prelude_walk
walks_are_numbered = refl

lax_walks_are_numbered : primitive_at walk_lax_number ≡ Some prelude_walk_lax
lax_walks_are_numbered = refl
