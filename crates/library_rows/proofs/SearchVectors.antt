-- Vectors of `find` and `match`. What is expected is what the Lua 5.4 manual says, or what `lua5.4` gives.
use Rattle.std.proofs.Common.{◌≡◌, [], ◌∷◌, refl}
use Rattle.std.specs.Prelude.{true}
use Rattle.lua_pattern.specs.Classes.{kind_has}
use Rattle.lua_pattern.specs.Reading.{items_from, item_at}
use Rattle.int_core.specs.Heap.{raw_set}
use Rattle.library_rows.specs.Look.{done}
use Rattle.library_rows.specs.Library.{prelude_seek, string_find, string_match}
use Rattle.library_rows.proofs.Cases.{str, int, minus, nil_value, truth, table, tables, first, call, values, fails}

find_text : call string_find (str "hello world" ∷ str "o w" ∷ []) ≡ values (int 5 ∷ int 7 ∷ [])
unfolding items_from item_at kind_has
find_text = refl

find_repeated : call string_find (str "hello world" ∷ str "l+" ∷ []) ≡ values (int 3 ∷ int 4 ∷ [])
unfolding items_from item_at kind_has
find_repeated = refl

find_nothing_at_once : call string_find (str "hello" ∷ str "" ∷ []) ≡ values (int 1 ∷ int 0 ∷ [])
unfolding items_from item_at kind_has
find_nothing_at_once = refl

find_nothing_past_the_end : call string_find (str "hello" ∷ str "" ∷ int 6 ∷ []) ≡ values (int 6 ∷ int 5 ∷ [])
unfolding items_from item_at kind_has
find_nothing_past_the_end = refl

find_beyond : call string_find (str "hello" ∷ str "" ∷ int 7 ∷ []) ≡ values (nil_value ∷ [])
unfolding items_from item_at kind_has
find_beyond = refl

find_plain : call string_find (str "a.b" ∷ str "." ∷ int 2 ∷ truth true ∷ []) ≡ values (int 2 ∷ int 2 ∷ [])
unfolding items_from item_at kind_has
find_plain = refl

find_anchored : call string_find (str "hello" ∷ str "^l" ∷ []) ≡ values (nil_value ∷ [])
unfolding items_from item_at kind_has
find_anchored = refl

find_captures : call string_find (str "key = val" ∷ str "(%w+)%s*=%s*(%w+)" ∷ []) ≡ values (int 1 ∷ int 9 ∷ str "key" ∷ str "val" ∷ [])
unfolding items_from item_at kind_has
find_captures = refl

find_from_the_end : call string_find (str "abc" ∷ str "b" ∷ minus 1 ∷ []) ≡ values (nil_value ∷ [])
unfolding items_from item_at kind_has
find_from_the_end = refl

find_positions : call string_find (str "abc" ∷ str "()b()" ∷ []) ≡ values (int 2 ∷ int 2 ∷ int 2 ∷ int 3 ∷ [])
unfolding items_from item_at kind_has
find_positions = refl

match_two : call string_match (str "2024-05" ∷ str "(%d+)-(%d+)" ∷ []) ≡ values (str "2024" ∷ str "05" ∷ [])
unfolding items_from item_at kind_has
match_two = refl

match_shortest : call string_match (str "hello" ∷ str ".-o" ∷ []) ≡ values (str "hello" ∷ [])
unfolding items_from item_at kind_has
match_shortest = refl

match_none : call string_match (str "hello" ∷ str "x" ∷ []) ≡ values (nil_value ∷ [])
unfolding items_from item_at kind_has
match_none = refl

match_trimmed : call string_match (str "  x" ∷ str "^%s*(.-)$" ∷ []) ≡ values (str "x" ∷ [])
unfolding items_from item_at kind_has
match_trimmed = refl

match_balanced : call string_match (str "f(a(b)c)d" ∷ str "%b()" ∷ []) ≡ values (str "(a(b)c)" ∷ [])
unfolding items_from item_at kind_has
match_balanced = refl

missing_bracket : call string_find (str "a" ∷ str "[a" ∷ []) ≡ fails "malformed pattern (missing ']')"
unfolding items_from item_at kind_has
missing_bracket = refl

ends_with_percent : call string_find (str "a" ∷ str "%" ∷ []) ≡ fails "malformed pattern (ends with '%')"
unfolding items_from item_at kind_has
ends_with_percent = refl

unfinished : call string_find (str "a" ∷ str "(a" ∷ []) ≡ fails "unfinished capture"
unfolding items_from item_at kind_has
unfinished = refl

-- `gmatch` over `abc` by `b*` gives an empty match, `b`, and the empty match at the end: none at the place where `b` ended
empty_match_is_not_given_twice : call prelude_seek (str "abc" ∷ str "b*" ∷ int 3 ∷ int 3 ∷ truth true ∷ [])
    ≡ done (tables (table ((int 0, str "") ∷ (int 1, str "") ∷ (str "n", int 1) ∷ []) ∷ [])) (int 4 ∷ int 4 ∷ first ∷ [])
unfolding items_from item_at kind_has raw_set
empty_match_is_not_given_twice = refl

second_match : call prelude_seek (str "abc" ∷ str "b*" ∷ int 1 ∷ int 1 ∷ truth true ∷ [])
    ≡ done (tables (table ((int 0, str "b") ∷ (int 1, str "b") ∷ (str "n", int 1) ∷ []) ∷ [])) (int 2 ∷ int 3 ∷ first ∷ [])
unfolding items_from item_at kind_has raw_set
second_match = refl
