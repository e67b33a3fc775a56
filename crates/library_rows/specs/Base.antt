-- The functions of the base library and of `table` that look at values and tables (Lua 5.4 manual, 6.1 and 6.6), without metamethods.
use Rattle.std.specs.Prelude.{ℕ, zero, suc, ◌-◌, ℤ, pos, negsuc, int_le, Bool, true, false, not, nat_lt, bytes_eq, List, [], ◌∷◌, ◌++◌, length, map, Result, Ok, codes}
use Rattle.std.specs.List.{list_all}
use Rattle.int_core.specs.Value.{Plain, nil, boolean, integer, string, a_table, Shape, is_known, is_object, holds, greatest_string}
use Rattle.int_core.specs.Operations.{type_name, integer_text, before}
use Rattle.library_rows.specs.Look.{Arg, read, written, look, compare, read_field, write_field, read_metatable, write_metatable, border_of, row_after, make_table, Look, gives, gives_all, refuses, raises, count, does}
use Rattle.library_rows.specs.Plainly.{Outcome, told_as, sees}
use Rattle.library_rows.specs.Arguments.{bad_argument, wrong_type, plain_of, is_absent, is_table, integer_argument, text_argument, with, with_look, one}
use Rattle.library_rows.specs.Formats.{onto, then_ok}
use Rattle.library_rows.specs.Searches.{if_fit, natural, writes, seeks, expansion}

-- the first argument has to be a table
abbrev pub on_table : List ℕ → Look → Look
on_table f k = does look (read 0 ∷ []) (λ s. elim (is_table s) [ true ↦ k | false ↦ refuses (wrong_type 1 f (codes "table") s) ])

abbrev pub gives_nil : Look
gives_nil = gives (written nil ∷ [])

-- its arguments, or an error whose value is the second one
abbrev pub asserts : Look
asserts = does look (read 0 ∷ []) (λ s. elim (holds s) [
  | true ↦ gives_all [] 0
  | false ↦ does look (read 1 ∷ []) (λ m. elim (is_absent m) [ true ↦ raises (written (string (codes "assertion failed!"))) | false ↦ raises (read 1) ])
])

abbrev pub collects_garbage : Look
collects_garbage = gives (written (integer (pos 0)) ∷ [])

abbrev pub types : Look
types = does look (read 0 ∷ []) (λ s. gives (written (string (type_name s)) ∷ []))

abbrev pub raw_equal : Look
raw_equal = does compare (read 0 ∷ read 1 ∷ []) (λ s. gives (written (plain_of s) ∷ []))

abbrev pub raw_get : Look
raw_get = on_table (codes "rawget") (does read_field (read 0 ∷ read 1 ∷ []) (λ _. gives (read 0 ∷ [])))

-- no row has the key nil
abbrev pub raw_set : Look
raw_set = on_table (codes "rawset") (does look (read 1 ∷ []) (λ key. elim (is_absent key) [
  | true ↦ refuses (codes "table index is nil")
  | false ↦ does write_field (read 0 ∷ read 1 ∷ read 2 ∷ []) (λ _. gives (read 0 ∷ []))
]))

abbrev pub size_of : Shape → Look
size_of (is_object a_table) = does border_of (read 0 ∷ []) (λ border. gives (written (plain_of border) ∷ []))
size_of (is_known (string s)) = gives (written (integer (pos (length s))) ∷ [])
size_of s = refuses (wrong_type 1 (codes "rawlen") (codes "table or string") s)

abbrev pub raw_length : Look
raw_length = does look (read 0 ∷ []) size_of

-- the field `__metatable` of the metatable where there is one, else the metatable or nil
abbrev pub gets_metatable : Look
gets_metatable = does read_metatable (read 0 ∷ []) (λ _. does read_field (read 0 ∷ written (string (codes "__metatable")) ∷ []) (λ _.
    does look (read 0 ∷ []) (λ s. elim (is_absent s) [ true ↦ gives (read 1 ∷ []) | false ↦ gives (read 0 ∷ []) ])))

abbrev pub is_table_or_nil : Shape → Bool
is_table_or_nil (is_known nil) = true
is_table_or_nil s = is_table s

-- behind the two reads the table is at 2, and its new metatable at 3
abbrev pub sets_metatable : Look
sets_metatable = on_table (codes "setmetatable") (does look (read 1 ∷ []) (λ m. elim (is_table_or_nil m) [
  | false ↦ refuses (wrong_type 2 (codes "setmetatable") (codes "nil or table") m)
  | true ↦ does read_metatable (read 0 ∷ []) (λ _. does read_field (read 0 ∷ written (string (codes "__metatable")) ∷ []) (λ _. does look (read 0 ∷ []) (λ s.
      elim (is_absent s) [
        | false ↦ refuses (codes "cannot change a protected metatable")
        | true ↦ does write_metatable (read 2 ∷ read 3 ∷ []) (λ _. gives (read 2 ∷ []))
      ])))
]))

-- by what `row_after` tells: there is a row, none is left, or the key has no row
abbrev pub next_row : Shape → Look
next_row (is_known (boolean true)) = gives (read 0 ∷ read 1 ∷ [])
next_row (is_known (boolean false)) = gives_nil
next_row s = refuses (codes "invalid key to 'next'")

abbrev pub next_of : Look
next_of = on_table (codes "next") (does row_after (read 0 ∷ read 1 ∷ []) next_row)

-- The arguments from the nth on, where `select` itself is at 0; a negative n counts from the end.

abbrev pub out_of_range : Look
out_of_range = refuses (bad_argument 1 (codes "select") (codes "index out of range"))

abbrev pub selected : ℤ → Look
selected (pos zero) = out_of_range
selected (pos (suc n)) = gives_all [] (suc n)
selected (negsuc n) = count 1 (λ many. elim (nat_lt n many) [ true ↦ gives_all [] (many - n) | false ↦ out_of_range ])

abbrev pub is_count : Shape → Bool
is_count (is_known (string s)) = bytes_eq s (codes "#")
is_count _ = false

abbrev pub selects : Look
selects = does look (read 0 ∷ []) (λ s. elim (is_count s) [
  | true ↦ count 1 (λ many. gives (written (integer (pos many)) ∷ []))
  | false ↦ with_look (integer_argument (codes "select") 1 s) selected
])

-- Tables as lists.

-- the values at so many places from 1 on, read one after another: the newest is the last; the table stands at a slot before
abbrev pub reads : (many i slot : ℕ) → Look → Look
reads zero i slot k = k
reads (suc many) i slot k = does read_field (read slot ∷ written (integer (pos i)) ∷ []) (λ _. reads many (suc i) (suc slot) k)

-- the same with their shapes
abbrev pub reads_shapes : (many i slot : ℕ) → (List Shape → Look) → Look
reads_shapes zero i slot k = k []
reads_shapes (suc many) i slot k = does read_field (read slot ∷ written (integer (pos i)) ∷ []) (λ _. does look (read 0 ∷ []) (λ s.
    reads_shapes many (suc i) (suc slot) (λ ss. k (s ∷ ss))))

-- the newest values at hand, the newest last
abbrev pub newest : ℕ → List Arg
newest zero = []
newest (suc n) = read n ∷ newest n

-- the argument k from 1 on stands at k behind the new table
abbrev pub packs_from : (i many : ℕ) → Look → Look
packs_from i zero k = k
packs_from i (suc many) k = does write_field (read 0 ∷ written (integer (pos i)) ∷ read i ∷ []) (λ _. packs_from (suc i) many k)

-- a new table of the arguments, and their number at `n`
abbrev pub packs : Look
packs = count 0 (λ many. does make_table [] (λ _. packs_from 1 many (writes ((string (codes "n"), integer (pos many)) ∷ []) (gives (read 0 ∷ [])))))

-- Sorting: all integers, or all strings by their bytes.

abbrev pub is_integer : Shape → Bool
is_integer (is_known (integer n)) = true
is_integer _ = false

abbrev pub is_string : Shape → Bool
is_string (is_known (string s)) = true
is_string _ = false

-- whether one may stand before the other
abbrev pub in_order : Plain → Plain → Bool
in_order (integer m) (integer n) = int_le m n
in_order (string s) (string t) = not (before t s)
in_order _ _ = true

abbrev pub put_in_order : Plain → List Plain → List Plain
put_in_order p [] = p ∷ []
put_in_order p (q ∷ qs) = elim (in_order p q) [ true ↦ p ∷ q ∷ qs | false ↦ q ∷ put_in_order p qs ]

-- the same values in ascending order
abbrev pub sorted : List Plain → List Plain
sorted [] = []
sorted (p ∷ ps) = put_in_order p (sorted ps)

abbrev pub can_be_sorted : List Shape → Bool
can_be_sorted ss = elim (list_all is_integer ss) [ true ↦ true | false ↦ list_all is_string ss ]

abbrev pub writes_sorted : (slot i : ℕ) → List Plain → Look
writes_sorted slot i [] = gives []
writes_sorted slot i (p ∷ ps) = does write_field (read slot ∷ written (integer (pos i)) ∷ written p ∷ []) (λ _. writes_sorted slot (suc i) ps)

abbrev pub sorts_shapes : List Shape → Look
sorts_shapes ss = elim (can_be_sorted ss) [
  | false ↦ refuses (bad_argument 1 (codes "sort") (codes "sort takes only integers or only strings"))
  | true ↦ if_fit (map plain_of ss) (writes_sorted (length ss) 1 (sorted (map plain_of ss)))
]

abbrev pub told_number : Shape → ℕ
told_number (is_known (integer n)) = natural n
told_number _ = 0

abbrev pub sorts : Look
sorts = on_table (codes "sort") (does look (read 1 ∷ []) (λ f. elim (is_absent f) [
  | false ↦ refuses (bad_argument 2 (codes "sort") (codes "comparator not supported"))
  | true ↦ does border_of (read 0 ∷ []) (λ border. reads_shapes (told_number border) 1 0 sorts_shapes)
]))

-- Private to the prelude.

-- the raw field of a value's metatable, or nil
abbrev pub meta_field : Look
meta_field = does read_metatable (read 0 ∷ []) (λ _. does read_field (read 0 ∷ read 2 ∷ []) (λ _. gives (read 0 ∷ [])))

-- the text of a value without `__tostring`; of an object it begins with a string `__name` where there is one, and never shows a number

abbrev pub kind_text : Shape → Shape → List ℕ
kind_text s (is_known (string name)) = name ++ codes ": object"
kind_text s name = type_name s ++ codes ": object"

abbrev pub plain_text : Plain → List ℕ
plain_text nil = codes "nil"
plain_text (boolean true) = codes "true"
plain_text (boolean false) = codes "false"
plain_text (integer n) = integer_text n
plain_text (string s) = s
plain_text _ = codes "function: object"

abbrev pub text_of_shape : Shape → Look
text_of_shape (is_known p) = told_as (one (string (plain_text p)))
text_of_shape (is_object kind) = does read_metatable (read 0 ∷ []) (λ _. does read_field (read 0 ∷ written (string (codes "__name")) ∷ []) (λ _.
    does look (read 0 ∷ []) (λ name. told_as (one (string (kind_text (is_object kind) name))))))

abbrev pub texts : Look
texts = does look (read 0 ∷ []) text_of_shape

-- the number of the items is the second argument
abbrev pub with_number : List ℕ → (ℕ → Look) → Look
with_number f k = on_table f (does look (read 1 ∷ []) (λ n. with_look (integer_argument f 2 n) (λ many. k (natural many))))

abbrev pub spreads : Look
spreads = with_number (codes "spread") (λ many. reads many 1 0 (gives (newest many)))

-- items joined in order; the first that is no text, or has no room, is the error
abbrev pub joined_text : List Shape → ℕ → Result (List ℕ) (List ℕ)
joined_text [] room = Ok []
joined_text (s ∷ ss) room = then_ok (text_argument (codes "join") 1 s) (λ text. onto room text (λ left. joined_text ss left))

abbrev pub joined : List Shape → Outcome
joined ss = with (joined_text ss greatest_string) (λ text. one (string text))

abbrev pub joins : Look
joins = with_number (codes "join") (λ many. reads_shapes many 1 0 (λ ss. told_as (joined ss)))

abbrev pub seek : Look
seek = sees 5 0 seeks

-- the replacement is the first argument, the table of captures the second one
abbrev pub expand : Look
expand = does look (read 0 ∷ []) (λ r. with_look (text_argument (codes "expand") 1 r) (λ text.
    does look (read 1 ∷ []) (λ c. elim (is_table c) [
      | true ↦ reads_shapes 10 0 1 (λ ss. told_as (expansion text ss))
      | false ↦ refuses (wrong_type 2 (codes "expand") (codes "table") c)
    ])))
