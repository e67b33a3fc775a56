-- All functions of the libraries that are no Lua text: their names, their numbers, and what each does (Lua 5.4 manual, 6).
use Rattle.std.specs.Prelude.{ℕ, true, false, List, [], ◌∷◌, ◌++◌, Option, Some, None, slice_get, pos, negsuc, codes}
use Rattle.int_core.specs.Value.{Plain, integer, string}
use Rattle.library_rows.specs.Look.{Look}
use Rattle.library_rows.specs.Plainly.{plainly}
use Rattle.library_rows.specs.Strings.{byte_row, char_row, len_row, lower_row, rep_row, reverse_row, sub_row, upper_row, tonumber_row, toint_row, from_row}
use Rattle.library_rows.specs.Integers.{math_abs_row, math_fmod_row, math_max_row, math_min_row, math_tointeger_row, math_type_row, math_ult_row}
use Rattle.library_rows.specs.Formats.{layout_row, kinds_row}
use Rattle.library_rows.specs.Codepoints.{utf8_char_row, utf8_codepoint_row, utf8_codes_row, utf8_len_row, utf8_offset_row, walks}
use Rattle.library_rows.specs.Searches.{find_row, match_row}
use Rattle.library_rows.specs.Base.{asserts, collects_garbage, gets_metatable, next_of, raw_equal, raw_get, raw_length, raw_set, selects, sets_metatable, types, packs, sorts, expand, joins, meta_field, seek, spreads, texts}

-- by the library that has it, and its name there; those of the prelude are for its text alone
pub data Primitive : Type 0 where
  base_assert : Primitive
  base_collectgarbage : Primitive
  base_error : Primitive
  base_getmetatable : Primitive
  base_next : Primitive
  base_pcall : Primitive
  base_rawequal : Primitive
  base_rawget : Primitive
  base_rawlen : Primitive
  base_rawset : Primitive
  base_select : Primitive
  base_setmetatable : Primitive
  base_tonumber : Primitive
  base_type : Primitive
  base_xpcall : Primitive
  coroutine_close : Primitive
  coroutine_create : Primitive
  coroutine_isyieldable : Primitive
  coroutine_resume : Primitive
  coroutine_running : Primitive
  coroutine_status : Primitive
  coroutine_yield : Primitive
  string_byte : Primitive
  string_char : Primitive
  string_find : Primitive
  string_len : Primitive
  string_lower : Primitive
  string_match : Primitive
  string_rep : Primitive
  string_reverse : Primitive
  string_sub : Primitive
  string_upper : Primitive
  table_pack : Primitive
  table_sort : Primitive
  math_abs : Primitive
  math_fmod : Primitive
  math_max : Primitive
  math_min : Primitive
  math_tointeger : Primitive
  math_type : Primitive
  math_ult : Primitive
  utf8_char : Primitive
  utf8_codepoint : Primitive
  utf8_codes : Primitive
  utf8_len : Primitive
  utf8_offset : Primitive
  prelude_build : Primitive
  prelude_expand : Primitive
  prelude_from : Primitive
  prelude_join : Primitive
  prelude_kinds : Primitive
  prelude_layout : Primitive
  prelude_meta : Primitive
  prelude_out : Primitive
  prelude_seek : Primitive
  prelude_spread : Primitive
  prelude_text : Primitive
  prelude_toint : Primitive
  prelude_walk : Primitive
  prelude_walk_lax : Primitive

-- the table in which a function stands
pub data Library : Type 0 where
  of_globals : Library
  of_coroutine : Library
  of_string : Library
  of_table : Library
  of_math : Library
  of_utf8 : Library
  -- the prelude's environment alone
  of_prelude : Library

abbrev pub library_name : Library → List ℕ
library_name of_globals = []
library_name of_coroutine = codes "coroutine."
library_name of_string = codes "string."
library_name of_table = codes "table."
library_name of_math = codes "math."
library_name of_utf8 = codes "utf8."
library_name of_prelude = codes "prelude."

pub record Entry (A : Type 0) : Type 0 where
  pub library : Library
  pub name : List ℕ
  pub entry : A

-- the name under which a function is saved
abbrev pub key_of : {A : Type 0} → Entry A → List ℕ
key_of e = library_name e.library ++ e.name

abbrev pub entry : {A : Type 0} → Library → List ℕ → A → Entry A
entry library name x = record { library = library; name = name; entry = x }

abbrev pub base_entries : List (Entry Primitive)
base_entries =
    entry of_globals (codes "assert") base_assert
    ∷ entry of_globals (codes "collectgarbage") base_collectgarbage
    ∷ entry of_globals (codes "error") base_error
    ∷ entry of_globals (codes "getmetatable") base_getmetatable
    ∷ entry of_globals (codes "next") base_next
    ∷ entry of_globals (codes "pcall") base_pcall
    ∷ entry of_globals (codes "rawequal") base_rawequal
    ∷ entry of_globals (codes "rawget") base_rawget
    ∷ entry of_globals (codes "rawlen") base_rawlen
    ∷ entry of_globals (codes "rawset") base_rawset
    ∷ entry of_globals (codes "select") base_select
    ∷ entry of_globals (codes "setmetatable") base_setmetatable
    ∷ entry of_globals (codes "tonumber") base_tonumber
    ∷ entry of_globals (codes "type") base_type
    ∷ entry of_globals (codes "xpcall") base_xpcall ∷ []

abbrev pub coroutine_entries : List (Entry Primitive)
coroutine_entries =
    entry of_coroutine (codes "close") coroutine_close
    ∷ entry of_coroutine (codes "create") coroutine_create
    ∷ entry of_coroutine (codes "isyieldable") coroutine_isyieldable
    ∷ entry of_coroutine (codes "resume") coroutine_resume
    ∷ entry of_coroutine (codes "running") coroutine_running
    ∷ entry of_coroutine (codes "status") coroutine_status
    ∷ entry of_coroutine (codes "yield") coroutine_yield ∷ []

abbrev pub string_entries : List (Entry Primitive)
string_entries =
    entry of_string (codes "byte") string_byte
    ∷ entry of_string (codes "char") string_char
    ∷ entry of_string (codes "find") string_find
    ∷ entry of_string (codes "len") string_len
    ∷ entry of_string (codes "lower") string_lower
    ∷ entry of_string (codes "match") string_match
    ∷ entry of_string (codes "rep") string_rep
    ∷ entry of_string (codes "reverse") string_reverse
    ∷ entry of_string (codes "sub") string_sub
    ∷ entry of_string (codes "upper") string_upper ∷ []

abbrev pub table_entries : List (Entry Primitive)
table_entries =
    entry of_table (codes "pack") table_pack
    ∷ entry of_table (codes "sort") table_sort ∷ []

abbrev pub math_entries : List (Entry Primitive)
math_entries =
    entry of_math (codes "abs") math_abs
    ∷ entry of_math (codes "fmod") math_fmod
    ∷ entry of_math (codes "max") math_max
    ∷ entry of_math (codes "min") math_min
    ∷ entry of_math (codes "tointeger") math_tointeger
    ∷ entry of_math (codes "type") math_type
    ∷ entry of_math (codes "ult") math_ult ∷ []

abbrev pub utf8_entries : List (Entry Primitive)
utf8_entries =
    entry of_utf8 (codes "char") utf8_char
    ∷ entry of_utf8 (codes "codepoint") utf8_codepoint
    ∷ entry of_utf8 (codes "codes") utf8_codes
    ∷ entry of_utf8 (codes "len") utf8_len
    ∷ entry of_utf8 (codes "offset") utf8_offset ∷ []

abbrev pub prelude_entries : List (Entry Primitive)
prelude_entries =
    entry of_prelude (codes "build") prelude_build
    ∷ entry of_prelude (codes "expand") prelude_expand
    ∷ entry of_prelude (codes "from") prelude_from
    ∷ entry of_prelude (codes "join") prelude_join
    ∷ entry of_prelude (codes "kinds") prelude_kinds
    ∷ entry of_prelude (codes "layout") prelude_layout
    ∷ entry of_prelude (codes "meta") prelude_meta
    ∷ entry of_prelude (codes "out") prelude_out
    ∷ entry of_prelude (codes "seek") prelude_seek
    ∷ entry of_prelude (codes "spread") prelude_spread
    ∷ entry of_prelude (codes "text") prelude_text
    ∷ entry of_prelude (codes "toint") prelude_toint
    ∷ entry of_prelude (codes "walk") prelude_walk
    ∷ entry of_prelude (codes "walk_lax") prelude_walk_lax ∷ []

-- a primitive's number is its place here
abbrev pub all_entries : List (Entry Primitive)
all_entries = base_entries ++ coroutine_entries ++ string_entries ++ table_entries ++ math_entries ++ utf8_entries ++ prelude_entries

abbrev pub primitive_at : ℕ → Option Primitive
primitive_at n = elim (slice_get all_entries n) [ None ↦ None | Some e ↦ Some e.entry ]

-- the numbers of the two functions that `utf8.codes` gives
abbrev pub walk_number : ℕ
walk_number = 58

abbrev pub walk_lax_number : ℕ
walk_lax_number = 59

-- What a primitive does that looks at values and tables alone. None stands for those that move frames or coroutines, print, or build a text.
abbrev pub row_of : Primitive → Option Look
row_of base_assert = Some asserts
row_of base_collectgarbage = Some collects_garbage
row_of base_getmetatable = Some gets_metatable
row_of base_next = Some next_of
row_of base_rawequal = Some raw_equal
row_of base_rawget = Some raw_get
row_of base_rawlen = Some raw_length
row_of base_rawset = Some raw_set
row_of base_select = Some selects
row_of base_setmetatable = Some sets_metatable
row_of base_tonumber = Some (plainly tonumber_row)
row_of base_type = Some types
row_of string_byte = Some (plainly byte_row)
row_of string_char = Some (plainly char_row)
row_of string_find = Some (plainly find_row)
row_of string_len = Some (plainly len_row)
row_of string_lower = Some (plainly lower_row)
row_of string_match = Some (plainly match_row)
row_of string_rep = Some (plainly rep_row)
row_of string_reverse = Some (plainly reverse_row)
row_of string_sub = Some (plainly sub_row)
row_of string_upper = Some (plainly upper_row)
row_of table_pack = Some packs
row_of table_sort = Some sorts
row_of math_abs = Some (plainly math_abs_row)
row_of math_fmod = Some (plainly math_fmod_row)
row_of math_max = Some (plainly math_max_row)
row_of math_min = Some (plainly math_min_row)
row_of math_tointeger = Some (plainly math_tointeger_row)
row_of math_type = Some (plainly math_type_row)
row_of math_ult = Some (plainly math_ult_row)
row_of utf8_char = Some (plainly utf8_char_row)
row_of utf8_codepoint = Some (plainly utf8_codepoint_row)
row_of utf8_codes = Some (plainly (utf8_codes_row walk_number walk_lax_number))
row_of utf8_len = Some (plainly utf8_len_row)
row_of utf8_offset = Some (plainly utf8_offset_row)
row_of prelude_expand = Some expand
row_of prelude_from = Some (plainly from_row)
row_of prelude_join = Some joins
row_of prelude_kinds = Some (plainly kinds_row)
row_of prelude_layout = Some (plainly layout_row)
row_of prelude_meta = Some meta_field
row_of prelude_seek = Some seek
row_of prelude_spread = Some spreads
row_of prelude_text = Some texts
row_of prelude_toint = Some (plainly toint_row)
row_of prelude_walk = Some (plainly (walks false))
row_of prelude_walk_lax = Some (plainly (walks true))
row_of _ = None

-- the values of the library tables that are no functions
abbrev pub constants : List (Entry Plain)
constants =
    entry of_globals (codes "_VERSION") (string (codes "Lua 5.4"))
    ∷ entry of_math (codes "maxinteger") (integer (pos 9223372036854775807))
    ∷ entry of_math (codes "mininteger") (integer (negsuc 9223372036854775807))
    ∷ entry of_utf8 (codes "charpattern") (string (91 ∷ 0 ∷ 45 ∷ 127 ∷ 194 ∷ 45 ∷ 253 ∷ 93 ∷ 91 ∷ 128 ∷ 45 ∷ 191 ∷ 93 ∷ 42 ∷ [])) ∷ []
