-- The row of each function of this crate.
use Rattle.library_rows.specs.Base.{asserts, collects_garbage, gets_metatable, expand, joins, meta_field, next_of, packs, raw_equal, raw_get, raw_length, raw_set, seek, selects, sets_metatable, sorts, spreads, texts, types}
use Rattle.library_rows.specs.Look.{Look}
use Rattle.library_rows.specs.Plainly.{plainly}
use Rattle.pure_functions.specs.Functions.{math_row, text_row}
use Rattle.lib_base.specs.declared.calls.Function.{Function}
use Rattle.lib_base.specs.declared.calls.Function.TheVariants.{Assert, CollectGarbage, GetMetatable, Next, RawEqual, RawGet, RawLength, RawSet, Select, SetMetatable, TypeOf, Pack, Sort, Math, Join, MetaField, Spread, Text, Expand, Seek, OverTexts}

abbrev pub function_row : Function → Look
function_row Assert = asserts
function_row CollectGarbage = collects_garbage
function_row GetMetatable = gets_metatable
function_row Next = next_of
function_row RawEqual = raw_equal
function_row RawGet = raw_get
function_row RawLength = raw_length
function_row RawSet = raw_set
function_row Select = selects
function_row SetMetatable = sets_metatable
function_row TypeOf = types
function_row Pack = packs
function_row Sort = sorts
function_row (Math function) = plainly (math_row function)
function_row Join = joins
function_row MetaField = meta_field
function_row Spread = spreads
function_row Text = texts
function_row Expand = expand
function_row Seek = seek
function_row (OverTexts function) = plainly (text_row function)
