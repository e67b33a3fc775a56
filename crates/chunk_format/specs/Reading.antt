-- Reading a chunk from its first byte on (lundump.c of Lua 5.4): what stands in front of some bytes and what is left behind it,
-- or the kind of the first fault in the order of the bytes.
use Rattle.std.specs.Prelude.{ℕ, zero, suc, ◌+◌, ◌-◌, ◌*◌, ◌%◌, ◌^◌, ◌==◌, ◌≡◌, ℤ, Bool, true, false, ◌||◌, if◌then◌else◌, List, [], ◌∷◌, Option, Some, None, Result, Ok, Err, length, take, drop, nat_lt, nat_le}
use Rattle.std.specs.Int.{w8, w64, cast_signed}
use Rattle.byteorder.specs.Endian.{little_number}
use Rattle.code_core.specs.Prototype.{Parts, Prototype, none, prototypes, stripped}
use Rattle.int_core.specs.Value.{greatest_string}
use Rattle.code_core.specs.Writable.{greatest_depth}
use Rattle.code_core.specs.declared.instruction.Instruction.{Instruction}
use Rattle.code_core.specs.declared.proto.Const.{Const}
use Rattle.code_core.specs.declared.proto.Const.TheVariants.{Nil, False, True, Int, Str}
use Rattle.code_core.specs.declared.proto.UpDesc.{UpDesc}
use Rattle.code_core.specs.declared.proto.AbsLine.{AbsLine}
use Rattle.code_core.specs.declared.proto.LocVar.{LocVar}
use Rattle.chunk_format.specs.Header.{signature, version, format, sizes}
use Rattle.chunk_format.specs.declared.fault.ChunkFault.{ChunkFault}
use Rattle.chunk_format.specs.declared.fault.ChunkFault.TheVariants.{Refused, Memory}

pub data Got (A : Type 0) : Type 0 where
  read : A → (rest : List ℕ) → Got A
  refused : (kind : ℕ) → Got A

abbrev pub and_then : {A B : Type 0} → Got A → (A → List ℕ → Got B) → Got B
and_then (read x rest) more = more x rest
and_then (refused kind) more = refused kind

-- three things, one behind another, of which `make` makes one
abbrev pub read_three : {A B C D : Type 0} → (List ℕ → Got A) → (List ℕ → Got B) → (List ℕ → Got C) → (A → B → C → D) → List ℕ → Got D
read_three first second third make bytes =
    and_then (first bytes) (λ a behind_first.
    and_then (second behind_first) (λ b behind_second.
    and_then (third behind_second) (λ c rest. read (make a b c) rest)))

-- what a function that reads says of the bytes in front of which it stood: nothing where memory was wanting
abbrev pub Says : {A : Type 0} → Got A → Result A ChunkFault → List ℕ → Type 0
Says got (Ok x) rest = got ≡ read x rest
Says got (Err (Refused kind)) rest = got ≡ refused kind
Says got (Err Memory) rest = Unit {0}

-- the same of a value that contracts see by `view`
abbrev pub SaysOf : {A B : Type 0} → (B → A) → Got A → Result B ChunkFault → List ℕ → Type 0
SaysOf view got (Ok x) rest = got ≡ read (view x) rest
SaysOf view got (Err (Refused kind)) rest = got ≡ refused kind
SaysOf view got (Err Memory) rest = Unit {0}

-- the smallest things

abbrev pub read_byte : List ℕ → Got ℕ
read_byte [] = refused 6
read_byte (byte ∷ rest) = read byte rest

-- a number from the groups of seven bits that are left, where the groups before them have the value `so_far`
abbrev pub read_groups : ℕ → List ℕ → Got ℕ
read_groups so_far [] = refused 6
read_groups so_far (byte ∷ rest) =
    (if nat_lt (so_far * 128 + byte % 128) (2 ^ 31)
    then (if nat_lt byte 128 then read_groups (so_far * 128 + byte % 128) rest else read (so_far * 128 + byte % 128) rest)
    else refused 7)

abbrev pub read_number : List ℕ → Got ℕ
read_number bytes = read_groups 0 bytes

abbrev pub read_flag : List ℕ → Got Bool
read_flag [] = refused 6
read_flag (byte ∷ rest) = (if byte == 0 then read false rest else if byte == 1 then read true rest else refused 8)

abbrev pub read_kind : List ℕ → Got ℕ
read_kind [] = refused 6
read_kind (byte ∷ rest) = (if nat_le byte 3 then read byte rest else refused 8)

abbrev pub read_word : List ℕ → Got ℕ
read_word bytes = (if nat_lt (length bytes) 4 then refused 6 else read (little_number 4 bytes) (drop 4 bytes))

abbrev pub read_integer : List ℕ → Got ℤ
read_integer bytes = (if nat_lt (length bytes) 8 then refused 6 else read (cast_signed w64 (little_number 8 bytes)) (drop 8 bytes))

-- a string behind its length plus one, or none
abbrev pub read_text : ℕ → List ℕ → Got (Option (List ℕ))
read_text number bytes =
    (if number == 0 then read None bytes
    else if nat_lt (greatest_string + 1) number then refused 7
    else if nat_lt (length bytes) (number - 1) then refused 6
    else read (Some (take (number - 1) bytes)) (drop (number - 1) bytes))

abbrev pub read_name : List ℕ → Got (Option (List ℕ))
read_name bytes = and_then (read_number bytes) read_text

-- the entries of a function's lists

abbrev pub read_instruction : List ℕ → Got Instruction
read_instruction bytes = and_then (read_word bytes) (λ word rest. read (record { 0 = word }) rest)

abbrev pub string_of : Option (List ℕ) → List ℕ → Got Const
string_of None rest = refused 8
string_of (Some text) rest = read (Str text) rest

abbrev pub read_tagged : ℕ → List ℕ → Got Const
read_tagged tag bytes =
    (if tag == 0 then read Nil bytes
    else if tag == 1 then read False bytes
    else if tag == 17 then read True bytes
    else if tag == 3 then and_then (read_integer bytes) (λ n rest. read (Int n) rest)
    else if tag == 19 then refused 5
    else if tag == 4 || tag == 20 then and_then (read_name bytes) string_of
    else refused 8)

abbrev pub read_constant : List ℕ → Got Const
read_constant bytes = and_then (read_byte bytes) read_tagged

abbrev pub read_upvalue : List ℕ → Got UpDesc
read_upvalue = read_three read_flag read_byte read_kind (λ in_stack index kind. record { in_stack = in_stack; index = index; kind = kind })

abbrev pub read_change : List ℕ → Got ℤ
read_change bytes = and_then (read_byte bytes) (λ byte rest. read (cast_signed w8 byte) rest)

abbrev pub read_abs_line : List ℕ → Got AbsLine
read_abs_line bytes =
    and_then (read_number bytes) (λ pc behind_pc.
    and_then (read_number behind_pc) (λ line rest.
    read (record { pc = pc; line = line }) rest))

abbrev pub read_local : List ℕ → Got LocVar
read_local = read_three read_name read_number read_number (λ name start end. record { name = name; start = start; end = end })

-- lists: their length, then their entries

abbrev pub read_times : {A : Type 0} → (List ℕ → Got A) → ℕ → List ℕ → Got (List A)
read_times item zero bytes = read [] bytes
read_times item (suc n) bytes =
    and_then (item bytes) (λ x behind. and_then (read_times item n behind) (λ xs rest. read (x ∷ xs) rest))

abbrev pub read_list : {A : Type 0} → (List ℕ → Got A) → List ℕ → Got (List A)
read_list item bytes = and_then (read_number bytes) (read_times item)

-- functions

-- the parts in front of a function's lists, which are empty so far
abbrev pub no_lists : (source : Option (List ℕ)) (line_defined last_line params : ℕ) (vararg : Bool) (stack : ℕ) → Parts
no_lists source line_defined last_line params vararg stack = record (stripped params vararg stack [] [] [] none).own {
  source = source;
  line_defined = line_defined;
  last_line = last_line;
}

pub record Lists : Type 0 where
  pub code : List Instruction
  pub constants : List Const
  pub upvalues : List UpDesc

-- what is there for error messages alone
pub record Details : Type 0 where
  pub line_info : List ℤ
  pub abs_lines : List AbsLine
  pub locals : List LocVar
  pub up_names : List (Option (List ℕ))

-- a function with no source of its own has its parent's
abbrev pub or_parents : Option (List ℕ) → Option (List ℕ) → Option (List ℕ)
or_parents parent None = parent
or_parents parent (Some source) = Some source

abbrev pub read_source : Option (List ℕ) → List ℕ → Got (Option (List ℕ))
read_source parent bytes = and_then (read_name bytes) (λ name rest. read (or_parents parent name) rest)

abbrev pub read_head : Option (List ℕ) → List ℕ → Got Parts
read_head parent bytes =
    and_then (read_source parent bytes) (λ source behind_source.
    and_then (read_number behind_source) (λ line_defined behind_first.
    and_then (read_number behind_first) (λ last_line behind_last.
    and_then (read_byte behind_last) (λ params behind_params.
    and_then (read_flag behind_params) (λ vararg behind_vararg.
    and_then (read_byte behind_vararg) (λ stack rest.
    read (no_lists source line_defined last_line params vararg stack) rest))))))

abbrev pub read_lists : List ℕ → Got Lists
read_lists =
    read_three (read_list read_instruction) (read_list read_constant) (read_list read_upvalue)
    (λ code constants upvalues. record { code = code; constants = constants; upvalues = upvalues })

abbrev pub read_details : List ℕ → Got Details
read_details bytes =
    and_then (read_list read_change bytes) (λ line_info behind_info.
    and_then (read_list read_abs_line behind_info) (λ abs_lines behind_lines.
    and_then (read_list read_local behind_lines) (λ locals behind_locals.
    and_then (read_list read_name behind_locals) (λ up_names rest.
    read (record { line_info = line_info; abs_lines = abs_lines; locals = locals; up_names = up_names }) rest))))

abbrev pub parts_of : Parts → Lists → Details → Parts
parts_of head lists details = record head {
  code = lists.code;
  constants = lists.constants;
  upvalues = lists.upvalues;
  line_info = details.line_info;
  abs_lines = details.abs_lines;
  locals = details.locals;
  up_names = details.up_names;
}

-- some functions in a row, each by `function`; `left` is how many functions may still come, here and beyond
abbrev pub read_functions : (ℕ → List ℕ → Got (Prototype × ℕ)) → ℕ → ℕ → List ℕ → Got (List Prototype × ℕ)
read_functions function zero left bytes = read ([], left) bytes
read_functions function (suc n) left bytes =
    and_then (function left bytes) (λ first behind.
    and_then (read_functions function n first.1 behind) (λ others rest.
    read (first.0 ∷ others.0, others.1) rest))

-- a function of which the inner ones are read by `inner`
abbrev pub read_body : (Option (List ℕ) → ℕ → List ℕ → Got (Prototype × ℕ)) → Option (List ℕ) → ℕ → List ℕ → Got (Prototype × ℕ)
read_body inner parent left bytes =
    and_then (read_head parent bytes) (λ head behind_head.
    and_then (read_lists behind_head) (λ lists behind_lists.
    and_then (read_number behind_lists) (λ n behind_count.
    and_then (read_functions (inner head.source) n left behind_count) (λ functions behind_functions.
    and_then (read_details behind_functions) (λ details rest.
    read (record { own = parts_of head lists details; inner = prototypes functions.0 }, functions.1) rest)))))

-- a function that may have `levels` levels, itself included, and with which at most `left` functions may come
unfoldable pub read_function : ℕ → Option (List ℕ) → ℕ → List ℕ → Got (Prototype × ℕ)
read_function zero parent left bytes = refused 7
read_function (suc levels) parent zero bytes = refused 7
read_function (suc levels) parent (suc left) bytes = read_body (read_function levels) parent left bytes

abbrev pub whole_of : Got (Prototype × ℕ) → Got Prototype
whole_of (read found rest) = read found.0 rest
whole_of (refused kind) = refused kind

-- a function that stands in no other
abbrev pub read_whole : List ℕ → Got Prototype
read_whole bytes = whole_of (read_function greatest_depth None (2 ^ 31 - 1) bytes)

-- chunks

abbrev pub read_exactly : List ℕ → ℕ → List ℕ → Got (Unit {0})
read_exactly [] kind bytes = read tt bytes
read_exactly (byte ∷ text) kind [] = refused 6
read_exactly (byte ∷ text) kind (found ∷ bytes) = (if found == byte then read_exactly text kind bytes else refused kind)

-- the header, of which the last byte is any
abbrev pub read_header : List ℕ → Got ℕ
read_header bytes =
    and_then (read_exactly signature 1 bytes) (λ _ behind_signature.
    and_then (read_exactly version 2 behind_signature) (λ _ behind_version.
    and_then (read_exactly format 3 behind_version) (λ _ behind_format.
    and_then (read_exactly sizes 4 behind_format) (λ _ behind_sizes.
    read_byte behind_sizes))))

abbrev pub read_chunk : List ℕ → Got Prototype
read_chunk bytes = and_then (read_header bytes) (λ upvalues behind. read_whole behind)

abbrev pub kind_of : {A : Type 0} → Got A → Option ℕ
kind_of (read x rest) = None
kind_of (refused kind) = Some kind

-- the kind of the first fault in bytes that begin with no chunk, or with no function
abbrev pub chunk_kind : List ℕ → Option ℕ
chunk_kind bytes = kind_of (read_chunk bytes)

abbrev pub function_kind : List ℕ → Option ℕ
function_kind bytes = kind_of (read_whole bytes)
