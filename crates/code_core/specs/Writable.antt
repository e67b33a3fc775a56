-- The functions that a chunk can hold: no number of them is over 2^31 - 1, and no string over 16,777,216 bytes. Numbers that a chunk
-- keeps in a fixed width fit it, as the types of a prototype's fields make sure.
use Rattle.std.specs.Prelude.{ℕ, ℤ, pos, negsuc, ◌+◌, ◌^◌, suc, Bool, true, ◌&&◌, ◌||◌, max, List, Option, Some, None, length, nat_lt, nat_le, is_some, is_none, IsTrue}
use Rattle.std.specs.List.{list_all}
use Rattle.int_core.specs.Limits.{string_fits}
use Rattle.code_core.specs.declared.instruction.Instruction.{Instruction}
use Rattle.code_core.specs.declared.proto.Const.{Const}
use Rattle.code_core.specs.declared.proto.Const.TheVariants.{Int, Str}
use Rattle.code_core.specs.declared.proto.UpDesc.{UpDesc}
use Rattle.code_core.specs.declared.proto.AbsLine.{AbsLine}
use Rattle.code_core.specs.declared.proto.LocVar.{LocVar}
use Rattle.code_core.specs.Prototype.{Parts, Prototype, Prototypes, none, more, count}

abbrev pub greatest_depth : ℕ
greatest_depth = 500

abbrev pub number_fits : ℕ → Bool
number_fits n = nat_lt n (2 ^ 31)

abbrev pub list_fits : {A : Type 0} → List A → Bool
list_fits xs = number_fits (length xs)

abbrev pub name_fits : Option (List ℕ) → Bool
name_fits None = true
name_fits (Some bytes) = string_fits bytes

-- an integer of h + 1 bits, its sign included
abbrev pub signed_fits : ℕ → ℤ → Bool
signed_fits h (pos n) = nat_lt n (2 ^ h)
signed_fits h (negsuc n) = nat_lt n (2 ^ h)

abbrev pub byte_fits : ℕ → Bool
byte_fits n = nat_lt n (2 ^ 8)

abbrev pub word_fits : Instruction → Bool
word_fits word = nat_lt word.0 (2 ^ 32)

abbrev pub change_fits : ℤ → Bool
change_fits change = signed_fits 7 change

abbrev pub constant_fits : Const → Bool
constant_fits (Str bytes) = string_fits bytes
constant_fits (Int n) = signed_fits 63 n
constant_fits _ = true

abbrev pub upvalue_fits : UpDesc → Bool
upvalue_fits u = byte_fits u.index && nat_le u.kind 3

abbrev pub line_fits : AbsLine → Bool
line_fits l = number_fits l.pc && number_fits l.line

abbrev pub local_fits : LocVar → Bool
local_fits v = name_fits v.name && (number_fits v.start && number_fits v.end)

abbrev pub lists_fit : Parts → Bool
lists_fit p =
    list_fits p.code && (list_fits p.constants && (nat_le (length p.upvalues) 255 && (list_fits p.line_info && (list_fits p.abs_lines
    && (list_fits p.locals && list_fits p.up_names)))))

abbrev pub entries_fit : Parts → Bool
entries_fit p =
    list_all word_fits p.code && (list_all constant_fits p.constants && (list_all upvalue_fits p.upvalues
    && (list_all change_fits p.line_info && (list_all line_fits p.abs_lines && (list_all local_fits p.locals && list_all name_fits p.up_names)))))

abbrev pub parts_fit : Parts → Bool
parts_fit p =
    name_fits p.source && (number_fits p.line_defined && (number_fits p.last_line && (byte_fits p.params && (byte_fits p.stack
    && (lists_fit p && entries_fit p)))))

-- a function whose parent has a source has one too
abbrev pub keeps_source : Parts → Parts → Bool
keeps_source parent own = is_none parent.source || is_some own.source

abbrev pub all_fit : Parts → Prototypes → Bool
all_fit parent none = true
all_fit parent (more own inner rest) = keeps_source parent own && (parts_fit own && (all_fit own inner && all_fit parent rest))

-- how deep these functions are nested
abbrev pub depth : Prototypes → ℕ
depth none = 0
depth (more own inner rest) = max (suc (depth inner)) (depth rest)

abbrev pub is_writable : Prototype → Bool
is_writable p = parts_fit p.own && (all_fit p.own p.inner && (nat_lt (depth p.inner) greatest_depth && number_fits (1 + count p.inner)))

abbrev pub Writable : Prototype → Type 0
Writable p = IsTrue (is_writable p)
