-- The bytes that the writer gives a function (ldump.c of Lua 5.4): the shortest numbers, one tag for each sort of constant,
-- and no source where it is the parent's.
use Rattle.std.specs.Prelude.{ℕ, ◌+◌, ◌/◌, ◌%◌, ◌^◌, ◌==◌, ℤ, Bool, false, cond, if◌then◌else◌, List, [], ◌∷◌, ◌++◌, Option, Some, None, length, nat_le, nat_eq}
use Rattle.std.specs.List.{flat_map}
use Rattle.std.specs.Cmp.Lexicographic.{pointwise}
use Rattle.std.specs.Int.{w8, w64, cast_unsigned}
use Rattle.byteorder.specs.Endian.{little_bytes}
use Rattle.code_core.specs.Prototype.{Parts, Prototype, Prototypes, none, more, list_of}
use Rattle.chunk_format.specs.Header.{signature, version, format, sizes}
use Rattle.code_core.specs.declared.instruction.Instruction.{Instruction}
use Rattle.code_core.specs.declared.proto.Const.{Const}
use Rattle.code_core.specs.declared.proto.Const.TheVariants.{Nil, False, True, Int, Str}
use Rattle.code_core.specs.declared.proto.UpDesc.{UpDesc}
use Rattle.code_core.specs.declared.proto.AbsLine.{AbsLine}
use Rattle.code_core.specs.declared.proto.LocVar.{LocVar}

-- the group of seven bits from the bit `low` up, unless it and all above it are zero
abbrev pub group : ℕ → ℕ → List ℕ
group low n = (if n / 2 ^ low == 0 then [] else n / 2 ^ low % 128 ∷ [])

abbrev pub number : ℕ → List ℕ
number n = group 28 n ++ (group 21 n ++ (group 14 n ++ (group 7 n ++ (n % 128 + 128) ∷ [])))

abbrev pub flag : Bool → ℕ
flag b = cond b 1 0

abbrev pub name : Option (List ℕ) → List ℕ
name None = number 0
name (Some text) = number (length text + 1) ++ text

abbrev pub instruction : Instruction → List ℕ
instruction word = little_bytes 4 word.0

abbrev pub constant : Const → List ℕ
constant Nil = 0 ∷ []
constant False = 1 ∷ []
constant True = 17 ∷ []
constant (Int n) = 3 ∷ little_bytes 8 (cast_unsigned w64 n)
constant (Str text) = (if nat_le (length text) 40 then 4 else 20) ∷ name (Some text)

abbrev pub upvalue : UpDesc → List ℕ
upvalue u = flag u.in_stack ∷ u.index ∷ u.kind ∷ []

abbrev pub change : ℤ → List ℕ
change c = cast_unsigned w8 c ∷ []

abbrev pub abs_line : AbsLine → List ℕ
abs_line l = number l.pc ++ number l.line

abbrev pub local_variable : LocVar → List ℕ
local_variable v = name v.name ++ (number v.start ++ number v.end)

abbrev pub spelled_list : {A : Type 0} → (A → List ℕ) → List A → List ℕ
spelled_list item xs = number (length xs) ++ flat_map item xs

-- two names that are there and the same
abbrev pub is_same_name : Option (List ℕ) → Option (List ℕ) → Bool
is_same_name None b = false
is_same_name (Some a) None = false
is_same_name (Some a) (Some b) = pointwise nat_eq a b

abbrev pub source : Option (List ℕ) → Option (List ℕ) → List ℕ
source parent own = (if is_same_name own parent then number 0 else name own)

abbrev pub head : Option (List ℕ) → Parts → List ℕ
head parent p =
    source parent p.source ++ (number p.line_defined ++ (number p.last_line ++ p.params ∷ flag p.vararg ∷ p.stack ∷ []))

abbrev pub lists : Parts → List ℕ
lists p = spelled_list instruction p.code ++ (spelled_list constant p.constants ++ spelled_list upvalue p.upvalues)

abbrev pub details : Parts → List ℕ
details p =
    spelled_list change p.line_info ++ (spelled_list abs_line p.abs_lines ++ (spelled_list local_variable p.locals ++ spelled_list name p.up_names))

-- a function round the functions within it, which `inner` spells with their number
abbrev pub around : Option (List ℕ) → Parts → List ℕ → List ℕ
around parent own inner = head parent own ++ (lists own ++ (inner ++ details own))

abbrev pub functions : Option (List ℕ) → Prototypes → List ℕ
functions parent none = []
functions parent (more own inner rest) =
    around parent own (number (length (list_of inner)) ++ functions own.source inner) ++ functions parent rest

abbrev pub inner : Prototype → List ℕ
inner p = number (length (list_of p.inner)) ++ functions p.own.source p.inner

abbrev pub function : Option (List ℕ) → Prototype → List ℕ
function parent p = around parent p.own (inner p)

-- what of a function is written: all, or what is left without its source, lines and names

abbrev pub kept_parts : Bool → Parts → Parts
kept_parts strip p = record p {
  source = (if strip then None else p.source);
  line_info = (if strip then [] else p.line_info);
  abs_lines = (if strip then [] else p.abs_lines);
  locals = (if strip then [] else p.locals);
  up_names = (if strip then [] else p.up_names);
}

abbrev pub all_kept : Bool → Prototypes → Prototypes
all_kept strip none = none
all_kept strip (more own inner rest) = more (kept_parts strip own) (all_kept strip inner) (all_kept strip rest)

abbrev pub kept : Bool → Prototype → Prototype
kept strip p = record { own = kept_parts strip p.own; inner = all_kept strip p.inner }

-- the header, with the number of main's upvalues at its end
abbrev pub header : Prototype → List ℕ
header p = signature ++ (version ++ (format ++ (sizes ++ length p.own.upvalues ∷ [])))

abbrev pub chunk : Prototype → List ℕ
chunk p = header p ++ function None p
