-- The grammar of chunks (ldump.c and lundump.c of Lua 5.4): which bytes spell which value. A number has any number of leading zero
-- groups, a string either tag, a function its source or its parent's; the writer's spelling is one of them.
use Rattle.std.specs.Prelude.{ℕ, zero, suc, ◌+◌, ◌*◌, ◌%◌, ◌^◌, ◌<◌, ◌≤◌, ◌≡◌, ◌⊎◌, ℤ, Bool, List, [], ◌∷◌, ◌++◌, Option, Some, None, length}
use Rattle.std.specs.Int.{w8, w64, cast_signed}
use Rattle.byteorder.specs.Endian.{little_number}
use Rattle.code_core.specs.Prototype.{Parts, Prototype, prototypes, function_count}
use Rattle.int_core.specs.Value.{greatest_string}
use Rattle.code_core.specs.Writable.{greatest_depth}
use Rattle.code_core.specs.declared.instruction.Instruction.{Instruction}
use Rattle.code_core.specs.declared.proto.Const.{Const}
use Rattle.code_core.specs.declared.proto.Const.TheVariants.{Nil, False, True, Int, Str}
use Rattle.code_core.specs.declared.proto.UpDesc.{UpDesc}
use Rattle.code_core.specs.declared.proto.AbsLine.{AbsLine}
use Rattle.code_core.specs.declared.proto.LocVar.{LocVar}
use Rattle.chunk_format.specs.Reading.{Lists, Details, no_lists, parts_of, or_parents}
use Rattle.chunk_format.specs.Header.{signature, version, format, sizes}
use Rattle.chunk_format.specs.Spelling.{flag}

-- first one thing, then another whose form may turn on it
pub record Then {A B : Type 0} (First : A → List ℕ → Type 0) (Rest : A → B → List ℕ → Type 0) (y : B) (bytes : List ℕ) : Type 0 where
  pub first : A
  pub front : List ℕ
  pub back : List ℕ
  pub whole : bytes ≡ front ++ back
  pub spells_first : First first front
  pub spells_rest : Rest first y back

-- nothing more: the value is `x`
pub record Gives {A : Type 0} (x : A) (y : A) (bytes : List ℕ) : Type 0 where
  pub value : y ≡ x
  pub nothing : bytes ≡ []

-- groups of seven bits, the highest first; the last one alone has its high bit set
abbrev pub IsGroups : List ℕ → Type 0
IsGroups [] = ⊥
IsGroups (byte ∷ []) = 128 ≤ byte
IsGroups (byte ∷ (next ∷ rest)) = (byte < 128) × IsGroups (next ∷ rest)

abbrev pub value_from : ℕ → List ℕ → ℕ
value_from so_far [] = so_far
value_from so_far (byte ∷ rest) = value_from (so_far * 128 + byte % 128) rest

pub record NumberOf (n : ℕ) (bytes : List ℕ) : Type 0 where
  pub groups : IsGroups bytes
  pub value : n ≡ value_from 0 bytes
  pub fits : n < 2 ^ 31

abbrev pub ByteOf : ℕ → List ℕ → Type 0
ByteOf byte bytes = bytes ≡ byte ∷ []

abbrev pub FlagOf : Bool → List ℕ → Type 0
FlagOf b bytes = bytes ≡ flag b ∷ []

abbrev pub KindOf : ℕ → List ℕ → Type 0
KindOf kind bytes = (bytes ≡ kind ∷ []) × (kind ≤ 3)

abbrev pub WordOf : ℕ → List ℕ → Type 0
WordOf word bytes = (length bytes ≡ 4) × (word ≡ little_number 4 bytes)

abbrev pub IntegerOf : ℤ → List ℕ → Type 0
IntegerOf n bytes = (length bytes ≡ 8) × (n ≡ cast_signed w64 (little_number 8 bytes))

-- a string behind its length plus one, or none behind 0
abbrev pub TextOf : ℕ → Option (List ℕ) → List ℕ → Type 0
TextOf number None bytes = (number ≡ 0) × (bytes ≡ [])
TextOf number (Some text) bytes = (number ≡ length text + 1) × (bytes ≡ text) × (length text ≤ greatest_string)

abbrev pub NameOf : Option (List ℕ) → List ℕ → Type 0
NameOf = Then NumberOf TextOf

abbrev pub InstructionOf : Instruction → List ℕ → Type 0
InstructionOf = Then WordOf (λ word. Gives (record { 0 = word }))

abbrev pub TaggedOf : ℕ → Const → List ℕ → Type 0
TaggedOf tag Nil bytes = (tag ≡ 0) × (bytes ≡ [])
TaggedOf tag False bytes = (tag ≡ 1) × (bytes ≡ [])
TaggedOf tag True bytes = (tag ≡ 17) × (bytes ≡ [])
TaggedOf tag (Int n) bytes = (tag ≡ 3) × IntegerOf n bytes
TaggedOf tag (Str text) bytes = ((tag ≡ 4) ⊎ (tag ≡ 20)) × NameOf (Some text) bytes

abbrev pub ConstantOf : Const → List ℕ → Type 0
ConstantOf = Then ByteOf TaggedOf

abbrev pub UpvalueOf : UpDesc → List ℕ → Type 0
UpvalueOf =
    Then FlagOf (λ in_stack. Then ByteOf (λ index. Then KindOf (λ kind.
    Gives (record { in_stack = in_stack; index = index; kind = kind }))))

abbrev pub ChangeOf : ℤ → List ℕ → Type 0
ChangeOf = Then ByteOf (λ byte. Gives (cast_signed w8 byte))

abbrev pub AbsLineOf : AbsLine → List ℕ → Type 0
AbsLineOf = Then NumberOf (λ pc. Then NumberOf (λ line. Gives (record { pc = pc; line = line })))

abbrev pub LocalOf : LocVar → List ℕ → Type 0
LocalOf =
    Then NameOf (λ name. Then NumberOf (λ start. Then NumberOf (λ end.
    Gives (record { name = name; start = start; end = end }))))

-- so many things, one after another
abbrev pub TimesOf : {A : Type 0} → (A → List ℕ → Type 0) → ℕ → List A → List ℕ → Type 0
TimesOf Item zero = Gives []
TimesOf Item (suc n) = Then Item (λ x. Then (TimesOf Item n) (λ xs. Gives (x ∷ xs)))

-- a list: its length, then its entries
abbrev pub ListOf : {A : Type 0} → (A → List ℕ → Type 0) → List A → List ℕ → Type 0
ListOf Item = Then NumberOf (TimesOf Item)

abbrev pub SourceOf : Option (List ℕ) → Option (List ℕ) → List ℕ → Type 0
SourceOf parent = Then NameOf (λ name. Gives (or_parents parent name))

abbrev pub HeadOf : Option (List ℕ) → Parts → List ℕ → Type 0
HeadOf parent =
    Then (SourceOf parent) (λ source. Then NumberOf (λ line_defined. Then NumberOf (λ last_line.
    Then ByteOf (λ params. Then FlagOf (λ vararg. Then ByteOf (λ stack.
    Gives (no_lists source line_defined last_line params vararg stack)))))))

abbrev pub ListsOf : Lists → List ℕ → Type 0
ListsOf =
    Then (ListOf InstructionOf) (λ code. Then (ListOf ConstantOf) (λ constants. Then (ListOf UpvalueOf) (λ upvalues.
    Gives (record { code = code; constants = constants; upvalues = upvalues }))))

abbrev pub DetailsOf : Details → List ℕ → Type 0
DetailsOf =
    Then (ListOf ChangeOf) (λ line_info. Then (ListOf AbsLineOf) (λ abs_lines. Then (ListOf LocalOf) (λ locals. Then (ListOf NameOf) (λ up_names.
    Gives (record { line_info = line_info; abs_lines = abs_lines; locals = locals; up_names = up_names })))))

-- a function whose inner ones are spelled as `Inner` says
abbrev pub BodyOf : (Option (List ℕ) → Prototype → List ℕ → Type 0) → Option (List ℕ) → Prototype → List ℕ → Type 0
BodyOf Inner parent =
    Then (HeadOf parent) (λ head. Then ListsOf (λ lists. Then NumberOf (λ n. Then (TimesOf (Inner head.source) n) (λ functions. Then DetailsOf (λ details.
    Gives (record { own = parts_of head lists details; inner = prototypes functions }))))))

-- a function of at most so many levels, itself included, inside one whose source is the parent's
unfoldable pub FunctionOf : ℕ → Option (List ℕ) → Prototype → List ℕ → Type 0
FunctionOf zero parent p bytes = ⊥
FunctionOf (suc levels) parent p bytes = BodyOf (FunctionOf levels) parent p bytes

-- a function that stands in no other
pub record WholeOf (p : Prototype) (bytes : List ℕ) : Type 0 where
  pub function : FunctionOf greatest_depth None p bytes
  pub few : function_count p < 2 ^ 31

-- these very bytes
abbrev pub Exactly : List ℕ → Unit {0} → List ℕ → Type 0
Exactly text u bytes = bytes ≡ text

-- the header; its last byte, the number of main's upvalues, is any
abbrev pub HeaderOf : ℕ → List ℕ → Type 0
HeaderOf = Then (Exactly signature) (λ _. Then (Exactly version) (λ _. Then (Exactly format) (λ _. Then (Exactly sizes) (λ _. ByteOf))))

abbrev pub ChunkOf : Prototype → List ℕ → Type 0
ChunkOf = Then HeaderOf (λ upvalues. WholeOf)

-- bytes that begin with a spelling of x, which takes n of them
pub record BeginsWith {A : Type 0} (Rule : A → List ℕ → Type 0) (x : A) (n : ℕ) (bytes : List ℕ) : Type 0 where
  pub front : List ℕ
  pub rest : List ℕ
  pub whole : bytes ≡ front ++ rest
  pub spells : Rule x front
  pub counted : n ≡ length front
