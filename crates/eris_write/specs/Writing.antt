-- What is known where the parts of an image are written, and what it is that some of them are.
use Rattle.std.specs.Prelude.{◌≡◌, ◌<◌, ℕ, Bool, true, false, List, [], ◌∷◌, ◌++◌, map, Option, unwrap_or, length}
use Rattle.int_core.specs.Value.{nil, boolean, integer, string, primitive, a_table, a_function, a_coroutine, Kind, Value, known, object}
use Rattle.std.specs.Int.{w64, cast_unsigned}
use Rattle.byteorder.specs.Endian.{little_bytes}
use Rattle.table_core.specs.declared.value.Value.{Value as Kept}
use Rattle.table_core.specs.declared.value.Value.TheVariants as kept
use Rattle.code_core.specs.Check.{IsChecked}
use Rattle.machine_core.specs.World.{Function}
use Rattle.machine_sound.specs.Sound.{Each, Solid}
use Rattle.image_core.specs.Visit.{met, place}
use Rattle.image_core.specs.Image.{Item}
use Rattle.image_core.specs.Records.{Field, Part, an_object, same_part, Naming, item}
use Rattle.image_bytes.specs.Bytes.{Reader, item_format}
use Rattle.lua_heap.specs.declared.world.World.{World as Memory}
use Rattle.lua_heap.specs.Plain.{plain}
use Rattle.lua_heap.specs.Reading.{value}
use Rattle.move_laws.specs.Memory.{InOrder}
use Rattle.graph_core.specs.Numbering.{names}
use Rattle.graph_core.specs.Objects.{part}
use Rattle.eris_write.specs.declared.output.Output.{Output}
use Rattle.eris_write.specs.declared.writer.Writer.{Writer}
use Rattle.eris_write.specs.Output.{Puts}
use Rattle.eris_write.specs.Refusals.{first_refusal}

-- a world whose objects can be read
pub record IsReadable (W : Memory) : Type 0 where
  pub primitives : ℕ
  pub solid : Solid primitives (plain W 0)
  pub order : InOrder W

abbrev pub texts_in : Writer → List (List ℕ)
texts_in w = w.world.now.strings

abbrev pub name_in : Writer → Value → Option Item
name_in w = names w.world.now w.permanents.now

abbrev pub inside_in : Writer → ℕ → Bool
inside_in w co = met same_part (map part w.numbering.now.reached.keys) (an_object a_coroutine co)

abbrev pub naming_in : Writer → Naming
naming_in w = record {
  name = name_in w;
  number = λ o. unwrap_or (place same_part (map part w.numbering.now.order.keys) o) 0;
  inside = inside_in w;
}

-- the parts that have these fields are written as these bytes
abbrev pub Writes : Writer → (old new : Output) → List Field → (Reader → List ℕ) → Type 0
Writes w old new fields bytes = Puts old new (first_refusal (plain w.world.now 0) (name_in w) fields) bytes

-- values

abbrev pub read_in : Writer → Kept → Value
read_in w = value (texts_in w)

abbrev pub item_in : Writer → Kept → Item
item_in w v = item (naming_in w) (read_in w v)

abbrev pub item_bytes : Writer → Kept → Reader → List ℕ
item_bytes w v R = (item_format R).spell (item_in w v)

-- the bytes of a string are there
abbrev pub HasText : List (List ℕ) → Kept → Type 0
HasText texts (kept.Str id) = id.0 < length texts
HasText texts _ = Unit {0}

abbrev pub HaveTexts : List (List ℕ) → List Kept → Type 0
HaveTexts texts vs = Each (HasText texts) vs

abbrev pub RowsHaveTexts : List (List ℕ) → List (Kept × Kept) → Type 0
RowsHaveTexts texts rows = Each (λ row. HasText texts row.0 × HasText texts row.1) rows

-- the tag of a permanent
abbrev pub kind_tag : Kind → ℕ
kind_tag a_function = 6
kind_tag a_table = 7
kind_tag a_coroutine = 8

abbrev pub number_bytes : Naming → Part → List ℕ
number_bytes N o = 5 ∷ little_bytes 4 (N.number o)

-- a value without a name
abbrev pub unnamed_bytes : Naming → Value → List ℕ
unnamed_bytes N (known nil) = 0 ∷ []
unnamed_bytes N (known (boolean false)) = 1 ∷ []
unnamed_bytes N (known (boolean true)) = 2 ∷ []
unnamed_bytes N (known (integer n)) = 3 ∷ little_bytes 8 (cast_unsigned w64 n)
unnamed_bytes N (known (string s)) = 4 ∷ little_bytes 4 (length s) ++ s
unnamed_bytes N (known (primitive n)) = 255 ∷ []
unnamed_bytes N (object kind n) = number_bytes N (an_object kind n)

-- a function whose code is checked, with a cell for each upvalue
pub record IsWhole (f : Function) : Type 0 where
  pub code : IsChecked f.code
  pub count : length f.cells ≡ length f.code.own.upvalues
