-- The text of a value.
use Rattle.std.specs.Prelude.{◌≡◌, ℕ, List, codes}
use Rattle.int_core.specs.Heap.{Heap, raw_get, metatable_of}
use Rattle.int_core.specs.Value.{Value, known, string, Shape, is_known, is_object, shape, nth}
use Rattle.library_rows.specs.Base.{kind_text, plain_text}
use Rattle.library_rows.specs.Look.{or_nil, table_or_nil}

-- by what is seen of the value, and of the field `__name` of its metatable
abbrev pub shown_of : Shape → Shape → List ℕ
shown_of (is_known p) name = plain_text p
shown_of (is_object kind) name = kind_text (is_object kind) name

-- the field `__name` of a value's metatable
abbrev pub name_in : Heap → Value → Value
name_in H v = or_nil (raw_get H (table_or_nil (metatable_of H v)) (known (string (codes "__name"))))

-- the text of the first argument
pub record IsShown (vs : List Value) (H : Heap) (text : List ℕ) : Type 0 where
  pub is : text ≡ shown_of (shape (nth vs 0)) (shape (name_in H (nth vs 0)))
