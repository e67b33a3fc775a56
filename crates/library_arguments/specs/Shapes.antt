-- The values that functions see, as the rows have them.
use Rattle.std.specs.Prelude.{ℕ, List, map}
use Rattle.int_core.specs.Value.{Plain as Known, nil, boolean, integer, string, primitive, Kind as Sort, a_table, a_function, a_coroutine, Shape as Seen, is_known, is_object}
use Rattle.library_arguments.specs.declared.plain.Plain.{Plain}
use Rattle.library_arguments.specs.declared.plain.Plain.TheVariants as a_plain
use Rattle.library_arguments.specs.declared.shape.Kind.{Kind}
use Rattle.library_arguments.specs.declared.shape.Kind.TheVariants.{Table, Function, Coroutine}
use Rattle.library_arguments.specs.declared.shape.Shape.{Shape}
use Rattle.library_arguments.specs.declared.shape.Shape.TheVariants as a_shape
use Rattle.library_arguments.specs.declared.text.Text.{Text}
use Rattle.library_arguments.specs.declared.text.Text.TheVariants as a_text

abbrev pub kind_of : Kind → Sort
kind_of Table = a_table
kind_of Function = a_function
kind_of Coroutine = a_coroutine

abbrev pub shape_of : Shape → Seen
shape_of a_shape.Nil = is_known nil
shape_of (a_shape.Boolean b) = is_known (boolean b)
shape_of (a_shape.Integer n) = is_known (integer n)
shape_of (a_shape.String bytes) = is_known (string bytes.now)
shape_of (a_shape.Primitive n) = is_known (primitive n)
shape_of (a_shape.Object kind) = is_object (kind_of kind)

abbrev pub shapes_of : List Shape → List Seen
shapes_of shapes = map shape_of shapes

abbrev pub known_of : Plain → Known
known_of a_plain.Nil = nil
known_of (a_plain.Boolean b) = boolean b
known_of (a_plain.Integer n) = integer n
known_of (a_plain.String bytes) = string bytes.items
known_of (a_plain.Primitive n) = primitive n

abbrev pub bytes_in : Text → List ℕ
bytes_in (a_text.Bytes bytes) = bytes.now
bytes_in (a_text.Digits digits) = digits
