-- The parts of a whole image.
use Rattle.std.specs.Prelude.{◌≡◌, ◌<◌, ◌≤◌, ℕ, List, [], ◌∷◌, ◌++◌, Some, None, Result, Ok, Err, length, map, flat_map}
use Rattle.std.specs.declared.vec.Vec.{Vec}
use Rattle.std.specs.declared.alloc.Global.{Global}
use Rattle.byteorder.specs.Endian.{little_bytes}
use Rattle.table_core.specs.declared.value.Value.{Value as Kept}
use Rattle.image_core.specs.Records.{Field, of_value, fields, record_of}
use Rattle.image_bytes.specs.Bytes.{Reader, item_format, record_format}
use Rattle.image_bytes.specs.Format.{spell_all}
use Rattle.lua_heap.specs.Plain.{plain}
use Rattle.graph_core.specs.declared.object.Object.{Object}
use Rattle.graph_core.specs.declared.object.Sort.{Sort}
use Rattle.graph_core.specs.declared.object.Sort.TheVariants.{Table, Func, Cell, Coro}
use Rattle.graph_core.specs.Objects.{part}
use Rattle.eris_write.specs.declared.fault.PersistFault.{PersistFault}
use Rattle.eris_write.specs.declared.fault.PersistFault.TheVariants.{Refused, TooLarge, Memory}
use Rattle.eris_write.specs.declared.output.Output.{Output}
use Rattle.eris_write.specs.declared.writer.Writer.{Writer}
use Rattle.eris_write.specs.Output.{most, put}
use Rattle.eris_write.specs.Refusals.{first_refusal, shown}
use Rattle.eris_write.specs.Writing.{inside_in, item_in, name_in, naming_in, read_in}

abbrev pub sort_code : Sort → ℕ
sort_code Table = 1
sort_code Func = 2
sort_code Cell = 3
sort_code Coro = 4

abbrev pub fields_in : Writer → ℕ → Object → List Field
fields_in w fuel o = fields (plain w.world.now fuel) (inside_in w) (part o)

abbrev pub record_bytes : Writer → ℕ → Object → Reader → List ℕ
record_bytes w fuel o R = (record_format R (sort_code o.sort)).spell (record_of (naming_in w) (plain w.world.now fuel) (part o))

abbrev pub records_bytes : Writer → ℕ → List Object → Reader → List ℕ
records_bytes w fuel os R = flat_map (λ o. record_bytes w fuel o R) os

-- the head, the sorts, the roots and the records
abbrev pub all_bytes : Writer → List Kept → ℕ → Reader → List ℕ
all_bytes w roots fuel R =
    76 ∷ 85 ∷ 73 ∷ 77 ∷ 1 ∷ ((little_bytes 4 (length w.numbering.now.order.keys) ++ map (λ o. sort_code o.sort) w.numbering.now.order.keys)
    ++ ((length roots ∷ spell_all (item_format R) (map (item_in w) roots)) ++ records_bytes w fuel w.numbering.now.order.keys R))

pub record IsDrawn (w : Writer) (roots : List Kept) (fuel : ℕ) (out : Output) : Type 0 where
  pub bytes : (R : Reader) → out.bytes.items ≡ put [] (all_bytes w roots fuel R)
  pub refusal : shown out.refusal ≡ first_refusal (plain w.world.now 0) (name_in w) (map of_value (map (read_in w) roots) ++ flat_map (fields_in w fuel) w.numbering.now.order.keys)

-- a refusal, more bytes than an image may have, or the bytes
abbrev pub Finishes : Output → Result (Vec ℕ Global) PersistFault → Type 0
Finishes out (Ok bytes) = (out.refusal ≡ None) × (length out.bytes.items < most) × (bytes.items ≡ out.bytes.items)
Finishes out (Err (Refused r)) = out.refusal ≡ Some r
Finishes out (Err TooLarge) = (out.refusal ≡ None) × (most ≤ length out.bytes.items)
Finishes out (Err Memory) = ⊥
