-- What is put at the end of an image that is being written. Bytes after the first that no image has room for are not kept, since nothing is made of them.
use Rattle.std.specs.Prelude.{◌≡◌, ◌-◌, ℕ, List, ◌∷◌, ◌++◌, length, take, Option}
use Rattle.std.specs.Int.{w64, cast_unsigned}
use Rattle.byteorder.specs.Endian.{little_bytes}
use Rattle.graph_core.specs.declared.permanents.PermanentKey.{PermanentKey}
use Rattle.graph_core.specs.declared.permanents.PermanentKey.TheVariants.{Number, Text}
use Rattle.image_bytes.specs.Bytes.{Reader}
use Rattle.eris_write.specs.declared.output.Output.{Output}
use Rattle.eris_write.specs.Refusals.{Cause, or_else, shown}

-- one byte more than an image may have
abbrev pub most : ℕ
most = 2147483648

abbrev pub put : List ℕ → List ℕ → List ℕ
put old bytes = old ++ take (most - length old) bytes

-- bytes are put, whoever reads them, and the first refusal is kept
pub record Puts (old new : Output) (cause : Option Cause) (bytes : Reader → List ℕ) : Type 0 where
  pub grown : (R : Reader) → new.bytes.items ≡ put old.bytes.items (bytes R)
  pub first : shown new.refusal ≡ or_else (shown old.refusal) cause

-- the key of a permanent, as an integer or a string stands
abbrev pub key_bytes : PermanentKey → List ℕ
key_bytes (Number n) = 3 ∷ little_bytes 8 (cast_unsigned w64 n)
key_bytes (Text text) = 4 ∷ little_bytes 4 (length text.items) ++ text.items
