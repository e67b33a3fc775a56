-- What was spelled is read again.
use Rattle.std.specs.Prelude.{ℕ, ◌≡◌, [], Some, length}
use Rattle.image_core.specs.Image.{Image}
use Rattle.image_bytes.specs.Format.{read}
use Rattle.image_bytes.specs.Bytes.{Reader, image_format, read_image}

-- an image that may stand is read back from the bytes that spell it
abbrev pub ImagesReadBack : Type 0
ImagesReadBack = (R : Reader) (I : Image) (met : ℕ) → (image_format R (length I.roots)).after 0 I ≡ Some met → read_image R (length I.roots) ((image_format R (length I.roots)).spell I) ≡ read I met []
