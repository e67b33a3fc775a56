-- Keys of permanents that are the same.
use Rattle.std.specs.Prelude.{ℕ, Bool, true, false, List}
use Rattle.image_core.specs.Image.{PermKey, number_key, text_key, Perm}
use Rattle.graph_core.specs.Inverse.{KeysAreOnce, KeyIsBefore}
use Rattle.eris_write.specs.declared.keys.Key.{Key}
use Rattle.eris_write.specs.declared.keys.Key.TheVariants.{Number, Text}

-- two permanents have one key
abbrev pub HaveEqualKeys : List Perm → Type 0
HaveEqualKeys ps = (n : ℕ) × KeyIsBefore ps n

abbrev pub Tells : Bool → List Perm → Type 0
Tells true ps = HaveEqualKeys ps
Tells false ps = KeysAreOnce ps

abbrev pub shown : Key → PermKey
shown (Number n) = number_key n
shown (Text text) = text_key text.now
