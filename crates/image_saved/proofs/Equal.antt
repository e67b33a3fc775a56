-- Keys of permanents that are equal are the same.
use Rattle.std.proofs.Common.{◌≡◌, true, refl, ap}
use Rattle.std.proofs.lemmas.Slice.Eq.{bytes_eq-Decides}
use Rattle.int_core.proofs.Equality.{integer_is, integer_self}
use Rattle.image_core.specs.Image.{PermKey, number_key, text_key}
use Rattle.image_saved.specs.Permanents.{same_key}

pub key_is : (a b : PermKey) → same_key a b ≡ true → a ≡ b
key_is (number_key m) (number_key n) h = ap number_key (integer_is m n h)
key_is (text_key s) (text_key t) h = ap text_key ((bytes_eq-Decides s t).0 h)
key_is (number_key m) (text_key t) h = absurd (cc)
key_is (text_key s) (number_key n) h = absurd (cc)

pub key_self : (a : PermKey) → same_key a a ≡ true
key_self (number_key n) = integer_self n
key_self (text_key s) = (bytes_eq-Decides s s).1 refl
