-- What is accepted because all records fit was read as it is.
use Rattle.std.proofs.Common.{ℕ, ◌≡◌, [], Option, Bool, true, false, cond}
use Rattle.code_core.specs.Prototype.{Prototype}
use Rattle.image_core.specs.Image.{PermKey, Image}
use Rattle.image_bytes.specs.Format.{Got, read, refused, of_kind}
use Rattle.image_sound.specs.Fitting.{all_fit, with_fits}

pub fitted : (code_named : PermKey → Option Prototype) (g : Got Image) (I : Image) (met : ℕ) → with_fits code_named g ≡ read I met [] → g ≡ read I met []
fitted code_named (refused fault) I met e = absurd (cc)
fitted code_named (read J m rest) I met e = by (all_fit code_named J.records) e
  where
    by : (b : Bool) → cond b (read J m rest) (refused (of_kind 9)) ≡ read I met [] → read J m rest ≡ read I met []
    by true e = e
    by false e = absurd (cc)
