use Rattle.std.proofs.Common.{◌≡◌, ◌≢◌, ℕ, List, Bool, true, false, refl, codes}
use Rattle.std.specs.Str.{bytes_eq}
use Rattle.std.proofs.lemmas.Slice.Eq.{bytes_eq-Decides}
use Rattle.command_words.proofs.command.command_named.Goals as goal

differ : (name text : List ℕ) → name ≢ text → bytes_eq name text ≡ false
differ name text other = by (bytes_eq name text) refl
  where
    by : (b : Bool) → bytes_eq name text ≡ b → bytes_eq name text ≡ false
    by true is = absurd (other ((bytes_eq-Decides name text).0 is))
    by false is = is

pub returns-in_default : goal.returns-in_default
returns-in_default c =
    let name = c.args.name.now in
    let not = c.in_default in
    rw (differ name (codes "run") not.not-run, differ name (codes "resume") not.not-resume, differ name (codes "check") not.not-check, differ name (codes "compile") not.not-compile, differ name (codes "work") not.not-work) refl
