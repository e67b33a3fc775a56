-- Objects in segments of one size (512 places), filled from the first on.
use Rattle.std.specs.Prelude.{◌≡◌, ℕ, ◌-◌, ◌*◌, ◌≤◌, min, List, [], ◌∷◌, length}
use Rattle.std.specs.List.{flat_map}
use Rattle.std.specs.declared.vec.Vec.{Vec}

module _ {T A : Type 0} where
  -- the objects of all segments, in order
  abbrev pub objects_in : List (Vec T A) → List T
  objects_in segments = flat_map (λ segment. segment.items) segments

  -- each segment has its places, and holds as many of the n objects as it can
  abbrev pub AreFilled : List (Vec T A) → ℕ → Type 0
  AreFilled [] n = n ≡ 0
  AreFilled (segment ∷ rest) n = (length segment.items ≡ min n 512) × (512 ≤ segment.cap) × AreFilled rest (n - 512)

  -- n objects stand there, and there are places for more in the segments
  pub record AreSegments (segments : List (Vec T A)) (n places : ℕ) : Type 0 where
    pub filled : AreFilled segments n
    pub within : n ≤ places
    pub there : places ≤ 512 * length segments
