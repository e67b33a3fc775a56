-- What a contract sees of a pool: the objects in the order in which they were placed, and for how many more there is room.
use Rattle.std.specs.Prelude.{◌≡◌, ℕ, ◌+◌, List, ◌∷◌, [], ◌++◌, take, length, slice_set, refl}
use Rattle.std.specs.Coded.{Coded, code_by, coded×, coded_ℕ, coded_list}

pub record Pool (T : Type 0) : Type 0 where
  pub objects : List T
  pub spare : ℕ

-- a pool is stored as the pair of its fields
abbrev pub pool_code : {T : Type 0} → Coded T → Coded (Pool T)
pool_code {T} code =
    code_by (List T × ℕ) (coded× (coded_list code) coded_ℕ) (λ p. (p.objects, p.spare))
    (λ p. record { objects = p.0; spare = p.1 }) (λ _. refl)

module _ {T : Type 0} where
  -- the pool with another object at a place
  abbrev pub with_object : Pool T → ℕ → T → Pool T
  with_object p at object = record p { objects = slice_set p.objects at object }

  -- the object stands behind all the others, in one place of the room
  pub record Appends (old new : Pool T) (object : T) : Type 0 where
    pub objects : new.objects ≡ old.objects ++ object ∷ []
    pub spare : new.spare + 1 ≡ old.spare

  -- the objects below the mark are left, and the place of each of the others is room again
  pub record KeepsFirst (old new : Pool T) (mark : ℕ) : Type 0 where
    pub objects : new.objects ≡ take mark old.objects
    pub spare : new.spare + mark ≡ old.spare + length old.objects
