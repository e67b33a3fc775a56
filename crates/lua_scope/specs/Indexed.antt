-- What is kept of a block so that its labels are found by their names.
use Rattle.std.specs.Prelude.{◌≡◌, ℕ, ◌+◌, Bool, if◌then◌else◌, nat_le, List, [], ◌∷◌, Option, Some, None, drop, bytes_eq}
use Rattle.std.specs.HashMap.{HashMap, get_by}
use Rattle.std.specs.declared.vec.Vec.{Vec}
use Rattle.tree_core.specs.Tree.{Stat, Label, stats}
use Rattle.scope_core.specs.Rules.{is_label, declares_variable, only_labels}
use Rattle.lua_scope.specs.declared.index.LabelPlace.{LabelPlace}

-- the name of a label
abbrev pub label_of : Stat → Option (List ℕ)
label_of (Label line name) = Some name.text
label_of _ = None

-- how many statements there are up to the last that declares a variable, where one more ends at `behind`
abbrev pub declared_behind : Stat → (declared behind : ℕ) → ℕ
declared_behind stat declared behind = if declares_variable stat then behind else declared

-- the first label of a name, where `at` statements stand before these
abbrev pub first_label : List ℕ → (at declared : ℕ) → List Stat → Option LabelPlace
first_label text at declared [] = None
first_label text at declared (stat ∷ rest) =
    if is_label text stat
    then Some (record { at = at; declared = declared })
    else first_label text (at + 1) (declared_behind stat declared (at + 1)) rest

-- what is known of a name already, or else the place where a test holds
abbrev pub or_first : Option LabelPlace → Bool → LabelPlace → Option LabelPlace
or_first (Some known) holds place = Some known
or_first None holds place = if holds then Some place else None

module _ {A S : Type 0} where
  -- what an index gives for a name
  abbrev pub found_in : List ℕ → HashMap (Vec ℕ A) LabelPlace S → Option LabelPlace
  found_in text labels = get_by (λ key. bytes_eq text key.items) labels

  -- it gives the first label of each name
  abbrev pub IsIndexOf : HashMap (Vec ℕ A) LabelPlace S → List Stat → Type 0
  IsIndexOf labels list = (text : List ℕ) → found_in text labels ≡ first_label text 0 0 list

-- from there on all statements are labels or empty
abbrev pub IsEndFrom : ℕ → List Stat → Type 0
IsEndFrom from list = (i : ℕ) → only_labels (stats (drop i list)) ≡ nat_le from i
