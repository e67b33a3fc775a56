-- What holds of runs that load sources goes on into what follows from it, and of two runs one after the other both are met.
use Rattle.std.proofs.Common.{ℕ, List, [], ◌∷◌, ◌++◌}
use Rattle.tree_core.specs.Tree.{Body}
use Rattle.load_rows.specs.Loading.{Builds}
use Rattle.source_builds.specs.Builds.{BuildsSources}
use Rattle.source_builds.specs.Readings.{Met, HasMet, AsRead}

-- of a longer list both parts were met
has_both : (builds : Builds Body) (xs ys : List Met) → HasMet builds (xs ++ ys) → HasMet builds xs × HasMet builds ys
has_both builds [] ys h = (tt, h)
has_both builds (x ∷ xs) ys h = let k = has_both builds xs ys h.1 in ((h.0, k.0), k.1)

-- nothing need be met
pub read_all : {P : Builds Body → Type 0} → ((builds : Builds Body) → BuildsSources builds → P builds) → AsRead P
read_all f = record { met = []; holds = λ builds are h. f builds are }

pub read_map : {P Q : Builds Body → Type 0} → ((builds : Builds Body) → BuildsSources builds → P builds → Q builds) → AsRead P → AsRead Q
read_map f r = record { met = r.met; holds = λ builds are h. f builds are (r.holds builds are h) }

pub read_both : {P Q R : Builds Body → Type 0} → ((builds : Builds Body) → BuildsSources builds → P builds → Q builds → R builds) → AsRead P → AsRead Q → AsRead R
read_both f r s = record {
  met = r.met ++ s.met;
  holds = λ builds are h. let k = has_both builds r.met s.met h in f builds are (r.holds builds are k.0) (s.holds builds are k.1);
}
