-- Sources are built as those that were met: what is built is looked up among them.
use Rattle.std.proofs.Common.{ℕ, ◌≡◌, Bool, true, false, cond, List, [], ◌∷◌, None, refl, sym, ap, subst, ◌∙◌}
use Rattle.std.specs.Prelude.{◌&&◌}
use Rattle.std.specs.Str.{bytes_eq}
use Rattle.std.proofs.lemmas.Slice.Eq.{bytes_eq-Decides}
use Rattle.tree_core.specs.Tree.{Block, Body}
use Rattle.scope_core.specs.Places.{placed}
use Rattle.compile_text.specs.Source.{IsSource}
use Rattle.load_rows.specs.Loading.{Built, built, refused_at, Builds}
use Rattle.source_builds.specs.Builds.{IsBuiltTo, BuildsSources}
use Rattle.source_builds.specs.Readings.{IsReading, has_tree, is_refused, breaks_rule, Met, HasMet, AsRead}
use Rattle.source_builds.specs.Laws.{ReadingsAreOne, WhatIsMetIsBuilt}
use Rattle.source_builds.proofs.OneReading.{readings_are_one}
use Rattle.code_core.proofs.CheckedLemmas.{both}

abbrev is_for : (name source : List ℕ) → Met → Bool
is_for name source m = bytes_eq name m.name && bytes_eq source m.source

-- what was not met is refused
abbrev looked_up : List Met → Builds Body
looked_up [] name source = refused_at 0 None
looked_up (m ∷ ms) name source = cond (is_for name source m) m.reading (looked_up ms name source)

record IsFor (name source : List ℕ) (m : Met) : Type 0 where
  name_is : name ≡ m.name
  source_is : source ≡ m.source

is_it : (name source : List ℕ) (m : Met) → is_for name source m ≡ true → IsFor name source m
is_it name source m e =
    let k = both (bytes_eq name m.name) (bytes_eq source m.source) e in
    record { name_is = (bytes_eq-Decides name m.name).0 k.0; source_is = (bytes_eq-Decides source m.source).0 k.1 }

-- a body that is looked up is that of a source

of_reading : (source : List ℕ) (b : Built Body) → IsReading source b → (body : Body) → b ≡ built body → IsBuiltTo source body
of_reading source b (has_tree tree is) body e = record {
  tree = tree;
  tokens = is.has_tree.tokens;
  limited = is.has_tree.limited;
  lexed = is.has_tree.lexed;
  derived = is.has_tree.derived;
  lawful = is.lawful;
  placed_is = let k : built (placed tree) ≡ built body = e in cc;
}
of_reading source b (is_refused line r) body e = absurd (let k : refused_at line None ≡ built body = e in cc)
of_reading source b (breaks_rule rule line r) body e = absurd (cc)

builds_sources : (ms : List Met) → BuildsSources (looked_up ms)
builds_sources [] name source body e = absurd (cc)
builds_sources (m ∷ ms) name source body e = by (builds_sources ms name source body) (is_for name source m) refl e
  where
    by : (looked_up ms name source ≡ built body → IsBuiltTo source body) → (b : Bool) → is_for name source m ≡ b → cond b m.reading (looked_up ms name source) ≡ built body → IsBuiltTo source body
    by later true i e = of_reading source m.reading (subst (λ s. IsReading s m.reading) (sym (is_it name source m i).source_is) m.is) body e
    by later false i e = later e

-- each that was met is found, or one before it that has the same reading

data IsAmong (m : Met) : List Met → Type 0 where
  first : {n : Met} {ms : List Met} → m ≡ n → IsAmong m (n ∷ ms)
  further : {n : Met} {ms : List Met} → IsAmong m ms → IsAmong m (n ∷ ms)

itself : (m : Met) → is_for m.name m.source m ≡ true
itself m =
    let a : bytes_eq m.name m.name ≡ true = (bytes_eq-Decides m.name m.name).1 refl in
    let b : bytes_eq m.source m.source ≡ true = (bytes_eq-Decides m.source m.source).1 refl in
    ap (λ x. x && bytes_eq m.source m.source) a ∙ b

found : (m : Met) (ms : List Met) → IsAmong m ms → looked_up ms m.name m.source ≡ m.reading
found m [] h = elim h [ ]
found m (n ∷ ms) (first e) = subst (λ (n : Met). looked_up (n ∷ ms) m.name m.source ≡ m.reading) e (ap (λ b. cond b m.reading (looked_up ms m.name m.source)) (itself m))
found m (n ∷ ms) (further h) = by (found m ms h) (is_for m.name m.source n) refl
  where
    by : looked_up ms m.name m.source ≡ m.reading → (b : Bool) → is_for m.name m.source n ≡ b → cond b n.reading (looked_up ms m.name m.source) ≡ m.reading
    by later true i = readings_are_one m.source n.reading m.reading (subst (λ s. IsReading s n.reading) (sym (is_it m.name m.source n i).source_is) n.is) m.is
    by later false i = later

all_found : (ms all : List Met) → ((m : Met) → IsAmong m ms → IsAmong m all) → HasMet (looked_up all) ms
all_found [] all h = tt
all_found (m ∷ ms) all h = (found m all (h m (first refl)), all_found ms all (λ n k. h n (further k)))

pub what_is_met_is_built : WhatIsMetIsBuilt
what_is_met_is_built met = (looked_up met, builds_sources met, all_found met met (λ m k. k))

-- so what holds of a run holds for some
pub read_some : {P : Builds Body → Type 0} → AsRead P → (builds : Builds Body) × BuildsSources builds × P builds
read_some r = let b = what_is_met_is_built r.met in (b.0, b.1, r.holds b.0 b.1 b.2)
