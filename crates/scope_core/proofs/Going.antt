-- Lists of parts that are gone through one by one, each of which is changed.
use Rattle.std.proofs.Common.{arith, ℕ, ◌+◌, ◌≡◌, ◌≤◌, ◌<◌, List, [], ◌∷◌, ◌++◌, Vec, Global, refl, sym, ap, ap₂, ◌∙◌, length, map, take, drop, append_assoc}
use Rattle.std.specs.Prelude.{slice_index_or, slice_set}
use Rattle.std.proofs.lemmas.List.{drop_more, length-set, get_or-set_other, drop-set-lt, take_more_set, take_all, drop_all, map-append}
use Rattle.scope_core.specs.Scopes.{Frame}

-- the functions around after all parts
abbrev pub after_all : {X : Type 0} → (List Frame → X → List Frame) → List Frame → List X → List Frame
after_all after frames [] = frames
after_all after frames (x ∷ xs) = after_all after (after frames x) xs

abbrev pub settled_all : {X : Type 0} → (List Frame → X → List Frame) → (List Frame → X → X) → List Frame → List X → List X
settled_all after settled frames [] = []
settled_all after settled frames (x ∷ xs) = settled frames x ∷ settled_all after settled (after frames x) xs

-- what is left, from a place on, leads to where the whole led at the start
pub record IsGoing {X Y : Type 0} (P : X → Y) (after : List Frame → Y → List Frame) (settled : List Frame → Y → Y) (frames : List Frame) (xs : List X) (i : ℕ) (start : List Frame) (whole : List X) : Type 0 where
  pub leads : after_all after frames (map P (drop i xs)) ≡ after_all after start (map P whole)
  pub gives : map P (take i xs) ++ settled_all after settled frames (map P (drop i xs)) ≡ settled_all after settled start (map P whole)

pub begins : {X Y : Type 0} (P : X → Y) (after : List Frame → Y → List Frame) (settled : List Frame → Y → Y) (frames : List Frame) (xs : List X) → IsGoing P after settled frames xs 0 frames xs
begins P after settled frames xs = record { leads = refl; gives = refl }

pub going_on :
    {X Y : Type 0} {P : X → Y} {after : List Frame → Y → List Frame} {settled : List Frame → Y → Y}
    {frames frames' : List Frame} {xs : List X} {i : ℕ} {x' : X} {start : List Frame} {whole : List X} (d : X)
    → IsGoing P after settled frames xs i start whole → i < length xs
    → frames' ≡ after frames (P (slice_index_or xs i d)) → P x' ≡ settled frames (P (slice_index_or xs i d))
    → IsGoing P after settled frames' (slice_set xs i x') (i + 1) start whole
going_on {P = P} {after = after} {settled = settled} {frames = frames} {frames' = frames'} {xs = xs} {i = i} {x' = x'} d g h f p =
    let rest : drop (i + 1) (slice_set xs i x') ≡ drop (i + 1) xs = drop-set-lt (i + 1) xs i x' (omega arith) in
    let there : drop i xs ≡ slice_index_or xs i d ∷ drop (i + 1) xs = drop_more xs i d h in
    record {
      leads =
          ap₂ (λ fs ys. after_all after fs (map P ys)) f rest
          ∙ ap (λ ys. after_all after frames (map P ys)) (sym there)
          ∙ g.leads;
      gives =
          ap₂ (λ ys zs. map P ys ++ settled_all after settled frames' (map P zs)) (take_more_set xs i x' h) rest
          ∙ ap (λ ys. ys ++ settled_all after settled frames' (map P (drop (i + 1) xs))) (map-append P (take i xs) (x' ∷ []))
          ∙ append_assoc (map P (take i xs)) (P x' ∷ []) (settled_all after settled frames' (map P (drop (i + 1) xs)))
          ∙ ap₂ (λ y fs. map P (take i xs) ++ y ∷ settled_all after settled fs (map P (drop (i + 1) xs))) p f
          ∙ ap (λ ys. map P (take i xs) ++ settled_all after settled frames (map P ys)) (sym there)
          ∙ g.gives;
    }

pub append_nil : {X : Type 0} (xs : List X) → xs ++ [] ≡ xs
append_nil [] = refl
append_nil (x ∷ xs) = ap (λ ys. x ∷ ys) (append_nil xs)

pub gone_after :
    {X Y : Type 0} (P : X → Y) (after : List Frame → Y → List Frame) (settled : List Frame → Y → Y) (frames : List Frame) (xs : List X) (i : ℕ) (start : List Frame) (whole : List X)
    → length xs ≤ i → IsGoing P after settled frames xs i start whole → frames ≡ after_all after start (map P whole)
gone_after P after settled frames xs i start whole h g =
    ap (λ ys. after_all after frames (map P ys)) (sym (drop_all i xs h)) ∙ g.leads

pub gone_settled :
    {X Y : Type 0} (P : X → Y) (after : List Frame → Y → List Frame) (settled : List Frame → Y → Y) (frames : List Frame) (xs : List X) (i : ℕ) (start : List Frame) (whole : List X)
    → length xs ≤ i → IsGoing P after settled frames xs i start whole → map P xs ≡ settled_all after settled start (map P whole)
gone_settled P after settled frames xs i start whole h g =
    sym (append_nil (map P xs))
    ∙ ap₂ (λ ys zs. map P ys ++ settled_all after settled frames (map P zs)) (sym (take_all i xs h)) (sym (drop_all i xs h))
    ∙ g.gives

-- what is not reached yet is as before
abbrev pub IsUnvisited : {X : Type 0} → (xs ys : List X) (i : ℕ) → Type 0
IsUnvisited {X} xs ys i = (length xs ≡ length ys) × ((k : ℕ) (d : X) → i ≤ k → slice_index_or xs k d ≡ slice_index_or ys k d)

unvisited_on : {X : Type 0} (xs ys : List X) (i : ℕ) (x : X) → IsUnvisited xs ys i → IsUnvisited (slice_set xs i x) ys (i + 1)
unvisited_on xs ys i x h = (length-set xs i x ∙ h.0, λ k d l. get_or-set_other xs i k x d (omega (arith, l)) ∙ h.1 k d (omega (arith, l)))

pub goes_on :
    {X Y : Type 0} {P : X → Y} {after : List Frame → Y → List Frame} {settled : List Frame → Y → Y}
    {frames frames' : List Frame} {xs : List X} {i : ℕ} {x' : X} {start : List Frame} {whole : List X} (d : X) (ys : List X)
    → IsUnvisited xs ys i × IsGoing P after settled frames xs i start whole → i < length xs
    → frames' ≡ after frames (P (slice_index_or xs i d)) → P x' ≡ settled frames (P (slice_index_or xs i d))
    → IsUnvisited (slice_set xs i x') ys (i + 1) × IsGoing P after settled frames' (slice_set xs i x') (i + 1) start whole
goes_on {xs = xs} {i = i} {x' = x'} d ys g h f p = (unvisited_on xs ys i x' g.0, going_on d g.1 h f p)

-- a vector whose items were all written
written_back : {X : Type 0} (len : ℕ) (xs ys : List X) → len ≡ length ys → length xs ≡ length ys → take len (xs ++ drop (length xs) ys) ≡ xs
written_back len xs ys e l =
    ap (λ zs. take len (xs ++ zs)) (drop_all (length xs) ys (omega (arith, l)))
    ∙ ap (take len) (append_nil xs)
    ∙ take_all len xs (omega (arith, e, l))

-- a walk over the row of a tree that a list makes is one over the list
pub record WalksRow {Y R : Type 0} (row : List Y → R) (after : List Frame → Y → List Frame) (settled : List Frame → Y → Y) (after_row : List Frame → R → List Frame) (settled_row : List Frame → R → R) : Type 0 where
  pub leads : (frames : List Frame) (ys : List Y) → after_row frames (row ys) ≡ after_all after frames ys
  pub gives : (frames : List Frame) (ys : List Y) → settled_row frames (row ys) ≡ row (settled_all after settled frames ys)

-- the items of a vector were all gone through
pub gone_through :
    {X Y R : Type 0} {P : X → Y} {row : List Y → R} {after : List Frame → Y → List Frame} {settled : List Frame → Y → Y} {after_row : List Frame → R → List Frame} {settled_row : List Frame → R → R}
    {start frames : List Frame} {xs whole : List X} {i : ℕ}
    → WalksRow row after settled after_row settled_row → (v : Vec X Global) → IsGoing P after settled frames xs i start whole
    → length xs ≤ i → length xs ≡ length whole → whole ≡ v.items
    → (frames ≡ after_row start (row (map P v.items))) × (row (map P (take v.len (xs ++ drop (length xs) v.items))) ≡ settled_row start (row (map P v.items)))
gone_through {P = P} {row = row} {after = after} {settled = settled} {start = start} {frames = frames} {xs = xs} {whole = whole} {i = i} walks v g h l w = (
  gone_after P after settled frames xs i start whole h g
      ∙ ap (λ zs. after_all after start (map P zs)) w
      ∙ sym (walks.leads start (map P v.items)),
  ap (λ zs. row (map P zs)) (written_back v.len xs v.items (omega (arith, v.ok.0)) (l ∙ ap length w))
      ∙ ap row (gone_settled P after settled frames xs i start whole h g ∙ ap (λ zs. settled_all after settled start (map P zs)) w)
      ∙ sym (walks.gives start (map P v.items)),
)
