-- The first label of each name in the statements of a block.
use Rattle.std.proofs.Common.{arith, ℕ, zero, suc, ◌+◌, ◌-◌, ◌≡◌, ◌≤◌, ◌<◌, Bool, true, false, true≢false, List, [], ◌∷◌, Option, Some, None, refl, sym, ap, ap₂, ◌∙◌, if◌then◌else◌, is_some, length, map, max, take, drop, reverse, subst, nat_le, leb-true, leb-false}
use Rattle.std.specs.Prelude.{not, ◌&&◌, ◌||◌, nat_eq, nat_lt, slice_index_or, unwrap_or}
use Rattle.std.specs.Cmp.Lexicographic.{pointwise, nat_list_eq_equiv}
use Rattle.std.specs.HashMap.{HashMap, Updates}
use Rattle.std.specs.List.{list_any}
use Rattle.std.specs.Map.{KeepsOthers}
use Rattle.std.specs.Str.{bytes_eq}
use Rattle.std.specs.declared.vec.Vec.{Vec}
use Rattle.std.proofs.lemmas.Bool.{lt-ltb, le-ltb}
use Rattle.std.proofs.lemmas.List.{drop_all, drop_more, length-map}
use Rattle.std.proofs.lemmas.List.Sorted.{list_any-IsPermutation, IsPermutation-reverse}
use Rattle.std.proofs.lemmas.Slice.Eq.{bytes_eq-Decides}
use Rattle.tree_core.specs.Plain.{plain_stat}
use Rattle.tree_core.specs.Tree.{Stat, Label, stats}
use Rattle.tree_core.specs.declared.tree.Stat.{Stat as HeldStat}
use Rattle.scope_core.specs.Rules.{Found, Missing, Fine, Entering, is_label, declares_variable, is_empty_or_label, only_labels, find_behind}
use Rattle.lua_scope.specs.declared.index.LabelPlace.{LabelPlace}
use Rattle.lua_scope.specs.Indexed.{declared_behind, first_label, found_in, label_of, or_first, IsEndFrom}
use Rattle.scope_core.proofs.Holding.{front}
use Rattle.lua_scope.proofs.Looping.{mapped}

-- a statement that is no label adds nothing
pub no_label : (o : Option LabelPlace) (place : LabelPlace) → o ≡ or_first o false place
no_label None place = refl
no_label (Some l) place = refl

no_name : (o : Option LabelPlace) → is_some o ≡ false → o ≡ None
no_name None e = refl
no_name (Some l) e = absurd (true≢false e)

-- the name of a statement tells which label it is
abbrev pub is_name : List ℕ → Option (List ℕ) → Bool
is_name text None = false
is_name text (Some name) = bytes_eq name text

pub label_by_name : (text : List ℕ) (s : Stat) → is_label text s ≡ is_name text (label_of s)
label_by_name text (Label line name) = refl
label_by_name text _ = refl

-- A name that is added to an index.

module _ {A S : Type 0} where
  abbrev pub NameUpdated : (old new : HashMap (Vec ℕ A) LabelPlace S) → Vec ℕ A → LabelPlace → Type 0
  NameUpdated old new key place = Updates (λ a b. pointwise nat_eq a.items b.items) old new key (Some place)

  name_found : (old new : HashMap (Vec ℕ A) LabelPlace S) (key : Vec ℕ A) (name text : List ℕ) (place : LabelPlace) → key.items ≡ name → NameUpdated old new key place → bytes_eq name text ≡ true → found_in text new ≡ Some place
  name_found old new key name text place key_is up same = ap (λ t. found_in t new) (sym ((bytes_eq-Decides name text).0 same) ∙ sym key_is) ∙ up.1

  name_kept : (old new : HashMap (Vec ℕ A) LabelPlace S) (key : Vec ℕ A) (name text : List ℕ) (place : LabelPlace) → key.items ≡ name → NameUpdated old new key place → bytes_eq name text ≡ false → found_in text new ≡ found_in text old
  unfolding KeepsOthers
  name_kept old new key name text place key_is up other =
      up.3 (λ k. bytes_eq text k.items) (λ x y e. ap (λ l. bytes_eq l y.items) ((bytes_eq-Decides text x.items).0 e))
      (λ k e. ap (bytes_eq text) (sym ((bytes_eq-Decides key.items k.items).0 e) ∙ key_is) ∙ nat_list_eq_equiv.symm text name ∙ other)

  -- a name that is there already
  pub kept_first : (labels : HashMap (Vec ℕ A) LabelPlace S) (name text : List ℕ) (place : LabelPlace) → is_some (found_in name labels) ≡ true → found_in text labels ≡ or_first (found_in text labels) (bytes_eq name text) place
  kept_first labels name text place there = by (found_in text labels) refl (bytes_eq name text) refl
    where
      by : (o : Option LabelPlace) → found_in text labels ≡ o → (b : Bool) → bytes_eq name text ≡ b → o ≡ or_first o b place
      by (Some l) e b f = refl
      by None e false f = refl
      by None e true f =
          let none : is_some (found_in name labels) ≡ false = ap (λ t. is_some (found_in t labels)) ((bytes_eq-Decides name text).0 f) ∙ ap is_some e in
          absurd (true≢false (sym there ∙ none))

  -- and a new one
  pub added_first : (old new : HashMap (Vec ℕ A) LabelPlace S) (key : Vec ℕ A) (name text : List ℕ) (place : LabelPlace) → key.items ≡ name → is_some (found_in name old) ≡ false → NameUpdated old new key place
      → found_in text new ≡ or_first (found_in text old) (bytes_eq name text) place
  added_first old new key name text place key_is absent up = by (bytes_eq name text) refl
    where
      by : (b : Bool) → bytes_eq name text ≡ b → found_in text new ≡ or_first (found_in text old) b place
      by true e =
          let none : found_in text old ≡ None = no_name (found_in text old) (ap (λ t. is_some (found_in t old)) (sym ((bytes_eq-Decides name text).0 e)) ∙ absent) in
          name_found old new key name text place key_is up e ∙ ap (λ o. or_first o true place) (sym none)
      by false e = name_kept old new key name text place key_is up e ∙ no_label (found_in text old) place

-- An index of the statements that were passed: with what is left it gives the first label.

abbrev pub first_of : Option LabelPlace → Option LabelPlace → Option LabelPlace
first_of (Some known) further = Some known
first_of None further = further

first_step : (text : List ℕ) (o : Option LabelPlace) (at declared : ℕ) (s : Stat) (ss : List Stat)
    → first_of (or_first o (is_label text s) (record { at = at; declared = declared })) (first_label text (at + 1) (declared_behind s declared (at + 1)) ss) ≡ first_of o (first_label text at declared (s ∷ ss))
first_step text (Some l) at declared s ss = refl
first_step text None at declared s ss = by (is_label text s)
  where
    by : (b : Bool)
        → first_of (or_first None b (record { at = at; declared = declared })) (first_label text (at + 1) (declared_behind s declared (at + 1)) ss)
        ≡ (if b then Some (record { at = at; declared = declared }) else first_label text (at + 1) (declared_behind s declared (at + 1)) ss)
    by true = refl
    by false = refl

pub one_more_stat :
    (text : List ℕ) (o o' all : Option LabelPlace) (at declared declared' : ℕ) (xs : List Stat) (i : ℕ) (x : Stat)
    → i < length xs
    → x ≡ slice_index_or xs i x
    → o' ≡ or_first o (is_label text x) (record { at = at; declared = declared })
    → declared' ≡ declared_behind x declared (at + 1)
    → first_of o (first_label text at declared (drop i xs)) ≡ all
    → first_of o' (first_label text (at + 1) declared' (drop (i + 1) xs)) ≡ all
one_more_stat text o o' all at declared declared' xs i x inside is found later known =
    ap₂ (λ p n. first_of p (first_label text (at + 1) n (drop (i + 1) xs))) found later
    ∙ first_step text o at declared x (drop (i + 1) xs)
    ∙ sym (ap (λ ys. first_of o (first_label text at declared ys)) (front xs i x inside is))
    ∙ known

pub none_yet : (text : List ℕ) (o : Option LabelPlace) (xs : List Stat) → o ≡ None → first_of o (first_label text 0 0 xs) ≡ first_label text 0 0 xs
none_yet text o xs e = ap (λ p. first_of p (first_label text 0 0 xs)) e

pub no_more_stat : (text : List ℕ) (o all : Option LabelPlace) (at declared : ℕ) (xs : List Stat) (i : ℕ) → length xs ≤ i → first_of o (first_label text at declared (drop i xs)) ≡ all → o ≡ all
no_more_stat text o all at declared xs i over known =
    whole o ∙ ap (λ ys. first_of o (first_label text at declared ys)) (sym (drop_all i xs over)) ∙ known
  where
    whole : (p : Option LabelPlace) → p ≡ first_of p None
    whole None = refl
    whole (Some l) = refl

-- Whether a label stands before a place.

abbrev pub is_before : ℕ → Option LabelPlace → Bool
is_before n None = false
is_before n (Some l) = nat_lt l.at n

not_before : (text : List ℕ) (n at declared : ℕ) (xs : List Stat) → n ≤ at → is_before n (first_label text at declared xs) ≡ false
not_before text n at declared [] h = refl
not_before text n at declared (s ∷ ss) h = by (is_label text s) (not_before text n (at + 1) (declared_behind s declared (at + 1)) ss (omega (arith, h)))
  where
    by : (b : Bool) → is_before n (first_label text (at + 1) (declared_behind s declared (at + 1)) ss) ≡ false
        → is_before n (if b then Some (record { at = at; declared = declared }) else first_label text (at + 1) (declared_behind s declared (at + 1)) ss) ≡ false
    by true further = le-ltb at n h
    by false further = further

among_first : (text : List ℕ) (n m at declared : ℕ) (xs : List Stat) → m ≡ at + n → list_any (is_label text) (take n xs) ≡ is_before m (first_label text at declared xs)
among_first text zero m at declared xs e = sym (not_before text m at declared xs (omega (arith, e)))
among_first text (suc n) m at declared [] e = refl
among_first text (suc n) m at declared (s ∷ ss) e = by (is_label text s) (among_first text n m (at + 1) (declared_behind s declared (at + 1)) ss (omega (arith, e)))
  where
    by : (b : Bool) → list_any (is_label text) (take n ss) ≡ is_before m (first_label text (at + 1) (declared_behind s declared (at + 1)) ss)
        → (b || list_any (is_label text) (take n ss)) ≡ is_before m (if b then Some (record { at = at; declared = declared }) else first_label text (at + 1) (declared_behind s declared (at + 1)) ss)
    by true further = sym (lt-ltb at m (omega (arith, e)))
    by false further = further

pub stands_in : (text : List ℕ) (n : ℕ) (xs : List Stat) → list_any (is_label text) (reverse (take n xs)) ≡ is_before n (first_label text 0 0 xs)
stands_in text n xs =
    sym (list_any-IsPermutation (is_label text) (take n xs) (reverse (take n xs)) (IsPermutation-reverse (take n xs)))
    ∙ among_first text n n 0 0 xs (omega arith)

-- Where a `goto` looks forward from a place.

is_none : (b : Bool) (place : LabelPlace) (o : Option LabelPlace) → (if b then Some place else o) ≡ None → (b ≡ false) × (o ≡ None)
is_none true place o e = absurd (cc)
is_none false place o e = (refl, e)

abbrev pub looked : List ℕ → (entered ends : Bool) → Stat → List Stat → Bool → Found
looked text entered ends s ss b =
    if b then (if entered && not (ends && only_labels (stats ss)) then Entering else Fine) else find_behind text (entered || declares_variable s) ends (stats ss)

pub missing_behind : (text : List ℕ) (at declared n : ℕ) (entered ends : Bool) (xs : List Stat) → first_label text at declared xs ≡ None → find_behind text entered ends (stats (drop n xs)) ≡ Missing
missing_behind text at declared zero entered ends [] e = refl
missing_behind text at declared (suc n) entered ends [] e = refl
missing_behind text at declared zero entered ends (s ∷ ss) e =
    let no = is_none (is_label text s) (record { at = at; declared = declared }) (first_label text (at + 1) (declared_behind s declared (at + 1)) ss) e in
    ap (looked text entered ends s ss) no.0
    ∙ missing_behind text (at + 1) (declared_behind s declared (at + 1)) zero (entered || declares_variable s) ends ss no.1
missing_behind text at declared (suc n) entered ends (s ∷ ss) e =
    let no = is_none (is_label text s) (record { at = at; declared = declared }) (first_label text (at + 1) (declared_behind s declared (at + 1)) ss) e in
    missing_behind text (at + 1) (declared_behind s declared (at + 1)) n entered ends ss no.1

the_place : (place l : LabelPlace) → Some place ≡ Some l → place ≡ l
the_place place l e = ap (λ o. unwrap_or o place) e

tail_of : (xs : List Stat) (i : ℕ) (s : Stat) (ss : List Stat) → drop i xs ≡ s ∷ ss → drop (i + 1) xs ≡ ss
tail_of [] zero s ss e = absurd (cc)
tail_of [] (suc i) s ss e = absurd (cc)
tail_of (x ∷ xs) zero s ss e = ap (drop 1) e
tail_of (x ∷ xs) (suc i) s ss e =
    let next : suc i + 1 ≡ suc (i + 1) = omega arith in
    ap (λ k. drop k (x ∷ xs)) next ∙ tail_of xs i s ss e

or_true : (b : Bool) → (b || true) ≡ true
or_true true = refl
or_true false = refl

or_false : (b : Bool) → (b || false) ≡ b
or_false true = refl
or_false false = refl

-- a variable was declared behind a place where the last one was declared behind it
declared_since : (b : Bool) (n declared i : ℕ) → n ≤ i → (nat_lt n declared || b) ≡ nat_lt n (if b then i + 1 else declared)
declared_since true n declared i h = or_true (nat_lt n declared) ∙ sym (lt-ltb n (i + 1) (omega (arith, h)))
declared_since false n declared i h = or_false (nat_lt n declared)

declared_within : (b : Bool) (declared i : ℕ) → declared ≤ i → (if b then i + 1 else declared) ≤ i + 1
declared_within true declared i h = omega arith
declared_within false declared i h = omega (arith, h)

-- from a statement on that stands behind the place
ahead : (text : List ℕ) (all : List Stat) (ends : Bool) (n i declared : ℕ) (xs : List Stat) (l : LabelPlace) → n ≤ i → drop i all ≡ xs → first_label text i declared xs ≡ Some l
    → find_behind text (nat_lt n declared) ends (stats xs) ≡ find_behind text (nat_lt n l.declared) ends (stats (drop (max n l.at) all))
ahead text all ends n i declared [] l h here e = absurd (cc)
ahead text all ends n i declared (s ∷ ss) l h here e =
    by (is_label text s) refl e (ahead text all ends n (i + 1) (declared_behind s declared (i + 1)) ss l (omega (arith, h)) (tail_of all i s ss here))
  where
    by : (b : Bool) → is_label text s ≡ b
        → (if b then Some (record { at = i; declared = declared }) else first_label text (i + 1) (declared_behind s declared (i + 1)) ss) ≡ Some l
        → (first_label text (i + 1) (declared_behind s declared (i + 1)) ss ≡ Some l
        → find_behind text (nat_lt n (declared_behind s declared (i + 1))) ends (stats ss) ≡ find_behind text (nat_lt n l.declared) ends (stats (drop (max n l.at) all)))
        → find_behind text (nat_lt n declared) ends (stats (s ∷ ss)) ≡ find_behind text (nat_lt n l.declared) ends (stats (drop (max n l.at) all))
    by true is found again =
        let start : i ≡ max n i = omega (arith, h) in
        ap (λ ys. find_behind text (nat_lt n declared) ends (stats ys)) (sym here)
        ∙ ap (λ m. find_behind text (nat_lt n declared) ends (stats (drop m all))) start
        ∙ ap (λ (p : LabelPlace). find_behind text (nat_lt n p.declared) ends (stats (drop (max n p.at) all))) (the_place (record { at = i; declared = declared }) l found)
    by false is found again =
        ap (looked text (nat_lt n declared) ends s ss) is
        ∙ ap (λ b. find_behind text b ends (stats ss)) (declared_since (declares_variable s) n declared i h)
        ∙ again found

-- from a statement on that stands before the place, or at it
up_to : (text : List ℕ) (all : List Stat) (ends : Bool) (n k i declared : ℕ) (xs : List Stat) (l : LabelPlace) → n ≡ i + k → declared ≤ i → drop i all ≡ xs → first_label text i declared xs ≡ Some l
    → find_behind text false ends (stats (drop n all)) ≡ find_behind text (nat_lt n l.declared) ends (stats (drop (max n l.at) all))
up_to text all ends n zero i declared xs l sum within here e =
    let same : n ≡ i = omega (arith, sum) in
    ap (λ m. find_behind text false ends (stats (drop m all))) same
    ∙ ap (λ ys. find_behind text false ends (stats ys)) here
    ∙ ap (λ b. find_behind text b ends (stats xs)) (sym (le-ltb n declared (omega (arith, same, within))))
    ∙ ahead text all ends n i declared xs l (omega (arith, same)) here e
up_to text all ends n (suc k) i declared [] l sum within here e = absurd (cc)
up_to text all ends n (suc k) i declared (s ∷ ss) l sum within here e =
    by (is_label text s) e
    (up_to text all ends n k (i + 1) (declared_behind s declared (i + 1)) ss l (omega (arith, sum)) (declared_within (declares_variable s) declared i within) (tail_of all i s ss here))
  where
    by : (b : Bool)
        → (if b then Some (record { at = i; declared = declared }) else first_label text (i + 1) (declared_behind s declared (i + 1)) ss) ≡ Some l
        → (first_label text (i + 1) (declared_behind s declared (i + 1)) ss ≡ Some l
        → find_behind text false ends (stats (drop n all)) ≡ find_behind text (nat_lt n l.declared) ends (stats (drop (max n l.at) all)))
        → find_behind text false ends (stats (drop n all)) ≡ find_behind text (nat_lt n l.declared) ends (stats (drop (max n l.at) all))
    by true found again =
        let start : n ≡ max n i = omega (arith, sum) in
        ap₂ (λ b m. find_behind text b ends (stats (drop m all))) (sym (le-ltb n declared (omega (arith, sum, within)))) start
        ∙ ap (λ (p : LabelPlace). find_behind text (nat_lt n p.declared) ends (stats (drop (max n p.at) all))) (the_place (record { at = i; declared = declared }) l found)
    by false found again = again found

-- a `goto` looks from the first label of its name on
pub found_ahead : (text : List ℕ) (all : List Stat) (ends : Bool) (n : ℕ) (l : LabelPlace) → first_label text 0 0 all ≡ Some l
    → find_behind text false ends (stats (drop n all)) ≡ find_behind text (nat_lt n l.declared) ends (stats (drop (max n l.at) all))
found_ahead text all ends n l e = up_to text all ends n n 0 0 all l (omega arith) (omega arith) refl e

-- From where on all statements of a block do nothing.

abbrev pub AllDone : List Stat → ℕ → Type 0
AllDone xs from = (i : ℕ) → from ≤ i → only_labels (stats (drop i xs)) ≡ true

pub done_at_end : (xs : List Stat) (from : ℕ) → length xs ≤ from → AllDone xs from
done_at_end xs from over i h = ap (λ ys. only_labels (stats ys)) (drop_all i xs (omega (arith, over, h)))

pub one_more_done : (xs : List Stat) (from : ℕ) (x : Stat) → 0 < from → from ≤ length xs → x ≡ slice_index_or xs (from - 1) x → is_empty_or_label x ≡ true → AllDone xs from → AllDone xs (from - 1)
one_more_done xs from x some inside is e all i h = by (nat_le from i) refl
  where
    by : (b : Bool) → nat_le from i ≡ b → only_labels (stats (drop i xs)) ≡ true
    by true more = all i (leb-true from i more)
    by false here =
        let less = leb-false from i here in
        let last : i ≡ from - 1 = omega (arith, less, h, some) in
        ap (λ ys. only_labels (stats ys)) (front xs i x (omega (arith, less, inside)) (subst (λ n. x ≡ slice_index_or xs n x) (sym last) is))
        ∙ ap (λ b. b && only_labels (stats (drop (i + 1) xs))) e ∙ all (i + 1) (omega (arith, last, some))

and_false : (b c : Bool) → c ≡ false → (b && c) ≡ false
and_false true c e = e
and_false false c e = refl

done_before : (xs : List Stat) (i k : ℕ) (x : Stat) → i + k < length xs → x ≡ slice_index_or xs (i + k) x → is_empty_or_label x ≡ false → only_labels (stats (drop i xs)) ≡ false
done_before xs i zero x inside is e =
    let last : i + zero ≡ i = omega arith in
    ap (λ ys. only_labels (stats ys)) (front xs i x (omega (arith, inside)) (subst (λ n. x ≡ slice_index_or xs n x) last is)) ∙ ap (λ b. b && only_labels (stats (drop (i + 1) xs))) e
done_before xs i (suc k) x inside is e =
    let next : i + suc k ≡ i + 1 + k = omega arith in
    ap (λ ys. only_labels (stats ys)) (drop_more xs i x (omega (arith, inside)))
    ∙ and_false (is_empty_or_label (slice_index_or xs i x)) (only_labels (stats (drop (i + 1) xs))) (done_before xs (i + 1) k x (omega (arith, inside)) (subst (λ n. x ≡ slice_index_or xs n x) next is) e)

pub done_no_more : (xs : List Stat) (from : ℕ) (x : Stat) → 0 < from → from ≤ length xs → x ≡ slice_index_or xs (from - 1) x → is_empty_or_label x ≡ false → AllDone xs from → IsEndFrom from xs
done_no_more xs from x some inside is e all i = by (nat_le from i) refl
  where
    by : (b : Bool) → nat_le from i ≡ b → only_labels (stats (drop i xs)) ≡ b
    by true more = all i (leb-true from i more)
    by false here =
        let less = leb-false from i here in
        let last : from - 1 ≡ i + (from - 1 - i) = omega (arith, less, some) in
        done_before xs i (from - 1 - i) x (omega (arith, last, inside, some)) (subst (λ n. x ≡ slice_index_or xs n x) last is) e

-- both, of statements as they are held

pub item_done : (items : List HeldStat) (from : ℕ) (x : HeldStat) → 0 < from → from ≤ length items → x ≡ slice_index_or items (from - 1) x → is_empty_or_label (plain_stat x) ≡ true
    → AllDone (map plain_stat items) from → AllDone (map plain_stat items) (from - 1)
item_done items from x some inside is e all =
    one_more_done (map plain_stat items) from (plain_stat x) some (subst (λ m. from ≤ m) (sym (length-map items plain_stat)) inside) (mapped plain_stat items (from - 1) x (omega (arith, some, inside)) is) e all

pub item_ends : (items : List HeldStat) (from : ℕ) (x : HeldStat) → 0 < from → from ≤ length items → x ≡ slice_index_or items (from - 1) x → is_empty_or_label (plain_stat x) ≡ false
    → AllDone (map plain_stat items) from → IsEndFrom from (map plain_stat items)
item_ends items from x some inside is e all =
    done_no_more (map plain_stat items) from (plain_stat x) some (subst (λ m. from ≤ m) (sym (length-map items plain_stat)) inside) (mapped plain_stat items (from - 1) x (omega (arith, some, inside)) is) e all
