-- Blocks and statements that are looked through one by one.
use Rattle.std.proofs.Common.{ℕ, ◌+◌, ◌-◌, ◌≡◌, ◌≤◌, ◌<◌, true, false, List, [], ◌∷◌, ap, ◌∙◌, length, map, take, drop}
use Rattle.std.specs.Prelude.{slice_index_or, ◌||◌}
use Rattle.std.specs.List.{list_any}
use Rattle.std.proofs.lemmas.List.{get_or-map, length-map, drop_more, drop_all}
use Rattle.tree_core.specs.declared.tree.Stat.{Stat}
use Rattle.tree_core.specs.Plain.{plain_stat}
use Rattle.scope_core.specs.Scopes.{Around}
use Rattle.scope_core.specs.Rules as rules
use Rattle.scope_core.specs.Rules.{is_label, find_label, find_in, stands_before, or_further}
use Rattle.scope_core.proofs.Variables.{split_last}
use Rattle.lua_scope.specs.declared.labels.BlockPlace.{BlockPlace}
use Rattle.lua_scope.specs.Blocks.{around_of, arounds}

-- what is asked of the blocks comes to what it comes to of those that are left
abbrev pub IsLeft : {A : Type 0} → (List Around → A) → (count : ℕ) → List BlockPlace → Type 0
IsLeft f count blocks = (count ≤ length blocks) × (f (arounds (take count blocks)) ≡ f (arounds blocks))

last_around : (r : ℕ) (bs : List BlockPlace) (d : BlockPlace) → 0 < r → r ≤ length bs → arounds (take r bs) ≡ around_of (slice_index_or bs (r - 1) d) ∷ arounds (take (r - 1) bs)
last_around r bs d p h = ap (map around_of) (split_last r bs d p h)

pub missed : (text : List ℕ) (r : ℕ) (bs : List BlockPlace) (d : BlockPlace) → 0 < r → r ≤ length bs → find_in text (around_of (slice_index_or bs (r - 1) d)) ≡ rules.Missing → find_label text (arounds (take r bs)) ≡ find_label text (arounds (take (r - 1) bs))
missed text r bs d p h e =
    ap (find_label text) (last_around r bs d p h)
    ∙ ap (λ f. or_further f (find_label text (arounds (take (r - 1) bs)))) e

pub found_fine : (text : List ℕ) (r : ℕ) (bs : List BlockPlace) (d : BlockPlace) → 0 < r → r ≤ length bs → find_in text (around_of (slice_index_or bs (r - 1) d)) ≡ rules.Fine → find_label text (arounds (take r bs)) ≡ rules.Fine
found_fine text r bs d p h e =
    ap (find_label text) (last_around r bs d p h)
    ∙ ap (λ f. or_further f (find_label text (arounds (take (r - 1) bs)))) e

pub found_entering : (text : List ℕ) (r : ℕ) (bs : List BlockPlace) (d : BlockPlace) → 0 < r → r ≤ length bs → find_in text (around_of (slice_index_or bs (r - 1) d)) ≡ rules.Entering → find_label text (arounds (take r bs)) ≡ rules.Entering
found_entering text r bs d p h e =
    ap (find_label text) (last_around r bs d p h)
    ∙ ap (λ f. or_further f (find_label text (arounds (take (r - 1) bs)))) e

pub before_here : (text : List ℕ) (r : ℕ) (bs : List BlockPlace) (d : BlockPlace) → 0 < r → r ≤ length bs → list_any (is_label text) (around_of (slice_index_or bs (r - 1) d)).before ≡ true → stands_before text (arounds (take r bs)) ≡ true
before_here text r bs d p h e =
    ap (stands_before text) (last_around r bs d p h)
    ∙ ap (λ b. b || stands_before text (arounds (take (r - 1) bs))) e

pub before_further : (text : List ℕ) (r : ℕ) (bs : List BlockPlace) (d : BlockPlace) → 0 < r → r ≤ length bs → list_any (is_label text) (around_of (slice_index_or bs (r - 1) d)).before ≡ false → stands_before text (arounds (take r bs)) ≡ stands_before text (arounds (take (r - 1) bs))
before_further text r bs d p h e =
    ap (stands_before text) (last_around r bs d p h)
    ∙ ap (λ b. b || stands_before text (arounds (take (r - 1) bs))) e

-- statements from a place on

pub next_stat : (i : ℕ) (ss : List Stat) (d : Stat) → i < length ss → drop i (map plain_stat ss) ≡ plain_stat (slice_index_or ss i d) ∷ drop (i + 1) (map plain_stat ss)
next_stat i ss d h =
    drop_more (map plain_stat ss) i (plain_stat d) (rw (length-map ss plain_stat) h)
    ∙ ap (λ s. s ∷ drop (i + 1) (map plain_stat ss)) (get_or-map plain_stat ss i d (plain_stat d) h)

pub no_stat : (i : ℕ) (ss : List Stat) → length ss ≤ i → drop i (map plain_stat ss) ≡ []
no_stat i ss h = drop_all i (map plain_stat ss) (rw (length-map ss plain_stat) h)
