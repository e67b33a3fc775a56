-- What the first label of a name tells of a block around a place.
use Rattle.std.proofs.Common.{arith, ℕ, ◌-◌, ◌+◌, ◌≡◌, ◌≤◌, ◌<◌, Bool, true, false, List, [], ◌∷◌, ◌++◌, Some, None, sym, ap, ap₂, ◌∙◌, if◌then◌else◌, length, length-append, max, map, drop}
use Rattle.std.specs.Prelude.{nat_lt, slice_index_or, slice_set}
use Rattle.std.specs.List.{list_any}
use Rattle.std.proofs.lemmas.Bool.{lt-ltb, le-ltb}
use Rattle.std.proofs.Math.Seq.{get_or-append_seam, set-append_seam}
use Rattle.tree_core.specs.Tree.{Stat, stats}
use Rattle.tree_core.specs.Plain.{plain_stat}
use Rattle.scope_core.specs.Rules.{Missing, Fine, is_label, find_behind, find_in}
use Rattle.lua_scope.specs.declared.index.LabelPlace.{LabelPlace}
use Rattle.lua_scope.specs.declared.labels.BlockPlace.{BlockPlace}
use Rattle.lua_scope.specs.Blocks.{around_of, moved}
use Rattle.lua_scope.specs.Indexed.{first_label}
use Rattle.lua_scope.proofs.Indexing.{is_before, stands_in, missing_behind, found_ahead}

abbrev pub own_stats : BlockPlace → List Stat
own_stats block = map plain_stat block.stats.now.items

pub passed_some : (text : List ℕ) (p b : BlockPlace) (l : LabelPlace) → p ≡ b → first_label text 0 0 (own_stats b) ≡ Some l → nat_lt l.at p.before ≡ list_any (is_label text) (around_of b).before
passed_some text p b l same first =
    ap (λ (q : BlockPlace). nat_lt l.at q.before) same
    ∙ sym (stands_in text b.before (own_stats b) ∙ ap (is_before b.before) first)

pub passed_none : (text : List ℕ) (b : BlockPlace) → first_label text 0 0 (own_stats b) ≡ None → false ≡ list_any (is_label text) (around_of b).before
passed_none text b none = sym (stands_in text b.before (own_stats b) ∙ ap (is_before b.before) none)

-- what a `goto` finds, where it is known whether a label stands before it
found_by : (text : List ℕ) (b : BlockPlace) (passed : Bool) → list_any (is_label text) (around_of b).before ≡ passed → (if passed then Fine else find_behind text false b.ends_scope (around_of b).behind) ≡ find_in text (around_of b)
found_by text b passed e = ap (λ c. if c then Fine else find_behind text false b.ends_scope (around_of b).behind) (sym e)

pub missing_in : (text : List ℕ) (b : BlockPlace) → first_label text 0 0 (own_stats b) ≡ None → Missing ≡ find_in text (around_of b)
missing_in text b none =
    sym (missing_behind text 0 0 b.behind false b.ends_scope (own_stats b) none) ∙ found_by text b false (sym (passed_none text b none))

pub fine_before : (text : List ℕ) (p b : BlockPlace) (l : LabelPlace) → p ≡ b → first_label text 0 0 (own_stats b) ≡ Some l → l.at < p.before → Fine ≡ find_in text (around_of b)
fine_before text p b l same first less = found_by text b true (sym (passed_some text p b l same first) ∙ lt-ltb l.at p.before less)

pub found_behind : (text : List ℕ) (p b : BlockPlace) (l : LabelPlace) (start : ℕ) (declared : Bool) → p ≡ b → first_label text 0 0 (own_stats b) ≡ Some l → p.before ≤ l.at → start ≡ max p.behind l.at → declared ≡ nat_lt p.behind l.declared
    → find_behind text declared p.ends_scope (stats (drop start (own_stats p))) ≡ find_in text (around_of b)
found_behind text p b l start declared same first far start_is declared_is =
    ap₂ (λ c m. find_behind text c p.ends_scope (stats (drop m (own_stats p)))) declared_is start_is
    ∙ ap (λ (q : BlockPlace). find_behind text (nat_lt q.behind l.declared) q.ends_scope (stats (drop (max q.behind l.at) (own_stats q)))) same
    ∙ sym (found_ahead text (own_stats b) b.ends_scope b.behind l first)
    ∙ found_by text b false (sym (passed_some text p b l same first) ∙ le-ltb l.at p.before far)

-- The innermost block goes to another place.

pub no_last : (xs front : List BlockPlace) (block : BlockPlace) → xs ≡ front ++ block ∷ [] → length xs ≡ 0 → ⊥
no_last xs front block e none =
    let size : length xs ≡ length front + 1 = ap length e ∙ length-append front (block ∷ []) in
    omega (arith, size, none)

pub moved_last : (xs front : List BlockPlace) (block x y : BlockPlace) (n before behind : ℕ) → xs ≡ front ++ block ∷ [] → n ≡ length xs → x ≡ slice_index_or xs (n - 1) x → y ≡ moved x before behind
    → slice_set xs (n - 1) y ≡ front ++ moved block before behind ∷ []
moved_last xs front block x y n before behind e n_is read y_is =
    let size : length xs ≡ length front + 1 = ap length e ∙ length-append front (block ∷ []) in
    let last : n - 1 ≡ length front = omega (arith, n_is, size) in
    let x_is : x ≡ block = read ∙ ap₂ (λ k ys. slice_index_or ys k x) last e ∙ get_or-append_seam front block [] x in
    ap₂ (λ k ys. slice_set ys k y) last e
    ∙ set-append_seam front block [] y
    ∙ ap (λ z. front ++ z ∷ []) (y_is ∙ ap (λ b. moved b before behind) x_is)
