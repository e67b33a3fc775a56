-- What is in scope, and which statements are void, one by one.
use Rattle.std.proofs.Common.{ℕ, zero, suc, ◌+◌, ◌-◌, ◌≡◌, ◌≤◌, ◌<◌, Bool, true, false, List, refl, sym, ap, ◌∙◌, subst, length, map, drop, nat_le, leb-true, leb-false, arith}
use Rattle.std.specs.Prelude.{slice_index_or, ◌||◌}
use Rattle.std.proofs.lemmas.List.{drop_all, drop_more}
use Rattle.tree_core.specs.declared.name.Declared.{Declared}
use Rattle.tree_core.specs.declared.tree.Stat as Rust
use Rattle.tree_core.specs.Tree.{Stats, MoreStats, Stat, Empty, Label, stats}
use Rattle.tree_core.specs.Plain.{plain_stat}
use Rattle.tree_terms.specs.Labels.{are_void}
use Rattle.tree_activation.specs.Statements.{is_closed}
use Rattle.code_of.specs.Levels.{has_closed, closing_after, closings_after}
use Rattle.code_of.proofs.Marked.{all_closing}
use Rattle.code_stat.specs.Forms.{is_void}
use Rattle.code_stat.proofs.Going.{front}

pub closed_further :
    (names : List Declared) (i : ℕ) (d : Declared) (all : Bool) → i < length names → d ≡ slice_index_or names i d → is_closed d.attrib ≡ false → has_closed (drop i names) ≡ all → has_closed (drop (i + 1) names) ≡ all
closed_further names i d all inside is e known = sym (ap has_closed (front names i d inside is) ∙ ap (λ b. b || has_closed (drop (i + 1) names)) e) ∙ known

pub closed_here :
    (names : List Declared) (i : ℕ) (d : Declared) (all : Bool) → i < length names → d ≡ slice_index_or names i d → is_closed d.attrib ≡ true → has_closed (drop i names) ≡ all → true ≡ all
closed_here names i d all inside is e known = sym (ap has_closed (front names i d inside is) ∙ ap (λ b. b || has_closed (drop (i + 1) names)) e) ∙ known

-- variables to be closed among statements

marked_front :
    (items : List Rust.Stat) (i : ℕ) (x : Rust.Stat) → i < length items → x ≡ slice_index_or items i x
    → closings_after (stats (map plain_stat (drop i items))) false ≡ closings_after (stats (map plain_stat (drop (i + 1) items))) (closing_after (plain_stat x) false)
marked_front items i x inside is = ap (λ l. closings_after (stats (map plain_stat l)) false) (front items i x inside is)

pub marked_further :
    (items : List Rust.Stat) (i : ℕ) (x : Rust.Stat) (all : Bool) → i < length items → x ≡ slice_index_or items i x → closing_after (plain_stat x) false ≡ false
    → closings_after (stats (map plain_stat (drop i items))) false ≡ all → closings_after (stats (map plain_stat (drop (i + 1) items))) false ≡ all
marked_further items i x all inside is e known =
    sym (marked_front items i x inside is ∙ ap (closings_after (stats (map plain_stat (drop (i + 1) items)))) e) ∙ known

pub marked_here :
    (items : List Rust.Stat) (i : ℕ) (x : Rust.Stat) (all : Bool) → i < length items → x ≡ slice_index_or items i x → closing_after (plain_stat x) false ≡ true
    → closings_after (stats (map plain_stat (drop i items))) false ≡ all → true ≡ all
marked_here items i x all inside is e known =
    sym (marked_front items i x inside is ∙ ap (closings_after (stats (map plain_stat (drop (i + 1) items)))) e ∙ all_closing (stats (map plain_stat (drop (i + 1) items)))) ∙ known

void_step : (s : Stat) (ss : Stats) → is_void s ≡ true → are_void (MoreStats s ss) ≡ are_void ss
void_step (Empty line) ss h = refl
void_step (Label line name) ss h = refl
void_step _ ss h = absurd (cc)

void_stop : (s : Stat) (ss : Stats) → is_void s ≡ false → are_void (MoreStats s ss) ≡ false
void_stop (Empty line) ss h = absurd (cc)
void_stop (Label line name) ss h = absurd (cc)
void_stop _ ss h = refl

-- which statements of a list are void to its end

void_behind : (s : Stat) (ss : Stats) → are_void ss ≡ false → are_void (MoreStats s ss) ≡ false
void_behind s ss h = by (is_void s) refl
  where
    by : (b : Bool) → is_void s ≡ b → are_void (MoreStats s ss) ≡ false
    by true e = void_step s ss e ∙ h
    by false e = void_stop s ss e

abbrev pub VoidFrom : List Rust.Stat → (from i : ℕ) → Type 0
VoidFrom list from i = are_void (stats (map plain_stat (drop i list))) ≡ nat_le from i

-- from a place on all are void
abbrev pub AllVoid : List Rust.Stat → ℕ → Type 0
AllVoid list from = (i : ℕ) → from ≤ i → are_void (stats (map plain_stat (drop i list))) ≡ true

pub void_end : (list : List Rust.Stat) (from : ℕ) → length list ≤ from → AllVoid list from
void_end list from over i h = ap (λ l. are_void (stats (map plain_stat l))) (drop_all i list (omega (arith, over, h)))

pub void_more : (list : List Rust.Stat) (from : ℕ) (x : Rust.Stat) → 0 < from → from ≤ length list → x ≡ slice_index_or list (from - 1) x → is_void (plain_stat x) ≡ true → AllVoid list from → AllVoid list (from - 1)
void_more list from x some inside is e all i h = by (nat_le from i) refl
  where
    by : (b : Bool) → nat_le from i ≡ b → are_void (stats (map plain_stat (drop i list))) ≡ true
    by true more = all i (leb-true from i more)
    by false here =
        let less = leb-false from i here in
        let last : i ≡ from - 1 = omega (arith, less, h, some) in
        ap (λ l. are_void (stats (map plain_stat l))) (front list i x (omega (arith, less, inside)) (subst (λ n. x ≡ slice_index_or list n x) (sym last) is))
        ∙ void_step (plain_stat x) (stats (map plain_stat (drop (i + 1) list))) e ∙ all (i + 1) (omega (arith, last, some))

-- a statement that is not void stands behind all in front of it
void_before : (list : List Rust.Stat) (i k : ℕ) (x : Rust.Stat) → i + k < length list → x ≡ slice_index_or list (i + k) x → is_void (plain_stat x) ≡ false → are_void (stats (map plain_stat (drop i list))) ≡ false
void_before list i zero x inside is e =
    let last : i + zero ≡ i = omega arith in
    ap (λ l. are_void (stats (map plain_stat l))) (front list i x (omega (arith, inside)) (subst (λ n. x ≡ slice_index_or list n x) last is)) ∙ void_stop (plain_stat x) (stats (map plain_stat (drop (i + 1) list))) e
void_before list i (suc k) x inside is e =
    let next : i + suc k ≡ i + 1 + k = omega arith in
    ap (λ l. are_void (stats (map plain_stat l))) (drop_more list i x (omega (arith, inside)))
    ∙ void_behind (plain_stat (slice_index_or list i x)) (stats (map plain_stat (drop (i + 1) list))) (void_before list (i + 1) k x (omega (arith, inside)) (subst (λ n. x ≡ slice_index_or list n x) next is) e)

pub void_ends : (list : List Rust.Stat) (from : ℕ) (x : Rust.Stat) → 0 < from → from ≤ length list → x ≡ slice_index_or list (from - 1) x → is_void (plain_stat x) ≡ false → AllVoid list from → (i : ℕ) → VoidFrom list from i
void_ends list from x some inside is e all i = by (nat_le from i) refl
  where
    by : (b : Bool) → nat_le from i ≡ b → are_void (stats (map plain_stat (drop i list))) ≡ b
    by true more = all i (leb-true from i more)
    by false here =
        let less = leb-false from i here in
        let last : from - 1 ≡ i + (from - 1 - i) = omega (arith, less, some) in
        void_before list i (from - 1 - i) x (omega (arith, last, inside, some)) (subst (λ n. x ≡ slice_index_or list n x) last is) e
