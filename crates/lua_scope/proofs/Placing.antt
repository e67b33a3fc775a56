-- The blocks around a place, where one more is gone into.
use Rattle.std.proofs.Common.{arith, ◌≡◌, ◌+◌, ◌-◌, ◌<◌, ℕ, Bool, Option, List, [], ◌∷◌, ◌++◌, sym, ap, ap₂, ◌∙◌, length, length-append, map, reverse, take, drop}
use Rattle.std.specs.Prelude.{slice_index_or}
use Rattle.std.proofs.Math.Seq.{take-append_seam}
use Rattle.std.proofs.lemmas.List.{reverse-append}
use Rattle.tree_core.specs.declared.tree.Stat as Rust
use Rattle.tree_core.specs.Tree.{Stat, stats}
use Rattle.tree_core.specs.Plain.{plain_stat}
use Rattle.scope_core.specs.declared.violation.Violation.{Violation}
use Rattle.scope_core.specs.Scopes.{Frame, Around, Scope, declare_all, declared_by, behind_stats}
use Rattle.scope_core.specs.Parts.{Statement, with_block}
use Rattle.scope_core.specs.Rules.{part_violations}
use Rattle.lua_scope.specs.declared.labels.BlockPlace.{BlockPlace}
use Rattle.lua_scope.specs.declared.checks.Flags.{Flags}
use Rattle.lua_scope.specs.Blocks.{around_of, arounds, moved, scope_at}
use Rattle.lua_scope.specs.Met.{meet_all, met_stat, met_stats}
use Rattle.lua_scope.proofs.Looping.{passed}
use Rattle.scope_core.proofs.Holding.{front}

pub one_more : (blocks : List BlockPlace) (block : BlockPlace) → arounds (blocks ++ block ∷ []) ≡ around_of block ∷ arounds blocks
one_more blocks block = ap (map around_of) (reverse-append blocks (block ∷ []))

pub scope_within : (frames : List Frame) (now all : List BlockPlace) (flags : Flags) (block : BlockPlace) (around : Around) → now ≡ all ++ block ∷ [] → around_of block ≡ around → scope_at frames now flags ≡ with_block (scope_at frames all flags) around
scope_within frames now all flags block around e f =
    ap (λ (bs : List Around). record { frames = frames; blocks = bs; in_loop = flags.in_loop; is_vararg = flags.is_vararg })
    (ap arounds e ∙ one_more all block ∙ ap (λ a. a ∷ arounds all) f)

-- the innermost block has these statements, and the others stand around it
pub record Inside (around all : List BlockPlace) (items : List Rust.Stat) (ends : Bool) : Type 0 where
  pub block : BlockPlace
  pub is_last : all ≡ around ++ block ∷ []
  pub same_stats : block.stats.now.items ≡ items
  pub same_end : block.ends_scope ≡ ends

abbrev pub around_in : List Stat → ℕ → Bool → Around
around_in ss i ends = record { before = reverse (take i ss); behind = stats (drop (i + 1) ss); ends_scope = ends }

pub around_here :
    (block : BlockPlace) (items : List Rust.Stat) (ends : Bool) (before i : ℕ) → block.stats.now.items ≡ items → block.ends_scope ≡ ends → before ≡ i
    → around_of (moved block before (before + 1)) ≡ around_in (map plain_stat items) i ends
around_here block items ends before i same_stats same_end at =
    ap (λ n. around_of (moved block n (n + 1))) at
    ∙ ap₂ (λ xs e. around_in (map plain_stat xs) i e) same_stats same_end

-- it is gone out of
pub gone_out : (all around : List BlockPlace) (block : BlockPlace) → all ≡ around ++ block ∷ [] → take (length all - 1) all ≡ around
gone_out all around block e =
    let size : length all ≡ length around + 1 = ap length e ∙ length-append around (block ∷ []) in
    let last : length all - 1 ≡ length around = omega (arith, size) in
    ap₂ take last e ∙ take-append_seam around (block ∷ [])

-- statements that are gone through one by one

pub next_behind :
    (fs fs' goal : List Frame) (ss : List Stat) (i : ℕ) (s : Stat)
    → i < length ss
    → s ≡ slice_index_or ss i s
    → fs' ≡ declare_all fs (declared_by s)
    → behind_stats fs (stats (drop i ss)) ≡ goal
    → behind_stats fs' (stats (drop (i + 1) ss)) ≡ goal
next_behind fs fs' goal ss i s h is frames known =
    ap (λ gs. behind_stats gs (stats (drop (i + 1) ss))) frames
    ∙ sym (ap (λ ts. behind_stats fs (stats ts)) (front ss i s h is))
    ∙ known

pub next_met :
    (fs fs' : List Frame) (now all : List BlockPlace) (flags : Flags) (block : BlockPlace) (ends : Bool) (ss : List Stat) (i : ℕ) (s : Stat) (o o' goal : Option Violation)
    → i < length ss
    → s ≡ slice_index_or ss i s
    → now ≡ all ++ block ∷ []
    → around_of block ≡ around_in ss i ends
    → fs' ≡ declare_all fs (declared_by s)
    → o' ≡ met_stat (scope_at fs now flags) (meet_all o (part_violations (scope_at fs now flags) (Statement s))) s
    → met_stats (scope_at fs all flags) (reverse (take i ss)) ends o (stats (drop i ss)) ≡ goal
    → met_stats (scope_at fs' all flags) (reverse (take (i + 1) ss)) ends o' (stats (drop (i + 1) ss)) ≡ goal
next_met fs fs' now all flags block ends ss i s o o' goal h is standing around frames met known =
    let here : Around = around_in ss i ends in
    let within : Scope = with_block (scope_at fs all flags) here in
    let met' : o' ≡ met_stat within (meet_all o (part_violations within (Statement s))) s =
    met ∙ ap (λ sc. met_stat sc (meet_all o (part_violations sc (Statement s))) s) (scope_within fs now all flags block here standing around) in
    ap (λ gs. met_stats (scope_at gs all flags) (reverse (take (i + 1) ss)) ends o' (stats (drop (i + 1) ss))) frames
    ∙ ap₂ (λ before x. met_stats (scope_at (declare_all fs (declared_by s)) all flags) before ends x (stats (drop (i + 1) ss))) (sym (passed ss i s h is)) met'
    ∙ sym (ap (λ ts. met_stats (scope_at fs all flags) (reverse (take i ss)) ends o (stats ts)) (front ss i s h is))
    ∙ known
