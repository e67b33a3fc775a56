-- The statements of a list, one after another.
use Rattle.std.proofs.Common.{ℕ, ◌+◌, ◌≡◌, ◌≤◌, ◌<◌, Bool, List, [], sym, ap, ap₂, ◌∙◌, subst, length, map, take, drop}
use Rattle.std.specs.Prelude.{slice_index_or}
use Rattle.std.proofs.lemmas.List.{drop_all}
use Rattle.tree_core.specs.declared.tree.Stat as Rust
use Rattle.tree_core.specs.Tree.{Stats, stats}
use Rattle.tree_core.specs.Plain.{plain_stat}
use Rattle.code_of.specs.Jumps.{Visible, Reach}
use Rattle.code_of.specs.Levels.{made_in_stats, closing_after, closings_after}
use Rattle.tree_terms.specs.Levels.{level_after, levels_after}
use Rattle.code_of.specs.Statements.{passed_after, labels_ahead, stats_code}
use Rattle.code_emitter.specs.declared.emitter.Step.{Step}
use Rattle.code_stat.specs.declared.jumps.Jump.{Jump}
use Rattle.code_stat.specs.declared.writer.Writer.{Writer}
use Rattle.code_stat.specs.Drafts.{arrives, leads_to, within, fill, Underway, WroteStat, WroteStats}
use Rattle.code_stat.specs.Forms.{ahead_with, level_at}
use Rattle.code_stat.proofs.Going.{front}
use Rattle.code_stat.proofs.Blocks.{begins, finished, next_stat}

-- what is left of a list of statements

abbrev pub StatsLeft : (a b : Writer) (ss all : Stats) (falls closing : Bool) (outer level : ℕ) (first_closing : Bool) (first_level : ℕ) (passed : List Visible) → Type 0
StatsLeft a b ss all falls closing outer level first_closing first_level passed =
    Underway a b (labels_ahead b.emitter.constants b.back ss falls closing outer level b.emitter.made (length b.emitter.steps)) (made_in_stats all) (made_in_stats ss)
    (λ reach. stats_code b.emitter.constants b.back ss falls closing outer level b.emitter.made (length b.emitter.steps) passed reach)
    (λ reach. stats_code a.emitter.constants a.back all falls first_closing outer first_level a.emitter.made (length a.emitter.steps) [] reach)

pub all_left :
    (xs items : List Rust.Stat) (a : Writer) (falls closing : Bool) (outer level : ℕ) (passed : List Visible) → items ≡ xs → passed ≡ []
    → StatsLeft a a (stats (map plain_stat items)) (stats (map plain_stat xs)) falls closing outer level closing level passed
all_left xs items a falls closing outer level passed e p =
    subst (λ l. StatsLeft a a (stats (map plain_stat items)) (stats (map plain_stat xs)) falls closing outer level closing level l) (sym p)
    (subst (λ l. StatsLeft a a (stats (map plain_stat l)) (stats (map plain_stat xs)) falls closing outer level closing level []) (sym e)
    (begins a (labels_ahead a.emitter.constants a.back (stats (map plain_stat xs)) falls closing outer level a.emitter.made (length a.emitter.steps)) (made_in_stats (stats (map plain_stat xs)))
    (λ reach. stats_code a.emitter.constants a.back (stats (map plain_stat xs)) falls closing outer level a.emitter.made (length a.emitter.steps) [] reach)))

pub none_left :
    (xs items : List Rust.Stat) (i : ℕ) (a b : Writer) (falls closing first_closing : Bool) (outer level first_level : ℕ) (passed : List Visible) → length items ≤ i
    → StatsLeft a b (stats (map plain_stat (drop i items))) (stats (map plain_stat xs)) falls closing outer level first_closing first_level passed
    → WroteStats a b (stats (map plain_stat xs)) falls first_closing outer first_level
none_left xs items i a b falls closing first_closing outer level first_level passed over u =
    finished a b (made_in_stats (stats (map plain_stat xs))) (λ reach. stats_code a.emitter.constants a.back (stats (map plain_stat xs)) falls first_closing outer first_level a.emitter.made (length a.emitter.steps) [] reach)
    (subst (λ l. StatsLeft a b (stats (map plain_stat l)) (stats (map plain_stat xs)) falls closing outer level first_closing first_level passed) (drop_all i items over) u)

pub next_left :
    (xs items : List Rust.Stat) (i n : ℕ) (x : Rust.Stat) (a b q c : Writer) (settled : List Jump) (falls closing closing' first_closing : Bool) (outer level level' first_level first from place there : ℕ) (passed passed' : List Visible)
    → items ≡ xs → i < length items → x ≡ slice_index_or items i x → n ≡ i + 1
    → first ≡ length a.jumps.items → from ≡ length b.jumps.items → place ≡ length b.emitter.steps
    → StatsLeft a b (stats (map plain_stat (drop i items))) (stats (map plain_stat xs)) falls closing outer level first_closing first_level passed
    → WroteStat b q (plain_stat x) closing level
    → take from settled ≡ take from q.jumps.items
    → ((ahead : List Visible) (reach : Reach) (ys : List Step) → fill (leads_to ahead reach) (drop from settled) ys ≡ fill (arrives (within ahead passed reach)) (drop from q.jumps.items) ys)
    → take first c.jumps.items ≡ take first settled
    → there ≡ level_at (stats (map plain_stat (drop n xs))) falls outer level
    → ((ahead : List Visible) (reach : Reach) (ys : List Step) → fill (leads_to ahead reach) (drop first c.jumps.items) ys ≡ fill (leads_to (ahead_with (plain_stat x) place there ahead) reach) (drop first settled) ys)
    → c.emitter ≡ q.emitter → c.back ≡ q.back
    → passed' ≡ passed_after (plain_stat x) level place passed → level' ≡ level_after (plain_stat x) level → closing' ≡ closing_after (plain_stat x) closing
    → StatsLeft a c (stats (map plain_stat (drop (i + 1) items))) (stats (map plain_stat xs)) falls closing' outer level' first_closing first_level passed'
next_left xs items i n x a b q c settled falls closing closing' first_closing outer level level' first_level first from place there passed passed' items_is inside is n_is first_is from_is place_is u w front1 leads1 front2 there_is leads2 same back passed_is level_is closing_is =
    let s = plain_stat x in
    let ss = stats (map plain_stat (drop (i + 1) items)) in
    let all = stats (map plain_stat xs) in
    let rest : drop n xs ≡ drop (i + 1) items = ap₂ (λ m l. drop m l) n_is (sym items_is) in
    subst (λ p. StatsLeft a c ss all falls closing' outer level' first_closing first_level p) (sym (passed_is ∙ ap (λ m. passed_after s level m passed) place_is))
    (subst (λ l. StatsLeft a c ss all falls closing' outer l first_closing first_level (passed_after s level (length b.emitter.steps) passed)) (sym level_is)
    (subst (λ k. StatsLeft a c ss all falls k outer (level_after s level) first_closing first_level (passed_after s level (length b.emitter.steps) passed)) (sym closing_is)
    (next_stat a b q c settled s ss falls closing outer level (made_in_stats all) passed
    (λ reach. stats_code a.emitter.constants a.back all falls first_closing outer first_level a.emitter.made (length a.emitter.steps) [] reach)
    (subst (λ l. StatsLeft a b (stats (map plain_stat l)) all falls closing outer level first_closing first_level passed) (front items i x inside is) u) w
    (subst (λ m. take m settled ≡ take m q.jumps.items) from_is front1)
    (λ ahead reach ys. subst (λ m. fill (leads_to ahead reach) (drop m settled) ys ≡ fill (arrives (within ahead passed reach)) (drop m q.jumps.items) ys) from_is (leads1 ahead reach ys))
    (subst (λ m. take m c.jumps.items ≡ take m settled) first_is front2)
    (λ ahead reach ys. subst (λ m. fill (leads_to ahead reach) (drop m c.jumps.items) ys ≡ fill (leads_to (ahead_with s place (level_at (stats (map plain_stat (drop n xs))) falls outer level) ahead) reach) (drop m settled) ys) first_is
    (leads2 ahead reach ys ∙ ap (λ m. fill (leads_to (ahead_with s place m ahead) reach) (drop first settled) ys) there_is)
    ∙ ap₂ (λ l m. fill (leads_to (ahead_with s m (level_at (stats (map plain_stat l)) falls outer level) ahead) reach) (drop (length a.jumps.items) settled) ys) rest place_is)
    same back)))

pub levels_next : (items : List Rust.Stat) (i : ℕ) (x : Rust.Stat) (level level' all : ℕ) → i < length items → x ≡ slice_index_or items i x → level' ≡ level_after (plain_stat x) level
    → levels_after (stats (map plain_stat (drop i items))) level ≡ all → levels_after (stats (map plain_stat (drop (i + 1) items))) level' ≡ all
levels_next items i x level level' all inside is e known =
    ap (levels_after (stats (map plain_stat (drop (i + 1) items)))) e ∙ sym (ap (λ l. levels_after (stats (map plain_stat l)) level) (front items i x inside is)) ∙ known

pub closings_next : (items : List Rust.Stat) (i : ℕ) (x : Rust.Stat) (closing closing' all : Bool) → i < length items → x ≡ slice_index_or items i x → closing' ≡ closing_after (plain_stat x) closing
    → closings_after (stats (map plain_stat (drop i items))) closing ≡ all → closings_after (stats (map plain_stat (drop (i + 1) items))) closing' ≡ all
closings_next items i x closing closing' all inside is e known =
    ap (closings_after (stats (map plain_stat (drop (i + 1) items)))) e ∙ sym (ap (λ l. closings_after (stats (map plain_stat l)) closing) (front items i x inside is)) ∙ known
