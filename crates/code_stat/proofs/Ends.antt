-- The ends of blocks, behind their statements.
use Rattle.std.proofs.Common.{arith, ℕ, zero, suc, ◌+◌, ◌≡◌, Bool, true, false, cond, List, [], ◌++◌, refl, sym, ap, ap₂, ◌∙◌, subst, length, lt-ltb, ltb-true}
use Rattle.std.specs.Prelude.{◌||◌, nat_lt}
use Rattle.std.proofs.lemmas.List.{append-nil}
use Rattle.tree_core.specs.Tree.{Block, Falls, Returns, Stat, Stats, Exp, Exps}
use Rattle.code_of.specs.Coded.{Coded}
use Rattle.code_of.specs.Expressions.{made_by, made_in}
use Rattle.code_of.specs.Jumps.{Reach}
use Rattle.code_of.specs.Levels.{made_by_stat, made_in_stats, made_in_block, closings_after, closed_below, made_until, marked_in_block, closed_until}
use Rattle.tree_terms.specs.Levels.{levels_after, levels_in}
use Rattle.code_of.specs.Parts.{close_code, return_code}
use Rattle.code_of.specs.Statements.{stat_code, stats_code}
use Rattle.code_emitter.specs.Listing.{followed, listed}
use Rattle.code_emitter.proofs.Joining.{none_made}
use Rattle.code_stat.specs.declared.writer.Writer.{Writer}
use Rattle.code_stat.specs.Drafts.{Wrote, WroteStat, WroteStats, WroteBlock, WroteOpen}
use Rattle.code_stat.proofs.Blocks.{nowhere}
use Rattle.code_stat.proofs.Drafting.{Form, formed, draft_sized, recoded, plainly, then_wrote, then_formed}
use Rattle.code_expr.proofs.Kept.{no_further}

pub remade : (a b : Writer) (m n : ℕ) (f : Reach → List Coded) → m ≡ n → Wrote a b m f → Wrote a b n f
remade a b m n f e w = subst (λ k. Wrote a b k f) e w

pub nothing_wrote : (a : Writer) → Wrote a a 0 (λ reach. [])
nothing_wrote a =
    plainly a a 0 []
    (ap (λ xs. record { constants = a.emitter.constants; steps = xs; made = a.emitter.made }) (sym (append-nil a.emitter.steps)) ∙ sym (none_made a.emitter [])) refl refl

pub falls_wrote :
    (a q b : Writer) (ss : Stats) (tokens line : ℕ) (closing : Bool) (outer level end : ℕ)
    → WroteStats a q ss true closing outer level → end ≡ closed_below ss outer level
    → b.emitter ≡ listed q.emitter (close_code outer end line) → b.jumps.items ≡ q.jumps.items → b.back ≡ q.back
    → WroteBlock a b (Falls ss tokens line) closing outer level
falls_wrote a q b ss tokens line closing outer level end w end_is e jumps back =
    let m = made_in_stats ss in
    let close = close_code outer (closed_below ss outer level) line in
    let closed : b.emitter ≡ followed q.emitter close 0 = e ∙ ap (λ n. listed q.emitter (close_code outer n line)) end_is ∙ sym (none_made q.emitter close) in
    remade a b (m + 0) m (λ reach. stats_code a.emitter.constants a.back ss true closing outer level a.emitter.made (length a.emitter.steps) [] reach ++ close) (no_further m)
    (then_wrote a q b m 0 (λ reach. stats_code a.emitter.constants a.back ss true closing outer level a.emitter.made (length a.emitter.steps) [] reach) (λ reach. close) w (plainly q b 0 close closed jumps back))

-- functions were made in between where their number is greater behind than before

more_made : (m k : ℕ) → nat_lt m (m + k) ≡ nat_lt 0 k
more_made m zero = by (nat_lt m (m + 0)) refl
  where
    by : (b : Bool) → nat_lt m (m + 0) ≡ b → nat_lt m (m + 0) ≡ false
    by true e = let less = ltb-true m (m + 0) e in absurd (omega (arith, less))
    by false e = e
more_made m (suc k) = lt-ltb m (m + suc k) (omega arith) ∙ sym (lt-ltb 0 (suc k) (omega arith))

pub top_is :
    (a q : Writer) (ss : Stats) (closing : Bool) (outer level end top before behind : ℕ)
    → WroteStats a q ss true closing outer level → end ≡ levels_after ss level → before ≡ a.emitter.made → behind ≡ q.emitter.made
    → top ≡ cond (nat_lt before behind || closings_after ss false) end outer → top ≡ closed_below ss outer level
top_is a q ss closing outer level end top before behind w end_is before_is behind_is e =
    let made : behind ≡ a.emitter.made + made_in_stats ss = behind_is ∙ ap (λ z. z.made) w.emitter_is in
    e ∙ ap₂ (λ m n. cond (nat_lt m n || closings_after ss false) end outer) before_is made
    ∙ ap₂ (λ b n. cond (b || closings_after ss false) n outer) (more_made a.emitter.made (made_in_stats ss)) end_is

-- the like at the end of a `repeat`, behind its test
pub until_top :
    (block : Block) (e : Exp) (level inner top j before behind : ℕ) (marked : Bool)
    → inner ≡ levels_in block level → marked ≡ marked_in_block block → before ≡ j → behind ≡ j + made_in_block block + made_by e
    → top ≡ cond (nat_lt before behind || marked) inner level → top ≡ closed_until block e level
until_top block e level inner top j before behind marked inner_is marked_is before_is behind_is is =
    let all : j + made_in_block block + made_by e ≡ j + made_until block e = omega arith in
    is ∙ ap₂ (λ m n. cond (nat_lt m n || marked) inner level) before_is (behind_is ∙ all)
    ∙ ap₂ (λ b n. cond (b || marked) n level) (more_made j (made_until block e)) inner_is
    ∙ ap (λ b. cond (nat_lt 0 (made_until block e) || b) (levels_in block level) level) marked_is

abbrev return_form : Stats → Exps → (closing : Bool) → (level line : ℕ) → Form
return_form ss es closing level line k back j pc reach = return_code k (closings_after ss closing) es (levels_after ss level) j line back.back

last_wrote :
    (a q b : Writer) (ss : Stats) (es : Exps) (line : ℕ) (closing closing' : Bool) (outer level end back : ℕ)
    → WroteStats a q ss false closing outer level → end ≡ levels_after ss level → closing' ≡ closings_after ss closing → back ≡ q.back.back
    → b.emitter ≡ followed q.emitter (return_code q.emitter.constants closing' es end q.emitter.made line back) (made_in es) → b.jumps.items ≡ q.jumps.items → b.back ≡ q.back
    → Wrote a b (made_in_stats ss + made_in es) (λ reach. stats_code a.emitter.constants a.back ss false closing outer level a.emitter.made (length a.emitter.steps) [] reach
    ++ return_code a.emitter.constants (closings_after ss closing) es (levels_after ss level) (a.emitter.made + made_in_stats ss) line a.back.back)
last_wrote a q b ss es line closing closing' outer level end back w end_is closing_is back_is e jumps kept =
    let returned : b.emitter ≡ followed q.emitter (return_code q.emitter.constants (closings_after ss closing) es (levels_after ss level) q.emitter.made line q.back.back) (made_in es) =
    e
    ∙ ap₂ (λ c n. followed q.emitter (return_code q.emitter.constants c es n q.emitter.made line back) (made_in es)) closing_is end_is
    ∙ ap (λ k. followed q.emitter (return_code q.emitter.constants (closings_after ss closing) es (levels_after ss level) q.emitter.made line k) (made_in es)) back_is in
    then_formed a q b (made_in_stats ss) (made_in es) (length w.draft) (λ reach. stats_code a.emitter.constants a.back ss false closing outer level a.emitter.made (length a.emitter.steps) [] reach) (return_form ss es closing level line) w refl
    (plainly q b (made_in es) (return_code q.emitter.constants (closings_after ss closing) es (levels_after ss level) q.emitter.made line q.back.back) returned jumps kept)

pub returns_wrote :
    (a q b : Writer) (ss : Stats) (es : Exps) (tokens line : ℕ) (closing closing' : Bool) (outer level end back : ℕ)
    → WroteStats a q ss false closing outer level → end ≡ levels_after ss level → closing' ≡ closings_after ss closing → back ≡ q.back.back
    → b.emitter ≡ followed q.emitter (return_code q.emitter.constants closing' es end q.emitter.made line back) (made_in es) → b.jumps.items ≡ q.jumps.items → b.back ≡ q.back
    → WroteBlock a b (Returns ss es tokens line) closing outer level
returns_wrote a q b ss es tokens line closing closing' outer level end back w end_is closing_is back_is e jumps kept = last_wrote a q b ss es line closing closing' outer level end back w end_is closing_is back_is e jumps kept

pub open_returns :
    (a q b : Writer) (ss : Stats) (es : Exps) (tokens line : ℕ) (closing closing' : Bool) (level end back : ℕ)
    → WroteStats a q ss false closing level level → end ≡ levels_after ss level → closing' ≡ closings_after ss closing → back ≡ q.back.back
    → b.emitter ≡ followed q.emitter (return_code q.emitter.constants closing' es end q.emitter.made line back) (made_in es) → b.jumps.items ≡ q.jumps.items → b.back ≡ q.back
    → WroteOpen a b (Returns ss es tokens line) closing level
open_returns a q b ss es tokens line closing closing' level end back w end_is closing_is back_is e jumps kept = last_wrote a q b ss es line closing closing' level level end back w end_is closing_is back_is e jumps kept

-- the values of a `for`, and its rounds

pub range_wrote :
    (a q b : Writer) (s : Stat) (start : List Coded) (m n : ℕ) (closing : Bool) (level : ℕ) (g : Form)
    → q.emitter ≡ followed a.emitter start m → q.jumps.items ≡ a.jumps.items → q.back ≡ a.back → Wrote q b n (formed g q)
    → made_by_stat s ≡ m + n
    → ((reach : Reach) → start ++ g a.emitter.constants a.back (a.emitter.made + m) (length a.emitter.steps + length start) reach ≡ stat_code a.emitter.constants a.back s closing level a.emitter.made (length a.emitter.steps) reach)
    → WroteStat a b s closing level
range_wrote a q b s start m n closing level g e jumps back w made code =
    let begun : Wrote a q m (λ reach. start) = plainly a q m start e jumps back in
    remade a b (m + n) (made_by_stat s) (λ reach. stat_code a.emitter.constants a.back s closing level a.emitter.made (length a.emitter.steps) reach) (sym made)
    (recoded a b (m + n) (λ reach. start ++ g a.emitter.constants a.back (a.emitter.made + m) (length a.emitter.steps + length start) reach) _
    (then_formed a q b m n (length start) (λ reach. start) g begun (sym (draft_sized a q m (λ reach. start) begun nowhere)) w) code)
