-- The local variables that are declared while statements are written.
use Rattle.std.proofs.Common.{arith, ℕ, zero, suc, ◌+◌, ◌≡◌, ◌≤◌, ◌<◌, Bool, true, List, [], ◌∷◌, ◌++◌, refl, sym, ap, ap₂, ◌∙◌, subst, append_assoc, length, map, drop, Option, Some, None}
use Rattle.std.specs.Prelude.{slice_index_or}
use Rattle.std.proofs.lemmas.List.{append-nil, length-append, drop_all}
use Rattle.tree_core.specs.declared.name.Name.{Name}
use Rattle.tree_core.specs.declared.name.Declared.{Declared}
use Rattle.tree_core.specs.declared.tree.Stat as Rust
use Rattle.tree_core.specs.Tree.{Block, Falls, Returns, Stats, MoreStats, Stat, Exp, Exps, Arms, EndArms, MoreArms, Local, While, Repeat, IfElse, GenFor, stats}
use Rattle.tree_core.specs.Plain.{num_for_of, plain_stat}
use Rattle.code_core.specs.declared.opcode.Opcode.TheVariants.{Close, ForLoop, TForCall, TForLoop}
use Rattle.code_core.specs.declared.proto.Const.{Const}
use Rattle.code_core.specs.declared.proto.LocVar.{LocVar}
use Rattle.code_of.specs.declared.leaving.Leaving.{Leaving}
use Rattle.code_of.specs.Coded.{Coded, with_abc, with_abx}
use Rattle.code_of.specs.Conditions.{test_code}
use Rattle.code_of.specs.Expressions.{made_by, made_in, exps_code}
use Rattle.code_of.specs.Jumps.{Reach}
use Rattle.code_of.specs.Levels.{made_by_stat, made_in_arms, made_in_block, closing_after}
use Rattle.tree_terms.specs.Levels.{level_after}
use Rattle.code_of.specs.Parts.{past_size, bounds_code, steps_code}
use Rattle.code_of.specs.Sizes.{stat_size, arms_size, block_size}
use Rattle.code_of.specs.Statements.{in_loop, stat_code, block_code}
use Rattle.code_of.specs.Variables.{variables, hidden, looped, within_stat, within_arms, within_stats, within_open, within_block}
use Rattle.code_of.proofs.Sizes.{stat_sized, block_sized}
use Rattle.code_emitter.specs.Leading.{Opened}
use Rattle.code_emitter.specs.Listing.{Listing, followed, listed}
use Rattle.code_emitter.proofs.Joining.{none_made}
use Rattle.code_emitter.proofs.Leading.{opened_long}
use Rattle.code_parts.specs.declared.variables.Variable.{Variable}
use Rattle.code_parts.specs.Scopes.{begun, over, hidden_from, ended_from, begun_by, begun_in}
use Rattle.code_parts.proofs.Ending.{ended_over, ended_append, over_append, ended_behind, names_ended, loop_ended, block_ended}
use Rattle.code_stat.specs.declared.writer.Writer.{Writer}
use Rattle.code_stat.specs.Declares.{Declares, DeclaresStat, DeclaresStats, DeclaresBlock, DeclaresOpen, DeclaresRounds, left_by, begun_open, in_rounds}
use Rattle.code_stat.specs.Drafts.{Wrote, WroteStat, WroteBlock}
use Rattle.code_stat.specs.Forms.{choice, counted_code, iterated_code, range_code, made_in_range}
use Rattle.code_stat.proofs.Going.{front}
use Rattle.code_stat.proofs.Drafting.{draft_sized, stands_at, written_sized}
use Rattle.code_stat.proofs.Blocks.{moved, nowhere}
use Rattle.code_stat.proofs.Choosing.{open_jump, first_past, places}
use Rattle.code_stat.proofs.Undeclared.{stat_without}
use Rattle.code_stat.proofs.Looping.{farther}

-- how long the code of a piece is

pub stat_long : (a b : Writer) (s : Stat) (closing : Bool) (t : ℕ) → WroteStat a b s closing t → length b.emitter.steps ≡ length a.emitter.steps + stat_size a.emitter.constants a.back s closing t a.emitter.made
stat_long a b s closing t w =
    written_sized a.emitter b.emitter w.draft (made_by_stat s) w.emitter_is
    ∙ ap (λ n. length a.emitter.steps + n)
    (sym (draft_sized a b (made_by_stat s) (λ reach. stat_code a.emitter.constants a.back s closing t a.emitter.made (length a.emitter.steps) reach) w nowhere)
    ∙ stat_sized a.emitter.constants a.back s closing t a.emitter.made (length a.emitter.steps) nowhere)

pub block_ends :
    (a b : Writer) (block : Block) (closing : Bool) (outer t : ℕ) → WroteBlock a b block closing outer t
    → length b.emitter.steps ≡ length a.emitter.steps + block_size a.emitter.constants a.back block closing outer t a.emitter.made
block_ends a b block closing outer t w =
    written_sized a.emitter b.emitter w.draft (made_in_block block) w.emitter_is
    ∙ ap (λ n. length a.emitter.steps + n)
    (sym (draft_sized a b (made_in_block block) (λ reach. block_code a.emitter.constants a.back block closing outer t a.emitter.made (length a.emitter.steps) reach) w nowhere)
    ∙ block_sized a.emitter.constants a.back block closing outer t a.emitter.made (length a.emitter.steps) nowhere)

-- what is declared behind code

pub declared_at :
    (f : List Const → (back : Leaving) → (made place : ℕ) → List Variable) (a p q : Writer) (code : List Coded) (m n : ℕ) → p.emitter ≡ followed a.emitter code m → p.back ≡ a.back → length code ≡ n
    → Declares p q f → q.variables ≡ p.variables ++ f a.emitter.constants a.back (a.emitter.made + m) (length a.emitter.steps + n)
declared_at f a p q code m n e k h d = d ∙ ap (λ l. p.variables ++ l) (moved f a p code m n e k h)

pub nothing_declared : (a b : Writer) → b.variables ≡ a.variables → b.variables ≡ a.variables ++ []
nothing_declared a b e = e ∙ sym (append-nil a.variables)

pub local_declares :
    (a b : Writer) (s : Listing) (line : ℕ) (names : List Declared) (es : Exps) (closing : Bool) (t n place : ℕ) (items : List Declared)
    → s ≡ followed a.emitter (exps_code a.emitter.constants es (Some n) t a.emitter.made line) (made_in es) → n ≡ length names → place ≡ length s.steps → items ≡ names
    → b.variables ≡ a.variables ++ map (λ d. begun (Some d.name.text) place) items
    → DeclaresStat a b (Local line names es) closing t
local_declares a b s line names es closing t n place items e n_is place_is items_is declared =
    let there : place ≡ length a.emitter.steps + length (exps_code a.emitter.constants es (Some (length names)) t a.emitter.made line) =
    place_is ∙ written_sized a.emitter s (exps_code a.emitter.constants es (Some n) t a.emitter.made line) (made_in es) e
    ∙ ap (λ m. length a.emitter.steps + length (exps_code a.emitter.constants es (Some m) t a.emitter.made line)) n_is in
    declared
    ∙ ap₂ (λ m l. a.variables ++ map (λ d. begun (Some d.name.text) m) l) there items_is
    ∙ ap (λ l. a.variables ++ l) (sym (append-nil (begun_by a.emitter.constants a.back (Local line names es) t a.emitter.made (length a.emitter.steps))))

-- the statements of a block

abbrev pub begun_from : Writer → Stats → (closing : Bool) → (level : ℕ) → List Variable
begun_from b ss closing level = begun_in b.emitter.constants b.back ss closing level b.emitter.made (length b.emitter.steps)

abbrev pub DeclaresLeft : (a b : Writer) (ss all : Stats) (closing : Bool) (level : ℕ) (first_closing : Bool) (first_level : ℕ) → Type 0
DeclaresLeft a b ss all closing level first_closing first_level = b.variables ++ begun_from b ss closing level ≡ a.variables ++ begun_from a all first_closing first_level

stat_declared :
    (b q c : Writer) (s : Stat) (ss : Stats) (closing : Bool) (level : ℕ) → WroteStat b q s closing level → DeclaresStat b q s closing level → c.emitter ≡ q.emitter → c.back ≡ q.back → c.variables ≡ q.variables
    → c.variables ++ begun_from c ss (closing_after s closing) (level_after s level) ≡ b.variables ++ begun_from b (MoreStats s ss) closing level
stat_declared b q c s ss closing level w d same back vars =
    let k = b.emitter.constants in
    let j = b.emitter.made in
    let pc = length b.emitter.steps in
    let size = stat_size k b.back s closing level j in
    let long : length w.draft ≡ size =
    sym (draft_sized b q (made_by_stat s) (λ reach. stat_code k b.back s closing level j pc reach) w nowhere) ∙ stat_sized k b.back s closing level j pc nowhere in
    let rest = begun_in k b.back ss (closing_after s closing) (level_after s level) (j + made_by_stat s) (pc + size) in
    let own = begun_by k b.back s level j pc in
    let inner = map over (within_stat k b.back s closing level j pc) in
    ap₂ (λ xs ys. xs ++ ys) (vars ∙ d) (moved (λ k back j pc. begun_in k back ss (closing_after s closing) (level_after s level) j pc) b c w.draft (made_by_stat s) size (same ∙ w.emitter_is) (back ∙ w.back_is) long)
    ∙ append_assoc b.variables (own ++ inner) rest
    ∙ ap (λ l. b.variables ++ l) (append_assoc own inner rest)

pub next_declared :
    (items all : List Rust.Stat) (i : ℕ) (x : Rust.Stat) (a b q c : Writer) (closing closing' first_closing : Bool) (level level' first_level : ℕ)
    → i < length items → x ≡ slice_index_or items i x
    → DeclaresLeft a b (stats (map plain_stat (drop i items))) (stats (map plain_stat all)) closing level first_closing first_level
    → WroteStat b q (plain_stat x) closing level → DeclaresStat b q (plain_stat x) closing level → c.emitter ≡ q.emitter → c.back ≡ q.back → c.variables ≡ q.variables
    → level' ≡ level_after (plain_stat x) level → closing' ≡ closing_after (plain_stat x) closing
    → DeclaresLeft a c (stats (map plain_stat (drop (i + 1) items))) (stats (map plain_stat all)) closing' level' first_closing first_level
next_declared items all i x a b q c closing closing' first_closing level level' first_level inside is u w d same back vars level_is closing_is =
    let ss = stats (map plain_stat (drop (i + 1) items)) in
    ap₂ (λ k l. c.variables ++ begun_from c ss k l) closing_is level_is
    ∙ stat_declared b q c (plain_stat x) ss closing level w d same back vars
    ∙ sym (ap (λ l. b.variables ++ begun_from b (stats (map plain_stat l)) closing level) (front items i x inside is))
    ∙ u

pub all_declared :
    (items all : List Rust.Stat) (i : ℕ) (a b : Writer) (closing first_closing : Bool) (level first_level : ℕ) → length items ≤ i
    → DeclaresLeft a b (stats (map plain_stat (drop i items))) (stats (map plain_stat all)) closing level first_closing first_level
    → DeclaresStats a b (stats (map plain_stat all)) first_closing first_level
all_declared items all i a b closing first_closing level first_level most u =
    sym (ap (λ l. b.variables ++ begun_from b (stats (map plain_stat l)) closing level) (drop_all i items most) ∙ append-nil b.variables) ∙ u

-- a block ends

pub scopes_end :
    (a q b : Writer) (ss : Stats) (closing : Bool) (level first place end : ℕ) → first ≡ length a.variables → DeclaresStats a q ss closing level → b.variables ≡ ended_from first place q.variables → place ≡ end
    → b.variables ≡ a.variables ++ map over (within_stats a.emitter.constants a.back ss closing level a.emitter.made (length a.emitter.steps) end)
scopes_end a q b ss closing level first place end first_is d e place_is =
    let whole = a.variables ++ begun_from a ss closing level in
    e ∙ ap (ended_from first place) d ∙ ap₂ (λ f n. ended_from f n whole) first_is place_is ∙ block_ended a.emitter.constants a.back a.variables ss closing level a.emitter.made (length a.emitter.steps) end

open_ended :
    (k : List Const) (back : Leaving) (before : List Variable) (block : Block) (closing : Bool) (t j pc place : ℕ)
    → ended_from (length before) place (before ++ begun_open k back block closing t j pc) ≡ before ++ map over (within_open k back block closing t j pc place)
open_ended k back before (Falls ss tokens line) closing t j pc place = block_ended k back before ss closing t j pc place
open_ended k back before (Returns ss es tokens line) closing t j pc place = block_ended k back before ss closing t j pc place

-- loops

pub repeat_declares :
    (a q b : Writer) (block : Block) (e : Exp) (closing : Bool) (t line first place : ℕ)
    → first ≡ length a.variables → DeclaresOpen a q block closing t → b.variables ≡ ended_from first place q.variables → place ≡ length b.emitter.steps
    → WroteStat a b (Repeat line block e) closing t
    → DeclaresStat a b (Repeat line block e) closing t
repeat_declares a q b block e closing t line first place first_is d ends place_is w =
    let k = a.emitter.constants in
    let j = a.emitter.made in
    let pc = length a.emitter.steps in
    let behind = place_is ∙ stat_long a b (Repeat line block e) closing t w in
    ends ∙ ap (ended_from first place) d ∙ ap₂ (λ f n. ended_from f n (a.variables ++ begun_open k a.back block closing t j pc)) first_is behind
    ∙ open_ended k a.back a.variables block closing t j pc (pc + stat_size k a.back (Repeat line block e) closing t j)

named_ended :
    (before : List Variable) (names : List Name) (start place : ℕ) (inner : List LocVar)
    → ended_from (length before) place ((before ++ map (λ name. begun (Some name.text) start) names) ++ map over inner) ≡ before ++ map over (variables names start place ++ inner)
named_ended before names start place inner =
    let own = map (λ name. begun (Some name.text) start) names in
    ap (ended_from (length before) place) (append_assoc before own (map over inner))
    ∙ ended_behind place before (own ++ map over inner)
    ∙ ap (λ l. before ++ l) (ended_append place own (map over inner) ∙ ap₂ (λ xs ys. xs ++ ys) (names_ended names start place) (ended_over place inner) ∙ sym (over_append (variables names start place) inner))

rounds_ended :
    (before : List Variable) (n : ℕ) (names : List Name) (pc start inner_end end : ℕ) (inner : List LocVar)
    → ended_from (length before) end (ended_from (length (before ++ hidden_from n pc)) inner_end (((before ++ hidden_from n pc) ++ map (λ name. begun (Some name.text) start) names) ++ map over inner))
    ≡ before ++ map over ((hidden n pc end ++ variables names start inner_end) ++ inner)
rounds_ended before n names pc start inner_end end inner =
    ap (ended_from (length before) end) (named_ended (before ++ hidden_from n pc) names start inner_end inner ∙ append_assoc before (hidden_from n pc) (map over (variables names start inner_end ++ inner)))
    ∙ loop_ended before n pc end (variables names start inner_end ++ inner)
    ∙ ap (λ l. before ++ map over l) (sym (append_assoc (hidden n pc end) (variables names start inner_end) inner))

pub rounds_declare :
    (a p q b : Writer) (x : Coded) (n : ℕ) (names : List Name) (block : Block) (closing : Bool) (outer inner level t last start begin hidden_at named_at end place : ℕ) (v1 v4 : List Variable)
    → outer ≡ level → inner ≡ t → start ≡ length a.emitter.steps → begin ≡ start + 1
    → hidden_at ≡ length a.variables → v1 ≡ a.variables ++ hidden_from n start → named_at ≡ length v1 → p.variables ≡ v1 ++ map (λ name. begun (Some name.text) begin) names
    → p.emitter ≡ listed a.emitter (x ∷ []) → p.back ≡ a.back → WroteBlock p q block closing outer inner → DeclaresBlock p q block closing outer inner
    → end ≡ length q.emitter.steps → v4 ≡ ended_from named_at end q.variables
    → b.variables ≡ ended_from hidden_at place v4 → place ≡ length a.emitter.steps + (block_size a.emitter.constants a.back block closing level t a.emitter.made + last)
    → DeclaresRounds a b n names block closing level t last
rounds_declare a p q b x n names block closing outer inner level t last start begin hidden_at named_at end place v1 v4 outer_is inner_is start_is begin_is hidden_is v1_is named_is p_vars p_is back w0 d0 end_is v4_is ends place_is =
    let w : WroteBlock p q block closing level t = subst (λ i. WroteBlock p q block closing level i) inner_is (subst (λ o. WroteBlock p q block closing o inner) outer_is w0) in
    let d : DeclaresBlock p q block closing level t = subst (λ i. DeclaresBlock p q block closing level i) inner_is (subst (λ o. DeclaresBlock p q block closing o inner) outer_is d0) in
    let k = a.emitter.constants in
    let j = a.emitter.made in
    let pc = length a.emitter.steps in
    let size = block_size k a.back block closing level t j in
    let within = within_block k a.back block closing level t j (pc + 1) in
    let p_from : p.emitter ≡ followed a.emitter (x ∷ []) 0 = p_is ∙ sym (none_made a.emitter (x ∷ [])) in
    let inner_is' : q.variables ≡ p.variables ++ map over within =
    declared_at (λ k back j pc. map over (within_block k back block closing level t j pc)) a p q (x ∷ []) 0 1 p_from back refl d
    ∙ ap (λ i. p.variables ++ map over (within_block k a.back block closing level t i (pc + 1))) (none_more j) in
    let p_long : length p.emitter.steps ≡ pc + 1 = written_sized a.emitter p.emitter (x ∷ []) 0 p_from in
    let size_is : block_size p.emitter.constants p.back block closing level t p.emitter.made ≡ size =
    moved (λ k back j pc. block_size k back block closing level t j) a p (x ∷ []) 0 1 p_from back refl ∙ ap (block_size k a.back block closing level t) (none_more j) in
    let block_end : end ≡ pc + 1 + size = end_is ∙ block_ends p q block closing level t w ∙ ap₂ (λ m l. m + l) p_long size_is in
    let v1' : v1 ≡ a.variables ++ hidden_from n pc = v1_is ∙ ap (λ m. a.variables ++ hidden_from n m) start_is in
    let begin' : begin ≡ pc + 1 = begin_is ∙ ap (λ m. m + 1) start_is in
    let p_vars' : p.variables ≡ (a.variables ++ hidden_from n pc) ++ map (λ name. begun (Some name.text) (pc + 1)) names =
    p_vars ∙ ap₂ (λ l m. l ++ map (λ name. begun (Some name.text) m) names) v1' begin' in
    let v4' : v4 ≡ ended_from (length (a.variables ++ hidden_from n pc)) (pc + 1 + size) (((a.variables ++ hidden_from n pc) ++ map (λ name. begun (Some name.text) (pc + 1)) names) ++ map over within) =
    v4_is ∙ ap (ended_from named_at end) (inner_is' ∙ ap (λ l. l ++ map over within) p_vars')
    ∙ ap₂ (λ f m. ended_from f m (((a.variables ++ hidden_from n pc) ++ map (λ name. begun (Some name.text) (pc + 1)) names) ++ map over within)) (named_is ∙ ap length v1') block_end in
    ends ∙ ap (ended_from hidden_at place) v4' ∙ ap₂ (λ f m. ended_from f m (ended_from (length (a.variables ++ hidden_from n pc)) (pc + 1 + size) (((a.variables ++ hidden_from n pc) ++ map (λ name. begun (Some name.text) (pc + 1)) names) ++ map over within))) hidden_is place_is
    ∙ rounds_ended a.variables n names pc (pc + 1) (pc + 1 + size) (pc + (size + last)) within
  where
    none_more : (n : ℕ) → n + 0 ≡ n
    none_more n = omega arith

pub counted_long :
    (a b : Writer) (block : Block) (closing : Bool) (t line : ℕ) → Wrote a b (made_in_block block) (λ reach. counted_code a.emitter.constants a.back block closing t a.emitter.made (length a.emitter.steps) line reach)
    → length b.emitter.steps ≡ length a.emitter.steps + (block_size a.emitter.constants a.back block closing (t + 3) (t + 4) a.emitter.made + 2)
counted_long a b block closing t line w =
    let k = a.emitter.constants in
    let j = a.emitter.made in
    let pc = length a.emitter.steps in
    let reach : Reach = in_loop nowhere (pc + (block_size k a.back block closing (t + 3) (t + 4) j + 2)) t in
    let inner : List Coded = block_code k a.back block closing (t + 3) (t + 4) j (pc + 1) reach in
    let draft = draft_sized a b (made_in_block block) (λ reach. counted_code k a.back block closing t j pc line reach) w nowhere in
    let long = written_sized a.emitter b.emitter w.draft (made_in_block block) w.emitter_is in
    let parts = length-append inner (with_abx ForLoop t (length inner + 1) line ∷ []) in
    let size = block_sized k a.back block closing (t + 3) (t + 4) j (pc + 1) reach in
    omega (arith, draft, long, parts, size)

pub iterated_long :
    (a b : Writer) (block : Block) (n t line : ℕ) → Wrote a b (made_in_block block) (λ reach. iterated_code a.emitter.constants a.back block n t a.emitter.made (length a.emitter.steps) line reach)
    → length b.emitter.steps ≡ length a.emitter.steps + (block_size a.emitter.constants a.back block true (t + 4) (t + 4 + n) a.emitter.made + 4)
iterated_long a b block n t line w =
    let k = a.emitter.constants in
    let j = a.emitter.made in
    let pc = length a.emitter.steps in
    let reach : Reach = in_loop nowhere (pc + (block_size k a.back block true (t + 4) (t + 4 + n) j + 4)) t in
    let inner : List Coded = block_code k a.back block true (t + 4) (t + 4 + n) j (pc + 1) reach in
    let draft = draft_sized a b (made_in_block block) (λ reach. iterated_code k a.back block n t j pc line reach) w nowhere in
    let long = written_sized a.emitter b.emitter w.draft (made_in_block block) w.emitter_is in
    let parts = length-append inner (with_abc TForCall t 0 n line ∷ with_abx TForLoop t (length inner + 2) line ∷ with_abc Close t 0 0 line ∷ []) in
    let size = block_sized k a.back block true (t + 4) (t + 4 + n) j (pc + 1) reach in
    omega (arith, draft, long, parts, size)

-- behind the values of a `for`

pub num_for_declares :
    (a q b : Writer) (s : Listing) (name : Name) (from limit : Exp) (step : Option Exp) (block : Block) (closing : Bool) (t line : ℕ)
    → s ≡ followed a.emitter (range_code a.emitter.constants from limit step t a.emitter.made line) (made_in_range from limit step)
    → q.emitter ≡ s → q.variables ≡ a.variables → q.back ≡ a.back
    → DeclaresRounds q b 3 (name ∷ []) block closing (t + 3) (t + 4) 2
    → DeclaresStat a b (num_for_of line name from limit step block) closing t
num_for_declares a q b s name from limit None block closing t line e s_is vars back d =
    let k = a.emitter.constants in
    let start = bounds_code k from limit t a.emitter.made line in
    let i = a.emitter.made + made_by from + made_by limit in
    let place = length a.emitter.steps + length start in
    let size = block_size k a.back block closing (t + 3) (t + 4) i in
    declared_at (λ k back j pc. map over (in_rounds k back 3 (name ∷ []) block closing (t + 3) (t + 4) 2 j pc)) a q b start (made_by from + made_by limit) (length start) (s_is ∙ e) back refl d
    ∙ ap₂ (λ l m. l ++ map over (in_rounds k a.back 3 (name ∷ []) block closing (t + 3) (t + 4) 2 m place)) vars (sum a.emitter.made (made_by from) (made_by limit))
    ∙ ap (λ m. a.variables ++ map over (looped k a.back 3 (name ∷ []) place size m ++ within_block k a.back block closing (t + 3) (t + 4) i (place + 1))) (farther (length a.emitter.steps) (length start) (size + 2))
  where
    sum : (j m n : ℕ) → j + (m + n) ≡ j + m + n
    sum j m n = omega arith
num_for_declares a q b s name from limit (Some step) block closing t line e s_is vars back d =
    let k = a.emitter.constants in
    let start = steps_code k from limit step t a.emitter.made in
    let i = a.emitter.made + made_by from + made_by limit + made_by step in
    let place = length a.emitter.steps + length start in
    let size = block_size k a.back block closing (t + 3) (t + 4) i in
    declared_at (λ k back j pc. map over (in_rounds k back 3 (name ∷ []) block closing (t + 3) (t + 4) 2 j pc)) a q b start (made_by from + made_by limit + made_by step) (length start) (s_is ∙ e) back refl d
    ∙ ap₂ (λ l m. l ++ map over (in_rounds k a.back 3 (name ∷ []) block closing (t + 3) (t + 4) 2 m place)) vars (sum a.emitter.made (made_by from) (made_by limit) (made_by step))
    ∙ ap (λ m. a.variables ++ map over (looped k a.back 3 (name ∷ []) place size m ++ within_block k a.back block closing (t + 3) (t + 4) i (place + 1))) (farther (length a.emitter.steps) (length start) (size + 2))
  where
    sum : (j m n o : ℕ) → j + (m + n + o) ≡ j + m + n + o
    sum j m n o = omega arith

pub gen_for_declares :
    (a q b : Writer) (s : Listing) (names : List Name) (es : Exps) (block : Block) (closing : Bool) (t line : ℕ)
    → s ≡ followed a.emitter (exps_code a.emitter.constants es (Some 4) t a.emitter.made line) (made_in es)
    → q.emitter ≡ s → q.variables ≡ a.variables → q.back ≡ a.back
    → DeclaresRounds q b 4 names block true (t + 4) (t + 4 + length names) 4
    → DeclaresStat a b (GenFor line names es block) closing t
gen_for_declares a q b s names es block closing t line e s_is vars back d =
    let k = a.emitter.constants in
    let start = exps_code k es (Some 4) t a.emitter.made line in
    let i = a.emitter.made + made_in es in
    let place = length a.emitter.steps + length start in
    let size = block_size k a.back block true (t + 4) (t + 4 + length names) i in
    declared_at (λ k back j pc. map over (in_rounds k back 4 names block true (t + 4) (t + 4 + length names) 4 j pc)) a q b start (made_in es) (length start) (s_is ∙ e) back refl d
    ∙ ap (λ l. l ++ map over (in_rounds k a.back 4 names block true (t + 4) (t + 4 + length names) 4 i place)) vars
    ∙ ap (λ m. a.variables ++ map over (looped k a.back 4 names place size m ++ within_block k a.back block true (t + 4) (t + 4 + length names) i (place + 1))) (farther (length a.emitter.steps) (length start) (size + 4))

-- a `while`, whose block stands behind the condition
pub while_declares :
    (a p q b : Writer) (e : Exp) (block : Block) (closing : Bool) (t line : ℕ) (away : List ℕ)
    → Opened a.emitter p.emitter (λ ahead. test_code a.emitter.constants e true ahead t a.emitter.made) (made_by e) away → p.variables ≡ a.variables → p.back ≡ a.back
    → DeclaresBlock p q block closing t t → b.variables ≡ q.variables → DeclaresStat a b (While line e block) closing t
while_declares a p q b e block closing t line away opened pv pb d bv =
    let k = a.emitter.constants in
    let j = a.emitter.made in
    let pc = length a.emitter.steps in
    let test : ℕ → List Coded = λ ahead. test_code k e true ahead t j in
    let p_long = opened_long a.emitter p.emitter test (made_by e) away opened in
    bv ∙ d ∙ ap₂ (λ l v. l ++ map over v) pv
    (stands_at (λ k back j pc. within_block k back block closing t t j pc) p k a.back (j + made_by e) (pc + length (test 0)) opened.constants_is pb opened.made_is p_long)

-- an `if`

module _ (k : List Const) (back : Leaving) where
  no_more : (n : ℕ) → n ≡ n + 0
  no_more n = omega arith

  pub choice_left :
      (line : ℕ) (e : Exp) (block : Block) (arms : Arms) (o : Option Block) (closing : Bool) (t j pc : ℕ)
      → left_by k back (choice line (MoreArms e block arms) o) closing t j pc
      ≡ map over (within_block k back block closing t t (j + made_by e) (pc + length (test_code k e true 0 t j)))
      ++ left_by k back (choice line arms o) closing t (j + made_by e + made_in_block block)
      (pc + length (test_code k e true 0 t j) + block_size k back block closing t t (j + made_by e) + past_size (stat_size k back (choice line arms o) closing t (j + made_by e + made_in_block block)))
  choice_left line e block arms None closing t j pc =
      let m = j + made_by e + made_in_block block in
      let inner = pc + length (test_code k e true 0 t j) in
      let first = within_block k back block closing t t (j + made_by e) inner in
      let behind : ℕ → ℕ = λ n. inner + block_size k back block closing t t (j + made_by e) + past_size n in
      over_append first (within_arms k back arms 0 closing t m (behind (arms_size k back arms 0 closing t m + 0)))
      ∙ ap (λ n. map over first ++ map over (within_arms k back arms 0 closing t m (behind n))) (sym (no_more (arms_size k back arms 0 closing t m)))
  choice_left line e block arms (Some other) closing t j pc =
      let m = j + made_by e + made_in_block block in
      let later : ℕ = m + made_in_arms arms in
      let number : j + made_in_arms (MoreArms e block arms) ≡ later = omega arith in
      let size = block_size k back other closing t t later in
      let inner = pc + length (test_code k e true 0 t j) in
      let first = within_block k back block closing t t (j + made_by e) inner in
      let others = arms_size k back arms size closing t m in
      let behind : ℕ = inner + block_size k back block closing t t (j + made_by e) + past_size (others + size) in
      let rest = within_arms k back arms size closing t m behind in
      let there : pc + arms_size k back (MoreArms e block arms) size closing t j ≡ behind + others = places (length (test_code k e true 0 t j)) (block_size k back block closing t t (j + made_by e)) (past_size (others + size)) others pc in
      ap (λ n. map over (within_arms k back (MoreArms e block arms) (block_size k back other closing t t n) closing t j pc ++ within_block k back other closing t t n (pc + arms_size k back (MoreArms e block arms) (block_size k back other closing t t n) closing t j))) number
      ∙ ap (λ n. map over ((first ++ rest) ++ within_block k back other closing t t later n)) there
      ∙ ap (map over) (append_assoc first rest (within_block k back other closing t t later (behind + others)))
      ∙ over_append first (rest ++ within_block k back other closing t t later (behind + others))

  left_none : (line : ℕ) (arms : Arms) (o : Option Block) (closing : Bool) (t j pc : ℕ) → left_by k back (choice line arms o) closing t j pc ≡ map over (within_stat k back (choice line arms o) closing t j pc)
  left_none line arms None closing t j pc = refl
  left_none line arms (Some other) closing t j pc = refl

  pub choice_without : (line : ℕ) (arms : Arms) (o : Option Block) (closing : Bool) (t j pc : ℕ) → stat_size k back (choice line arms o) closing t j ≡ 0 → left_by k back (choice line arms o) closing t j pc ≡ []
  choice_without line arms o closing t j pc h = left_none line arms o closing t j pc ∙ ap (map over) (stat_without k back (choice line arms o) closing t j pc h)

pub otherwise_declares : (a b : Writer) (block : Block) (closing : Bool) (t line : ℕ) → DeclaresBlock a b block closing t t → DeclaresStat a b (IfElse line EndArms block) closing t
otherwise_declares a b block closing t line d =
    d ∙ ap₂ (λ i n. a.variables ++ map over (within_block a.emitter.constants a.back block closing t t i n)) (none_more a.emitter.made) (none_more (length a.emitter.steps))
  where
    none_more : (n : ℕ) → n ≡ n + 0
    none_more n = omega arith

-- the others stand behind a jump, or they have no code and no variables
left_past :
    (k : List Const) (back : Leaving) (line : ℕ) (arms : Arms) (o : Option Block) (closing : Bool) (t j pc n size others : ℕ) → stat_size k back (choice line arms o) closing t j ≡ others
    → left_by k back (choice line arms o) closing t j (pc + (n + size + 1)) ≡ left_by k back (choice line arms o) closing t j (pc + n + size + past_size others)
left_past k back line arms o closing t j pc n size zero h =
    choice_without k back line arms o closing t j (pc + (n + size + 1)) h ∙ sym (choice_without k back line arms o closing t j (pc + n + size + past_size zero) h)
left_past k back line arms o closing t j pc n size (suc others) h = ap (left_by k back (choice line arms o) closing t j) (at_one pc n size)
  where
    at_one : (p n s : ℕ) → p + (n + s + 1) ≡ p + n + s + 1
    at_one p n s = omega arith

-- the first arm, and what the others come to, whether they have code or none

pub arm_declares :
    (a p q r u b : Writer) (e : Exp) (block : Block) (arms : Arms) (o : Option Block) (closing : Bool) (t line : ℕ) (away : List ℕ)
    → Opened a.emitter p.emitter (λ ahead. test_code a.emitter.constants e true ahead t a.emitter.made) (made_by e) away → p.variables ≡ a.variables → p.back ≡ a.back
    → WroteBlock p q block closing t t → DeclaresBlock p q block closing t t
    → r.emitter ≡ listed q.emitter (open_jump line) → r.variables ≡ q.variables → r.back ≡ q.back
    → DeclaresStat r u (choice line arms o) closing t
    → b.variables ≡ u.variables
    → DeclaresStat a b (choice line (MoreArms e block arms) o) closing t
arm_declares a p q r u b e block arms o closing t line away opened pv pb w d r_is rv rb d2 bv =
    let k = a.emitter.constants in
    let j = a.emitter.made in
    let pc = length a.emitter.steps in
    let test : ℕ → List Coded = λ ahead. test_code k e true ahead t j in
    let m = made_in_block block in
    let size = block_size k a.back block closing t t (j + made_by e) in
    let gone = first_past a p q r test (made_by e) m line (λ reach. block_code p.emitter.constants p.back block closing t t p.emitter.made (length p.emitter.steps) reach) away opened pb w r_is rb in
    let q_long = written_sized p.emitter q.emitter w.draft m w.emitter_is in
    let q_ends = block_ends p q block closing t t w in
    let p_long = opened_long a.emitter p.emitter test (made_by e) away opened in
    let size_is : block_size p.emitter.constants p.back block closing t t p.emitter.made ≡ size =
    stands_at (λ k back j pc. block_size k back block closing t t j) p k a.back (j + made_by e) (pc + length (test 0)) opened.constants_is pb opened.made_is p_long in
    let draft_long : length w.draft ≡ size = omega (arith, q_long, q_ends, size_is) in
    let number : j + (made_by e + m) ≡ j + made_by e + m = omega arith in
    let others = stat_size k a.back (choice line arms o) closing t (j + made_by e + m) in
    let behind = pc + length (test 0) + size + past_size others in
    let first : r.variables ≡ a.variables ++ map over (within_block k a.back block closing t t (j + made_by e) (pc + length (test 0))) =
    rv ∙ d ∙ ap₂ (λ l v. l ++ map over v) pv
    (stands_at (λ k back j pc. within_block k back block closing t t j pc) p k a.back (j + made_by e) (pc + length (test 0)) opened.constants_is pb opened.made_is p_long) in
    let r_long : length r.emitter.steps ≡ pc + (length (test 0) + size + 1) = (let y = gone.long in omega (arith, y, draft_long)) in
    let here : u.variables ≡ r.variables ++ left_by k a.back (choice line arms o) closing t (j + made_by e + m) behind =
    d2 ∙ ap (λ l. r.variables ++ l)
    (stands_at (λ k back j pc. left_by k back (choice line arms o) closing t j pc) r k a.back (j + made_by e + m) (pc + (length (test 0) + size + 1)) gone.constants_is gone.back_is (gone.made_is ∙ number) r_long
    ∙ left_past k a.back line arms o closing t (j + made_by e + m) pc (length (test 0)) size others refl) in
    bv ∙ here ∙ ap (λ xs. xs ++ left_by k a.back (choice line arms o) closing t (j + made_by e + m) behind) first
    ∙ append_assoc a.variables (map over (within_block k a.back block closing t t (j + made_by e) (pc + length (test 0)))) (left_by k a.back (choice line arms o) closing t (j + made_by e + m) behind)
    ∙ ap (λ l. a.variables ++ l) (sym (choice_left k a.back line e block arms o closing t j pc))
