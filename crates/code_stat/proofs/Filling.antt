-- The jumps of a whole function are put in their places.
use Rattle.std.proofs.Common.{arith, ℕ, ◌+◌, ◌≡◌, ◌<◌, ◌≤◌, Bool, true, false, List, [], ◌∷◌, ◌++◌, refl, sym, ap, ap₂, ◌∙◌, length, drop, cond, Option, Some, None}
use Rattle.std.specs.Prelude.{slice_index_or}
use Rattle.std.proofs.lemmas.List.{append-nil, drop_all, map-append, length-map}
use Rattle.tree_core.specs.declared.tree.Body.{Body, out-Body}
use Rattle.tree_core.specs.declared.name.Name.{Name}
use Rattle.tree_core.specs.declared.name.UpName.{UpName}
use Rattle.tree_core.specs.Tree.{Block, Falls, Returns, Stats, BodyOf}
use Rattle.tree_core.specs.Plain.{plain_block, plain_body}
use Rattle.tree_core.proofs.Rows.{plain-body}
use Rattle.code_of.specs.declared.leaving.Leaving.{Leaving}
use Rattle.code_of.specs.CodeOf.{leaving_of, opening, body_code}
use Rattle.code_of.specs.Constants.{of_block}
use Rattle.code_core.specs.declared.opcode.Opcode.TheVariants.{Close, Return}
use Rattle.code_core.specs.declared.proto.Const.{Const}
use Rattle.code_of.specs.Coded.{Coded, with_abc, leaving_by}
use Rattle.code_of.specs.Jumps.{Landing, Reach}
use Rattle.code_of.specs.Levels.{made_in_stats, made_in_block}
use Rattle.tree_terms.specs.Levels.{levels_after}
use Rattle.code_of.specs.Statements.{stats_code, whole_code}
use Rattle.code_emitter.specs.Listing.{Listing, followed, listed, step, steps}
use Rattle.code_emitter.specs.Patches.{replaced, jump_to}
use Rattle.code_emitter.proofs.Joining.{listing, none_made}
use Rattle.code_stat.specs.declared.jumps.Destination.{Destination}
use Rattle.code_stat.specs.declared.jumps.Jump.{Jump}
use Rattle.code_stat.specs.declared.writer.Writer.{Writer}
use Rattle.code_stat.specs.Drafts.{Wrote, WroteStats, WroteBlock, arrives, beyond, first_of, fill, landing, landing_if, or_nowhere, put_jump}
use Rattle.code_stat.specs.Whole.{filled, function_of, led, made_in_body, nowhere, whole_from}
use Rattle.code_stat.proofs.Going.{front}
use Rattle.code_stat.proofs.Ends.{remade}
use Rattle.code_stat.proofs.Drafting.{plainly, then_wrote}
use Rattle.code_expr.proofs.Kept.{no_further}

-- where a jump leads in the end

beyond_nowhere : (label : Option (List ℕ)) → beyond label nowhere ≡ None
beyond_nowhere None = refl
beyond_nowhere (Some name) = refl

by_landing : (settled : Bool) (label : Option (List ℕ)) (x : Option Landing) → cond settled x (first_of x (beyond label nowhere)) ≡ x
by_landing true label x = refl
by_landing false label None = beyond_nowhere label
by_landing false label (Some x) = refl

pub lands_somewhere : (j : Jump) (d : Destination) → j.landing ≡ Some d → landing d ≡ or_nowhere (arrives nowhere j)
lands_somewhere j d e = sym (ap or_nowhere (by_landing j.settled j.label (landing_if j.landing) ∙ ap landing_if e))

pub lands_nowhere : (j : Jump) → j.landing ≡ None → landing (record { place = 0; level = 0 }) ≡ or_nowhere (arrives nowhere j)
lands_nowhere j e = sym (ap or_nowhere (by_landing j.settled j.label (landing_if j.landing) ∙ ap landing_if e))

-- from the last one to the first

pub next_led :
    (js : List Jump) (i : ℕ) (j : Jump) (s q r : Listing) → i < length js → j ≡ slice_index_or js i j → q ≡ filled s (drop (i + 1) js) → r ≡ led q j → r ≡ filled s (drop i js)
next_led js i j s q r inside is e h = h ∙ ap (λ z. led z j) e ∙ sym (ap (filled s) (front js i j inside is))

pub none_led_yet : (js : List Jump) (i : ℕ) (s : Listing) → length js ≤ i → s ≡ filled s (drop i js)
none_led_yet js i s h = sym (ap (filled s) (drop_all i js h))

-- a function that falls off its end returns

pub whole_falls :
    (a q b : Writer) (ss : Stats) (tokens line params end back : ℕ)
    → WroteStats a q ss true false 0 params → end ≡ levels_after ss params → back ≡ q.back.back
    → b.emitter ≡ listed q.emitter (leaving_by Return end 1 back line ∷ []) → b.jumps.items ≡ q.jumps.items → b.back ≡ q.back
    → Wrote a b (made_in_stats ss) (λ reach. whole_from a.emitter.constants a.back (Falls ss tokens line) params a.emitter.made (length a.emitter.steps) reach)
whole_falls a q b ss tokens line params end back w end_is back_is e jumps kept =
    let last : List Coded = leaving_by Return (levels_after ss params) 1 a.back.back line ∷ [] in
    let returned : b.emitter ≡ followed q.emitter last 0 =
    e ∙ ap₂ (λ n k. listed q.emitter (leaving_by Return n 1 k line ∷ [])) end_is (back_is ∙ ap (λ l. l.back) w.back_is) ∙ sym (none_made q.emitter last) in
    remade a b (made_in_stats ss + 0) (made_in_stats ss) (λ reach. stats_code a.emitter.constants a.back ss true false 0 params a.emitter.made (length a.emitter.steps) [] reach ++ last) (no_further (made_in_stats ss))
    (then_wrote a q b (made_in_stats ss) 0 (λ reach. stats_code a.emitter.constants a.back ss true false 0 params a.emitter.made (length a.emitter.steps) [] reach) (λ reach. last) w (plainly q b 0 last returned jumps kept))

abbrev pub ends_by_return : Block → Bool
ends_by_return (Falls ss tokens line) = false
ends_by_return (Returns ss es tokens line) = true

-- the whole

abbrev empty : List Const → Listing
empty k = record { constants = k; steps = []; made = 0 }

pub whole_is : (k : List Const) (back : Leaving) (block : Block) (params pc : ℕ) → whole_from k back block params 0 pc nowhere ≡ whole_code k back block params pc
whole_is k back (Falls ss tokens line) params pc = refl
whole_is k back (Returns ss es tokens line) params pc = refl

pub body_wrote :
    (k : List Const) (a b : Writer) (s : Listing) (begin : List Coded) (m : ℕ) (f : Reach → List Coded)
    → a.emitter ≡ listed (empty k) begin → a.jumps.items ≡ [] → Wrote a b m f → s ≡ filled b.emitter b.jumps.items
    → s ≡ record { constants = k; steps = steps (begin ++ f nowhere); made = m }
body_wrote k a b s begin m f a_is none w e =
    let b_is : b.emitter ≡ record { constants = k; steps = steps begin ++ steps w.draft; made = 0 + m } = w.emitter_is ∙ ap (λ z. followed z w.draft m) a_is in
    let jumps : b.jumps.items ≡ w.jumps = w.jumps_are ∙ ap (λ l. l ++ w.jumps) none in
    let same : length (steps begin) ≡ length a.emitter.steps = sym (ap (λ z. length z.steps) a_is) in
    let whole : fill (arrives nowhere) w.jumps (steps begin ++ steps w.draft) ≡ steps (begin ++ f nowhere) =
    ap (λ l. fill (arrives nowhere) w.jumps (steps begin ++ l)) (sym (append-nil (steps w.draft)))
    ∙ w.fills nowhere (steps begin) [] same
    ∙ ap (λ l. steps begin ++ l) (append-nil (steps (f nowhere)))
    ∙ sym (map-append step begin (f nowhere)) in
    e ∙ ap₂ filled b_is jumps ∙ ap₂ (λ l n. listing k l n) whole (zero_more m)
  where
    zero_more : (n : ℕ) → 0 + n ≡ n
    zero_more n = omega arith

-- a jump with its CLOSE, and one without

pub closing_led :
    (s q r : Listing) (d : Destination) (place n line : ℕ) → n ≡ place + 1
    → q ≡ replaced s place (with_abc Close d.level 0 0 line) → r ≡ replaced q n (jump_to n d.place line) → r ≡ listing s.constants (put_jump true (landing d) place line s.steps) s.made
closing_led s q r d place n line n_is e h =
    h
    ∙ ap (λ z. replaced z n (jump_to n d.place line)) e
    ∙ ap (λ m. replaced (replaced s place (with_abc Close d.level 0 0 line)) m (jump_to m d.place line)) n_is

pub lead_is :
    (s r : Listing) (j : Jump) (d : Destination) (closes : Bool) → landing d ≡ or_nowhere (arrives nowhere j) → j.closes ≡ closes
    → r ≡ listing s.constants (put_jump closes (landing d) j.place j.line s.steps) s.made → r ≡ led s j
lead_is s r j d closes lands is h =
    h ∙ ap₂ (λ b x. listing s.constants (put_jump b x j.place j.line s.steps) s.made) (sym is) lands

pub whole_returns :
    (a b : Writer) (block : Block) (params : ℕ) → WroteBlock a b block false 0 params → ends_by_return block ≡ true
    → Wrote a b (made_in_block block) (λ reach. whole_from a.emitter.constants a.back block params a.emitter.made (length a.emitter.steps) reach)
whole_returns a b (Falls ss tokens line) params w e = absurd (cc)
whole_returns a b (Returns ss es tokens line) params w e = w

pub body_written :
    (k : List Const) (body : Body) (a b : Writer) (s : Listing) (params : ℕ) (back : Leaving) → params ≡ length (out-Body body).params.items → back ≡ leaving_of (out-Body body).vararg params (plain_block (out-Body body).block)
    → a.emitter ≡ listed (empty k) (opening (out-Body body).vararg params (out-Body body).line) → a.jumps.items ≡ [] → a.back ≡ back
    → Wrote a b (made_in_block (plain_block (out-Body body).block)) (λ reach. whole_from a.emitter.constants a.back (plain_block (out-Body body).block) params a.emitter.made (length a.emitter.steps) reach)
    → s ≡ filled b.emitter b.jumps.items
    → s ≡ record { constants = k; steps = steps (function_of k (plain_body body)); made = made_in_body (plain_body body) }
body_written k body a b s params back params_is back_is a_is none a_back w e =
    let vararg = (out-Body body).vararg in
    let line = (out-Body body).line in
    let block = plain_block (out-Body body).block in
    let begin : ℕ → List Coded = λ n. opening vararg n line in
    let size : length a.emitter.steps ≡ length (begin params) = ap (λ z. length z.steps) a_is ∙ length-map (begin params) step in
    let code : whole_from a.emitter.constants a.back block params a.emitter.made (length a.emitter.steps) nowhere ≡ whole_code k (leaving_of vararg params block) block params (length (begin params)) =
    ap (λ z. whole_from z.constants a.back block params z.made (length a.emitter.steps) nowhere) a_is
    ∙ ap₂ (λ n m. whole_from k n block params 0 m nowhere) (a_back ∙ back_is) size
    ∙ whole_is k (leaving_of vararg params block) block params (length (begin params)) in
    body_wrote k a b s (begin params) (made_in_block block) (λ reach. whole_from a.emitter.constants a.back block params a.emitter.made (length a.emitter.steps) reach) a_is none w e
    ∙ ap (λ l. listing k (steps (begin params ++ l)) (made_in_block block)) code
    ∙ ap (λ n. listing k (steps (begin n ++ whole_code k (leaving_of vararg n block) block n (length (begin n)))) (made_in_block block)) params_is
    ∙ sym (ap (λ p. listing k (steps (function_of k p)) (made_in_body p)) (plain-body body))

-- with the constants of the body itself, this is its code
pub function_is : (params : List Name) (vararg : Bool) (inner : Block) (ups : List UpName) (line : ℕ) → function_of (of_block inner []) (BodyOf params vararg inner ups line) ≡ body_code (BodyOf params vararg inner ups line)
function_is params vararg inner ups line = refl
