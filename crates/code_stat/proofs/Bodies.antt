-- The local variables of a whole function.
use Rattle.std.proofs.Common.{arith, ℕ, ◌+◌, ◌≡◌, Bool, true, false, List, [], ◌∷◌, ◌++◌, refl, sym, ap, ap₂, ◌∙◌, length, map, Some}
use Rattle.std.proofs.lemmas.List.{length-append, length-map}
use Rattle.tree_core.specs.declared.name.Name.{Name}
use Rattle.tree_core.specs.declared.tree.Body.{Body, out-Body}
use Rattle.tree_core.specs.declared.name.UpName.{UpName}
use Rattle.tree_core.specs.Tree as tree
use Rattle.tree_core.specs.Tree.{Block, Falls, Returns, Stats, BodyOf}
use Rattle.tree_core.specs.Plain.{plain_block, plain_body}
use Rattle.tree_core.proofs.Rows.{plain-body}
use Rattle.code_core.specs.declared.opcode.Opcode.TheVariants.{Return}
use Rattle.code_core.specs.declared.proto.Const.{Const}
use Rattle.code_of.specs.declared.leaving.Leaving.{Leaving}
use Rattle.code_of.specs.Coded.{Coded, leaving_by}
use Rattle.code_of.specs.CodeOf.{leaving_of, opening, body_code, variables_of}
use Rattle.code_of.specs.Constants.{of_block}
use Rattle.code_of.specs.Levels.{made_in_block}
use Rattle.code_of.specs.Sizes.{stats_size}
use Rattle.code_of.specs.Statements.{stats_code, whole_code}
use Rattle.code_of.specs.Variables.{variables, within_whole}
use Rattle.code_of.proofs.Sizes.{stats_sized}
use Rattle.code_emitter.specs.Listing.{Listing, listed, step}
use Rattle.code_emitter.proofs.Joining.{none_made}
use Rattle.code_parts.specs.declared.variables.Variable.{Variable}
use Rattle.code_parts.specs.Scopes.{begun, over, ended_from, finished}
use Rattle.code_parts.proofs.Ending.{body_ended, finished_over}
use Rattle.code_stat.specs.declared.writer.Writer.{Writer}
use Rattle.code_stat.specs.Declares.{DeclaresStats, DeclaresBlock, DeclaresWhole}
use Rattle.code_stat.specs.Drafts.{Wrote, WroteStats}
use Rattle.code_stat.specs.Whole.{nowhere, function_of, variables_in, whole_from}
use Rattle.code_stat.proofs.Declaring.{scopes_end}
use Rattle.code_stat.proofs.Drafting.{draft_sized, written_sized}
use Rattle.code_stat.proofs.Filling.{whole_is, ends_by_return}

-- a function that falls off its end, and one that ends by `return`

pub falls_declared :
    (a q b : Writer) (ss : Stats) (tokens line params back end first place : ℕ)
    → WroteStats a q ss true false 0 params → DeclaresStats a q ss false params
    → b.emitter ≡ listed q.emitter (leaving_by Return end 1 back line ∷ []) → first ≡ length a.variables → place ≡ length b.emitter.steps → b.variables ≡ ended_from first place q.variables
    → DeclaresWhole a b (Falls ss tokens line) params
falls_declared a q b ss tokens line params back end first place w d e first_is place_is ends =
    let k = a.emitter.constants in
    let j = a.emitter.made in
    let pc = length a.emitter.steps in
    let last : List Coded = leaving_by Return end 1 back line ∷ [] in
    let draft : length w.draft ≡ stats_size k a.back ss false params j =
    sym (draft_sized a q _ (λ reach. stats_code k a.back ss true false 0 params j pc [] reach) w nowhere) ∙ stats_sized k a.back ss true false 0 params j pc [] nowhere in
    let q_long = written_sized a.emitter q.emitter w.draft _ w.emitter_is in
    let b_long = written_sized q.emitter b.emitter last 0 (e ∙ sym (none_made q.emitter last)) in
    let there : place ≡ pc + (stats_size k a.back ss false params j + 1) = omega (arith, place_is, b_long, q_long, draft) in
    scopes_end a q b ss false params first place (pc + (stats_size k a.back ss false params j + 1)) first_is d ends there

pub returns_declared : (a b : Writer) (block : Block) (params : ℕ) → DeclaresBlock a b block false 0 params → ends_by_return block ≡ true → DeclaresWhole a b block params
returns_declared a b (Falls ss tokens line) params d e = absurd (cc)
returns_declared a b (Returns ss es tokens line) params d e = d

-- the whole

abbrev empty : List Const → Listing
empty k = record { constants = k; steps = []; made = 0 }

pub body_declared :
    (k : List Const) (body : Body) (a b : Writer) (vs : List Variable) (params : ℕ) (back : Leaving) (end : ℕ) → params ≡ length (out-Body body).params.items → back ≡ leaving_of (out-Body body).vararg params (plain_block (out-Body body).block)
    → a.emitter ≡ listed (empty k) (opening (out-Body body).vararg params (out-Body body).line)
    → a.variables ≡ [] ++ map (λ name. begun (Some name.text) 0) (out-Body body).params.items → a.back ≡ back
    → Wrote a b (made_in_block (plain_block (out-Body body).block)) (λ reach. whole_from a.emitter.constants a.back (plain_block (out-Body body).block) params a.emitter.made (length a.emitter.steps) reach)
    → DeclaresWhole a b (plain_block (out-Body body).block) params
    → end ≡ length b.emitter.steps → vs ≡ ended_from 0 end b.variables
    → vs ≡ map over (variables_in k (plain_body body))
body_declared k body a b vs params back end params_is back_is a_is a_vars a_back w d end_is ends =
    let block = plain_block (out-Body body).block in
    let names = (out-Body body).params.items in
    let vararg = (out-Body body).vararg in
    let line = (out-Body body).line in
    let begin : ℕ → List Coded = λ n. opening vararg n line in
    let size : length a.emitter.steps ≡ length (begin params) = ap (λ z. length z.steps) a_is ∙ length-map (begin params) step in
    let field : a.back ≡ leaving_of vararg params block = a_back ∙ back_is in
    let code : whole_from a.emitter.constants a.back block params a.emitter.made (length a.emitter.steps) nowhere ≡ whole_code k (leaving_of vararg params block) block params (length (begin params)) =
    ap (λ z. whole_from z.constants a.back block params z.made (length a.emitter.steps) nowhere) a_is
    ∙ ap₂ (λ n m. whole_from k n block params 0 m nowhere) field size
    ∙ whole_is k (leaving_of vararg params block) block params (length (begin params)) in
    let long = written_sized a.emitter b.emitter w.draft (made_in_block block) w.emitter_is in
    let draft = draft_sized a b (made_in_block block) (λ reach. whole_from a.emitter.constants a.back block params a.emitter.made (length a.emitter.steps) reach) w nowhere in
    let same = ap length code in
    let parts = length-append (begin params) (whole_code k (leaving_of vararg params block) block params (length (begin params))) in
    let there : end ≡ length (begin params ++ whole_code k (leaving_of vararg params block) block params (length (begin params))) = omega (arith, end_is, long, draft, same, parts, size) in
    let inner = within_whole k (leaving_of vararg params block) block params 0 (length (begin params)) in
    let declared : b.variables ≡ map (λ name. begun (Some name.text) 0) names ++ map over inner =
    d ∙ ap₂ (λ xs z. xs ++ map over (within_whole z.constants a.back block params z.made (length a.emitter.steps))) a_vars a_is
    ∙ ap₂ (λ n m. map (λ name. begun (Some name.text) 0) names ++ map over (within_whole k n block params 0 m)) field size in
    ends ∙ ap₂ (ended_from 0) there declared
    ∙ body_ended names (length (begin params ++ whole_code k (leaving_of vararg params block) block params (length (begin params)))) inner
    ∙ ap (λ n. map over (variables names 0 (length (begin n ++ whole_code k (leaving_of vararg n block) block n (length (begin n)))) ++ within_whole k (leaving_of vararg n block) block n 0 (length (begin n)))) params_is
    ∙ sym (ap (λ p. map over (variables_in k p)) (plain-body body))

-- with the constants of the body they are those of the definition

variables_are :
    (params : List Name) (vararg : Bool) (inner : Block) (ups : List UpName) (line : ℕ)
    → variables_in (of_block inner []) (BodyOf params vararg inner ups line) ≡ variables_of (BodyOf params vararg inner ups line)
variables_are params true inner ups line = refl
variables_are params false inner ups line = refl

abbrev pub constants_of : tree.Body → List Const
constants_of (BodyOf params vararg inner ups line) = of_block inner []

pub code_is : (body : tree.Body) → function_of (constants_of body) body ≡ body_code body
code_is (BodyOf params vararg inner ups line) = refl

pub finished_are : (body : tree.Body) (vs : List Variable) → vs ≡ map over (variables_in (constants_of body) body) → map finished vs ≡ variables_of body
finished_are (BodyOf params vararg inner ups line) vs e =
    ap (map finished) e ∙ finished_over (variables_in (of_block inner []) (BodyOf params vararg inner ups line)) ∙ variables_are params vararg inner ups line
