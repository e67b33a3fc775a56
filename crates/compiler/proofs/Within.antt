-- The prototype of the parts that are written for a body, and those of the functions that a block makes.
use Rattle.std.proofs.Common.{◌≡◌, ℕ, ◌<◌, ◌≤◌, List, [], ◌∷◌, length, map, take, Option, None, refl, ap, sym, subst, ◌∙◌}
use Rattle.std.specs.Prelude.{slice_index_or}
use Rattle.std.proofs.lemmas.List.{get_or-map, length-map, take_all}
use Rattle.tree_core.specs.Tree as tree
use Rattle.tree_core.specs.declared.tree.Body.{Body, out-Body}
use Rattle.tree_core.specs.Plain.{plain_block, plain_body}
use Rattle.tree_core.proofs.Rows.{plain-body}
use Rattle.code_core.specs.declared.proto.Const.{Const}
use Rattle.code_core.specs.declared.proto.LocVar.{LocVar}
use Rattle.code_core.specs.Prototype.{Parts, Prototype, Prototypes, none, more, prototypes, count}
use Rattle.code_of.specs.Constants.{of_block}
use Rattle.code_of.specs.CodeOf.{body_code, code_of, from_block, from_body, variables_of, where_known}
use Rattle.code_emitter.specs.declared.emitter.Step.{Step}
use Rattle.code_emitter.specs.Listing.{steps}
use Rattle.code_parts.specs.Assembled.{assembled, low_parts, low_prototype, low_prototypes}
use Rattle.code_parts.specs.Bodies.{block_bodies}
use Rattle.code_parts.proofs.Whole.{assembled_whole, block_of}
use Rattle.code_parts.proofs.Compiling.{inner_compiled, inner_fewer}
use Rattle.code_stat.specs.Whole.{function_of}
use Rattle.code_stat.proofs.Bodies.{constants_of}

-- a function in a block has fewer functions in it
pub fewer_at :
    {X : Type 0} (p : X → tree.Body) (bodies : List X) (inner : tree.Block) (i : ℕ) (x : X)
    → i < length bodies → x ≡ slice_index_or bodies i x → map p bodies ≡ block_bodies inner
    → count (from_body None (p x)) < count (from_block None inner none)
fewer_at p bodies inner i x h is listed =
    inner_fewer None inner i (p x) (subst (λ bs. i < length bs) listed (rw (length-map bodies p) h))
    (subst (λ bs. p x ≡ slice_index_or bs i (p x)) listed (ap p is ∙ sym (get_or-map p bodies i x (p x) h)))

-- the prototypes of all functions that a block makes

low_list : (ps : List Prototype) → prototypes (map low_prototype ps) ≡ low_prototypes (prototypes ps)
low_list [] = refl
low_list (p ∷ ps) = ap (more (low_parts p.own) (low_prototypes p.inner)) (low_list ps)

low_each : {X : Type 0} (source : Option (List ℕ)) (p : X → tree.Body) (bodies : List X) → map (λ x. low_prototype (code_of source (p x))) bodies ≡ map low_prototype (map (code_of source) (map p bodies))
low_each source p [] = refl
low_each source p (x ∷ xs) = ap (λ ps. low_prototype (code_of source (p x)) ∷ ps) (low_each source p xs)

pub all_made :
    {X : Type 0} (source : Option (List ℕ)) (p : X → tree.Body) (bodies : List X) (inner : tree.Block) (i : ℕ) (ps : List Prototype)
    → length bodies ≤ i → map p bodies ≡ block_bodies inner → ps ≡ map (λ x. low_prototype (code_of source (p x))) (take i bodies)
    → prototypes ps ≡ low_prototypes (from_block source inner none)
all_made source p bodies inner i ps h listed is =
    ap prototypes (is ∙ ap (λ xs. map (λ x. low_prototype (code_of source (p x))) xs) (take_all i bodies h) ∙ low_each source p bodies)
    ∙ low_list (map (code_of source) (map p bodies))
    ∙ ap (λ bs. low_prototypes (prototypes (map (code_of source) bs))) listed
    ∙ ap low_prototypes (sym (inner_compiled source inner))

-- a function's prototype

pub written_code : (body : tree.Body) → function_of (of_block (block_of body) []) body ≡ body_code body
written_code (tree.BodyOf params vararg inner ups line) = refl

pub block_constants_are : (body : tree.Body) → of_block (block_of body) [] ≡ constants_of body
block_constants_are (tree.BodyOf params vararg inner ups line) = refl

pub block_is : (body : Body) → plain_block (out-Body body).block ≡ block_of (plain_body body)
block_is body = ap block_of (sym (plain-body body))

pub within_body : (source : Option (List ℕ)) (body : tree.Body) → from_block source (block_of body) none ≡ from_body source body
within_body source (tree.BodyOf params vararg inner ups line) = refl

abbrev made_of : Parts → Prototypes → Prototype
made_of own inner = record { own = own; inner = inner }

pub whole :
    (source : Option (List ℕ)) (body : tree.Body) (ss : List Step) (cs : List Const) (vs : List LocVar) (inner : Prototypes)
    → ss ≡ steps (body_code body) → cs ≡ of_block (block_of body) [] → vs ≡ where_known source (variables_of body) → inner ≡ low_prototypes (from_body source body)
    → made_of (assembled source body ss cs vs) inner ≡ low_prototype (code_of source body)
whole source body ss cs vs inner code constants locals within =
    ap (λ p. made_of (assembled source body ss cs vs) p) within
    ∙ ap (λ xs. made_of (assembled source body xs cs vs) (low_prototypes (from_body source body))) code
    ∙ ap (λ xs. made_of (assembled source body (steps (body_code body)) xs vs) (low_prototypes (from_body source body))) constants
    ∙ ap (λ xs. made_of (assembled source body (steps (body_code body)) (of_block (block_of body) []) xs) (low_prototypes (from_body source body))) locals
    ∙ ap (λ own. made_of own (low_prototypes (from_body source body))) (assembled_whole source body)
