use Rattle.std.proofs.Common.{arith, ◌≡◌, ◌<◌, [], None, map, ap, ◌∙◌}
use Rattle.std.proofs.lemmas.Result.{IfOk-weaker}
use Rattle.tree_core.specs.Plain.{plain_block, plain_body}
use Rattle.code_core.specs.Prototype.{none, count}
use Rattle.code_of.specs.Constants.{of_block}
use Rattle.code_of.specs.CodeOf.{from_block, from_body, body_code, where_known}
use Rattle.code_emitter.specs.Listing.{steps}
use Rattle.code_parts.proofs.Whole.{block_of}
use Rattle.code_parts.specs.Assembled.{low_prototypes}
use Rattle.code_parts.specs.Scopes.{over}
use Rattle.code_stat.specs.Whole.{function_of, variables_in}
use Rattle.code_stat.proofs.Bodies.{finished_are}
use Rattle.compiler.proofs.Within.{fewer_at, all_made, written_code, block_constants_are, block_is, within_body, whole}
use Rattle.compiler.proofs.functions.+functions.Goals as goal

pub inner_functions-function-requires : goal.inner_functions-function-requires
inner_functions-function-requires t c =
    let less : count (from_body None (plain_body c.body-item.result.now)) < count (from_block None (plain_block c.args.block.now) none) =
    fewer_at (λ b. plain_body b.now) c.deref-body-items.result.now (plain_block c.args.block.now) c.loop-body.body-index c.body-item.result
    (omega (arith, c.loop-body-test.true, c.loop-body.auto.body-index-end)) c.body-item.is (ap (λ bs. map (λ b. plain_body b.now) bs) c.deref-body-items.ensures.value ∙ c.in_ok-inner_bodies.ensures) in
    (omega (arith, less, c.decreases), tt)

pub inner_functions-returns : goal.inner_functions-returns
inner_functions-returns t c =
    all_made c.args.source.now (λ b. plain_body b.now) c.deref-body-items.result.now (plain_block c.args.block.now) c.loop-body.body-index c.loop-body.list.items
    (omega (arith, c.loop-body-test.false, c.loop-body.auto.body-index-end)) (ap (λ bs. map (λ b. plain_body b.now) bs) c.deref-body-items.ensures.value ∙ c.in_ok-inner_bodies.ensures) c.loop-body.invariant

pub function-returns : goal.function-returns
function-returns t c =
    let body = plain_body c.args.body.now in
    let found : c.in_ok-constants.constants ≡ of_block (block_of body) [] = c.in_ok-constants.ensures ∙ ap (λ b. of_block b []) (block_is c.args.body.now) in
    let code = c.deref.ensures.value ∙ c.finish-steps.ensures.steps ∙ ap (λ l. l.steps) c.in_ok-emitter.ensures.code ∙ ap (λ cs. steps (function_of cs body)) found ∙ ap steps (written_code body) in
    let constants = c.into_vec-constants.ensures ∙ c.finish-steps.ensures.constants ∙ ap (λ l. l.constants) c.in_ok-emitter.ensures.code ∙ found in
    let within = c.in_ok-inner.ensures ∙ ap low_prototypes (ap (λ b. from_block c.args.source.now b none) (block_is c.args.body.now) ∙ within_body c.args.source.now body) in
    let variables = finished_are body _ (c.in_ok-emitter.ensures.variables ∙ ap (λ cs. map over (variables_in cs body)) (found ∙ block_constants_are body)) in
    let locals = c.in_ok-locals.ensures ∙ ap (where_known c.args.source.now) variables in
    IfOk-weaker c.prototype.result (λ p. p ≡ _) (λ p. p ≡ _) (λ p h. h ∙ whole c.args.source.now body _ _ _ _ code constants locals within) c.prototype.ensures
