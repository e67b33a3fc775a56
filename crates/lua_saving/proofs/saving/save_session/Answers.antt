use Rattle.std.proofs.Common.{rules, ◌≡◌, ◌∙◌, List, true, Err, ap, subst}
use Rattle.table_core.specs.declared.value.Value.{Value as Kept}
use Rattle.lua_heap.specs.declared.world.World.{World as Memory}
use Rattle.graph_core.specs.declared.permanents.Permanents.{Permanents}
use Rattle.eris_write.specs.Persisting.{Persists}
use Rattle.lua_saving.proofs.Imaged.{five, may_persist, imaged, too_large, never}
use Rattle.lua_saving.proofs.saving.save_session.Goals as goal

pub persist-requires : goal.persist-requires
persist-requires c =
    let W : Memory = c.args.world.now in
    let roots : List Kept = c.roots_of-roots.result in
    may_persist W roots c.in_ok-permanents.permanents c.in_ok-permanents.ensures c.roots_of-roots.ensures (five W roots c.roots_of-roots.ensures) c.requires

pub returns-in-Ok-clause-image : goal.returns-in-Ok-clause-image
returns-in-Ok-clause-image c =
    let W : Memory = c.args.world.now in
    let roots : List Kept = c.roots_of-roots.result in
    let ps : Permanents = c.in_ok-permanents.permanents in
    let there : c.has_prelude.result ≡ true = search rules in
    imaged W roots ps c.in_ok-permanents.ensures c.roots_of-roots.ensures (five W roots c.roots_of-roots.ensures) c.in-Ok.bytes.items (c.has_prelude.ensures.made there) c.tables_are_kept.ensures
    (subst (Persists W roots ps) c.in-Ok.is c.persist.ensures)

pub returns-in-Err-TooLarge-clause-large : goal.returns-in-Err-TooLarge-clause-large
returns-in-Err-TooLarge-clause-large c = λ _.
    let W : Memory = c.args.world.now in
    let roots : List Kept = c.roots_of-roots.result in
    let ps : Permanents = c.in_ok-permanents.permanents in
    too_large W roots ps c.in_ok-permanents.ensures c.roots_of-roots.ensures (five W roots c.roots_of-roots.ensures)
    (subst (Persists W roots ps) (c.in-Err-TooLarge.is ∙ ap Err c.in-Err-TooLarge.field-0-is) c.persist.ensures)

pub unreachable-requires : goal.unreachable-requires
unreachable-requires c =
    let W : Memory = c.args.world.now in
    let roots : List Kept = c.roots_of-roots.result in
    let ps : Permanents = c.in_ok-permanents.permanents in
    let there : c.has_prelude.result ≡ true = search rules in
    never W roots ps c.in_ok-permanents.ensures c.roots_of-roots.ensures (five W roots c.roots_of-roots.ensures) c.in-Err-Refused.field-0-0 c.requires (c.has_prelude.ensures.made there)
    (subst (Persists W roots ps) (c.in-Err-Refused.is ∙ ap Err c.in-Err-Refused.field-0-is) c.persist.ensures)
