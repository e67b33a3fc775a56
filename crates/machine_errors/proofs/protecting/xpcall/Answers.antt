use Rattle.std.proofs.Common.{rules, ◌≡◌, ◌∷◌, true, false, subst}
use Rattle.std.specs.Prelude.{drop}
use Rattle.std.proofs.lemmas.Result.{IfOk-weaker}
use Rattle.machine_moves.specs.Ending.{ending_of}
use Rattle.machine_moves.specs.declared.tops.Over.TheVariants.{Xpcall}
use Rattle.machine_errors.specs.Asking.{AsksOver}
use Rattle.machine_errors.specs.Protected.{first_of}
use Rattle.machine_errors.proofs.Asked.{refused_sound, without_room}
use Rattle.machine_errors.proofs.Calls.{xpcall_asks, xpcall_fails}
use Rattle.machine_errors.proofs.protecting.xpcall.Goals as goal

pub returns-then-branch-clause-leads : goal.returns-then-branch-clause-leads
returns-then-branch-clause-leads c = λ env.
    let W = c.args.world.now in
    let room : c.in_ok-ask_over.field-0 ≡ true = search rules in
    let is : c.in_ok-asked.asked.items ≡ first_of W.moving.items ∷ drop 2 W.moving.items = search rules in
    let handler : c.first_of-handler.result ≡ first_of (drop 1 W.moving.items) = search rules in
    xpcall_asks W c.ask_over.new.world c.first_of-handler.result c.in_ok-asked.asked.items env (subst (AsksOver W c.ask_over.new.world (Xpcall c.first_of-handler.result) c.in_ok-asked.asked.items) room c.in_ok-ask_over.ensures.asks) handler is

pub blame-requires : goal.blame-requires
blame-requires c = refused_sound c.in_ok-ask_over.ensures.asks c.requires.sound c.ask_over.ensures.rest c.ask_over.ensures.listed (search rules)

pub returns-clause-leads : goal.returns-clause-leads
returns-clause-leads c =
    let room : c.in_ok-ask_over.field-0 ≡ false = search rules in
    let handler : c.first_of-handler.result ≡ first_of (drop 1 c.args.world.now.moving.items) = search rules in
    IfOk-weaker c.blame.result _ _ (λ ending b env. xpcall_fails c.args.world.now c.ask_over.new.world c.blame.new.world c.first_of-handler.result c.in_ok-asked.asked.items env (ending_of ending) (without_room c.in_ok-ask_over.ensures.asks room) handler b) c.blame.ensures.leads
