use Rattle.std.proofs.Common.{rules, ◌≡◌, ◌∷◌, true, false, subst}
use Rattle.std.proofs.lemmas.Result.{IfOk-weaker}
use Rattle.machine_moves.specs.Ending.{ending_of}
use Rattle.machine_moves.specs.declared.tops.Over.TheVariants.{Handler}
use Rattle.machine_errors.specs.Asking.{AsksOver}
use Rattle.machine_errors.proofs.Asked.{refused_sound, without_room}
use Rattle.machine_errors.proofs.Handled.{handler_called, handler_without_room}
use Rattle.machine_errors.proofs.handlers.call_handler.Goals as goal

pub returns-then-branch-clause-leads : goal.returns-then-branch-clause-leads
returns-then-branch-clause-leads c = λ env.
    let W = c.args.world.now in
    let room : c.in_ok-ask_over.field-0 ≡ true = search rules in
    let is : c.in_ok-called.called.items ≡ c.args.handler ∷ W.moving.items = search rules in
    handler_called W c.ask_over.new.world c.args.handler c.in_ok-called.called.items env (subst (AsksOver W c.ask_over.new.world Handler c.in_ok-called.called.items) room c.in_ok-ask_over.ensures.asks) is

pub give_up-requires : goal.give_up-requires
give_up-requires c = refused_sound c.in_ok-ask_over.ensures.asks c.requires.sound c.ask_over.ensures.rest c.ask_over.ensures.listed (search rules)

pub returns-clause-leads : goal.returns-clause-leads
returns-clause-leads c =
    let room : c.in_ok-ask_over.field-0 ≡ false = search rules in
    IfOk-weaker c.give_up.result _ _
    (λ ending g env. handler_without_room c.args.world.now c.ask_over.new.world c.give_up.new.world c.args.handler c.in_ok-called.called.items env (ending_of ending) (without_room c.in_ok-ask_over.ensures.asks room) g) c.give_up.ensures.leads
