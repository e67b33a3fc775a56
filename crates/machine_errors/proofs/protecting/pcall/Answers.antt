use Rattle.std.proofs.Common.{rules, ◌≡◌, ◌∷◌, true, false, subst}
use Rattle.std.specs.Prelude.{drop}
use Rattle.std.proofs.lemmas.Result.{IfOk-weaker}
use Rattle.machine_moves.specs.Ending.{ending_of}
use Rattle.machine_moves.specs.declared.tops.Over.TheVariants.{Pcall}
use Rattle.machine_errors.specs.Asking.{AsksOver}
use Rattle.machine_errors.specs.Protected.{first_of}
use Rattle.machine_errors.proofs.Asked.{refused_sound, without_room}
use Rattle.machine_errors.proofs.Calls.{pcall_asks, pcall_fails}
use Rattle.machine_errors.proofs.protecting.pcall.Goals as goal

pub returns-then-branch-clause-leads : goal.returns-then-branch-clause-leads
returns-then-branch-clause-leads c = λ env.
    let W = c.args.world.now in
    let room : c.in_ok-ask_over.field-0 ≡ true = search rules in
    let is : c.in_ok-asked.asked.items ≡ first_of W.moving.items ∷ drop 1 W.moving.items = search rules in
    pcall_asks W c.ask_over.new.world c.in_ok-asked.asked.items env (subst (AsksOver W c.ask_over.new.world Pcall c.in_ok-asked.asked.items) room c.in_ok-ask_over.ensures.asks) is

pub blame-requires : goal.blame-requires
blame-requires c = refused_sound c.in_ok-ask_over.ensures.asks c.requires.sound c.ask_over.ensures.rest c.ask_over.ensures.listed (search rules)

pub returns-clause-leads : goal.returns-clause-leads
returns-clause-leads c =
    let room : c.in_ok-ask_over.field-0 ≡ false = search rules in
    IfOk-weaker c.blame.result _ _ (λ ending b env. pcall_fails c.args.world.now c.ask_over.new.world c.blame.new.world c.in_ok-asked.asked.items env (ending_of ending) (without_room c.in_ok-ask_over.ensures.asks room) b) c.blame.ensures.leads
