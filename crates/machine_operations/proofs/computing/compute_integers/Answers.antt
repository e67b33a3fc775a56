use Rattle.std.proofs.Common.{rules, ◌≡◌, ap, sym, subst, ◌∙◌, of_z, to_z, w64}
use Rattle.std.proofs.lemmas.Int.{to_z-of_z}
use Rattle.std.proofs.lemmas.Result.{IfOk-weaker}
use Rattle.machine_core.specs.FrameRows.{expand, raises}
use Rattle.machine_core.specs.Moves.{go}
use Rattle.meta_ops.specs.Events.{event_of}
use Rattle.move_laws.specs.Memory.{IsSafe, Leads}
use Rattle.machine_moves.specs.Ending.{ending_of}
use Rattle.machine_operations.specs.Computing.{puts}
use Rattle.machine_operations.proofs.Integers.{fast_found, fast_fails, same_computed}
use Rattle.machine_operations.proofs.computing.compute_integers.Goals as goal

pub put_integer-requires : goal.put_integer-requires
put_integer-requires c =
    let h = c.requires.safe in
    let event = event_of c.args.event in
    let e = same_computed event (to_z-of_z w64 c.args.m c.ranges.m) (to_z-of_z w64 c.args.n c.ranges.n) c.computed.ensures in
    let k : to_z w64 (of_z w64 c.in-Some.k) ≡ c.in-Some.k = search rules in
    let t = fast_found event c.args.to c.args.m c.args.n c.in-Some.k (e ∙ c.in-Some.is) ∙ ap (puts c.args.to) (sym k) in
    record {
      order = c.requires.stands.sound.order;
      at = c.requires.stands.at;
      room = c.requires.stands.room;
      safe = record { env = h.env; safe = subst (λ t. IsSafe (expand t) h.env c.args.world.now) t h.safe };
    }

pub returns-in-Some-clause-leads : goal.returns-in-Some-clause-leads
returns-in-Some-clause-leads c = λ env.
    let event = event_of c.args.event in
    let e = same_computed event (to_z-of_z w64 c.args.m c.ranges.m) (to_z-of_z w64 c.args.n c.ranges.n) c.computed.ensures in
    let k : to_z w64 (of_z w64 c.in-Some.k) ≡ c.in-Some.k = search rules in
    let t = fast_found event c.args.to c.args.m c.args.n c.in-Some.k (e ∙ c.in-Some.is) ∙ ap (puts c.args.to) (sym k) in
    subst (λ t. Leads (expand t) env c.args.world.now c.put_integer.new.world go) (sym t) (c.put_integer.ensures.leads env)

pub raise-requires-clause-sound : goal.raise-requires-clause-sound
raise-requires-clause-sound c = c.requires.stands.sound

pub raise-requires-clause-frame : goal.raise-requires-clause-frame
raise-requires-clause-frame c = record { place = c.requires.stands.at.place; is = c.requires.stands.at.is }

pub returns-in_ok-text-in-None-clause-leads : goal.returns-in_ok-text-in-None-clause-leads
returns-in_ok-text-in-None-clause-leads c =
    let W = c.args.world.now in
    let new = c.raise.new.world in
    let event = event_of c.args.event in
    let e = same_computed event (to_z-of_z w64 c.args.m c.ranges.m) (to_z-of_z w64 c.args.n c.ranges.n) c.computed.ensures in
    let t = c.deref.ensures.value ∙ c.in_ok-text-in-None.ensures W.strings ∙ c.by_zero.ensures W.strings in
    IfOk-weaker c.raise.result _ _
    (λ ending l. λ env.
    subst (λ t. Leads (expand t) env W new (ending_of ending)) (sym (fast_fails event c.args.to c.args.m c.args.n (e ∙ c.in-None.is)))
    (subst (λ text. Leads (raises text) env W new (ending_of ending)) t (l env)))
    c.raise.ensures.leads
