use Rattle.std.proofs.Common.{ap, ◌∙◌}
use Rattle.machine_core.specs.World.{place_of}
use Rattle.machine_errors.proofs.Texts.{leads_from, texts_read_same, texts_in_order, texts_sound}
use Rattle.machine_errors.proofs.Leaving.{blamed_so, can_leave}
use Rattle.machine_errors.proofs.raising.raise.Goals as goal

pub begin_leaving_with-requires : goal.begin_leaving_with-requires
begin_leaving_with-requires c =
    let a = c.in_ok-error.ensures.added in
    let h = c.requires.frame in
    record {
      order = texts_in_order c.requires.sound.order c.in_ok-error.ensures.added;
      frame = can_leave _ (texts_sound c.requires.sound a) (record { place = h.place; is = ap place_of ((texts_read_same c.requires.sound a).is 0) ∙ h.is });
      one = ap Rattle.std.proofs.Common.length c.in_ok-error.ensures.blamed.one;
    }

pub returns-clause-leads : goal.returns-clause-leads
returns-clause-leads c = λ env.
    let r = texts_read_same c.requires.sound c.in_ok-error.ensures.added in
    leads_from r (c.begin_leaving_with.ensures.leads c.args.text.now (blamed_so r c.in_ok-error.ensures.blamed) env)
