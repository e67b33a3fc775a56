use Rattle.std.proofs.Common.{sym, subst}
use Rattle.std.specs.Prelude.{map}
use Rattle.lua_heap.specs.Reading.{value as meant}
use Rattle.machine_core.specs.FrameRows.{by_asking}
use Rattle.machine_core.specs.Moves.{go}
use Rattle.move_laws.specs.Memory.{IsSafe, Leads}
use Rattle.machine_operations.proofs.Afterwards.{follows_by}
use Rattle.machine_operations.proofs.Came.{first_named}
use Rattle.machine_operations.proofs.following.take_value.Goals as goal

pub follow-requires-clause-safe : goal.follow-requires-clause-safe
follow-requires-clause-safe c =
    let W = c.args.world.now in
    let at = c.requires.at in
    let env = map (meant W.strings) c.args.came.now in
    record {
      place = at.place;
      is = at.is;
      env = env;
      named = first_named W.strings c.args.came.now c.first_or_nil-v.result c.first_or_nil-v.ensures;
      safe = subst (λ r. IsSafe r env W) (follows_by by_asking at.place.function.code c.args.pc c.args.after) (c.requires.safe at.place at.is);
    }

pub returns-clause-leads : goal.returns-clause-leads
returns-clause-leads c = λ place is.
    let W = c.args.world.now in
    let env = map (meant W.strings) c.args.came.now in
    subst (λ r. Leads r env W c.follow.new.world go) (sym (follows_by by_asking place.function.code c.args.pc c.args.after)) (c.follow.ensures.leads.leads place is env (first_named W.strings c.args.came.now c.first_or_nil-v.result c.first_or_nil-v.ensures))
