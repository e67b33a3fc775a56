use Rattle.std.proofs.Common.{◌≡◌, [], ap, sym, rules}
use Rattle.std.specs.Prelude.{map}
use Rattle.lua_heap.specs.Reading.{value as meant}
use Rattle.machine_core.specs.Text.{read_varargs}
use Rattle.machine_core.specs.InstructionRows.{write_values}
use Rattle.machine_core.specs.FrameRows.{at_once, expand}
use Rattle.move_laws.proofs.Rows.{first, safe_after}
use Rattle.machine_moves.proofs.OnTop.{if_ok}
use Rattle.machine_objects.proofs.lists.extra_arguments.Goals as goal

pub read_varargs-requires : goal.read_varargs-requires
read_varargs-requires c = record { place = c.requires.at.place; is = c.requires.at.is }

pub take_results-requires-clause-safe : goal.take_results-requires-clause-safe
take_results-requires-clause-safe c =
    let W = c.args.world.now in
    let same : c.deref.result.now ≡ c.read_varargs.result.now = search rules in
    record {
      when = at_once;
      env = map (meant W.strings) c.read_varargs.result.now;
      slot = 0;
      are = ap (map (meant W.strings)) (sym same);
      safe = safe_after (λ v _. expand (write_values c.args.to c.args.count v)) (c.requires.safe c.requires.at.place.function.code) (c.read_varargs.ensures []);
    }

pub returns-clause-leads : goal.returns-clause-leads
returns-clause-leads c =
    let W = c.args.world.now in
    let same : c.deref.result.now ≡ c.read_varargs.result.now = search rules in
    if_ok c.take_results.result c.take_results.ensures.leads c.take_results.ensures.leads
    (λ e l _ p. first (λ v _. expand (write_values c.args.to c.args.count v)) (c.read_varargs.ensures []) (l at_once (map (meant W.strings) c.read_varargs.result.now) 0 (ap (map (meant W.strings)) (sym same))))
