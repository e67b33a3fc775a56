use Rattle.std.proofs.Common.{List, sym, subst}
use Rattle.std.proofs.lemmas.Result.{IfOk-weaker}
use Rattle.int_core.specs.Value.{Value}
use Rattle.instruction_forms.specs.Forms.{event_of}
use Rattle.machine_core.specs.InstructionRows.{fast}
use Rattle.machine_core.specs.FrameRows.{expand}
use Rattle.move_laws.specs.Memory.{Leads}
use Rattle.machine_moves.specs.Ending.{ending_of}
use Rattle.machine_rows.proofs.Going.{function_of}
use Rattle.machine_operations.specs.Computing.{MayCompute}
use Rattle.machine_operations.proofs.Integers.{both_read, computes_from, left_is_read, right_is_read}
use Rattle.machine_operations.proofs.computing.arithmetic.Goals as goal

pub read_integer-m-requires : goal.read_integer-m-requires
read_integer-m-requires c =
    record {
      function = function_of c.requires.stands.at.place c.requires.stands.sound c.requires.stands.at.is;
      there = left_is_read c.args.world.now c.args.left c.args.right c.args.to (event_of c.args.operator) (c.requires.safe c.requires.stands.at.place.function.code);
    }

pub read_integer-n-requires : goal.read_integer-n-requires
read_integer-n-requires c =
    record {
      function = function_of c.requires.stands.at.place c.requires.stands.sound c.requires.stands.at.is;
      there = right_is_read c.args.world.now c.args.left c.args.right c.args.to (event_of c.args.operator) (c.requires.safe c.requires.stands.at.place.function.code) c.read_integer-m.ensures;
    }

pub compute-requires-clause-stands : goal.compute-requires-clause-stands
compute-requires-clause-stands c = c.requires.stands

pub compute-requires-clause-safe : goal.compute-requires-clause-safe
compute-requires-clause-safe c =
    let W = c.args.world.now in
    subst (λ event. MayCompute W event c.read_integer-m.result c.read_integer-n.result c.args.to) (sym c.event_of.ensures)
    (both_read W c.args.left c.args.right c.args.to (event_of c.args.operator) (c.requires.safe c.requires.stands.at.place.function.code) c.read_integer-m.ensures c.read_integer-n.ensures)

pub returns-clause-leads : goal.returns-clause-leads
returns-clause-leads c =
    let W = c.args.world.now in
    let new = c.compute.new.world in
    IfOk-weaker c.compute.result _ _
    (λ ending l. λ p.
    computes_from W c.args.left c.args.right c.args.to (event_of c.args.operator) c.read_integer-m.ensures c.read_integer-n.ensures
    (subst (λ event. (env : List Value) → Leads (expand (fast event c.args.to c.read_integer-m.result c.read_integer-n.result)) env W new (ending_of ending)) c.event_of.ensures l))
    c.compute.ensures.leads
