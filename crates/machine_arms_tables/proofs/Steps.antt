-- What an instruction does is a step, and the world is sound after it.
use Rattle.std.proofs.Common.{◌≡◌, ℕ, zero, suc, ◌<◌, [], length, Option, Some, None, refl, ap, ◌∙◌, subst}
use Rattle.std.specs.Prelude.{slice_get}
use Rattle.code_core.specs.Check.{at}
use Rattle.code_core.specs.Instruction.{opcode_of}
use Rattle.code_core.specs.declared.instruction.Instruction.{Instruction}
use Rattle.code_core.specs.declared.opcode.Opcode.{Opcode}
use Rattle.machine_core.specs.World.{World}
use Rattle.machine_core.specs.FrameRows.{expand}
use Rattle.machine_core.specs.InstructionRows.{text_at, text_by, row_of}
use Rattle.machine_core.specs.MachineStep.{from_world, step, steps, and_then}
use Rattle.machine_core.specs.Moves.{Ending, go, Row, Outcome, trapped, ends, run}
use Rattle.machine_core.specs.Text.{trap}
use Rattle.machine_focus.proofs.Places.{step_is}
use Rattle.machine_sound.specs.Laws.{StepGood}
use Rattle.machine_sound.proofs.Steps.{steps_good}
use Rattle.machine_view.specs.View.{Around, IsAt}
use Rattle.machine_view.proofs.Here.{ready_is_at}
use Rattle.machine_arms_tables.specs.Frame.{AreOpenAlike, Code, Moment, IsOf, world_at, Leads, IsReadyAt, StepsOn}
use Rattle.machine_arms_tables.proofs.Leading.{held_at}

-- one step more
module _ (rows : ℕ → Row) where
  ended : (o : Outcome) → and_then o (steps rows zero) ≡ o
  ended trapped = refl
  ended (ends e W) = refl

  first_of : (n : ℕ) (o : Outcome) → ((e : Ending) (W : World) → steps rows (suc n) e W ≡ and_then (steps rows n e W) (step rows)) → and_then o (steps rows (suc n)) ≡ and_then (and_then o (steps rows n)) (step rows)
  first_of n trapped again = refl
  first_of n (ends e W) again = again e W

  pub last_of : (n : ℕ) (e : Ending) (W : World) → steps rows (suc n) e W ≡ and_then (steps rows n e W) (step rows)
  last_of zero e W = ended (step rows e W)
  last_of (suc n) e W = first_of n (step rows e W) (last_of n)

module _ (g : Around) (meta : Option ℕ) (k : Code) (m : Moment) (here : IsReadyAt g meta k m) where
  is_of : IsOf g k
  is_of = record { code = here.ready.code; upvalues_are = here.upvalues_are; texts_are = here.texts_are }

  -- it calls no primitive, so it is one with any rows of these
  pub stepped_run : (rows : ℕ → Row) (n : Moment) (op : Opcode) (w : Instruction) → IsAt op w k.words k.constants m.registers m.pc
      → run (expand (row_of g.context.closure.code m.pc op w)) [] (world_at g meta m) ≡ ends go (world_at g meta n) → step rows go (world_at g meta m) ≡ ends go (world_at g meta n)
  stepped_run rows n op w a e =
      let p = g.context.closure.code in
      let at_pc : at p m.pc ≡ Some w = ap (λ ws. slice_get ws m.pc) here.ready.code.code.words_are ∙ a.at_pc in
      let text_is : text_at p m.pc ≡ row_of p m.pc op w = ap (λ (o : Option Instruction). elim o [ None ↦ trap | Some w ↦ text_by p m.pc w (opcode_of w) ]) at_pc ∙ ap (text_by p m.pc w) a.is_opcode in
      step_is g.context here.ready.frame.stands (held_at g meta m) rows
      ∙ ap (λ t. from_world (world_at g meta m) (run (expand t) [] (world_at g meta m))) text_is
      ∙ ap (from_world (world_at g meta m)) e

  pub stepped_by : (rows : ℕ → Row) (n : Moment) (op : Opcode) (w : Instruction) → IsAt op w k.words k.constants m.registers m.pc → Leads op w k m n → step rows go (world_at g meta m) ≡ ends go (world_at g meta n)
  stepped_by rows n op w a d = stepped_run rows n op w a (d.runs g meta is_of here.ready.frame.stands)

  pub steps_when : (n : Moment) → AreOpenAlike m.cells n.cells → step g.rows go (world_at g meta m) ≡ ends go (world_at g meta n) → StepsOn g meta k m n
  steps_when n o q =
      let f = here.ready.frame in
      record {
        ready = record {
          ready = record {
            code = here.ready.code;
            frame = record { stands = f.stands; safe = f.safe; sound = subst (StepGood g.primitives) q (steps_good g.primitives g.rows f.safe go (world_at g meta m) f.sound) };
          };
          upvalues_are = here.upvalues_are;
          texts_are = here.texts_are;
        };
        opened = o;
        runs = λ start x. (suc x.0, last_of g.rows x.0 go (world_at g meta start) ∙ ap (λ o. and_then o (step g.rows)) x.1 ∙ q);
      }

  pub steps_on : (n : Moment) (op : Opcode) (w : Instruction) → IsAt op w k.words k.constants m.registers m.pc → Leads op w k m n → StepsOn g meta k m n
  steps_on n op w a d = steps_when n d.opened (stepped_by g.rows n op w a d)

  -- the frame is at an instruction of its code
  pub place_there : m.pc < length k.words
  place_there = (ready_is_at g k.words k.constants _ _ m.registers m.pc m.fuel here.ready).there

  pub at_opcode : (w : Instruction) (op : Opcode) → slice_get k.words m.pc ≡ Some w → opcode_of w ≡ Some op → IsAt op w k.words k.constants m.registers m.pc
  at_opcode w op e f = (ready_is_at g k.words k.constants _ _ m.registers m.pc m.fuel here.ready).is_at w op e f
