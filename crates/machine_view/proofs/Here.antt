-- A sound world is at an instruction of checked code, and what this does is a step after which the world is sound again.
use Rattle.std.proofs.Common.{◌≡◌, ℕ, zero, suc, ◌≤◌, [], Option, Some, None, ap, sym, ◌∙◌, subst}
use Rattle.std.specs.Prelude.{slice_get}
use Rattle.std.proofs.lemmas.List.{length-map}
use Rattle.code_core.specs.Check.{at}
use Rattle.code_core.specs.Instruction.{opcode_of}
use Rattle.code_core.specs.Prototype.{Prototype}
use Rattle.code_core.specs.declared.instruction.Instruction.{Instruction}
use Rattle.lua_heap.specs.Reading.{value}
use Rattle.machine_core.specs.World.{World}
use Rattle.machine_core.specs.Text.{trap}
use Rattle.machine_core.specs.InstructionRows.{text_at, row_of, text_by}
use Rattle.machine_core.specs.Moves.{Ending, go, Row, Outcome, trapped, ends}
use Rattle.machine_core.specs.MachineStep.{step, steps, and_then}
use Rattle.machine_sound.proofs.Lists.{get_within}
use Rattle.machine_focus.specs.Focus.{local}
use Rattle.machine_focus.proofs.Here.{here, held_is_step}
use Rattle.machine_view.specs.View.{Around, held, whole}
use Rattle.machine_view.specs.Law.{ReadyIsAt, DoingIsStep}

abbrev code_of : Around → Prototype
code_of g = g.context.closure.code

pub ready_is_at : ReadyIsAt
ready_is_at g ws ks heap cells r pc fuel k =
    let h = here g.primitives g.rows g.context (held g heap cells r pc fuel) k.frame in
    let e = k.code.code.words_are in
    record {
      there = get_within ws pc h.word (ap (λ ws. slice_get ws pc) (sym e) ∙ h.at_pc);
      is_at = λ w op a o. record {
        code = code_of g;
        texts = g.texts;
        is_code = k.code.code;
        checked = h.checked;
        at_pc = a;
        is_opcode = o;
        size = subst (λ n. (code_of g).own.stack ≤ n) (length-map r (value g.texts)) h.size;
      };
    }

steps_more : (rows : ℕ → Row) (n : ℕ) (e : Ending) (W V X : World) → steps rows n e W ≡ ends go V → step rows go V ≡ ends go X → steps rows (suc n) e W ≡ ends go X
steps_more rows zero e W V X p q = then_zero (step rows e W) (end_is p)
  where
    end_is : ends e W ≡ ends go V → step rows e W ≡ ends go X
    end_is p = ap (λ o. and_then o (step rows)) p ∙ q

    then_zero : (o : Outcome) → o ≡ ends go X → and_then o (steps rows zero) ≡ ends go X
    then_zero o e = ap (λ o. and_then o (steps rows zero)) e
steps_more rows (suc n) e W V X p q = by (step rows e W) p (λ d U. steps_more rows n d U V X)
  where
    by : (o : Outcome) → and_then o (steps rows n) ≡ ends go V → ((d : Ending) (U : World) → steps rows n d U ≡ ends go V → step rows go V ≡ ends go X → steps rows (suc n) d U ≡ ends go X) → and_then o (steps rows (suc n)) ≡ ends go X
    by trapped p again = absurd (cc)
    by (ends d U) p again = again d U p q

pub doing_is_step : DoingIsStep
doing_is_step g ws ks heap cells r pc fuel op w heap' cells' s to left k a d =
    let at_pc : at (code_of g) pc ≡ Some w = ap (λ ws. slice_get ws pc) k.code.code.words_are ∙ a.at_pc in
    let text_is : text_at (code_of g) pc ≡ row_of (code_of g) pc op w = ap (λ (o : Option Instruction). elim o [ None ↦ trap | Some w ↦ text_by (code_of g) pc w (opcode_of w) ]) at_pc ∙ ap (text_by (code_of g) pc w) a.is_opcode in
    let q = held_is_step g.primitives g.rows g.context (held g heap cells r pc fuel) (held g heap' cells' s to left) k.frame (ap (λ t. local g.context t [] (held g heap cells r pc fuel)) text_is ∙ d.leads g k.code) in
    record {
      ready = record { code = k.code; frame = q.1 };
      runs = λ heap0 cells0 r0 pc0 fuel0 x. (suc x.0, steps_more g.rows x.0 go (whole g heap0 cells0 r0 pc0 fuel0) (whole g heap cells r pc fuel) (whole g heap' cells' s to left) x.1 q.0);
    }
