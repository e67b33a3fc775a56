-- Where a step begins, and by which of the machine's rows it is done.
use Rattle.std.proofs.Common.{◌≡◌, ℕ, [], length, Some, None, ap, sym, subst, ◌∙◌, Bool, true, false}
use Rattle.library_rows.specs.Library.{all_entries}
use Rattle.source_builds.proofs.Knowing.{read_all}
use Rattle.loaded_code.specs.Laws.{library}
use Rattle.code_core.specs.declared.opcode.Opcode.{Opcode}
use Rattle.code_core.specs.declared.instruction.Instruction.{Instruction}
use Rattle.code_core.specs.Instruction.{opcode_of}
use Rattle.code_core.specs.Check.{at}
use Rattle.machine_core.specs.World.{running, World, Place, place_of}
use Rattle.machine_core.specs.Text.{Text, trap}
use Rattle.machine_core.specs.InstructionRows.{row_of, text_at, text_by}
use Rattle.machine_core.specs.FrameRows.{at_once, expand}
use Rattle.machine_core.specs.Moves.{Ending, go, Row, run}
use Rattle.machine_sound.specs.Safe.{Good}
use Rattle.machine_sound.proofs.Lists.{some_is}
use Rattle.machine_sound.proofs.LuaSteps.{settles, running_text_good}
use Rattle.instruction_forms.specs.declared.form.Form.{Form}
use Rattle.instruction_forms.specs.Choice.{IsNone}
use Rattle.instruction_forms.specs.Waiting.{form_at}
use Rattle.lua_heap.specs.declared.world.World.{World as Memory}
use Rattle.lua_heap.specs.Plain.{plain}
use Rattle.move_laws.specs.Memory.{IsSound, ReadsSame}
use Rattle.machine_moves.specs.declared.ending.Ending.{Ending as Kept}
use Rattle.machine_moves.specs.Ending.{ending_of}
use Rattle.step_laws.specs.Steps.{Does, HasForm, IsReady, WaitsAt}
use Rattle.step_laws.proofs.Ready.{running_is_at, waiting_is_at}
use Rattle.machine_step.specs.Step.{Did, Goes}
use Rattle.running_frame.specs.Here.{IsAtWord, RunsIf, is_none}
use Rattle.running_frame.proofs.Places.{none_is, waits_so}
use Rattle.machine_step.specs.Places.{RunsForm, RunsWord, WaitsHere}

-- the ending is known

pub ready_as : {W : Memory} {ending known : Kept} → IsReady (length all_entries) (ending_of ending) W → ending ≡ known → IsReady (length all_entries) (ending_of known) W
ready_as {W} r e = subst (λ e. IsReady (length all_entries) (ending_of e) W) e r

pub did_as : {old new : Memory} {fuel left : ℕ} {ending known : Kept} {to : Ending} → ending ≡ known
    → Did (ending_of known) old fuel new left to → Did (ending_of ending) old fuel new left to
did_as {old} {new} {fuel} {left} {to = to} e d = subst (λ e. Did (ending_of e) old fuel new left to) (sym e) d

-- a step that calls no function of the libraries
pub did_always : {old new : Memory} {fuel left : ℕ} {ending known : Kept} {to : Ending} → ending ≡ known
    → ((rows : ℕ → Row) → Does rows (ending_of known) old fuel new left to) → Did (ending_of ending) old fuel new left to
did_always e d = did_as e (read_all (λ builds are. d (library builds)))

pub did_go : {old new : Memory} {fuel left : ℕ} {to : Ending} → Goes old fuel new left to → Did go old fuel new left to
did_go g = read_all (λ builds are. g.is (library builds))

pub same_printed : {old new : Memory} → ReadsSame old new → new.printed.items ≡ old.printed.items
same_printed s = ap (λ (W : World). W.printed) (s.is 0)

-- a frame runs, or it waits

module _ {W : Memory} (s : IsSound W) where
  abbrev waits_at_place : (place : Place) → place_of (plain W 0) ≡ Some place → is_none place.top.wait ≡ false → WaitsAt W
  waits_at_place place e h = record { place = place; is = e; waits = waits_so place.top.wait h }

  pub runs_word : {pc : ℕ} {word : Instruction} {b : Bool} → IsAtWord W pc word → RunsIf W b → b ≡ true → RunsWord W pc word
  runs_word {pc} {word} a r e =
      let k = running_is_at W a.place s a.is (none_is a.place.top.wait (sym (r.is a.place a.is) ∙ e)) in
      let same = some_is k.is a.is in
      record {
        runs = k;
        at = ap (λ (p : Place). p.top.own.pc) same ∙ a.at_pc;
        is_word = some_is k.at_pc (ap (λ (p : Place). at p.function.code p.top.own.pc) same ∙ ap (at a.place.function.code) a.at_pc ∙ a.there);
        near = a.near;
      }

  pub waits_here : {pc : ℕ} {word : Instruction} {b : Bool} → IsAtWord W pc word → RunsIf W b → b ≡ false → WaitsHere W pc word
  waits_here {pc} {word} a r e =
      let k = waits_at_place a.place a.is (sym (r.is a.place a.is) ∙ e) in
      let f = waiting_is_at W k s in
      record { waits = k; goes = f; at = a.at_pc; is_word = some_is f.at_pc (ap (at a.place.function.code) a.at_pc ∙ a.there); near = a.near }

  -- an instruction that runs has a form
  pub some_form : {pc : ℕ} {word : Instruction} (op : Opcode) → RunsWord W pc word → opcode_of word ≡ Some op → IsNone op word → ⊥
  some_form {word = word} op w o lacks =
      let k = w.runs in
      let p = k.place.function.code in
      let pc = k.place.top.own.pc in
      let g = running_text_good s.primitives (plain W 0) k.place s.sound.solid (settles s.primitives (plain W 0) k.place s.sound k.is) k.is k.running in
      let row : text_at p pc ≡ row_of p pc op word =
      ap (λ o. elim o as (λ _. Text) [ None ↦ trap | Some i ↦ text_by p pc i (opcode_of i) ]) (k.at_pc ∙ ap (λ i. Some i) w.is_word) ∙ ap (text_by p pc word) o in
      subst (Good s.primitives) (ap (λ t. run (expand t) [] (plain W 0)) row ∙ lacks p pc at_once [] (plain W 0)) g

pub runs_form : {W : Memory} {pc : ℕ} {word : Instruction} (op : Opcode) (form : Form) → RunsWord W pc word → opcode_of word ≡ Some op
    → Some form ≡ form_at op word → HasForm op word form → RunsForm W pc form
runs_form {W} {pc} {word} op form w o f h =
    let k = w.runs in
    let same : op ≡ k.opcode = some_is o (ap opcode_of (sym w.is_word) ∙ k.is_opcode) in
    record {
      runs = k;
      at = w.at;
      is = ap (λ o. form_at o k.instruction) (sym same) ∙ ap (form_at op) w.is_word ∙ sym f;
      has = subst (λ o. HasForm o k.instruction form) same (subst (λ i. HasForm op i form) (sym w.is_word) h);
      near = w.near;
    }
