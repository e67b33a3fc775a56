-- A Lua frame on top that waited is woken, and goes on.
use Rattle.std.proofs.Common.{◌≡◌, ℕ, ◌+◌, ◌<◌, ◌≤◌, List, [], length, Some, None, refl, ap, sym, subst, ◌∙◌, true, false, arith}
use Rattle.std.specs.Prelude.{◌^◌, IsTrue, map, max}
use Rattle.std.proofs.lemmas.List.{length-map}
use Rattle.code_core.specs.declared.opcode.Opcode.{Opcode}
use Rattle.code_core.specs.declared.opcode.Opcode.TheVariants.{Concat, MmBin, MmBinI, MmBinK}
use Rattle.code_core.specs.declared.instruction.Instruction.{Instruction}
use Rattle.code_core.specs.Instruction.{opcode_of, a_of, b_of}
use Rattle.code_core.specs.Prototype.{Prototype}
use Rattle.int_core.specs.Ask.{values}
use Rattle.int_core.specs.Value.{Value}
use Rattle.machine_core.specs.World.{Wait, running, for_concat, LuaFrame, lua, World, Place, place_of, put_top}
use Rattle.machine_core.specs.Text.{read, Text, trap, behind, read_registers}
use Rattle.machine_core.specs.InstructionRows.{rest, rest_at, rest_by, to_register, to_register_before, told_values, value_comes}
use Rattle.machine_core.specs.FrameRows.{goes_on_by}
use Rattle.machine_core.specs.Moves.{Ending, go, Row}
use Rattle.machine_core.specs.MachineStep.{woken}
use Rattle.machine_sound.specs.Sound.{Each, Valid, sizes, waits_at, waiting_size}
use Rattle.machine_sound.proofs.Lists.{some_is}
use Rattle.machine_sound.proofs.Values.{le_of, le_true}
use Rattle.table_core.specs.declared.value.Value.{Value as Kept}
use Rattle.lua_stack.specs.declared.frame.Wait.{Wait as KeptWait}
use Rattle.lua_stack.specs.declared.frame.Wait.TheVariants.{Dropped, ForConcat, ForTruth, ForValue, Returning, Running}
use Rattle.lua_stack.specs.Frames.{wait_of}
use Rattle.lua_heap.specs.declared.world.World.{World as Memory}
use Rattle.lua_heap.specs.Plain.{plain}
use Rattle.lua_heap.specs.Reading.{value}
use Rattle.instruction_forms.specs.declared.form.After.{After}
use Rattle.instruction_forms.specs.Forms.{follows}
use Rattle.move_laws.specs.Memory.{CanDo, InOrder, IsSafe, IsSound, Leads, StandsAt}
use Rattle.move_laws.proofs.Running.{with_top, place_put}
use Rattle.machine_moves.specs.Code.{HasCode}
use Rattle.machine_returns.specs.Waking.{Wakes as WakesSo}
use Rattle.step_laws.specs.Steps.{WaitsAt, WaitsFor, Wakes}
use Rattle.step_laws.proofs.Joins.{join_is_sound}
use Rattle.step_laws.proofs.Small.{a_small, b_small}
use Rattle.step_laws.proofs.Stepping.{answer_is_safe, answer_is_step}
use Rattle.machine_step.specs.Step.{Passes}
use Rattle.machine_operations.specs.Joining.{AreValid, rest_row, told_for}
use Rattle.machine_returns.specs.GoingOn.{GoesOn, MayGoOn, told_so, waits_for_call}
use Rattle.machine_step.specs.Places.{Becomes, GoesOnSo, IsAwake, WaitsHere, is_handled, left_row, takes_value}

abbrev runs_again : LuaFrame → LuaFrame
runs_again t = record t { wait = running }

put_as : (W : World) (at : Place) → woken W at.stack at.top ≡ record (put_top W at.stack (lua (runs_again at.top))) { moving = [] }
unfolding woken
put_as W at = refl

rest_is : {W : Memory} (k : WaitsAt W) (f : WaitsFor W k)
    → rest_at k.place.top.wait k.place.function.code k.place.top.own.pc ≡ rest k.place.top.wait k.place.function.code k.place.top.own.pc f.opcode f.instruction
rest_is k f =
    let wait = k.place.top.wait in
    let p = k.place.function.code in
    let pc = k.place.top.own.pc in
    ap (λ o. elim o as (λ _. Text) [ None ↦ trap | Some i ↦ rest_by wait p pc i (opcode_of i) ]) f.at_pc ∙ ap (rest_by wait p pc f.instruction) f.is_opcode

module _ {old new : Memory} {pc : ℕ} {word : Instruction} {wait : KeptWait} {came : List Kept} (h : WaitsHere old pc word) (w : WakesSo old new wait came) where
  abbrev k : WaitsAt old
  k = h.waits

  abbrev P : Place
  P = h.waits.place

  same : w.place ≡ P
  same = some_is w.is k.is

  wakes : Wakes old new P
  wakes = record { plain = λ fuel. w.woken_is fuel ∙ ap (λ (p : Place). woken (plain old fuel) p.stack p.top) same }

  texts : new.strings ≡ old.strings
  texts = ap (λ (W : Memory). W.strings) w.rest

  abbrev Q : Place
  Q = with_top P (runs_again P.top)

  there : place_of (plain new 0) ≡ Some Q
  there = ap place_of (wakes.plain 0 ∙ put_as (plain old 0) P) ∙ place_put (plain old 0) P (runs_again P.top) k.is refl

  waited : wait_of (value new.strings) wait ≡ P.top.wait
  waited = ap (λ texts. wait_of (value texts) wait) texts ∙ w.waited ∙ ap (λ (p : Place). p.top.wait) same

  row_is : left_row new wait Q h.goes.opcode word ≡ goes_on_by (rest_at P.top.wait P.function.code P.top.own.pc)
  row_is =
      ap (λ (v : Wait Value). goes_on_by (rest v P.function.code P.top.own.pc h.goes.opcode word)) waited
      ∙ ap (λ i. goes_on_by (rest P.top.wait P.function.code P.top.own.pc h.goes.opcode i)) (sym h.is_word)
      ∙ ap goes_on_by (sym (rest_is k h.goes))

  told_is : told_so new wait came ≡ told_values P.top.wait (values (map (value old.strings) old.moving.items))
  told_is =
      ap (λ (v : Wait Value). told_values v (values (map (value new.strings) came))) waited
      ∙ ap (λ texts. told_values P.top.wait (values (map (value texts) came))) texts
      ∙ ap (λ vs. told_values P.top.wait (values (map (value old.strings) vs))) w.came

  is_opcode : opcode_of word ≡ Some h.goes.opcode
  is_opcode = ap opcode_of (sym h.is_word) ∙ h.goes.is_opcode

  valid : IsSound old → AreValid new came
  valid s = record {
    sizes = sizes s.primitives (plain old 0);
    tables = length-map old.tables.objects _ ∙ ap (λ (W : Memory). length W.tables.objects) (sym w.rest);
    valid = subst (λ vs. Each (Valid (sizes s.primitives (plain old 0))) vs)
        (sym (ap (λ texts. map (value texts) came) texts ∙ ap (λ vs. map (value old.strings) vs) w.came)) s.sound.solid.moving;
  }

  joins : IsSound old → InOrder new → (left : ℕ) → wait ≡ ForConcat left → IsSound new
  joins s o left e = join_is_sound old new k s wakes o left (sym waited ∙ ap (wait_of (value new.strings)) e)

  pub awake : IsSound old → InOrder new → IsAwake new pc word wait came
  awake s o = record {
    place = Q;
    is = there;
    checked = h.goes.checked;
    at = h.at;
    near = h.near;
    opcode = h.goes.opcode;
    is_opcode = is_opcode;
    fits = subst (λ i. IsTrue (waits_at (wait_of (value new.strings) wait) h.goes.opcode i)) h.is_word
        (subst (λ (v : Wait Value). IsTrue (waits_at v h.goes.opcode h.goes.instruction)) (sym waited) h.goes.fits);
    size = h.goes.size
        ∙ ap (λ (v : Wait Value). waiting_size v h.goes.instruction P.function.code.own.stack) (sym waited)
        ∙ ap (λ i. waiting_size (wait_of (value new.strings) wait) i P.function.code.own.stack) h.is_word;
    safe = subst (λ (r : Row). IsSafe r (told_so new wait came) new) (sym row_is)
        (subst (λ vs. IsSafe (goes_on_by (rest_at P.top.wait P.function.code P.top.own.pc)) vs new) (sym told_is) (answer_is_safe old new k s wakes));
    valid = valid s;
    joins = joins s o;
  }

  pub goes_on : {last : Memory} {to : Ending} → GoesOnSo new last word wait came to → Passes go old last to
  goes_on {last} {to} g = record {
    is = λ rows fuel. answer_is_step rows old new last fuel to k wakes
        (subst (λ vs. Leads (goes_on_by (rest_at P.top.wait P.function.code P.top.own.pc)) vs new last to) told_is
        (subst (λ (r : Row). Leads r (told_so new wait came) new last to) row_is (g.leads Q there h.goes.opcode is_opcode)));
  }

-- what those suppose who go on

module _ {W : Memory} {pc : ℕ} {word : Instruction} {wait : KeptWait} {came : List Kept} (a : IsAwake W pc word wait came) where
  pub stands : StandsAt W pc
  stands = record { place = a.place; is = a.is; at = a.at }

  pub room : pc + 2 < 2 ^ 64
  room = let l = a.near in omega (arith, l)

  pub may_go_on : MayGoOn W word wait came
  may_go_on = record { code = a.place.function.code; pc = a.place.top.own.pc; opcode = a.opcode; safe = a.safe }

  pub results_there : (count : ℕ) → wait ≡ Returning count → CanDo W (read_registers (a_of word) count)
  results_there count e =
      let size : length a.place.top.own.registers ≡ max a.place.function.code.own.stack (behind (a_of word) count) =
      a.size ∙ ap (λ w. waiting_size (wait_of (value W.strings) w) word a.place.function.code.own.stack) e in
      record { place = a.place; is = a.is; fits = le_true _ _ (omega (arith, size)) }

pub went_on : {old new : Memory} {word : Instruction} {wait : KeptWait} {came : List Kept} {to : Ending} → GoesOn old new word wait came to
    → GoesOnSo old new word wait came to
went_on g = record { leads = λ place e op o. g.leads place.function.code place.top.own.pc op }

-- the value of an operation goes on its way

abbrev read_so : Memory → List Kept → List Value
read_so W came = map (value W.strings) came

module _ {W : Memory} {pc : ℕ} {word : Instruction} {wait : KeptWait} {came : List Kept} (a : IsAwake W pc word wait came) {after : After} (b : Becomes wait word after) where
  told : told_so W wait came ≡ read_so W came
  told = b.told (value W.strings) (read_so W came)

  pub may_take : (place : Place) → place_of (plain W 0) ≡ Some place → IsSafe (goes_on_by (follows place.function.code pc after)) (map (value W.strings) came) W
  may_take place e =
      subst (λ (p : Place). IsSafe (goes_on_by (follows p.function.code pc after)) (read_so W came) W) (some_is a.is e)
      (subst (λ n. IsSafe (goes_on_by (follows a.place.function.code n after)) (read_so W came) W) a.at
      (subst (λ t. IsSafe (goes_on_by t) (read_so W came) W) (b.is (value W.strings) a.opcode a.is_opcode a.place.function.code a.place.top.own.pc)
      (subst (λ vs. IsSafe (left_row W wait a.place a.opcode word) vs W) told a.safe)))

  pub took : {new : Memory}
      → ((place : Place) → place_of (plain W 0) ≡ Some place → Leads (goes_on_by (follows place.function.code pc after)) (map (value W.strings) came) W new go) → GoesOnSo W new word wait came go
  took {new} f = record {
    leads = λ place e op o.
        let at : place.top.own.pc ≡ pc = sym (ap (λ (p : Place). p.top.own.pc) (some_is a.is e)) ∙ a.at in
        subst (λ vs. Leads (left_row W wait place op word) vs W new go) (sym told)
        (subst (λ t. Leads (goes_on_by t) (read_so W came) W new go) (sym (b.is (value W.strings) op o place.function.code place.top.own.pc))
        (subst (λ n. Leads (goes_on_by (follows place.function.code n after)) (read_so W came) W new go) (sym at) (f place e)));
  }

-- by its wait

pub none_takes : (wait : KeptWait) → takes_value wait ≡ true → (wait ≡ ForValue → ⊥) → (wait ≡ ForTruth → ⊥) → (wait ≡ Dropped → ⊥) → ⊥
none_takes ForValue t a b c = a refl
none_takes ForTruth t a b c = b refl
none_takes Dropped t a b c = c refl
none_takes _ t a b c = absurd (cc)

pub others_called : (wait : KeptWait) → (wait ≡ Running → ⊥) → (wait ≡ ForValue → ⊥) → (wait ≡ ForTruth → ⊥) → (wait ≡ Dropped → ⊥) → ((left : ℕ) → wait ≡ ForConcat left → ⊥) → waits_for_call wait ≡ true
others_called Running a b c d e = absurd (a refl)
others_called ForValue a b c d e = absurd (b refl)
others_called ForTruth a b c d e = absurd (c refl)
others_called Dropped a b c d e = absurd (d refl)
others_called (ForConcat left) a b c d e = absurd (e left refl)
others_called _ a b c d e = refl

handled_so : (op : Opcode) → is_handled (Some op) ≡ true → (w : Instruction) (p : Prototype) (n : ℕ) → value_comes p n op w ≡ to_register_before p n
handled_so MmBin h w p n = refl
handled_so MmBinI h w p n = refl
handled_so MmBinK h w p n = refl
handled_so op h w p n = absurd (cc)

other_so : (op : Opcode) → is_handled (Some op) ≡ false → (w : Instruction) (p : Prototype) (n : ℕ) → value_comes p n op w ≡ to_register (a_of w) (read 0)
other_so MmBin h w p n = absurd (cc)
other_so MmBinI h w p n = absurd (cc)
other_so MmBinK h w p n = absurd (cc)
other_so op h w p n = refl

pub comes_before : (word : Instruction) → is_handled (opcode_of word) ≡ true → (op : Opcode) → opcode_of word ≡ Some op → (p : Prototype) (n : ℕ)
    → value_comes p n op word ≡ to_register_before p n
comes_before word h op o = handled_so op (ap is_handled (sym o) ∙ h) word

pub comes_here : (word : Instruction) → is_handled (opcode_of word) ≡ false → (op : Opcode) → opcode_of word ≡ Some op → (p : Prototype) (n : ℕ)
    → value_comes p n op word ≡ to_register (a_of word) (read 0)
comes_here word h op o = other_so op (ap is_handled (sym o) ∙ h) word

pub has_code : {W : Memory} {pc : ℕ} {word : Instruction} {wait : KeptWait} {came : List Kept} → IsAwake W pc word wait came → HasCode W
has_code a = record { place = a.place; is = a.is; checked = a.checked }

-- operands that are left

left_small : (left : ℕ) (op : Opcode) (w : Instruction) → IsTrue (waits_at {V = Value} (for_concat left) op w) → left + 2 ≤ b_of w
left_small left Concat w h = le_of _ _ h
left_small left op w h = absurd (cc)

pub join_near : {W : Memory} {pc : ℕ} {word : Instruction} {left : ℕ} {came : List Kept} → IsAwake W pc word (ForConcat left) came → a_of word + left < 2 ^ 64
join_near {W} {pc} {word} {left} a = let l = left_small left a.opcode word a.fits in let m = b_small word in let n = a_small word in omega (arith, l, m, n)

pub join_safe : {W : Memory} {pc first left : ℕ} {word : Instruction} {came : List Kept} → IsAwake W pc word (ForConcat left) came
    → first ≡ a_of word → IsSafe (rest_row first left) (told_for left (map (value W.strings) came)) W
join_safe {W} {left = left} {came = came} a e = subst (λ r. IsSafe (rest_row r left) (told_for left (map (value W.strings) came)) W) (sym e) a.safe

pub join_goes : {old new : Memory} {first left : ℕ} {word : Instruction} {came : List Kept} {to : Ending} → first ≡ a_of word
    → Leads (rest_row first left) (told_for left (map (value old.strings) came)) old new to → GoesOnSo old new word (ForConcat left) came to
join_goes {old} {new} {left = left} {came = came} {to = to} e l = record { leads = λ place op i o. subst (λ r. Leads (rest_row r left) (told_for left (map (value old.strings) came)) old new to) e l }
