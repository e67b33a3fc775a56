-- The register that gets an operation's first operand as well, as the receiver of SELF, is there where the instruction runs.
use Rattle.std.proofs.Common.{◌≡◌, ◌<◌, ℕ, List, [], ◌∷◌, ◌++◌, length, Option, Some, None, refl, ap, sym, subst, ◌∙◌, Bool, true, false, arith}
use Rattle.std.specs.Prelude.{IsTrue}
use Rattle.code_core.specs.declared.opcode.Opcode.{Opcode}
use Rattle.code_core.specs.declared.instruction.Instruction.{Instruction}
use Rattle.code_core.specs.Check.{CodeIsChecked, at}
use Rattle.code_core.specs.Instruction.{opcode_of}
use Rattle.code_core.specs.Prototype.{Prototype}
use Rattle.int_core.specs.Value.{Value, known, nil, boolean, integer}
use Rattle.machine_core.specs.World.{LuaFrame, running, Place, place_of}
use Rattle.machine_core.specs.Text.{Arg, read, written, constant, Text, operate, trap}
use Rattle.machine_core.specs.InstructionRows.{row_of, text_at, text_by}
use Rattle.machine_core.specs.FrameRows.{expand}
use Rattle.machine_sound.specs.Sound.{Sizes, sizes, waits_at, Top, RunsOrWaits, Fits, FitsIfRuns}
use Rattle.machine_sound.specs.Safe.{on_lua, has_found, Safe}
use Rattle.machine_sound.proofs.Frames.{the_place, place_is, function_ok}
use Rattle.machine_sound.proofs.Lists.{get_there, some_is}
use Rattle.machine_sound.proofs.LuaSteps.{settles}
use Rattle.machine_sound.proofs.RowsOfCode.{text_safe}
use Rattle.lua_heap.specs.declared.world.World.{World as Memory}
use Rattle.lua_heap.specs.Plain.{plain}
use Rattle.instruction_forms.specs.declared.form.After.{After}
use Rattle.instruction_forms.specs.declared.form.Form.TheVariants.{Operate}
use Rattle.instruction_forms.specs.declared.operand.Operand.{Operand}
use Rattle.instruction_forms.specs.declared.operand.Operand.TheVariants.{Register, Constant, Upvalue, Integer, Truth}
use Rattle.instruction_forms.specs.declared.operand.Operands.{Operands}
use Rattle.instruction_forms.specs.declared.operand.Operands.TheVariants.{One, Twice, Two, Three}
use Rattle.instruction_forms.specs.declared.operand.Operation.{Operation as Named}
use Rattle.instruction_forms.specs.Forms.{also_to, follows, operation_of, text_of, wait_for, with_operand, with_operands}
use Rattle.move_laws.specs.Memory.{IsSound}
use Rattle.machine_operations.specs.Copying.{CanCopy}

-- what a safe row goes on with behind its operands

record Behind (t : Top) (k : Arg → Text) : Type 0 where
  x : Arg
  env : List Value
  safe : Safe (on_lua t) env (expand (k x))

record BehindAll (t : Top) (k : List Arg → Text) : Type 0 where
  x : Arg
  xs : List Arg
  env : List Value
  safe : Safe (on_lua t) env (expand (k (x ∷ xs)))

behind_operand : (t : Top) (env : List Value) (y : Operand) (k : Arg → Text) → Safe (on_lua t) env (expand (with_operand y k)) → Behind t k
behind_operand t env (Register r) k s = record { x = read (length env); env = env ++ known nil ∷ []; safe = s.1 (known nil) }
behind_operand t env (Constant n) k s =
    let g = get_there t.code.own.constants n s.0.0 in
    record { x = read (length env); env = env ++ known (constant g.0) ∷ []; safe = s.1 (record { found = g.0; there = g.1 }) }
behind_operand t env (Upvalue u) k s = record { x = read (length env); env = env ++ known nil ∷ []; safe = s.1 (known nil) }
behind_operand t env (Integer n) k s = record { x = written (integer n); env = env; safe = s }
behind_operand t env (Truth b) k s = record { x = written (boolean b); env = env; safe = s }

behind_operands : (t : Top) (ys : Operands) (k : List Arg → Text) → Safe (on_lua t) [] (expand (with_operands ys k)) → BehindAll t k
behind_operands t (One y) k s =
    let a = behind_operand t [] y (λ v. k (v ∷ [])) s in
    record { x = a.x; xs = []; env = a.env; safe = a.safe }
behind_operands t (Twice y) k s =
    let a = behind_operand t [] y (λ v. k (v ∷ v ∷ [])) s in
    record { x = a.x; xs = a.x ∷ []; env = a.env; safe = a.safe }
behind_operands t (Two y z true) k s =
    let a = behind_operand t [] y (λ v. with_operand z (λ w. k (w ∷ v ∷ []))) s in
    let b = behind_operand t a.env z (λ w. k (w ∷ a.x ∷ [])) a.safe in
    record { x = b.x; xs = a.x ∷ []; env = b.env; safe = b.safe }
behind_operands t (Two y z false) k s =
    let a = behind_operand t [] y (λ v. with_operand z (λ w. k (v ∷ w ∷ []))) s in
    let b = behind_operand t a.env z (λ w. k (a.x ∷ w ∷ [])) a.safe in
    record { x = a.x; xs = b.x ∷ []; env = b.env; safe = b.safe }
behind_operands t (Three y z u) k s =
    let a = behind_operand t [] y (λ v. with_operand z (λ w. with_operand u (λ x. k (v ∷ w ∷ x ∷ [])))) s in
    let b = behind_operand t a.env z (λ w. with_operand u (λ x. k (a.x ∷ w ∷ x ∷ []))) a.safe in
    let c = behind_operand t b.env u (λ x. k (a.x ∷ b.x ∷ x ∷ [])) b.safe in
    record { x = a.x; xs = b.x ∷ c.x ∷ []; env = c.env; safe = c.safe }

-- the register is one of the frame
also_fits : (t : Top) (p : Prototype) (pc r : ℕ) (op : Named) (ys : Operands) (after : After) → Safe (on_lua t) [] (expand (text_of p pc (Operate op ys (Some r) after))) → r < t.size
also_fits t p pc r op ys after s =
    let b = behind_operands t ys (λ vs. operate (operation_of op) vs (wait_for after) (also_to (Some r) vs) (follows p pc after)) s in
    let f = b.safe.1 (has_found []) in
    f.0.0.0

-- a frame that runs

runs_true : (b : Bool) (z : Sizes) (f : LuaFrame) → RunsOrWaits b z f → f.wait ≡ running → b ≡ true
runs_true true z f w e = refl
runs_true false z f w e = absurd (let h : IsTrue (waits_at {V = Value} running w.opcode w.instruction) = subst (λ wait. IsTrue (waits_at {V = Value} wait w.opcode w.instruction)) e w.fits in cc)

fits_so : (b : Bool) (t : Top) → FitsIfRuns b t → b ≡ true → Fits t
fits_so true t f e = f
fits_so false t f e = absurd (cc)

running_safe : (t : Top) → CodeIsChecked t.code → Fits t → t.runs ≡ true
    → Safe (on_lua (record t { pending = t.code.own.stack; cells = t.code.own.stack })) [] (expand (text_at t.code t.pc))
running_safe t c f r =
    let u = record t { pending = t.code.own.stack; cells = t.code.own.stack } in
    let g : Fits u = record { instruction = f.instruction; at_pc = f.at_pc; opcode = f.opcode; is_opcode = f.is_opcode; no_extra = f.no_extra; fits_mark = f.fits_mark; cells = omega arith } in
    text_safe u c g refl refl r

text_is : (p : Prototype) (pc : ℕ) (w : Instruction) (o : Opcode) (text : Text) → at p pc ≡ Some w → opcode_of w ≡ Some o → text ≡ row_of p pc o w → text_at p pc ≡ text
text_is p pc w o text a c h = ap (λ o. elim o as (λ _. Text) [ None ↦ trap | Some w ↦ text_by p pc w (opcode_of w) ]) a ∙ ap (text_by p pc w) c ∙ sym h

-- where the instruction of an operation runs in a sound world, there is a register for its first operand
pub can_copy : (W : Memory) (place : Place) (w : Instruction) (o : Opcode) (op : Named) (ys : Operands) (also : Option ℕ) (after : After)
    → IsSound W → place_of (plain W 0) ≡ Some place → place.top.wait ≡ running → at place.function.code place.top.own.pc ≡ Some w → opcode_of w ≡ Some o
    → text_of place.function.code place.top.own.pc (Operate op ys also after) ≡ row_of place.function.code place.top.own.pc o w → CanCopy W also
can_copy W place w o op ys None after s e r a c h = tt
can_copy W place w o op ys (Some register) after s e r a c h = λ other f.
    let n = s.primitives in
    let V = plain W 0 in
    let k = settles n V place s.sound e in
    let t = k.top in
    let top = k.is_top in
    let here = place_is n t V top in
    let same : place ≡ the_place n t V top = some_is e here in
    let p = place.function.code in
    let pc = place.top.own.pc in
    let code : p ≡ t.code = ap (λ (p : Place). p.function.code) same ∙ top.code in
    let at_pc : pc ≡ t.pc = ap (λ (p : Place). p.top.own.pc) same ∙ top.pc in
    let runs = runs_true t.runs (sizes n V) top.top top.wait (ap (λ (p : Place). p.top.wait) (sym same) ∙ r) in
    let checked : CodeIsChecked t.code = subst CodeIsChecked top.code (function_ok n t V top s.sound.solid).code.code in
    let u = record t { pending = t.code.own.stack; cells = t.code.own.stack } in
    let safe = running_safe t checked (fits_so t.runs t k.fits runs) runs in
    let safe_here : Safe (on_lua u) [] (expand (text_at p pc)) = subst (λ p. Safe (on_lua u) [] (expand (text_at p pc))) (sym code) (subst (λ pc. Safe (on_lua u) [] (expand (text_at t.code pc))) (sym at_pc) safe) in
    let fits = also_fits u p pc register op ys after (subst (λ x. Safe (on_lua u) [] (expand x)) (text_is p pc w o (text_of p pc (Operate op ys (Some register) after)) a c h) safe_here) in
    subst (λ m. register < m) (sym (ap (λ (p : Place). length p.top.own.registers) (some_is f here) ∙ top.size)) fits
