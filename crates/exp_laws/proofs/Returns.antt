-- A `return` of a list of expressions, whatever variables are to be closed.
use Rattle.std.proofs.Common.{◌≡◌, ℕ, zero, suc, ◌+◌, ◌-◌, ◌<◌, ◌≤◌, ◌^◌, lit<, Bool, true, false, cond, List, [], ◌∷◌, ◌++◌, length, Some, None, refl, sym, ap, ap₂, ◌∙◌, subst, arith}
use Rattle.std.specs.Prelude.{nat_lt, ◌==◌}
use Rattle.int_core.specs.Value.{Value, known, nil, nth}
use Rattle.int_core.specs.Ask.{returns, Captured}
use Rattle.tree_core.specs.Tree.{Exp, Exps, EndExps, MoreExps}
use Rattle.tree_activation.specs.Work.{evaluate, for_return, collect, listed, leave_scope, finish, Work, Pending}
use Rattle.tree_activation.specs.Work as tree
use Rattle.code_core.specs.declared.opcode.Opcode.TheVariants.{Return}
use Rattle.code_core.specs.Instruction.{abc}
use Rattle.code_core.specs.Prototype.{Prototype}
use Rattle.code_core.specs.Check.{at}
use Rattle.code_core.proofs.FieldLemmas.{opcode_of-abc, a_of-abc, b_of-abc}
use Rattle.machine_core.specs.World.{Activation}
use Rattle.machine_core.specs.InstructionRows.{read_values, counted}
use Rattle.machine_core.specs.InstructionRows as rows
use Rattle.machine_core.specs.Talk.{before, talk, talk_step}
use Rattle.list_laws.proofs.Tests.{eq_not}
use Rattle.code_of.specs.Coded.{leaving_by}
use Rattle.code_of.specs.Operands.{local_of}
use Rattle.code_of.specs.Expressions.{count, ends_open, list_field, exps_code}
use Rattle.exp_laws.proofs.Registers.{Rel}
use Rattle.exp_laws.specs.Setting.{Setting}
use Rattle.exp_laws.proofs.Talking.{Agree, go_left, of_tree, of_code}
use Rattle.exp_laws.proofs.Placing.{HasAt, has_front, has_back}
use Rattle.exp_laws.proofs.Steps.{row_step}
use Rattle.exp_laws.proofs.Calls.{Passed, behind_fits, told_of, read_values_step}
use Rattle.exp_laws.specs.Placed.{IsPlaced, ArePlaced}
use Rattle.code_of.specs.Rooms.{room_of_list}
use Rattle.exp_laws.proofs.ListForms.{GoesListed, passed_all}
use Rattle.exp_laws.proofs.Operands.{local_placed, local_read}
use Rattle.exp_laws.proofs.Lists.{held_one}
use Rattle.exp_laws.proofs.Exps.{room_count, exps_same}
use Rattle.exp_laws.proofs.Returning.{returns_alike}

-- how many values RETURN takes
returned : (p : Prototype) (field from : ℕ) (vs : List Value) (a : Activation) → Passed p field from vs a → cond (field == 0) (counted (told_of field vs)) (field - 1) ≡ length vs
returned p zero from vs a h = refl
returned p (suc n) from vs a h =
    let wide = h.0 in
    ap (λ b. cond b (counted (told_of (suc n) vs)) (suc n - 1)) (eq_not (suc n) 0 (λ e. absurd (omega (arith, e)))) ∙ omega (arith, wide)

return_step : (p : Prototype) (flag : Bool) (t b back : ℕ) (vs : List Value) (a : Activation) (c : Captured) → at p a.pc ≡ Some (abc Return t b back flag) → t < 2 ^ 8 → b < 2 ^ 8 → Passed p b t vs a
    → talk_step p (before a c) ≡ talk p (rows.returns t (length vs)) vs a c
return_step p flag t b back vs a c here t_fits b_fits passed =
    let w = abc Return t b back flag in
    row_step p w Return (read_values t b (λ _ s. rows.returns t (cond (b == 0) (counted s) (b - 1)))) a c here (opcode_of-abc Return t b back flag)
    (ap₂ (λ d e. read_values d e (λ _ s. rows.returns d (cond (e == 0) (counted s) (e - 1)))) (a_of-abc Return t b back flag t_fits) (b_of-abc Return t b back flag t_fits b_fits))
    ∙ read_values_step p t b (λ _ s. rows.returns t (cond (b == 0) (counted s) (b - 1))) [] vs a c passed
    ∙ ap (λ n. talk p (rows.returns t n) vs a c) (returned p b t vs a passed)

module _ (S : Setting) (pending : List Pending) where
  pub return_list_same : (es : Exps) (line t j back n pc opened : ℕ) (env regs : List Value) (c : Captured) (k : List Work) → n ≤ S.bound
      → HasAt S pc (exps_code S.code.own.constants es None t j line ++ leaving_by Return t (list_field 0 es) back line ∷ []) → ArePlaced S es (length env) j
      → pc + length (exps_code S.code.own.constants es None t j line) < length S.code.own.code → count es + 1 < 2 ^ 8 → length env ≤ t → t ≤ S.code.own.stack → t + room_of_list S.code.own.constants 0 es None ≤ S.code.own.stack
      → Rel S.hidden S.code.own.stack pending env c regs
      → Agree S n (tree.at (collect (for_return line) [] es) (of_tree S pending env c) k) (before (of_code S pending pc regs opened) c)
  return_list_same es line t j back n pc opened env regs c k bound has ok inside small le low room rel =
      let values_code = exps_code S.code.own.constants es None t j line in
      let last_code = leaving_by Return t (list_field 0 es) back line ∷ [] in
      let none : t ≡ t + 0 = omega arith in
      exps_same S pending es (for_return line) None t 0 j line n pc opened [] env regs c k bound tt (subst (λ r. HasAt S pc (exps_code S.code.own.constants es None r j line)) none (has_front S pc values_code last_code has)) tt ok
      (subst (λ r. pc + length (exps_code S.code.own.constants es None r j line) < length S.code.own.code) none inside) refl (λ i lt. absurd (omega (arith, lt))) le (omega (arith, low)) room rel
      (subst (λ r. GoesListed S pending n None (ends_open es) (0 + count es) (for_return line) t env regs (pc + length (exps_code S.code.own.constants es None r j line)) k) none
      (λ vs env1 regs1 c1 o1 af l. go_left S n _ (tree.at (leave_scope 0 line (known nil) (finish line (returns vs))) (of_tree S pending env1 c1) []) _ refl
      (let behind_code = has_back S pc values_code last_code has in
      let list = passed_all S pending (ends_open es) (0 + count es) (list_field 0 es) (pc + length values_code) t o1 vs regs1 (is_field (ends_open es) refl) (λ one. let w = width one in omega (arith, w, af.rel.room)) l in
      let enough = list.1.0 in
      returns_alike S t vs n pending line (pc + length values_code) o1 env1 regs1 vs c1 _ af.rel (record { word = abc Return t (list_field 0 es) back (nat_lt 0 t); opcode = Return; there = behind_code.0; is = opcode_of-abc Return t (list_field 0 es) back (nat_lt 0 t); lined = behind_code.1.0 })
      (a_of-abc Return t (list_field 0 es) back (nat_lt 0 t) (omega (arith, low, S.small))) (behind_fits t (length vs) (length regs1) enough) list.1.1
      (return_step S.code (nat_lt 0 t) t (list_field 0 es) back vs (of_code S pending (pc + length values_code) regs1 o1) c1 behind_code.0 (omega (arith, low, S.small)) (field_fits (ends_open es) refl) list.0))))
    where
      width : ends_open es ≡ false → t + (0 + count es) ≤ S.code.own.stack
      width one = let all = room_count S.code.own.constants 0 es one in omega (arith, all, low, room)

      is_field : (b : Bool) → ends_open es ≡ b → list_field 0 es ≡ cond b 0 (0 + count es + 1)
      is_field b is = ap (λ b. cond b 0 (0 + count es + 1)) is

      field_fits : (b : Bool) → ends_open es ≡ b → list_field 0 es < 2 ^ 8
      field_fits true is = let e = is_field true is in omega (arith, e)
      field_fits false is = let e = is_field false is in omega (arith, e, small)

  -- the value of a local, which stays in its register
  pub return_local_same : (e : Exp) (r line back j n pc opened : ℕ) (flag : Bool) (env regs : List Value) (c : Captured) (k : List Work) → local_of e ≡ Some r
      → HasAt S pc ((abc Return r 2 back flag, line) ∷ []) → IsPlaced S e (length env) j → Rel S.hidden S.code.own.stack pending env c regs
      → Agree S n (tree.at (collect (for_return line) [] (MoreExps e EndExps)) (of_tree S pending env c) k) (before (of_code S pending pc regs opened) c)
  return_local_same e r line back j n pc opened flag env regs c k is has ok rel =
      let below = local_placed S e r (length env) j is ok in
      let v = nth env r in
      let held = held_one r v regs (sym (rel.agree r below)) in
      let fits : r < 2 ^ 8 = omega (arith, below, rel.fits, S.small) in
      let wide : r + 1 ≤ length regs = omega (arith, below, rel.fits, rel.room) in
      go_left S n _ (tree.at (evaluate e) (of_tree S pending env c) (listed (for_return line) [] EndExps ∷ k)) _ refl
      (local_read S pending e r n env c (listed (for_return line) [] EndExps ∷ k) _ is
      (go_left S n _ (tree.at (collect (for_return line) (v ∷ []) EndExps) (of_tree S pending env c) k) _ refl
      (go_left S n _ (tree.at (leave_scope 0 line (known nil) (finish line (returns (v ∷ [])))) (of_tree S pending env c) []) _ refl
      (returns_alike S r (v ∷ []) n pending line pc opened env regs (v ∷ []) c _ rel (record { word = abc Return r 2 back flag; opcode = Return; there = has.0; is = opcode_of-abc Return r 2 back flag; lined = has.1.0 })
      (a_of-abc Return r 2 back flag fits) (behind_fits r 1 (length regs) wide) held
      (return_step S.code flag r 2 back (v ∷ []) (of_code S pending pc regs opened) c has.0 fits (lit< tt) (refl, (wide, held)))))))
