-- The row of every instruction that runs is safe in checked code.
use Rattle.std.proofs.Common.{◌≡◌, [], Option, Some, None, refl, subst, sym, ap, ◌∙◌, true, false}
use Rattle.code_core.specs.declared.opcode.Opcode.{Opcode}
use Rattle.code_core.specs.declared.opcode.Opcode.TheVariants.{Move, LoadI, LoadK, LoadKx, LoadFalse, LFalseSkip, LoadTrue, LoadNil, GetUpval, SetUpval, GetTabUp, GetTable, GetI, GetField, SetTabUp, SetTable, SetI, SetField, NewTable, OpSelf, AddI, AddK, SubK, MulK, ModK, IDivK, BAndK, BOrK, BXorK, ShrI, ShlI, Add, Sub, Mul, Mod, IDiv, BAnd, BOr, BXor, Shl, Shr, MmBin, MmBinI, MmBinK, Unm, BNot, Not, Len, Concat, Close, Tbc, Jmp, Eq, Lt, Le, EqK, EqI, LtI, LeI, GtI, GeI, Test, TestSet, Call, TailCall, Return, Return0, Return1, ForLoop, ForPrep, TForPrep, TForCall, TForLoop, SetList, Closure, VarArg, VarArgPrep, ExtraArg}
use Rattle.code_core.specs.declared.instruction.Instruction.{Instruction}
use Rattle.code_core.specs.Instruction.{opcode_of}
use Rattle.code_core.specs.Fields.{takes_list}
use Rattle.code_core.specs.Check.{CodeIsChecked}
use Rattle.int_core.specs.Operations.{of_add, of_sub, of_mul, of_mod, of_idiv, of_band, of_bor, of_bxor, of_shl, of_shr}
use Rattle.machine_core.specs.Text.{Text, trap}
use Rattle.machine_core.specs.InstructionRows.{row_of, text_at, text_by}
use Rattle.machine_core.specs.FrameRows.{expand}
use Rattle.machine_sound.specs.Sound.{Top, is_extra, Fits}
use Rattle.machine_sound.specs.Safe.{on_lua, Safe}
use Rattle.machine_sound.proofs.Rules.{rules_at}
use Rattle.machine_sound.proofs.Places.{Here, Listed, plain_there, listed_there}
use Rattle.machine_sound.proofs.OpcodesTables.{move_safe, load_i_safe, load_k_safe, load_false_safe, load_true_safe, l_false_skip_safe, load_nil_safe, load_kx_safe, get_upval_safe, set_upval_safe, get_tab_up_safe, get_table_safe, get_i_safe, get_field_safe, set_tab_up_safe, set_table_safe, set_i_safe, set_field_safe, new_table_safe, self_safe}
use Rattle.machine_sound.proofs.OpcodesNumbers.{registers_safe, constant_safe, add_i_safe, shr_i_safe, shl_i_safe, mm_bin_safe, mm_bin_i_safe, mm_bin_k_safe, unm_safe, bnot_safe, not_safe, len_safe, concat_safe}
use Rattle.machine_sound.proofs.OpcodesTests.{eq_safe, lt_safe, le_safe, eq_k_safe, eq_i_safe, lt_i_safe, le_i_safe, gt_i_safe, ge_i_safe, test_safe, test_set_safe, jmp_safe, for_loop_safe, for_prep_safe, tbc_safe, t_for_prep_safe, t_for_loop_safe, close_safe}
use Rattle.machine_sound.proofs.OpcodesCalls.{call_row_safe, tail_call_safe, t_for_call_safe, return_0_safe, return_1_safe, return_safe}
use Rattle.machine_sound.proofs.OpcodesLists.{set_list_safe, closure_safe, var_arg_safe, var_arg_prep_safe}
use Rattle.std.specs.Prelude.{IsTrue}

pub row_safe : (op : Opcode) (t : Top) (w : Instruction) → Here t w op → is_extra op ≡ false → (takes_list op w ≡ true → Listed t w) → Safe (on_lua t) [] (expand (row_of t.code t.pc op w))
row_safe Move t w h x l = move_safe t w h
row_safe LoadI t w h x l = load_i_safe t w h
row_safe LoadK t w h x l = load_k_safe t w h
row_safe LoadKx t w h x l = load_kx_safe t w h
row_safe LoadFalse t w h x l = load_false_safe t w h
row_safe LFalseSkip t w h x l = l_false_skip_safe t w h
row_safe LoadTrue t w h x l = load_true_safe t w h
row_safe LoadNil t w h x l = load_nil_safe t w h
row_safe GetUpval t w h x l = get_upval_safe t w h
row_safe SetUpval t w h x l = set_upval_safe t w h
row_safe GetTabUp t w h x l = get_tab_up_safe t w h
row_safe GetTable t w h x l = get_table_safe t w h
row_safe GetI t w h x l = get_i_safe t w h
row_safe GetField t w h x l = get_field_safe t w h
row_safe SetTabUp t w h x l = set_tab_up_safe t w h
row_safe SetTable t w h x l = set_table_safe t w h
row_safe SetI t w h x l = set_i_safe t w h
row_safe SetField t w h x l = set_field_safe t w h
row_safe NewTable t w h x l = new_table_safe t w h
row_safe OpSelf t w h x l = self_safe t w h
row_safe AddI t w h x l = add_i_safe t w h
row_safe AddK t w h x l = constant_safe h of_add refl (refl, refl, refl, refl) refl (λ _. refl)
row_safe SubK t w h x l = constant_safe h of_sub refl (refl, refl, refl, refl) refl (λ _. refl)
row_safe MulK t w h x l = constant_safe h of_mul refl (refl, refl, refl, refl) refl (λ _. refl)
row_safe ModK t w h x l = constant_safe h of_mod refl (refl, refl, refl, refl) refl (λ _. refl)
row_safe IDivK t w h x l = constant_safe h of_idiv refl (refl, refl, refl, refl) refl (λ _. refl)
row_safe BAndK t w h x l = constant_safe h of_band refl (refl, refl, refl, refl) refl (λ _. refl)
row_safe BOrK t w h x l = constant_safe h of_bor refl (refl, refl, refl, refl) refl (λ _. refl)
row_safe BXorK t w h x l = constant_safe h of_bxor refl (refl, refl, refl, refl) refl (λ _. refl)
row_safe ShrI t w h x l = shr_i_safe t w h
row_safe ShlI t w h x l = shl_i_safe t w h
row_safe Add t w h x l = registers_safe h of_add refl (refl, refl, refl, refl) refl
row_safe Sub t w h x l = registers_safe h of_sub refl (refl, refl, refl, refl) refl
row_safe Mul t w h x l = registers_safe h of_mul refl (refl, refl, refl, refl) refl
row_safe Mod t w h x l = registers_safe h of_mod refl (refl, refl, refl, refl) refl
row_safe IDiv t w h x l = registers_safe h of_idiv refl (refl, refl, refl, refl) refl
row_safe BAnd t w h x l = registers_safe h of_band refl (refl, refl, refl, refl) refl
row_safe BOr t w h x l = registers_safe h of_bor refl (refl, refl, refl, refl) refl
row_safe BXor t w h x l = registers_safe h of_bxor refl (refl, refl, refl, refl) refl
row_safe Shl t w h x l = registers_safe h of_shl refl (refl, refl, refl, refl) refl
row_safe Shr t w h x l = registers_safe h of_shr refl (refl, refl, refl, refl) refl
row_safe MmBin t w h x l = mm_bin_safe t w h
row_safe MmBinI t w h x l = mm_bin_i_safe t w h
row_safe MmBinK t w h x l = mm_bin_k_safe t w h
row_safe Unm t w h x l = unm_safe t w h
row_safe BNot t w h x l = bnot_safe t w h
row_safe Not t w h x l = not_safe t w h
row_safe Len t w h x l = len_safe t w h
row_safe Concat t w h x l = concat_safe t w h
row_safe Close t w h x l = close_safe t w h
row_safe Tbc t w h x l = tbc_safe t w h
row_safe Jmp t w h x l = jmp_safe t w h
row_safe Eq t w h x l = eq_safe t w h
row_safe Lt t w h x l = lt_safe t w h
row_safe Le t w h x l = le_safe t w h
row_safe EqK t w h x l = eq_k_safe t w h
row_safe EqI t w h x l = eq_i_safe t w h
row_safe LtI t w h x l = lt_i_safe t w h
row_safe LeI t w h x l = le_i_safe t w h
row_safe GtI t w h x l = gt_i_safe t w h
row_safe GeI t w h x l = ge_i_safe t w h
row_safe Test t w h x l = test_safe t w h
row_safe TestSet t w h x l = test_set_safe t w h
row_safe Call t w h x l = call_row_safe t w h l
row_safe TailCall t w h x l = tail_call_safe t w h l
row_safe Return t w h x l = return_safe t w h l
row_safe Return0 t w h x l = return_0_safe t w h
row_safe Return1 t w h x l = return_1_safe t w h
row_safe ForLoop t w h x l = for_loop_safe t w h
row_safe ForPrep t w h x l = for_prep_safe t w h
row_safe TForPrep t w h x l = t_for_prep_safe t w h
row_safe TForCall t w h x l = t_for_call_safe t w h
row_safe TForLoop t w h x l = t_for_loop_safe t w h
row_safe SetList t w h x l = set_list_safe t w h l
row_safe Closure t w h x l = closure_safe t w h
row_safe VarArg t w h x l = var_arg_safe t w h
row_safe VarArgPrep t w h x l = var_arg_prep_safe t w h
row_safe ExtraArg t w h x l = absurd (cc)
row_safe _ t w h x l = absurd (let e = h.rule.whole in cc)

-- the text of the instruction at hand
pub text_safe : (t : Top) → CodeIsChecked t.code → Fits t → t.pending ≡ t.code.own.stack → t.cells ≡ t.code.own.stack → IsTrue t.runs → Safe (on_lua t) [] (expand (text_at t.code t.pc))
text_safe t c f p k r =
    let h : Here t f.instruction f.opcode = record {
      checked = c;
      at_pc = f.at_pc;
      is_opcode = f.is_opcode;
      rule = rules_at t.code t.pc f.instruction f.opcode c f.at_pc f.is_opcode;
      plain = plain_there t f.instruction f.opcode c f.at_pc f.is_opcode f.fits_mark;
      pending = p;
      cells = k;
      runs = r;
    } in
    let s = row_safe f.opcode t f.instruction h f.no_extra (listed_there t f.instruction f.opcode c f.at_pc f.is_opcode f.fits_mark) in
    subst (λ (x : Text). Safe (on_lua t) [] (expand x))
    (sym (ap (λ (o : Option Instruction). elim o as (λ _. Text) [ None ↦ trap | Some w ↦ text_by t.code t.pc w (opcode_of w) ]) f.at_pc ∙ ap (text_by t.code t.pc f.instruction) f.is_opcode)) s
