-- An operand that is alone: it is evaluated, or stays in its register.
use Rattle.std.proofs.Common.{◌≡◌, ℕ, ◌+◌, ◌<◌, ◌≤◌, List, [], ◌∷◌, ◌++◌, length, Option, Some, None, refl, sym, arith, length-append}
use Rattle.int_core.specs.Value.{Value, nth}
use Rattle.int_core.specs.Ask.{Captured}
use Rattle.tree_core.specs.Tree.{Exp}
use Rattle.tree_activation.specs.Work.{evaluate, give, Work, Pending}
use Rattle.tree_activation.specs.Work as tree
use Rattle.tree_activation.specs.Asking.{first}
use Rattle.machine_core.specs.Talk.{before}
use Rattle.code_of.specs.Coded.{Coded}
use Rattle.code_of.specs.Expressions.{exp_code}
use Rattle.code_of.specs.Operands.{local_of, operand_code}
use Rattle.code_of.specs.Rooms.{room_of}
use Rattle.exp_laws.specs.Setting.{Setting}
use Rattle.exp_laws.specs.Placed.{IsPlaced}
use Rattle.exp_laws.proofs.Registers.{Rel, After, after_none}
use Rattle.exp_laws.proofs.Talking.{Agree, of_tree, of_code}
use Rattle.exp_laws.proofs.Placing.{HasAt, has_front, has_back}
use Rattle.exp_laws.proofs.Operands.{ExpSame, local_placed, local_read}

module _ (S : Setting) (pending : List Pending) where
  module _ (e : Exp) (by_register : ℕ → List Coded) (n t end : ℕ) (env regs : List Value) (k : List Work) where
    -- code goes on where the operand stands in register x, which is t or the register of a local
    abbrev pub GoesStanding : Type 0
    GoesStanding =
        (x place opened' : ℕ) (vs env' regs' : List Value) (c' : Captured) → After S.hidden S.code.own.stack pending env regs t env' regs' c'
        → x ≤ t → x < S.code.own.stack → nth regs' x ≡ first vs → HasAt S place (by_register x) → place + length (by_register x) ≡ end
        → Agree S n (tree.at (give vs) (of_tree S pending env' c') k) (before (of_code S pending place regs' opened') c')

    abbrev pub standing_code : Option ℕ → (j : ℕ) → List Coded
    standing_code at j = operand_code at (exp_code S.code.own.constants e t j 2) t by_register

    pub operand_goes : (j pc opened : ℕ) (c : Captured) → ExpSame S pending e → 1 ≤ room_of S.code.own.constants e 2 → n ≤ S.bound
        → HasAt S pc (standing_code (local_of e) j) → IsPlaced S e (length env) j → end ≡ pc + length (standing_code (local_of e) j) → end < length S.code.own.code → length env ≤ t
        → (local_of e ≡ None → t + room_of S.code.own.constants e 2 ≤ S.code.own.stack) → Rel S.hidden S.code.own.stack pending env c regs → GoesStanding
        → Agree S n (tree.at (evaluate e) (of_tree S pending env c) k) (before (of_code S pending pc regs opened) c)
    operand_goes j pc opened c law some bound has ok ends inside le room rel goes = by (local_of e) refl has ends
      where
        by : (at : Option ℕ) → local_of e ≡ at → HasAt S pc (standing_code at j) → end ≡ pc + length (standing_code at j)
            → Agree S n (tree.at (evaluate e) (of_tree S pending env c) k) (before (of_code S pending pc regs opened) c)
        by None is has ends =
            let one = exp_code S.code.own.constants e t j 2 in
            let last = by_register t in
            let whole = length-append one last in
            let wide = room is in
            law t j n pc opened env regs c k bound (has_front S pc one last has) ok (omega (arith, ends, inside, whole)) le wide rel
            (λ vs env1 regs1 c1 o1 af eq given. goes t (pc + length one) o1 vs env1 regs1 c1 af (omega arith) (omega (arith, wide, some)) eq (has_back S pc one last has) (omega (arith, ends, whole)))
        by (Some x) is has ends =
            let below = local_placed S e x (length env) j is ok in
            local_read S pending e x n env c k _ is
            (goes x pc opened (nth env x ∷ []) env regs c (after_none S.hidden S.code.own.stack pending env regs c t rel) (omega (arith, below, le)) (omega (arith, below, rel.fits)) (sym (rel.agree x below)) has (sym ends))
