-- The operand C of an instruction that takes a register or a constant is there.
use Rattle.std.proofs.Common.{◌≡◌, ℕ, ◌<◌, List, length, ap, ◌∙◌, Some, Bool, true, false}
use Rattle.std.specs.Prelude.{slice_get}
use Rattle.code_core.specs.Check.{extra_at}
use Rattle.code_core.specs.Fields.{registers, constants, Wanted}
use Rattle.code_core.specs.Instruction.{c_of, k_of}
use Rattle.code_core.specs.declared.instruction.Instruction.{Instruction}
use Rattle.code_core.specs.declared.opcode.Opcode.{Opcode}
use Rattle.machine_view.specs.View.{IsAt}
use Rattle.machine_view.proofs.Places.{register_there, constant_there}
use Rattle.table_core.specs.declared.value.Value.{Value as Kept}

module _ {op : Opcode} {w : Instruction} {ws : List Instruction} {ks r : List Kept} {pc : ℕ} (h : IsAt op w ws ks r pc) where
  -- by what the opcode names with k and without it, and the place in that list
  pub operand_constant : (wanted : Wanted) (named : Bool → List (Wanted × ℕ)) (n : ℕ) → constants op w (extra_at h.code pc) ≡ named (k_of w) → slice_get (named true) n ≡ Some (wanted, c_of w) → k_of w ≡ true → c_of w < length ks
  operand_constant wanted named n e there k = constant_there h n (c_of w) wanted (ap (λ l. slice_get l n) e ∙ ap (λ k. slice_get (named k) n) k ∙ there)

  pub operand_register : (named : Bool → List ℕ) (n : ℕ) → registers op w ≡ named (k_of w) → slice_get (named false) n ≡ Some (c_of w) → k_of w ≡ false → c_of w < length r
  operand_register named n e there k = register_there h n (c_of w) (ap (λ l. slice_get l n) e ∙ ap (λ k. slice_get (named k) n) k ∙ there)
