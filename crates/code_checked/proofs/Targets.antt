-- The store of a target whose key waited, and of a local or a constant that goes to a global name by one instruction, are pieces.
use Rattle.std.proofs.Common.{◌≡◌, ℕ, ◌+◌, ◌<◌, ◌≤◌, ◌^◌, Bool, false, List, [], ◌∷◌, length, Some, refl, sym, subst, arith}
use Rattle.tree_core.specs.declared.name.Place.{Place}
use Rattle.tree_core.specs.declared.name.Place.TheVariants.{Unset, Upvalue, GlobalIn, GlobalOf, Local as LocalPlace}
use Rattle.tree_core.specs.Tree.{Exp}
use Rattle.code_core.specs.declared.opcode.Opcode.TheVariants.{SetTabUp, SetField}
use Rattle.code_core.specs.declared.proto.Const.{Const}
use Rattle.code_core.specs.declared.proto.Const.TheVariants.{Str as StrConst}
use Rattle.code_core.specs.Prototype.{Prototype}
use Rattle.code_core.specs.Instruction.{abc}
use Rattle.code_of.specs.Coded.{Coded}
use Rattle.code_of.specs.Constants.{number_in, of_name, of_exp}
use Rattle.code_of.specs.Stores.{FieldKey, a_name, an_index, a_register, evaluated, field_store}
use Rattle.code_of.specs.Targets.{global_store}
use Rattle.code_of.proofs.Targets.{Waits, some_store}
use Rattle.code_of.proofs.Constants.{same_text}
use Rattle.code_checked.specs.Near.{NameIsNear}
use Rattle.code_checked.proofs.Pieces.{closed, Piece}
use Rattle.code_checked.proofs.Found.{Grows, is_in}
use Rattle.code_checked.proofs.Loads.{Whole, ValueThere, set_table_piece, set_index_piece, set_name_piece, set_global_piece}

module _ (p : Prototype) where
  pub waiting_store : {H : Type 0} {pc : ℕ} (s : FieldKey) (key : Exp) (r v line : ℕ) (cs : List Const) → Waits p.own.constants key s → r + 1 < 2 ^ 8 → v < 2 ^ 8 → Grows (of_exp key cs) p.own.constants
      → Piece p H closed closed pc (field_store s r r v line ∷ [])
  waiting_store (a_name number) key r v line cs waits rf vf g =
      let known = subst (λ q. Grows (of_exp q cs) p.own.constants) waits.is g in
      let short = waits.short in
      set_name_piece p false r number v line waits.bytes (omega (arith, rf)) (omega (arith, short)) vf tt waits.same (is_in (StrConst waits.bytes) (same_text waits.bytes) cs p.own.constants known)
  waiting_store (an_index n) key r v line cs waits rf vf g = let small = waits.small in set_index_piece p false r n v line (omega (arith, rf)) (omega (arith, small)) vf tt
  waiting_store (a_register q) key r v line cs waits rf vf g = absurd waits
  waiting_store evaluated key r v line cs waits rf vf g = set_table_piece p false r (r + 1) v line (omega (arith, rf)) rf vf tt

  pub local_piece : {H : Type 0} {pc : ℕ} (place : Place) (text : List ℕ) (flag : Bool) (v line : ℕ) (x : Coded) (cs : List Const) → Whole p → global_store place (number_in p.own.constants (StrConst text)) flag v line ≡ Some x
      → number_in p.own.constants (StrConst text) < 256 → NameIsNear (length p.own.upvalues) place → v < 2 ^ 8 → ValueThere p flag v → Grows (of_name place text cs) p.own.constants → Piece p H closed closed pc (x ∷ [])
  local_piece Unset text flag v line x cs W h short near vf value g = absurd (cc)
  local_piece (LocalPlace n) text flag v line x cs W h short near vf value g = absurd (cc)
  local_piece (Upvalue u) text flag v line x cs W h short near vf value g = absurd (cc)
  local_piece {H} {pc} (GlobalIn n) text flag v line x cs W h short near vf value g =
      let number = number_in p.own.constants (StrConst text) in
      subst (λ z. Piece p H closed closed pc (z ∷ [])) (some_store (abc SetField n number v flag, line) x h)
      (set_name_piece p flag n number v line text near (omega (arith, short)) vf value refl (is_in (StrConst text) (same_text text) cs p.own.constants g))
  local_piece {H} {pc} (GlobalOf u) text flag v line x cs W h short near vf value g =
      let number = number_in p.own.constants (StrConst text) in
      let most = W.upvalues in
      subst (λ z. Piece p H closed closed pc (z ∷ [])) (some_store (abc SetTabUp u number v flag, line) x h)
      (set_global_piece p flag u number v line text (omega (arith, near, most)) (omega (arith, short)) vf value near refl (is_in (StrConst text) (same_text text) cs p.own.constants g))
