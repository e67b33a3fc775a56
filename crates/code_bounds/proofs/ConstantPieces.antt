-- The registers that an operator names whose second operand is a constant.
use Rattle.std.proofs.Common.{◌≡◌, ℕ, ◌+◌, ◌<◌, ◌≤◌, ◌^◌, max, Bool, true, false, [], ◌∷◌, Some, refl, arith}
use Rattle.tree_core.specs.declared.operator.BinOp.{BinOp}
use Rattle.tree_core.specs.declared.operator.BinOp.TheVariants.{Add as Plus, Sub as Minus, Mul as Times, Mod as Modulo, Idiv, Band, Bor, Bxor, Eq as Equal, Ne}
use Rattle.tree_core.specs.Tree.{Exp}
use Rattle.code_core.specs.declared.opcode.Opcode.{Opcode}
use Rattle.code_core.specs.declared.opcode.Opcode.TheVariants.{AddK, SubK, MulK, ModK, IDivK, BAndK, BOrK, BXorK, MmBinK, EqK}
use Rattle.code_core.specs.declared.proto.Const.{Const}
use Rattle.code_core.specs.Instruction.{abc, a_of, b_of}
use Rattle.code_core.specs.Fields.{registers}
use Rattle.code_of.specs.Coded.{with_abc}
use Rattle.code_of.specs.ConstantOperands.{constant_by}
use Rattle.code_of.specs.Operands.{computes}
use Rattle.code_of.specs.Operations.{constant_code, constant_arithmetic}
use Rattle.code_of.specs.Operators.{truth_code}
use Rattle.code_bounds.proofs.Tops.{top, top_more, one_a, one_ab}
use Rattle.code_bounds.proofs.Pieces.{truth_top}

summed_top : (op : Opcode) (event x n t line : ℕ) → registers op (abc op t x n false) ≡ a_of (abc op t x n false) ∷ b_of (abc op t x n false) ∷ [] → x < 2 ^ 8 → t < 2 ^ 8
    → top (constant_arithmetic op event x n t line) ≡ max (t + 1) (x + 1)
summed_top op event x n t line shape x_fits fits =
    let second = with_abc MmBinK x n event line in
    let a = top_more (with_abc op t x n line) (second ∷ []) in
    let b = one_ab op t x n false shape fits x_fits in
    let c = one_a MmBinK x n event false refl x_fits in
    omega (arith, a, b, c)

-- where the result goes to any register
pub constant_top : (op : BinOp) (d : Exp) (v : Const) (x n t line : ℕ) → computes op ≡ true → constant_by op d ≡ Some v → x < 2 ^ 8 → t < 2 ^ 8 → top (constant_code op x n t line) ≡ max (t + 1) (x + 1)
constant_top Plus d v x n t line is e xf tf = summed_top AddK 6 x n t line refl xf tf
constant_top Minus d v x n t line is e xf tf = summed_top SubK 7 x n t line refl xf tf
constant_top Times d v x n t line is e xf tf = summed_top MulK 8 x n t line refl xf tf
constant_top Modulo d v x n t line is e xf tf = summed_top ModK 9 x n t line refl xf tf
constant_top Idiv d v x n t line is e xf tf = summed_top IDivK 12 x n t line refl xf tf
constant_top Band d v x n t line is e xf tf = summed_top BAndK 13 x n t line refl xf tf
constant_top Bor d v x n t line is e xf tf = summed_top BOrK 14 x n t line refl xf tf
constant_top Bxor d v x n t line is e xf tf = summed_top BXorK 15 x n t line refl xf tf
constant_top _ d v x n t line is e xf tf = absurd (cc)

sum_here : (op : Opcode) (event x n t line : ℕ) → registers op (abc op t x n false) ≡ a_of (abc op t x n false) ∷ b_of (abc op t x n false) ∷ [] → x ≤ t → t < 2 ^ 8 → top (constant_arithmetic op event x n t line) ≡ t + 1
sum_here op event x n t line shape below fits = let e = summed_top op event x n t line shape (omega arith) fits in omega (arith, e)

truth_here : (x n : ℕ) (k : Bool) (t line : ℕ) → x ≤ t → t < 2 ^ 8 → top (truth_code EqK x n k t line) ≡ t + 1
truth_here x n k t line below fits = let e = truth_top EqK x n (x + 1) k t line (one_a EqK x n 0 k refl (omega arith)) fits in omega (arith, e)

-- where the first operand stands no higher than the result
pub constant_here : (op : BinOp) (d : Exp) (v : Const) (x n t line : ℕ) → constant_by op d ≡ Some v → x ≤ t → t < 2 ^ 8 → top (constant_code op x n t line) ≡ t + 1
constant_here Plus d v x n t line e below fits = sum_here AddK 6 x n t line refl below fits
constant_here Minus d v x n t line e below fits = sum_here SubK 7 x n t line refl below fits
constant_here Times d v x n t line e below fits = sum_here MulK 8 x n t line refl below fits
constant_here Modulo d v x n t line e below fits = sum_here ModK 9 x n t line refl below fits
constant_here Idiv d v x n t line e below fits = sum_here IDivK 12 x n t line refl below fits
constant_here Band d v x n t line e below fits = sum_here BAndK 13 x n t line refl below fits
constant_here Bor d v x n t line e below fits = sum_here BOrK 14 x n t line refl below fits
constant_here Bxor d v x n t line e below fits = sum_here BXorK 15 x n t line refl below fits
constant_here Equal d v x n t line e below fits = truth_here x n true t line below fits
constant_here Ne d v x n t line e below fits = truth_here x n false t line below fits
constant_here _ d v x n t line e below fits = absurd (cc)
