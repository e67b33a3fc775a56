-- The registers that pieces of code take together. A piece takes n registers from t on if it names none behind them, and the last of them where there are some.
use Rattle.std.proofs.Common.{◌≡◌, ℕ, zero, suc, ◌+◌, ◌-◌, ◌%◌, ◌/◌, ◌<◌, ◌≤◌, ◌^◌, ◌⊎◌, inl, inr, max, Bool, true, false, cond, List, [], ◌∷◌, ◌++◌, length, Some, None, refl, ap, ap₂, ◌∙◌, arith, nat_lt}
use Rattle.tree_core.specs.declared.name.Place.{Place}
use Rattle.tree_core.specs.declared.name.Place.TheVariants.{Unset, Upvalue, GlobalIn, GlobalOf, Local as LocalPlace}
use Rattle.tree_core.specs.declared.operator.UnOp.{UnOp}
use Rattle.tree_core.specs.declared.operator.UnOp.TheVariants.{Neg, BitNot, Not as Negation, Len as Length}
use Rattle.tree_core.specs.declared.operator.BinOp.{BinOp}
use Rattle.tree_core.specs.declared.operator.BinOp.TheVariants.{Add as Plus, Sub as Minus, Mul as Times, Mod as Modulo, Idiv, Band, Bor, Bxor, Shl as ShiftLeft, Shr as ShiftRight, Concat as Join, Eq as Equal, Ne, Lt as Less, Le as AtMost, Gt, Ge}
use Rattle.tree_core.specs.Tree.{Exp}
use Rattle.code_core.specs.declared.opcode.Opcode.{Opcode}
use Rattle.code_core.specs.declared.opcode.Opcode.TheVariants.{OpSelf, Move, LoadI, LoadK, LoadKx, LFalseSkip, LoadTrue, GetUpval, GetTabUp, GetTable, GetField, Add, Sub, Mul, Mod, IDiv, BAnd, BOr, BXor, Shl, Shr, AddI, ShrI, MmBin, MmBinI, EqI, LtI, LeI, GtI, GeI, Unm, BNot, Not, Len, Eq, Lt, Le, Test, SetList, ExtraArg, Jmp}
use Rattle.code_core.specs.declared.instruction.Instruction.{Instruction}
use Rattle.code_core.specs.declared.proto.Const.{Const}
use Rattle.code_core.specs.declared.proto.Const.TheVariants.{Str as StrConst}
use Rattle.code_core.specs.Instruction.{abc, op_ax, a_of, b_of, c_of}
use Rattle.code_core.specs.Fields.{registers}
use Rattle.code_of.specs.Coded.{Coded, with_abc, with_abx, jump_over}
use Rattle.code_of.specs.Constants.{number_in, loads}
use Rattle.code_of.specs.Operands.{joins, computes, operand_numeral}
use Rattle.code_of.proofs.Operands.{numeral_none}
use Rattle.code_of.specs.Operators.{name_into, name_code, prefix_code, arithmetic_code, truth_code, operator_code, sum_code, number_code, self_code}
use Rattle.code_of.specs.Expressions.{Wanted, nils_code, set_list}
use Rattle.code_of.specs.Rooms.{room_of_name_by, room_of_name, room_of_self, room_of_nils}
use Rattle.code_of.proofs.Rooms.{name_room}
use Rattle.scope_laws.specs.Finding.{PlaceIsThere}
use Rattle.code_bounds.proofs.Tops.{one_self, one_self_key, top, one, top_more, top_append, ax_is, one_a, one_ab, one_abc, one_ax, one_sum, one_nil, one_join}

abbrev pub Takes : (t n : ℕ) → List Coded → Type 0
Takes t n code = (top code ≤ t + n) × (t + n ≤ max t (top code))

-- registers of a list that begins at p, counted from t on
abbrev pub ListTakes : (t p n : ℕ) → List Coded → Type 0
ListTakes t p n code = (top code ≤ t + n) × (t + n ≤ max p (top code))

pub takes_one : (t : ℕ) (w : Instruction) (line : ℕ) → one w ≡ t + 1 → Takes t 1 ((w, line) ∷ [])
takes_one t w line e = (omega (arith, e), omega (arith, e))

-- loads

pub loads_top : (cs : List Const) (x : Const) (t line : ℕ) → t < 2 ^ 8 → top (loads cs x t line) ≡ t + 1
loads_top cs x t line fits = by (nat_lt (number_in cs x) 131072)
  where
    by : (b : Bool) → top (cond b (with_abx LoadK t (number_in cs x) line ∷ []) (with_abx LoadKx t 0 line ∷ (op_ax ExtraArg (number_in cs x), line) ∷ [])) ≡ t + 1
    by true = one_ax LoadK t (number_in cs x) refl fits
    by false =
        let extra : Coded = (op_ax ExtraArg (number_in cs x), line) in
        let a = top_more (with_abx LoadKx t 0 line) (extra ∷ []) in
        let b = one_ax LoadKx t 0 refl fits in
        let c = ax_is ExtraArg (number_in cs x) refl in
        omega (arith, a, b, c)

pub integer_top : (cs : List Const) (t line : ℕ) (small : Bool) (field : ℕ) (x : Const) → t < 2 ^ 8 → top (cond small (with_abx LoadI t field line ∷ []) (loads cs x t line)) ≡ t + 1
integer_top cs t line true field x fits = one_ax LoadI t field refl fits
integer_top cs t line false field x fits = loads_top cs x t line fits

-- names

module _ (cs : List Const) (text : List ℕ) where
  -- the value goes to register r, which is t or below
  global_takes : (u number r t line own : ℕ) (b : Bool) → r < 2 ^ 8 → r ≤ t → r + 1 ≤ t + own → t + own ≤ max t (r + 1) → t + cond b own 2 ≤ 255 →
      Takes t (cond b own 2) (cond b (with_abc GetTabUp r u number line ∷ []) (with_abc GetUpval t u 0 line ∷ (loads cs (StrConst text) (t + 1) line ++ with_abc GetTable r t (t + 1) line ∷ [])))
  global_takes u number r t line own true fits low most least small = let e = one_a GetTabUp r u number false refl fits in (omega (arith, e, most), omega (arith, e, least))
  global_takes u number r t line own false fits low most least small =
      let key = loads cs (StrConst text) (t + 1) line in
      let read = with_abc GetTable r t (t + 1) line ∷ [] in
      let a = top_more (with_abc GetUpval t u 0 line) (key ++ read) in
      let b = top_append key read in
      let c = one_a GetUpval t u 0 false refl (omega (arith, small)) in
      let d = loads_top cs (StrConst text) (t + 1) line (omega (arith, small)) in
      let e = one_abc GetTable r t (t + 1) false refl fits (omega (arith, small)) (omega (arith, small)) in
      (omega (arith, a, b, c, d, e, low), omega (arith, a, b, c, d, e, low))

  local_global_takes : (n number r t line own : ℕ) (b : Bool) → r < 2 ^ 8 → n < t → r ≤ t → r + 1 ≤ t + own → t + own ≤ max t (r + 1) → t + cond b own 1 ≤ 255 →
      Takes t (cond b own 1) (cond b (with_abc GetField r n number line ∷ []) (loads cs (StrConst text) t line ++ with_abc GetTable r n t line ∷ []))
  local_global_takes n number r t line own true fits below low most least small =
      let e = one_ab GetField r n number false refl fits (omega (arith, below, small)) in
      (omega (arith, e, most, below), omega (arith, e, least))
  local_global_takes n number r t line own false fits below low most least small =
      let read = with_abc GetTable r n t line ∷ [] in
      let a = top_append (loads cs (StrConst text) t line) read in
      let b = loads_top cs (StrConst text) t line (omega (arith, small)) in
      let c = one_abc GetTable r n t false refl fits (omega (arith, below, small)) (omega (arith, small)) in
      (omega (arith, a, b, c, low, below), omega (arith, a, b, c, low, below))

  named_takes : (own : ℕ) (p : Place) (hidden : List ℕ) (ups size r t line : ℕ) → PlaceIsThere hidden size ups p → size ≤ t → r < 2 ^ 8 → r ≤ t → r + 1 ≤ t + own → t + own ≤ max t (r + 1) → t + room_of_name_by cs own p text ≤ 255
      → Takes t (room_of_name_by cs own p text) (name_into cs p text r t line)
  named_takes own Unset hidden ups size r t line known above fits low most least small = absurd known
  named_takes own (LocalPlace n) hidden ups size r t line known above fits low most least small =
      let below = known.0 in
      let e = one_ab Move r n 0 false refl fits (omega (arith, below, above, small)) in
      (omega (arith, e, most, below, above), omega (arith, e, least))
  named_takes own (Upvalue u) hidden ups size r t line known above fits low most least small =
      let e = one_a GetUpval r u 0 false refl fits in
      (omega (arith, e, most), omega (arith, e, least))
  named_takes own (GlobalIn n) hidden ups size r t line known above fits low most least small =
      let below = known.0 in
      local_global_takes n (number_in cs (StrConst text)) r t line own (nat_lt (number_in cs (StrConst text)) 256) fits (omega (arith, below, above)) low most least small
  named_takes own (GlobalOf u) hidden ups size r t line known above fits low most least small =
      global_takes u (number_in cs (StrConst text)) r t line own (nat_lt (number_in cs (StrConst text)) 256) fits low most least small

  pub name_takes : (p : Place) (hidden : List ℕ) (ups size t line : ℕ) → PlaceIsThere hidden size ups p → size ≤ t → t + room_of_name cs p text ≤ 255 → Takes t (room_of_name cs p text) (name_code cs p text t line)
  name_takes p hidden ups size t line known above small =
      let some = name_room cs p text in
      named_takes 1 p hidden ups size t t line known above (omega (arith, small, some)) (omega arith) (omega arith) (omega arith) small

  -- where it goes to the register of a local
  pub name_below : (p : Place) (hidden : List ℕ) (ups size r t line : ℕ) → PlaceIsThere hidden size ups p → size ≤ t → r < t → t ≤ 255 → t + room_of_name_by cs 0 p text ≤ 255
      → Takes t (room_of_name_by cs 0 p text) (name_into cs p text r t line)
  name_below p hidden ups size r t line known above low fits small =
      named_takes 0 p hidden ups size r t line known above (omega (arith, low, fits)) (omega (arith, low)) (omega (arith, low)) (omega (arith, low)) small

-- a method by its name, whose object does not stand above it

pub self_top : (cs : List Const) (text : List ℕ) (x t line : ℕ) → x ≤ t → t + room_of_self cs text ≤ 255 → top (self_code cs text x t line) ≡ t + room_of_self cs text
self_top cs text x t line low small = by (nat_lt (number_in cs (StrConst text)) 256) small
  where
    by : (b : Bool) → t + cond b 2 3 ≤ 255 → top (cond b ((abc OpSelf t x (number_in cs (StrConst text)) true, line) ∷ []) (loads cs (StrConst text) (t + 2) line ++ with_abc OpSelf t x (t + 2) line ∷ [])) ≡ t + cond b 2 3
    by true small = let e = one_self_key t x (number_in cs (StrConst text)) (omega (arith, small)) (omega (arith, low, small)) in omega (arith, e, low)
    by false small =
        let a = top_append (loads cs (StrConst text) (t + 2) line) (with_abc OpSelf t x (t + 2) line ∷ []) in
        let b = loads_top cs (StrConst text) (t + 2) line (omega (arith, small)) in
        let c = one_self t x (t + 2) (omega (arith, small)) (omega (arith, low, small)) (omega (arith, small)) in
        omega (arith, a, b, c, low)

-- operators

pub prefix_top : (op : UnOp) (x t line : ℕ) → x < 2 ^ 8 → t < 2 ^ 8 → top (prefix_code op x t line) ≡ max (t + 1) (x + 1)
prefix_top Neg x t line x_fits fits = let e = one_ab Unm t x 0 false refl fits x_fits in omega (arith, e)
prefix_top BitNot x t line x_fits fits = let e = one_ab BNot t x 0 false refl fits x_fits in omega (arith, e)
prefix_top Negation x t line x_fits fits = let e = one_ab Not t x 0 false refl fits x_fits in omega (arith, e)
prefix_top Length x t line x_fits fits = let e = one_ab Len t x 0 false refl fits x_fits in omega (arith, e)

arithmetic_top : (op : Opcode) (event x y t line : ℕ) → registers op (abc op t x y false) ≡ a_of (abc op t x y false) ∷ b_of (abc op t x y false) ∷ c_of (abc op t x y false) ∷ [] →
    x < 2 ^ 8 → y < 2 ^ 8 → t < 2 ^ 8 → top (arithmetic_code op event x y t line) ≡ max (t + 1) (max (x + 1) (y + 1))
arithmetic_top op event x y t line shape x_fits y_fits t_fits =
    let second = with_abc MmBin x y event line in
    let a = top_more (with_abc op t x y line) (second ∷ []) in
    let b = one_abc op t x y false shape t_fits x_fits y_fits in
    let c = one_ab MmBin x y event false refl x_fits y_fits in
    omega (arith, a, b, c)

-- a test that names registers below m, and then t
pub truth_top : (op : Opcode) (x y m : ℕ) (k : Bool) (t line : ℕ) → one (abc op x y 0 k) ≡ m → t < 2 ^ 8 → top (truth_code op x y k t line) ≡ max (t + 1) m
truth_top op x y m k t line named t_fits =
    let third = with_abc LoadTrue t 0 0 line in
    let second = with_abc LFalseSkip t 0 0 line in
    let first = jump_over 1 line in
    let a = top_more (abc op x y 0 k, line) (first ∷ second ∷ third ∷ []) in
    let b = top_more first (second ∷ third ∷ []) in
    let c = top_more second (third ∷ []) in
    let e = ax_is Jmp (16777215 + 1) refl in
    let f = one_a LFalseSkip t 0 0 false refl t_fits in
    let g = one_a LoadTrue t 0 0 false refl t_fits in
    omega (arith, a, b, c, named, e, f, g)

-- registers x and y are compared
pub pair_named : (op : Opcode) (x y : ℕ) (k : Bool) → registers op (abc op x y 0 k) ≡ a_of (abc op x y 0 k) ∷ b_of (abc op x y 0 k) ∷ [] → x < 2 ^ 8 → y < 2 ^ 8 → one (abc op x y 0 k) ≡ max (x + 1) (y + 1)
pair_named op x y k shape x_fits y_fits = one_ab op x y 0 k shape x_fits y_fits

turned : (x y : ℕ) (op : Opcode) (k : Bool) → one (abc op y x 0 k) ≡ max (y + 1) (x + 1) → one (abc op y x 0 k) ≡ max (x + 1) (y + 1)
turned x y op k e = omega (arith, e)

pub operator_top : (op : BinOp) (x y t line : ℕ) → joins op ≡ false → x < 2 ^ 8 → y < 2 ^ 8 → t < 2 ^ 8 → top (operator_code op x y t line) ≡ max (t + 1) (max (x + 1) (y + 1))
operator_top Plus x y t line j xf yf tf = arithmetic_top Add 6 x y t line refl xf yf tf
operator_top Minus x y t line j xf yf tf = arithmetic_top Sub 7 x y t line refl xf yf tf
operator_top Times x y t line j xf yf tf = arithmetic_top Mul 8 x y t line refl xf yf tf
operator_top Modulo x y t line j xf yf tf = arithmetic_top Mod 9 x y t line refl xf yf tf
operator_top Idiv x y t line j xf yf tf = arithmetic_top IDiv 12 x y t line refl xf yf tf
operator_top Band x y t line j xf yf tf = arithmetic_top BAnd 13 x y t line refl xf yf tf
operator_top Bor x y t line j xf yf tf = arithmetic_top BOr 14 x y t line refl xf yf tf
operator_top Bxor x y t line j xf yf tf = arithmetic_top BXor 15 x y t line refl xf yf tf
operator_top ShiftLeft x y t line j xf yf tf = arithmetic_top Shl 16 x y t line refl xf yf tf
operator_top ShiftRight x y t line j xf yf tf = arithmetic_top Shr 17 x y t line refl xf yf tf
operator_top Join x y t line j xf yf tf = absurd (cc)
operator_top Equal x y t line j xf yf tf = truth_top Eq x y _ true t line (pair_named Eq x y true refl xf yf) tf
operator_top Ne x y t line j xf yf tf = truth_top Eq x y _ false t line (pair_named Eq x y false refl xf yf) tf
operator_top Less x y t line j xf yf tf = truth_top Lt x y _ true t line (pair_named Lt x y true refl xf yf) tf
operator_top AtMost x y t line j xf yf tf = truth_top Le x y _ true t line (pair_named Le x y true refl xf yf) tf
operator_top Gt x y t line j xf yf tf = truth_top Lt y x _ true t line (turned x y Lt true (pair_named Lt y x true refl yf xf)) tf
operator_top Ge x y t line j xf yf tf = truth_top Le y x _ true t line (turned x y Le true (pair_named Le y x true refl yf xf)) tf

join_by : (op : BinOp) (b : Bool) (t line : ℕ) → joins op ≡ b → t + 1 < 2 ^ 8 → top (operator_code op t (t + 1) t line) ≤ t + 2
join_by op false t line j fits = let e = operator_top op t (t + 1) t line j (omega arith) fits (omega arith) in omega (arith, e)
join_by Join true t line j fits = let e = one_join t (omega arith) in omega (arith, e)
join_by Plus true t line j fits = absurd (cc)
join_by Minus true t line j fits = absurd (cc)
join_by Times true t line j fits = absurd (cc)
join_by Modulo true t line j fits = absurd (cc)
join_by Idiv true t line j fits = absurd (cc)
join_by Band true t line j fits = absurd (cc)
join_by Bor true t line j fits = absurd (cc)
join_by Bxor true t line j fits = absurd (cc)
join_by ShiftLeft true t line j fits = absurd (cc)
join_by ShiftRight true t line j fits = absurd (cc)
join_by Equal true t line j fits = absurd (cc)
join_by Ne true t line j fits = absurd (cc)
join_by Less true t line j fits = absurd (cc)
join_by AtMost true t line j fits = absurd (cc)
join_by Gt true t line j fits = absurd (cc)
join_by Ge true t line j fits = absurd (cc)

-- where both operands are made
pub operator_above : (op : BinOp) (t line : ℕ) → t + 1 < 2 ^ 8 → top (operator_code op t (t + 1) t line) ≤ t + 2
operator_above op t line fits = join_by op (joins op) t line refl fits

-- where they stand no higher than the result
pub operator_here : (op : BinOp) (x y t line : ℕ) → (joins op ≡ true → ⊥) → x ≤ t → y ≤ t → t < 2 ^ 8 → top (operator_code op x y t line) ≡ t + 1
operator_here op x y t line other x_below y_below fits = by (joins op) refl
  where
    by : (b : Bool) → joins op ≡ b → top (operator_code op x y t line) ≡ t + 1
    by true j = absurd (other j)
    by false j = let e = operator_top op x y t line j (omega arith) (omega arith) fits in omega (arith, e)

summed_top : (op : Opcode) (field event x n t line : ℕ) → registers op (abc op t x field false) ≡ a_of (abc op t x field false) ∷ b_of (abc op t x field false) ∷ [] → x < 2 ^ 8 → t < 2 ^ 8 →
    top (sum_code op field event x n t line) ≡ max (t + 1) (x + 1)
summed_top op field event x n t line shape x_fits fits =
    let second = with_abc MmBinI x (n + 127) event line in
    let a = top_more (with_abc op t x field line) (second ∷ []) in
    let b = one_ab op t x field false shape fits x_fits in
    let c = one_a MmBinI x (n + 127) event false refl x_fits in
    omega (arith, a, b, c)

sum_top : (op : Opcode) (field event x n t line : ℕ) → registers op (abc op t x field false) ≡ a_of (abc op t x field false) ∷ b_of (abc op t x field false) ∷ [] → x ≤ t → t < 2 ^ 8 → top (sum_code op field event x n t line) ≡ t + 1
sum_top op field event x n t line shape below fits = let e = summed_top op field event x n t line shape (omega arith) fits in omega (arith, e)

-- where the result goes to any register
pub number_top : (op : BinOp) (d : Exp) (x n t line : ℕ) → computes op ≡ true → operand_numeral op d ≡ Some n → x < 2 ^ 8 → t < 2 ^ 8 → top (number_code op x n t line) ≡ max (t + 1) (x + 1)
number_top Plus d x n t line is e xf tf = summed_top AddI (n + 127) 6 x n t line refl xf tf
number_top Minus d x n t line is e xf tf = summed_top AddI (127 - n) 7 x n t line refl xf tf
number_top ShiftLeft d x n t line is e xf tf = summed_top ShrI (127 - n) 16 x n t line refl xf tf
number_top ShiftRight d x n t line is e xf tf = summed_top ShrI (n + 127) 17 x n t line refl xf tf
number_top Times d x n t line is e xf tf = absurd (numeral_none d n e)
number_top Modulo d x n t line is e xf tf = absurd (numeral_none d n e)
number_top Idiv d x n t line is e xf tf = absurd (numeral_none d n e)
number_top Band d x n t line is e xf tf = absurd (numeral_none d n e)
number_top Bor d x n t line is e xf tf = absurd (numeral_none d n e)
number_top Bxor d x n t line is e xf tf = absurd (numeral_none d n e)
number_top _ d x n t line is e xf tf = absurd (cc)

number_truth : (op : Opcode) (x n : ℕ) (k : Bool) (t line : ℕ) → registers op (abc op x (n + 127) 0 k) ≡ a_of (abc op x (n + 127) 0 k) ∷ [] → x ≤ t → t < 2 ^ 8 → top (truth_code op x (n + 127) k t line) ≡ t + 1
number_truth op x n k t line shape below fits = let e = truth_top op x (n + 127) (x + 1) k t line (one_a op x (n + 127) 0 k shape (omega arith)) fits in omega (arith, e)

pub number_here : (op : BinOp) (d : Exp) (x n t line : ℕ) → operand_numeral op d ≡ Some n → x ≤ t → t < 2 ^ 8 → top (number_code op x n t line) ≡ t + 1
number_here Plus d x n t line e below fits = sum_top AddI (n + 127) 6 x n t line refl below fits
number_here Minus d x n t line e below fits = sum_top AddI (127 - n) 7 x n t line refl below fits
number_here ShiftLeft d x n t line e below fits = sum_top ShrI (127 - n) 16 x n t line refl below fits
number_here ShiftRight d x n t line e below fits = sum_top ShrI (n + 127) 17 x n t line refl below fits
number_here Equal d x n t line e below fits = number_truth EqI x n true t line refl below fits
number_here Ne d x n t line e below fits = number_truth EqI x n false t line refl below fits
number_here Less d x n t line e below fits = number_truth LtI x n true t line refl below fits
number_here AtMost d x n t line e below fits = number_truth LeI x n true t line refl below fits
number_here Gt d x n t line e below fits = number_truth GtI x n true t line refl below fits
number_here Ge d x n t line e below fits = number_truth GeI x n true t line refl below fits
number_here _ d x n t line e below fits = absurd (numeral_none d n e)

-- operands, each with a register of its own, and what is done with them

pub two_take : (t x y : ℕ) (first second last : List Coded) → 1 ≤ y → Takes t x first → Takes (t + 1) y second → top last ≤ t + 2 → Takes t (max x (1 + y)) (first ++ (second ++ last))
two_take t x y first second last some h k l =
    let a = top_append first (second ++ last) in
    let b = top_append second last in
    by (top first) (top second) (top last) (top (first ++ (second ++ last))) (omega (arith, a, b)) h.0 h.1 k.0 k.1 l
  where
    by : (m n o all : ℕ) → all ≡ max m (max n o) → m ≤ t + x → t + x ≤ max t m → n ≤ t + 1 + y → t + 1 + y ≤ max (t + 1) n → o ≤ t + 2 → (all ≤ t + max x (1 + y)) × (t + max x (1 + y) ≤ max t all)
    by m n o all is a b c d e = (omega arith, omega arith)

pub one_takes : (t x : ℕ) (first last : List Coded) → 1 ≤ x → Takes t x first → top last ≤ t + 1 → Takes t x (first ++ last)
one_takes t x first last some h l = let a = top_append first last in (omega (arith, a, h.0, l), omega (arith, a, h.0, h.1, l))

-- two pieces from the same register on
pub join_takes : (t x y : ℕ) (a b : List Coded) → Takes t x a → Takes t y b → Takes t (max x y) (a ++ b)
join_takes t x y a b h k = let e = top_append a b in by (top a) (top b) (top (a ++ b)) e h.0 h.1 k.0 k.1
  where
    by : (m n all : ℕ) → all ≡ max m n → m ≤ t + x → t + x ≤ max t m → n ≤ t + y → t + y ≤ max t n → (all ≤ t + max x y) × (t + max x y ≤ max t all)
    by m n all is p q r s = (omega arith, omega arith)

-- an instruction that finds a truth names its own registers, and the jump behind it none
pub pair_top : (w : Instruction) (ahead line : ℕ) → top ((w, line) ∷ jump_over ahead line ∷ []) ≡ one w
pair_top w ahead line =
    let a = top_more (w, line) (jump_over ahead line ∷ []) in
    let b = top_more (jump_over ahead line) [] in
    let c = ax_is Jmp (16777215 + ahead) refl in
    omega (arith, a, b, c)

-- lists

pub nils_take : (wanted : Wanted) (above t p line : ℕ) → p ≡ t + above → t + room_of_nils above wanted ≤ 255 → ListTakes t p (room_of_nils above wanted) (nils_code wanted p line)
nils_take None above t p line is small = (omega arith, omega arith)
nils_take (Some zero) above t p line is small = (omega arith, omega arith)
nils_take (Some (suc n)) above t p line is small = let e = one_nil p n line (omega arith) (omega arith) in (omega (arith, e), omega (arith, e))

pub more_take : (t above p x r : ℕ) (first rest : List Coded) → p ≡ t + above → (1 ≤ x) ⊎ (r ≡ 0) → Takes p x first → ListTakes t (p + 1) r rest → ListTakes t p (max (above + x) r) (first ++ rest)
more_take t above p x r first rest is some h k =
    let a = top_append first rest in
    by some (top first) (top rest) (top (first ++ rest)) a h.0 h.1 k.0 k.1
  where
    by : (1 ≤ x) ⊎ (r ≡ 0) → (m n all : ℕ) → all ≡ max m n → m ≤ p + x → p + x ≤ max p m → n ≤ t + r → t + r ≤ max (p + 1) n → (all ≤ t + max (above + x) r) × (t + max (above + x) r ≤ max p all)
    by (inl here) m n all e a b c d = (omega arith, omega arith)
    by (inr nothing) m n all e a b c d = (omega arith, omega arith)

-- calls: the function and its arguments, and what they leave

pub call_takes : (t x l b c v : ℕ) (first list call : List Coded) → 1 ≤ x → Takes t x first → ListTakes t (t + 1) l list →
    top call ≡ max (t + 1) (max (t + b) (t + (c - 1))) → b ≤ max x l → c - 1 ≤ v → v ≤ max 1 (c - 1) → Takes t (max x (max l v)) (first ++ (list ++ call))
call_takes t x l b c v first list call some h k e few low high =
    let a = top_append first (list ++ call) in
    let d = top_append list call in
    by (top first) (top list) (top call) (c - 1) (top (first ++ (list ++ call))) (omega (arith, a, d)) h.0 h.1 k.0 k.1 e low high
  where
    by : (m n o i all : ℕ) → all ≡ max m (max n o) → m ≤ t + x → t + x ≤ max t m → n ≤ t + l → t + l ≤ max (t + 1) n → o ≡ max (t + 1) (max (t + b) (t + i)) → i ≤ v → v ≤ max 1 i →
        (all ≤ t + max x (max l v)) × (t + max x (max l v) ≤ max t all)
    by m n o i all is p q r s o_is i_low i_high = (omega arith, omega arith)

-- the parts of a method's call, each below the whole. These are lemmas of their own, since the cases of `max` multiply

wide : (x z l v : ℕ) → (x ≤ max x (max (max z l) v)) × ((z ≤ max x (max (max z l) v)) × ((l ≤ max x (max (max z l) v)) × (v ≤ max x (max (max z l) v))))
wide x z l v = (omega arith, (omega arith, (omega arith, omega arith)))

method_parts : (m z n o all : ℕ) → all ≡ max m (max z (max n o)) → (m ≤ all) × ((z ≤ all) × ((n ≤ all) × (o ≤ all)))
method_parts m z n o all is = (omega arith, (omega arith, (omega arith, omega arith)))

call_parts : (t b i o : ℕ) → o ≡ max (t + 1) (max (t + b) (t + i)) → (t + 1 ≤ o) × ((t + b ≤ o) × (t + i ≤ o))
call_parts t b i o is = (omega arith, (omega arith, omega arith))

call_below : (t b i o w : ℕ) → o ≡ max (t + 1) (max (t + b) (t + i)) → 1 ≤ w → b ≤ w → i ≤ w → o ≤ t + w
call_below t b i o w is one left right = omega arith

parts_below : (m z n o all w : ℕ) → all ≡ max m (max z (max n o)) → m ≤ w → z ≤ w → n ≤ w → o ≤ w → all ≤ w
parts_below m z n o all w is a b c d = omega arith

all_below : (t x z l v w : ℕ) → t + x ≤ w → t + z ≤ w → t + l ≤ w → t + v ≤ w → t + max x (max (max z l) v) ≤ w
all_below t x z l v w a b c d = omega arith

up : (m t x w : ℕ) → m ≤ t + x → x ≤ w → m ≤ t + w
up m t x w h le = omega arith

through : (a b c : ℕ) → a ≤ b → b ≤ c → a ≤ c
through a b c h le = omega arith

under_either : (b l z w : ℕ) → b ≤ max 2 l → 2 ≤ z → z ≤ w → l ≤ w → b ≤ w
under_either b l z w h two le less = omega arith

reaches : (t x z m all : ℕ) → t + x ≤ max (t + 2) m → m ≤ all → t + z ≤ all → 2 ≤ z → t + x ≤ all
reaches t x z m all h le less two = omega arith

value_reaches : (t v i o all : ℕ) → v ≤ max 1 i → t + 1 ≤ o → t + i ≤ o → o ≤ all → t + v ≤ all
value_reaches t v i o all h one le less = omega arith

same_le : (n : ℕ) → n ≤ n
same_le n = omega arith

below_either : (y t all : ℕ) → y ≤ all → y ≤ max t all
below_either y t all h = omega arith

method_top : (m y n o one two all z : ℕ) → y ≡ z → all ≡ max m two → two ≡ max y one → one ≡ max n o → all ≡ max m (max z (max n o))
method_top m y n o one two all z e a b c = a ∙ ap (max m) (b ∙ ap₂ max e c)

method_whole : (t x z l b v m n o i all : ℕ) → 1 ≤ x → 2 ≤ z → all ≡ max m (max (t + z) (max n o)) → m ≤ t + x → t + x ≤ max (t + 2) m → n ≤ t + l → t + l ≤ max (t + 2) n
    → o ≡ max (t + 1) (max (t + b) (t + i)) → b ≤ max 2 l → i ≤ v → v ≤ max 1 i → (all ≤ t + max x (max (max z l) v)) × (t + max x (max (max z l) v) ≤ max t all)
method_whole t x z l b v m n o i all some two is m_low m_high n_low n_high o_is few low high =
    let w = max x (max (max z l) v) in
    let h = wide x z l v in
    let k = method_parts m (t + z) n o all is in
    let c = call_parts t b i o o_is in
    let call = call_below t b i o w o_is (through 1 x w some h.0) (under_either b l z w few two h.1.0 h.1.1.0) (through i v w low h.1.1.1) in (
      parts_below m (t + z) n o all (t + w) is (up m t x w m_low h.0) (up (t + z) t z w (same_le (t + z)) h.1.0) (up n t l w n_low h.1.1.0) call,
      below_either (t + w) t all (all_below t x z l v all (reaches t x z m all m_high k.0 k.1.0 two) k.1.0 (reaches t l z n all n_high k.1.1.0 k.1.0 two) (value_reaches t v i o all high c.0 c.1.1 k.1.1.1)),
    )

-- where the object stays in its register, its code is empty
pub method_takes : (t x z l b c v : ℕ) (first named list call : List Coded) → 1 ≤ x → 2 ≤ z → (top first ≤ t + x) × (t + x ≤ max (t + 2) (top first)) → top named ≡ t + z → ListTakes t (t + 2) l list →
    top call ≡ max (t + 1) (max (t + b) (t + (c - 1))) → b ≤ max 2 l → c - 1 ≤ v → v ≤ max 1 (c - 1) → Takes t (max x (max (max z l) v)) (first ++ (named ++ (list ++ call)))
method_takes t x z l b c v first named list call some two h named_is k e few low high =
    let a = top_append first (named ++ (list ++ call)) in
    let d = top_append named (list ++ call) in
    let g = top_append list call in
    method_whole t x z l b v (top first) (top list) (top call) (c - 1) (top (first ++ (named ++ (list ++ call)))) some two (method_top (top first) (top named) (top list) (top call) _ _ _ (t + z) named_is a d g) h.0 h.1 k.0 k.1 e few low high

-- a constructor's item is stored

set_by : (t b items line : ℕ) (near : Bool) → t < 2 ^ 8 → b < 2 ^ 8 →
    top (cond near (with_abc SetList t b items line ∷ []) ((abc SetList t b (items % 256) true, line) ∷ (op_ax ExtraArg (items / 256), line) ∷ [])) ≡ t + b + 1
set_by t b items line true t_fits b_fits = one_sum SetList t b items false refl t_fits b_fits
set_by t b items line false t_fits b_fits =
    let extra : Coded = (op_ax ExtraArg (items / 256), line) in
    let a = top_more (abc SetList t b (items % 256) true, line) (extra ∷ []) in
    let d = one_sum SetList t b (items % 256) true refl t_fits b_fits in
    let e = ax_is ExtraArg (items / 256) refl in
    omega (arith, a, d, e)

pub set_top : (t b items line : ℕ) → t < 2 ^ 8 → b < 2 ^ 8 → top (set_list t b items line) ≡ t + b + 1
set_top t b items line t_fits b_fits = set_by t b items line (nat_lt items 256) t_fits b_fits
