-- Comparisons between two operands, which the world settles.
use Rattle.std.proofs.Common.{◌≡◌, ℕ, ◌+◌, ◌<◌, ◌^◌, pos, ◌-ℤ◌, arith, Bool, true, false, cond, not, List, [], ◌∷◌, ◌++◌, length, Some, None, refl, ap, ap₂, ◌∙◌}
use borrow.Author.Tests.{lt-ltb}
use Rattle.int_core.specs.Value.{Value, known, boolean, integer, nth, shape, holds, same_truth}
use Rattle.int_core.specs.Operations.{Operation, equal, less, less_equal}
use Rattle.int_core.specs.Ask.{operates, Captured, Reply, values, faulted, left, goes_on}
use Rattle.tree_core.specs.declared.operator.BinOp.{BinOp}
use Rattle.tree_core.specs.declared.operator.BinOp.TheVariants.{Eq as Equal, Ne, Lt as Less, Le as AtMost, Gt, Ge}
use Rattle.tree_core.specs.Tree.{Exp}
use Rattle.tree_activation.specs.Work.{Work}
use Rattle.tree_activation.specs.Work as tree
use Rattle.tree_activation.specs.Expressions.{binary, truth_of}
use Rattle.code_core.specs.declared.opcode.Opcode.{Opcode}
use Rattle.code_core.specs.declared.opcode.Opcode.TheVariants.{LFalseSkip, Eq, Lt, Le, EqK}
use Rattle.code_core.specs.declared.instruction.Instruction.{Instruction}
use Rattle.code_core.specs.declared.proto.Const.{Const}
use Rattle.code_core.specs.Instruction.{abc, opcode_of, a_of, b_of, sb_of}
use Rattle.code_core.specs.Prototype.{Prototype}
use Rattle.code_core.specs.Check.{at}
use Rattle.code_core.proofs.FieldLemmas.{opcode_of-abc, a_of-abc, b_of-abc}
use Rattle.machine_core.specs.World.{for_value, for_truth}
use Rattle.machine_core.specs.World as world
use Rattle.machine_core.specs.Text.{read, written, Text, see, read_register, write_register, own, trap}
use Rattle.machine_core.specs.InstructionRows.{row_of, rest_at, rest_by, compares, with_number, tested, then, skip, told_values}
use Rattle.machine_core.specs.Talk.{before, talk, talk_step, says_so, heard}
use Rattle.code_of.specs.Coded.{Coded}
use Rattle.code_of.specs.Operators.{operator_code, number_code, number_opcode, truth_code}
use Rattle.code_of.specs.Truths.{pick, compared, is_compared}
use Rattle.code_of.specs.ConstantOperands.{constant_by}
use Rattle.code_of.specs.Operations.{constant_code}
use Rattle.exp_laws.proofs.Steps.{row_step, own_step, put_on, put_step}
use Rattle.code_of.proofs.Fields.{k_of-abc}

pub record Comparison (op : BinOp) : Type 0 where
  pub opcode : Opcode
  pub operation : Operation
  pub wanted : Bool
  pub swapped : Bool
  pub emits : (x y t line : ℕ) → operator_code op x y t line ≡ truth_code opcode (pick swapped x y) (pick swapped y x) wanted t line
  pub emits_number : (x n t line : ℕ) → number_code op x n t line ≡ truth_code (number_opcode op) x (n + 127) wanted t line
  pub emits_constant : (d : Exp) (c : Const) → constant_by op d ≡ Some c → (x n t line : ℕ) → constant_code op x n t line ≡ truth_code EqK x n wanted t line
  pub equals : (d : Exp) (c : Const) → constant_by op d ≡ Some c → (operation ≡ equal) × (swapped ≡ false)
  pub tests : (other : List Coded) (by : Opcode → (swapped wanted : Bool) → List Coded) → compared op other by ≡ by opcode swapped wanted
  pub compares_so : is_compared op ≡ true
  pub row : (p : Prototype) (pc : ℕ) (w : Instruction) → row_of p pc opcode w ≡ own (read_register (a_of w)) (λ x _. own (read_register (b_of w)) (λ y _. compares operation (read x) (read y) w))
  pub row_of_number : (p : Prototype) (pc : ℕ) (w : Instruction) → row_of p pc (number_opcode op) w ≡ own (read_register (a_of w)) (λ x _. compares operation (pick swapped (read x) (with_number w)) (pick swapped (with_number w) (read x)) w)
  pub means : (line : ℕ) (v w : Value) (a : tree.Activation) (k : List Work) → binary op line v w a k ≡ truth_of operation wanted (pick swapped v w) (pick swapped w v) line a k

pub comparison_by : (op : BinOp) → is_compared op ≡ true → Comparison op
comparison_by Equal h = record { opcode = Eq; operation = equal; wanted = true; swapped = false; emits = λ x y t line. refl; emits_number = λ x n t line. refl; emits_constant = λ d c is x n t line. refl; equals = λ d c is. (refl, refl); tests = λ other by. refl; compares_so = refl; row = λ p pc w. refl; row_of_number = λ p pc w. refl; means = λ line v w a k. refl }
comparison_by Ne h = record { opcode = Eq; operation = equal; wanted = false; swapped = false; emits = λ x y t line. refl; emits_number = λ x n t line. refl; emits_constant = λ d c is x n t line. refl; equals = λ d c is. (refl, refl); tests = λ other by. refl; compares_so = refl; row = λ p pc w. refl; row_of_number = λ p pc w. refl; means = λ line v w a k. refl }
comparison_by Less h = record { opcode = Lt; operation = less; wanted = true; swapped = false; emits = λ x y t line. refl; emits_number = λ x n t line. refl; emits_constant = λ d c is. absurd (cc); equals = λ d c is. absurd (cc); tests = λ other by. refl; compares_so = refl; row = λ p pc w. refl; row_of_number = λ p pc w. refl; means = λ line v w a k. refl }
comparison_by AtMost h = record { opcode = Le; operation = less_equal; wanted = true; swapped = false; emits = λ x y t line. refl; emits_number = λ x n t line. refl; emits_constant = λ d c is. absurd (cc); equals = λ d c is. absurd (cc); tests = λ other by. refl; compares_so = refl; row = λ p pc w. refl; row_of_number = λ p pc w. refl; means = λ line v w a k. refl }
comparison_by Gt h = record { opcode = Lt; operation = less; wanted = true; swapped = true; emits = λ x y t line. refl; emits_number = λ x n t line. refl; emits_constant = λ d c is. absurd (cc); equals = λ d c is. absurd (cc); tests = λ other by. refl; compares_so = refl; row = λ p pc w. refl; row_of_number = λ p pc w. refl; means = λ line v w a k. refl }
comparison_by Ge h = record { opcode = Le; operation = less_equal; wanted = true; swapped = true; emits = λ x y t line. refl; emits_number = λ x n t line. refl; emits_constant = λ d c is. absurd (cc); equals = λ d c is. absurd (cc); tests = λ other by. refl; compares_so = refl; row = λ p pc w. refl; row_of_number = λ p pc w. refl; means = λ line v w a k. refl }
comparison_by _ h = absurd (cc)

pub told_truth : (reply : Reply) → told_values for_truth reply ≡ told_values for_value reply
told_truth (values vs) = refl
told_truth (faulted words) = refl
told_truth (left e) = refl

pub truth_same : (h k : Bool) → same_truth h k ≡ cond k h (not h)
truth_same true true = refl
truth_same true false = refl
truth_same false true = refl
truth_same false false = refl

-- a numeral is 127 less than its field
pub numeral_back : (n : ℕ) → pos (n + 127) -ℤ pos 127 ≡ pos n
numeral_back n = grind arith

module _ (p : Prototype) where
  pub compare_step : (op : Opcode) (operation : Operation) (x y : ℕ) (k : Bool) (a : world.Activation) (c : Captured) → at p a.pc ≡ Some (abc op x y 0 k)
      → ((w : Instruction) → row_of p a.pc op w ≡ own (read_register (a_of w)) (λ x _. own (read_register (b_of w)) (λ y _. compares operation (read x) (read y) w)))
      → x < 2 ^ 8 → y < 2 ^ 8 → x < length a.registers → y < length a.registers
      → talk_step p (before a c) ≡ says_so (operates operation (nth a.registers x ∷ nth a.registers y ∷ [])) p a c (λ z b d. heard for_truth p z b d)
  compare_step op operation x y k a c here row x_fits y_fits x_room y_room =
      let w = abc op x y 0 k in
      row_step p w op (own (read_register x) (λ u _. own (read_register y) (λ v _. compares operation (read u) (read v) w))) a c here (opcode_of-abc op x y 0 k)
      (row w ∙ ap₂ (λ d b. own (read_register d) (λ u _. own (read_register b) (λ v _. compares operation (read u) (read v) w))) (a_of-abc op x y 0 k x_fits) (b_of-abc op x y 0 k x_fits y_fits))
      ∙ own_step p (read_register x) (λ u _. own (read_register y) (λ v _. compares operation (read u) (read v) w)) [] a c (lt-ltb x (length a.registers) x_room)
      ∙ own_step p (read_register y) (λ v _. compares operation (read 0) (read v) w) (nth a.registers x ∷ []) a c (lt-ltb y (length a.registers) y_room)

  -- EQI, LTI, LEI, GTI and GEI: the second operand is a numeral in the instruction
  pub number_step : (op : Opcode) (operation : Operation) (swapped : Bool) (x n : ℕ) (k : Bool) (a : world.Activation) (c : Captured) → at p a.pc ≡ Some (abc op x (n + 127) 0 k)
      → ((w : Instruction) → row_of p a.pc op w ≡ own (read_register (a_of w)) (λ x _. compares operation (pick swapped (read x) (with_number w)) (pick swapped (with_number w) (read x)) w))
      → x < 2 ^ 8 → n + 127 < 2 ^ 8 → x < length a.registers
      → talk_step p (before a c) ≡ says_so (operates operation (pick swapped (nth a.registers x) (known (integer (pos n))) ∷ pick swapped (known (integer (pos n))) (nth a.registers x) ∷ [])) p a c (λ z b d. heard for_truth p z b d)
  number_step op operation swapped x n k a c here row x_fits n_fits room =
      let w = abc op x (n + 127) 0 k in
      let number = written (integer (pos n)) in
      let field : sb_of w ≡ pos n = ap (λ b. pos b -ℤ pos 127) (b_of-abc op x (n + 127) 0 k x_fits n_fits) ∙ numeral_back n in
      row_step p w op (own (read_register x) (λ u _. compares operation (pick swapped (read u) number) (pick swapped number (read u)) w)) a c here (opcode_of-abc op x (n + 127) 0 k)
      (row w ∙ ap₂ (λ d z. own (read_register d) (λ u _. compares operation (pick swapped (read u) (written (integer z))) (pick swapped (written (integer z)) (read u)) w)) (a_of-abc op x (n + 127) 0 k x_fits) field)
      ∙ own_step p (read_register x) (λ u _. compares operation (pick swapped (read u) number) (pick swapped number (read u)) w) [] a c (lt-ltb x (length a.registers) room)
      ∙ asked swapped
    where
      asked : (b : Bool) → talk p (compares operation (pick b (read 0) (written (integer (pos n)))) (pick b (written (integer (pos n))) (read 0)) (abc op x (n + 127) 0 k)) (nth a.registers x ∷ []) a c
          ≡ says_so (operates operation (pick b (nth a.registers x) (known (integer (pos n))) ∷ pick b (known (integer (pos n))) (nth a.registers x) ∷ [])) p a c (λ z b d. heard for_truth p z b d)
      asked true = refl
      asked false = refl

  -- its answer decides
  pub compare_rest : (op : Opcode) (x y : ℕ) (k : Bool) (ws : List Value) (a : world.Activation) (c : Captured) → at p a.pc ≡ Some (abc op x y 0 k) → x < 2 ^ 8
      → talk p (rest_at {V = Value} for_truth p a.pc) ws a c ≡ talk p (tested (holds (shape (nth ws 0))) k) (ws ++ []) a c
  compare_rest op x y k ws a c here fits =
      ap (λ t. talk p t ws a c)
      (ap (λ o. elim o as (λ _. Text) [ None ↦ trap | Some i ↦ rest_by {V = Value} for_truth p a.pc i (opcode_of i) ]) here
      ∙ ap (rest_by {V = Value} for_truth p a.pc (abc op x y 0 k)) (opcode_of-abc op x y 0 k)
      ∙ ap (λ b. own (see (read 0)) (λ _ s. tested (holds s) b)) (k_of-abc op x y 0 k fits))
      ∙ own_step p (see (read 0)) (λ _ s. tested (holds s) k) ws a c refl

  pub skip_step : (t : ℕ) (w : Instruction) (a : world.Activation) (c : Captured) → at p a.pc ≡ Some (abc LFalseSkip t 0 0 false) → t < 2 ^ 8 → t < length a.registers → at p (a.pc + 2) ≡ Some w
      → talk_step p (before a c) ≡ goes_on (before (put_on p a t (known (boolean false)) 2) c)
  skip_step t w a c here fits room there =
      row_step p (abc LFalseSkip t 0 0 false) LFalseSkip (then (write_register t (written (boolean false))) skip) a c here (opcode_of-abc LFalseSkip t 0 0 false)
      (ap (λ d. then (write_register d (written (boolean false))) skip) (a_of-abc LFalseSkip t 0 0 false fits))
      ∙ put_step p t 2 (written (boolean false)) w [] a c room there
