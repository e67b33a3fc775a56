-- What the machine does at the instructions of a numeric `for`, as one equation each.
use Rattle.std.proofs.Common.{◌≡◌, ℕ, ◌+◌, ◌<◌, ◌^◌, ℤ, pos, negsuc, [], ◌∷◌, ◌++◌, List, length, Option, Some, refl, ap₂, ◌∙◌, arith}
use borrow.Author.Tests.{lt-ltb}
use Rattle.int_core.specs.Value.{Value, known, integer, primitive, nth, shape, write}
use Rattle.int_core.specs.Ask.{Captured, goes_on}
use Rattle.tree_activation.specs.Expressions.{integer_in}
use Rattle.tree_activation.specs.Statements.{goes_on_from}
use Rattle.code_core.specs.declared.opcode.Opcode.{Opcode}
use Rattle.code_core.specs.declared.opcode.Opcode.TheVariants.{ForPrep, ForLoop}
use Rattle.code_core.specs.declared.instruction.Instruction.{Instruction}
use Rattle.code_core.specs.Instruction.{abx, a_of, bx_of}
use Rattle.code_core.specs.Prototype.{Prototype}
use Rattle.code_core.specs.Check.{at}
use Rattle.code_core.proofs.FieldLemmas.{opcode_of-abx, a_of-abx, bx_of-abx}
use Rattle.machine_core.specs.World.{Activation}
use Rattle.machine_core.specs.Text.{Text, written, read_register, write_register, own}
use Rattle.machine_core.specs.InstructionRows.{next, back, row_of, integer_of_shape, with_loop, prepares, goes_round, writes_integer, runs}
use Rattle.machine_core.specs.Talk.{before, talk, talk_step}
use Rattle.list_laws.proofs.Values.{write_more}
use Rattle.exp_laws.proofs.Steps.{row_step, own_step, go_step}

pub integer_is : (v : Value) (z : ℤ) → integer_in (shape v) ≡ Some z → v ≡ known (integer z)
integer_is (known (integer y)) z e = cc
integer_is _ z e = absurd (cc)

pub same_shape : (v : Value) → integer_of_shape (shape v) ≡ integer_in (shape v)
same_shape (known (primitive n)) = refl
same_shape _ = refl

pub runs_same : (from limit step : ℤ) → runs from limit step ≡ goes_on_from from limit step
runs_same from limit (pos step) = refl
runs_same from limit (negsuc step) = refl

-- the three registers, as they are read
abbrev pub three : ℕ → List Value → List Value
three t regs = nth regs t ∷ nth regs (t + 1) ∷ nth regs (t + 2) ∷ []

abbrev pub loop_text : (t : ℕ) → List Value → (Option ℤ → Option ℤ → Option ℤ → Text) → Text
loop_text t regs k = k (integer_of_shape (shape (nth regs t))) (integer_of_shape (shape (nth regs (t + 1)))) (integer_of_shape (shape (nth regs (t + 2))))

-- at the first round the count and the variable are written
abbrev pub begun : (t : ℕ) → (rounds from : ℤ) → List Value → List Value
begun t rounds from regs = write (t + 3) (known (integer from)) (write (t + 1) (known (integer rounds)) regs)

-- at a further round the index is written besides
abbrev pub turned : (t : ℕ) → (rounds from : ℤ) → List Value → List Value
turned t rounds from regs = write (t + 3) (known (integer from)) (write t (known (integer from)) (write (t + 1) (known (integer rounds)) regs))

module _ (p : Prototype) where
  loop_read : (t : ℕ) (k : Option ℤ → Option ℤ → Option ℤ → Text) (a : Activation) (c : Captured) → t + 2 < length a.registers → talk p (with_loop t k) [] a c ≡ talk p (loop_text t a.registers k) (three t a.registers) a c
  loop_read t k a c room =
      own_step p (read_register t) (λ _ i. own (read_register (t + 1)) (λ _ l. own (read_register (t + 2)) (λ _ d. k (integer_of_shape i) (integer_of_shape l) (integer_of_shape d)))) [] a c (lt-ltb t (length a.registers) (omega arith))
      ∙ own_step p (read_register (t + 1)) (λ _ l. own (read_register (t + 2)) (λ _ d. k (integer_of_shape (shape (nth a.registers t))) (integer_of_shape l) (integer_of_shape d))) (nth a.registers t ∷ []) a c (lt-ltb (t + 1) (length a.registers) (omega arith))
      ∙ own_step p (read_register (t + 2)) (λ _ d. k (integer_of_shape (shape (nth a.registers t))) (integer_of_shape (shape (nth a.registers (t + 1)))) (integer_of_shape d)) (nth a.registers t ∷ nth a.registers (t + 1) ∷ []) a c (lt-ltb (t + 2) (length a.registers) room)

  -- an opcode whose row reads the three registers
  loop_step : (op : Opcode) (rest : ℕ → ℕ → Option ℤ → Option ℤ → Option ℤ → Text) → ((pc : ℕ) (w : Instruction) → row_of p pc op w ≡ with_loop (a_of w) (rest (a_of w) (bx_of w)))
      → (t bx : ℕ) (a : Activation) (c : Captured) → at p a.pc ≡ Some (abx op t bx) → t < 2 ^ 8 → bx < 2 ^ 17 → t + 2 < length a.registers
      → talk_step p (before a c) ≡ talk p (loop_text t a.registers (rest t bx)) (three t a.registers) a c
  loop_step op rest row t bx a c here t_fits fits room =
      row_step p (abx op t bx) op (with_loop t (rest t bx)) a c here (opcode_of-abx op t bx)
      (row a.pc (abx op t bx) ∙ ap₂ (λ d b. with_loop d (rest d b)) (a_of-abx op t bx t_fits) (bx_of-abx op t bx t_fits fits))
      ∙ loop_read t (rest t bx) a c room

  pub begin_step : (t bx : ℕ) (a : Activation) (c : Captured) → at p a.pc ≡ Some (abx ForPrep t bx) → t < 2 ^ 8 → bx < 2 ^ 17 → t + 2 < length a.registers
      → talk_step p (before a c) ≡ talk p (loop_text t a.registers (prepares t bx)) (three t a.registers) a c
  begin_step t bx a c here t_fits fits room = loop_step ForPrep prepares (λ pc w. refl) t bx a c here t_fits fits room

  pub turn_step : (t bx : ℕ) (a : Activation) (c : Captured) → at p a.pc ≡ Some (abx ForLoop t bx) → t < 2 ^ 8 → bx < 2 ^ 17 → t + 2 < length a.registers
      → talk_step p (before a c) ≡ talk p (loop_text t a.registers (goes_round t bx)) (three t a.registers) a c
  turn_step t bx a c here t_fits fits room = loop_step ForLoop goes_round (λ pc w. refl) t bx a c here t_fits fits room

  put_integer : (r : ℕ) (z : ℤ) (x : Text) (slots : List Value) (a : Activation) (c : Captured) → r < length a.registers
      → talk p (writes_integer r z x) slots a c ≡ talk p x (slots ++ []) (record a { registers = write r (known (integer z)) a.registers }) c
  put_integer r z x slots a c room = own_step p (write_register r (written (integer z))) (λ _ _. x) slots a c (lt-ltb r (length a.registers) room)

  pub begun_step : (t : ℕ) (rounds from : ℤ) (slots : List Value) (w : Instruction) (a : Activation) (c : Captured) → t + 3 < length a.registers → at p (a.pc + 1) ≡ Some w
      → talk p (writes_integer (t + 1) rounds (writes_integer (t + 3) from next)) slots a c ≡ goes_on (before (record a { pc = a.pc + 1; registers = begun t rounds from a.registers }) c)
  begun_step t rounds from slots w a c room there =
      let regs1 = write (t + 1) (known (integer rounds)) a.registers in
      let more = write_more (t + 1) (known (integer rounds)) a.registers in
      put_integer (t + 1) rounds (writes_integer (t + 3) from next) slots a c (omega arith)
      ∙ put_integer (t + 3) from next (slots ++ []) (record a { registers = regs1 }) c (omega (arith, more))
      ∙ go_step p 1 w ((slots ++ []) ++ []) (record a { registers = begun t rounds from a.registers }) c there

  pub turned_step : (t bx : ℕ) (rounds from : ℤ) (slots : List Value) (a : Activation) (c : Captured) → t + 3 < length a.registers
      → talk p (writes_integer (t + 1) rounds (writes_integer t from (writes_integer (t + 3) from (back bx)))) slots a c
      ≡ talk p (back bx) (((slots ++ []) ++ []) ++ []) (record a { registers = turned t rounds from a.registers }) c
  turned_step t bx rounds from slots a c room =
      let regs1 = write (t + 1) (known (integer rounds)) a.registers in
      let regs2 = write t (known (integer from)) regs1 in
      let more = write_more (t + 1) (known (integer rounds)) a.registers in
      let still = write_more t (known (integer from)) regs1 in
      put_integer (t + 1) rounds (writes_integer t from (writes_integer (t + 3) from (back bx))) slots a c (omega arith)
      ∙ put_integer t from (writes_integer (t + 3) from (back bx)) (slots ++ []) (record a { registers = regs1 }) c (omega (arith, more))
      ∙ put_integer (t + 3) from (back bx) ((slots ++ []) ++ []) (record a { registers = regs2 }) c (omega (arith, more, still))
