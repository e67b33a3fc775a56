-- What the machine does alone at some instructions, as one equation each.
use Rattle.std.proofs.Common.{◌≡◌, ℕ, zero, suc, lit<, ◌+◌, ◌<◌, ◌^◌, Bool, true, false, cond, not, pos, List, [], ◌∷◌, ◌++◌, length, slice_get, Some, None, ⊎_elim, refl, sym, ap, ap₂, ◌∙◌, arith}
use borrow.Author.Tests.{lt-ltb}
use Rattle.int_core.specs.Value.{Value, Shape, known, boolean, integer, nth, write, shape, holds, bind}
use Rattle.int_core.specs.Operations.{Event, index, concat}
use Rattle.int_core.specs.Ask.{reads_upvalue, operates, values_in, Captured, Next, goes_on, stuck}
use Rattle.code_core.specs.declared.opcode.Opcode.{Opcode}
use Rattle.code_core.specs.declared.opcode.Opcode.TheVariants.{Move, LoadFalse, LoadTrue, Not, GetTable, GetI, GetField, GetUpval, GetTabUp, Concat}
use Rattle.code_core.specs.declared.instruction.Instruction.{Instruction}
use Rattle.code_core.specs.declared.proto.Const.{Const}
use Rattle.std.proofs.lemmas.Option.{slice_get_cases}
use Rattle.code_core.specs.Instruction.{abc, opcode_of, a_of}
use Rattle.code_core.specs.Prototype.{Prototype}
use Rattle.code_core.specs.Check.{at}
use Rattle.code_core.proofs.FieldLemmas.{opcode_of-abc, a_of-abc, b_of-abc, c_of-abc}
use Rattle.machine_core.specs.World.{Activation, for_value, for_concat}
use Rattle.machine_core.specs.Text.{Arg, read, written, Own, read_register, read_constant, constant, write_register, arg, reads, tells, effect, fits, Text, go_by, own, quick, operate, read_upvalue, trap}
use Rattle.machine_core.specs.InstructionRows.{next, joins, then, to_register, gets, spelled, rest, rest_by, rest_at, row_of, text_by, text_at, fast, integer_of_shape, with_register}
use Rattle.machine_core.specs.Moves.{place_from}
use Rattle.machine_core.specs.Talk.{State, before, amid, talk, talk_step, says_so, heard, captured_after}

pub found_below : (cs : List Const) (i : ℕ) (x : Const) → slice_get cs i ≡ Some x → i < length cs
found_below cs i x e = ⊎_elim (λ h. h.1) (λ h. let no : None ≡ Some x = sym h.1 ∙ e in absurd (cc)) (slice_get_cases cs i).1

-- the field that a constant names, of the table that was read
abbrev pub key_text : (number t : ℕ) → Text
key_text number t = own (read_constant number) (λ key _. gets (read 0) (read key) [] t)

module _ (p : Prototype) where
  text_here : (pc : ℕ) (w : Instruction) (op : Opcode) → at p pc ≡ Some w → opcode_of w ≡ Some op → text_at p pc ≡ row_of p pc op w
  text_here pc w op here is =
      ap (λ o. elim o as (λ _. Text) [ None ↦ trap | Some i ↦ text_by p pc i (opcode_of i) ]) here ∙ ap (text_by p pc w) is

  pub row_step : (w : Instruction) (op : Opcode) (t : Text) (a : Activation) (c : Captured) → at p a.pc ≡ Some w → opcode_of w ≡ Some op → row_of p a.pc op w ≡ t → talk_step p (before a c) ≡ talk p t [] a c
  row_step w op t a c here is same = ap (λ x. talk p x [] a c) (text_here a.pc w op here is ∙ same)

  pub own_step : (m : Own) (k : ℕ → Shape → Text) (env : List Value) (a : Activation) (c : Captured) → fits m p a ≡ true
      → talk p (own m k) env a c ≡ talk p (k (length env) (tells m p env a)) (env ++ reads m p env a) (effect m p env a) (captured_after m a c)
  own_step m k env a c f = ap (λ b. cond b (talk p (k (length env) (tells m p env a)) (env ++ reads m p env a) (effect m p env a) (captured_after m a c)) stuck) f

  place_on : (pc n : ℕ) → place_from pc (pos n) ≡ Some (pc + n)
  place_on pc n = refl

  pub go_step : (n : ℕ) (w : Instruction) (env : List Value) (a : Activation) (c : Captured) → at p (a.pc + n) ≡ Some w
      → talk p (go_by (pos n)) env a c ≡ goes_on (before (record a { pc = a.pc + n }) c)
  go_step n w env a c there =
      ap (λ o. elim (bind o (λ pc. bind (at p pc) (λ _. Some pc))) as (λ _. Next Prototype State) [ None ↦ stuck | Some pc ↦ goes_on (before (record a { pc = pc }) c) ]) (place_on a.pc n)
      ∙ ap (λ o. elim (bind o (λ _. Some (a.pc + n))) as (λ _. Next Prototype State) [ None ↦ stuck | Some pc ↦ goes_on (before (record a { pc = pc }) c) ]) there

  -- the activation after a value went to a register, n places on
  abbrev pub put_on : Activation → (t : ℕ) → Value → (n : ℕ) → Activation
  put_on a t v n = record a { registers = write t v a.registers; pc = a.pc + n }

  pub put_step : (t n : ℕ) (x : Arg) (w : Instruction) (env : List Value) (a : Activation) (c : Captured) → t < length a.registers → at p (a.pc + n) ≡ Some w
      → talk p (then (write_register t x) (go_by (pos n))) env a c ≡ goes_on (before (put_on a t (arg env x) n) c)
  put_step t n x w env a c room there =
      own_step (write_register t x) (λ _ _. go_by (pos n)) env a c (lt-ltb t (length a.registers) room)
      ∙ go_step n w (env ++ []) (record a { registers = write t (arg env x) a.registers }) c there

  pub to_register_step : (t : ℕ) (x : Arg) (w : Instruction) (env : List Value) (a : Activation) (c : Captured) → t < length a.registers → at p (a.pc + 1) ≡ Some w
      → talk p (to_register t x) env a c ≡ goes_on (before (put_on a t (arg env x) 1) c)
  to_register_step t x w env a c room there = put_step t 1 x w env a c room there

  module _ (a : Activation) (c : Captured) (w : Instruction) (there : at p (a.pc + 1) ≡ Some w) where
    pub move_step : (t n : ℕ) → at p a.pc ≡ Some (abc Move t n 0 false) → t < 2 ^ 8 → n < 2 ^ 8 → n < length a.registers → t < length a.registers
        → talk_step p (before a c) ≡ goes_on (before (put_on a t (nth a.registers n) 1) c)
    move_step t n here t_fits n_fits n_room t_room =
        row_step (abc Move t n 0 false) Move (own (read_register n) (λ v _. to_register t (read v))) a c here (opcode_of-abc Move t n 0 false)
        (ap₂ (λ b d. own (read_register b) (λ v _. to_register d (read v))) (b_of-abc Move t n 0 false t_fits n_fits) (a_of-abc Move t n 0 false t_fits))
        ∙ own_step (read_register n) (λ v _. to_register t (read v)) [] a c (lt-ltb n (length a.registers) n_room)
        ∙ to_register_step t (read 0) w (nth a.registers n ∷ []) a c t_room there

    -- a truth is loaded, at an opcode whose row does so
    truth_step : (op : Opcode) (b : Bool) → ((v : Instruction) → row_of p a.pc op v ≡ to_register (a_of v) (written (boolean b))) → (t : ℕ) → at p a.pc ≡ Some (abc op t 0 0 false) → t < 2 ^ 8 → t < length a.registers
        → talk_step p (before a c) ≡ goes_on (before (put_on a t (known (boolean b)) 1) c)
    truth_step op b row t here t_fits t_room =
        row_step (abc op t 0 0 false) op (to_register t (written (boolean b))) a c here (opcode_of-abc op t 0 0 false)
        (row (abc op t 0 0 false) ∙ ap (λ d. to_register d (written (boolean b))) (a_of-abc op t 0 0 false t_fits))
        ∙ to_register_step t (written (boolean b)) w [] a c t_room there

    pub true_step : (t : ℕ) → at p a.pc ≡ Some (abc LoadTrue t 0 0 false) → t < 2 ^ 8 → t < length a.registers
        → talk_step p (before a c) ≡ goes_on (before (put_on a t (known (boolean true)) 1) c)
    true_step t here t_fits t_room = truth_step LoadTrue true (λ v. refl) t here t_fits t_room

    pub false_step : (t : ℕ) → at p a.pc ≡ Some (abc LoadFalse t 0 0 false) → t < 2 ^ 8 → t < length a.registers
        → talk_step p (before a c) ≡ goes_on (before (put_on a t (known (boolean false)) 1) c)
    false_step t here t_fits t_room = truth_step LoadFalse false (λ v. refl) t here t_fits t_room

    pub not_step : (t x : ℕ) → at p a.pc ≡ Some (abc Not t x 0 false) → t < 2 ^ 8 → x < 2 ^ 8 → x < length a.registers → t < length a.registers
        → talk_step p (before a c) ≡ goes_on (before (put_on a t (known (boolean (not (holds (shape (nth a.registers x)))))) 1) c)
    not_step t x here t_fits x_fits x_room t_room =
        row_step (abc Not t x 0 false) Not (own (read_register x) (λ _ s. to_register t (written (boolean (not (holds s)))))) a c here (opcode_of-abc Not t x 0 false)
        (ap₂ (λ b d. own (read_register b) (λ _ s. to_register d (written (boolean (not (holds s)))))) (b_of-abc Not t x 0 false t_fits x_fits) (a_of-abc Not t x 0 false t_fits))
        ∙ own_step (read_register x) (λ _ s. to_register t (written (boolean (not (holds s))))) [] a c (lt-ltb x (length a.registers) x_room)
        ∙ to_register_step t (written (boolean (not (holds (shape (nth a.registers x)))))) w (nth a.registers x ∷ []) a c t_room there

  -- arithmetic on the registers x and y has read both
  pub operands_step : (op : Opcode) (event : Event) (t x y : ℕ) (a : Activation) (c : Captured) → at p a.pc ≡ Some (abc op t x y false)
      → ((w : Instruction) → row_of p a.pc op w ≡ with_register event w) → t < 2 ^ 8 → x < 2 ^ 8 → y < 2 ^ 8 → x < length a.registers → y < length a.registers
      → talk_step p (before a c) ≡ talk p (fast event t (integer_of_shape (shape (nth a.registers x))) (integer_of_shape (shape (nth a.registers y)))) (nth a.registers x ∷ nth a.registers y ∷ []) a c
  operands_step op event t x y a c here row t_fits x_fits y_fits x_room y_room =
      let w = abc op t x y false in
      let second = λ (s : Shape). own (read_register y) (λ _ u. fast event t (integer_of_shape s) (integer_of_shape u)) in
      row_step w op (own (read_register x) (λ _ s. own (read_register y) (λ _ u. fast event t (integer_of_shape s) (integer_of_shape u)))) a c here (opcode_of-abc op t x y false)
      (row w
      ∙ ap₂ (λ b d. own (read_register b) (λ _ s. own (read_register d) (λ _ u. fast event (a_of w) (integer_of_shape s) (integer_of_shape u)))) (b_of-abc op t x y false t_fits x_fits) (c_of-abc op t x y false t_fits x_fits y_fits)
      ∙ ap (λ d. own (read_register x) (λ _ s. own (read_register y) (λ _ u. fast event d (integer_of_shape s) (integer_of_shape u)))) (a_of-abc op t x y false t_fits))
      ∙ own_step (read_register x) (λ _ s. second s) [] a c (lt-ltb x (length a.registers) x_room)
      ∙ own_step (read_register y) (λ _ u. fast event t (integer_of_shape (shape (nth a.registers x))) (integer_of_shape u)) (nth a.registers x ∷ []) a c (lt-ltb y (length a.registers) y_room)

  -- reading a field of a table: the operation is asked for
  pub get_step : (t x y : ℕ) (a : Activation) (c : Captured) → at p a.pc ≡ Some (abc GetTable t x y false) → t < 2 ^ 8 → x < 2 ^ 8 → y < 2 ^ 8 → x < length a.registers → y < length a.registers
      → talk_step p (before a c) ≡ says_so (operates index (nth a.registers x ∷ nth a.registers y ∷ [])) p a c (λ z b d. heard for_value p z b d)
  get_step t x y a c here t_fits x_fits y_fits x_room y_room =
      let w = abc GetTable t x y false in
      row_step w GetTable (own (read_register x) (λ o _. own (read_register y) (λ key _. gets (read o) (read key) [] t))) a c here (opcode_of-abc GetTable t x y false)
      (ap₂ (λ b d. own (read_register b) (λ o _. own (read_register d) (λ key _. gets (read o) (read key) [] (a_of w)))) (b_of-abc GetTable t x y false t_fits x_fits) (c_of-abc GetTable t x y false t_fits x_fits y_fits)
      ∙ ap (λ d. own (read_register x) (λ o _. own (read_register y) (λ key _. gets (read o) (read key) [] d))) (a_of-abc GetTable t x y false t_fits))
      ∙ own_step (read_register x) (λ o _. own (read_register y) (λ key _. gets (read o) (read key) [] t)) [] a c (lt-ltb x (length a.registers) x_room)
      ∙ own_step (read_register y) (λ key _. gets (read 0) (read key) [] t) (nth a.registers x ∷ []) a c (lt-ltb y (length a.registers) y_room)

  -- the key is a number in the instruction
  pub get_number_step : (t x n : ℕ) (a : Activation) (c : Captured) → at p a.pc ≡ Some (abc GetI t x n false) → t < 2 ^ 8 → x < 2 ^ 8 → n < 2 ^ 8 → x < length a.registers
      → talk_step p (before a c) ≡ says_so (operates index (nth a.registers x ∷ known (integer (pos n)) ∷ [])) p a c (λ z b d. heard for_value p z b d)
  get_number_step t x n a c here t_fits x_fits n_fits room =
      let w = abc GetI t x n false in
      row_step w GetI (own (read_register x) (λ o _. gets (read o) (spelled n) [] t)) a c here (opcode_of-abc GetI t x n false)
      (ap₂ (λ b d. own (read_register b) (λ o _. gets (read o) (spelled d) [] (a_of w))) (b_of-abc GetI t x n false t_fits x_fits) (c_of-abc GetI t x n false t_fits x_fits n_fits)
      ∙ ap (λ d. own (read_register x) (λ o _. gets (read o) (spelled n) [] d)) (a_of-abc GetI t x n false t_fits))
      ∙ own_step (read_register x) (λ o _. gets (read o) (spelled n) [] t) [] a c (lt-ltb x (length a.registers) room)

  -- the key is a constant
  pub get_name_step : (t x number : ℕ) (key : Const) (a : Activation) (c : Captured) → at p a.pc ≡ Some (abc GetField t x number false) → t < 2 ^ 8 → x < 2 ^ 8 → number < 2 ^ 8 → x < length a.registers → slice_get p.own.constants number ≡ Some key
      → talk_step p (before a c) ≡ says_so (operates index (nth a.registers x ∷ known (constant key) ∷ [])) p a c (λ z b d. heard for_value p z b d)
  get_name_step t x number key a c here t_fits x_fits fits room there =
      let w = abc GetField t x number false in
      row_step w GetField (own (read_register x) (λ o _. own (read_constant number) (λ i _. gets (read o) (read i) [] t))) a c here (opcode_of-abc GetField t x number false)
      (ap₂ (λ b d. own (read_register b) (λ o _. own (read_constant d) (λ i _. gets (read o) (read i) [] (a_of w)))) (b_of-abc GetField t x number false t_fits x_fits) (c_of-abc GetField t x number false t_fits x_fits fits)
      ∙ ap (λ d. own (read_register x) (λ o _. own (read_constant number) (λ i _. gets (read o) (read i) [] d))) (a_of-abc GetField t x number false t_fits))
      ∙ own_step (read_register x) (λ o _. own (read_constant number) (λ i _. gets (read o) (read i) [] t)) [] a c (lt-ltb x (length a.registers) room)
      ∙ own_step (read_constant number) (λ i _. gets (read 0) (read i) [] t) (nth a.registers x ∷ []) a c (lt-ltb number (length p.own.constants) (found_below p.own.constants number key there))
      ∙ ap (λ o. talk p (gets (read 0) (read 1) [] t) (nth a.registers x ∷ elim o as (λ _. List Value) [ None ↦ [] | Some k ↦ known (constant k) ∷ [] ]) a c) there

  pub upvalue_step : (t u : ℕ) (a : Activation) (c : Captured) → at p a.pc ≡ Some (abc GetUpval t u 0 false) → t < 2 ^ 8 → u < 2 ^ 8
      → talk_step p (before a c) ≡ says_so (reads_upvalue u) p a c (λ x b d. amid (to_register t (read 0)) ([] ++ values_in x.reply) b d)
  upvalue_step t u a c here t_fits u_fits =
      row_step (abc GetUpval t u 0 false) GetUpval (quick (read_upvalue u) (λ v. to_register t (read v))) a c here (opcode_of-abc GetUpval t u 0 false)
      (ap₂ (λ b d. quick (read_upvalue b) (λ v. to_register d (read v))) (b_of-abc GetUpval t u 0 false t_fits u_fits) (a_of-abc GetUpval t u 0 false t_fits))

  -- what an instruction goes on with, where its value goes to its register A
  pub value_rest : (op : Opcode) (t b d pc : ℕ) (k : Bool) → at p pc ≡ Some (abc op t b d k) → t < 2 ^ 8 → rest {V = Value} for_value p pc op (abc op t b d k) ≡ to_register (a_of (abc op t b d k)) (read 0)
      → rest_at {V = Value} for_value p pc ≡ to_register t (read 0)
  value_rest op t b d pc k here fits comes =
      ap (λ o. elim o as (λ _. Text) [ None ↦ trap | Some i ↦ rest_by {V = Value} for_value p pc i (opcode_of i) ]) here
      ∙ ap (rest_by {V = Value} for_value p pc (abc op t b d k)) (opcode_of-abc op t b d k)
      ∙ comes ∙ ap (λ r. to_register r (read 0)) (a_of-abc op t b d k fits)

  -- joining two strings: the operation is asked for
  pub concat_step : (t : ℕ) (a : Activation) (c : Captured) → at p a.pc ≡ Some (abc Concat t 2 0 false) → t < 2 ^ 8 → t + 1 < length a.registers
      → talk_step p (before a c) ≡ says_so (operates concat (nth a.registers t ∷ nth a.registers (t + 1) ∷ [])) p a c (λ z b d. heard (for_concat 0) p z b d)
  concat_step t a c here fits room =
      let w = abc Concat t 2 0 false in
      let none : t + 0 ≡ t = omega arith in
      row_step w Concat (own (read_register (t + 1)) (λ v _. joins t 1 (read v))) a c here (opcode_of-abc Concat t 2 0 false)
      (ap₂ (λ b d. elim b as (λ _. Text) [ zero ↦ next | suc n ↦ own (read_register (d + n)) (λ v _. joins d n (read v)) ]) (b_of-abc Concat t 2 0 false fits (lit< tt)) (a_of-abc Concat t 2 0 false fits))
      ∙ own_step (read_register (t + 1)) (λ v _. joins t 1 (read v)) [] a c (lt-ltb (t + 1) (length a.registers) room)
      ∙ own_step (read_register (t + 0)) (λ u _. operate concat (read u ∷ read 0 ∷ []) (for_concat 0) [] (joins t 0 (read 0))) (nth a.registers (t + 1) ∷ []) a c (lt-ltb (t + 0) (length a.registers) (omega arith))
      ∙ ap (λ q. says_so (operates concat (nth a.registers q ∷ nth a.registers (t + 1) ∷ [])) p a c (λ z b d. heard (for_concat 0) p z b d)) none

  pub concat_rest : (t pc : ℕ) → at p pc ≡ Some (abc Concat t 2 0 false) → t < 2 ^ 8 → rest_at {V = Value} (for_concat 0) p pc ≡ to_register t (read 0)
  concat_rest t pc here fits =
      ap (λ o. elim o as (λ _. Text) [ None ↦ trap | Some i ↦ rest_by {V = Value} (for_concat 0) p pc i (opcode_of i) ]) here
      ∙ ap (rest_by {V = Value} (for_concat 0) p pc (abc Concat t 2 0 false)) (opcode_of-abc Concat t 2 0 false)
      ∙ ap (λ r. to_register r (read 0)) (a_of-abc Concat t 2 0 false fits)

  -- a field of an upvalue's table, by a constant: the table is asked for, and then the field
  pub table_step : (t u number : ℕ) (a : Activation) (c : Captured) → at p a.pc ≡ Some (abc GetTabUp t u number false) → t < 2 ^ 8 → u < 2 ^ 8 → number < 2 ^ 8
      → talk_step p (before a c) ≡ says_so (reads_upvalue u) p a c (λ x b d. amid (key_text number t) ([] ++ values_in x.reply) b d)
  table_step t u number a c here t_fits u_fits fits =
      let w = abc GetTabUp t u number false in
      row_step w GetTabUp (quick (read_upvalue u) (λ o. own (read_constant number) (λ key _. gets (read o) (read key) [] t))) a c here (opcode_of-abc GetTabUp t u number false)
      (ap₂ (λ b d. quick (read_upvalue b) (λ o. own (read_constant d) (λ key _. gets (read o) (read key) [] (a_of w)))) (b_of-abc GetTabUp t u number false t_fits u_fits) (c_of-abc GetTabUp t u number false t_fits u_fits fits)
      ∙ ap (λ d. quick (read_upvalue u) (λ o. own (read_constant number) (λ key _. gets (read o) (read key) [] d))) (a_of-abc GetTabUp t u number false t_fits))

  pub key_step : (number t : ℕ) (x : Const) (v : Value) (a : Activation) (c : Captured) → slice_get p.own.constants number ≡ Some x
      → talk_step p (amid (key_text number t) (v ∷ []) a c) ≡ says_so (operates index (v ∷ known (constant x) ∷ [])) p a c (λ z b d. heard for_value p z b d)
  key_step number t x v a c there =
      own_step (read_constant number) (λ key _. gets (read 0) (read key) [] t) (v ∷ []) a c (lt-ltb number (length p.own.constants) (found_below p.own.constants number x there))
      ∙ ap (λ o. talk p (gets (read 0) (read 1) [] t) (v ∷ elim o as (λ _. List Value) [ None ↦ [] | Some k ↦ known (constant k) ∷ [] ]) a c) there
