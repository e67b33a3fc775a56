-- What the machine does as a table is made, filled and written, as one equation each.
use Rattle.std.proofs.Common.{arith, ◌≡◌, ℕ, suc, ◌+◌, ◌*◌, ◌<◌, ◌^◌, lit<, Bool, true, false, cond, pos, ℤ, List, [], ◌∷◌, ◌++◌, length, take, Some, None, refl, sym, ap, ap₂, ◌∙◌}
use Rattle.std.specs.Prelude.{slice_get}
use borrow.Author.Tests.{lt-ltb}
use Rattle.int_core.specs.Value.{Value, known, integer, a_table, object, nth, range, shape}
use Rattle.int_core.specs.Operations.{store}
use Rattle.int_core.specs.Ask.{makes_table, fills_table, operates, values_in, Captured, goes_on}
use Rattle.code_core.specs.declared.opcode.Opcode.TheVariants.{NewTable, SetTable, SetI, SetField, SetList, ExtraArg}
use Rattle.code_core.specs.declared.instruction.Instruction.{Instruction}
use Rattle.code_core.specs.declared.proto.Const.{Const}
use Rattle.code_core.specs.Instruction.{abc, op_ax, opcode_of, a_of, c_of}
use Rattle.code_core.specs.Prototype.{Prototype}
use Rattle.code_core.specs.Check.{at}
use Rattle.code_core.proofs.FieldLemmas.{opcode_of-abc, a_of-abc, b_of-abc, c_of-abc}
use Rattle.machine_core.specs.World.{Activation, dropped}
use Rattle.machine_core.specs.Text.{read, constant, read_register, read_constant, write_register, end_list, Text, own, quick, make_table, fill_table, go_by, trap}
use Rattle.machine_core.specs.InstructionRows.{next, skip, then, sets, spelled, ends_list, fills_each, fills_from, fills, fills_by, register_or_constant, rest_at, rest_by, with_extra}
use Rattle.machine_core.specs.Talk.{before, amid, talk, talk_step, says_so, heard}
use Rattle.list_laws.proofs.Values.{drop_front}
use Rattle.exp_laws.proofs.Steps.{found_below, row_step, own_step, go_step}
use Rattle.exp_laws.proofs.Loads.{extra_is}
use Rattle.code_of.proofs.Fields.{k_of-abc}
use Rattle.exp_laws.proofs.Lists.{range_held}
use Rattle.exp_laws.proofs.Calls.{Passed, read_values_step}

-- all values of an open list are stored, or one
abbrev pub items_count : (many : Bool) → ℕ
items_count many = cond many 0 1

abbrev pub items_field : (many : Bool) → ℕ
items_field many = cond many 0 2

pub count_small : (many : Bool) → items_count many < 2 ^ 8
count_small true = lit< tt
count_small false = lit< tt

-- the value that the fields k and C of a store name: a constant or that of a register
abbrev pub ValueIs : Prototype → (flag : Bool) → (z : ℕ) → (v : Value) → (regs : List Value) → Type 0
ValueIs p true z v regs = (x : Const) × ((v ≡ known (constant x)) × (slice_get p.own.constants z ≡ Some x))
ValueIs p false z v regs = (z < length regs) × (nth regs z ≡ v)

abbrev pub value_text : (flag : Bool) → (z : ℕ) → (ℕ → Text) → Text
value_text flag z sent = cond flag (own (read_constant z) (λ v _. sent v)) (own (read_register z) (λ v _. sent v))

module _ (p : Prototype) where
  pub new_step : (t : ℕ) (a : Activation) (c : Captured) → at p a.pc ≡ Some (abc NewTable t 0 0 false) → at p (a.pc + 1) ≡ Some (op_ax ExtraArg 0) → t < 2 ^ 8
      → talk_step p (before a c) ≡ says_so makes_table p a c (λ x b d. amid (then (write_register t (read 0)) skip) ([] ++ values_in x.reply) b d)
  new_step t a c here extra fits =
      let w = abc NewTable t 0 0 false in
      row_step p w NewTable (quick make_table (λ v. then (write_register t (read v)) skip)) a c here (opcode_of-abc NewTable t 0 0 false)
      (ap (λ o. elim o as (λ _. Text) [ None ↦ trap | Some ax ↦ quick make_table (λ v. then (write_register (a_of w) (read v)) skip) ]) (extra_is p a.pc 0 extra (lit< tt))
      ∙ ap (λ d. quick make_table (λ v. then (write_register d (read v)) skip)) (a_of-abc NewTable t 0 0 false fits))

  -- registers from r on go to a table one by one
  pub each_step : (n r last : ℕ) (behind : ℤ) (o : Value) (had : List Value) (a : Activation) (c : Captured) → r < length a.registers
      → talk p (fills_each (suc n) 0 r last behind) (o ∷ had) a c
      ≡ says_so (fills_table o last (nth a.registers r ∷ [])) p a c (λ x b d. amid (fills_each n 0 (suc r) (suc last) behind) ((o ∷ had ++ nth a.registers r ∷ []) ++ values_in x.reply) b d)
  each_step n r last behind o had a c room =
      let v = nth a.registers r in
      own_step p (read_register r) (λ s _. quick (fill_table (read 0) last s) (λ _. fills_each n 0 (suc r) (suc last) behind)) (o ∷ had) a c (lt-ltb r (length a.registers) room)
      ∙ ap (λ vs. says_so (fills_table o last vs) p a c (λ x b d. amid (fills_each n 0 (suc r) (suc last) behind) ((o ∷ had ++ v ∷ []) ++ values_in x.reply) b d)) (drop_front had (v ∷ []))

  -- all values of an open list do so, or one
  from_step : (many : Bool) (t last : ℕ) (behind : ℤ) (o : Value) (args : List Value) (a : Activation) (c : Captured) → Passed p (items_field many) (t + 1) args a
      → talk p (fills_from (items_count many) 0 (t + 1) last behind) (o ∷ []) a c ≡ says_so (fills_table o last args) p a c (λ x b d. amid (ends_list behind) (o ∷ args ++ values_in x.reply) b d)
  from_step true t last behind o args a c h = read_values_step p (t + 1) 0 (λ v _. quick (fill_table (read 0) last v) (λ _. ends_list behind)) (o ∷ []) args a c h
  from_step false t last behind o args a c h =
      let one : nth a.registers (t + 1) ∷ [] ≡ args = ap (λ n. range (t + 1) n a.registers) (sym h.0) ∙ range_held (t + 1) args a.registers h.1.1 in
      each_step 0 (t + 1) last behind o [] a c (let wide = h.1.0 in omega (arith, wide))
      ∙ ap (λ vs. says_so (fills_table o last vs) p a c (λ x b d. amid (ends_list behind) (o ∷ vs ++ values_in x.reply) b d)) one

  -- the table in register t is filled behind an index with b values behind it
  fills_step : (t b last m field : ℕ) (k : Bool) (behind : ℤ) (a : Activation) (c : Captured) → t < 2 ^ 8 → b < 2 ^ 8 → t < length a.registers → nth a.registers t ≡ object a_table m
      → talk p (fills (abc SetList t b field k) last behind) [] a c ≡ talk p (fills_from b 0 (t + 1) last behind) (object a_table m ∷ []) a c
  fills_step t b last m field k behind a c fits few room is =
      let w = abc SetList t b field k in
      ap (λ d. talk p (own (read_register d) (λ o s. fills_by s o w last behind)) [] a c) (a_of-abc SetList t b field k fits)
      ∙ own_step p (read_register t) (λ o s. fills_by s o w last behind) [] a c (lt-ltb t (length a.registers) room)
      ∙ ap (λ v. talk p (fills_by (shape v) 0 w last behind) (v ∷ []) a c) is
      ∙ ap₂ (λ d e. talk p (fills_from e 0 (d + 1) last behind) (object a_table m ∷ []) a c) (a_of-abc SetList t b field k fits) (b_of-abc SetList t b field k fits few)

  pub list_near : (t b items m : ℕ) (a : Activation) (c : Captured) → at p a.pc ≡ Some (abc SetList t b items false) → items < 2 ^ 8 → t < 2 ^ 8 → b < 2 ^ 8 → t < length a.registers → nth a.registers t ≡ object a_table m
      → talk_step p (before a c) ≡ talk p (fills_from b 0 (t + 1) items (pos 1)) (object a_table m ∷ []) a c
  list_near t b items m a c here near fits few room is =
      let w = abc SetList t b items false in
      row_step p w SetList (fills w items (pos 1)) a c here (opcode_of-abc SetList t b items false)
      (ap (λ k. cond k (with_extra p a.pc (λ ax. fills w (c_of w + 256 * ax) (pos 2))) (fills w (c_of w) (pos 1))) (k_of-abc SetList t b items false fits)
      ∙ ap (λ n. fills w n (pos 1)) (c_of-abc SetList t b items false fits few near))
      ∙ fills_step t b items m items false (pos 1) a c fits few room is

  pub list_far : (t b low high m : ℕ) (a : Activation) (c : Captured) → at p a.pc ≡ Some (abc SetList t b low true) → at p (a.pc + 1) ≡ Some (op_ax ExtraArg high) → low < 2 ^ 8 → high < 2 ^ 25 → t < 2 ^ 8 → b < 2 ^ 8
      → t < length a.registers → nth a.registers t ≡ object a_table m → talk_step p (before a c) ≡ talk p (fills_from b 0 (t + 1) (low + 256 * high) (pos 2)) (object a_table m ∷ []) a c
  list_far t b low high m a c here extra near far fits few room is =
      let w = abc SetList t b low true in
      row_step p w SetList (fills w (low + 256 * high) (pos 2)) a c here (opcode_of-abc SetList t b low true)
      (ap (λ k. cond k (with_extra p a.pc (λ ax. fills w (c_of w + 256 * ax) (pos 2))) (fills w (c_of w) (pos 1))) (k_of-abc SetList t b low true fits)
      ∙ ap (λ o. elim o as (λ _. Text) [ None ↦ trap | Some ax ↦ fills w (c_of w + 256 * ax) (pos 2) ]) (extra_is p a.pc high extra far)
      ∙ ap (λ n. fills w (n + 256 * high) (pos 2)) (c_of-abc SetList t b low true fits few near))
      ∙ fills_step t b (low + 256 * high) m low true (pos 2) a c fits few room is

  pub fill_near : (t items m : ℕ) (many : Bool) (args : List Value) (a : Activation) (c : Captured) → at p a.pc ≡ Some (abc SetList t (items_count many) items false) → items < 2 ^ 8 → t < 2 ^ 8 → t < length a.registers
      → nth a.registers t ≡ object a_table m → Passed p (items_field many) (t + 1) args a
      → talk_step p (before a c) ≡ says_so (fills_table (object a_table m) items args) p a c (λ x b d. amid (ends_list (pos 1)) (object a_table m ∷ args ++ values_in x.reply) b d)
  fill_near t items m many args a c here near fits room is passed =
      list_near t (items_count many) items m a c here near fits (count_small many) room is ∙ from_step many t items (pos 1) (object a_table m) args a c passed

  pub fill_far : (t low high m : ℕ) (many : Bool) (args : List Value) (a : Activation) (c : Captured) → at p a.pc ≡ Some (abc SetList t (items_count many) low true) → at p (a.pc + 1) ≡ Some (op_ax ExtraArg high)
      → low < 2 ^ 8 → high < 2 ^ 25 → t < 2 ^ 8 → t < length a.registers → nth a.registers t ≡ object a_table m → Passed p (items_field many) (t + 1) args a
      → talk_step p (before a c) ≡ says_so (fills_table (object a_table m) (low + 256 * high) args) p a c (λ x b d. amid (ends_list (pos 2)) (object a_table m ∷ args ++ values_in x.reply) b d)
  fill_far t low high m many args a c here extra near far fits room is passed =
      list_far t (items_count many) low high m a c here extra near far fits (count_small many) room is ∙ from_step many t (low + 256 * high) (pos 2) (object a_table m) args a c passed

  -- the list is gone, and code goes on
  pub filled_step : (n : ℕ) (w : Instruction) (env : List Value) (a : Activation) (c : Captured) → at p (a.pc + n) ≡ Some w
      → talk p (ends_list (pos n)) env a c ≡ goes_on (before (record a { registers = take p.own.stack a.registers; opened = 0; pc = a.pc + n }) c)
  filled_step n w env a c there =
      own_step p end_list (λ _ _. go_by (pos n)) env a c refl
      ∙ go_step p n w (env ++ []) (record a { registers = take p.own.stack a.registers; opened = 0 }) c there

  -- a value goes to a field of a table, where the value is a constant or stands in a register: the operation is asked for

  pub value_step : (flag : Bool) (z : ℕ) (v : Value) (sent : ℕ → Text) (had : List Value) (a : Activation) (c : Captured) → ValueIs p flag z v a.registers → talk p (value_text flag z sent) had a c ≡ talk p (sent (length had)) (had ++ v ∷ []) a c
  value_step true z v sent had a c is =
      let key = is.0 in
      own_step p (read_constant z) (λ v _. sent v) had a c (lt-ltb z (length p.own.constants) (found_below p.own.constants z key is.1.1))
      ∙ ap (λ o. talk p (sent (length had)) (had ++ elim o as (λ _. List Value) [ None ↦ [] | Some k ↦ known (constant k) ∷ [] ]) a c) is.1.1
      ∙ ap (λ u. talk p (sent (length had)) (had ++ u ∷ []) a c) (sym is.1.0)
  value_step false z v sent had a c is =
      own_step p (read_register z) (λ v _. sent v) had a c (lt-ltb z (length a.registers) is.0)
      ∙ ap (λ u. talk p (sent (length had)) (had ++ u ∷ []) a c) is.1

  pub set_step : (flag : Bool) (x y z : ℕ) (v : Value) (a : Activation) (c : Captured) → at p a.pc ≡ Some (abc SetTable x y z flag) → x < 2 ^ 8 → y < 2 ^ 8 → z < 2 ^ 8 → x < length a.registers → y < length a.registers → ValueIs p flag z v a.registers
      → talk_step p (before a c) ≡ says_so (operates store (nth a.registers x ∷ nth a.registers y ∷ v ∷ [])) p a c (λ q b d. heard dropped p q b d)
  set_step flag x y z v a c here x_fits y_fits z_fits x_room y_room is =
      let w = abc SetTable x y z flag in
      row_step p w SetTable (own (read_register x) (λ o _. own (read_register y) (λ key _. value_text flag z (λ v. sets (read o) (read key) (read v))))) a c here (opcode_of-abc SetTable x y z flag)
      (ap₂ (λ d e. own (read_register d) (λ o _. own (read_register e) (λ key _. register_or_constant w (λ v _. sets (read o) (read key) (read v))))) (a_of-abc SetTable x y z flag x_fits) (b_of-abc SetTable x y z flag x_fits y_fits)
      ∙ ap₂ (λ f e. own (read_register x) (λ o _. own (read_register y) (λ key _. value_text f e (λ v. sets (read o) (read key) (read v))))) (k_of-abc SetTable x y z flag x_fits) (c_of-abc SetTable x y z flag x_fits y_fits z_fits))
      ∙ own_step p (read_register x) (λ o _. own (read_register y) (λ key _. value_text flag z (λ v. sets (read o) (read key) (read v)))) [] a c (lt-ltb x (length a.registers) x_room)
      ∙ own_step p (read_register y) (λ key _. value_text flag z (λ v. sets (read 0) (read key) (read v))) (nth a.registers x ∷ []) a c (lt-ltb y (length a.registers) y_room)
      ∙ value_step flag z v (λ v. sets (read 0) (read 1) (read v)) (nth a.registers x ∷ nth a.registers y ∷ []) a c is

  -- the key is a number in the instruction
  pub set_index_step : (flag : Bool) (x n z : ℕ) (v : Value) (a : Activation) (c : Captured) → at p a.pc ≡ Some (abc SetI x n z flag) → x < 2 ^ 8 → n < 2 ^ 8 → z < 2 ^ 8 → x < length a.registers → ValueIs p flag z v a.registers
      → talk_step p (before a c) ≡ says_so (operates store (nth a.registers x ∷ known (integer (pos n)) ∷ v ∷ [])) p a c (λ q b d. heard dropped p q b d)
  set_index_step flag x n z v a c here x_fits n_fits z_fits x_room is =
      let w = abc SetI x n z flag in
      row_step p w SetI (own (read_register x) (λ o _. value_text flag z (λ v. sets (read o) (spelled n) (read v)))) a c here (opcode_of-abc SetI x n z flag)
      (ap₂ (λ d e. own (read_register d) (λ o _. register_or_constant w (λ v _. sets (read o) (spelled e) (read v)))) (a_of-abc SetI x n z flag x_fits) (b_of-abc SetI x n z flag x_fits n_fits)
      ∙ ap₂ (λ f e. own (read_register x) (λ o _. value_text f e (λ v. sets (read o) (spelled n) (read v)))) (k_of-abc SetI x n z flag x_fits) (c_of-abc SetI x n z flag x_fits n_fits z_fits))
      ∙ own_step p (read_register x) (λ o _. value_text flag z (λ v. sets (read o) (spelled n) (read v))) [] a c (lt-ltb x (length a.registers) x_room)
      ∙ value_step flag z v (λ v. sets (read 0) (spelled n) (read v)) (nth a.registers x ∷ []) a c is

  -- the key is a constant
  pub set_name_step : (flag : Bool) (x number z : ℕ) (key : Const) (v : Value) (a : Activation) (c : Captured) → at p a.pc ≡ Some (abc SetField x number z flag) → x < 2 ^ 8 → number < 2 ^ 8 → z < 2 ^ 8 → x < length a.registers → ValueIs p flag z v a.registers
      → slice_get p.own.constants number ≡ Some key
      → talk_step p (before a c) ≡ says_so (operates store (nth a.registers x ∷ known (constant key) ∷ v ∷ [])) p a c (λ q b d. heard dropped p q b d)
  set_name_step flag x number z key v a c here x_fits fits z_fits x_room is there =
      let w = abc SetField x number z flag in
      row_step p w SetField (own (read_register x) (λ o _. own (read_constant number) (λ i _. value_text flag z (λ v. sets (read o) (read i) (read v))))) a c here (opcode_of-abc SetField x number z flag)
      (ap₂ (λ d e. own (read_register d) (λ o _. own (read_constant e) (λ i _. register_or_constant w (λ v _. sets (read o) (read i) (read v))))) (a_of-abc SetField x number z flag x_fits) (b_of-abc SetField x number z flag x_fits fits)
      ∙ ap₂ (λ f e. own (read_register x) (λ o _. own (read_constant number) (λ i _. value_text f e (λ v. sets (read o) (read i) (read v))))) (k_of-abc SetField x number z flag x_fits) (c_of-abc SetField x number z flag x_fits fits z_fits))
      ∙ own_step p (read_register x) (λ o _. own (read_constant number) (λ i _. value_text flag z (λ v. sets (read o) (read i) (read v)))) [] a c (lt-ltb x (length a.registers) x_room)
      ∙ own_step p (read_constant number) (λ i _. value_text flag z (λ v. sets (read 0) (read i) (read v))) (nth a.registers x ∷ []) a c (lt-ltb number (length p.own.constants) (found_below p.own.constants number key there))
      ∙ ap (λ o. talk p (value_text flag z (λ v. sets (read 0) (read 1) (read v))) (nth a.registers x ∷ elim o as (λ _. List Value) [ None ↦ [] | Some k ↦ known (constant k) ∷ [] ]) a c) there
      ∙ value_step flag z v (λ v. sets (read 0) (read 1) (read v)) (nth a.registers x ∷ known (constant key) ∷ []) a c is

  pub set_index_rest : (flag : Bool) (x n z pc : ℕ) → at p pc ≡ Some (abc SetI x n z flag) → rest_at {V = Value} dropped p pc ≡ next
  set_index_rest flag x n z pc here =
      ap (λ o. elim o as (λ _. Text) [ None ↦ trap | Some i ↦ rest_by {V = Value} dropped p pc i (opcode_of i) ]) here
      ∙ ap (rest_by {V = Value} dropped p pc (abc SetI x n z flag)) (opcode_of-abc SetI x n z flag)

  pub set_name_rest : (flag : Bool) (x number z pc : ℕ) → at p pc ≡ Some (abc SetField x number z flag) → rest_at {V = Value} dropped p pc ≡ next
  set_name_rest flag x number z pc here =
      ap (λ o. elim o as (λ _. Text) [ None ↦ trap | Some i ↦ rest_by {V = Value} dropped p pc i (opcode_of i) ]) here
      ∙ ap (rest_by {V = Value} dropped p pc (abc SetField x number z flag)) (opcode_of-abc SetField x number z flag)

  pub set_rest : (flag : Bool) (x y z pc : ℕ) → at p pc ≡ Some (abc SetTable x y z flag) → rest_at {V = Value} dropped p pc ≡ next
  set_rest flag x y z pc here =
      ap (λ o. elim o as (λ _. Text) [ None ↦ trap | Some i ↦ rest_by {V = Value} dropped p pc i (opcode_of i) ]) here
      ∙ ap (rest_by {V = Value} dropped p pc (abc SetTable x y z flag)) (opcode_of-abc SetTable x y z flag)
