-- The text of a row: what an instruction does, as a list of moves and asks that is read in two ways, over whole worlds and on one
-- activation alone. A text sees the shapes of values and never an object; it names a value by its place among those it has read.
use Rattle.std.specs.Prelude.{ℕ, zero, suc, ◌+◌, ◌-◌, ℤ, pos, Bool, true, false, cond, ◌&&◌, ◌||◌, max, List, [], ◌∷◌, ◌++◌, length, take, drop, Option, Some, None, nat_eq, nat_lt, nat_le, slice_get, filter}
use Rattle.std.specs.List.{list_any}
use Rattle.code_core.specs.declared.proto.Const.{Const}
use Rattle.code_core.specs.declared.proto.Const.TheVariants.{Nil, False, True, Int, Str}
use Rattle.code_core.specs.Prototype.{Prototype}
use Rattle.code_core.specs.Check.{fixed, open_from, mark}
use Rattle.int_core.specs.Value.{Plain, nil, boolean, integer, string, Value, known, Shape, is_known, shape, nth, range, write, write_all}
use Rattle.machine_core.specs.World.{Wait, Activation}
use Rattle.int_core.specs.Operations.{Operation}
-- a value that a row names, as in the rows of libraries
pub use Rattle.library_rows.specs.Look.{Arg, read, written, arg, args_of}

-- moves on the row's own activation. Slots are the places of values that were read
pub data Own : Type 0 where
  read_register : ℕ → Own
  read_registers : (from count : ℕ) → Own
  read_list : (from : ℕ) → Own
  read_constant : ℕ → Own
  read_varargs : Own
  see : Arg → Own
  write_register : ℕ → Arg → Own
  write_registers : (at count slot : ℕ) → Own
  write_list : (at slot : ℕ) → Own
  write_nils : (at count : ℕ) → Own
  end_list : Own
  cut_from : ℕ → Own
  close_cells : ℕ → Own
  mark_pending : ℕ → Own
  see_pending : ℕ → Own
  take_pending : ℕ → Own
  drop_pending : ℕ → Own
  keep_results : (from count : ℕ) → Own
  keep_pending : Own

-- constants
abbrev pub constant : Const → Plain
constant Nil = nil
constant False = boolean false
constant True = boolean true
constant (Int n) = integer n
constant (Str s) = string s

-- the place behind the open list in front of pc
abbrev pub list_end : Prototype → Activation → Option ℕ
list_end p own = elim (mark p own.pc) [ fixed ↦ None | open_from r ↦ Some (r + own.opened) ]

abbrev pub list_values : ℕ → List Value → Option ℕ → List Value
list_values from registers None = []
list_values from registers (Some end) = range from (end - from) registers

-- the last of the pending registers at r or above, whatever was marked after it
abbrev pub last_pending : ℕ → List ℕ → Option ℕ
last_pending r [] = None
last_pending r (q ∷ pending) = elim (last_pending r pending) [ Some p ↦ Some p | None ↦ cond (nat_le r q) (Some q) None ]

abbrev pub value_if : List Value → Option ℕ → List Value
value_if registers None = []
value_if registers (Some r) = nth registers r ∷ []

abbrev pub is_there : {A : Type 0} → Option A → Bool
is_there None = false
is_there (Some _) = true

-- the pending registers but that one
abbrev pub without_pending : ℕ → List ℕ → List ℕ
without_pending r [] = []
without_pending r (q ∷ pending) = cond (is_there (last_pending r pending)) (q ∷ without_pending r pending) (cond (nat_le r q) pending (q ∷ pending))

-- a number of registers from i on, where all but some are nil
abbrev pub blanked : (ℕ → Bool) → ℕ → ℕ → List Value → List Value
blanked keeps i zero registers = []
blanked keeps i (suc count) registers = cond (keeps i) (nth registers i) (known nil) ∷ blanked keeps (suc i) count registers

abbrev pub is_pending : List ℕ → ℕ → Bool
is_pending pending r = list_any (nat_eq r) pending

abbrev pub nils : ℕ → List Value
nils zero = []
nils (suc count) = known nil ∷ nils count

-- the place behind a number of registers; none of them names no place
abbrev pub behind : (from count : ℕ) → ℕ
behind from zero = 0
behind from (suc count) = from + suc count

-- what a move reads
abbrev pub reads : Own → Prototype → List Value → Activation → List Value
reads (read_register r) p env own = nth own.registers r ∷ []
reads (read_registers from count) p env own = range from count own.registers
reads (read_list from) p env own = list_values from own.registers (list_end p own)
reads (read_constant n) p env own = elim (slice_get p.own.constants n) [ None ↦ [] | Some c ↦ known (constant c) ∷ [] ]
reads read_varargs p env own = own.varargs
reads (see_pending r) p env own = value_if own.registers (last_pending r own.pending)
reads _ p env own = []

-- what it tells: the shape of what was read, how many values there were, whether there was one
abbrev pub tells : Own → Prototype → List Value → Activation → Shape
tells (read_register r) p env own = shape (nth own.registers r)
tells (read_list from) p env own = is_known (integer (pos (length (list_values from own.registers (list_end p own)))))
tells (read_constant n) p env own = elim (slice_get p.own.constants n) [ None ↦ is_known nil | Some c ↦ is_known (constant c) ]
tells (see x) p env own = shape (arg env x)
tells (see_pending r) p env own = is_known (boolean (is_there (last_pending r own.pending)))
tells _ p env own = is_known nil

-- what it changes
abbrev pub effect : Own → Prototype → List Value → Activation → Activation
effect (write_register r x) p env own = record own { registers = write r (arg env x) own.registers }
effect (write_registers at count slot) p env own = record own { registers = write_all at (range slot count env) own.registers }
effect (write_list at slot) p env own = record own { registers = write_all at (drop slot env) own.registers; opened = length (drop slot env) }
effect (write_nils at count) p env own = record own { registers = write_all at (nils count) own.registers }
effect end_list p env own = record own { registers = take p.own.stack own.registers; opened = 0 }
effect (cut_from r) p env own = record own { registers = blanked (λ i. nat_lt i r) 0 p.own.stack own.registers; opened = 0 }
effect (mark_pending r) p env own = record own { pending = own.pending ++ r ∷ [] }
effect (take_pending r) p env own = record own { pending = without_pending r own.pending }
effect (drop_pending r) p env own = record own { pending = filter (λ q. nat_lt q r) own.pending }
effect (keep_results from count) p env own =
    record own {
      registers = blanked (λ i. is_pending own.pending i || (nat_le from i && nat_lt i (from + count))) 0 (max p.own.stack (behind from count)) own.registers;
      opened = 0;
    }
effect keep_pending p env own = record own { registers = blanked (is_pending own.pending) 0 p.own.stack own.registers; opened = 0 }
effect _ p env own = own

-- whether what its fields name is there
abbrev pub fits : Own → Prototype → Activation → Bool
fits (read_register r) p own = nat_lt r (length own.registers)
fits (read_registers from count) p own = nat_le (behind from count) (length own.registers)
fits (read_list from) p own = is_there (list_end p own)
fits (read_constant n) p own = nat_lt n (length p.own.constants)
fits (write_register r x) p own = nat_lt r (length own.registers)
fits (write_registers at count slot) p own = nat_le (behind at count) (length own.registers)
fits (write_list at slot) p own = nat_lt at (length own.registers)
fits (write_nils at count) p own = nat_le (at + count) (length own.registers)
fits (mark_pending r) p own = nat_lt r (length own.registers)
fits _ p own = true

-- moves one after another, which tell nothing
abbrev pub done : List Own → Prototype → List Value → Activation → Activation
done [] p env own = own
done (m ∷ ms) p env own = done ms p env (effect m p env own)

-- what is asked outside the activation and answered at once. A table is filled behind an index with the values from a slot on
pub data Quick : Type 0 where
  read_upvalue : ℕ → Quick
  write_upvalue : ℕ → Arg → Quick
  make_table : Quick
  make_function : ℕ → Quick
  fill_table : Arg → (last slot : ℕ) → Quick
  pay : Quick

-- with what an activation is left
pub data Given : Type 0 where
  results : (slot : ℕ) → Given
  thrown : Arg → Given

abbrev pub given_values : List Value → Given → List Value
given_values env (results slot) = drop slot env
given_values env (thrown x) = arg env x ∷ []

-- A row. What hangs on what was read gets the slot of the first value and what was told.
-- A call takes all values from a slot on; what follows is what its wait says. `prepared` is done in the own activation once the call is paid.
-- An operation that is settled at once goes on with the text written behind it, where slot 0 is its value; that is what its wait says too.
-- `raise` begins to leave the activation with an error of its own; `leave` ends it
pub data Text : Type 0 where
  go_by : ℤ → Text
  own : Own → (ℕ → Shape → Text) → Text
  open_cell : ℕ → Text → Text
  quick : Quick → (ℕ → Text) → Text
  operate : Operation → List Arg → Wait Arg → (prepared : List Own) → Text → Text
  call : (f : Arg) → (slot : ℕ) → Wait Arg → (prepared : List Own) → Text
  tail_call : (f : Arg) → (slot : ℕ) → Text
  close : (v error : Arg) → Wait Arg → (prepared : List Own) → Text
  closable : Arg → (name : List ℕ) → Text → Text
  raise : List ℕ → Text
  leave : Given → Text
  trap : Text
