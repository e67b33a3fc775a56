-- The rows of the instructions, in the order of their numbers, and what is left of an instruction when the answer comes for which its
-- frame waits (lvm.c of Lua 5.4; Lua 5.4 manual, 3.3 and 3.4).
use Rattle.std.specs.Prelude.{ℕ, zero, suc, ◌+◌, ◌*◌, ◌-◌, ◌==◌, ℤ, pos, negsuc, ◌+ℤ◌, ◌-ℤ◌, int_le, Bool, true, false, cond, not, ◌&&◌, List, [], ◌∷◌, ◌++◌, Option, Some, None, filter, nat_lt, nat_le, slice_get, codes}
use Rattle.int_core.specs.Arithmetic.{wrapped, add, sub, floor_quotient}
use Rattle.code_core.specs.declared.opcode.Opcode.{Opcode}
use Rattle.code_core.specs.declared.opcode.Opcode.TheVariants.{Move, LoadI, LoadK, LoadKx, LoadFalse, LFalseSkip, LoadTrue, LoadNil, GetUpval, SetUpval, GetTabUp, GetTable, GetI, GetField, SetTabUp, SetTable, SetI, SetField, NewTable, OpSelf, AddI, AddK, SubK, MulK, ModK, IDivK, BAndK, BOrK, BXorK, ShrI, ShlI, Add, Sub, Mul, Mod, IDiv, BAnd, BOr, BXor, Shl, Shr, MmBin, MmBinI, MmBinK, Unm, BNot, Not, Len, Concat, Close, Tbc, Jmp, Eq, Lt, Le, EqK, EqI, LtI, LeI, GtI, GeI, Test, TestSet, Call, TailCall, Return, Return0, Return1, ForLoop, ForPrep, TForPrep, TForCall, TForLoop, SetList, Closure, VarArg, VarArgPrep}
use Rattle.code_core.specs.declared.instruction.Instruction.{Instruction}
use Rattle.code_core.specs.declared.proto.UpDesc.{UpDesc}
use Rattle.code_core.specs.declared.proto.LocVar.{LocVar}
use Rattle.code_core.specs.Instruction.{opcode_of, a_of, b_of, c_of, k_of, bx_of, sbx_of, sj_of, sb_of, sc_of}
use Rattle.code_core.specs.Prototype.{Prototype, list_of}
use Rattle.code_core.specs.Check.{at, in_front, extra_at}
use Rattle.int_core.specs.Value.{nil, boolean, integer, a_table, Value, Shape, is_known, is_object, holds, nth, same_truth, same_plain, same_integer}
use Rattle.int_core.specs.Ask.{Reply, values, faulted, left}
use Rattle.machine_core.specs.World.{Wait, running, for_call, for_iterator, for_value, for_truth, dropped, for_concat, for_close, returning, leaving}
use Rattle.int_core.specs.Operations.{Event, of_add, of_sub, of_mul, of_mod, of_idiv, of_band, of_bor, of_bxor, of_shl, of_shr, of_unm, of_bnot, computed, by_zero, type_name, Operation, index, store, arithmetic, concat, length', equal, less, less_equal}
use Rattle.machine_core.specs.Text.{Arg, read, written, Own, read_register, read_registers, read_list, read_constant, read_varargs, see, write_register, write_registers, write_list, write_nils, end_list, cut_from, close_cells, mark_pending, see_pending, take_pending, drop_pending, keep_results, keep_pending, read_upvalue, write_upvalue, make_table, make_function, fill_table, pay, results, thrown, Text, go_by, own, open_cell, quick, operate, call, tail_call, close, closable, raise, leave, trap}

abbrev pub next : Text
next = go_by (pos 1)

abbrev pub skip : Text
skip = go_by (pos 2)

abbrev pub then : Own → Text → Text
then m t = own m (λ _ _. t)

abbrev pub to_register : ℕ → Arg → Text
to_register r x = then (write_register r x) next

abbrev pub is_true : Shape → Bool
is_true (is_known (boolean b)) = b
is_true _ = false

abbrev pub integer_of_shape : Shape → Option ℤ
integer_of_shape (is_known (integer n)) = Some n
integer_of_shape _ = None

-- how many values a move told that it read
abbrev pub counted : Shape → ℕ
counted (is_known (integer (pos n))) = n
counted _ = 0

-- leaving an activation

-- what is changed as a pending variable is closed by a frame that is being left, and by one that returns
abbrev pub left_so : List Own
left_so = close_cells 0 ∷ take_pending 0 ∷ keep_pending ∷ []

abbrev pub returned_so : ℕ → ℕ → List Own
returned_so from count = close_cells 0 ∷ take_pending 0 ∷ keep_results from count ∷ []

-- the frame is left with the error in slot 0: its pending variables are closed first, the last one first
abbrev pub fails : Text
fails = own (see_pending 0) (λ v there. cond (is_true there) (close (read v) (read 0) (leaving (read 0)) left_so) (leave (thrown (read 0))))

-- the frame returns some of its registers
abbrev pub returns : ℕ → ℕ → Text
returns from count = own (see_pending 0) (λ v there.
    cond (is_true there) (close (read v) (written nil) (returning count) (returned_so from count)) (own (read_registers from count) (λ w _. leave (results w))))

abbrev pub closes : ℕ → Text
closes r = own (see_pending r) (λ v there.
    cond (is_true there) (close (read v) (written nil) for_close (close_cells r ∷ take_pending r ∷ [])) (then (close_cells r) next))

-- operands

-- C is a register, or a constant with k
abbrev pub register_or_constant : Instruction → (ℕ → Shape → Text) → Text
register_or_constant w k = cond (k_of w) (own (read_constant (c_of w)) k) (own (read_register (c_of w)) k)

-- the values of n - 1 registers from r on, or for n = 0 those up to the end of the open list
abbrev pub read_values : ℕ → ℕ → (ℕ → Shape → Text) → Text
read_values r zero k = own (read_list r) k
read_values r (suc n) k = own (read_registers r n) k

-- the values from a slot on go to n - 1 registers from r on, or for n = 0 they become an open list there
abbrev pub write_values : ℕ → ℕ → ℕ → Text
write_values r zero slot = then (write_list r slot) next
write_values r (suc n) slot = then (write_registers r n slot) next

-- what follows an answer, by the wait. The values that came are slots 0, 1, ..

-- the operands at place i and below are joined to a value, from the last one on
abbrev pub joins : ℕ → ℕ → Arg → Text
joins r zero x = to_register r x
joins r (suc i) x = own (read_register (r + i)) (λ u _. operate concat (read u ∷ x ∷ []) (for_concat i) [] (joins r i (read 0)))

-- a test passes the next instruction over where its truth is not k
abbrev pub tested : Bool → Bool → Text
tested truth k = go_by (cond (same_truth truth k) (pos 1) (pos 2))

abbrev pub truth_decides : Instruction → Text
truth_decides w = own (see (read 0)) (λ _ s. tested (holds s) (k_of w))

-- the register for which an MMBIN works is that of the instruction in front of it
abbrev pub to_register_before : Prototype → ℕ → Text
to_register_before p pc = elim (in_front p pc) [ None ↦ trap | Some w ↦ to_register (a_of w) (read 0) ]

abbrev pub value_comes : Prototype → ℕ → Opcode → Instruction → Text
value_comes p pc MmBin w = to_register_before p pc
value_comes p pc MmBinI w = to_register_before p pc
value_comes p pc MmBinK w = to_register_before p pc
value_comes p pc op w = to_register (a_of w) (read 0)

abbrev pub return_count : Opcode → Instruction → ℕ
return_count Return0 w = 0
return_count Return1 w = 1
return_count op w = b_of w - 1

abbrev pub rest : {V : Type 0} → Wait V → Prototype → ℕ → Opcode → Instruction → Text
rest running p pc op w = trap
rest for_call p pc op w = write_values (a_of w) (c_of w) 0
rest for_iterator p pc op w = write_values (a_of w + 4) (c_of w + 1) 0
rest for_value p pc op w = value_comes p pc op w
rest for_truth p pc op w = truth_decides w
rest dropped p pc op w = next
rest (for_concat count) p pc op w = joins (a_of w) count (read 0)
rest for_close p pc op w = closes (a_of w)
rest (returning count) p pc op w = returns (a_of w) count
rest (leaving e) p pc op w = fails

-- arithmetic

-- both operands are integers, or the MMBIN behind does it
abbrev pub fast : Event → ℕ → Option ℤ → Option ℤ → Text
fast event r (Some m) (Some n) = elim (computed event m n) [
  | None ↦ raise (by_zero event)
  | Some k ↦ then (write_register r (written (integer k))) skip
]
fast event r _ _ = next

abbrev pub with_register : Event → Instruction → Text
with_register event w = own (read_register (b_of w)) (λ _ s. own (read_register (c_of w)) (λ _ t. fast event (a_of w) (integer_of_shape s) (integer_of_shape t)))

abbrev pub with_constant : Event → Instruction → Text
with_constant event w = own (read_register (b_of w)) (λ _ s. own (read_constant (c_of w)) (λ _ t. fast event (a_of w) (integer_of_shape s) (integer_of_shape t)))

abbrev pub event_numbered : ℕ → Option Event
event_numbered n = slice_get (of_add ∷ of_sub ∷ of_mul ∷ of_mod ∷ of_add ∷ of_add ∷ of_idiv ∷ of_band ∷ of_bor ∷ of_bxor ∷ of_shl ∷ of_shr ∷ []) (n - 6)

abbrev pub swapped : Bool → Arg → Arg → List Arg
swapped true x y = y ∷ x ∷ []
swapped false x y = x ∷ y ∷ []

abbrev pub handled : Prototype → ℕ → Instruction → Option Event → List Arg → Text
handled p pc w None xs = trap
handled p pc w (Some event) xs = operate (arithmetic event) xs for_value [] (to_register_before p pc)

abbrev pub unary : Operation → List Arg → Instruction → Text
unary operation xs w = operate operation xs for_value [] (to_register (a_of w) (read 0))

-- tables

abbrev pub gets : Arg → Arg → List Own → ℕ → Text
gets o key prepared r = operate index (o ∷ key ∷ []) for_value prepared (to_register r (read 0))

abbrev pub sets : Arg → Arg → Arg → Text
sets o key value = operate store (o ∷ key ∷ value ∷ []) dropped [] next

abbrev pub spelled : ℕ → Arg
spelled n = written (integer (pos n))

-- the list is gone, where one was open
abbrev pub ends_list : ℤ → Text
ends_list behind = then end_list (go_by behind)

-- the values of so many registers from r on go to the table in slot t one by one, behind the index `last`
abbrev pub fills_each : (count t r last : ℕ) → ℤ → Text
fills_each zero t r last behind = ends_list behind
fills_each (suc count) t r last behind = own (read_register r) (λ v _. quick (fill_table (read t) last v) (λ _. fills_each count t (suc r) (suc last) behind))

-- for a count of 0 all values of the open list from r on go there at once
abbrev pub fills_from : (count t r last : ℕ) → ℤ → Text
fills_from zero t r last behind = own (read_list r) (λ v _. quick (fill_table (read t) last v) (λ _. ends_list behind))
fills_from (suc count) t r last behind = fills_each (suc count) t r last behind

-- the list goes to the indexes behind `last`
abbrev pub fills_by : Shape → (t : ℕ) → Instruction → (last : ℕ) → ℤ → Text
fills_by (is_object a_table) t w last behind = fills_from (b_of w) t (a_of w + 1) last behind
fills_by s t w last behind = raise (codes "attempt to index a " ++ type_name s ++ codes " value")

abbrev pub fills : Instruction → (last : ℕ) → ℤ → Text
fills w last behind = own (read_register (a_of w)) (λ t s. fills_by s t w last behind)

-- comparison

abbrev pub compares : Operation → Arg → Arg → Instruction → Text
compares operation x y w = operate operation (x ∷ y ∷ []) for_truth [] (truth_decides w)

abbrev pub with_number : Instruction → Arg
with_number w = written (integer (sb_of w))

-- loops

abbrev pub runs : ℤ → ℤ → ℤ → Bool
runs from limit (pos step) = int_le from limit
runs from limit (negsuc step) = int_le limit from

abbrev pub rounds : ℤ → ℤ → ℤ → ℤ
rounds from limit step = wrapped (floor_quotient (limit -ℤ from) step)

abbrev pub writes_integer : ℕ → ℤ → Text → Text
writes_integer r n t = then (write_register r (written (integer n))) t

abbrev pub starts : ℕ → ℕ → ℤ → ℤ → ℤ → Text
starts a bx from limit step =
    cond (same_integer step (pos 0)) (raise (codes "'for' step is zero"))
    (cond (runs from limit step) (writes_integer (a + 1) (rounds from limit step) (writes_integer (a + 3) from next)) (go_by (pos (bx + 2))))

-- looked at in the order limit, step, initial value
abbrev pub prepares : ℕ → ℕ → Option ℤ → Option ℤ → Option ℤ → Text
prepares a bx from None step = raise (codes "'for' limit must be a number")
prepares a bx from (Some limit) None = raise (codes "'for' step must be a number")
prepares a bx None (Some limit) (Some step) = raise (codes "'for' initial value must be a number")
prepares a bx (Some from) (Some limit) (Some step) = starts a bx from limit step

abbrev pub back : ℕ → Text
back bx = go_by (pos 1 -ℤ pos bx)

-- the count is unsigned
abbrev pub goes_round : ℕ → ℕ → Option ℤ → Option ℤ → Option ℤ → Text
goes_round a bx (Some i) (Some count) (Some step) =
    cond (same_integer count (pos 0)) next
    (quick pay (λ _. writes_integer (a + 1) (sub count (pos 1)) (writes_integer a (add i step) (writes_integer (a + 3) (add i step) (back bx)))))
goes_round a bx _ _ _ = raise (codes "'for' registers are not integers")

abbrev pub with_loop : ℕ → (Option ℤ → Option ℤ → Option ℤ → Text) → Text
with_loop a k = own (read_register a) (λ _ i. own (read_register (a + 1)) (λ _ l. own (read_register (a + 2)) (λ _ d. k (integer_of_shape i) (integer_of_shape l) (integer_of_shape d))))

-- a jump back costs a unit
abbrev pub jumps : ℤ → Text
jumps (pos n) = go_by (pos (n + 1))
jumps (negsuc n) = quick pay (λ _. go_by (negsuc n +ℤ pos 1))

-- variables to be closed

abbrev pub is_alive : ℕ → LocVar → Bool
is_alive pc v = nat_le v.start pc && nat_lt pc v.end

-- the name of the variable in a register
abbrev pub variable_name : Prototype → ℕ → ℕ → List ℕ
variable_name p pc r = elim (slice_get (filter (is_alive pc) p.own.locals) r) [
  | None ↦ codes "?"
  | Some v ↦ elim v.name [ None ↦ codes "?" | Some name ↦ name ]
]

-- nil and false are closed by nothing
abbrev pub marks : Prototype → ℕ → ℕ → Text → Text
marks p pc r t = own (read_register r) (λ v s. cond (holds s) (closable (read v) (variable_name p pc r) (then (mark_pending r) t)) t)

-- functions

abbrev pub opens : List UpDesc → Text → Text
opens [] t = t
opens (u ∷ us) t = cond u.in_stack (open_cell u.index (opens us t)) (opens us t)

abbrev pub upvalues_of_inner : Prototype → ℕ → List UpDesc
upvalues_of_inner p n = elim (slice_get (list_of p.inner) n) [ None ↦ [] | Some q ↦ q.own.upvalues ]

abbrev pub with_extra : Prototype → ℕ → (ℕ → Text) → Text
with_extra p pc k = elim (extra_at p pc) [ None ↦ trap | Some ax ↦ k ax ]

-- the rows

abbrev pub row_of : Prototype → ℕ → Opcode → Instruction → Text
row_of p pc Move w = own (read_register (b_of w)) (λ v _. to_register (a_of w) (read v))
row_of p pc LoadI w = to_register (a_of w) (written (integer (sbx_of w)))
row_of p pc LoadK w = own (read_constant (bx_of w)) (λ v _. to_register (a_of w) (read v))
row_of p pc LoadKx w = with_extra p pc (λ ax. own (read_constant ax) (λ v _. then (write_register (a_of w) (read v)) skip))
row_of p pc LoadFalse w = to_register (a_of w) (written (boolean false))
row_of p pc LFalseSkip w = then (write_register (a_of w) (written (boolean false))) skip
row_of p pc LoadTrue w = to_register (a_of w) (written (boolean true))
row_of p pc LoadNil w = then (write_nils (a_of w) (b_of w + 1)) next
row_of p pc GetUpval w = quick (read_upvalue (b_of w)) (λ v. to_register (a_of w) (read v))
row_of p pc SetUpval w = own (read_register (a_of w)) (λ v _. quick (write_upvalue (b_of w) (read v)) (λ _. next))
row_of p pc GetTabUp w = quick (read_upvalue (b_of w)) (λ o. own (read_constant (c_of w)) (λ key _. gets (read o) (read key) [] (a_of w)))
row_of p pc GetTable w = own (read_register (b_of w)) (λ o _. own (read_register (c_of w)) (λ key _. gets (read o) (read key) [] (a_of w)))
row_of p pc GetI w = own (read_register (b_of w)) (λ o _. gets (read o) (spelled (c_of w)) [] (a_of w))
row_of p pc GetField w = own (read_register (b_of w)) (λ o _. own (read_constant (c_of w)) (λ key _. gets (read o) (read key) [] (a_of w)))
row_of p pc SetTabUp w = quick (read_upvalue (a_of w)) (λ o. own (read_constant (b_of w)) (λ key _. register_or_constant w (λ v _. sets (read o) (read key) (read v))))
row_of p pc SetTable w = own (read_register (a_of w)) (λ o _. own (read_register (b_of w)) (λ key _. register_or_constant w (λ v _. sets (read o) (read key) (read v))))
row_of p pc SetI w = own (read_register (a_of w)) (λ o _. register_or_constant w (λ v _. sets (read o) (spelled (b_of w)) (read v)))
row_of p pc SetField w = own (read_register (a_of w)) (λ o _. own (read_constant (b_of w)) (λ key _. register_or_constant w (λ v _. sets (read o) (read key) (read v))))
row_of p pc NewTable w = with_extra p pc (λ _. quick make_table (λ t. then (write_register (a_of w) (read t)) skip))
row_of p pc OpSelf w = own (read_register (b_of w)) (λ o _. register_or_constant w (λ key _. gets (read o) (read key) (write_register (a_of w + 1) (read o) ∷ []) (a_of w)))
row_of p pc AddI w = own (read_register (b_of w)) (λ _ s. fast of_add (a_of w) (integer_of_shape s) (Some (sc_of w)))
row_of p pc AddK w = with_constant of_add w
row_of p pc SubK w = with_constant of_sub w
row_of p pc MulK w = with_constant of_mul w
row_of p pc ModK w = with_constant of_mod w
row_of p pc IDivK w = with_constant of_idiv w
row_of p pc BAndK w = with_constant of_band w
row_of p pc BOrK w = with_constant of_bor w
row_of p pc BXorK w = with_constant of_bxor w
row_of p pc ShrI w = own (read_register (b_of w)) (λ _ s. fast of_shr (a_of w) (integer_of_shape s) (Some (sc_of w)))
row_of p pc ShlI w = own (read_register (b_of w)) (λ _ s. fast of_shl (a_of w) (Some (sc_of w)) (integer_of_shape s))
row_of p pc Add w = with_register of_add w
row_of p pc Sub w = with_register of_sub w
row_of p pc Mul w = with_register of_mul w
row_of p pc Mod w = with_register of_mod w
row_of p pc IDiv w = with_register of_idiv w
row_of p pc BAnd w = with_register of_band w
row_of p pc BOr w = with_register of_bor w
row_of p pc BXor w = with_register of_bxor w
row_of p pc Shl w = with_register of_shl w
row_of p pc Shr w = with_register of_shr w
row_of p pc MmBin w = own (read_register (a_of w)) (λ x _. own (read_register (b_of w)) (λ y _. handled p pc w (event_numbered (c_of w)) (read x ∷ read y ∷ [])))
row_of p pc MmBinI w = own (read_register (a_of w)) (λ x _. handled p pc w (event_numbered (c_of w)) (swapped (k_of w) (read x) (with_number w)))
row_of p pc MmBinK w = own (read_register (a_of w)) (λ x _. own (read_constant (b_of w)) (λ y _. handled p pc w (event_numbered (c_of w)) (swapped (k_of w) (read x) (read y))))
row_of p pc Unm w = own (read_register (b_of w)) (λ v _. unary (arithmetic of_unm) (read v ∷ read v ∷ []) w)
row_of p pc BNot w = own (read_register (b_of w)) (λ v _. unary (arithmetic of_bnot) (read v ∷ read v ∷ []) w)
row_of p pc Not w = own (read_register (b_of w)) (λ _ s. to_register (a_of w) (written (boolean (not (holds s)))))
row_of p pc Len w = own (read_register (b_of w)) (λ v _. unary length' (read v ∷ []) w)
row_of p pc Concat w = elim (b_of w) [
  | zero ↦ next
  | suc n ↦ own (read_register (a_of w + n)) (λ v _. joins (a_of w) n (read v))
]
row_of p pc Close w = closes (a_of w)
row_of p pc Tbc w = marks p pc (a_of w) next
row_of p pc Jmp w = jumps (sj_of w)
row_of p pc Eq w = own (read_register (a_of w)) (λ x _. own (read_register (b_of w)) (λ y _. compares equal (read x) (read y) w))
row_of p pc Lt w = own (read_register (a_of w)) (λ x _. own (read_register (b_of w)) (λ y _. compares less (read x) (read y) w))
row_of p pc Le w = own (read_register (a_of w)) (λ x _. own (read_register (b_of w)) (λ y _. compares less_equal (read x) (read y) w))
row_of p pc EqK w = own (read_register (a_of w)) (λ x _. own (read_constant (b_of w)) (λ y _. compares equal (read x) (read y) w))
row_of p pc EqI w = own (read_register (a_of w)) (λ x _. compares equal (read x) (with_number w) w)
row_of p pc LtI w = own (read_register (a_of w)) (λ x _. compares less (read x) (with_number w) w)
row_of p pc LeI w = own (read_register (a_of w)) (λ x _. compares less_equal (read x) (with_number w) w)
row_of p pc GtI w = own (read_register (a_of w)) (λ x _. compares less (with_number w) (read x) w)
row_of p pc GeI w = own (read_register (a_of w)) (λ x _. compares less_equal (with_number w) (read x) w)
row_of p pc Test w = own (read_register (a_of w)) (λ _ s. tested (holds s) (k_of w))
row_of p pc TestSet w = own (read_register (b_of w)) (λ v s. cond (same_truth (holds s) (k_of w)) (to_register (a_of w) (read v)) skip)
row_of p pc Call w = own (read_register (a_of w)) (λ f _. read_values (a_of w + 1) (b_of w) (λ v _. call (read f) v for_call (drop_pending (a_of w) ∷ cut_from (a_of w) ∷ [])))
row_of p pc TailCall w = own (read_register (a_of w)) (λ f _. read_values (a_of w + 1) (b_of w) (λ v _. tail_call (read f) v))
row_of p pc Return w = read_values (a_of w) (b_of w) (λ _ s. returns (a_of w) (cond (b_of w == 0) (counted s) (return_count Return w)))
row_of p pc Return0 w = returns (a_of w) 0
row_of p pc Return1 w = returns (a_of w) 1
row_of p pc ForLoop w = with_loop (a_of w) (goes_round (a_of w) (bx_of w))
row_of p pc ForPrep w = with_loop (a_of w) (prepares (a_of w) (bx_of w))
row_of p pc TForPrep w = marks p pc (a_of w + 3) (go_by (pos (bx_of w + 1)))
row_of p pc TForCall w = own (read_register (a_of w)) (λ f _. own (read_registers (a_of w + 1) 2) (λ v _. call (read f) v for_iterator (drop_pending (a_of w + 4) ∷ cut_from (a_of w + 4) ∷ [])))
row_of p pc TForLoop w = own (read_register (a_of w + 4)) (λ v s. elim s [
  | is_known k ↦ cond (same_plain k nil) next (quick pay (λ _. then (write_register (a_of w + 2) (read v)) (back (bx_of w))))
  | is_object kind ↦ quick pay (λ _. then (write_register (a_of w + 2) (read v)) (back (bx_of w)))
])
row_of p pc SetList w = cond (k_of w) (with_extra p pc (λ ax. fills w (c_of w + 256 * ax) (pos 2))) (fills w (c_of w) (pos 1))
row_of p pc Closure w = opens (upvalues_of_inner p (bx_of w)) (quick (make_function (bx_of w)) (λ f. to_register (a_of w) (read f)))
row_of p pc VarArg w = own read_varargs (λ v _. write_values (a_of w) (c_of w) v)
row_of p pc VarArgPrep w = next
row_of p pc _ w = trap

-- the row of the instruction at pc, where it is there and its opcode is one of those of code on whole numbers
abbrev pub text_by : Prototype → ℕ → Instruction → Option Opcode → Text
text_by p pc w None = trap
text_by p pc w (Some op) = row_of p pc op w

abbrev pub text_at : Prototype → ℕ → Text
text_at p pc = elim (at p pc) [ None ↦ trap | Some w ↦ text_by p pc w (opcode_of w) ]

-- replies

abbrev pub rest_by : {V : Type 0} → Wait V → Prototype → ℕ → Instruction → Option Opcode → Text
rest_by wait p pc w None = trap
rest_by wait p pc w (Some op) = rest wait p pc op w

-- the text of what is left of the instruction at pc
abbrev pub rest_at : {V : Type 0} → Wait V → Prototype → ℕ → Text
rest_at wait p pc = elim (at p pc) [ None ↦ trap | Some w ↦ rest_by wait p pc w (opcode_of w) ]

abbrev pub after : {V : Type 0} → Wait V → Prototype → ℕ → Reply → Text
after wait p pc (values vs) = rest_at wait p pc
after wait p pc (faulted text) = raise text
after wait p pc (left e) = fails

-- the values that a text may name: where more operands are joined one value, nil where none came, so that those read after it stand behind it
abbrev pub arrived : Wait Value → List Value → List Value
arrived (leaving e) vs = e ∷ []
arrived (for_concat (suc more)) vs = nth vs 0 ∷ []
arrived wait vs = vs

abbrev pub told_values : Wait Value → Reply → List Value
told_values wait (values vs) = arrived wait vs
told_values wait (faulted text) = []
told_values wait (left e) = e ∷ []
