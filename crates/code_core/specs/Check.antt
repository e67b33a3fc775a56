-- What is asked of a function before it runs: twelve rules, each a condition on one place of its code. A place is `fixed`,
-- or `open_from` a register where the instruction in front of it leaves a list of values whose number only the run knows.
use Rattle.std.specs.Prelude.{ℕ, zero, suc, ◌+◌, ◌==◌, ℤ, pos, negsuc, ◌+ℤ◌, Bool, true, false, cond, not, ◌&&◌, ◌||◌, List, [], ◌∷◌, length, Option, Some, None, nat_lt, nat_le, slice_get, option_and_then, if◌then◌else◌, find, IsTrue, ◌≡◌}
use Rattle.std.specs.List.{list_all, list_any}
use Rattle.std.specs.Option.{option_map}
use Rattle.code_core.specs.declared.opcode.Opcode.{Opcode}
use Rattle.code_core.specs.declared.opcode.Opcode.TheVariants.{Jmp, MmBin, MmBinI, MmBinK, TForLoop, ExtraArg, VarArg, VarArgPrep, Closure}
use Rattle.code_core.specs.declared.instruction.Instruction.{Instruction}
use Rattle.code_core.specs.declared.proto.Const.{Const}
use Rattle.code_core.specs.declared.proto.Const.TheVariants.{Str, Int}
use Rattle.code_core.specs.declared.proto.UpDesc.{UpDesc}
use Rattle.code_core.specs.declared.proto.AbsLine.{AbsLine}
use Rattle.code_core.specs.Opcode.{number_of}
use Rattle.code_core.specs.Instruction.{opcode_of, a_of, c_of, bx_of, ax_of}
use Rattle.code_core.specs.Fields.{is_whole, registers, Wanted, anything, name, integer, constants, upvalues, target, second_half, stands_second, events, opens, takes_list, is_return}
use Rattle.code_core.specs.Prototype.{Prototype, Prototypes, none, more, list_of}
use Rattle.code_core.specs.Writable.{is_writable, number_fits}

abbrev pub at : Prototype → ℕ → Option Instruction
at p pc = slice_get p.own.code pc

abbrev pub in_front : Prototype → ℕ → Option Instruction
in_front p zero = None
in_front p (suc pc) = at p pc

-- what a test says of what is there
abbrev pub there : {A : Type 0} → (A → Bool) → Option A → Bool
there test None = false
there test (Some x) = test x

abbrev pub is_same : Opcode → Opcode → Bool
is_same op other = number_of op == number_of other

-- marks

pub data Mark : Type 0 where
  fixed : Mark
  open_from : ℕ → Mark

abbrev pub opened : Option ℕ → Mark
opened None = fixed
opened (Some r) = open_from r

abbrev pub leaves : Instruction → Mark
leaves w = opened (option_and_then (λ op. opens op w) (opcode_of w))

abbrev pub left_by : Option Instruction → Mark
left_by None = fixed
left_by (Some w) = leaves w

-- what stands at a place
abbrev pub mark : Prototype → ℕ → Mark
mark p pc = left_by (in_front p pc)

abbrev pub is_fixed : Mark → Bool
is_fixed fixed = true
is_fixed (open_from r) = false

-- pairs

abbrev pub begins_with : Opcode → Instruction → Bool
begins_with second w = there (λ op. there (is_same second) (second_half op w)) (opcode_of w)

-- a second half agrees with the first half in front of it: the event is one of arithmetic, the loop's register the same
abbrev pub agrees : Instruction → Instruction → Opcode → Bool
agrees first w MmBin = list_any (λ event. c_of w == event) events
agrees first w MmBinI = list_any (λ event. c_of w == event) events
agrees first w MmBinK = list_any (λ event. c_of w == event) events
agrees first w TForLoop = a_of first == a_of w
agrees first w _ = true

abbrev pub goes_on : Prototype → ℕ → Instruction → Option Opcode → Bool
goes_on p pc first None = true
goes_on p pc first (Some second) = there (λ w. there (is_same second) (opcode_of w) && agrees first w second) (at p (pc + 1))

-- a second half is in this place
abbrev pub is_second : Prototype → ℕ → Opcode → Bool
is_second p pc Jmp = there (begins_with Jmp) (in_front p pc)
is_second p pc op = stands_second op

-- places

-- the field of the next instruction, where that is an EXTRAARG
abbrev pub extra_at : Prototype → ℕ → Option ℕ
extra_at p pc = option_and_then (λ w. cond (there (is_same ExtraArg) (opcode_of w)) (Some (ax_of w)) None) (at p (pc + 1))

abbrev pub constant_is : Wanted → Const → Bool
constant_is anything constant = true
constant_is name (Str bytes) = true
constant_is integer (Int n) = true
constant_is _ _ = false

abbrev pub upvalue_there : Prototype → UpDesc → Bool
upvalue_there p u = cond u.in_stack (nat_lt u.index p.own.stack) (nat_lt u.index (length p.own.upvalues))

abbrev pub function_there : Prototype → Opcode → Instruction → Bool
function_there p Closure w = there (λ inner. list_all (upvalue_there p) inner.own.upvalues) (slice_get (list_of p.inner) (bx_of w))
function_there p _ w = true

abbrev pub lands : Prototype → ℤ → Bool
lands p (pos pc) = there (λ w. not (there (is_second p pc) (opcode_of w))) (at p pc)
lands p (negsuc n) = false

abbrev pub is_landing : Prototype → Option ℤ → Bool
is_landing p None = true
is_landing p (Some place) = lands p place

abbrev pub lands_fixed : Prototype → Option ℤ → Bool
lands_fixed p (Some (pos pc)) = is_fixed (mark p pc)
lands_fixed p _ = true

abbrev pub is_paired : Prototype → ℕ → Opcode → Instruction → Bool
is_paired p pc op w = goes_on p pc w (second_half op w) && (not (stands_second op) || there (begins_with op) (in_front p pc))

-- the instruction takes a list that was opened at r
abbrev pub takes_from : ℕ → Instruction → Bool
takes_from r w = there (λ op. takes_list op w) (opcode_of w) && nat_le (a_of w) r

abbrev pub is_taken : Prototype → ℕ → Mark → Bool
is_taken p pc fixed = true
is_taken p pc (open_from r) = there (takes_from r) (at p (pc + 1))

abbrev pub lists_fit_marks : Prototype → ℕ → Opcode → Instruction → Bool
lists_fit_marks p pc op w =
    is_taken p pc (leaves w) && ((not (takes_list op w) || not (is_fixed (mark p pc))) && lands_fixed p (target pc op w))

abbrev pub varargs_fit : Prototype → ℕ → Opcode → Bool
varargs_fit p pc VarArgPrep = pc == 0 && p.own.vararg
varargs_fit p pc VarArg = not (pc == 0) && p.own.vararg
varargs_fit p pc op = not (pc == 0 && p.own.vararg)

-- the number of a rule, and whether it holds at a place
abbrev pub Rule : Type 0
Rule = ℕ × Bool

abbrev pub opcode_rules : Prototype → ℕ → Instruction → Opcode → List Rule
opcode_rules p pc w op =
    (3, list_all (λ r. nat_lt r p.own.stack) (registers op w))
    ∷ (4, list_all (λ used. there (constant_is used.0) (slice_get p.own.constants used.1)) (constants op w (extra_at p pc)))
    ∷ (5, list_all (λ u. nat_lt u (length p.own.upvalues)) (upvalues op w))
    ∷ (6, function_there p op w)
    ∷ (7, is_landing p (target pc op w))
    ∷ (8, is_paired p pc op w)
    ∷ (9, is_return op || nat_lt (pc + 1) (length p.own.code))
    ∷ (10, lists_fit_marks p pc op w)
    ∷ (11, varargs_fit p pc op)
    ∷ []

-- no other rule reads an instruction whose opcode rule 2 refuses
abbrev pub rules_by : Prototype → ℕ → Instruction → Option Opcode → List Rule
rules_by p pc w None = (2, false) ∷ []
rules_by p pc w (Some op) = cond (is_whole op) ((2, true) ∷ opcode_rules p pc w op) ((2, false) ∷ [])

-- the rules on one instruction
abbrev pub rules : Prototype → ℕ → Instruction → List Rule
rules p pc w = rules_by p pc w (opcode_of w)

-- the function itself, whose rules stand at its place 0

abbrev pub is_sized : Prototype → Bool
is_sized p = nat_lt 0 (length p.own.code) && (nat_le p.own.params p.own.stack && nat_le (length p.own.upvalues) 255)

abbrev pub is_absolute : ℤ → Bool
is_absolute (pos n) = false
is_absolute (negsuc n) = n == 127

-- the line that is given in full for an instruction
abbrev pub given_line : List AbsLine → ℕ → Option ℕ
given_line lines pc = option_map (λ l. l.line) (find (λ l. l.pc == pc) lines)

-- the line of the instruction at `pc`, from the line in front of it
abbrev pub line_at : List AbsLine → ℕ → Option ℤ → ℤ → Option ℤ
line_at lines pc before change =
    (if is_absolute change then option_map (λ l. pos l.line) (find (λ l. l.pc == pc) lines) else option_map (λ line. line +ℤ change) before)

-- the lines of the instructions from `pc` on
abbrev pub lines_from : List AbsLine → ℕ → Option ℤ → List ℤ → List (Option ℤ)
lines_from lines pc before [] = []
lines_from lines pc before (change ∷ changes) =
    line_at lines pc before change ∷ lines_from lines (pc + 1) (line_at lines pc before change) changes

abbrev pub is_line : Option ℤ → Bool
is_line (Some (pos n)) = number_fits n
is_line _ = false

abbrev pub none_or_one_per : ℕ → ℕ → Bool
none_or_one_per n each = n == 0 || n == each

abbrev pub is_described : Prototype → Bool
is_described p =
    none_or_one_per (length p.own.line_info) (length p.own.code)
    && (list_all is_line (lines_from p.own.abs_lines 0 (Some (pos p.own.line_defined)) p.own.line_info)
    && (none_or_one_per (length p.own.up_names) (length p.own.upvalues) && is_writable p))

-- checked code

abbrev pub AllHold : List Rule → Type 0
AllHold [] = Unit {0}
AllHold (rule ∷ rest) = IsTrue rule.1 × AllHold rest

pub record CodeIsChecked (p : Prototype) : Type 0 where
  pub sized : IsTrue (is_sized p)
  pub places : (pc : ℕ) (w : Instruction) → at p pc ≡ Some w → AllHold (rules p pc w)
  pub described : IsTrue (is_described p)

abbrev pub AllChecked : Prototypes → Type 0
AllChecked none = Unit {0}
AllChecked (more own inner rest) = CodeIsChecked (record { own = own; inner = inner }) × AllChecked inner × AllChecked rest

-- the twelve rules hold in a function and in all that are defined in it
pub record IsChecked (p : Prototype) : Type 0 where
  pub code : CodeIsChecked p
  pub inner : AllChecked p.inner
