-- When code of the prelude keeps its environment to itself: each function reads variables of the environment, may take it to a register of its own, and may
-- share that register with functions that it makes; and it does nothing else with it.
use Rattle.std.specs.Prelude.{ℕ, Bool, true, false, ◌&&◌, ◌||◌, not, List, length, Option, Some, None, nat_eq, nat_lt, slice_get}
use Rattle.std.specs.List.{list_all, list_any}
use Rattle.code_core.specs.declared.opcode.Opcode.{Opcode}
use Rattle.code_core.specs.declared.opcode.Opcode.TheVariants.{GetUpval, SetUpval, GetTabUp, GetTable, GetField, SetTabUp, Concat, Call, TailCall, Return, Return0, Return1, ForLoop, ForPrep, TForCall, SetList}
use Rattle.code_core.specs.declared.instruction.Instruction.{Instruction}
use Rattle.code_core.specs.declared.proto.UpDesc.{UpDesc}
use Rattle.code_core.specs.Instruction.{opcode_of, a_of, b_of, c_of}
use Rattle.code_core.specs.Fields.{registers}
use Rattle.code_core.specs.Prototype.{Prototype, list_of}

-- `held` tells which upvalues may be the environment. An instruction that takes one of them to a register
abbrev pub takes_by : (held : ℕ → Bool) → ℕ → Instruction → Option Opcode → Bool
takes_by held r w (Some GetUpval) = held (b_of w) && nat_eq (a_of w) r
takes_by held r w op = false

abbrev pub takes : (held : ℕ → Bool) → ℕ → Instruction → Bool
takes held r w = takes_by held r w (opcode_of w)

-- the registers of the code that may be the environment
abbrev pub is_taken : (held : ℕ → Bool) → List Instruction → ℕ → Bool
is_taken held code r = list_any (takes held r) code

abbrev pub takes_below_by : (held : ℕ → Bool) → ℕ → Instruction → Option Opcode → Bool
takes_below_by held from w (Some GetUpval) = not (held (b_of w)) || nat_lt (a_of w) from
takes_below_by held from w op = true

abbrev pub takes_below : (held : ℕ → Bool) → ℕ → Instruction → Bool
takes_below held from w = takes_below_by held from w (opcode_of w)

-- the instructions that read registers from A on
abbrev pub reads_from : Opcode → Bool
reads_from Concat = true
reads_from Call = true
reads_from TailCall = true
reads_from Return = true
reads_from Return0 = true
reads_from Return1 = true
reads_from ForLoop = true
reads_from ForPrep = true
reads_from TForCall = true
reads_from SetList = true
reads_from op = false

-- an instruction names none of these registers, and where it reads registers from A on they all stand below
abbrev pub names_none : (held : ℕ → Bool) → List Instruction → Opcode → Instruction → Bool
names_none held code op w = list_all (λ r. not (is_taken held code r)) (registers op w)

abbrev pub spares : (held : ℕ → Bool) → List Instruction → Opcode → Instruction → Bool
spares held code op w = names_none held code op w && (not (reads_from op) || list_all (takes_below held (a_of w)) code)

-- and no such upvalue, but that it takes one to such a register, or reads a variable of what is in one
abbrev pub is_apart : (held : ℕ → Bool) → List Instruction → Opcode → Instruction → Bool
is_apart held code GetUpval w = not (held (b_of w)) || is_taken held code (a_of w)
is_apart held code SetUpval w = not (held (b_of w)) && spares held code SetUpval w
is_apart held code GetTabUp w = true
is_apart held code GetTable w = not (is_taken held code (c_of w))
is_apart held code GetField w = true
is_apart held code SetTabUp w = not (held (a_of w)) && spares held code SetTabUp w
is_apart held code op w = spares held code op w

abbrev pub is_apart_by : (held : ℕ → Bool) → List Instruction → Instruction → Option Opcode → Bool
is_apart_by held code w None = true
is_apart_by held code w (Some op) = is_apart held code op w

-- All upvalues of the prelude's functions are the environment. One of a function that is made by such a function may be, where it is a register that may be

abbrev pub all_held : ℕ → Bool
all_held u = true

abbrev pub is_shared : List Instruction → Option UpDesc → Bool
is_shared outer None = false
is_shared outer (Some u) = u.in_stack && is_taken all_held outer u.index

-- (`outer` makes the function, where it is an inner one)
abbrev pub held_of : (outer own : Prototype) → (is_inner : Bool) → ℕ → Bool
held_of outer own is_inner u = not is_inner || is_shared outer.own.code (slice_get own.own.upvalues u)

abbrev pub code_is_apart : (outer own : Prototype) → (is_inner : Bool) → Bool
code_is_apart outer own is_inner = list_all (λ w. is_apart_by (held_of outer own is_inner) own.own.code w (opcode_of w)) own.own.code

-- such a function shares registers alone, and no function is defined in it
abbrev pub inner_is_apart : (outer own : Prototype) → Bool
inner_is_apart outer own = list_all (λ (u : UpDesc). u.in_stack) own.own.upvalues && (nat_eq (length (list_of own.inner)) 0 && code_is_apart outer own true)

-- a function of the prelude
abbrev pub is_guarded : Prototype → Bool
is_guarded p = code_is_apart p p false && list_all (inner_is_apart p) (list_of p.inner)

-- all functions that are defined in the prelude's text
abbrev pub all_guarded : Prototype → Bool
all_guarded prelude = list_all is_guarded (list_of prelude.inner)
