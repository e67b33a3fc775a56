-- The words that code is made of, one by one.
use Rattle.std.proofs.Common.{◌≡◌, ℕ, ◌<◌, ◌^◌, Bool, true, false, not, ◌&&◌, ◌==◌, List, [], ◌∷◌, Option, Some, None, length, slice_get, refl, ap, ◌∙◌, arith, lt-ltb}
use Rattle.std.specs.Prelude.{nat_lt}
use Rattle.std.specs.List.{list_all}
use Rattle.code_core.specs.declared.opcode.Opcode.{Opcode}
use Rattle.code_core.specs.declared.opcode.Opcode.TheVariants.{Move, LoadI, LoadFalse, LoadTrue, LoadNil, GetTable, GetI, Unm, BNot, Not, Len, Concat, Close, Tbc, Add, Sub, Mul, Mod, IDiv, BAnd, BOr, BXor, Shl, Shr, AddI, ShrI, Eq, Lt, Le, EqI, LtI, LeI, GtI, GeI, Test, TestSet, NewTable, TForCall, TForLoop, MmBin, MmBinI, ExtraArg, Jmp, GetUpval, SetUpval, GetTabUp, GetField, LoadK, SetI, SetField, SetTabUp, SetTable, OpSelf, ForPrep, ForLoop, TForPrep, LFalseSkip, LoadKx, SetList, EqK}
use Rattle.code_core.specs.declared.instruction.Instruction.{Instruction}
use Rattle.code_core.specs.Instruction.{abc, abx, op_ax, opcode_of}
use Rattle.code_core.specs.Fields.{is_whole, constants, upvalues, target, second_half, stands_second, takes_list, opens}
use Rattle.code_core.specs.Prototype.{Prototype}
use Rattle.code_core.specs.Writable.{word_fits}
use Rattle.code_core.specs.Check.{there, constant_is, function_there, varargs_fit, agrees}
use Rattle.code_core.proofs.Opcodes.{number_below}
use Rattle.code_core.proofs.FieldLemmas.{opcode_of-abc, opcode_of-abx, flag_below}
use Rattle.code_of.specs.Coded.{with_abc, with_abx}
use Rattle.code_checked.proofs.Pieces.{Seam, closed, Piece}
use Rattle.code_checked.proofs.Units.{Takes, Single, Plain, Couple, one, extra_of}

-- fields that fit make a word that fits

pub abc_fits : (op : Opcode) (a b c : ℕ) (k : Bool) → a < 2 ^ 8 → b < 2 ^ 8 → c < 2 ^ 8 → word_fits (abc op a b c k) ≡ true
abc_fits op a b c k af bf cf = let small = number_below op in let flag = flag_below k in lt-ltb _ _ (omega (arith, small, flag, af, bf, cf))

pub abx_fits : (op : Opcode) (a bx : ℕ) → a < 2 ^ 8 → bx < 2 ^ 17 → word_fits (abx op a bx) ≡ true
abx_fits op a bx af bf = let small = number_below op in lt-ltb _ _ (omega (arith, small, af, bf))

pub ax_fits : (op : Opcode) (ax : ℕ) → ax < 2 ^ 25 → word_fits (op_ax op ax) ≡ true
ax_fits op ax af = let small = number_below op in lt-ltb _ _ (omega (arith, small, af))

module _ (p : Prototype) where
  -- an opcode without constants, upvalues, lists and jumps, and the one with which it begins a pair, if there is one
  pub record IsOrdinary (op : Opcode) (second : Option Opcode) : Type 0 where
    pub whole : is_whole op ≡ true
    pub alone : stands_second op ≡ false
    pub constant : (w : Instruction) (extra : Option ℕ) → constants op w extra ≡ []
    pub upvalue : (w : Instruction) → upvalues op w ≡ []
    pub inner : (w : Instruction) → function_there p op w ≡ true
    pub half : (w : Instruction) → second_half op w ≡ second
    pub gives : (w : Instruction) → opens op w ≡ None
    pub takes : (w : Instruction) → takes_list op w ≡ false
    pub still : (pc : ℕ) (w : Instruction) → target pc op w ≡ None
    pub varargs : (pc : ℕ) → varargs_fit p pc op ≡ not (pc == 0 && p.own.vararg)

  -- one that begins no pair
  abbrev pub IsSimple : Opcode → Type 0
  IsSimple op = IsOrdinary op None

  -- one that begins a pair
  abbrev pub IsFirst : (op second : Opcode) → Type 0
  IsFirst op second = IsOrdinary op (Some second)

  -- one that stands alone, whatever it names: no half of a pair, without a list and without a function
  pub record IsAlone (op : Opcode) : Type 0 where
    pub whole : is_whole op ≡ true
    pub alone : stands_second op ≡ false
    pub inner : (w : Instruction) → function_there p op w ≡ true
    pub half : (w : Instruction) → second_half op w ≡ None
    pub gives : (w : Instruction) → opens op w ≡ None
    pub takes : (w : Instruction) → takes_list op w ≡ false
    pub varargs : (pc : ℕ) → varargs_fit p pc op ≡ not (pc == 0 && p.own.vararg)

  -- the first half of a pair, whatever constants it names and whatever list it takes
  pub record IsJoined (op : Opcode) : Type 0 where
    pub whole : is_whole op ≡ true
    pub alone : stands_second op ≡ false
    pub upvalue : (w : Instruction) → upvalues op w ≡ []
    pub inner : (w : Instruction) → function_there p op w ≡ true
    pub gives : (w : Instruction) → opens op w ≡ None
    pub still : (pc : ℕ) (w : Instruction) → target pc op w ≡ None
    pub varargs : (pc : ℕ) → varargs_fit p pc op ≡ not (pc == 0 && p.own.vararg)

  -- one that ends a pair
  pub record IsLast (op : Opcode) : Type 0 where
    pub whole : is_whole op ≡ true
    pub constant : (w : Instruction) (extra : Option ℕ) → constants op w extra ≡ []
    pub upvalue : (w : Instruction) → upvalues op w ≡ []
    pub inner : (w : Instruction) → function_there p op w ≡ true
    pub half : (w : Instruction) → second_half op w ≡ None
    pub gives : (w : Instruction) → opens op w ≡ None
    pub takes : (w : Instruction) → takes_list op w ≡ false
    pub varargs : (pc : ℕ) → varargs_fit p pc op ≡ not (pc == 0 && p.own.vararg)

  pub simple_move : IsSimple Move
  simple_move = record { whole = refl; alone = refl; constant = λ w extra. refl; upvalue = λ w. refl; inner = λ w. refl; half = λ w. refl; gives = λ w. refl; takes = λ w. refl; still = λ pc w. refl; varargs = λ pc. refl }

  pub simple_load_i : IsSimple LoadI
  simple_load_i = record { whole = refl; alone = refl; constant = λ w extra. refl; upvalue = λ w. refl; inner = λ w. refl; half = λ w. refl; gives = λ w. refl; takes = λ w. refl; still = λ pc w. refl; varargs = λ pc. refl }

  pub simple_load_false : IsSimple LoadFalse
  simple_load_false = record { whole = refl; alone = refl; constant = λ w extra. refl; upvalue = λ w. refl; inner = λ w. refl; half = λ w. refl; gives = λ w. refl; takes = λ w. refl; still = λ pc w. refl; varargs = λ pc. refl }

  pub simple_load_true : IsSimple LoadTrue
  simple_load_true = record { whole = refl; alone = refl; constant = λ w extra. refl; upvalue = λ w. refl; inner = λ w. refl; half = λ w. refl; gives = λ w. refl; takes = λ w. refl; still = λ pc w. refl; varargs = λ pc. refl }

  pub simple_load_nil : IsSimple LoadNil
  simple_load_nil = record { whole = refl; alone = refl; constant = λ w extra. refl; upvalue = λ w. refl; inner = λ w. refl; half = λ w. refl; gives = λ w. refl; takes = λ w. refl; still = λ pc w. refl; varargs = λ pc. refl }

  pub simple_get_table : IsSimple GetTable
  simple_get_table = record { whole = refl; alone = refl; constant = λ w extra. refl; upvalue = λ w. refl; inner = λ w. refl; half = λ w. refl; gives = λ w. refl; takes = λ w. refl; still = λ pc w. refl; varargs = λ pc. refl }

  pub simple_get_i : IsSimple GetI
  simple_get_i = record { whole = refl; alone = refl; constant = λ w extra. refl; upvalue = λ w. refl; inner = λ w. refl; half = λ w. refl; gives = λ w. refl; takes = λ w. refl; still = λ pc w. refl; varargs = λ pc. refl }

  pub simple_unm : IsSimple Unm
  simple_unm = record { whole = refl; alone = refl; constant = λ w extra. refl; upvalue = λ w. refl; inner = λ w. refl; half = λ w. refl; gives = λ w. refl; takes = λ w. refl; still = λ pc w. refl; varargs = λ pc. refl }

  pub simple_b_not : IsSimple BNot
  simple_b_not = record { whole = refl; alone = refl; constant = λ w extra. refl; upvalue = λ w. refl; inner = λ w. refl; half = λ w. refl; gives = λ w. refl; takes = λ w. refl; still = λ pc w. refl; varargs = λ pc. refl }

  pub simple_not : IsSimple Not
  simple_not = record { whole = refl; alone = refl; constant = λ w extra. refl; upvalue = λ w. refl; inner = λ w. refl; half = λ w. refl; gives = λ w. refl; takes = λ w. refl; still = λ pc w. refl; varargs = λ pc. refl }

  pub simple_len : IsSimple Len
  simple_len = record { whole = refl; alone = refl; constant = λ w extra. refl; upvalue = λ w. refl; inner = λ w. refl; half = λ w. refl; gives = λ w. refl; takes = λ w. refl; still = λ pc w. refl; varargs = λ pc. refl }

  pub simple_concat : IsSimple Concat
  simple_concat = record { whole = refl; alone = refl; constant = λ w extra. refl; upvalue = λ w. refl; inner = λ w. refl; half = λ w. refl; gives = λ w. refl; takes = λ w. refl; still = λ pc w. refl; varargs = λ pc. refl }

  pub simple_close : IsSimple Close
  simple_close = record { whole = refl; alone = refl; constant = λ w extra. refl; upvalue = λ w. refl; inner = λ w. refl; half = λ w. refl; gives = λ w. refl; takes = λ w. refl; still = λ pc w. refl; varargs = λ pc. refl }

  pub simple_tbc : IsSimple Tbc
  simple_tbc = record { whole = refl; alone = refl; constant = λ w extra. refl; upvalue = λ w. refl; inner = λ w. refl; half = λ w. refl; gives = λ w. refl; takes = λ w. refl; still = λ pc w. refl; varargs = λ pc. refl }

  pub alone_get_upvalue : IsAlone GetUpval
  alone_get_upvalue = record { whole = refl; alone = refl; inner = λ w. refl; half = λ w. refl; gives = λ w. refl; takes = λ w. refl; varargs = λ pc. refl }

  pub alone_set_upvalue : IsAlone SetUpval
  alone_set_upvalue = record { whole = refl; alone = refl; inner = λ w. refl; half = λ w. refl; gives = λ w. refl; takes = λ w. refl; varargs = λ pc. refl }

  pub alone_get_tab_up : IsAlone GetTabUp
  alone_get_tab_up = record { whole = refl; alone = refl; inner = λ w. refl; half = λ w. refl; gives = λ w. refl; takes = λ w. refl; varargs = λ pc. refl }

  pub alone_get_field : IsAlone GetField
  alone_get_field = record { whole = refl; alone = refl; inner = λ w. refl; half = λ w. refl; gives = λ w. refl; takes = λ w. refl; varargs = λ pc. refl }

  pub alone_load_k : IsAlone LoadK
  alone_load_k = record { whole = refl; alone = refl; inner = λ w. refl; half = λ w. refl; gives = λ w. refl; takes = λ w. refl; varargs = λ pc. refl }

  pub alone_set_i : IsAlone SetI
  alone_set_i = record { whole = refl; alone = refl; inner = λ w. refl; half = λ w. refl; gives = λ w. refl; takes = λ w. refl; varargs = λ pc. refl }

  pub alone_set_field : IsAlone SetField
  alone_set_field = record { whole = refl; alone = refl; inner = λ w. refl; half = λ w. refl; gives = λ w. refl; takes = λ w. refl; varargs = λ pc. refl }

  pub alone_set_tab_up : IsAlone SetTabUp
  alone_set_tab_up = record { whole = refl; alone = refl; inner = λ w. refl; half = λ w. refl; gives = λ w. refl; takes = λ w. refl; varargs = λ pc. refl }

  pub alone_set_table : IsAlone SetTable
  alone_set_table = record { whole = refl; alone = refl; inner = λ w. refl; half = λ w. refl; gives = λ w. refl; takes = λ w. refl; varargs = λ pc. refl }

  pub alone_self : IsAlone OpSelf
  alone_self = record { whole = refl; alone = refl; inner = λ w. refl; half = λ w. refl; gives = λ w. refl; takes = λ w. refl; varargs = λ pc. refl }

  pub alone_for_prep : IsAlone ForPrep
  alone_for_prep = record { whole = refl; alone = refl; inner = λ w. refl; half = λ w. refl; gives = λ w. refl; takes = λ w. refl; varargs = λ pc. refl }

  pub alone_for_loop : IsAlone ForLoop
  alone_for_loop = record { whole = refl; alone = refl; inner = λ w. refl; half = λ w. refl; gives = λ w. refl; takes = λ w. refl; varargs = λ pc. refl }

  pub alone_t_for_prep : IsAlone TForPrep
  alone_t_for_prep = record { whole = refl; alone = refl; inner = λ w. refl; half = λ w. refl; gives = λ w. refl; takes = λ w. refl; varargs = λ pc. refl }

  pub alone_jump : IsAlone Jmp
  alone_jump = record { whole = refl; alone = refl; inner = λ w. refl; half = λ w. refl; gives = λ w. refl; takes = λ w. refl; varargs = λ pc. refl }

  pub alone_false_skip : IsAlone LFalseSkip
  alone_false_skip = record { whole = refl; alone = refl; inner = λ w. refl; half = λ w. refl; gives = λ w. refl; takes = λ w. refl; varargs = λ pc. refl }

  pub first_add : IsFirst Add MmBin
  first_add = record { whole = refl; alone = refl; constant = λ w extra. refl; upvalue = λ w. refl; inner = λ w. refl; half = λ w. refl; gives = λ w. refl; takes = λ w. refl; still = λ pc w. refl; varargs = λ pc. refl }

  pub first_sub : IsFirst Sub MmBin
  first_sub = record { whole = refl; alone = refl; constant = λ w extra. refl; upvalue = λ w. refl; inner = λ w. refl; half = λ w. refl; gives = λ w. refl; takes = λ w. refl; still = λ pc w. refl; varargs = λ pc. refl }

  pub first_mul : IsFirst Mul MmBin
  first_mul = record { whole = refl; alone = refl; constant = λ w extra. refl; upvalue = λ w. refl; inner = λ w. refl; half = λ w. refl; gives = λ w. refl; takes = λ w. refl; still = λ pc w. refl; varargs = λ pc. refl }

  pub first_mod : IsFirst Mod MmBin
  first_mod = record { whole = refl; alone = refl; constant = λ w extra. refl; upvalue = λ w. refl; inner = λ w. refl; half = λ w. refl; gives = λ w. refl; takes = λ w. refl; still = λ pc w. refl; varargs = λ pc. refl }

  pub first_i_div : IsFirst IDiv MmBin
  first_i_div = record { whole = refl; alone = refl; constant = λ w extra. refl; upvalue = λ w. refl; inner = λ w. refl; half = λ w. refl; gives = λ w. refl; takes = λ w. refl; still = λ pc w. refl; varargs = λ pc. refl }

  pub first_b_and : IsFirst BAnd MmBin
  first_b_and = record { whole = refl; alone = refl; constant = λ w extra. refl; upvalue = λ w. refl; inner = λ w. refl; half = λ w. refl; gives = λ w. refl; takes = λ w. refl; still = λ pc w. refl; varargs = λ pc. refl }

  pub first_b_or : IsFirst BOr MmBin
  first_b_or = record { whole = refl; alone = refl; constant = λ w extra. refl; upvalue = λ w. refl; inner = λ w. refl; half = λ w. refl; gives = λ w. refl; takes = λ w. refl; still = λ pc w. refl; varargs = λ pc. refl }

  pub first_b_xor : IsFirst BXor MmBin
  first_b_xor = record { whole = refl; alone = refl; constant = λ w extra. refl; upvalue = λ w. refl; inner = λ w. refl; half = λ w. refl; gives = λ w. refl; takes = λ w. refl; still = λ pc w. refl; varargs = λ pc. refl }

  pub first_shl : IsFirst Shl MmBin
  first_shl = record { whole = refl; alone = refl; constant = λ w extra. refl; upvalue = λ w. refl; inner = λ w. refl; half = λ w. refl; gives = λ w. refl; takes = λ w. refl; still = λ pc w. refl; varargs = λ pc. refl }

  pub first_shr : IsFirst Shr MmBin
  first_shr = record { whole = refl; alone = refl; constant = λ w extra. refl; upvalue = λ w. refl; inner = λ w. refl; half = λ w. refl; gives = λ w. refl; takes = λ w. refl; still = λ pc w. refl; varargs = λ pc. refl }

  pub first_eq : IsFirst Eq Jmp
  first_eq = record { whole = refl; alone = refl; constant = λ w extra. refl; upvalue = λ w. refl; inner = λ w. refl; half = λ w. refl; gives = λ w. refl; takes = λ w. refl; still = λ pc w. refl; varargs = λ pc. refl }

  pub first_lt : IsFirst Lt Jmp
  first_lt = record { whole = refl; alone = refl; constant = λ w extra. refl; upvalue = λ w. refl; inner = λ w. refl; half = λ w. refl; gives = λ w. refl; takes = λ w. refl; still = λ pc w. refl; varargs = λ pc. refl }

  pub first_le : IsFirst Le Jmp
  first_le = record { whole = refl; alone = refl; constant = λ w extra. refl; upvalue = λ w. refl; inner = λ w. refl; half = λ w. refl; gives = λ w. refl; takes = λ w. refl; still = λ pc w. refl; varargs = λ pc. refl }

  pub first_add_i : IsFirst AddI MmBinI
  first_add_i = record { whole = refl; alone = refl; constant = λ w extra. refl; upvalue = λ w. refl; inner = λ w. refl; half = λ w. refl; gives = λ w. refl; takes = λ w. refl; still = λ pc w. refl; varargs = λ pc. refl }

  pub first_shr_i : IsFirst ShrI MmBinI
  first_shr_i = record { whole = refl; alone = refl; constant = λ w extra. refl; upvalue = λ w. refl; inner = λ w. refl; half = λ w. refl; gives = λ w. refl; takes = λ w. refl; still = λ pc w. refl; varargs = λ pc. refl }

  pub first_eq_i : IsFirst EqI Jmp
  first_eq_i = record { whole = refl; alone = refl; constant = λ w extra. refl; upvalue = λ w. refl; inner = λ w. refl; half = λ w. refl; gives = λ w. refl; takes = λ w. refl; still = λ pc w. refl; varargs = λ pc. refl }

  pub first_lt_i : IsFirst LtI Jmp
  first_lt_i = record { whole = refl; alone = refl; constant = λ w extra. refl; upvalue = λ w. refl; inner = λ w. refl; half = λ w. refl; gives = λ w. refl; takes = λ w. refl; still = λ pc w. refl; varargs = λ pc. refl }

  pub first_le_i : IsFirst LeI Jmp
  first_le_i = record { whole = refl; alone = refl; constant = λ w extra. refl; upvalue = λ w. refl; inner = λ w. refl; half = λ w. refl; gives = λ w. refl; takes = λ w. refl; still = λ pc w. refl; varargs = λ pc. refl }

  pub first_gt_i : IsFirst GtI Jmp
  first_gt_i = record { whole = refl; alone = refl; constant = λ w extra. refl; upvalue = λ w. refl; inner = λ w. refl; half = λ w. refl; gives = λ w. refl; takes = λ w. refl; still = λ pc w. refl; varargs = λ pc. refl }

  pub first_ge_i : IsFirst GeI Jmp
  first_ge_i = record { whole = refl; alone = refl; constant = λ w extra. refl; upvalue = λ w. refl; inner = λ w. refl; half = λ w. refl; gives = λ w. refl; takes = λ w. refl; still = λ pc w. refl; varargs = λ pc. refl }

  pub first_test : IsFirst Test Jmp
  first_test = record { whole = refl; alone = refl; constant = λ w extra. refl; upvalue = λ w. refl; inner = λ w. refl; half = λ w. refl; gives = λ w. refl; takes = λ w. refl; still = λ pc w. refl; varargs = λ pc. refl }

  pub first_test_set : IsFirst TestSet Jmp
  first_test_set = record { whole = refl; alone = refl; constant = λ w extra. refl; upvalue = λ w. refl; inner = λ w. refl; half = λ w. refl; gives = λ w. refl; takes = λ w. refl; still = λ pc w. refl; varargs = λ pc. refl }

  pub first_new_table : IsFirst NewTable ExtraArg
  first_new_table = record { whole = refl; alone = refl; constant = λ w extra. refl; upvalue = λ w. refl; inner = λ w. refl; half = λ w. refl; gives = λ w. refl; takes = λ w. refl; still = λ pc w. refl; varargs = λ pc. refl }

  pub first_iterate : IsFirst TForCall TForLoop
  first_iterate = record { whole = refl; alone = refl; constant = λ w extra. refl; upvalue = λ w. refl; inner = λ w. refl; half = λ w. refl; gives = λ w. refl; takes = λ w. refl; still = λ pc w. refl; varargs = λ pc. refl }

  pub joined_load_kx : IsJoined LoadKx
  joined_load_kx = record { whole = refl; alone = refl; upvalue = λ w. refl; inner = λ w. refl; gives = λ w. refl; still = λ pc w. refl; varargs = λ pc. refl }

  pub joined_set_list : IsJoined SetList
  joined_set_list = record { whole = refl; alone = refl; upvalue = λ w. refl; inner = λ w. refl; gives = λ w. refl; still = λ pc w. refl; varargs = λ pc. refl }

  pub joined_eq_k : IsJoined EqK
  joined_eq_k = record { whole = refl; alone = refl; upvalue = λ w. refl; inner = λ w. refl; gives = λ w. refl; still = λ pc w. refl; varargs = λ pc. refl }

  pub last_event : IsLast MmBin
  last_event = record { whole = refl; constant = λ w extra. refl; upvalue = λ w. refl; inner = λ w. refl; half = λ w. refl; gives = λ w. refl; takes = λ w. refl; varargs = λ pc. refl }

  pub last_number_event : IsLast MmBinI
  last_number_event = record { whole = refl; constant = λ w extra. refl; upvalue = λ w. refl; inner = λ w. refl; half = λ w. refl; gives = λ w. refl; takes = λ w. refl; varargs = λ pc. refl }

  pub last_extra : IsLast ExtraArg
  last_extra = record { whole = refl; constant = λ w extra. refl; upvalue = λ w. refl; inner = λ w. refl; half = λ w. refl; gives = λ w. refl; takes = λ w. refl; varargs = λ pc. refl }

  pub last_jump : IsLast Jmp
  last_jump = record { whole = refl; constant = λ w extra. refl; upvalue = λ w. refl; inner = λ w. refl; half = λ w. refl; gives = λ w. refl; takes = λ w. refl; varargs = λ pc. refl }

  pub last_iterate : IsLast TForLoop
  last_iterate = record { whole = refl; constant = λ w extra. refl; upvalue = λ w. refl; inner = λ w. refl; half = λ w. refl; gives = λ w. refl; takes = λ w. refl; varargs = λ pc. refl }

  pub list_none : {A : Type 0} (test : A → Bool) (xs : List A) → xs ≡ [] → Rattle.std.specs.List.list_all test xs ≡ true
  list_none test xs e = ap (Rattle.std.specs.List.list_all test) e

  -- an instruction of an opcode that stands alone, given that what it names is there
  abbrev pub lone : (op : Opcode) → IsAlone op → (w : Instruction) → opcode_of w ≡ Some op → word_fits w ≡ true
      → ((extra : Option ℕ) → list_all (λ used. there (constant_is used.0) (slice_get p.own.constants used.1)) (constants op w extra) ≡ true)
      → list_all (λ u. nat_lt u (length p.own.upvalues)) (upvalues op w) ≡ true → Single p closed closed w
  lone op s w is fits constant upvalue =
      record { opcode = op; is = is; whole = s.whole; fits = fits; alone = s.alone; constant = constant; upvalue = upvalue; inner = λ pc here. s.inner w; half = s.half w; gives = s.gives w; takes = s.takes w; varargs = λ pc h. s.varargs pc ∙ h }

  pub plain : (op : Opcode) → IsSimple op → (w : Instruction) → opcode_of w ≡ Some op → word_fits w ≡ true → Plain p closed closed w
  plain op s w is fits = record {
    single = lone op (record { whole = s.whole; alone = s.alone; inner = s.inner; half = s.half; gives = s.gives; takes = s.takes; varargs = s.varargs }) w is fits (λ extra. list_none _ _ (s.constant w extra)) (list_none _ _ (s.upvalue w));
    still = λ pc. s.still pc w;
  }

  pub simple : {H : Type 0} {pc : ℕ} (op : Opcode) → IsSimple op → (a b c line : ℕ) → a < 2 ^ 8 → b < 2 ^ 8 → c < 2 ^ 8 → Piece p H closed closed pc (with_abc op a b c line ∷ [])
  simple {H} {pc} op s a b c line af bf cf = one p closed closed (abc op a b c false) line (plain op s (abc op a b c false) (opcode_of-abc op a b c false) (abc_fits op a b c false af bf cf))

  pub simple_wide : {H : Type 0} {pc : ℕ} (op : Opcode) → IsSimple op → (a bx line : ℕ) → a < 2 ^ 8 → bx < 2 ^ 17 → Piece p H closed closed pc (with_abx op a bx line ∷ [])
  simple_wide {H} {pc} op s a bx line af bf = one p closed closed (abx op a bx) line (plain op s (abx op a bx) (opcode_of-abx op a bx) (abx_fits op a bx af bf))

  -- a pair whose first half names constants that are there, or takes a list
  abbrev pub joined : (f : Seam) (op second : Opcode) → IsJoined op → IsLast second → (w v : Instruction) → opcode_of w ≡ Some op → word_fits w ≡ true
      → list_all (λ used. there (constant_is used.0) (slice_get p.own.constants used.1)) (constants op w (extra_of p v)) ≡ true → Takes p f op w → second_half op w ≡ Some second
      → opcode_of v ≡ Some second → word_fits v ≡ true → agrees w v second ≡ true → Couple p f w v
  joined f op second s l w v is fits constant takes half second_is second_fits agree = record {
    opcode = op;
    is = is;
    whole = s.whole;
    fits = fits;
    alone = s.alone;
    constant = constant;
    upvalue = list_none _ _ (s.upvalue w);
    inner = s.inner w;
    still = λ pc. s.still pc w;
    gives = s.gives w;
    takes = takes;
    varargs = λ pc h. s.varargs pc ∙ h;
    second = second;
    half = half;
    agree = agree;
    second_is = second_is;
    second_whole = l.whole;
    second_fits = second_fits;
    second_constant = λ extra. list_none _ _ (l.constant v extra);
    second_upvalue = list_none _ _ (l.upvalue v);
    second_inner = l.inner v;
    second_half_none = l.half v;
    second_gives = l.gives v;
    second_takes = l.takes v;
    second_varargs = λ pc h. l.varargs pc ∙ h;
  }

  -- a pair that names no constant and takes no list
  abbrev pub pair : (op second : Opcode) → IsFirst op second → IsLast second → (w v : Instruction) → opcode_of w ≡ Some op → word_fits w ≡ true → opcode_of v ≡ Some second → word_fits v ≡ true → agrees w v second ≡ true → Couple p closed w v
  pair op second s l w v is fits second_is second_fits agree =
      joined closed op second (record { whole = s.whole; alone = s.alone; upvalue = s.upvalue; inner = s.inner; gives = s.gives; still = s.still; varargs = s.varargs }) l w v is fits
      (list_none _ _ (s.constant w (extra_of p v))) (s.takes w) (s.half w) second_is second_fits agree
