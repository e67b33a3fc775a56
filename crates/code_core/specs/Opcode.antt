-- The opcodes by their numbers (lopcodes.h of Lua 5.4).
use Rattle.std.specs.Prelude.{ℕ, List, [], ◌∷◌}
use Rattle.code_core.specs.declared.opcode.Opcode.{Opcode}
use Rattle.code_core.specs.declared.opcode.Opcode.TheVariants.{Move, LoadI, LoadF, LoadK, LoadKx, LoadFalse, LFalseSkip, LoadTrue, LoadNil, GetUpval, SetUpval, GetTabUp, GetTable, GetI, GetField, SetTabUp, SetTable, SetI, SetField, NewTable, OpSelf, AddI, AddK, SubK, MulK, ModK, PowK, DivK, IDivK, BAndK, BOrK, BXorK, ShrI, ShlI, Add, Sub, Mul, Mod, Pow, Div, IDiv, BAnd, BOr, BXor, Shl, Shr, MmBin, MmBinI, MmBinK, Unm, BNot, Not, Len, Concat, Close, Tbc, Jmp, Eq, Lt, Le, EqK, EqI, LtI, LeI, GtI, GeI, Test, TestSet, Call, TailCall, Return, Return0, Return1, ForLoop, ForPrep, TForPrep, TForCall, TForLoop, SetList, Closure, VarArg, VarArgPrep, ExtraArg}

-- the opcodes in the order of their numbers, from 0
unfoldable pub opcodes : List Opcode
opcodes =
    Move ∷ LoadI ∷ LoadF ∷ LoadK ∷ LoadKx ∷ LoadFalse ∷ LFalseSkip ∷ LoadTrue ∷
    LoadNil ∷ GetUpval ∷ SetUpval ∷ GetTabUp ∷ GetTable ∷ GetI ∷ GetField ∷ SetTabUp ∷
    SetTable ∷ SetI ∷ SetField ∷ NewTable ∷ OpSelf ∷ AddI ∷ AddK ∷ SubK ∷
    MulK ∷ ModK ∷ PowK ∷ DivK ∷ IDivK ∷ BAndK ∷ BOrK ∷ BXorK ∷
    ShrI ∷ ShlI ∷ Add ∷ Sub ∷ Mul ∷ Mod ∷ Pow ∷ Div ∷
    IDiv ∷ BAnd ∷ BOr ∷ BXor ∷ Shl ∷ Shr ∷ MmBin ∷ MmBinI ∷
    MmBinK ∷ Unm ∷ BNot ∷ Not ∷ Len ∷ Concat ∷ Close ∷ Tbc ∷
    Jmp ∷ Eq ∷ Lt ∷ Le ∷ EqK ∷ EqI ∷ LtI ∷ LeI ∷
    GtI ∷ GeI ∷ Test ∷ TestSet ∷ Call ∷ TailCall ∷ Return ∷ Return0 ∷
    Return1 ∷ ForLoop ∷ ForPrep ∷ TForPrep ∷ TForCall ∷ TForLoop ∷ SetList ∷ Closure ∷
    VarArg ∷ VarArgPrep ∷ ExtraArg ∷
    []

unfoldable pub number_of : Opcode → ℕ
number_of Move = 0
number_of LoadI = 1
number_of LoadF = 2
number_of LoadK = 3
number_of LoadKx = 4
number_of LoadFalse = 5
number_of LFalseSkip = 6
number_of LoadTrue = 7
number_of LoadNil = 8
number_of GetUpval = 9
number_of SetUpval = 10
number_of GetTabUp = 11
number_of GetTable = 12
number_of GetI = 13
number_of GetField = 14
number_of SetTabUp = 15
number_of SetTable = 16
number_of SetI = 17
number_of SetField = 18
number_of NewTable = 19
number_of OpSelf = 20
number_of AddI = 21
number_of AddK = 22
number_of SubK = 23
number_of MulK = 24
number_of ModK = 25
number_of PowK = 26
number_of DivK = 27
number_of IDivK = 28
number_of BAndK = 29
number_of BOrK = 30
number_of BXorK = 31
number_of ShrI = 32
number_of ShlI = 33
number_of Add = 34
number_of Sub = 35
number_of Mul = 36
number_of Mod = 37
number_of Pow = 38
number_of Div = 39
number_of IDiv = 40
number_of BAnd = 41
number_of BOr = 42
number_of BXor = 43
number_of Shl = 44
number_of Shr = 45
number_of MmBin = 46
number_of MmBinI = 47
number_of MmBinK = 48
number_of Unm = 49
number_of BNot = 50
number_of Not = 51
number_of Len = 52
number_of Concat = 53
number_of Close = 54
number_of Tbc = 55
number_of Jmp = 56
number_of Eq = 57
number_of Lt = 58
number_of Le = 59
number_of EqK = 60
number_of EqI = 61
number_of LtI = 62
number_of LeI = 63
number_of GtI = 64
number_of GeI = 65
number_of Test = 66
number_of TestSet = 67
number_of Call = 68
number_of TailCall = 69
number_of Return = 70
number_of Return0 = 71
number_of Return1 = 72
number_of ForLoop = 73
number_of ForPrep = 74
number_of TForPrep = 75
number_of TForCall = 76
number_of TForLoop = 77
number_of SetList = 78
number_of Closure = 79
number_of VarArg = 80
number_of VarArgPrep = 81
number_of ExtraArg = 82
