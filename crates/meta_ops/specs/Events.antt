-- Which event of the meaning each variant is.
use Rattle.int_core.specs.Operations.{Event, of_add, of_sub, of_mul, of_mod, of_idiv, of_band, of_bor, of_bxor, of_shl, of_shr, of_unm, of_bnot, of_concat, of_len, of_eq, of_lt, of_le, of_index, of_newindex, of_call, of_close}
use Rattle.meta_ops.specs.declared.event.Event.{Event as Variant}
use Rattle.meta_ops.specs.declared.event.Event.TheVariants.{Add, Sub, Mul, Mod, IDiv, BAnd, BOr, BXor, Shl, Shr, Unm, BNot, Concat, Len, Eq, Lt, Le, Index, NewIndex, Call, Close}

abbrev pub event_of : Variant → Event
event_of Add = of_add
event_of Sub = of_sub
event_of Mul = of_mul
event_of Mod = of_mod
event_of IDiv = of_idiv
event_of BAnd = of_band
event_of BOr = of_bor
event_of BXor = of_bxor
event_of Shl = of_shl
event_of Shr = of_shr
event_of Unm = of_unm
event_of BNot = of_bnot
event_of Concat = of_concat
event_of Len = of_len
event_of Eq = of_eq
event_of Lt = of_lt
event_of Le = of_le
event_of Index = of_index
event_of NewIndex = of_newindex
event_of Call = of_call
event_of Close = of_close
