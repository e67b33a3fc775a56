-- What a stack ends as, where the registers of the frame on top are lent for writing.
use Rattle.std.specs.Prelude.{List, [], ◌∷◌, length}
use Rattle.std.specs.List.{refill}
use Rattle.std.specs.Borrow.{Lends, MutBor, Fml, Array}
use Rattle.table_core.specs.declared.value.Value.{Value as Kept}
use Rattle.table_core.specs.contracts.value.Value.{the_row as value_row}
use Rattle.lua_stack.specs.Frames.{KeptFrame, kept_lua, kept_pcall, kept_xpcall, kept_handler, kept_closing, KeptStack}
use Rattle.lua_stack.specs.contracts.stack.Stack.{the_row}

-- a Lua frame's registers are written over; it has as many as it had
abbrev pub written_over : List Kept → KeptFrame → KeptFrame
written_over registers (kept_lua t) = kept_lua (record t { registers = refill (length t.registers) t.registers registers })
written_over registers kept_pcall = kept_pcall
written_over registers (kept_xpcall h) = kept_xpcall h
written_over registers kept_handler = kept_handler
written_over registers (kept_closing error left) = kept_closing error left

abbrev pub top_written : List Kept → List KeptFrame → List KeptFrame
top_written registers [] = []
top_written registers (f ∷ []) = written_over registers f ∷ []
top_written registers (f ∷ g ∷ fs) = f ∷ top_written registers (g ∷ fs)

abbrev pub with_top : KeptStack → List Kept → KeptStack
with_top s registers = record { frames = top_written registers s.frames; open_cells = s.open_cells }

-- once the loan ends, the frame on top has the values that were written last
abbrev pub lends_registers : MutBor KeptStack → MutBor (List Kept) → Fml
lends_registers stack registers = Lends the_row (Array value_row 0) stack registers (with_top stack.now)
