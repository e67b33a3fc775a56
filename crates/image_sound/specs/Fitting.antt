-- What a reader looks at last, when all records are read: that each Lua frame fits the instruction at which it waits, and that each open cell names a register
-- of a frame that is there, which no other cell names. And the reading of an image as a whole.
use Rattle.std.specs.Prelude.{ℕ, ◌≡◌, true, false, Bool, cond, not, ◌&&◌, List, [], ◌∷◌, length, Option, Some, None, nat_eq, nat_lt, slice_get, IsTrue}
use Rattle.std.specs.List.{list_all, list_any}
use Rattle.code_core.specs.declared.instruction.Instruction.{Instruction}
use Rattle.code_core.specs.Instruction.{opcode_of}
use Rattle.code_core.specs.Prototype.{Prototype}
use Rattle.code_core.specs.Check.{IsChecked, at}
use Rattle.int_core.specs.Value.{Kind, a_function, object, bind}
use Rattle.int_core.specs.Operations.{is_function}
use Rattle.machine_core.specs.World.{Function}
use Rattle.machine_sound.specs.Sound.{sizes, Valid, waits_at, waiting_size, kept_below}
use Rattle.image_core.specs.Image.{PermKey, Item, numbered, permanent, LuaFrameItem, FrameItem, lua_item, Record, function_record, open_record, suspended_record, Image}
use Rattle.image_bytes.specs.Format.{Got, read, refused, of_kind}
use Rattle.image_bytes.specs.Bytes.{Reader, is_sort, read_image}
use Rattle.image_sound.specs.SoundImage.{Host, IsSoundImage}

-- the code of a frame's function: that of a record, or of a permanent Lua function; a primitive has none
abbrev pub code_in : Record → Option Prototype
code_in (function_record code cells) = Some code
code_in _ = None

abbrev pub code_of_item : (PermKey → Option Prototype) → List Record → Item → Option Prototype
code_of_item code_named rs (numbered n) = bind (slice_get rs n) code_in
code_of_item code_named rs (permanent a_function key) = code_named key
code_of_item code_named rs _ = None

-- the frame waits at an instruction that may wait so, has as many registers as it then has, and its pending registers are kept
abbrev pub fits_instruction : Prototype → LuaFrameItem → Instruction → Bool
fits_instruction p f w = elim (opcode_of w) [
  | None ↦ false
  | Some op ↦ waits_at f.wait op w && (nat_eq (length f.registers) (waiting_size f.wait w p.own.stack)
      && (list_all (λ r. nat_lt r p.own.stack) f.pending && list_all (λ r. nat_lt r (kept_below f.wait w p.own.stack)) f.pending))
]

abbrev pub fits_code : LuaFrameItem → Prototype → Bool
fits_code f p = elim (at p f.pc) [ None ↦ false | Some w ↦ fits_instruction p f w ]

abbrev pub lua_fits : (PermKey → Option Prototype) → List Record → LuaFrameItem → Bool
lua_fits code_named rs f = elim (code_of_item code_named rs f.function) [ None ↦ false | Some p ↦ fits_code f p ]

abbrev pub frame_fits : (PermKey → Option Prototype) → List Record → FrameItem → Bool
frame_fits code_named rs (lua_item f) = lua_fits code_named rs f
frame_fits code_named rs _ = true

abbrev pub frames_in : Record → Option (List FrameItem)
frames_in (suspended_record frames) = Some frames
frames_in _ = None

abbrev pub lua_frame_in : FrameItem → Option LuaFrameItem
lua_frame_in (lua_item f) = Some f
lua_frame_in _ = None

-- an open cell: its coroutine is suspended, and has a Lua frame of that number with that register
abbrev pub register_there : List Record → ℕ → ℕ → ℕ → Bool
register_there rs co frame register = elim (bind (bind (bind (slice_get rs co) frames_in) (λ fs. slice_get fs frame)) lua_frame_in) [
  | None ↦ false
  | Some f ↦ nat_lt register (length f.registers)
]

abbrev pub record_fits : (PermKey → Option Prototype) → List Record → Record → Bool
record_fits code_named rs (suspended_record frames) = list_all (frame_fits code_named rs) frames
record_fits code_named rs (open_record co frame register) = register_there rs co frame register
record_fits code_named rs _ = true

-- no other cell is open at the same place
abbrev pub is_open_record : ℕ → ℕ → ℕ → Record → Bool
is_open_record co frame register (open_record c f r) = nat_eq co c && (nat_eq frame f && nat_eq register r)
is_open_record co frame register _ = false

abbrev pub opened_again : Record → List Record → Bool
opened_again (open_record co frame register) rs = list_any (is_open_record co frame register) rs
opened_again _ rs = false

abbrev pub opened_once : List Record → Bool
opened_once [] = true
opened_once (r ∷ rs) = not (opened_again r rs) && opened_once rs

abbrev pub all_fit : (PermKey → Option Prototype) → List Record → Bool
all_fit code_named rs = list_all (record_fits code_named rs) rs && opened_once rs

-- the reading of an image: the first fault in the order of the bytes, then what is left over, then the frames and open cells
abbrev pub with_fits : (PermKey → Option Prototype) → Got Image → Got Image
with_fits code_named (read I met rest) = cond (all_fit code_named I.records) (read I met rest) (refused (of_kind 9))
with_fits code_named (refused fault) = refused fault

abbrev pub reads : Reader → (PermKey → Option Prototype) → (roots : ℕ) → List ℕ → Got Image
reads R code_named roots bytes = with_fits code_named (read_image R roots bytes)

-- what a reader was handed is what the world has for permanents, and it knows checked code
pub record IsReaderOf (R : Reader) (code_named : PermKey → Option Prototype) (H : Host) : Type 0 where
  pub checked : (p : Prototype) → R.is_checked p ≡ true → IsChecked p
  pub there : (kind : Kind) (key : PermKey) → is_sort kind (R.sort_named key) ≡ true → Valid (sizes H.primitives H.world) (H.target.named kind key)
  pub functions : (key : PermKey) → is_sort a_function (R.sort_named key) ≡ true → IsTrue (is_function (H.target.named a_function key))
  pub code : (key : PermKey) (p : Prototype) → code_named key ≡ Some p → (n : ℕ) × (f : Function) × (H.target.named a_function key ≡ object a_function n) × (slice_get H.world.functions n ≡ Some f) × (f.code ≡ p)

-- what is accepted is the image of a sound world, whatever bytes came
abbrev pub AcceptedIsSound : Type 0
AcceptedIsSound = (R : Reader) (code_named : PermKey → Option Prototype) (H : Host) (roots met : ℕ) (I : Image) (bytes : List ℕ) → IsReaderOf R code_named H → H.records ≡ I.records
    → reads R code_named roots bytes ≡ read I met [] → IsSoundImage H
