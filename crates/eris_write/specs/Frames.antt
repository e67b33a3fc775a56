-- Frames that can be written: they wait, and what they hold is there.
use Rattle.std.specs.Prelude.{◌≡◌, ◌<◌, ℕ, List, [], ◌∷◌, Some, None, slice_get}
use Rattle.byteorder.specs.Endian.{little_bytes}
use Rattle.machine_sound.specs.Sound.{Each, OptionOk}
use Rattle.image_core.specs.Records.{frame_item}
use Rattle.image_bytes.specs.Bytes.{Reader, frame_format}
use Rattle.lua_stack.specs.declared.frame.Wait.{Wait}
use Rattle.lua_stack.specs.declared.frame.Wait.TheVariants.{ForConcat, Returning, Leaving}
use Rattle.lua_stack.specs.Frames.{KeptLua, KeptFrame, kept_lua, kept_pcall, kept_xpcall, kept_handler, kept_closing, frame_of}
use Rattle.lua_heap.specs.declared.world.Coro.{Coro}
use Rattle.lua_heap.specs.declared.world.Coro.TheVariants.{Fresh, Suspended, Running as Runs, Normal, Dead, Failed}
use Rattle.eris_write.specs.declared.writer.Writer.{Writer}
use Rattle.eris_write.specs.Writing.{HasText, HaveTexts, item_bytes, naming_in, read_in}

abbrev pub WaitStands : List (List ℕ) → Wait → Type 0
WaitStands texts (ForConcat left) = left < 256
WaitStands texts (Leaving error) = HasText texts error
WaitStands texts _ = Unit {0}

pub record LuaStands (texts : List (List ℕ)) (t : KeptLua) : Type 0 where
  pub varargs : HaveTexts texts t.varargs
  pub registers : HaveTexts texts t.registers
  pub wait : WaitStands texts t.wait
  pub opened : t.opened ≡ 0

abbrev pub FrameStands : List (List ℕ) → KeptFrame → Type 0
FrameStands texts (kept_lua t) = LuaStands texts t
FrameStands texts kept_pcall = Unit {0}
FrameStands texts (kept_xpcall h) = HasText texts h
FrameStands texts kept_handler = Unit {0}
FrameStands texts (kept_closing error left) = OptionOk (HasText texts) error × HaveTexts texts left

abbrev pub CoroutineStands : List (List ℕ) → Coro → Type 0
CoroutineStands texts (Fresh body) = HasText texts body
CoroutineStands texts (Suspended stack) = Each (FrameStands texts) stack.frames
CoroutineStands texts (Runs stack) = Unit {0}
CoroutineStands texts (Normal stack) = Unit {0}
CoroutineStands texts Dead = Unit {0}
CoroutineStands texts (Failed error pending) = HasText texts error × HaveTexts texts pending.items

abbrev pub frame_bytes : Writer → KeptFrame → Reader → List ℕ
frame_bytes w f R = (frame_format R).spell (frame_item (naming_in w) (frame_of (read_in w) f))

-- the bytes of a frame, if it is there
abbrev pub bytes_at : Writer → List KeptFrame → ℕ → Reader → List ℕ
bytes_at w frames n R = elim (slice_get frames n) [ None ↦ [] | Some f ↦ frame_bytes w f R ]

-- what a wait carries
abbrev pub wait_bytes : Writer → Wait → Reader → List ℕ
wait_bytes w (ForConcat left) R = left ∷ []
wait_bytes w (Returning count) R = little_bytes 4 count
wait_bytes w (Leaving error) R = item_bytes w error R
wait_bytes w _ R = []
