-- The word at the place of the Lua frame on top, in memory.
use Rattle.std.proofs.Common.{◌≡◌, ℕ, ◌<◌, length, Some, ap, ◌∙◌, arith}
use Rattle.std.specs.Prelude.{◌^◌, slice_get}
use Rattle.code_core.specs.Check.{at}
use Rattle.machine_core.specs.World.{Place}
use Rattle.machine_sound.proofs.Lists.{get_within, some_is}
use Rattle.lua_heap.specs.declared.codes.Code.{Code}
use Rattle.lua_heap.specs.declared.world.World.{World as Memory}
use Rattle.machine_moves.specs.Code.{IsCodeOnTop}
use Rattle.running_frame.specs.Here.{HasWord}

module _ {W : Memory} {pc : ℕ} {code : Code} (h : HasWord W pc) (k : IsCodeOnTop W code) where
  pub word_kept : slice_get code.words.items pc ≡ Some h.word
  word_kept =
      ap (λ words. slice_get words pc) k.says.words
      ∙ ap (λ (p : Place). at p.function.code pc) (some_is k.is h.is)
      ∙ h.there

  pub word_within : pc < length code.words.items
  word_within = get_within code.words.items pc h.word word_kept

-- a vector has no more than this
pub few_words : (code : Code) → length code.words.items < 2 ^ 63
few_words code = omega (arith, code.words.ok.0, code.words.ok.1, code.words.small)
