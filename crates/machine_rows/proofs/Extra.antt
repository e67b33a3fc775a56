-- The word behind an instruction, in what is kept of the code.
use Rattle.std.proofs.Common.{◌≡◌, ℕ, ◌+◌, Option, Some, None, refl, ap, subst, ◌∙◌, Bool, true, false}
use Rattle.std.specs.Prelude.{IsSome, cond, slice_get, option_and_then}
use Rattle.code_core.specs.declared.instruction.Instruction.{Instruction}
use Rattle.code_core.specs.declared.opcode.Opcode.TheVariants.{ExtraArg}
use Rattle.code_core.specs.Instruction.{opcode_of, ax_of}
use Rattle.code_core.specs.Check.{at, extra_at, is_same, there}
use Rattle.machine_core.specs.World.{Place}
use Rattle.machine_sound.proofs.Lists.{some_is}
use Rattle.lua_heap.specs.declared.codes.Code.{Code}
use Rattle.lua_heap.specs.declared.world.World.{World as Memory}
use Rattle.lua_heap.specs.Codes.{IsCode}
use Rattle.machine_moves.specs.Code.{IsCodeOnTop}
use Rattle.machine_rows.specs.Rows.{HasExtra}

abbrev carried : Instruction → Option ℕ
carried w = cond (there (is_same ExtraArg) (opcode_of w)) (Some (ax_of w)) None

carries : (w : Instruction) → IsSome (carried w) → carried w ≡ Some (ax_of w)
carries w = by (there (is_same ExtraArg) (opcode_of w))
  where
    by : (b : Bool) → IsSome (cond b (Some (ax_of w)) None) → cond b (Some (ax_of w)) None ≡ Some (ax_of w)
    by true s = refl
    by false s = absurd (cc)

pub extra_kept : (W : Memory) (code : Code) (pc : ℕ) (h : HasExtra W pc) → IsCodeOnTop W code → (word : Instruction) × (slice_get code.words.items (pc + 1) ≡ Some word) × (extra_at h.place.function.code pc ≡ Some (ax_of word))
extra_kept W code pc h k = by (at h.place.function.code (pc + 1)) refl
  where
    says : IsCode W.strings k.number h.place.function.code code
    says = subst (λ (p : Place). IsCode W.strings k.number p.function.code code) (some_is k.is h.is) k.says

    by : (o : Option Instruction) → at h.place.function.code (pc + 1) ≡ o → (word : Instruction) × (slice_get code.words.items (pc + 1) ≡ Some word) × (extra_at h.place.function.code pc ≡ Some (ax_of word))
    by None e = absurd (let s : IsSome (option_and_then carried None) = subst IsSome (ap (option_and_then carried) e) h.there in cc)
    by (Some w) e =
        let s : IsSome (carried w) = subst IsSome (ap (option_and_then carried) e) h.there in
        (w, ap (λ ws. slice_get ws (pc + 1)) says.words ∙ e, ap (option_and_then carried) e ∙ carries w s)
