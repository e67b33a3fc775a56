-- The test that a frame fits its code, by its parts.
use Rattle.std.proofs.Common.{◌≡◌, ℕ, length, Some, None, Bool, true, false, refl, ap, ◌∙◌, arith}
use Rattle.std.specs.Prelude.{◌&&◌, nat_eq, nat_lt}
use Rattle.std.specs.List.{list_all}
use Rattle.std.proofs.lemmas.Bool.Decides.{nat_tests}
use Rattle.code_core.specs.declared.opcode.Opcode.{Opcode}
use Rattle.code_core.specs.declared.instruction.Instruction.{Instruction}
use Rattle.code_core.specs.Instruction.{opcode_of}
use Rattle.code_core.specs.Prototype.{Prototype}
use Rattle.code_core.specs.Check.{at}
use Rattle.machine_sound.specs.Sound.{waits_at, waiting_size, kept_below}
use Rattle.image_core.specs.Image.{LuaFrameItem}
use Rattle.image_sound.specs.Fitting.{fits_code, fits_instruction}
use Rattle.image_records.specs.Fits.{fits_at}

same_number : (m n : ℕ) → m ≡ n → nat_eq m n ≡ true
same_number m n h = grind (arith, nat_tests)

-- of four tests in a row the last decides, where the others hold
pub last_of_four : (a b c d : Bool) → a ≡ true → b ≡ true → c ≡ true → d ≡ (a && (b && (c && d)))
last_of_four true true true d ea eb ec = refl
last_of_four true true false d ea eb ec = absurd (cc)
last_of_four true false c d ea eb ec = absurd (cc)
last_of_four false b c d ea eb ec = absurd (cc)

module _ (f : LuaFrameItem) (p : Prototype) (w : Instruction) (there : at p f.pc ≡ Some w) where
  pub fits_known : (op : Opcode) → opcode_of w ≡ Some op → fits_code f p ≡ fits_at f p.own.stack w op
  fits_known op e = rw (there, fits_code) (rw (e, fits_instruction) refl)

  pub fits_no_opcode : opcode_of w ≡ None → fits_code f p ≡ false
  fits_no_opcode e = ap (λ o. elim o [ None ↦ false | Some w ↦ fits_instruction p f w ]) there ∙ rw (e, fits_instruction) refl

module _ (f : LuaFrameItem) (stack : ℕ) (w : Instruction) (op : Opcode) where
  pub fits_when : (last : Bool) → waits_at f.wait op w ≡ true → length f.registers ≡ waiting_size f.wait w stack → list_all (λ r. nat_lt r stack) f.pending ≡ true
      → last ≡ list_all (λ r. nat_lt r (kept_below f.wait w stack)) f.pending → last ≡ fits_at f stack w op
  fits_when last waits size below kept = kept ∙ last_of_four _ _ _ _ waits (same_number _ _ size) below
