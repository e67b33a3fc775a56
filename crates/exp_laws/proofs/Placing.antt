-- Instructions and their lines at their places.
use Rattle.std.proofs.Common.{◌≡◌, ℕ, ◌+◌, Bool, cond, List, [], ◌∷◌, ◌++◌, length, Some, None, subst, arith}
use Rattle.code_core.specs.declared.opcode.Opcode.{Opcode}
use Rattle.code_core.specs.Instruction.{abc, abx}
use Rattle.code_core.specs.Check.{at}
use Rattle.code_core.proofs.FieldLemmas.{opcode_of-abc, opcode_of-abx}
use Rattle.machine_core.specs.Moves.{line_of}
use Rattle.code_of.specs.Coded.{Coded}
use Rattle.exp_laws.specs.Setting.{Setting}
use Rattle.exp_laws.proofs.Talking.{Here}

abbrev pub HasAt : Setting → ℕ → List Coded → Type 0
HasAt S pc [] = Unit {0}
HasAt S pc (x ∷ xs) = (at S.code pc ≡ Some x.0) × ((line_of S.code pc ≡ cond S.lines (Some x.1) None) × HasAt S (pc + 1) xs)

module _ (S : Setting) where
  pub has_front : (pc : ℕ) (a b : List Coded) → HasAt S pc (a ++ b) → HasAt S pc a
  has_front pc [] b h = tt
  has_front pc (x ∷ a) b h = (h.0, (h.1.0, has_front (pc + 1) a b h.1.1))

  pub has_back : (pc : ℕ) (a b : List Coded) → HasAt S pc (a ++ b) → HasAt S (pc + length a) b
  has_back pc [] b h = let e : pc ≡ pc + 0 = omega arith in subst (λ n. HasAt S n b) e h
  has_back pc (x ∷ a) b h =
      let e : pc + 1 + length a ≡ pc + length (x ∷ a) = omega arith in
      subst (λ n. HasAt S n b) e (has_back (pc + 1) a b h.1.1)

  pub here_abc : (op : Opcode) (a b c : ℕ) (k : Bool) (line pc : ℕ) (rest : List Coded) → HasAt S pc ((abc op a b c k, line) ∷ rest) → Here S pc line
  here_abc op a b c k line pc rest has = record { word = abc op a b c k; opcode = op; there = has.0; is = opcode_of-abc op a b c k; lined = has.1.0 }

  pub here_abx : (op : Opcode) (a bx line pc : ℕ) (rest : List Coded) → HasAt S pc ((abx op a bx, line) ∷ rest) → Here S pc line
  here_abx op a bx line pc rest has = record { word = abx op a bx; opcode = op; there = has.0; is = opcode_of-abx op a bx; lined = has.1.0 }
