-- Jumps out of a piece of tree: what can be reached stands in the code, and a jump to it is a piece.
use Rattle.std.proofs.Common.{◌≡◌, ℕ, ◌+◌, ◌-◌, ◌<◌, ◌^◌, lit<, Bool, true, false, cond, List, [], ◌∷◌, Option, Some, None, refl, arith, leb-true, leb-false}
use Rattle.std.specs.Prelude.{nat_le}
use Rattle.std.proofs.lemmas.Option.{slice_get_within}
use Rattle.code_core.specs.declared.opcode.Opcode.TheVariants.{Close, Jmp}
use Rattle.code_core.specs.Instruction.{op_ax}
use Rattle.code_core.specs.Prototype.{Prototype}
use Rattle.code_core.proofs.FieldLemmas.{opcode_of-abc, opcode_of-ax}
use Rattle.code_of.specs.Coded.{Coded, with_abc, jump_over, jump_back}
use Rattle.code_of.specs.Jumps.{Landing, Reach, jump_code, leads}
use Rattle.code_of.proofs.Landings.{Lands, AllLand}
use Rattle.code_checked.proofs.Pieces.{Seam, closed, Starts, Ends, Leaves, Land, Piece, both}
use Rattle.code_checked.proofs.Units.{leaves_none, begins_none}
use Rattle.code_checked.proofs.Words.{simple, simple_close}
use Rattle.code_checked.proofs.Loads.{Whole}
use Rattle.code_checked.proofs.Jumping.{within, over_piece, back_piece}

module _ (p : Prototype) where
  -- a landing in the code, at a level that has a register
  pub record Stands (x : Landing) : Type 0 where
    pub land : Land p x.place
    pub level : x.level < 2 ^ 8

  -- the code's beginning, the labels and the loop's end
  pub record Reaches (reach : Reach) : Type 0 where
    pub begin : Land p 0
    pub labels : AllLand Stands reach.labels
    pub exit : Lands Stands reach.exit

  -- a piece whose fields are known to fit only once it is at its place
  pub late : {H : Type 0} {f m : Seam} {pc : ℕ} {xs : List Coded} → Starts f xs → Ends f m xs → (H → Piece p H f m pc xs) → Piece p H f m pc xs
  late {H} {f} {m} {pc} {xs} starts ends made = record { starts = starts; ends = ends; kept = λ h. (made h).kept h }

  jump_ends : (w : ℕ) → Leaves closed (op_ax Jmp w)
  jump_ends w = (leaves_none Jmp (op_ax Jmp w) (opcode_of-ax Jmp w) refl, begins_none Jmp Jmp (op_ax Jmp w) (opcode_of-ax Jmp w) refl)

  closing_piece : {H : Type 0} (W : Whole p) (x : Landing) (pc line : ℕ) → (H → Stands x) → Piece p H closed closed pc (jump_code true x pc line)
  closing_piece {H} W x pc line to = within p W (late (record { opcode = Close; is = opcode_of-abc Close x.level 0 0 false; alone = refl }) (ends_by (nat_le (pc + 2) x.place)) (λ h. both p (closing h.0) (jumping h.0)))
    where
      K : Type 0
      K = H × (pc + 2 < 2 ^ 24)

      ends_by : (b : Bool) → Ends closed closed (with_abc Close x.level 0 0 line ∷ cond b (jump_over (x.place - (pc + 2)) line) (jump_back (pc + 2 - x.place) line) ∷ [])
      ends_by true = jump_ends (16777215 + (x.place - (pc + 2)))
      ends_by false = jump_ends (16777215 - (pc + 2 - x.place))

      closing : H → Piece p (H × (pc + 2 < 2 ^ 24)) closed closed pc (with_abc Close x.level 0 0 line ∷ [])
      closing h = let s = to h in simple p Close (simple_close p) x.level 0 0 line s.level (lit< tt) (lit< tt)

      by : (b : Bool) → nat_le (pc + 2) x.place ≡ b → H → Piece p (H × (pc + 2 < 2 ^ 24)) closed closed (pc + 1) (cond b (jump_over (x.place - (pc + 2)) line) (jump_back (pc + 2 - x.place) line) ∷ [])
      by true e h =
          let s = to h in
          let far = slice_get_within p.own.code x.place s.land.there.word s.land.there.here in
          let short = W.short in
          let le = leb-true (pc + 2) x.place e in
          over_piece p (x.place - (pc + 2)) (pc + 1) x.place line (λ k. omega (arith, far, short)) (omega (arith, le)) (λ k. s.land)
      by false e h =
          let s = to h in
          let lt = leb-false (pc + 2) x.place e in
          back_piece p (pc + 2 - x.place) (pc + 1) x.place line (λ k. let f = k.1 in omega (arith, f)) (omega (arith, lt)) (λ k. s.land)

      jumping : H → Piece p (H × (pc + 2 < 2 ^ 24)) closed closed (pc + 1) (cond (nat_le (pc + 2) x.place) (jump_over (x.place - (pc + 2)) line) (jump_back (pc + 2 - x.place) line) ∷ [])
      jumping h = by (nat_le (pc + 2) x.place) refl h

  -- a jump that closes nothing
  alone_piece : {H : Type 0} (W : Whole p) (x : Landing) (pc line : ℕ) → (H → Stands x) → Piece p H closed closed pc (jump_code false x pc line)
  alone_piece {H} W x pc line to = within p W (late (starts_by (nat_le (pc + 1) x.place)) (ends_by (nat_le (pc + 1) x.place)) (λ h. by (nat_le (pc + 1) x.place) refl h.0))
    where
      starts_by : (b : Bool) → Starts closed (cond b (jump_over (x.place - (pc + 1)) line) (jump_back (pc + 1 - x.place) line) ∷ [])
      starts_by true = record { opcode = Jmp; is = opcode_of-ax Jmp (16777215 + (x.place - (pc + 1))); alone = refl }
      starts_by false = record { opcode = Jmp; is = opcode_of-ax Jmp (16777215 - (pc + 1 - x.place)); alone = refl }

      ends_by : (b : Bool) → Ends closed closed (cond b (jump_over (x.place - (pc + 1)) line) (jump_back (pc + 1 - x.place) line) ∷ [])
      ends_by true = jump_ends (16777215 + (x.place - (pc + 1)))
      ends_by false = jump_ends (16777215 - (pc + 1 - x.place))

      by : (b : Bool) → nat_le (pc + 1) x.place ≡ b → H → Piece p (H × (pc + 1 < 2 ^ 24)) closed closed pc (cond b (jump_over (x.place - (pc + 1)) line) (jump_back (pc + 1 - x.place) line) ∷ [])
      by true e h =
          let s = to h in
          let far = slice_get_within p.own.code x.place s.land.there.word s.land.there.here in
          let short = W.short in
          let le = leb-true (pc + 1) x.place e in
          over_piece p (x.place - (pc + 1)) pc x.place line (λ k. omega (arith, far, short)) (omega (arith, le)) (λ k. s.land)
      by false e h =
          let s = to h in
          let lt = leb-false (pc + 1) x.place e in
          back_piece p (pc + 1 - x.place) pc x.place line (λ k. let f = k.1 in omega (arith, f)) (omega (arith, lt)) (λ k. s.land)

  jump_piece : {H : Type 0} (closes : Bool) (W : Whole p) (x : Landing) (pc line : ℕ) → (H → Stands x) → Piece p H closed closed pc (jump_code closes x pc line)
  jump_piece true W x pc line to = closing_piece W x pc line to
  jump_piece false W x pc line to = alone_piece W x pc line to

  -- where nothing is found the jump leads to the beginning
  pub leads_piece : {H : Type 0} (closes : Bool) (W : Whole p) (o : Option Landing) (pc line : ℕ) → (H → Land p 0) → (H → Lands Stands o) → Piece p H closed closed pc (leads closes o pc line)
  leads_piece closes W None pc line begin to = jump_piece closes W (record { place = 0; level = 0 }) pc line (λ h. record { land = begin h; level = lit< tt })
  leads_piece closes W (Some x) pc line begin to = jump_piece closes W x pc line to
