-- Pieces whose jumps lead to seams between them.
use Rattle.std.proofs.Common.{◌≡◌, ℕ, ◌+◌, ◌-◌, ◌<◌, ◌^◌, pos, ◌+ℤ◌, ◌-ℤ◌, List, ◌++◌, length, Some, sym, ap, subst, ◌∙◌, arith, length-append}
use Rattle.code_core.specs.declared.opcode.Opcode.TheVariants.{Jmp}
use Rattle.code_core.specs.Instruction.{op_ax, sj_of}
use Rattle.code_core.specs.Fields.{target}
use Rattle.code_core.specs.Prototype.{Prototype}
use Rattle.code_core.specs.Check.{in_front}
use Rattle.code_core.proofs.FieldLemmas.{ax_of-ax}
use Rattle.code_of.specs.Coded.{Coded}
use Rattle.code_checked.proofs.Pieces.{Seam, closed, Front, Behind, There, Land, Lands, Has, Piece, both, has_left, has_right, front_behind, behind_front}

offset : (n : ℕ) → pos (16777215 + n) -ℤ pos 16777215 ≡ pos n
offset n = grind arith

added : (m n : ℕ) → pos m +ℤ pos n ≡ pos (m + n)
added m n = grind arith

taken_off : (q n m : ℕ) → pos (q + n) +ℤ (pos m -ℤ pos (m + n)) ≡ pos q
taken_off q n m = grind arith

pub back_to : (q n : ℕ) → pos (q + n) -ℤ pos n ≡ pos q
back_to q n = grind arith

module _ (p : Prototype) where
  -- where a jump leads

  pub lands_over : (pc n q : ℕ) → n < 2 ^ 24 → q ≡ pc + 1 + n → Land p q → Lands p (target pc Jmp (op_ax Jmp (16777215 + n)))
  lands_over pc n q fits e l =
      let same : pos (pc + 1) +ℤ sj_of (op_ax Jmp (16777215 + n)) ≡ pos q =
      ap (λ x. pos (pc + 1) +ℤ (pos x -ℤ pos 16777215)) (ax_of-ax Jmp (16777215 + n) (omega (arith, fits))) ∙ ap (λ z. pos (pc + 1) +ℤ z) (offset n) ∙ added (pc + 1) n ∙ ap pos (sym e) in
      subst (λ z. Lands p (Some z)) (sym same) l

  pub lands_back : (pc n q : ℕ) → n < 2 ^ 24 → q + n ≡ pc + 1 → Land p q → Lands p (target pc Jmp (op_ax Jmp (16777215 - n)))
  lands_back pc n q fits e l =
      let m : ℕ = 16777215 - n in
      let sum : m + n ≡ 16777215 = omega (arith, fits) in
      let same : pos (pc + 1) +ℤ sj_of (op_ax Jmp m) ≡ pos q =
      ap (λ x. pos (pc + 1) +ℤ (pos x -ℤ pos 16777215)) (ax_of-ax Jmp m (omega (arith, fits)))
      ∙ ap (λ x. pos x +ℤ (pos m -ℤ pos 16777215)) (sym e)
      ∙ ap (λ x. pos (q + n) +ℤ (pos m -ℤ pos x)) (sym sum)
      ∙ taken_off q n m in
      subst (λ z. Lands p (Some z)) (sym same) l

  -- pieces

  pub alike : {H : Type 0} {f m : Seam} {pc : ℕ} {xs ys : List Coded} → xs ≡ ys → Piece p H f m pc xs → Piece p H f m pc ys
  alike {H} {f} {m} {pc} {xs} {ys} e a = subst (λ l. Piece p H f m pc l) e a

  -- jumps may lead to the beginning
  pub beginning : {H : Type 0} {pc : ℕ} {xs : List Coded} → Piece p (H × Land p pc) closed closed pc xs → Piece p H closed closed pc xs
  beginning {H} {pc} {xs} a = record {
    starts = a.starts;
    ends = a.ends;
    kept = λ h has front behind. a.kept (h, record { there = behind_front p closed closed pc xs a.starts a.ends has behind; front = front }) has front behind;
  }

  -- and behind the end
  pub ending : {H : Type 0} {pc : ℕ} {xs : List Coded} (q : ℕ) → pc + length xs ≡ q → Piece p (H × Land p q) closed closed pc xs → Piece p H closed closed pc xs
  ending {H} {pc} {xs} q e a = record {
    starts = a.starts;
    ends = a.ends;
    kept = λ h has front behind.
        let end : Land p (pc + length xs) = record { there = behind; front = front_behind p closed closed pc xs a.ends has front } in
        a.kept (h, subst (λ q. Land p q) e end) has front behind;
  }

  -- and to the seams between three pieces
  pub three : {H : Type 0} {pc : ℕ} {m : Seam} {xs ys zs : List Coded} (q r : ℕ) → pc + length xs ≡ q → q + length ys ≡ r → Piece p (H × Land p q × Land p r) closed closed pc xs → Piece p (H × Land p q × Land p r) closed closed q ys
      → Piece p (H × Land p q × Land p r) closed m r zs → Piece p H closed m pc (xs ++ (ys ++ zs))
  three {H} {pc} {m} {xs} {ys} {zs} q r e d a b c =
      let G : Type 0 = H × Land p q × Land p r in
      let c' : Piece p G closed m (q + length ys) zs = subst (λ k. Piece p G closed m k zs) (sym d) c in
      let bc : Piece p G closed m q (ys ++ zs) = both p b c' in
      let bc' : Piece p G closed m (pc + length xs) (ys ++ zs) = subst (λ k. Piece p G closed m k (ys ++ zs)) (sym e) bc in
      let whole : Piece p G closed m pc (xs ++ (ys ++ zs)) = both p a bc' in
      record {
        starts = whole.starts;
        ends = whole.ends;
        kept = λ h has front behind.
            let left = has_left p pc xs (ys ++ zs) has in
            let right : Has p q (ys ++ zs) = subst (λ k. Has p k (ys ++ zs)) e (has_right p pc xs (ys ++ zs) has) in
            let middle = has_left p q ys zs right in
            let last : Has p r zs = subst (λ k. Has p k zs) d (has_right p q ys zs right) in
            let size : pc + length (xs ++ (ys ++ zs)) ≡ r + length zs = (let i = length-append xs (ys ++ zs) in let j = length-append ys zs in omega (arith, i, j, e, d)) in
            let end : Behind p m (r + length zs) = subst (λ k. Behind p m k) size behind in
            let at_r : There p r = behind_front p closed m r zs c.starts c.ends last end in
            let at_q : There p q = behind_front p closed closed q ys b.starts b.ends middle (subst (λ k. There p k) (sym d) at_r) in
            let before_q : Front closed (in_front p q) = subst (λ k. Front closed (in_front p k)) e (front_behind p closed closed pc xs a.ends left front) in
            let before_r : Front closed (in_front p r) = subst (λ k. Front closed (in_front p k)) d (front_behind p closed closed q ys b.ends middle before_q) in
            whole.kept (h, record { there = at_q; front = before_q }, record { there = at_r; front = before_r }) has front behind;
      }
