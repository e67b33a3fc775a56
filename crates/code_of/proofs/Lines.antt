-- Lines that are kept as distances and by their places are read back, and distances and far lines fit.
use Rattle.std.proofs.Common.{◌≡◌, ℕ, suc, ◌+◌, ◌<◌, ◌≤◌, ◌^◌, Bool, true, false, cond, if◌then◌else◌, ◌&&◌, ℤ, pos, negsuc, ◌+ℤ◌, ◌-ℤ◌, List, [], ◌∷◌, ◌++◌, length, map, Some, refl, sym, ap, ap₂, ◌∙◌, arith, append_assoc, eq-eqb, ne_eqb, lt-ltb, leb-true}
use Rattle.std.specs.Prelude.{find, ◌==◌, ◌%◌, nat_eq, option_map}
use Rattle.std.specs.List.{list_all}
use Rattle.code_core.specs.declared.proto.AbsLine.{AbsLine}
use Rattle.code_core.specs.Writable.{number_fits, change_fits, line_fits}
use Rattle.code_core.specs.Check.{is_absolute, line_at, lines_from, is_line}
use Rattle.code_of.specs.CodeOf.{is_near, is_distance, changes, far_lines}

abbrev AllBefore : List AbsLine → ℕ → Type 0
AllBefore [] pc = Unit {0}
AllBefore (l ∷ ls) pc = (l.pc < pc) × AllBefore ls pc

before_more : (ls : List AbsLine) (pc line : ℕ) → AllBefore ls pc → AllBefore (ls ++ record { pc = pc; line = line } ∷ []) (suc pc)
before_more [] pc line h = (omega arith, tt)
before_more (l ∷ ls) pc line h = let f = h.0 in (omega (arith, f), before_more ls pc line h.1)

before_later : (ls : List AbsLine) (pc : ℕ) → AllBefore ls pc → AllBefore ls (suc pc)
before_later [] pc h = tt
before_later (l ∷ ls) pc h = let f = h.0 in (omega (arith, f), before_later ls pc h.1)

find_past : (front rest : List AbsLine) (pc : ℕ) → AllBefore front pc → find (λ l. l.pc == pc) (front ++ rest) ≡ find (λ l. l.pc == pc) rest
find_past [] rest pc h = refl
find_past (l ∷ front) rest pc h =
    ap (λ b. if b then Some l else find (λ l. l.pc == pc) (front ++ rest)) (ne_eqb l.pc pc (λ e. let f = h.0 in absurd (omega (arith, f, e)))) ∙ find_past front rest pc h.1

near_change : (z : ℤ) → is_near z ≡ true → is_absolute z ≡ false
near_change (pos n) e = refl
near_change (negsuc n) e = let h = leb-true n 126 e in ne_eqb n 127 (λ d. absurd (omega (arith, h, d)))

back_to_line : (before line : ℕ) → pos before +ℤ (pos line -ℤ pos before) ≡ pos line
back_to_line before line = grind arith

-- what the first distance comes to, once it is known whether it is near and whether its line is kept by its place
module _ (line : ℕ) (rest : List ℕ) (pc before : ℕ) (front : List AbsLine) (h : AllBefore front pc)
    (again : (front : List AbsLine) → AllBefore front (suc pc) → lines_from (front ++ far_lines (suc pc) line rest) (suc pc) (Some (pos line)) (changes line rest) ≡ map (λ l. Some (pos l)) rest) where
  abbrev z : ℤ
  z = pos line -ℤ pos before

  abbrev entry : AbsLine
  entry = record { pc = pc; line = line }

  one : pc + 1 ≡ suc pc
  one = omega arith

  near_here : (all : List AbsLine) → is_near (pos line -ℤ pos before) ≡ true → line_at all pc (Some (pos before)) (pos line -ℤ pos before) ≡ Some (pos line)
  near_here all e = ap (λ b. if b then option_map (λ l. pos l.line) (find (λ l. l.pc == pc) all) else Some (pos before +ℤ z)) (near_change z e) ∙ ap Some (back_to_line before line)

  left_out : (change : ℤ) → line_at (front ++ far_lines (suc pc) line rest) pc (Some (pos before)) change ≡ Some (pos line)
      → lines_from (front ++ far_lines (suc pc) line rest) pc (Some (pos before)) (change ∷ changes line rest) ≡ map (λ l. Some (pos l)) (line ∷ rest)
  left_out change here =
      let all = front ++ far_lines (suc pc) line rest in
      ap (λ o. o ∷ lines_from all (pc + 1) o (changes line rest)) here
      ∙ ap (λ l. Some (pos line) ∷ l) (ap (λ q. lines_from all q (Some (pos line)) (changes line rest)) one ∙ again front (before_later front pc h))

  kept : (change : ℤ) → line_at (front ++ entry ∷ far_lines (suc pc) line rest) pc (Some (pos before)) change ≡ Some (pos line)
      → lines_from (front ++ entry ∷ far_lines (suc pc) line rest) pc (Some (pos before)) (change ∷ changes line rest) ≡ map (λ l. Some (pos l)) (line ∷ rest)
  kept change here =
      let all = front ++ entry ∷ far_lines (suc pc) line rest in
      let same : all ≡ (front ++ entry ∷ []) ++ far_lines (suc pc) line rest = sym (append_assoc front (entry ∷ []) (far_lines (suc pc) line rest)) in
      ap (λ o. o ∷ lines_from all (pc + 1) o (changes line rest)) here
      ∙ ap (λ l. Some (pos line) ∷ l) (ap₂ (λ q a. lines_from a q (Some (pos line)) (changes line rest)) one same ∙ again (front ++ entry ∷ []) (before_more front pc line h))

  found : line_at (front ++ entry ∷ far_lines (suc pc) line rest) pc (Some (pos before)) (negsuc 127) ≡ Some (pos line)
  found = ap (option_map (λ l. pos l.line))
      (find_past front (entry ∷ far_lines (suc pc) line rest) pc h ∙ ap (λ b. if b then Some entry else find (λ l. l.pc == pc) (far_lines (suc pc) line rest)) (eq-eqb pc pc refl))

  first_read : (each near : Bool) → is_near (pos line -ℤ pos before) ≡ near
      → lines_from (front ++ cond (cond each false near) (far_lines (suc pc) line rest) (record { pc = pc; line = line } ∷ far_lines (suc pc) line rest)) pc (Some (pos before)) (cond near (pos line -ℤ pos before) (negsuc 127) ∷ changes line rest)
      ≡ map (λ l. Some (pos l)) (line ∷ rest)
  first_read true true e = kept z (near_here _ e)
  first_read false true e = left_out z (near_here _ e)
  first_read true false e = kept (negsuc 127) found
  first_read false false e = kept (negsuc 127) found

decode : (ls : List ℕ) (pc before : ℕ) (front : List AbsLine) → AllBefore front pc → lines_from (front ++ far_lines pc before ls) pc (Some (pos before)) (changes before ls) ≡ map (λ l. Some (pos l)) ls
decode [] pc before front h = refl
decode (line ∷ rest) pc before front h = first_read line rest pc before front h (λ front' h'. decode rest (suc pc) line front' h') (nat_eq (pc % 128) 127) (is_near (pos line -ℤ pos before)) refl

-- the lines of instructions are read back
pub lines_back : (ls : List ℕ) (before : ℕ) → lines_from (far_lines 0 before ls) 0 (Some (pos before)) (changes before ls) ≡ map (λ l. Some (pos l)) ls
lines_back ls before = decode ls 0 before [] tt

pub lines_are_lines : (ls : List ℕ) → list_all number_fits ls ≡ true → list_all is_line (map (λ l. Some (pos l)) ls) ≡ true
lines_are_lines [] h = refl
lines_are_lines (l ∷ ls) h = let parts = both (number_fits l) (list_all number_fits ls) h in ap₂ (λ a b. a && b) parts.0 (lines_are_lines ls parts.1)
  where
    both : (a b : Bool) → (a && b) ≡ true → (a ≡ true) × (b ≡ true)
    both true true h = (refl, refl)
    both true false h = absurd (cc)
    both false b h = absurd (cc)

change_near : (z : ℤ) (b : Bool) → is_near z ≡ b → change_fits (cond b z (negsuc 127)) ≡ true
change_near (pos n) true e = let le = leb-true n 127 e in lt-ltb n (2 ^ 7) (omega (arith, le))
change_near (negsuc n) true e = let le = leb-true n 126 e in lt-ltb n (2 ^ 7) (omega (arith, le))
change_near z false e = refl

pub changes_fit : (ls : List ℕ) (before : ℕ) → list_all change_fits (changes before ls) ≡ true
changes_fit [] before = refl
changes_fit (l ∷ ls) before = ap₂ (λ a b. a && b) (change_near (pos l -ℤ pos before) (is_near (pos l -ℤ pos before)) refl) (changes_fit ls l)

pub length_changes : (ls : List ℕ) (before : ℕ) → length (changes before ls) ≡ length ls
length_changes [] before = refl
length_changes (l ∷ ls) before = ap suc (length_changes ls l)

pub length_far : (ls : List ℕ) (pc before : ℕ) → length (far_lines pc before ls) ≤ length ls
length_far [] pc before = omega arith
length_far (l ∷ ls) pc before = by (is_distance pc (pos l -ℤ pos before)) (length_far ls (suc pc) l)
  where
    by : (b : Bool) → length (far_lines (suc pc) l ls) ≤ length ls → length (cond b (far_lines (suc pc) l ls) (record { pc = pc; line = l } ∷ far_lines (suc pc) l ls)) ≤ length (l ∷ ls)
    by true h = omega (arith, h)
    by false h = omega (arith, h)

pub far_fit : (ls : List ℕ) (pc before : ℕ) → list_all number_fits ls ≡ true → pc + length ls < 2 ^ 31 → list_all line_fits (far_lines pc before ls) ≡ true
far_fit [] pc before h short = refl
far_fit (l ∷ ls) pc before h short =
    let parts = both (number_fits l) (list_all number_fits ls) h in
    by (is_distance pc (pos l -ℤ pos before)) parts.0 (far_fit ls (suc pc) l parts.1 (omega (arith, short)))
  where
    both : (a b : Bool) → (a && b) ≡ true → (a ≡ true) × (b ≡ true)
    both true true h = (refl, refl)
    both true false h = absurd (cc)
    both false b h = absurd (cc)

    by : (b : Bool) → number_fits l ≡ true → list_all line_fits (far_lines (suc pc) l ls) ≡ true
        → list_all line_fits (cond b (far_lines (suc pc) l ls) (record { pc = pc; line = l } ∷ far_lines (suc pc) l ls)) ≡ true
    by true this others = others
    by false this others = ap₂ (λ a b. a && b) (ap₂ (λ a b. a && b) (lt-ltb pc (2 ^ 31) (omega (arith, short))) this) others
