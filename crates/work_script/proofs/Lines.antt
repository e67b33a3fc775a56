-- Texts put one after another.
use Rattle.std.proofs.Common.{◌≡◌, ℕ, suc, ◌+◌, List, ◌++◌, ap, subst, sym, ◌∙◌, append_assoc, arith}
use Rattle.work_script.specs.Script.{work_line, work_lines}

one_more : (start before now : List ℕ) (n : ℕ) → before ≡ start ++ work_lines n → now ≡ before ++ work_line (suc n) → now ≡ start ++ work_lines (suc n)
one_more start before now n was is = is ∙ ap (λ text. text ++ work_line (suc n)) was ∙ append_assoc start (work_lines n) (work_line (suc n))

next_by : (m : ℕ) (start before now : List ℕ) (n : ℕ) → m ≡ suc n → before ≡ start ++ work_lines n → now ≡ before ++ work_line m → now ≡ start ++ work_lines m
next_by m start before now n e was is = subst (λ k. now ≡ before ++ work_line k → now ≡ start ++ work_lines k) (sym e) (one_more start before now n was) is

pub next_line : (start before now : List ℕ) (n : ℕ) → before ≡ start ++ work_lines n → now ≡ before ++ work_line (n + 1) → now ≡ start ++ work_lines (n + 1)
next_line start before now n was is = next_by (n + 1) start before now n (omega arith) was is

pub three_parts : (start first second third a b c : List ℕ) → first ≡ start ++ a → second ≡ first ++ b → third ≡ second ++ c → third ≡ start ++ (a ++ (b ++ c))
three_parts start first second third a b c one two three =
    three ∙ ap (λ text. text ++ c) (two ∙ ap (λ text. text ++ b) one) ∙ append_assoc (start ++ a) b c ∙ append_assoc start a (b ++ c)
