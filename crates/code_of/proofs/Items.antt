-- Items of a constructor that wait: each gives one value, and no more of them wait than there are behind the last multiple of fifty.
use Rattle.std.proofs.Common.{◌≡◌, ℕ, ◌+◌, ◌%◌, ◌==◌, ◌≤◌, true, false, refl, sym, ap, ◌∙◌, arith}
use Rattle.tree_core.specs.Tree.{Exp, Vararg, Call, Method, Fields, EndFields, MoreFields}
use Rattle.code_of.specs.Expressions.{is_open, is_last_item}
use Rattle.code_of.specs.Items.{waits, is_full}

closed_waits : (e : Exp) → waits e ≡ true → is_open e ≡ false
closed_waits (Vararg line) w = absurd (cc)
closed_waits (Call line f es) w = absurd (cc)
closed_waits (Method line object name es) w = absurd (cc)
closed_waits _ w = refl

pub last_waits : (e : Exp) (fs : Fields) → waits e ≡ true → is_last_item e fs ≡ false
last_waits e EndFields w = closed_waits e w
last_waits e (MoreFields f fs) w = refl

pub last_opens : (e : Exp) (fs : Fields) → is_last_item e fs ≡ true → is_open e ≡ true
last_opens e EndFields h = h
last_opens e (MoreFields f fs) h = absurd (cc)

not_full : (n : ℕ) → is_full n ≡ false → n % 50 ≡ 0 → ⊥
not_full n off e = let no : false ≡ true = sym off ∙ ap (λ z. z == 0) e in absurd (cc)

few_more : (stored waiting : ℕ) → waiting ≤ (stored + waiting) % 50 → ((stored + waiting + 1) % 50 ≡ 0 → ⊥) → waiting + 1 ≤ (stored + (waiting + 1)) % 50
few_more stored waiting few off = omega (arith, few, off)

-- where they are not stored yet, one more may wait
pub still_few : (stored waiting : ℕ) → waiting ≤ (stored + waiting) % 50 → is_full (stored + waiting + 1) ≡ false → waiting + 1 ≤ (stored + (waiting + 1)) % 50
still_few stored waiting few off = few_more stored waiting few (not_full (stored + waiting + 1) off)
