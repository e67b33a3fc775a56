-- The lines before the first that is past the limits.
use Rattle.std.proofs.Common.{◌≡◌, ◌+◌, ◌∙◌, ◌≤◌, ℕ, Bool, true, false, cond, List, [], ◌∷◌, length, refl, ap, arith, inl, inr, ◌&&◌, ◌||◌}
use Rattle.std.specs.Prelude.{nat_le, not}
use Rattle.std.proofs.lemmas.Bool.{leb-true, le-leb}
use Rattle.io_edge.specs.Lines.{lines_of, IsWithinLimits, IsPastLimits, BeginsPastLimits}
use Rattle.lua_feed.specs.Limits.{is_within, lines_within, pass_limits, usable_lines, passes_limits}

pub within_is : (taken : ℕ) (line : List ℕ) → IsWithinLimits taken line → is_within taken line ≡ true
within_is taken line w =
    let short : nat_le (length line) 1048576 ≡ true = le-leb (length line) 1048576 w.short_line in
    let early : nat_le (taken + length line) 1073741824 ≡ true = le-leb (taken + length line) 1073741824 w.short_input in
    rw (short, early) refl

both : (t u : Bool) → (t && u) ≡ true → (t ≡ true) × (u ≡ true)
both true u e = (refl, e)
both false u e = absurd (cc)

pub within_short : (taken : ℕ) (line : List ℕ) → is_within taken line ≡ true → length line ≤ 1048576
within_short taken line e = leb-true (length line) 1048576 (both (nat_le (length line) 1048576) (nat_le (taken + length line) 1073741824) e).0

past_is : (taken : ℕ) (line : List ℕ) → IsPastLimits taken line → is_within taken line ≡ false
past_is taken line p = by (is_within taken line) refl
  where
    by : (t : Bool) → is_within taken line ≡ t → is_within taken line ≡ false
    by false e = e
    by true e =
        let parts = both (nat_le (length line) 1048576) (nat_le (taken + length line) 1073741824) e in
        let short : length line ≤ 1048576 = leb-true (length line) 1048576 parts.0 in
        let early : taken + length line ≤ 1073741824 = leb-true (taken + length line) 1073741824 parts.1 in
        elim p [ inl h ↦ absurd (omega (arith, h, short)) | inr h ↦ absurd (omega (arith, h, early)) ]

-- a line within the limits, and those that follow it

pub keeps_within : (taken : ℕ) (line : List ℕ) (lines : List (List ℕ)) → IsWithinLimits taken line → lines_within taken (line ∷ lines) ≡ line ∷ lines_within (taken + length line + 1) lines
keeps_within taken line lines w = ap (λ t. cond t (line ∷ lines_within (taken + length line + 1) lines) []) (within_is taken line w)

pub passes_on : (taken : ℕ) (line : List ℕ) (lines : List (List ℕ)) → IsWithinLimits taken line → pass_limits taken (line ∷ lines) ≡ pass_limits (taken + length line + 1) lines
passes_on taken line lines w = ap (λ t. not t || pass_limits (taken + length line + 1) lines) (within_is taken line w)

-- the first line is past the limits

pub none_usable : (taken : ℕ) (text : List ℕ) → BeginsPastLimits taken text → usable_lines taken text ≡ []
none_usable taken text (line, lines, e, past) =
    ap (lines_within taken) e ∙ ap (λ t. cond t (line ∷ lines_within (taken + length line + 1) lines) []) (past_is taken line past)

pub passes_now : (taken : ℕ) (text : List ℕ) → BeginsPastLimits taken text → passes_limits taken text ≡ true
passes_now taken text (line, lines, e, past) =
    ap (pass_limits taken) e ∙ ap (λ t. not t || pass_limits (taken + length line + 1) lines) (past_is taken line past)

-- no byte is left

pub none_left : (taken : ℕ) (text : List ℕ) → text ≡ [] → usable_lines taken text ≡ []
unfolding lines_of
none_left taken text e = ap (usable_lines taken) e

pub none_past : (taken : ℕ) (text : List ℕ) → text ≡ [] → passes_limits taken text ≡ false
unfolding lines_of
none_past taken text e = ap (passes_limits taken) e

-- where no line is past the limits, all lines may be handed over
pub all_within : (taken : ℕ) (lines : List (List ℕ)) → pass_limits taken lines ≡ false → lines_within taken lines ≡ lines
all_within taken [] e = refl
all_within taken (line ∷ lines) e = by (is_within taken line) (λ h. all_within (taken + length line + 1) lines h) e
  where
    by : (t : Bool) → (pass_limits (taken + length line + 1) lines ≡ false → lines_within (taken + length line + 1) lines ≡ lines) → (not t || pass_limits (taken + length line + 1) lines) ≡ false
        → cond t (line ∷ lines_within (taken + length line + 1) lines) [] ≡ line ∷ lines
    by true further e = ap (λ ls. line ∷ ls) (further e)
    by false further e = absurd (cc)
