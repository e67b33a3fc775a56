-- The parts of a set, one after another.
use Rattle.std.proofs.Common.{◌≡◌, ◌≢◌, ℕ, zero, suc, Bool, true, false, List, [], ◌∷◌, ◌++◌, drop, Option, Some, None, refl, sym, ap, ◌∙◌, append_assoc}
use Rattle.std.specs.Prelude.{if◌then◌else◌}
use Rattle.std.proofs.lemmas.Bool.{eq-eqb, ne_eqb}
use Rattle.lua_pattern.specs.declared.class.Part.{Part}
use Rattle.lua_pattern.specs.Bytes.{begins_with}
use Rattle.lua_pattern.specs.Reading.{PartsRead, first_parts, part_at, parts_from, set_from, set_of, with_part}

-- parts before those that are read
abbrev pub with_parts : List Part → Option PartsRead → Option PartsRead
with_parts parts None = None
with_parts parts (Some read) = Some (record { parts = parts ++ read.parts; rest = read.rest })

pub with_parts-push : (parts : List Part) (part : Part) (read : Option PartsRead) → with_parts parts (with_part part read) ≡ with_parts (parts ++ part ∷ []) read
with_parts-push parts part None = refl
with_parts-push parts part (Some read) = ap (λ parts. Some (record { parts = parts; rest = read.rest })) (sym (append_assoc parts (part ∷ []) read.parts))

-- the bytes of a part are passed over
pub parts_from-skip : (more : ℕ) (text : List ℕ) → parts_from more text ≡ parts_from 0 (drop more text)
parts_from-skip zero [] = refl
parts_from-skip zero (byte ∷ text) = refl
parts_from-skip (suc more) [] = refl
parts_from-skip (suc more) (byte ∷ text) = parts_from-skip more text

-- one part more
pub one_part : (parts : List Part) (byte : ℕ) (text rest : List ℕ) (part : Part) → part ≡ (part_at byte text).part → rest ≡ drop (part_at byte text).more text → with_parts parts (with_part (part_at byte text).part (parts_from (part_at byte text).more text)) ≡ with_parts (parts ++ part ∷ []) (parts_from 0 rest)
one_part parts byte text rest part same behind =
    with_parts-push parts (part_at byte text).part (parts_from (part_at byte text).more text)
    ∙ ap (λ p. with_parts (parts ++ p ∷ []) (parts_from (part_at byte text).more text)) (sym same)
    ∙ ap (with_parts (parts ++ part ∷ [])) (parts_from-skip (part_at byte text).more text ∙ ap (parts_from 0) (sym behind))

pub next_part : (byte : ℕ) (text : List ℕ) → byte ≢ 93 → parts_from 0 (byte ∷ text) ≡ with_part (part_at byte text).part (parts_from (part_at byte text).more text)
next_part byte text other = rw (ne_eqb byte 93 other) refl

pub last_part : (text : List ℕ) (byte : ℕ) → byte ≡ 93 → parts_from 0 (byte ∷ text) ≡ Some (record { parts = []; rest = text })
last_part text byte same = rw (eq-eqb byte 93 same) refl

with_parts-nil : (read : Option PartsRead) → read ≡ with_parts [] read
with_parts-nil None = refl
with_parts-nil (Some read) = refl

-- the first part, behind a `^` or not
pub set-first : (inverted : Bool) (text left rest behind : List ℕ) (byte : ℕ) (part : Part) (parts : List Part) → inverted ≡ begins_with 94 text → left ≡ (if inverted then drop 1 text else text) → left ≡ byte ∷ rest → part ≡ (part_at byte rest).part → behind ≡ drop (part_at byte rest).more rest → parts ≡ part ∷ [] → set_from text ≡ set_of inverted (with_parts parts (parts_from 0 behind))
set-first inverted text left rest behind byte part parts told taken split same is pushed =
    taken_off inverted told taken ∙ ap (λ left. set_of inverted (first_parts left)) split
    ∙ ap (set_of inverted) (with_parts-nil (first_parts (byte ∷ rest)) ∙ one_part [] byte rest behind part same is ∙ ap (λ parts. with_parts parts (parts_from 0 behind)) (sym pushed)) where
      taken_off : (inverted : Bool) → inverted ≡ begins_with 94 text → left ≡ (if inverted then drop 1 text else text) → set_from text ≡ set_of inverted (first_parts left)
      taken_off true told taken = rw (← told, taken) refl
      taken_off false told taken = rw (← told, taken) refl

-- one more part
pub set-more : (inverted : Bool) (text left rest behind : List ℕ) (byte : ℕ) (part : Part) (parts more : List Part) → set_from text ≡ set_of inverted (with_parts parts (parts_from 0 left)) → left ≡ byte ∷ rest → byte ≢ 93 → part ≡ (part_at byte rest).part → behind ≡ drop (part_at byte rest).more rest → more ≡ parts ++ part ∷ [] → set_from text ≡ set_of inverted (with_parts more (parts_from 0 behind))
set-more inverted text left rest behind byte part parts more before split other same is pushed =
    before ∙ ap (λ left. set_of inverted (with_parts parts (parts_from 0 left))) split
    ∙ ap (set_of inverted) (ap (with_parts parts) (next_part byte rest other) ∙ one_part parts byte rest behind part same is ∙ ap (λ parts. with_parts parts (parts_from 0 behind)) (sym pushed))
