-- Places at which no match begins, by the class of the byte that each match begins with.
use Rattle.std.proofs.Common.{◌≡◌, ℕ, suc, ◌+◌, ◌-◌, ◌<◌, ◌≤◌, Bool, true, false, cond, not, List, [], ◌∷◌, ◌++◌, length, take, drop, reverse, get_or, get_or-take, get_or-drop, length-take, Option, Some, None, refl, sym, ap, subst, ◌∙◌, arith}
use Rattle.std.specs.Prelude.{slice_get}
use Rattle.std.specs.List.{flat_map, range_with_len, prefix_len}
use Rattle.std.specs.Option.{option_and_then, option_map_or}
use Rattle.std.proofs.lemmas.List.Sums.{prefix_len_passes, prefix_len-le-length}
use Rattle.std.proofs.lemmas.Option.{slice_get-get_or}
use Rattle.lua_pattern.specs.declared.answer.Capture.{Capture}
use Rattle.lua_pattern.specs.declared.answer.Capture.TheVariants.{Text, Position}
use Rattle.lua_pattern.specs.declared.class.Class.{Class}
use Rattle.lua_pattern.specs.declared.item.Item.{Item}
use Rattle.lua_pattern.specs.declared.item.Item.TheVariants.{Plain, Repeated, Open, Close, Place}
use Rattle.lua_pattern.specs.declared.item.Plain.TheVariants.{Single, Balanced, Frontier, Reference, AtEnd}
use Rattle.lua_pattern.specs.declared.item.Repeat.TheVariants.{Optional, ZeroOrMore, OneOrMore, Lazy}
use Rattle.lua_pattern.specs.Answer.{first_found}
use Rattle.lua_pattern.specs.Begins.{IsPassed, first_class, is_capture, needed_class, rules_out}
use Rattle.lua_pattern.specs.ClassBytes.{class_has}
use Rattle.lua_pattern.specs.Ends.{ends}
use Rattle.lua_pattern.specs.Ways.{ended, is_class_at, run_of}
use Rattle.lua_pattern.proofs.Runs.{run_none}
use Rattle.lua_pattern.proofs.Tries.{ends-plain_none, ends-open, ends-place, ends-close, ends-repeated}

-- the class behind a capture
behind : (item : Item) (rest : List Item) → is_capture item ≡ true → first_class (item ∷ rest) ≡ first_class rest
behind item rest is =
    let one_more : 1 + prefix_len is_capture rest ≡ suc (prefix_len is_capture rest) = omega arith in
    ap (λ b. option_and_then needed_class (slice_get (item ∷ rest) (cond b (1 + prefix_len is_capture rest) 0))) is ∙ ap (λ n. option_and_then needed_class (slice_get (item ∷ rest) n)) one_more

none_some : (class : Class) → None ≡ Some class → ⊥
none_some class e = cc

-- a byte of another class begins no match
begins_none : (subject : List ℕ) (class : Class) (items : List Item) (at : ℕ) (captures : List Capture) → first_class items ≡ Some class → is_class_at class subject at ≡ false → ends subject items at captures ≡ []
begins_none subject class [] at captures is fails = absurd (none_some class is)
begins_none subject class (Plain (Single own) ∷ rest) at captures is fails =
    let given : Some own ≡ Some class = is in
    let same : own ≡ class = cc in
    let none : cond (is_class_at own subject at) (Some (at + 1)) None ≡ None = ap (λ b. cond b (Some (at + 1)) None) (ap (λ c. is_class_at c subject at) same ∙ fails) in
    ends-plain_none subject rest at captures (Single own) (sym none)
begins_none subject class (Plain (Balanced opening closing) ∷ rest) at captures is fails = absurd (none_some class is)
begins_none subject class (Plain (Frontier set) ∷ rest) at captures is fails = absurd (none_some class is)
begins_none subject class (Plain (Reference number) ∷ rest) at captures is fails = absurd (none_some class is)
begins_none subject class (Plain AtEnd ∷ rest) at captures is fails = absurd (none_some class is)
begins_none subject class (Repeated own Optional ∷ rest) at captures is fails = absurd (none_some class is)
begins_none subject class (Repeated own ZeroOrMore ∷ rest) at captures is fails = absurd (none_some class is)
begins_none subject class (Repeated own OneOrMore ∷ rest) at captures is fails =
    let given : Some own ≡ Some class = is in
    let same : own ≡ class = cc in
    let none : run_of own (drop at subject) ≡ 0 = run_none own subject at (ap (λ c. is_class_at c subject at) same ∙ fails) in
    ends-repeated subject rest at captures own OneOrMore ∙ ap (λ run. flat_map (λ place. ends subject rest place captures) (reverse (range_with_len (at + 1) run))) none
begins_none subject class (Repeated own Lazy ∷ rest) at captures is fails = absurd (none_some class is)
begins_none subject class (Open ∷ rest) at captures is fails =
    ends-open subject rest at captures ∙ begins_none subject class rest at (captures ++ Text at at ∷ []) (sym (behind Open rest refl) ∙ is) fails
begins_none subject class (Close number ∷ rest) at captures is fails =
    ends-close subject rest at captures number ∙ begins_none subject class rest at (ended captures number at) (sym (behind (Close number) rest refl) ∙ is) fails
begins_none subject class (Place ∷ rest) at captures is fails =
    ends-place subject rest at captures ∙ begins_none subject class rest at (captures ++ Position at ∷ []) (sym (behind Place rest refl) ∙ is) fails

not_so : (b : Bool) → not b ≡ true → b ≡ false
not_so true h = absurd (cc)
not_so false h = refl

-- so do no items whose class rules a place out
pub ruled_out : (subject : List ℕ) (class : Option Class) (items : List Item) (at : ℕ) (captures : List Capture) → class ≡ first_class items → rules_out class subject at ≡ true → ends subject items at captures ≡ []
ruled_out subject None items at captures is out = absurd (cc)
ruled_out subject (Some class) items at captures is out = begins_none subject class items at captures (sym is) (not_so (is_class_at class subject at) out)

abbrev pub other : Class → ℕ → Bool
other class byte = not (class_has class byte)

-- the byte of a place is the one of a part of the subject
byte_of_part : (subject : List ℕ) (at left k : ℕ) → k < left → get_or (take left (drop at subject)) k 0 ≡ get_or subject (at + k) 0
byte_of_part subject at left k within = get_or-take left (drop at subject) k 0 within ∙ get_or-drop at subject k 0

module _ (subject : List ℕ) (class : Class) (at left : ℕ) (fits : at + left ≤ length subject) where
  -- none of the bytes that are passed over is in the class
  other_at : (k : ℕ) → k < prefix_len (other class) (take left (drop at subject)) → is_class_at class subject (at + k) ≡ false
  other_at k passed =
      let within : k < left = omega (arith, passed, prefix_len-le-length (other class) (take left (drop at subject)), length-take left (drop at subject)) in
      let here : slice_get subject (at + k) ≡ Some (get_or subject (at + k) 0) = slice_get-get_or subject (at + k) 0 (omega (arith, within, fits)) in
      let fails : class_has class (get_or subject (at + k) 0) ≡ false
      = ap (class_has class) (sym (byte_of_part subject at left k within)) ∙ not_so (class_has class (get_or (take left (drop at subject)) k 0)) (prefix_len_passes (other class) (take left (drop at subject)) k 0 passed) in
      ap (λ o. option_map_or (class_has class) o false) here ∙ fails

  none_before : (items : List Item) (n : ℕ) → first_class items ≡ Some class → n ≡ prefix_len (other class) (take left (drop at subject)) → (place : ℕ) → at ≤ place → place < at + n → first_found subject items place ≡ None
  none_before items n is passed place from before =
      let there : at + (place - at) ≡ place = omega (arith, from) in
      let fails : is_class_at class subject place ≡ false
      = subst (λ p. is_class_at class subject p ≡ false) there (other_at (place - at) (omega (arith, from, before, passed))) in
      ap (λ matches. slice_get matches 0) (begins_none subject class items place [] is fails)

-- a part of the subject begins with bytes that begin no match
pub passed_by : (subject text : List ℕ) (items : List Item) (class : Class) (at left n : ℕ) → Some class ≡ first_class items → text ≡ take left (drop at subject) → n ≡ prefix_len (other class) text → at + left ≤ length subject → IsPassed subject items at (at + n)
passed_by subject text items class at left n is part passed fits = record {
  none = none_before subject class at left fits items n (sym is) (passed ∙ ap (prefix_len (other class)) part);
}

-- no place is passed over
pub passed_nothing : (subject : List ℕ) (items : List Item) (at : ℕ) → IsPassed subject items at at
passed_nothing subject items at = record { none = λ place from before. absurd (omega (arith, from, before)) }

-- so many bytes are in the part
pub within_part : (subject text : List ℕ) (at left n : ℕ) → text ≡ take left (drop at subject) → n ≤ length text → at + n ≤ at + left
within_part subject text at left n part within = omega (arith, within, ap length part, length-take left (drop at subject))
