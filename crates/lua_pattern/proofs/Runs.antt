-- A run of bytes of a class, one byte on and at its end.
use Rattle.std.proofs.Common.{◌≡◌, ℕ, ◌+◌, ◌<◌, true, false, List, length, drop, sym, ap, ◌∙◌, inl, inr}
use Rattle.std.specs.Option.{option_map_or}
use Rattle.std.proofs.lemmas.Bool.{false≢true, cases_lt}
use Rattle.std.proofs.lemmas.List.Sums.{prefix_len-drop_yes, prefix_len-drop_no, prefix_len-drop_all}
use Rattle.std.proofs.lemmas.Option.{slice_get-get_or, slice_get_past}
use Rattle.lua_pattern.specs.declared.class.Class.{Class}
use Rattle.lua_pattern.specs.ClassBytes.{class_has}
use Rattle.lua_pattern.specs.Ways.{is_class_at, run_of}

pub is_there : (class : Class) (subject : List ℕ) (at : ℕ) → is_class_at class subject at ≡ true → at < length subject
is_there class subject at holds =
    elim (cases_lt at (length subject)) [
      | inl inside ↦ inside
      | inr past ↦ absurd (false≢true (sym (ap (λ o. option_map_or (class_has class) o false) (slice_get_past subject at past)) ∙ holds))
    ]

pub run_more : (class : Class) (subject : List ℕ) (at : ℕ) → is_class_at class subject at ≡ true → run_of class (drop at subject) ≡ 1 + run_of class (drop (at + 1) subject)
run_more class subject at holds =
    let inside = is_there class subject at holds in
    let byte = slice_get-get_or subject at 0 inside in
    prefix_len-drop_yes (class_has class) subject at 0 inside (sym (ap (λ o. option_map_or (class_has class) o false) byte) ∙ holds)

pub run_none : (class : Class) (subject : List ℕ) (at : ℕ) → is_class_at class subject at ≡ false → run_of class (drop at subject) ≡ 0
run_none class subject at fails =
    elim (cases_lt at (length subject)) [
      | inl inside ↦ prefix_len-drop_no (class_has class) subject at 0 inside (sym (ap (λ o. option_map_or (class_has class) o false) (slice_get-get_or subject at 0 inside)) ∙ fails)
      | inr past ↦ prefix_len-drop_all (class_has class) subject at past
    ]
