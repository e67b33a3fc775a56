-- From the items of a pattern to the answer for it.
use Rattle.std.proofs.Common.{Result, ◌≡◌, ℕ, ◌≤◌, cond, List, [], Option, Some, None, Ok, Err, sym, ap, ◌∙◌}
use Rattle.std.specs.Prelude.{count_by, slice_get}
use Rattle.std.proofs.lemmas.Bool.{lt-ltb, le-ltb}
use Rattle.lua_pattern.specs.declared.answer.Match.{Match}
use Rattle.lua_pattern.specs.declared.answer.PatternFault.{PatternFault}
use Rattle.lua_pattern.specs.declared.answer.PatternFault.TheVariants.{Malformed, TooComplex, Memory}
use Rattle.lua_pattern.specs.declared.item.Item.{Item}
use Rattle.lua_pattern.specs.Answer.{IsAnswer, IsFaultOf, found_of, answer_by, answer_of, first_found, is_counted}
use Rattle.lua_pattern.specs.Ends.{ends}
use Rattle.lua_pattern.specs.Firsts.{IsFirst}
use Rattle.lua_pattern.specs.declared.answer.Capture.{Capture}
use Rattle.lua_pattern.specs.Outcomes.{IsRefused}
use Rattle.lua_pattern.specs.Reading.{items_of}

-- a pattern that is not read is answered alike at every place
pub refused_answer : (subject pattern : List ℕ) (at : ℕ) (fault : PatternFault) → IsFaultOf fault (items_of pattern) → IsAnswer (Err fault) (answer_of subject pattern at)
unfolding answer_of
refused_answer subject pattern at (Malformed rule) refused = ap (λ items. answer_by subject items at) refused
refused_answer subject pattern at TooComplex refused =
    ap (λ items. answer_by subject items at) refused.1 ∙ ap (λ many. cond many (Err TooComplex) (Ok (first_found subject refused.0 at))) (lt-ltb 200 _ refused.2)
refused_answer subject pattern at Memory refused = tt

-- a pattern that is read is answered by its first match
pub found_answer : (subject pattern : List ℕ) (at : ℕ) (items : List Item) (found : Option Match) → items_of pattern ≡ Ok items → count_by is_counted items ≤ 200 → found_of found ≡ first_found subject items at
    → answer_of subject pattern at ≡ Ok (found_of found)
unfolding answer_of
found_answer subject pattern at items found read few first =
    ap (λ items. answer_by subject items at) read ∙ ap (λ many. cond many (Err TooComplex) (Ok (first_found subject items at))) (le-ltb 200 _ few) ∙ ap (λ found. Ok found) (sym first)

-- why items were read and are refused
pub refused_items : (fault : PatternFault) (told : Result (List Item) ℕ) → IsRefused fault told → IsFaultOf fault told
refused_items (Malformed rule) told refused = refused
refused_items TooComplex told refused = absurd refused
refused_items Memory told refused = tt

module _ (subject : List ℕ) (at : ℕ) (items seen : List Item) (before after : List Capture) (same : seen ≡ items) (none : before ≡ []) where
  from_start : ends subject seen at before ≡ ends subject items at []
  from_start = ap (λ items. ends subject items at before) same ∙ ap (ends subject items at) none

  pub some_first : (result : Option ℕ) (end : ℕ) → result ≡ Some end → IsFirst (ends subject seen at before) result before after → Some (record { end = end; captures = after }) ≡ first_found subject items at
  some_first None end is first = cc
  some_first (Some place) end is first =
      let same_end : place ≡ end = cc in
      ap (λ (end : ℕ). Some (record { end = end; captures = after })) (sym same_end) ∙ sym first ∙ ap (λ matches. slice_get matches 0) from_start

  pub none_first : (result : Option ℕ) → result ≡ None → IsFirst (ends subject seen at before) result before after → None ≡ first_found subject items at
  none_first None is first = sym (ap (λ matches. slice_get matches 0) (sym from_start ∙ first.0))
  none_first (Some place) is first = cc
