-- Parts of a line at the front of the pending bytes.
use Rattle.std.proofs.Common.{◌≡◌, ◌≢◌, ◌+◌, ◌-◌, ◌<◌, ◌≤◌, ◌++◌, ◌∷◌, ℕ, List, [], Bool, true, false, MatchBool, Option, None, Some, IfSome, sym, ap, refl, subst, inl, inr, length-append, append_assoc, append-nil, length-drop, arith, length, take, drop, ◌∙◌}
use Rattle.std.proofs.lemmas.List.{take-append-drop, drop-drop, drop-take}
use Rattle.std.proofs.lemmas.Grind.{common_steps}
use mir.Val.{bool_byte}
use Rattle.std.proofs.lemmas.List.Elements.{All-append}
use Rattle.std.specs.Option.{option_map}
use Rattle.io_edge.proofs.LineLemmas.{lines_of-ended, lines_of-last, lines_of-front}
use Rattle.io_edge.specs.Lines.{BeginsPastLimits, IsPastLimits, IsUnbroken, lines_of}
use Rattle.io_edge.specs.Parts.{GrowsPastLimits, TakesPart, line_feed}

-- what is behind the first bytes of a range is the range from there
pub range_behind : (bytes : List ℕ) (start end count : ℕ) → count ≤ end - start → drop count (take (end - start) (drop start bytes)) ≡ take (end - (start + count)) (drop (start + count) bytes)
range_behind bytes start end count inside =
    let rest : end - start ≡ count + (end - (start + count)) = omega arith in
    rw rest (drop-take count (end - (start + count)) (drop start bytes) ∙ ap (take (end - (start + count))) (drop-drop count start bytes))

-- the first bytes and their line feed are pending
pub part_within : (pending : List ℕ) (count : ℕ) (ended : Bool) → MatchBool ended (drop count pending ≡ 10 ∷ drop (count + 1) pending) (count ≡ length pending) →
    count + bool_byte ended ≤ length pending
part_within pending count true found = omega (arith, length-drop count pending, ap length found)
part_within pending count false found = omega arith

-- the first bytes were added, and what is behind them and their line feed is pending
pub takes_part : (pending now line grown : List ℕ) (count : ℕ) (ended : Bool) → IsUnbroken (take count pending) →
    MatchBool ended (drop count pending ≡ 10 ∷ drop (count + 1) pending) (count ≡ length pending) →
    now ≡ drop (count + bool_byte ended) pending → grown ≡ line ++ take count pending → TakesPart pending now line grown ended
takes_part pending now line grown count true unbroken found behind added = record {
  part = take count pending;
  taken = sym (take-append-drop count pending) ∙ ap (λ rest. take count pending ++ rest) (found ∙ ap (λ rest. 10 ∷ rest) (sym behind));
  added = added;
  unbroken = unbroken;
  emptied = λ bad. cc;
}
takes_part pending now line grown count false unbroken found behind added =
    let all : now ≡ drop count pending = behind ∙ ap (λ n. drop n pending) (omega arith) in
    record {
      part = take count pending;
      taken = sym (take-append-drop count pending) ∙ ap (λ rest. take count pending ++ rest) (sym all);
      added = added;
      unbroken = unbroken;
      emptied = λ _. grind (arith, common_steps);
    }

-- a part that no line feed ended is all that was pending
pub part_grows : (before now line grown : List ℕ) → TakesPart before now line grown false → 0 < length before → length line < length grown
part_grows before now line grown taken some =
    let whole : before ≡ taken.part ++ now = taken.taken in
    let part : length before ≡ length taken.part + length now = ap length whole ∙ length-append taken.part now in
    let none : length now ≡ 0 = ap length (taken.emptied refl) in
    let added : length grown ≡ length line + length taken.part = ap length taken.added ∙ length-append line taken.part in
    omega arith

-- more bytes are past the limits too
past_further : (taken : ℕ) (line more : List ℕ) → IsPastLimits taken line → IsPastLimits taken (line ++ more)
past_further taken line more (inl long) = inl (omega (arith, length-append line more))
past_further taken line more (inr far) = inr (omega (arith, length-append line more))

-- an unbroken front that is past the limits begins a first line that is
past_front : (taken : ℕ) (front rest : List ℕ) → IsUnbroken front → 0 < length (front ++ rest) → IsPastLimits taken front → BeginsPastLimits taken (front ++ rest)
past_front taken front rest unbroken some past =
    let first = lines_of-front front rest unbroken some in
    (front ++ first.0, first.1, first.2, past_further taken front first.0 past)

-- where a line grows past the limits, the first line of the text is past them
pub begins_past : (taken : ℕ) (before : Option (List ℕ)) (pending line : List ℕ) (left : Option (List ℕ)) →
    before ≡ option_map (λ text. line ++ text) (option_map (λ rest. pending ++ rest) left) → IsUnbroken line → 0 < length pending →
    GrowsPastLimits taken pending line → IfSome before (λ text. BeginsPastLimits taken text)
begins_past taken before pending line None is unbroken some grows = rw is tt
begins_past taken before pending line (Some rest) is unbroken some grows =
    let front = line ++ grows.part in
    let whole : IsUnbroken front = All-append (λ byte. byte ≢ 10) line grows.part unbroken grows.unbroken in
    let text : line ++ (pending ++ rest) ≡ front ++ (grows.rest ++ rest) = rw grows.front (simp append_assoc) in
    let long : 0 < length (line ++ (pending ++ rest)) = omega (arith, length-append line (pending ++ rest), length-append pending rest) in
    let longer : 0 < length (front ++ (grows.rest ++ rest)) = subst (λ (bytes : List ℕ). 0 < length bytes) text long in
    rw is (subst (λ (bytes : List ℕ). BeginsPastLimits taken bytes) (sym text) (past_front taken front (grows.rest ++ rest) whole longer grows.past))

-- a line that a line feed or the end of the input ends is the first line of the text
pub takes_line : (line : List ℕ) (ended : Bool) (before now : Option (List ℕ)) → IsUnbroken line →
    before ≡ option_map (λ text. line ++ (line_feed ended ++ text)) now → (ended ≡ false → IfSome now (λ text. text ≡ [])) →
    (ended ≡ false → 0 < length line) → option_map lines_of before ≡ option_map (λ text. line ∷ lines_of text) now
unfolding lines_of
takes_line line ended before None unbroken is end some = rw is
takes_line line true before (Some text) unbroken is end some = rw is (ap Some (lines_of-ended line text unbroken))
takes_line line false before (Some text) unbroken is end some =
    rw (is, end refl) (ap Some (ap lines_of (append-nil line) ∙ lines_of-last line unbroken (some refl)))

-- the line that was given is the one that was found
pub same_line : (lines : Option (List (List ℕ))) (line given : List ℕ) (now after : Option (List ℕ)) →
    lines ≡ option_map (λ text. line ∷ lines_of text) now → given ≡ line → after ≡ now → lines ≡ option_map (λ text. given ∷ lines_of text) after
same_line lines line given now after found line_is rest_is = rw (line_is, rest_is) found
