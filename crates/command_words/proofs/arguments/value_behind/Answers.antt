use Rattle.std.proofs.Common.{◌≡◌, ◌+◌, ◌++◌, ℕ, List, Option, Some, None, refl, sym, ◌∙◌, ap, drop, length, Bor}
use Rattle.std.specs.Prelude.{MatchOption}
use Rattle.std.specs.Option.{option_map}
use Rattle.std.specs.Str.Pattern.{FindsTextPrefix, LacksTextAt}
use Rattle.command_words.specs.Reading.{value_behind}
use Rattle.command_words.proofs.Fronts.{behind_front, is_front}
use Rattle.command_words.proofs.arguments.value_behind.Goals as goal

abbrev Strips : (front word : List ℕ) → Option (Bor (List ℕ)) → Type 0
Strips front word r = MatchOption r (LacksTextAt front word 0) (λ x. (n : ℕ) × FindsTextPrefix front word (Some n) × (x.now ≡ drop n word) × (length x.now + n ≡ length word))

none_behind : (front word : List ℕ) (found : Option (List ℕ)) → value_behind front word ≡ found → LacksTextAt front word 0 → None ≡ value_behind front word
none_behind front word None e h = sym e
none_behind front word (Some rest) e h = absurd (h rest (is_front front word rest e))

behind : (front word : List ℕ) (r : Option (Bor (List ℕ))) → Strips front word r → option_map (λ value. value.now) r ≡ value_behind front word
behind front word None h = none_behind front word (value_behind front word) refl h
behind front word (Some x) h =
    let whole : word ≡ front ++ x.now = h.1.1 ∙ ap (λ rest. front ++ rest) (sym h.2) in
    sym (behind_front front x.now) ∙ ap (value_behind front) (sym whole)

pub returns : goal.returns
returns c = behind c.args.option.now c.args.word.now c.strip_prefix.result c.strip_prefix.ensures.cases
