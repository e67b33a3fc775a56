-- The words of checked code have 32 bits, so that their low bits are the words themselves.
use Rattle.std.proofs.Common.{arith, ℕ, ◌≡◌, ◌^◌, ◌%◌, List, [], ◌∷◌, map, true, refl, ap, ap₂, ◌∙◌}
use Rattle.std.specs.List.{list_all}
use Rattle.std.proofs.lemmas.Bool.Decides.{Decides-ltb}
use Rattle.code_core.specs.declared.instruction.Instruction.{Instruction}
use Rattle.code_core.specs.Check.{IsChecked}
use Rattle.code_core.specs.Prototype.{Parts, Prototype, Prototypes, none, more}
use Rattle.code_core.specs.Writable.{all_fit, parts_fit, lists_fit, number_fits, byte_fits, word_fits, keeps_source, name_fits, is_writable}
use Rattle.code_core.proofs.CheckedLemmas.{rest_of, first_of_two, described_is_writable}
use Rattle.code_emitter.specs.Listing.{low}
use Rattle.code_parts.specs.Assembled.{low_parts, low_prototype, low_prototypes}
use Rattle.code_parts.proofs.Whole.{low_same}

abbrev word_of : ℕ → Instruction
word_of n = record { 0 = n }

low_word : (w : Instruction) → word_fits w ≡ true → low w ≡ w
low_word w h =
    let few = (Decides-ltb w.0 (2 ^ 32)).0 h in
    let same : w.0 % 2 ^ 32 ≡ w.0 = omega (arith, few) in
    ap word_of same

low_words : (ws : List Instruction) → list_all word_fits ws ≡ true → map low ws ≡ ws
low_words [] h = refl
low_words (w ∷ ws) h = ap₂ (λ v vs. v ∷ vs) (low_word w (first_of_two (word_fits w) _ h)) (low_words ws (rest_of (word_fits w) h))

low_own : (p : Parts) → parts_fit p ≡ true → low_parts p ≡ p
low_own p h =
    let numbers = rest_of (number_fits p.last_line) (rest_of (number_fits p.line_defined) (rest_of (name_fits p.source) h)) in
    let bytes = rest_of (byte_fits p.stack) (rest_of (byte_fits p.params) numbers) in
    low_same p (low_words p.code (first_of_two (list_all word_fits p.code) _ (rest_of (lists_fit p) bytes)))

low_inner : (parent : Parts) (ps : Prototypes) → all_fit parent ps ≡ true → low_prototypes ps ≡ ps
low_inner parent none h = refl
low_inner parent (more own inner rest) h =
    let fits = rest_of (keeps_source parent own) h in
    let behind = rest_of (parts_fit own) fits in
    ap (λ p. more p (low_prototypes inner) (low_prototypes rest)) (low_own own (first_of_two (parts_fit own) _ fits))
    ∙ ap (λ ps. more own ps (low_prototypes rest)) (low_inner own inner (first_of_two (all_fit own inner) _ behind))
    ∙ ap (more own inner) (low_inner parent rest (rest_of (all_fit own inner) behind))

abbrev made_of : Parts → Prototypes → Prototype
made_of own inner = record { own = own; inner = inner }

low_writable : (p : Prototype) → is_writable p ≡ true → low_prototype p ≡ p
low_writable p h =
    ap₂ made_of (low_own p.own (first_of_two (parts_fit p.own) _ h)) (low_inner p.own p.inner (first_of_two (all_fit p.own p.inner) _ (rest_of (parts_fit p.own) h)))

pub low_checked : (p : Prototype) → IsChecked p → low_prototype p ≡ p
low_checked p h = low_writable p (described_is_writable p h.code.described)
