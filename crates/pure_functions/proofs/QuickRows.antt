-- Rows of functions of texts, by the arguments that they look at, and answers that take no memory.
use Rattle.std.proofs.Common.{◌≡◌, ℕ, Bool, List, [], ◌∷◌, length, map, Option, Some, None, true, ap, sym, ◌∙◌, ◌≤◌, arith, refl, suc}
use Rattle.std.specs.Prelude.{◌&&◌, slice_get, option_map, cond, nat_le}
use Rattle.int_core.specs.Value.{Plain, Value, known, string, Shape, shape, nth, greatest_string, nil}
use Rattle.library_rows.specs.Arguments.{argument}
use Rattle.library_rows.specs.Look.{done, no_word, Done, refused}
use Rattle.library_rows.specs.Plainly.{Outcome, PlainRowsAreFunctions, done_as, plainly, results, too_large}
use Rattle.table_core.specs.declared.value.StrId.{StrId}
use Rattle.table_core.specs.declared.value.Value.{Value as Kept}
use Rattle.table_core.specs.declared.value.Value.TheVariants.{Str}
use Rattle.lua_heap.specs.Reading.{text_or, value}
use Rattle.lua_heap.specs.Strings.{AreShort}
use Rattle.lua_heap.specs.declared.world.World.{World as Memory}
use Rattle.pure_functions.specs.declared.answer.Answer.{Answer}
use Rattle.pure_functions.specs.declared.answer.Answer.TheVariants.{One}
use Rattle.pure_functions.specs.Answers.{heap_of}
use Rattle.pure_functions.specs.Functions.{text_row}
use Rattle.pure_functions.specs.declared.texts.Function.{Function}
use Rattle.pure_functions.specs.QuickAnswers.{IsQuickAnswer, IsToldAs}
use Rattle.std.proofs.lemmas.Option.{slice_get-map}
use Rattle.std.proofs.lemmas.Bool.Decides.{nat_tests}
use Rattle.int_core.specs.Heap.{Heap}

-- what is seen of an argument, by its place
pub argument_is : (vs : List Value) (i : ℕ) → argument (map shape vs) (suc i) ≡ shape (nth vs i)
argument_is vs i = ap {A = Option Shape} (λ o. elim o as (λ _. Shape) [ None ↦ no_word | Some s ↦ s ]) (slice_get-map shape vs i) ∙ go (slice_get vs i)
  where
    go : (o : Option Value) → elim (option_map shape o) as (λ _. Shape) [ None ↦ no_word | Some s ↦ s ] ≡ shape (elim o [ None ↦ known nil | Some v ↦ v ])
    go None = refl
    go (Some v) = refl

-- what a row sees of its first arguments is what its function takes from all of them
module _ (vs : List Value) where
  abbrev at : ℕ → Shape
  at = argument (map shape vs)

  pub three_see : {f g : Function} → f ≡ g → (by : Shape → Shape → Shape → Outcome) → by (at 1) (at 2) (at 3) ≡ text_row g (map shape vs) → {a b d : Shape} → a ≡ shape (nth vs 0) → b ≡ shape (nth vs 1) → d ≡ shape (nth vs 2) →
      by a b d ≡ text_row f (map shape vs)
  three_see is by all {b = b} {d = d} p q r =
      ap (λ x. by x b d) (p ∙ sym (argument_is vs 0))
      ∙ ap (λ x. by (at 1) x d) (q ∙ sym (argument_is vs 1))
      ∙ ap (λ x. by (at 1) (at 2) x) (r ∙ sym (argument_is vs 2))
      ∙ all
      ∙ ap (λ (f : Function). text_row f (map shape vs)) (sym is)

pub within : (m n : ℕ) → m ≤ n → nat_le m n ≡ true
within m n h = grind (arith, nat_tests)

abbrev pub by_limit : Heap → List Plain → Bool → Done
by_limit H ps b = cond b (done H (map known ps)) (refused too_large)

-- a string that is there is within the limit
pub text_told : (W : Memory) (id : StrId) (bytes : List ℕ) → slice_get W.strings id.0 ≡ Some bytes → AreShort W.strings → IsToldAs W (string bytes ∷ []) (Some (One (Str id)))
text_told W id bytes e short = (
  ap (λ o. done (heap_of W) (known (string (text_or id.0 o)) ∷ [])) e,
  ap (λ b. b && true) (within (length bytes) greatest_string (short id.0 bytes e)),
)

-- results that a function gives are those of its row
pub quick_row : PlainRowsAreFunctions → (f : List Shape → Outcome) (arguments : List Kept) (W : Memory) (ps : List Plain) (o : Option Answer) → f (map shape (map (value W.strings) arguments)) ≡ results ps → IsToldAs W ps o
    → IsQuickAnswer (plainly f) arguments W o
quick_row law f arguments W ps None gives told = tt
quick_row law f arguments W ps (Some answer) gives told =
    law f (map (value W.strings) arguments) (heap_of W) ∙ ap (done_as (heap_of W)) gives ∙ ap (by_limit (heap_of W) ps) told.1 ∙ sym told.0
