-- Arguments by their places.
use Rattle.std.proofs.Common.{◌≡◌, ℕ, suc, ◌+◌, ◌<◌, ◌≤◌, List, length, get_or, Option, Some, None, add-one, sym, ap, subst, ◌∙◌}
use Rattle.std.specs.Prelude.{map, slice_get}
use Rattle.std.specs.Option.{option_map}
use Rattle.std.proofs.lemmas.Option.{slice_get-map, slice_get-get_or, slice_get_past}
use Rattle.int_core.specs.Value.{Shape as Seen}
use Rattle.library_rows.specs.Arguments.{argument}
use Rattle.library_rows.specs.Look.{no_word}
use Rattle.library_arguments.specs.declared.shape.Shape.{Shape}
use Rattle.library_arguments.specs.Shapes.{shape_of, shapes_of}

abbrev or_nil : Option Seen → Seen
or_nil o = elim o [ None ↦ no_word | Some s ↦ s ]

behind : (shapes : List Shape) (i place : ℕ) → place ≡ i + 1 → argument (shapes_of shapes) place ≡ or_nil (option_map shape_of (slice_get shapes i))
behind shapes i place e = ap (argument (shapes_of shapes)) (e ∙ add-one i) ∙ ap or_nil (slice_get-map shape_of shapes i)

pub argument_there : (shapes : List Shape) (i place : ℕ) (shape : Shape) → place ≡ i + 1 → i < length shapes → shape ≡ get_or shapes i shape → shape_of shape ≡ argument (shapes_of shapes) place
argument_there shapes i place shape e within there =
    sym (behind shapes i place e ∙ ap (λ o. or_nil (option_map shape_of o)) (slice_get-get_or shapes i shape within ∙ ap (λ s. Some s) (sym there)))

pub argument_missing : (shapes : List Shape) (i place : ℕ) → place ≡ i + 1 → length shapes ≤ i → no_word ≡ argument (shapes_of shapes) place
argument_missing shapes i place e past = sym (behind shapes i place e ∙ ap (λ o. or_nil (option_map shape_of o)) (slice_get_past shapes i past))
