use Rattle.std.proofs.Common.{[], ◌∷◌, ◌∙◌, ap, map, refl, subst, sym}
use Rattle.int_core.specs.Value.{shape}
use Rattle.library_arguments.specs.Shapes.{shape_of}
use Rattle.library_rows.specs.Arguments.{argument}
use Rattle.library_rows.specs.Searches.{find_row, match_row}
use Rattle.library_rows.specs.Strings.{byte_row, sub_row}
use Rattle.lua_heap.specs.Reading.{value}
use Rattle.lib_string.specs.Quick.{IsQuick}
use Rattle.pure_functions.proofs.QuickRows.{argument_is, three_see}
use Rattle.pure_functions.proofs.quick.quick.Goals as goal

pub returns-in-Byte : goal.returns-in-Byte
returns-in-Byte c =
    let seen = c.first_three.ensures in
    subst (IsQuick c.quick_byte.result) (three_see (map (value c.args.world.now.strings) c.args.arguments.now) c.in-Byte.is (λ a b d. byte_row (a ∷ b ∷ d ∷ [])) refl seen.first seen.second seen.third) c.quick_byte.ensures

pub returns-in-Find : goal.returns-in-Find
returns-in-Find c =
    let vs = map (value c.args.world.now.strings) c.args.arguments.now in
    let seen = c.first_three-in-Find in
    subst (IsQuick c.quick_find.result)
    (ap (λ x. find_row (shape_of seen.result.0 ∷ shape_of seen.result.1 ∷ shape_of seen.result.2 ∷ x ∷ [])) (c.argument_shape-plain.ensures ∙ sym (argument_is vs 3))
    ∙ three_see vs c.in-Find.is (λ a b d. find_row (a ∷ b ∷ d ∷ argument (map shape vs) 4 ∷ [])) refl seen.ensures.first seen.ensures.second seen.ensures.third)
    c.quick_find.ensures

pub returns-in-Match : goal.returns-in-Match
returns-in-Match c =
    let seen = c.first_three-in-Match.ensures in
    subst (IsQuick c.quick_match.result) (three_see (map (value c.args.world.now.strings) c.args.arguments.now) c.in-Match.is (λ a b d. match_row (a ∷ b ∷ d ∷ [])) refl seen.first seen.second seen.third) c.quick_match.ensures

pub returns-in-Sub : goal.returns-in-Sub
returns-in-Sub c =
    let seen = c.first_three-in-Sub.ensures in
    subst (IsQuick c.quick_sub.result) (three_see (map (value c.args.world.now.strings) c.args.arguments.now) c.in-Sub.is (λ a b d. sub_row (a ∷ b ∷ d ∷ [])) refl seen.first seen.second seen.third) c.quick_sub.ensures
