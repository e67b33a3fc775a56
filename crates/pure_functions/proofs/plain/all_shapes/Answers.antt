use Rattle.std.proofs.Common.{rules, ◌≡◌, ◌<◌, [], ◌∷◌, ◌++◌, ap, sym, ◌∙◌, length, map, take, arith}
use Rattle.std.proofs.lemmas.List.{length-map}
use Rattle.int_core.specs.Value.{shape}
use Rattle.library_arguments.specs.Shapes.{shape_of, shapes_of}
use Rattle.lua_heap.specs.Reading.{value}
use Rattle.pure_functions.proofs.Meaning.{map_more, taken_more}
use Rattle.pure_functions.proofs.plain.all_shapes.Goals as goal

pub loop-at-preserved : goal.loop-at-preserved
loop-at-preserved c =
    let vs = map (value c.args.world.now.strings) c.args.arguments.now in
    let n : length vs ≡ length c.args.arguments.now = length-map c.args.arguments.now (value c.args.world.now.strings) in
    let h : c.loop-at.at < length c.args.arguments.now = search rules in
    let e : c.push.new.self.items ≡ c.loop-at.shapes.items ++ c.argument_shape-seen.result ∷ [] = search rules in
    ap shapes_of e ∙ map_more shape_of c.loop-at.shapes.items c.argument_shape-seen.result
    ∙ ap (λ ss. ss ++ shape_of c.argument_shape-seen.result ∷ []) c.loop-at.invariant
    ∙ ap (λ s. map shape (take c.loop-at.at vs) ++ s ∷ []) c.argument_shape-seen.ensures
    ∙ sym (taken_more vs c.loop-at.at (omega (arith, n, h)))
