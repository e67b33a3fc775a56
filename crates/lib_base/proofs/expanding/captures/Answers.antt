use Rattle.std.proofs.Common.{rules, ◌≡◌, [], ◌∷◌, ◌++◌, ap, sym, ◌∙◌, map}
use Rattle.std.specs.Prelude.{pos}
use Rattle.int_core.specs.Value.{a_table, object, shape}
use Rattle.library_arguments.specs.Shapes.{shape_of, shapes_of}
use Rattle.library_rows.specs.Look.{no_word, read_field}
use Rattle.table_core.specs.declared.value.Value.TheVariants.{Int, Table}
use Rattle.lib_base.specs.Lists.{items_from}
use Rattle.lib_base.specs.Raw.{Operates}
use Rattle.pure_functions.specs.Answers.{heap_of}
use Rattle.lib_base.proofs.ListRows.{next_shape}
use Rattle.pure_functions.proofs.Meaning.{map_more}
use Rattle.lib_base.proofs.Seen.{read_there}
use Rattle.lib_base.proofs.expanding.captures.Goals as goal

pub shape-requires : goal.shape-requires
shape-requires c = read_there c.strings_are_there.ensures c.args.world.now c.args.arguments.now c.requires _ _ c.read_field-item.result c.read_field-item.ensures

pub loop-i-preserved : goal.loop-i-preserved
loop-i-preserved c =
    let W = c.args.world.now in
    let o : Operates read_field W (Table c.args.id ∷ Int (pos c.loop-i.i) ∷ []) W (c.read_field-item.result ∷ []) no_word = search rules in
    let e : c.push.new.self.items ≡ c.loop-i.captures.items ++ c.shape.result ∷ [] = search rules in
    ap shapes_of e ∙ map_more shape_of c.loop-i.captures.items c.shape.result
    ∙ ap (λ ss. ss ++ shape_of c.shape.result ∷ []) c.loop-i.invariant
    ∙ ap (λ s. map shape (items_from (heap_of W) (object a_table c.args.id.0) c.loop-i.i 0) ++ s ∷ []) c.shape.ensures
    ∙ sym (next_shape W c.args.id c.loop-i.i c.read_field-item.result o)
