use Rattle.std.proofs.Common.{rules, ◌≡◌, ◌+◌, [], ◌∷◌, ◌++◌, map, ap, ◌∙◌}
use Rattle.std.specs.Prelude.{pos}
use Rattle.library_rows.specs.Look.{no_word, read_field}
use Rattle.table_core.specs.declared.value.Value.TheVariants.{Int, Table}
use Rattle.lua_heap.specs.Reading.{value}
use Rattle.lib_base.specs.Raw.{Operates}
use Rattle.lib_base.proofs.ListRows.{next_item}
use Rattle.lib_base.proofs.lists.items.Goals as goal

pub loop-i-preserved : goal.loop-i-preserved
loop-i-preserved c =
    let W = c.args.world.now in
    let o : Operates read_field W (Table c.args.id ∷ Int (pos (c.loop-i.i + 1)) ∷ []) W (c.read_field-item.result ∷ []) no_word = search rules in
    let e : c.push.new.self.items ≡ c.loop-i.items.items ++ c.read_field-item.result ∷ [] = search rules in
    ap (map (value W.strings)) e ∙ next_item W c.args.id c.loop-i.i c.loop-i.items.items c.read_field-item.result c.loop-i.invariant o
