use Rattle.std.proofs.Common.{rules, ◌≡◌, ◌+◌, ◌-◌, ◌<◌, ◌≤◌, sym, ◌∙◌, length, map, arith}
use Rattle.std.specs.Prelude.{pos}
use Rattle.std.proofs.lemmas.List.{length-map}
use Rattle.int_core.specs.Rows.{set}
use Rattle.table_core.specs.Value.{lua_values}
use Rattle.table_core.specs.declared.value.Value.TheVariants.{Int}
use Rattle.lua_heap.specs.Reading.{value}
use Rattle.lib_base.proofs.Numbered.{numbered_are, numbered_more}
use Rattle.lib_base.proofs.numbering.numbered_table.Goals as goal

pub loop-at-preserved : goal.loop-at-preserved
loop-at-preserved c =
    let texts = c.args.world.now.strings in
    let at = c.loop-at.at in
    let vs = map (value texts) c.args.values.now in
    let n : length vs ≡ length c.args.values.now = length-map c.args.values.now (value texts) in
    let h : at < length c.args.values.now = search rules in
    let f : c.set.new.self.rows ≡ set lua_values c.loop-at.table.rows (Int (pos (at + c.args.first))) c.argument.result = search rules in (
      sym (numbered_more texts c.reads_alike.ensures c.args.first vs at c.loop-at.table.rows c.set.new.self.rows c.argument.result (omega (arith, n, h)) (c.argument.ensures texts) f) ∙ c.loop-at.invariant.0,
      c.set.ensures.metatable ∙ c.loop-at.invariant.1,
    )

pub returns-clause-metatable : goal.returns-clause-metatable
returns-clause-metatable c = c.set-2.ensures.metatable ∙ c.loop-at.invariant.1

pub returns-clause-rows : goal.returns-clause-rows
returns-clause-rows c =
    let texts = c.args.world.now.strings in
    let h : length c.args.values.now ≤ c.loop-at.at = search rules in
    let f : c.set-2.new.self.rows ≡ set lua_values c.loop-at.table.rows c.args.name (Int (pos (length c.args.values.now + c.args.first - 1))) = search rules in
    numbered_are texts c.reads_alike.ensures c.args.first c.args.values.now c.loop-at.at c.loop-at.table.rows c.set-2.new.self.rows c.args.name h c.requires.named c.loop-at.invariant.0 f
