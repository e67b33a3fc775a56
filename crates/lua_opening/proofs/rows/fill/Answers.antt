use Rattle.std.proofs.Common.{rules, ℕ, ◌<◌, List, [], map, take, get_or, sym, subst, Bor}
use Rattle.std.specs.Prelude.{length}
use Rattle.int_core.specs.Value.{Value, known, string}
use Rattle.lua_opening.specs.declared.rows.Item.{Item}
use Rattle.lua_opening.specs.declared.rows.Item.TheVariants.{Primitive}
use Rattle.lua_opening.specs.Opened.{Filled, meant}
use Rattle.lua_opening.proofs.Filling.{begins_on, filled_more, read_still, take_more}
use Rattle.lua_opening.proofs.rows.fill.Goals as goal

abbrev named : Bor (List ℕ) × Item → Value × Value
named r = meant r.0.now r.1

abbrev none : Bor (List ℕ) × Item
none = (record { ref_ptr = (0, 0); now = [] }, Primitive 0)

pub loop-name-preserved : goal.loop-name-preserved
loop-name-preserved c =
    let i : ℕ = c.loop-name.name-index in
    let rows = c.args.rows.now in
    let both = begins_on _ _ _ c.key_of.ensures.strings c.value_of.ensures.strings in
    let name = (get_or rows i none).0.now in
    let within : i < length rows = search rules in
    record {
      strings = begins_on _ _ _ c.loop-name.invariant.strings both;
      table = subst (Filled c.value_of.new.strings c.set.new.self) (sym (take_more named rows none i within))
          (filled_more c.loop-name.strings c.value_of.new.strings c.loop-name.table c.set.new.self (map named (take i rows)) c.in_ok-key.key c.in_ok-value.value (named (get_or rows i none)) both
          c.loop-name.invariant.table (read_still _ _ c.in_ok-key.key (known (string name)) c.value_of.ensures.strings c.in_ok-key.ensures.key) c.in_ok-value.ensures.value c.in_ok-set.ensures.ok
          c.set.ensures.metatable);
    }
