use Rattle.lua_pattern.proofs.Parts.{set-first, set-more}
use Rattle.lua_pattern.proofs.set.read_set.Goals as goal

pub loop-byte-init : goal.loop-byte-init
loop-byte-init c =
    set-first c.take_if-inverted.result c.args.cursor.now c.take_if-inverted.new.self c.next_byte.new.self c.read_part.new.cursor c.in-Some.first c.read_part.result c.push.new.self.items c.take_if-inverted.ensures.told c.take_if-inverted.ensures.left c.in-Some.ensures c.read_part.ensures.part c.read_part.ensures.rest (rw c.new-parts.ensures.items at c.in_ok-push.ensures.items)

pub loop-byte-preserved : goal.loop-byte-preserved
loop-byte-preserved c =
    set-more c.take_if-inverted.result c.args.cursor.now c.loop-byte.cursor c.next_byte-in-loop-byte.new.self c.read_part-in-Some-next_byte.new.cursor c.in-Some-next_byte.byte c.read_part-in-Some-next_byte.result c.loop-byte.parts.items c.push-in-Some-next_byte.new.self.items c.loop-byte.invariant c.in-Some-next_byte.ensures c.if-byte-eq93.false c.read_part-in-Some-next_byte.ensures.part c.read_part-in-Some-next_byte.ensures.rest c.in_ok-push-2.ensures.items
