use Rattle.std.proofs.Common.{◌≡◌, ◌∷◌, [], true, false, length, Err, sym, ap, ◌∙◌, arith, rules}
use Rattle.lua_pattern.specs.Scope.{is_closed}
use Rattle.lua_pattern.proofs.Readings.{end_of_item, length-end, no_more_items, one_item, refused_item, unfinished_capture}
use Rattle.lua_pattern.proofs.reading.read_pattern.Goals as goal

pub returns-in_err-item-clause-refused : goal.returns-in_err-item-clause-refused
returns-in_err-item-clause-refused c =
    let same : c.from_residual-in_err-item.result ≡ Err c.in_err-item.field-0.0 = search rules in
    rw same (refused_item c.in_err-item.field-0.0 c.loop-byte.items.items c.loop-byte.scope _ c.loop-byte.cursor c.next_byte.new.self _ c.in-Some.byte c.loop-byte.invariant c.in-Some.ensures c.in_err-item.ensures)

pub loop-byte-smaller : goal.loop-byte-smaller
loop-byte-smaller c =
    let less = length-end (end_of_item _ c.in-Some.byte c.next_byte.new.self _ c.in_ok-item.ensures) in
    let was : length c.loop-byte.cursor ≡ length (c.in-Some.byte ∷ c.next_byte.new.self) = ap length c.in-Some.ensures in
    omega (arith, less, was)

pub loop-byte-preserved : goal.loop-byte-preserved
loop-byte-preserved c =
    c.loop-byte.invariant ∙ one_item c.loop-byte.items.items c.push.new.self.items c.loop-byte.scope c.loop-byte.cursor c.next_byte.new.self c.in-Some.byte _ c.in-Some.ensures c.in_ok-item.ensures c.in_ok-push.ensures.items

pub returns-then-not-is_closed-clause-refused : goal.returns-then-not-is_closed-clause-refused
returns-then-not-is_closed-clause-refused c =
    let over : c.loop-byte.cursor ≡ [] = c.in_default.ensures.0 in
    let open_yet : is_closed c.loop-byte.scope ≡ false = sym c.if-not-is_closed.ensures in
    c.loop-byte.invariant ∙ unfinished_capture c.loop-byte.items.items c.loop-byte.scope c.loop-byte.cursor over open_yet

pub returns-clause-read : goal.returns-clause-read
returns-clause-read c =
    let over : c.loop-byte.cursor ≡ [] = c.in_default.ensures.0 in
    let closed : is_closed c.loop-byte.scope ≡ true = sym c.if-not-is_closed.ensures in
    c.loop-byte.invariant ∙ no_more_items c.loop-byte.items.items c.loop-byte.scope c.loop-byte.cursor over closed
