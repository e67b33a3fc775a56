use Rattle.std.proofs.Common.{◌≡◌, Option, ℕ, length, rules, arith, ap, sym, ◌∙◌}
use Rattle.int_core.specs.Value.{bind}
use Rattle.table_core.specs.declared.value.FuncId.{FuncId}
use Rattle.lua_heap.specs.Places.{place_in}
use Rattle.lua_heap.proofs.Placed.{no_place, proto_checked}
use Rattle.lua_heap.proofs.world.World.position_of.Goals as goal

pub returns-then-code-len : goal.returns-then-code-len
returns-then-code-len c =
    let count : c.len-2.result ≡ length c.args.self.now.codes.list.items = search rules in
    no_place c.args.self.now c.in_ok-function.function c.in_ok-function.pc c.get.result.now c.requires c.get.ensures (omega (arith, count, c.if-code-len.true))
    ∙ sym (ap (λ (o : Option (FuncId × ℕ)). bind o (place_in c.args.self.now)) c.in_ok-function.was)

pub position_in-requires : goal.position_in-requires
position_in-requires c =
    let count : c.len-2.result ≡ length c.args.self.now.codes.list.items = search rules in
    proto_checked c.args.self.now.strings c.args.self.now.codes _ c.proto.result.now c.requires c.proto.ensures (omega (arith, count, c.if-code-len.false))
