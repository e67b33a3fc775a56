use Rattle.std.proofs.Common.{◌≡◌, rules, arith, refl, sym}
use Rattle.std.specs.Prelude.{slice_set}
use Rattle.int_core.specs.Value.{without_last}
use Rattle.lua_heap.specs.declared.world.World.{World as Memory}
use Rattle.lua_heap.proofs.Resumed.{coroutine_woken, goes_on, goes_on_past, nobody_goes_on}
use Rattle.lua_heap.proofs.world.World.back_to_resumer.Goals as goal

pub returns-then-co-len-clause-plain : goal.returns-then-co-len-clause-plain
returns-then-co-len-clause-plain c fuel =
    let W : Memory = c.args.self.now in
    let chain : c.pop.new.self.items ≡ without_last W.chain.items = search rules in
    let new : Memory = record W { coros = record W.coros { objects = slice_set W.coros.objects c.in-Some.co.0 c.wake.new.coro }; chain = c.pop.new.self } in
    goes_on W new fuel refl chain c.in-Some.co c.get_mut.result.now c.wake.new.coro (sym c.in-Some.ensures) c.get_mut.ensures.value (c.wake.ensures.runs W.strings) refl

pub returns-then-co-len-clause-listed : goal.returns-then-co-len-clause-listed
returns-then-co-len-clause-listed c a =
    coroutine_woken c.args.self.now.cells.objects c.args.self.now.coros.objects c.in-Some.co.0 c.get_mut.result.now c.wake.new.coro c.get_mut.ensures.value c.wake.ensures.cells a

pub returns-else-co-len-clause-plain : goal.returns-else-co-len-clause-plain
returns-else-co-len-clause-plain c fuel =
    let W : Memory = c.args.self.now in
    let chain : c.pop.new.self.items ≡ without_last W.chain.items = search rules in
    goes_on_past W (record W { chain = c.pop.new.self }) fuel refl chain c.in-Some.co (sym c.in-Some.ensures) (omega (arith, c.len.ensures, c.if-co-len.false)) refl

pub returns-in_default-clause-plain : goal.returns-in_default-clause-plain
returns-in_default-clause-plain c fuel =
    let W : Memory = c.args.self.now in
    let chain : c.pop.new.self.items ≡ without_last W.chain.items = search rules in
    nobody_goes_on W (record W { chain = c.pop.new.self }) fuel refl chain (sym c.in_default.ensures) refl
