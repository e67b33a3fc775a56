use Rattle.std.proofs.Common.{◌≡◌, ◌≤◌, ℕ, List, length, arith, ap, sym, subst, ◌∙◌}
use Rattle.lua_heap.specs.declared.world.World.{World as Memory}
use Rattle.image_made.specs.declared.stack.Opening.{Opening}
use Rattle.image_placed.specs.Placing.{AreAll}
use Rattle.image_placed.proofs.ObjectsPlaced.{all_placed, all_are_listed}
use Rattle.image_placed.proofs.placing.place_all.Goals as goal

pub returns-clause-placed : goal.returns-clause-placed
returns-clause-placed c =
    all_placed c.args.maker.now c.args.parts.now c.deref.result.now c.in_ok-at.at c.args.world.now c.place_objects.new.world c.place_coroutines.new.world c.in_ok-place_objects.ensures.placed c.in_ok-at.ensures.placed

pub returns-clause-listed : goal.returns-clause-listed
returns-clause-listed c =
    let a : Memory = c.args.world.now in
    let b : Memory = c.place_objects.new.world in
    let os : List Opening = c.deref.result.now in
    let all : AreAll b.cells.objects (length a.cells.objects) (length b.cells.objects) os =
    subst (AreAll b.cells.objects (length a.cells.objects) (length b.cells.objects)) (sym c.deref.ensures.value)
    (subst (λ n. AreAll b.cells.objects n (length b.cells.objects) c.in_ok-openings.openings.items) c.len-first.ensures c.in_ok-openings.ensures) in
    let l : length os ≤ c.in_ok-at.at = omega (arith, c.len.ensures, c.if-at-len.false, ap length c.deref.ensures.value) in
    all_are_listed c.args.maker.now c.args.parts.now os c.in_ok-at.at a b c.place_coroutines.new.world c.in_ok-place_objects.ensures.placed c.in_ok-at.ensures.placed c.requires all l
