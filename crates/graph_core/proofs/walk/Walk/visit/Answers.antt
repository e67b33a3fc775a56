use Rattle.std.proofs.Common.{◌≡◌, ◌≤◌, ◌+◌, ◌-◌, suc, List, [], Some, None, map, ap, sym, ◌∙◌, arith, rules}
use Rattle.std.specs.Prelude.{slice_get}
use Rattle.std.specs.Option.{option_map}
use Rattle.std.proofs.lemmas.Option.{slice_get_past}
use Rattle.image_core.specs.Visit.{add_new, visit, greatest_count}
use Rattle.image_core.specs.Records.{same_part, parts}
use Rattle.image_core.proofs.Visits.{none_past}
use Rattle.lua_stack.proofs.Pushed.{get_map}
use Rattle.lua_heap.specs.Plain.{plain}
use Rattle.graph_core.specs.declared.object.Object.{Object}
use Rattle.graph_core.specs.Objects.{part}
use Rattle.graph_core.specs.Walk.{name_in, inside_in}
use Rattle.graph_core.proofs.Framed.{roots_met, one_by_one}
use Rattle.graph_core.proofs.Visiting.{visit_step, visit_end}
use Rattle.graph_core.proofs.walk.Walk.visit.Goals as goal

pub loop-at-init : goal.loop-at-init
loop-at-init c fuel =
    let w = c.args.self.now in
    let P = parts (plain w.world.now fuel) (name_in w) (inside_in w) in
    ap (λ xs. visit same_part P greatest_count 0 xs)
    (c.in_ok-meet_all.ensures ∙ ap (λ (ks : List Object). add_new same_part (map part ks) (one_by_one w c.args.roots.now)) c.new-seen.ensures.empty ∙ ap (add_new same_part []) (roots_met w c.args.roots.now))

pub returns-in-None-clause-few : goal.returns-in-None-clause-few
returns-in-None-clause-few c =
    let at = c.loop-at.at in
    let keys = c.loop-at.seen.keys in
    let none : slice_get keys at ≡ None = search rules in
    let past = none_past keys at none in
    let least : at ≤ greatest_count = omega (arith, c.loop-at-test.true) in
    slice_get_past keys greatest_count (omega (arith, past, least))

pub returns-in-None-clause-visited : goal.returns-in-None-clause-visited
returns-in-None-clause-visited c fuel =
    let w = c.args.self.now in
    let at = c.loop-at.at in
    let keys = c.loop-at.seen.keys in
    let none : slice_get keys at ≡ None = search rules in
    sym (visit_end (parts (plain w.world.now fuel) (name_in w) (inside_in w)) (greatest_count - at) at (map part keys) (get_map part keys at ∙ ap (option_map part) none)) ∙ c.loop-at.invariant fuel

pub loop-at-preserved : goal.loop-at-preserved
loop-at-preserved c fuel =
    let w = c.args.self.now in
    let at = c.loop-at.at in
    let keys = c.loop-at.seen.keys in
    let P = parts (plain w.world.now fuel) (name_in w) (inside_in w) in
    let o = c.in-Some.object.now in
    let here : slice_get keys at ≡ Some o = search rules in
    let one : greatest_count - at ≡ suc (greatest_count - (at + 1)) = omega (arith, c.loop-at-test.true) in
    ap (visit same_part P (greatest_count - (at + 1)) (at + 1)) (c.in_ok-meet_parts.ensures fuel)
    ∙ (sym (visit_step P (greatest_count - at) (greatest_count - (at + 1)) at (part o) (map part keys) one (get_map part keys at ∙ ap (option_map part) here)) ∙ c.loop-at.invariant fuel)
