use Rattle.std.proofs.Common.{◌≡◌, ◌+◌, [], Some, arith, rules, sym, subst, true, false}
use Rattle.std.specs.Prelude.{◌*◌, pos}
use Rattle.instruction_forms.specs.Forms.{fills_behind}
use Rattle.code_core.specs.Check.{extra_at}
use Rattle.machine_core.specs.World.{Place}
use Rattle.machine_core.specs.FrameRows.{expand}
use Rattle.move_laws.specs.Memory.{IsSafe, Leads}
use Rattle.machine_rows.proofs.Going.{extra_is, has_extra}
use Rattle.machine_moves.specs.Ending.{ending_of}
use Rattle.machine_moves.proofs.OnTop.{if_ok}
use Rattle.machine_sound.proofs.Lists.{some_is}
use Rattle.machine_objects.proofs.Filled.{far_text, extra_small}
use Rattle.machine_objects.proofs.filling.fill_table.Goals as goal

pub extra_argument-more-requires-clause-there : goal.extra_argument-more-requires-clause-there
extra_argument-more-requires-clause-there c =
    let at = c.requires.at in
    let far : c.args.far ≡ true = search rules in
    let s = subst (λ b. IsSafe (expand (far_text at.place.function.code c.args.pc c.args.table c.args.count c.args.last b)) [] c.args.world.now) far (c.requires.safe at.place at.is) in
    record { place = at.place; is = at.is; there = has_extra at.place.function.code c.args.pc (λ ax. fills_behind c.args.table c.args.count (c.args.last + 256 * ax) (pos 2)) s }

pub fill_behind-requires-clause-stands : goal.fill_behind-requires-clause-stands
fill_behind-requires-clause-stands c = let r = c.requires.room in record { sound = c.requires.sound; at = c.requires.at; room = omega (arith, r) }

pub fill_behind-requires-clause-safe : goal.fill_behind-requires-clause-safe
fill_behind-requires-clause-safe c =
    let at = c.requires.at in
    let far : c.args.far ≡ false = search rules in
    subst (λ b. IsSafe (expand (far_text at.place.function.code c.args.pc c.args.table c.args.count c.args.last b)) [] c.args.world.now) far (c.requires.safe at.place at.is)

pub returns-then-not-far-clause-leads : goal.returns-then-not-far-clause-leads
returns-then-not-far-clause-leads c =
    let far : c.args.far ≡ false = search rules in
    if_ok c.fill_behind.result c.fill_behind.ensures.leads c.fill_behind.ensures.leads (λ ending l _ p is.
    subst (λ b. Leads (expand (far_text p.function.code c.args.pc c.args.table c.args.count c.args.last b)) [] c.args.world.now c.fill_behind.new.world (ending_of ending)) (sym far) l)

pub overflow_mul-list : goal.overflow_mul-list
overflow_mul-list c = let x = c.extra_argument-more.ensures in let s = extra_small x.place.function.code c.args.pc c.extra_argument-more.result x.extra in omega (arith, s)

pub overflow_add-list : goal.overflow_add-list
overflow_add-list c =
    let x = c.extra_argument-more.ensures in
    let s = extra_small x.place.function.code c.args.pc c.extra_argument-more.result x.extra in
    let l = c.requires.small in
    omega (arith, s, l)

pub fill_behind-requires-2-clause-stands : goal.fill_behind-requires-2-clause-stands
fill_behind-requires-2-clause-stands c = record { sound = c.requires.sound; at = c.requires.at; room = c.requires.room }

pub fill_behind-requires-2-clause-safe : goal.fill_behind-requires-2-clause-safe
fill_behind-requires-2-clause-safe c =
    let W = c.args.world.now in
    let x = c.extra_argument-more.ensures in
    let far : c.args.far ≡ true = search rules in
    let s = subst (λ b. IsSafe (expand (far_text x.place.function.code c.args.pc c.args.table c.args.count c.args.last b)) [] W) far (c.requires.safe x.place x.is) in
    subst (λ t. IsSafe (expand t) [] W) (extra_is x.place.function.code c.args.pc c.extra_argument-more.result (λ ax. fills_behind c.args.table c.args.count (c.args.last + 256 * ax) (pos 2)) x.extra) s

pub returns-clause-leads : goal.returns-clause-leads
returns-clause-leads c =
    let W = c.args.world.now in
    let x = c.extra_argument-more.ensures in
    let V = c.fill_behind-2.new.world in
    let far : c.args.far ≡ true = search rules in
    if_ok c.fill_behind-2.result c.fill_behind-2.ensures.leads c.fill_behind-2.ensures.leads (λ ending l _ p is.
    let e = subst (λ (p : Place). extra_at p.function.code c.args.pc ≡ Some c.extra_argument-more.result) (some_is x.is is) x.extra in
    subst (λ b. Leads (expand (far_text p.function.code c.args.pc c.args.table c.args.count c.args.last b)) [] W V (ending_of ending)) (sym far)
    (subst (λ t. Leads (expand t) [] W V (ending_of ending)) (sym (extra_is p.function.code c.args.pc c.extra_argument-more.result (λ ax. fills_behind c.args.table c.args.count (c.args.last + 256 * ax) (pos 2)) e)) l))
