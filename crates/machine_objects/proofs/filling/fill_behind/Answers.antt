use Rattle.std.proofs.Common.{◌≡◌, ◌+◌, [], ◌∷◌, Some, None, ap, sym, subst, rules}
use Rattle.std.specs.Prelude.{pos}
use Rattle.int_core.specs.Value.{shape}
use Rattle.instruction_forms.specs.Forms.{fills_registers}
use Rattle.lua_heap.specs.declared.world.World.{World as Memory}
use Rattle.lua_heap.specs.Reading.{value as meant}
use Rattle.machine_core.specs.Text.{read_register}
use Rattle.machine_core.specs.FrameRows.{expand}
use Rattle.move_laws.specs.Memory.{IsSafe, Leads}
use Rattle.move_laws.proofs.Rows.{first, can_do, safe_after}
use Rattle.machine_moves.specs.Ending.{ending_of}
use Rattle.machine_objects.specs.Filling.{as_table}
use Rattle.machine_objects.proofs.Filled.{no_table, is_table}
use Rattle.machine_objects.proofs.OneByOne.{safe_at_once, leads_one_by_one}
use Rattle.machine_moves.proofs.OnTop.{if_ok, on_err}
use Rattle.machine_objects.proofs.filling.fill_behind.Goals as goal

pub read_register-filled-requires : goal.read_register-filled-requires
read_register-filled-requires c = can_do (read_register c.args.table) (λ t s. expand (fills_registers s t c.args.table c.args.list.count c.args.list.last (pos c.args.list.ahead))) c.requires.safe

pub refuse-requires-clause-frame : goal.refuse-requires-clause-frame
refuse-requires-clause-frame c = record { place = c.requires.stands.at.place; is = c.requires.stands.at.is }

pub fill_from-requires-clause-safe : goal.fill_from-requires-clause-safe
fill_from-requires-clause-safe c =
    let W = c.args.world.now in
    let s = safe_after (λ t s. expand (fills_registers s t c.args.table c.args.list.count c.args.list.last (pos c.args.list.ahead))) c.requires.safe (c.read_register-filled.ensures []) in
    let t : as_table c.read_register-filled.result ≡ Some c.in-Some.id = search rules in
    safe_at_once W c.in-Some.id.0 c.args.list.count (c.args.table + 1) c.args.list.last c.args.list.ahead
    (subst (λ v. IsSafe (expand (fills_registers (shape (meant W.strings v)) 0 c.args.table c.args.list.count c.args.list.last (pos c.args.list.ahead))) (meant W.strings v ∷ []) W) (is_table c.read_register-filled.result c.in-Some.id t) s)

pub returns-in_default-clause-leads : goal.returns-in_default-clause-leads
returns-in_default-clause-leads c =
    let W = c.args.world.now in
    let v = c.read_register-filled.result in
    let none : as_table v ≡ None = search rules in
    if_ok c.refuse.result c.refuse.ensures.leads c.refuse.ensures.leads (λ ending l _.
    first (λ t s. expand (fills_registers s t c.args.table c.args.list.count c.args.list.last (pos c.args.list.ahead))) (c.read_register-filled.ensures [])
    (subst (λ t. Leads (expand t) (meant W.strings v ∷ []) W c.refuse.new.world (ending_of ending)) (sym (no_table W.strings v c.args.table c.args.list.count c.args.list.last (pos c.args.list.ahead) none)) (l (meant W.strings v ∷ []))))

pub returns-clause-leads : goal.returns-clause-leads
returns-clause-leads c =
    let W = c.args.world.now in
    let v = c.read_register-filled.result in
    let t : as_table v ≡ Some c.in-Some.id = search rules in
    if_ok c.fill_from.result c.fill_from.ensures.leads c.fill_from.ensures.leads (λ ending l _.
    first (λ t s. expand (fills_registers s t c.args.table c.args.list.count c.args.list.last (pos c.args.list.ahead))) (c.read_register-filled.ensures [])
    (subst (λ v. Leads (expand (fills_registers (shape (meant W.strings v)) 0 c.args.table c.args.list.count c.args.list.last (pos c.args.list.ahead))) (meant W.strings v ∷ []) W c.fill_from.new.world (ending_of ending)) (sym (is_table v c.in-Some.id t))
    (leads_one_by_one W c.fill_from.new.world c.in-Some.id.0 c.args.list.count (c.args.table + 1) c.args.list.last c.args.list.ahead (ending_of ending) l)))

pub returns-in_default-clause-err : goal.returns-in_default-clause-err
returns-in_default-clause-err c = on_err c.refuse.result c.refuse.ensures.err (ap (λ (W : Memory). W.printed))
