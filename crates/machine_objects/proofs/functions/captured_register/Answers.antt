use Rattle.std.proofs.Common.{◌≡◌, Some, ap, sym, ◌∙◌, rules}
use Rattle.std.specs.Prelude.{is_some}
use Rattle.machine_sound.proofs.Lists.{some_is}
use Rattle.table_core.specs.declared.value.CellId.{CellId}
use Rattle.move_laws.proofs.Running.{has_stack}
use Rattle.machine_objects.proofs.Found.{open_found}
use Rattle.machine_objects.proofs.functions.captured_register.Goals as goal

pub running_stack-requires : goal.running_stack-requires
running_stack-requires c = has_stack c.args.world.now c.requires.there.place c.requires.there.is

pub unwrap-requires : goal.unwrap-requires
unwrap-requires c =
    let k = open_found c.args.world.now c.running_stack.ensures.co c.running_stack.result.now c.args.register c.requires.order.listed c.running_stack.ensures.runs c.requires.there in
    ap is_some (c.find_cell.ensures ∙ k.found)

pub returns : goal.returns
returns c =
    let h = c.requires.there in
    let k = open_found c.args.world.now c.running_stack.ensures.co c.running_stack.result.now c.args.register c.requires.order.listed c.running_stack.ensures.runs h in
    let u : c.find_cell.result ≡ Some c.unwrap.result = search rules in
    let same : c.unwrap.result ≡ k.id = some_is u (c.find_cell.ensures ∙ k.found) in
    record { place = h.place; is = h.is; there = h.there ∙ ap (λ n. Some n) (sym (ap (λ (id : CellId). id.0) same ∙ k.same)) }
