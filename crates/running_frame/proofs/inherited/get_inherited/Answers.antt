use Rattle.std.proofs.Common.{◌+◌, ◌<◌, ap, length, subst, sym, ◌∙◌}
use Rattle.std.specs.Prelude.{slice_get}
use Rattle.machine_arms_tables.specs.Frame.{code}
use Rattle.running_frame.specs.Inheriting.{metatable_number, with_found}
use Rattle.running_frame.proofs.FoundFields.{finds_here, found_behind, found_goes, found_next, found_own}
use Rattle.running_frame.proofs.OnStack.{stays_so}
use Rattle.running_frame.proofs.inherited.get_inherited.Goals as goal

pub put_field-requires-clause-own : goal.put_field-requires-clause-own
put_field-requires-clause-own g c =
    let r = c.registers_mut-registers.result.now in
    let x = c.requires.0 in
    subst (λ n. n < length r) (sym c.a.ensures)
    (found_own g.g (code c.args.closure c.args.heap.strings.now) c.args.stack.now c.args.heap.tables.now.objects c.args.pc r c.registers_mut-registers.ensures.registers x.0 x.1.fuel x.1.runs c.args.receives c.args.i c.requires.1.1.0 c.requires.1.1.1)

pub put_field-requires-clause-behind : goal.put_field-requires-clause-behind
put_field-requires-clause-behind g c = λ yes.
    let r = c.registers_mut-registers.result.now in
    let x = c.requires.0 in
    subst (λ n. n + 1 < length r) (sym c.a.ensures)
    (found_behind g.g (code c.args.closure c.args.heap.strings.now) c.args.stack.now c.args.heap.tables.now.objects c.args.pc r c.registers_mut-registers.ensures.registers x.0 x.1.fuel x.1.runs c.args.receives c.args.i c.requires.1.1.0 c.requires.1.1.1 yes)

pub next-to-requires : goal.next-to-requires
next-to-requires g c =
    let r = c.registers_mut-registers.result.now in
    let x = c.requires.0 in
    found_next g.g (code c.args.closure c.args.heap.strings.now) c.args.stack.now c.args.heap.tables.now.objects c.args.pc r c.registers_mut-registers.ensures.registers x.0 x.1.fuel x.1.runs c.args.receives c.args.i c.requires.1.1.0 c.requires.1.1.1

pub set_pc-requires : goal.set_pc-requires
set_pc-requires g c = stays_so c.requires.0.1.runs c.registers_mut-registers.result.now c.put_field.new.registers c.registers_mut-registers.ensures.registers c.put_field.auto.registers

pub returns-clause-goes : goal.returns-clause-goes
returns-clause-goes g c =
    let k = code c.args.closure c.args.heap.strings.now in
    let r = c.registers_mut-registers.result.now in
    let ts = c.args.heap.tables.now.objects in
    let object = c.in_ok-object.object in
    let v = c.in_ok-v.v in
    let finds =
    finds_here g.g.around.texts c.args.heap.strings.now ts g.g.string_metatable (metatable_number c.args.heap.string_meta) object c.in_ok-key.key v c.requires.0.1.runs.may.closure.texts_are c.requires.1.0 c.in_ok-v.ensures in
    found_goes g.g k c.args.stack.now ts c.args.pc r c.registers_mut-registers.ensures.registers c.put_field.new.registers c.put_field.auto.registers c.next-to.result c.set_pc.new.self c.set_pc.ensures
    c.args.i c.requires.1.1.0 c.next-to.ensures c.registers.result.now c.registers.ensures object c.in_ok-key.key v
    (ap (slice_get c.registers.result.now) (sym c.b.ensures) ∙ sym c.in_ok-object.ensures) (ap (slice_get c.args.closure.constants.now) (sym c.c.ensures) ∙ sym c.in_ok-key.ensures) finds
    c.args.receives c.requires.1.1.1 (c.put_field.ensures ∙ ap (λ a. with_found c.args.receives a object v r) c.a.ensures)
