use Rattle.std.proofs.Common.{◌≡◌, ap, sym, subst, ◌∙◌, arith, refl, rules, true}
use Rattle.std.specs.Prelude.{slice_set}
use Rattle.code_core.specs.Instruction.{a_of, b_of, opcode_of}
use Rattle.machine_arms_tables.specs.Frame.{code}
use Rattle.machine_view.proofs.Places.{next_there, register_there}
use Rattle.running_frame.specs.Upvalues.{StandsOpen}
use Rattle.running_frame.proofs.OnStack.{place_within, stays_so}
use Rattle.running_frame.proofs.OpenRead.{lists_open, read_at, read_goes, read_is}
use Rattle.running_frame.proofs.upvalues.read_open.Goals as goal

pub fetch-i-requires : goal.fetch-i-requires
fetch-i-requires g c = place_within c.requires.0.1.runs

pub open_value-requires : goal.open_value-requires
open_value-requires g c = lists_open c.args.co.0 c.requires.1 c.requires.0.1.runs

pub put-requires : goal.put-requires
put-requires g c =
    let yes : c.is_read.result ≡ true = search rules in
    let at = read_at g.g (code c.args.closure g.g.around.texts) c.args.stack.now c.args.cells.now.objects c.args.pc c.registers_mut-registers.result.now c.registers_mut-registers.ensures.registers c.requires.0.0 c.requires.0.1.fuel c.requires.0.1.runs c.fetch-i.result c.fetch-i.ensures (read_is (opcode_of c.fetch-i.result) (sym c.is_read.ensures ∙ yes)) in
    let l = register_there at 0 (a_of c.fetch-i.result) refl in
    let e = c.a.ensures in
    omega (arith, l, e)

pub next-to-requires : goal.next-to-requires
next-to-requires g c =
    let yes : c.is_read.result ≡ true = search rules in
    next_there (read_at g.g (code c.args.closure g.g.around.texts) c.args.stack.now c.args.cells.now.objects c.args.pc c.registers_mut-registers.result.now c.registers_mut-registers.ensures.registers c.requires.0.0 c.requires.0.1.fuel c.requires.0.1.runs c.fetch-i.result c.fetch-i.ensures (read_is (opcode_of c.fetch-i.result) (sym c.is_read.ensures ∙ yes))) refl

pub set_pc-requires : goal.set_pc-requires
set_pc-requires g c = stays_so c.requires.0.1.runs c.registers_mut-registers.result.now c.put.new.registers c.registers_mut-registers.ensures.registers c.put.auto.registers

pub returns-clause-goes : goal.returns-clause-goes
returns-clause-goes g c =
    let yes : c.is_read.result ≡ true = search rules in
    let k = code c.args.closure g.g.around.texts in
    let r = c.registers_mut-registers.result.now in
    let v = c.in_ok-value.value in
    let stands = subst (λ n. StandsOpen n k.upvalues c.args.stack.now c.args.cells.now.objects (b_of c.fetch-i.result) v) c.requires.1
    (subst (λ n. StandsOpen c.args.co.0 k.upvalues c.args.stack.now c.args.cells.now.objects n v) c.b.ensures c.in_ok-value.ensures) in
    read_goes g.g k c.args.stack.now c.args.cells.now.objects c.args.pc r c.registers_mut-registers.ensures.registers c.fetch-i.result c.fetch-i.ensures (read_is (opcode_of c.fetch-i.result) (sym c.is_read.ensures ∙ yes)) v stands
    c.put.new.registers (c.put.ensures ∙ ap (λ a. slice_set r a v) c.a.ensures) c.put.auto.registers c.next-to.result c.next-to.ensures c.set_pc.new.self c.set_pc.ensures
