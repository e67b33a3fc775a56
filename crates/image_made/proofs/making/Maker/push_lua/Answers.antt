use Rattle.std.proofs.Common.{◌≡◌, ◌≤◌, length, map, refl, sym, ap, ◌∙◌, subst, arith}
use Rattle.std.proofs.lemmas.List.{length-map}
use Rattle.image_records.specs.Views.{item, lua_frame}
use Rattle.image_made.specs.Making.{MakesAll}
use Rattle.image_made.specs.Stacks.{nils}
use Rattle.image_made.proofs.Tops.{put_top, put_room, put_changed, lua_pushed}
use Rattle.image_made.proofs.making.Maker.push_lua.Goals as goal

pub set_pc-requires : goal.set_pc-requires
set_pc-requires c = put_top c.args.stack.now c.enter.new.stack _ c.in_ok-enter.ensures

pub set_wait-requires : goal.set_wait-requires
set_wait-requires c = put_top c.args.stack.now c.set_pc.new.self _ (put_changed c.args.stack.now c.enter.new.stack _ c.in_ok-enter.ensures c.set_pc.new.self _ c.set_pc.ensures)

pub mark_all-requires : goal.mark_all-requires
mark_all-requires c =
    let paced = put_changed c.args.stack.now c.enter.new.stack _ c.in_ok-enter.ensures c.set_pc.new.self _ c.set_pc.ensures in
    let waits = put_changed c.args.stack.now c.set_pc.new.self _ paced c.set_wait.new.self _ c.set_wait.ensures in
    let registers = c.in_ok-registers.registers.items in
    let count : length registers ≡ length c.args.frame.now.registers.items = c.in_ok-registers.ensures.count ∙ length-map c.deref.result.now item ∙ ap length c.deref.ensures.value in
    let kept : length (map nils registers) ≡ length registers = length-map registers nils in
    let fits : c.len.result ≤ length (map nils registers) = omega (arith, count, kept) in
    put_room c.args.stack.now c.set_wait.new.self _ waits _ fits

pub returns : goal.returns
returns c =
    let paced = put_changed c.args.stack.now c.enter.new.stack _ c.in_ok-enter.ensures c.set_pc.new.self _ c.set_pc.ensures in
    let waits = put_changed c.args.stack.now c.set_pc.new.self _ paced c.set_wait.new.self _ c.set_wait.ensures in
    let marked = put_changed c.args.stack.now c.set_wait.new.self _ waits c.mark_all.new.stack _ c.in_ok-mark_all.ensures in
    let registers : MakesAll c.args.self.now c.args.strings.now (map item c.args.frame.now.registers.items) c.in_ok-registers.registers.items =
    subst (λ is. MakesAll c.args.self.now c.args.strings.now (map item is) c.in_ok-registers.registers.items) c.deref.ensures.value c.in_ok-registers.ensures in
    let varargs : MakesAll c.args.self.now c.args.strings.now (map item c.args.frame.now.varargs.items) c.in_ok-varargs.varargs.items =
    subst (λ is. MakesAll c.args.self.now c.args.strings.now (map item is) c.in_ok-varargs.varargs.items) c.deref-2.ensures.value c.in_ok-varargs.ensures in
    lua_pushed c.args.self.now c.args.strings.now (lua_frame c.args.frame.now) c.args.stack.now c.mark_all.new.stack c.function_of.result c.in_ok-function.function c.in_ok-wait.wait c.in_ok-registers.registers.items
    c.in_ok-varargs.varargs.items c.deref-3.result.now c.deref-4.result.now _ refl c.deref-3.ensures.value c.deref-4.ensures.value marked c.in_ok-function.ensures (c.function_of.ensures c.args.strings.now)
    c.in_ok-wait.ensures registers varargs (sym (length-map c.args.frame.now.registers.items item))
