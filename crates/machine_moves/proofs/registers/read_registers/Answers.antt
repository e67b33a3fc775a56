use Rattle.std.proofs.Common.{◌≡◌, [], ap, sym, ◌∙◌}
use Rattle.std.specs.Prelude.{map}
use Rattle.int_core.specs.Value.{range}
use Rattle.lua_heap.specs.Reading.{value as meant}
use Rattle.move_laws.proofs.Running.{has_stack, lua_top, of_top}
use Rattle.machine_moves.proofs.Ranges.{range_kept, registers_read, some_fit}
use Rattle.machine_moves.proofs.registers.read_registers.Goals as goal

pub running_stack-requires : goal.running_stack-requires
running_stack-requires c = has_stack c.args.world.now c.requires.place c.requires.is

pub registers-registers-requires : goal.registers-registers-requires
registers-registers-requires c = lua_top c.args.world.now c.running_stack.ensures.co c.running_stack.result.now c.requires.place c.running_stack.ensures.runs c.requires.is

pub returns-then-count-eq0 : goal.returns-then-count-eq0
returns-then-count-eq0 c = λ env.
    let none : c.args.count ≡ 0 = c.if-count-eq0.true in
    registers_read c.args.world.now c.args.from c.args.count [] env c.requires (ap (λ n. range c.args.from n c.requires.place.top.own.registers) none)

pub span-requires : goal.span-requires
span-requires c =
    let p = c.requires.place in
    let is = of_top c.args.world.now c.running_stack.ensures.co c.running_stack.result.now p (λ f t. map f c.registers-registers.result.now ≡ t.own.registers) c.running_stack.ensures.runs c.requires.is c.registers-registers.ensures in
    some_fit (meant c.args.world.now.strings) c.registers-registers.result.now p.top.own.registers c.args.from c.args.count is c.if-count-eq0.false c.requires.fits

pub returns : goal.returns
returns c = λ env.
    let p = c.requires.place in
    let f = meant c.args.world.now.strings in
    let is = of_top c.args.world.now c.running_stack.ensures.co c.running_stack.result.now p (λ f t. map f c.registers-registers.result.now ≡ t.own.registers) c.running_stack.ensures.runs c.requires.is c.registers-registers.ensures in
    let fits = some_fit f c.registers-registers.result.now p.top.own.registers c.args.from c.args.count is c.if-count-eq0.false c.requires.fits in
    registers_read c.args.world.now c.args.from c.args.count c.span.result.now env c.requires
    (range_kept f c.registers-registers.result.now p.top.own.registers c.args.from c.args.count is fits ∙ ap (map f) (sym c.span.ensures))
