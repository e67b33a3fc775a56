use Rattle.std.proofs.Common.{◌≡◌, ◌+◌, ◌≤◌, [], ap, sym, ◌∙◌, arith, rules}
use Rattle.std.specs.Prelude.{map}
use Rattle.code_core.specs.Instruction.{a_of}
use Rattle.lua_heap.specs.Reading.{value as meant}
use Rattle.move_laws.proofs.Running.{has_stack, lua_top}
use Rattle.machine_moves.proofs.Ranges.{list_read, range_of, range_none, sees_list, within_kept}
use Rattle.machine_moves.proofs.lists.read_list.Goals as goal

pub word_in_front-front-requires-clause-there : goal.word_in_front-front-requires-clause-there
word_in_front-front-requires-clause-there c = let d = c.requires.there in record { place = d.place; is = d.is; fits = d.fits }

pub running_stack-stack-requires : goal.running_stack-stack-requires
running_stack-stack-requires c = has_stack c.args.world.now c.requires.there.place c.requires.there.is

pub registers-registers-requires : goal.registers-registers-requires
registers-registers-requires c = lua_top c.args.world.now c.running_stack-stack.ensures.co c.running_stack-stack.result.now c.requires.there.place c.running_stack-stack.ensures.runs c.requires.there.is

pub opened-requires : goal.opened-requires
opened-requires c = lua_top c.args.world.now c.running_stack-stack.ensures.co c.running_stack-stack.result.now c.requires.there.place c.running_stack-stack.ensures.runs c.requires.there.is

pub overflow_add-end : goal.overflow_add-end
overflow_add-end c =
    let a : c.from.result ≡ a_of c.word_in_front-front.result = search rules in
    let seen = sees_list c.from.result c.opened.result c.registers-registers.result.now c.requires.sound c.requires.there c.word_in_front-front.ensures c.running_stack-stack.ensures.runs a c.opened.ensures c.registers-registers.ensures in
    let l = within_kept c.requires.there.place (meant c.args.world.now.strings) c.registers-registers.result.now seen.kept seen.ends in
    search (arith, rules)

pub returns-then-end-from : goal.returns-then-end-from
returns-then-end-from c = λ env.
    let a : c.from.result ≡ a_of c.word_in_front-front.result = search rules in
    let seen = sees_list c.from.result c.opened.result c.registers-registers.result.now c.requires.sound c.requires.there c.word_in_front-front.ensures c.running_stack-stack.ensures.runs a c.opened.ensures c.registers-registers.ensures in
    let l : c.from.result + c.opened.result ≤ c.args.from = search (arith, rules) in
    list_read c.args.world.now c.args.from (c.from.result + c.opened.result) [] env c.requires.there seen.ends (range_none (c.from.result + c.opened.result) c.args.from c.requires.there.place.top.own.registers l)

pub span-requires : goal.span-requires
span-requires c =
    let a : c.from.result ≡ a_of c.word_in_front-front.result = search rules in
    let seen = sees_list c.from.result c.opened.result c.registers-registers.result.now c.requires.sound c.requires.there c.word_in_front-front.ensures c.running_stack-stack.ensures.runs a c.opened.ensures c.registers-registers.ensures in
    let l = within_kept c.requires.there.place (meant c.args.world.now.strings) c.registers-registers.result.now seen.kept seen.ends in
    let m : c.args.from ≤ c.from.result + c.opened.result = search (arith, rules) in
    omega (arith, l, m)

pub returns : goal.returns
returns c = λ env.
    let a : c.from.result ≡ a_of c.word_in_front-front.result = search rules in
    let seen = sees_list c.from.result c.opened.result c.registers-registers.result.now c.requires.sound c.requires.there c.word_in_front-front.ensures c.running_stack-stack.ensures.runs a c.opened.ensures c.registers-registers.ensures in
    let m : c.args.from ≤ c.from.result + c.opened.result = search (arith, rules) in
    list_read c.args.world.now c.args.from (c.from.result + c.opened.result) c.span.result.now env c.requires.there seen.ends
    (range_of (meant c.args.world.now.strings) c.registers-registers.result.now c.requires.there.place c.args.from (c.from.result + c.opened.result) seen.kept seen.ends m ∙ ap (map (meant c.args.world.now.strings)) (sym c.span.ensures))
