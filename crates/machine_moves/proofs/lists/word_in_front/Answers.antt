use Rattle.std.proofs.Common.{◌≡◌, ◌<◌, ◌-◌, length, Some, ap, sym, ◌∙◌, arith, rules}
use Rattle.machine_sound.proofs.Lists.{get_within, some_is}
use Rattle.move_laws.proofs.Running.{has_stack, lua_top, of_top}
use Rattle.move_laws.proofs.Sounds.{sound_top}
use Rattle.machine_moves.proofs.Stacks.{got_there}
use Rattle.machine_moves.proofs.Ranges.{opens_there, front_kept}
use Rattle.machine_moves.proofs.lists.word_in_front.Goals as goal

pub running_stack-requires : goal.running_stack-requires
running_stack-requires c = has_stack c.args.world.now c.requires.there.place c.requires.there.is

pub pc-pc-requires : goal.pc-pc-requires
pc-pc-requires c = lua_top c.args.world.now c.running_stack.ensures.co c.running_stack.result.now c.requires.there.place c.running_stack.ensures.runs c.requires.there.is

pub code_on_top-requires : goal.code_on_top-requires
code_on_top-requires c = let d = c.requires.there in record { codes = c.requires.sound.order.codes; frame = record { place = d.place; is = d.is; checked = (sound_top d.place c.requires.sound d.is).checked } }

pub overflow_sub-pc : goal.overflow_sub-pc
overflow_sub-pc c =
    let d = c.requires.there in
    let o = (opens_there c.args.world.now 0 c.requires.sound d).opens.is in
    let e = of_top c.args.world.now c.running_stack.ensures.co c.running_stack.result.now d.place (λ f t. c.pc-pc.result ≡ t.own.pc) c.running_stack.ensures.runs d.is c.pc-pc.ensures in
    omega (arith, o, e)

pub index-requires : goal.index-requires
index-requires c =
    let d = c.requires.there in
    let e = of_top c.args.world.now c.running_stack.ensures.co c.running_stack.result.now d.place (λ f t. c.pc-pc.result ≡ t.own.pc) c.running_stack.ensures.runs d.is c.pc-pc.ensures in
    let k = front_kept c.args.world.now c.code_on_top.result.now c.pc-pc.result c.requires.sound d c.code_on_top.ensures e in
    let l : c.pc-pc.result - 1 < length c.code_on_top.result.now.words.items = get_within c.code_on_top.result.now.words.items (c.pc-pc.result - 1) k.0 k.1 in
    search rules

pub returns : goal.returns
returns c =
    let d = c.requires.there in
    let e = of_top c.args.world.now c.running_stack.ensures.co c.running_stack.result.now d.place (λ f t. c.pc-pc.result ≡ t.own.pc) c.running_stack.ensures.runs d.is c.pc-pc.ensures in
    let k = front_kept c.args.world.now c.code_on_top.result.now c.pc-pc.result c.requires.sound d c.code_on_top.ensures e in
    let l : c.pc-pc.result - 1 < length c.code_on_top.result.now.words.items = get_within c.code_on_top.result.now.words.items (c.pc-pc.result - 1) k.0 k.1 in
    let is = some_is (got_there c.code_on_top.result.now.words.items (c.pc-pc.result - 1) c.index.result.now l c.index.ensures) k.1 in
    record { place = d.place; is = d.is; there = k.2 ∙ ap (λ w. Some w) (sym is) }
