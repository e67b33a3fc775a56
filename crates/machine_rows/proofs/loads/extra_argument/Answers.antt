use Rattle.std.proofs.Common.{◌<◌, ◌+◌, length, Some, ap, sym, ◌∙◌, rules}
use Rattle.code_core.specs.Instruction.{ax_of}
use Rattle.machine_sound.proofs.Lists.{get_within, some_is}
use Rattle.move_laws.proofs.Sounds.{sound_top}
use Rattle.machine_moves.proofs.Stacks.{got_there}
use Rattle.machine_rows.proofs.Extra.{extra_kept}
use Rattle.machine_rows.proofs.loads.extra_argument.Goals as goal

pub code_on_top-requires : goal.code_on_top-requires
code_on_top-requires c = let h = c.requires.there in record { codes = c.requires.sound.order.codes; frame = record { place = h.place; is = h.is; checked = (sound_top h.place c.requires.sound h.is).checked } }

pub index-requires : goal.index-requires
index-requires c =
    let k = extra_kept c.args.world.now c.code_on_top.result.now c.args.pc c.requires.there c.code_on_top.ensures in
    let l : c.args.pc + 1 < length c.code_on_top.result.now.words.items = get_within c.code_on_top.result.now.words.items (c.args.pc + 1) k.0 k.1 in
    search rules

pub returns : goal.returns
returns c =
    let h = c.requires.there in
    let k = extra_kept c.args.world.now c.code_on_top.result.now c.args.pc h c.code_on_top.ensures in
    let l : c.args.pc + 1 < length c.code_on_top.result.now.words.items = get_within c.code_on_top.result.now.words.items (c.args.pc + 1) k.0 k.1 in
    let is = some_is (got_there c.code_on_top.result.now.words.items (c.args.pc + 1) c.index.result.now l c.index.ensures) k.1 in
    record { place = h.place; is = h.is; extra = k.2 ∙ ap (λ w. Some (ax_of w)) (sym is) ∙ ap (λ n. Some n) (sym c.ax.ensures) }
