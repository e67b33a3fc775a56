use Rattle.std.proofs.Common.{◌<◌, length, Some, ap, sym, ◌∙◌, arith, rules}
use Rattle.machine_sound.proofs.Lists.{some_is}
use Rattle.machine_moves.proofs.Stacks.{got_there}
use Rattle.running_frame.proofs.Words.{word_kept, word_within, few_words}
use Rattle.running_frame.proofs.place.word_at.Goals as goal

pub code_on_top-requires-clause-frame : goal.code_on_top-requires-clause-frame
code_on_top-requires-clause-frame c = let h = c.requires.there in record { place = h.place; is = h.is; checked = h.checked }

pub index-requires : goal.index-requires
index-requires c =
    let l : c.args.pc < length c.code_on_top.result.now.words.items = word_within c.requires.there c.code_on_top.ensures in
    search rules

pub returns : goal.returns
returns c =
    let h = c.requires.there in
    let l = word_within h c.code_on_top.ensures in
    let f = few_words c.code_on_top.result.now in
    let is = some_is (got_there c.code_on_top.result.now.words.items c.args.pc c.index.result.now l c.index.ensures) (word_kept h c.code_on_top.ensures) in
    record { place = h.place; is = h.is; at_pc = h.at_pc; there = h.there ∙ ap (λ w. Some w) (sym is); near = omega (arith, l, f) }
