use Rattle.std.proofs.Common.{◌≡◌, true, length, ◌∙◌, rules}
use Rattle.std.specs.Prelude.{nat_lt}
use Rattle.std.specs.List.{list_all}
use Rattle.std.proofs.lemmas.List.{length-map}
use Rattle.machine_sound.specs.Sound.{waits_at, waiting_size, kept_below}
use Rattle.image_records.specs.Views.{lua_frame, wait, item}
use Rattle.image_records.proofs.FrameFits.{fits_when}
use Rattle.image_records.proofs.fitting.fits_at.Goals as goal

pub returns : goal.returns
returns c =
    let f = c.args.frame.now in
    let waits : waits_at (wait f.wait) c.args.opcode c.args.word ≡ true = search rules in
    let size : length f.registers.items ≡ waiting_size (wait f.wait) c.args.word c.args.stack = search rules in
    let below : list_all (λ r. nat_lt r c.args.stack) f.pending.items ≡ true = search rules in
    let kept : c.all_below-2.result ≡ list_all (λ r. nat_lt r (kept_below (wait f.wait) c.args.word c.args.stack)) f.pending.items = search rules in
    fits_when (lua_frame f) c.args.stack c.args.word c.args.opcode c.all_below-2.result waits (length-map f.registers.items item ∙ size) below kept
