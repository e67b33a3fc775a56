use Rattle.std.proofs.Common.{sym, ap, ◌∙◌}
use Rattle.image_records.specs.Fits.{fits_at}
use Rattle.image_records.specs.Views.{lua_frame}
use Rattle.image_records.proofs.FrameFits.{fits_known, fits_no_opcode}
use Rattle.image_records.proofs.fitting.fits_code.Goals as goal

pub returns-in-Some-opcode : goal.returns-in-Some-opcode
returns-in-Some-opcode c =
    c.fits_at.ensures ∙ ap (λ s. fits_at (lua_frame c.args.frame.now) s c.in-Some.word c.in-Some-opcode.opcode) (ap (λ p. p.own.stack) c.proto.view_is)
    ∙ sym (fits_known (lua_frame c.args.frame.now) c.args.proto.now c.in-Some.word (sym c.in-Some.ensures) c.in-Some-opcode.opcode (sym c.in-Some-opcode.ensures))

pub returns-in-None : goal.returns-in-None
returns-in-None c = sym (fits_no_opcode (lua_frame c.args.frame.now) c.args.proto.now c.in-Some.word (sym c.in-Some.ensures) (sym c.in-None.ensures))
