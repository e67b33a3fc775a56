use Rattle.std.proofs.Common.{◌≡◌, true, false, sym, ap, ◌∙◌}
use Rattle.std.proofs.lemmas.Result.{on_ok_weaker}
use Rattle.code_emitter.specs.Listing.{listed}
use Rattle.code_stat.specs.Drafts.{drafted}
use Rattle.code_stat.proofs.writer.put_jump.Goals as goal

pub returns-then-closes : goal.returns-then-closes
returns-then-closes c = on_ok_weaker c.put_closing_jump.result (λ h. h ∙ ap (λ b. listed c.args.emitter.now (drafted b c.args.line)) (sym c.if-closes.true)) c.put_closing_jump.ensures

pub returns : goal.returns
returns c = on_ok_weaker c.put_jump_over.result (λ h. h ∙ ap (λ b. listed c.args.emitter.now (drafted b c.args.line)) (sym c.if-closes.false)) c.put_jump_over.ensures
