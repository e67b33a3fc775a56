use Rattle.std.proofs.Common.{sym, subst}
use Rattle.lua_session.specs.Report.{HaveTexts}
use Rattle.lua_session.proofs.Lines.{text_at}
use Rattle.lua_session.proofs.reporting.line_of.Goals as goal

pub push_text-requires : goal.push_text-requires
push_text-requires c =
    text_at c.args.world.now.strings c.deref-v-items.result.now c.loop-v.v-index (subst (HaveTexts c.args.world.now.strings) (sym c.deref-v-items.ensures.value) c.requires)
