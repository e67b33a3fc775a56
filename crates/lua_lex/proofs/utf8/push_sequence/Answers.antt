use Rattle.std.proofs.Common.{◌∙◌, arith}
use Rattle.lua_lex.proofs.StringLemmas.{continuation-push}
use Rattle.lua_lex.proofs.utf8.push_sequence.Goals as goal

pub loop-place-preserved : goal.loop-place-preserved
loop-place-preserved c = continuation-push c.loop-place.out.items c.push-in-loop-place.new.self.items c.loop-place.place c.args.value (omega arith) c.in_ok-push-2.ensures.items ∙ c.loop-place.invariant
