use Rattle.std.proofs.Common.{rules}
use Rattle.eris_write.specs.Refusals.{shown}
use Rattle.eris_write.proofs.Numbered.{no_coroutine, coroutine_there}
use Rattle.eris_write.proofs.writer.Writer.coroutine_refusal.Goals as goal

pub returns-then-id-len : goal.returns-then-id-len
returns-then-id-len c = no_coroutine c.args.self.now.world.now.strings c.args.self.now.world.now.coros.objects c.args.id.0 (search rules)

pub returns : goal.returns
returns c =
    coroutine_there c.args.self.now.world.now.strings c.args.self.now.world.now.coros.objects c.args.id.0 c.get.result.now (shown c.refusal_of.result) c.get.ensures (c.refusal_of.ensures c.args.self.now.world.now.strings)
