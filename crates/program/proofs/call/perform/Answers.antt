-- What arguments ask for is one thing.
use Rattle.std.proofs.Common.{rules, ◌≡◌, Option, Some, IfErr, map, string_bytes, subst}
use Rattle.command_words.specs.Kept.{asked}
use Rattle.command_words.specs.Words.{Command as Asked, IsAsked}
use Rattle.command_words.proofs.Asking.{asked_is_one}
use Rattle.source_builds.specs.Readings.{AsRead}
use Rattle.source_builds.proofs.Knowing.{read_all}
use Rattle.program.specs.Faults.{status_of}
use Rattle.program.specs.Program.{IsCall, IsUnread}
use Rattle.program.specs.Report.{FitsFor, LimitFitsFor}
use Rattle.program.proofs.call.perform.Goals as goal

pub returns-clause-call : goal.returns-clause-call
returns-clause-call g c command h =
    subst
    (λ (o : Option Asked).
    AsRead (λ builds. IsCall builds o (record { faults = g.F.Files.faults c.args.files.now; faults' = g.F.Files.faults c.carry_out.new.files; content = g.F.Files.held c.args.files.now; content' = g.F.Files.held c.carry_out.new.files })
    (record { faults = g.S.Source.faults c.args.input.now; faults' = g.S.Source.faults c.carry_out.new.input; content = g.S.Source.left c.args.input.now; content' = g.S.Source.left c.carry_out.new.input })
    (record { faults = g.K.Sink.faults c.args.out.now; faults' = g.K.Sink.faults c.carry_out.new.out; content = g.K.Sink.written c.args.out.now; content' = g.K.Sink.written c.carry_out.new.out }) c.carry_out.new.last (status_of c.carry_out.result)))
    (asked_is_one (map string_bytes c.args.words.now) (Some (asked c.in-Some.command)) command c.in-Some.ensures.command h) c.carry_out.ensures.call

pub returns-clause-fits : goal.returns-clause-fits
returns-clause-fits g c command h =
    subst (λ (o : Option Asked). IfErr c.carry_out.result (λ fault. FitsFor o (g.F.Files.held c.args.files.now) fault))
    (asked_is_one (map string_bytes c.args.words.now) (Some (asked c.in-Some.command)) command c.in-Some.ensures.command h) c.carry_out.ensures.fits

pub returns-clause-limits : goal.returns-clause-limits
returns-clause-limits g c command h =
    subst (λ (o : Option Asked). IfErr c.carry_out.result (λ fault. LimitFitsFor o (g.S.Source.left c.args.input.now) fault))
    (asked_is_one (map string_bytes c.args.words.now) (Some (asked c.in-Some.command)) command c.in-Some.ensures.command h) c.carry_out.ensures.limits

pub returns-clause-unread : goal.returns-clause-unread
returns-clause-unread g c command h =
    subst (λ (o : Option Asked). IsUnread o c.args.input.now c.carry_out.new.input)
    (asked_is_one (map string_bytes c.args.words.now) (Some (asked c.in-Some.command)) command c.in-Some.ensures.command h) c.carry_out.ensures.unread

pub returns-in_default-clause-call : goal.returns-in_default-clause-call
returns-in_default-clause-call g c command h = read_all (λ builds sources. search rules)
