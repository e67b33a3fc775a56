use Rattle.program.proofs.ReportLemmas.{reported, unreported}
use Rattle.program.proofs.call.luaris.Goals as goal

pub returns-in-Err-clause-reports : goal.returns-in-Err-clause-reports
returns-in-Err-clause-reports g c command h =
    reported command _ _ c.in-Err.fault _ _ _ _ _ c.report.result (c.in-Err.ensures.fits command h) (c.in-Err.ensures.limits command h) c.status.ensures c.report.ensures.cause c.report.ensures.written c.report.ensures.front

pub returns-in-Ok-clause-reports : goal.returns-in-Ok-clause-reports
returns-in-Ok-clause-reports g c command h = unreported command _ _ _ _ _ c.in-Ok.ensures.quiet
