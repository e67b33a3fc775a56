use Rattle.sessions_mean.proofs.Meant.{LoadingStands}
use Rattle.calls_mean.proofs.Taken.{saved_is_not_refused, saved_goes_on}
use Rattle.calls_mean.proofs.Resumed.{resumes_as_meant}
use Rattle.calls_mean.proofs.Unchanged.{saved_is_unchanged}
use Rattle.calls_mean.proofs.law.saved_calls_resume.Goals as goal

pub returns-clause-taken : goal.returns-clause-taken
returns-clause-taken c =
    let load = c.saved_sessions_load.ensures in
    saved_is_not_refused c.prelude_is_alike.ensures c.code_of_sources_is_checked.ensures (record { safe = c.loading_is_safe.ensures.safe; falls = c.loading_is_safe.ensures.falls; silent = c.loading_is_safe.ensures.silent }) load.run load.onward

pub returns-clause-goes_on : goal.returns-clause-goes_on
returns-clause-goes_on c =
    let load = c.saved_sessions_load.ensures in
    saved_goes_on c.prelude_is_alike.ensures c.code_of_sources_is_checked.ensures (record { safe = c.loading_is_safe.ensures.safe; falls = c.loading_is_safe.ensures.falls; silent = c.loading_is_safe.ensures.silent }) load.run load.onward

pub returns-clause-unchanged : goal.returns-clause-unchanged
returns-clause-unchanged c =
    let loading : LoadingStands = record { safe = c.loading_is_safe.ensures.safe; falls = c.loading_is_safe.ensures.falls; silent = c.loading_is_safe.ensures.silent } in
    let keep = c.sessions_keep_the_prelude.ensures in
    saved_is_unchanged c.prelude_is_alike.ensures c.code_of_sources_is_checked.ensures loading c.runs_have_the_prelude.ensures.code keep.run keep.onward

pub returns-clause-meant : goal.returns-clause-meant
returns-clause-meant c =
    let load = c.saved_sessions_load.ensures in
    let keep = c.sessions_keep_the_prelude.ensures in
    let loading : LoadingStands = record { safe = c.loading_is_safe.ensures.safe; falls = c.loading_is_safe.ensures.falls; silent = c.loading_is_safe.ensures.silent } in
    resumes_as_meant (saved_goes_on c.prelude_is_alike.ensures c.code_of_sources_is_checked.ensures loading load.run load.onward)
    (saved_is_unchanged c.prelude_is_alike.ensures c.code_of_sources_is_checked.ensures loading c.runs_have_the_prelude.ensures.code keep.run keep.onward) c.calls_do_as_they_mean.ensures.means
