use Rattle.calls_mean.proofs.Standing.{saved_images_stand}
use Rattle.calls_mean.proofs.law.saved_images_stand.Goals as goal

pub returns : goal.returns
returns c =
    saved_images_stand (record {
      read_back = c.images_are_read_back.ensures;
      stand = c.sessions_stand.ensures.stands;
      can = c.sessions_can_resume.ensures;
      goes_on = c.saved_sessions_go_on.ensures;
      safe = c.library_is_safe.ensures.loads;
      loading = record { safe = c.loading_is_safe.ensures.safe; falls = c.loading_is_safe.ensures.falls; silent = c.loading_is_safe.ensures.silent };
      loads = c.saved_sessions_load.ensures.run;
      onward = c.saved_sessions_load.ensures.goes_on;
      knows = c.the_reader_knows.ensures.libraries;
    })
