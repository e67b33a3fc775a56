use Rattle.session_images.proofs.Loaded.{session_has_prelude}
use Rattle.session_images.proofs.Prelude.{opening_has_prelude, begun_has_prelude, keeps_functions}
use Rattle.session_images.proofs.law.worlds_have_the_prelude.Goals as goal

pub returns-clause-opening : goal.returns-clause-opening
returns-clause-opening c = opening_has_prelude

pub returns-clause-begun : goal.returns-clause-begun
returns-clause-begun c = begun_has_prelude

pub returns-clause-kept : goal.returns-clause-kept
returns-clause-kept c = keeps_functions

pub returns-clause-loaded : goal.returns-clause-loaded
returns-clause-loaded c = session_has_prelude
