-- A turn's end closes the run, or is a yield.
use Rattle.std.proofs.Common.{◌≡◌, ◌∙◌, ap, true, Some, None, refl}
use Rattle.list_laws.proofs.Items.{some_same}
use Rattle.machine_core.specs.Moves.{Ending, spent, main_yielded, main_returned, main_failed}
use Rattle.machine_runs.specs.Runs.{is_end, is_suspended}
use Rattle.lua_feed.specs.declared.feeding.Close.{Close as Kept}
use Rattle.lua_feed.specs.declared.feeding.Close.TheVariants.{Returned, Failed, Spent}
use Rattle.lua_feed.specs.Closes.{close_of, closing}

pub yields : (e : Ending) → is_end e ≡ true → closing e ≡ None → e ≡ main_yielded
yields main_yielded h c = refl
yields main_returned h c = absurd (cc)
yields main_failed h c = absurd (cc)
yields spent h c = absurd (cc)
yields _ h c = absurd (cc)

-- an end that no line follows is no suspension
pub ended_otherwise : (e : Ending) (k : Kept) → closing e ≡ Some k → close_of k ≡ is_suspended → ⊥
ended_otherwise main_returned k c s = let is = ap close_of (some_same Returned k c) ∙ s in absurd (cc)
ended_otherwise main_failed k c s = let is = ap close_of (some_same Failed k c) ∙ s in absurd (cc)
ended_otherwise spent k c s = let is = ap close_of (some_same Spent k c) ∙ s in absurd (cc)
ended_otherwise main_yielded k c s = absurd (cc)
ended_otherwise _ k c s = absurd (cc)
