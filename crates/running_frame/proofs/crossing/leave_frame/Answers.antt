use Rattle.std.proofs.Common.{◌≡◌, inl, inr, refl, subst, ◌∙◌}
use Rattle.std.proofs.lemmas.Option.{IfSome_then}
use Rattle.lua_stack.specs.Frames.{KeptStack}
use Rattle.frame_calls.specs.Crossing.{CrossesAt}
use Rattle.frame_calls.proofs.Takers.{none_then, still_may}
use Rattle.running_frame.proofs.crossing.leave_frame.Goals as goal

pub store_open-requires-clause-top : goal.store_open-requires-clause-top
store_open-requires-clause-top c = c.requires.may.top

pub returns-in-Some-clause-leaves : goal.returns-in-Some-clause-leaves
returns-in-Some-clause-leaves c = inr (c.in-Some.ensures.stores, refl)

pub cross_over_at-requires : goal.cross_over_at-requires
cross_over_at-requires c = still_may c.in-None.ensures.kept c.requires.may

pub returns-in-None-clause-leaves : goal.returns-in-None-clause-leaves
returns-in-None-clause-leaves c =
    IfSome_then c.cross_over_at.result c.cross_over_at.ensures.crosses
    (λ o x. inl (subst (λ (s : KeptStack). CrossesAt s c.cross_over_at.new.stack c.args.stop c.args.budget.now c.cross_over_at.new.budget) c.in-None.ensures.kept x))

pub returns-in-None-clause-kept : goal.returns-in-None-clause-kept
returns-in-None-clause-kept c =
    none_then c.cross_over_at.result
    (λ (e : (c.cross_over_at.new.stack ≡ c.store_open.new.stack) × (c.cross_over_at.new.budget ≡ c.args.budget.now)). (e.0 ∙ c.in-None.ensures.kept, e.1)) c.cross_over_at.ensures.kept

pub returns-in-None-clause-listed : goal.returns-in-None-clause-listed
returns-in-None-clause-listed c = c.cross_over_at.ensures.listed ∙ c.store_open.ensures.listed
