use Rattle.std.proofs.Common.{ap, refl, sym, subst, ◌∙◌}
use Rattle.lua_stack.specs.Frames.{HasLuaTop, KeptStack}
use Rattle.frame_calls.proofs.Takers.{crosses_still, kept_still}
use Rattle.frame_calls.proofs.crossing.cross_there.Goals as goal

pub closed_from-closed-requires : goal.closed_from-closed-requires
closed_from-closed-requires c = c.requires.top

pub cross-requires : goal.cross-requires
cross-requires c = record { top = subst HasLuaTop (sym c.closed_from-closed.ensures.kept) c.requires.top; codes = c.requires.codes; closed = c.closed_from-closed.ensures.closed }

pub returns-clause-crosses : goal.returns-clause-crosses
returns-clause-crosses c = crosses_still c.cross.new.stack c.cross.new.budget c.cross.result c.closed_from-closed.ensures.kept refl c.args.stop.now c.cross.ensures.crosses

pub returns-clause-kept : goal.returns-clause-kept
returns-clause-kept c = kept_still c.cross.new.stack c.cross.new.budget c.cross.result c.closed_from-closed.ensures.kept refl c.cross.ensures.kept

pub returns-clause-listed : goal.returns-clause-listed
returns-clause-listed c = c.cross.ensures.listed ∙ ap (λ (s : KeptStack). s.open_cells) c.closed_from-closed.ensures.kept
