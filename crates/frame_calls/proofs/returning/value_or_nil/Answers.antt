use Rattle.std.proofs.Common.{sym, ◌∙◌}
use Rattle.machine_view.proofs.Rows.{nth_map}
use Rattle.frame_calls.proofs.Takers.{none_at}
use Rattle.frame_calls.proofs.returning.value_or_nil.Goals as goal

pub returns-in-Some : goal.returns-in-Some
returns-in-Some c = λ f z. nth_map f c.args.values.now c.args.at c.in-Some.value (sym c.register_of.ensures ∙ c.in-Some.is)

pub returns-in-None : goal.returns-in-None
returns-in-None c = λ f z. none_at f z c.args.values.now c.args.at (sym c.register_of.ensures ∙ c.in-None.is)
