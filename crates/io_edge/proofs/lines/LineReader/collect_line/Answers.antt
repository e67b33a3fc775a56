-- A line that grows past the limits begins the text.
use Rattle.std.proofs.Common.{rules, ◌≡◌, ◌<◌, length, ◌++◌, ◌∙◌, ℕ, sym, ap, subst, IfSome}
use Rattle.std.specs.Option.{option_map}
use Rattle.std.specs.Result.{IsErrOf}
use Rattle.io_edge.specs.Lines.{BeginsPastLimits, ahead}
use Rattle.io_edge.specs.declared.lines.LineFault.TheVariants.{Limit}
use Rattle.io_edge.proofs.PartLemmas.{begins_past}
use Rattle.io_edge.proofs.lines.LineReader.collect_line.Goals as goal

pub returns-in_err-take_part-clause-limit : goal.returns-in_err-take_part-clause-limit
returns-in_err-take_part-clause-limit g c = λ limit.
    let line = c.loop-self.line.items in
    let before = ahead c.args.self.now (g.S.Source.left c.args.source.now) in
    let refused : IsErrOf c.take_part.result Limit = search rules in
    let read : before ≡ option_map (λ text. line ++ text) (ahead c.fill.new.self (g.S.Source.left c.fill.new.source)) =
    c.loop-self.invariant.read ∙ ap (option_map (λ text. line ++ text)) (sym c.in_ok-fill.ensures.read) in
    let some : 0 < length c.fill.new.self.pending = search rules in
    let taken : c.fill.new.self.taken ≡ c.args.self.now.taken = search rules in
    let P : ℕ → Type 0 = λ taken. IfSome before (λ text. BeginsPastLimits taken text) in
    subst P taken (begins_past c.fill.new.self.taken before c.fill.new.self.pending line (g.S.Source.left c.fill.new.source) read
    c.loop-self.invariant.unbroken some (c.take_part.ensures.limit refused))
