-- The line that was collected is the next one.
use Rattle.std.proofs.Common.{arith, ◌≡◌, ◌∷◌, ◌<◌, ◌++◌, ◌∙◌, sym, ap, true, false, length}
use Rattle.std.proofs.lemmas.Bool.Decides.{nat_tests}
use Rattle.std.specs.Option.{option_map}
use Rattle.std.specs.List.{slice_range}
use Rattle.io_edge.specs.Lines.{ahead, lines_of}
use Rattle.io_edge.proofs.PartLemmas.{same_line, takes_line}
use Rattle.io_edge.proofs.lines.LineReader.next_line.Goals as goal
use Rattle.io_edge.proofs.lines.LineReader.next_line.Goals.{else-not-ended-via-then-not-ended+else-is_empty, else-not-ended-via-else-not-ended}

pub returns-clause-line : goal.returns-clause-line
returns-clause-line g c =
    let line = c.collect_line.new.line.items in
    let some : c.in_ok-ended.ended ≡ false → 0 < length line = λ not_ended.
    elim c.else-not-ended.branch [ else-not-ended-via-then-not-ended+else-is_empty w ↦ grind (arith, nat_tests, c.collect_line.new.line.ok.0) | else-not-ended-via-else-not-ended w ↦ absurd (let both : true ≡ false = sym w.if-not-ended.false ∙ not_ended in cc) ] in
    let found : option_map lines_of (ahead c.args.self.now (g.S.Source.left c.args.source.now)) ≡ option_map (λ text. line ∷ lines_of text) (ahead c.collect_line.new.self (g.S.Source.left c.collect_line.new.source)) =
    takes_line line c.in_ok-ended.ended _ _ c.in_ok-ended.ensures.unbroken c.in_ok-ended.ensures.read c.in_ok-ended.ensures.end some in
    let left = g.S.Source.left c.collect_line.new.source in
    let pending : slice_range c.self-2.inside.buffer.items c.self-2.inside.start c.self-2.inside.end ≡ c.collect_line.new.self.pending = ap (λ reader. reader.pending) c.self-2.view_is in
    same_line (option_map lines_of (ahead c.args.self.now (g.S.Source.left c.args.source.now))) line c.of.result (ahead c.collect_line.new.self left) _ found c.of.ensures
    (ap (λ bytes. option_map (λ rest. bytes ++ rest) left) pending)
