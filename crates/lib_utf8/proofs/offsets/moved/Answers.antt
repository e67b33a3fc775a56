use Rattle.std.proofs.Common.{◌≡◌, rules, pos, ap, true, sym, ◌∙◌}
use Rattle.library_rows.specs.Codepoints.{continues_at}
use Rattle.library_arguments.specs.Answers.{within_limit}
use Rattle.lib_utf8.proofs.Moves.{moved_inside}
use Rattle.lib_utf8.proofs.offsets.moved.Goals as goal

pub returns-then-continues_at : goal.returns-then-continues_at
returns-then-continues_at c =
    let inside : continues_at c.args.text.now c.args.at ≡ true = search rules in
    ap within_limit (moved_inside c.args.text.now c.args.many c.args.at (λ e. search (rules, e)) inside)
