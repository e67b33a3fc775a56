-- A piece more is skipped.
use Rattle.std.proofs.Common.{sym, arith, drop, subst, drop-drop, length-drop, ap, length}
use Rattle.lua_lex.specs.Lexical.{Gap, nothing, piece, Skips}
use Rattle.lua_lex.proofs.gap.gap_len.Goals as goal

pub loop-piece-preserved : goal.loop-piece-preserved
loop-piece-preserved c =
    let text = c.args.text.now in
    let len = c.loop-piece.len in
    let more = c.in-Some.piece in
    let skips : Skips (drop len text) (drop more (drop len text)) = subst (λ t. Skips t (drop more t)) c.behind.ensures c.in-Some.ensures.found in
    record {
      in_range = omega (arith, c.in-Some.ensures.bound, ap length c.behind.ensures, length-drop len text);
      leads = λ rest gap. c.loop-piece.invariant.leads rest (piece skips (subst (λ t. Gap t rest) (sym (drop-drop more len text)) gap));
    }

pub returns-clause-skipped : goal.returns-clause-skipped
returns-clause-skipped c = c.loop-piece.invariant.leads (drop c.loop-piece.len c.args.text.now) nothing
