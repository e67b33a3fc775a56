-- Each step passes one end of line and what stands up to the next.
use Rattle.std.proofs.Common.{◌≡◌, ◌<◌, ◌+◌, get_or, drop, length, sym, ap, ◌∙◌, subst, arith, get_or-drop, drop-drop, length-drop, add-zero, zero-add}
use Rattle.std.specs.List.{position_or_len}
use Rattle.lua_lex.specs.Classes.{is_line_end, end_len, line_ends}
use Rattle.lua_lex.proofs.LineLemmas.{line_ends-end, line_ends-plain, at_line_end}
use Rattle.lua_lex.proofs.line.found_line_ends.Goals as goal

pub loop-at-init : goal.loop-at-init
loop-at-init c =
    let text = c.args.text.now in
    record {
      in_range = c.line_len-at.ensures.bound;
      count = omega arith;
      at_end = λ h. ap (λ n. is_line_end (get_or text n 0)) (c.line_len-at.ensures.value ∙ sym (zero-add (position_or_len is_line_end text))) ∙ at_line_end text 0 (omega (arith, c.line_len-at.ensures.value));
      whole = zero-add (line_ends (drop c.line_len-at.result text)) ∙ ap (λ n. line_ends (drop n text)) c.line_len-at.ensures.value ∙ line_ends-plain text;
    }

pub loop-at-preserved : goal.loop-at-preserved
loop-at-preserved c =
    let text = c.args.text.now in
    let at = c.loop-at.at in
    let first : get_or (drop at text) 0 0 ≡ get_or text at 0 = get_or-drop at text 0 0 ∙ ap (λ i. get_or text i 0) (add-zero at) in
    let step = line_ends-end (drop at text) (ap is_line_end first ∙ c.loop-at.invariant.at_end c.loop-at-test.true) in
    let next = at + c.end_len-at.result in
    let after : drop (end_len (drop at text)) (drop at text) ≡ drop next text = drop-drop (end_len (drop at text)) at text ∙ ap (λ n. drop (at + n) text) (sym c.end_len-at.ensures.value) in
    let counted = ap line_ends after in
    let len : c.line_len-at-in-loop-at.result ≡ position_or_len is_line_end (drop next text) = c.line_len-at-in-loop-at.ensures.value ∙ ap (position_or_len is_line_end) c.behind.ensures in
    let plain = line_ends-plain (drop next text) in
    let moved : drop (position_or_len is_line_end (drop next text)) (drop next text) ≡ drop (next + c.line_len-at-in-loop-at.result) text = drop-drop (position_or_len is_line_end (drop next text)) next text ∙ ap (λ n. drop (next + n) text) (sym len) in
    let moved_count = ap line_ends moved in
    record {
      in_range = omega (arith, c.line_len-at-in-loop-at.ensures.bound, ap length c.behind.ensures, length-drop next text, c.end_len-at.ensures.bound);
      count = omega (arith, c.end_len-at.ensures.moves, c.loop-at.invariant.count);
      at_end = λ h. ap (λ n. is_line_end (get_or text (next + n) 0)) len ∙ at_line_end text next (subst (λ n. next + n < length text) len h);
      whole = omega (arith, step, counted, plain, moved_count, c.loop-at.invariant.whole);
    }
