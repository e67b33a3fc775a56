-- Each step reads one end of line and what stands up to the next.
use Rattle.std.proofs.Common.{◌≡◌, ◌<◌, ◌+◌, ◌++◌, ◌∷◌, [], get_or, take, drop, length, sym, ap, ◌∙◌, subst, arith, length-drop, zero-add}
use Rattle.std.specs.List.{position_or_len}
use Rattle.lua_lex.specs.Classes.{is_line_end, read_lines}
use Rattle.lua_lex.proofs.LineLemmas.{at_line_end, read_lines-plain, read_lines-step}
use Rattle.lua_lex.proofs.line.read_lines.Goals as goal

pub loop-at-init : goal.loop-at-init
loop-at-init c =
    let text = c.args.text.now in
    let at = c.in_ok-at.at in
    let len = c.in_ok-at.ensures.value in
    let items : c.push_line.new.out.items ≡ take at text = c.in_ok-at.ensures.pushed ∙ ap (λ l. l ++ take at text) c.new-out.ensures.items in
    record {
      in_range = c.in_ok-at.ensures.bound;
      at_end = λ h. ap (λ n. is_line_end (get_or text n 0)) (len ∙ sym (zero-add (position_or_len is_line_end text))) ∙ at_line_end text 0 (omega (arith, h, len));
      whole = ap (λ l. l ++ read_lines (drop at text)) items ∙ ap (λ n. take n text ++ read_lines (drop n text)) len ∙ sym (read_lines-plain text);
    }

pub loop-at-preserved : goal.loop-at-preserved
loop-at-preserved c =
    let text = c.args.text.now in
    let at = c.loop-at.at in
    let end = c.end_len.result in
    let next = at + end in
    let len : c.in_ok-at-2.field-0 ≡ position_or_len is_line_end (drop next text) = c.in_ok-at-2.ensures.value ∙ ap (position_or_len is_line_end) c.behind.ensures in
    let items : c.push_line-in-loop-at.new.out.items ≡ (c.loop-at.out.items ++ 10 ∷ []) ++ take c.in_ok-at-2.field-0 (drop next text) =
    c.in_ok-at-2.ensures.pushed ∙ ap (λ t. c.push.new.self.items ++ take c.in_ok-at-2.field-0 t) c.behind.ensures ∙ ap (λ l. l ++ take c.in_ok-at-2.field-0 (drop next text)) c.in_ok-push.ensures.items in
    record {
      in_range = omega (arith, c.in_ok-at-2.ensures.bound, ap length c.behind.ensures, length-drop next text, c.end_len.ensures.bound);
      at_end = λ h. ap (λ n. is_line_end (get_or text (next + n) 0)) len ∙ at_line_end text next (subst (λ n. next + n < length text) len h);
      whole = ap (λ l. l ++ read_lines (drop (next + c.in_ok-at-2.field-0) text)) items ∙ read_lines-step c.loop-at.out.items text at end c.in_ok-at-2.field-0 (c.loop-at.invariant.at_end c.loop-at-test.true) c.end_len.ensures.value len ∙ c.loop-at.invariant.whole;
    }
