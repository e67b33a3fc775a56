-- Each step reads one element.
use Rattle.std.proofs.Common.{◌≡◌, ◌<◌, ◌≤◌, ℕ, ◌+◌, ◌++◌, List, get_or, drop, length, sym, ap, ◌∙◌, subst, rules, arith, length-drop, drop-drop}
use Rattle.lua_lex.specs.declared.escape.Meaning.{Meaning}
use Rattle.lua_lex.specs.declared.quoted.Element.{Element}
use Rattle.lua_lex.specs.Strings.{element_of, meaning_bytes, IsEscape, Quoted}
use Rattle.lua_lex.proofs.StringLemmas.{IsPart, part_end, part_plain, part_escape, part_no_escape}
use Rattle.lua_lex.proofs.quoted.quoted.Goals as goal

here : (quote : ℕ) (text rest : List ℕ) (at : ℕ) (kind : Element) → rest ≡ drop at text → kind ≡ element_of quote rest → element_of quote (drop at text) ≡ kind
here quote text rest at kind is value = ap (element_of quote) (sym is) ∙ sym value

pub returns-in-Close-clause-found : goal.returns-in-Close-clause-found
returns-in-Close-clause-found c =
    let text = c.args.text.now in
    let quote = get_or text 0 0 in
    let at = c.loop-content.at in
    subst (λ t. Quoted quote (drop 1 text) c.loop-content.content.items t) (drop-drop 1 at text) (part_end quote (drop 1 text) c.loop-content.content.items (drop at text) c.loop-content.invariant.part (here quote text c.behind.result.now at _ c.behind.ensures c.in-Close.ensures.value))

pub loop-content-preserved-in-Plain : goal.loop-content-preserved-in-Plain
loop-content-preserved-in-Plain c =
    let text = c.args.text.now in
    let quote = get_or text 0 0 in
    let at = c.loop-content.at in
    let part = part_plain quote (drop 1 text) c.loop-content.content.items text at c.loop-content.invariant.part (here quote text c.behind.result.now at _ c.behind.ensures c.in-Plain.ensures.value) in
    let room : 0 < length c.behind.result.now = c.in-Plain.ensures.room (λ bad. cc) in
    record {
      moved = omega arith;
      in_range = omega (arith, room, ap length c.behind.ensures, length-drop at text);
      part = subst (λ items. IsPart quote (drop 1 text) items (drop (at + 1) text)) (sym c.in_ok-push-in-Plain.ensures.items) part;
    }

pub returns-in_default-clause-none : goal.returns-in_default-clause-none
returns-in_default-clause-none c =
    let text = c.args.text.now in
    let quote = get_or text 0 0 in
    let at = c.loop-content.at in
    let none : (meaning : Meaning) (rest : List ℕ) → IsEscape (drop (at + 1) text) meaning rest → ⊥ = subst (λ t. (meaning : Meaning) (rest : List ℕ) → IsEscape t meaning rest → ⊥) c.behind-in-Backslash.ensures c.in_default.ensures.none in
    part_no_escape quote (drop 1 text) c.loop-content.content.items text at c.loop-content.invariant.part (here quote text c.behind.result.now at _ c.behind.ensures c.in-Backslash.ensures.value) none

pub loop-content-preserved : goal.loop-content-preserved
loop-content-preserved c =
    let text = c.args.text.now in
    let quote = get_or text 0 0 in
    let at = c.loop-content.at in
    let len = c.in-Some.len in
    let meaning = c.in-Some.meaning in
    let found : IsEscape c.behind-in-Backslash.result.now meaning (drop len c.behind-in-Backslash.result.now) = search rules in
    let in_range : len ≤ length c.behind-in-Backslash.result.now = search rules in
    let escape : IsEscape (drop (at + 1) text) meaning (drop len (drop (at + 1) text)) = subst (λ t. IsEscape t meaning (drop len t)) c.behind-in-Backslash.ensures found in
    let part = part_escape quote (drop 1 text) c.loop-content.content.items text at len meaning c.loop-content.invariant.part (here quote text c.behind.result.now at _ c.behind.ensures c.in-Backslash.ensures.value) escape in
    let room : 0 < length c.behind.result.now = c.in-Backslash.ensures.room (λ bad. cc) in
    let items : c.push_meaning.new.out.items ≡ c.loop-content.content.items ++ meaning_bytes meaning = search rules in
    record {
      moved = omega arith;
      in_range = omega (arith, in_range, room, ap length c.behind.ensures, length-drop at text, ap length c.behind-in-Backslash.ensures, length-drop (at + 1) text);
      part = subst (λ items. IsPart quote (drop 1 text) items (drop (at + (1 + len)) text)) (sym items) part;
    }
